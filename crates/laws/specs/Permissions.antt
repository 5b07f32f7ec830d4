-- Laws of what the rules leave to all but strangers.
use Rattle.std.specs.Prelude.{◌≡◌, ℕ, true, false, List, Option, Some, None, is_some, IsTrue, IsFalse}
use Rattle.std.specs.List.{list_any}
use Rattle.policy.specs.Settings.{Settings}
use Rattle.policy.specs.Caller.{Caller}
use Rattle.policy.specs.Class.{class_of}
use Rattle.policy.specs.Rules.{is_stranger}
use Rattle.policy.specs.declared.kinds.Rule.TheVariants.{NoIgnoreLiveness}
use Rattle.model.specs.World.{Path, World}
use Rattle.model.specs.Request.{Imported, Request, add_text, add_source, import_object, collect, delete}
use Rattle.model.specs.Liveness.{lives}
use Rattle.model.specs.Verdict.{verdict}
use Rattle.laws.specs.ReadOnly.{OnlyReads}

-- nobody may ask that liveness is ignored, not even a trusted caller: a stranger is denied anyway
pub record MayNotIgnoreLiveness (s : Settings) (w : World) (c : Caller) : Type 0 where
  pub collect_ : (limit : Option ℕ) → verdict s w c (collect true limit) ≡ Some NoIgnoreLiveness
  pub delete_ : (named : List Path) → verdict s w c (delete named true) ≡ Some NoIgnoreLiveness

abbrev pub NobodyIgnoresLiveness : Type 0
NobodyIgnoresLiveness =
    (s : Settings) (w : World) (c : Caller) → IsFalse (is_stranger (class_of s c)) → MayNotIgnoreLiveness s w c

-- what each caller but a stranger may ask: to add a text, a source, or an object that has an address; each request
-- that only reads; to collect; and to delete paths of which none lives
pub record MayAsk (s : Settings) (w : World) (c : Caller) : Type 0 where
  pub text : (name : List ℕ) (refs : List Path) (contents : List ℕ) → verdict s w c (add_text name refs contents) ≡ None
  pub source : (name : List ℕ) (refs : List Path) (b : List ℕ) → verdict s w c (add_source name refs b) ≡ None
  pub import : (i : Imported) → IsTrue (is_some i.ca) → verdict s w c (import_object i) ≡ None
  pub reads : (q : Request) → OnlyReads q → verdict s w c q ≡ None
  pub collect_ : (limit : Option ℕ) → verdict s w c (collect false limit) ≡ None
  pub delete_ : (named : List Path) → list_any (lives s w) named ≡ false → verdict s w c (delete named false) ≡ None

abbrev pub AllMayAsk : Type 0
AllMayAsk = (s : Settings) (w : World) (c : Caller) → IsFalse (is_stranger (class_of s c)) → MayAsk s w c
