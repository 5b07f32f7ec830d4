-- A denial for a live path is for the first of the named that lives.
use Rattle.std.proofs.Common.{◌≡◌, List, [], ◌∷◌, ◌++◌, Bool, true, false, ◌&&◌, ◌||◌, not, cond, Some, None, Option}
use Rattle.std.proofs.Common.{option_map, refl, sym, ap, ◌∙◌, IsTrue}
use Rattle.std.specs.Prelude.{IfSome, IsSome, Contains}
use Rattle.std.specs.List.{list_any, find}
use Rattle.std.proofs.lemmas.Bool.{false≢true, false_from_ne_true}
use Rattle.paths.specs.Root.{Root}
use Rattle.live.specs.Live.{first_root, IsFirstRoot}
use Rattle.live.proofs.Members.{found, any_from}
use Rattle.policy.specs.Settings.{Settings}
use Rattle.policy.specs.Caller.{Caller}
use Rattle.policy.specs.Class.{class_of}
use Rattle.policy.specs.Rules.{rules, allows}
use Rattle.policy.specs.declared.kinds.Rule.{Rule}
use Rattle.policy.specs.declared.kinds.Rule.TheVariants.{Live}
use Rattle.model.specs.World.{Path, World, roots_of}
use Rattle.model.specs.Request.{Request, delete}
use Rattle.model.specs.Liveness.{graph_of, keep_of, lives}
use Rattle.model.specs.Seen.{seen_root}
use Rattle.model.specs.Verdict.{named_in, operation_of, root_of_first, verdict}
use Rattle.laws.specs.Laws.{DenialsNameTheLiving, NamesTheLiving}
use Rattle.laws.specs.Reasons.{DenialsAreForTheFirst}
use Rattle.model.proofs.WorldLives.{as_said}

-- a list by the first that passes a test
record First (p : Path → Bool) (xs : List Path) : Type 0 where
  before : List Path
  here : Path
  after : List Path
  split : xs ≡ before ++ here ∷ after
  none : list_any p before ≡ false
  passes : IsTrue (p here)
  is_found : find p xs ≡ Some here

first_of : (p : Path → Bool) (xs : List Path) → IsTrue (list_any p xs) → First p xs
first_of p [] h = absurd (false≢true h)
first_of p (x ∷ xs) h = by (p x) refl (λ later. first_of p xs later)
  where
    by : (b : Bool) → p x ≡ b → (IsTrue (list_any p xs) → First p xs) → First p (x ∷ xs)
    by true e more = record {
      before = [];
      here = x;
      after = xs;
      split = refl;
      none = refl;
      passes = e;
      is_found = ap (λ b. cond b (Some x) (find p xs)) e;
    }
    by false e more =
        let rest = more (sym (ap (λ b. b || list_any p xs) e) ∙ h) in record {
          before = x ∷ rest.before;
          here = rest.here;
          after = rest.after;
          split = ap (λ ys. x ∷ ys) rest.split;
          none = ap (λ b. b || list_any p rest.before) e ∙ rest.none;
          passes = rest.passes;
          is_found = ap (λ b. cond b (Some x) (find p xs)) e ∙ rest.is_found;
        }

left_of : (a b : Bool) → IsTrue (not (not (a && b))) → IsTrue a
left_of true b h = refl
left_of false b h = absurd (false≢true h)

module _ (s : Settings) (w : World) (c : Caller) (q : Request) (v : verdict s w c q ≡ Some Live) where
  one_lives : IsTrue (list_any (lives s w) (named_in q))
  one_lives =
      left_of _ _ (found (λ (rule : Rule). not
      (allows (class_of s c) c (operation_of q) (list_any (lives s w) (named_in q)) rule)) rules Live v).1

  with_root : (f : First (lives s w) (named_in q)) (o : Option Root)
      → first_root (keep_of s) (graph_of w) (roots_of w) f.here ≡ o → IsSome o
      → IfSome o (λ r. IsFirstRoot (keep_of s) (graph_of w) (roots_of w) f.here r) → NamesTheLiving s w c q
  with_root f (Some r) e some first = record {
    before = f.before;
    path = f.here;
    after = f.after;
    named = f.split;
    none_before = f.none;
    alive = f.passes;
    root = r;
    first = first;
    is_shown =
        ap (λ o. option_map (seen_root (class_of s c)) (root_of_first s w o)) f.is_found
        ∙ ap (option_map (seen_root (class_of s c))) e;
  }
  with_root f None e some first = absurd (false≢true some)

  named : NamesTheLiving s w c q
  named =
      let f = first_of (lives s w) (named_in q) one_lives in
      let said = as_said s w f.here in
      with_root f (first_root (keep_of s) (graph_of w) (roots_of w) f.here) refl
      (said.first.live (said.decided.0 f.passes)) said.first.first

pub denials_name_the_living : DenialsNameTheLiving
denials_name_the_living s w c q v = named s w c q v

-- a deletion that is denied for a live path
none_lives : (p : Path → Bool) (xs : List Path) → list_any p xs ≡ false → (x : Path) → Contains xs x → p x ≡ false
none_lives p xs none x c = false_from_ne_true (p x) (λ h. false≢true (sym none ∙ any_from p xs x c h))

pub denials_are_for_the_first : DenialsAreForTheFirst
denials_are_for_the_first s w c named ignores root new h =
    let x = denials_name_the_living s w c (delete named ignores) h.0 in
    record {
      before = x.before;
      path = x.path;
      after = x.after;
      split = x.named;
      none_before = λ p k. none_lives (lives s w) x.before x.none_before p k;
      alive = x.alive;
      first = x.root;
      is_first = x.first;
      is_shown = h.1 ∙ x.is_shown;
    }
