-- How a part of a write stops, and what can't stop it.
use Rattle.std.proofs.Common.{◌≡◌, inl, inr, ℕ, zero, suc, [], ◌∷◌, false, Result, Ok, Err, None, Option, length}
use Rattle.std.proofs.Common.{length-append, ap, subst, arith}
use Rattle.sqlite_value.specs.Order.{Row}
use Rattle.sqlite_trees.specs.Tree.{Trees}
use Rattle.sqlite_schema.specs.declared.schema.Among.TheVariants.{All}
use Rattle.sqlite_schema.specs.declared.schema.Keys.{Keys}
use Rattle.sqlite_schema.specs.declared.schema.Keys.TheVariants.{Enforced}
use Rattle.sqlite_schema.specs.declared.schema.Schema.{Schema}
use Rattle.sqlite_schema.specs.declared.schema.Table.{Table}
use Rattle.sqlite_schema.specs.Rules.{Refers}
use Rattle.sqlite_rules.specs.declared.error.Refusal.{Refusal}
use Rattle.sqlite_rules.specs.Action.{Settles}
use Rattle.sqlite.specs.declared.error.Error.{Error}
use Rattle.sqlite.specs.declared.run.Mode.{Mode}
use Rattle.sqlite.specs.Does.{Concludes}
use Rattle.sqlite.specs.Rows.{Written}

-- it stops where what came before stopped
pub stops_at : {B : Type 0} (P : Option Error → Type 0) (stop other : Option Error)
    → ◌≡◌ {A = Result B (Option Error)} (Err stop) (Err other) → P other → P stop
stops_at P stop other e h = let same : other ≡ stop = cc in subst P same h

-- what gave a value didn't stop
pub gives_no_stop : {B : Type 0} (stop : Option Error) (b : B) → ◌≡◌ {A = Result B (Option Error)} (Err stop) (Ok b) → ⊥
gives_no_stop stop b e = let no_more = e in cc

-- where nothing is set off, an edit that was carried out doesn't fail
pub no_end : (s : Schema) (keys : Keys) (db : Trees) (why : Option Refusal) → Settles s keys db [] (Err why) → ⊥
no_end s keys db why (zero, h) = absurd (let e = h.1 in cc)
no_end s keys db why (suc n, h) = absurd (omega (arith, ap length h.2, length-append h.0 (h.1 ∷ [])))

-- the mode of each statement: foreign keys are enforced, and none waits for the commit
abbrev pub plain_mode : Mode
plain_mode = record { keys = Enforced; in_doubt = false; may_wait = false }

-- a write doesn't fail at its end, where each row has its parents
pub concluded : (s : Schema) (limit : Option ℕ) (table : Table) (params : Row) (w : Written) → Refers All s w.trees
    → (stop : Option Error)
    → Concludes (record { limit = limit; keys = Enforced; schema = s; table = table; params = params }) plain_mode None
    w (Err stop) → ⊥
concluded s limit table params w refers stop (inl (other, h, is)) = h.0 refers
concluded s limit table params w refers stop (inr (doubt, tested, inl (other, h, is))) = gives_no_stop other _ h
concluded s limit table params w refers stop (inr (doubt, tested, inr (rows, given, is))) = gives_no_stop stop _ is
