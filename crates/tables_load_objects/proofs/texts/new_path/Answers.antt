use Rattle.std.proofs.Common.{◌≡◌, ℕ, List, refl, subst, true}
use Rattle.paths.specs.StorePath.{is_base_name}
use Rattle.tables_load_objects.proofs.texts.new_path.Goals as goal

pub returns-in-Ok : goal.returns-in-Ok
returns-in-Ok c = let h = c.in-Ok.ensures.ok in (h.0, subst (λ (text : List ℕ). is_base_name text ≡ true) h.0 h.1)

pub returns-in-Err-BadStorePath : goal.returns-in-Err-BadStorePath
returns-in-Err-BadStorePath c = c.in-Err-BadStorePath.ensures.bad.0 (rw c.in-Err-BadStorePath.field-0-is refl)

pub returns-in-Err-Memory : goal.returns-in-Err-Memory
returns-in-Err-Memory c = tt
