-- What a nest has still to come.
use Rattle.std.specs.Prelude.{◌≡◌, ℕ, Bool, List, map, reverse, option_map, Result, Ok, Err, OnOk, IfErr}
use Rattle.nar.specs.declared.error.NarError.{NarError}
use Rattle.nar.specs.declared.nest.Nest.{Nest}
use Rattle.nar.specs.Steps.{Symbol}
use Rattle.nar.specs.Nest.{symbols, is_counted, next}
use Rattle.nar.specs.Answer.{IfFault}

-- the names of the open entries, the innermost first
abbrev pub open_names : Nest → List (List ℕ)
open_names n = reverse (map (λ v. v.items) n.names.items)

abbrev pub symbols_of : Nest → List Symbol
symbols_of n = symbols n.phase (option_map (λ v. v.items) n.last) (open_names n)

-- whether a string of this length is counted there and not stored
abbrev pub counts_at : Nest → ℕ → Bool
counts_at n len = is_counted n.phase len

-- the string was taken as the next one, or it is at fault there
pub record Takes {T : Type 0} (old new : Nest) (s : List ℕ) (result : Result T NarError) : Type 0 where
  pub ok : OnOk result (next (symbols_of old) s ≡ Ok (symbols_of new))
  pub err : IfErr result (λ e. IfFault e (λ f. next (symbols_of old) s ≡ Err f))
