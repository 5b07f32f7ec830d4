-- Values that may not be had because memory was refused.
use Rattle.std.proofs.Common.{Result, Ok, Err, IfOk}

-- what is true of each value that has a property is true of that of a result
pub mapped : {A E : Type 0} (P Q : A → Type 0) (r : Result A E) → ((x : A) → P x → Q x) → IfOk r P → IfOk r Q
mapped P Q (Ok x) f p = f x p
mapped P Q (Err fault) f p = tt
