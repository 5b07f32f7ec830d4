-- How much of an input is read.
use Rattle.std.proofs.Common.{◌≡◌, ℕ, List, Option, Some, None, subst, sym}
use Rattle.tool_pure.proofs.Results.{unread}
use Rattle.tool.specs.Requests.{ReadsWithin}

-- what isn't read is read within each bound
pub unread_within : (most : Option ℕ) (known : Option (List ℕ)) → ReadsWithin most known known
unread_within None known = tt
unread_within (Some most) known = unread None most known

-- what is read within a bound is read within an equal one
pub within_same : (a b : Option ℕ) (old new : Option (List ℕ)) → a ≡ b → ReadsWithin b old new → ReadsWithin a old new
within_same a b old new same = subst (λ (most : Option ℕ). ReadsWithin most old new) (sym same)
