use Rattle.std.proofs.Common.{◌∙◌, arith, rules}
use Rattle.std.proofs.lemmas.Grind.{common_steps}
use Rattle.store_promises.proofs.Passing.{pass}
use Rattle.store_roots.proofs.profiles.older.Goals as goal

pub returns-clause-tested : goal.returns-clause-tested
returns-clause-tested c = record {
  reported =
      λ s w is. pass _ _ c.in_ok-are_named.ensures ∙ pass _ _ (c.in_ok-has_profile.ensures.reported w is)
      ∙ pass _ _ (c.in_ok-number.ensures w is).0;
  present = c.in_ok-has_profile.ensures.present;
}

pub returns-clause-number : goal.returns-clause-number
returns-clause-number c w is = (c.in_ok-number.ensures w is).1

pub returns-in_err-number-clause-tested : goal.returns-in_err-number-clause-tested
returns-in_err-number-clause-tested c = record {
  reported = λ s w is. first_of (search rules, grind (arith, common_steps));
  present = first_of (search rules, grind (arith, common_steps));
}
