use Rattle.std.proofs.Common.{◌∙◌, arith, rules}
use Rattle.std.proofs.lemmas.Grind.{common_steps}
use Rattle.store_promises.proofs.Passing.{pass}
use Rattle.store_roots.proofs.profiles.may_delete.Goals as goal

pub returns : goal.returns
returns c = record {
  reported = λ s w is.
      pass _ _ c.in_ok-are_named.ensures ∙ pass _ _ (c.in_ok-has_profile.ensures.reported w is)
      ∙ pass _ _ (c.in_ok-has_generation.ensures w is)
      ∙ pass _ _ (c.in_ok-is_not_current.ensures w is);
  present = c.in_ok-has_profile.ensures.present;
}

pub returns-in_err-has_generation : goal.returns-in_err-has_generation
returns-in_err-has_generation c = record {
  reported = λ s w is. first_of (search rules, grind (arith, common_steps));
  present = first_of (search rules, grind (arith, common_steps));
}

pub returns-in_err-is_not_current : goal.returns-in_err-is_not_current
returns-in_err-is_not_current c = record {
  reported = λ s w is. first_of (search rules, grind (arith, common_steps));
  present = first_of (search rules, grind (arith, common_steps));
}
