-- The verdict, one test after another.
use Rattle.std.proofs.Common.{◌≡◌, Bool, true, false, cond, not, Option, Some, None, refl}
use Rattle.std.specs.Option.{option_or}
use Rattle.policy.specs.declared.kinds.Rule.{Rule}
use Rattle.policy.specs.declared.kinds.Rule.TheVariants.{Connect, TrustedImport, TrustedPermanentRoot}
use Rattle.policy.specs.declared.kinds.Rule.TheVariants.{TrustedRuntimeRoots, OwnRoot, NoIgnoreLiveness, Live}

-- the first of the six rules that is broken, else what comes after them
abbrev pub first_of_six : (a b c d e f : Bool) → Option Rule → Option Rule
first_of_six a b c d e f rest =
    cond a (Some Connect) (cond b (Some TrustedImport) (cond c (Some TrustedPermanentRoot)
    (cond d (Some TrustedRuntimeRoots) (cond e (Some OwnRoot) (cond f (Some NoIgnoreLiveness) rest)))))

-- what comes after them, or nothing and then that
pub first_of_six-rest : (a b c d e f live : Bool)
    → first_of_six a b c d e f (cond (not (not live)) (Some Live) None)
    ≡ option_or (first_of_six a b c d e f None) (cond live (Some Live) None)
first_of_six-rest true b c d e f live = refl
first_of_six-rest false true c d e f live = refl
first_of_six-rest false false true d e f live = refl
first_of_six-rest false false false true e f live = refl
first_of_six-rest false false false false true f live = refl
first_of_six-rest false false false false false true live = refl
first_of_six-rest false false false false false false true = refl
first_of_six-rest false false false false false false false = refl
