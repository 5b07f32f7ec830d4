-- Three tests, one after another: which of them decides.
use Rattle.std.proofs.Common.{◌≡◌, Bool, true, false, ◌&&◌, sym, ap, ◌∙◌}

-- of three tests the second failed
pub second_failed : (x y z : Bool) → x ≡ true → y ≡ false → false ≡ (x && (y && z))
second_failed x y z first second = sym (ap (λ b. b && (y && z)) first ∙ ap (λ b. b && z) second)

-- the third decides
pub third_decides : (x y z last : Bool) → x ≡ true → y ≡ true → last ≡ z → last ≡ (x && (y && z))
third_decides x y z last first second third = third ∙ sym (ap (λ b. b && (y && z)) first ∙ ap (λ b. b && z) second)
