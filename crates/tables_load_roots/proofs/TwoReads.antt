-- Two reads, one after another.
use Rattle.std.proofs.Common.{◌≡◌, Bool, true, ◌&&◌, Result, Ok, Err, IfOk, sym, ap, ◌∙◌, IsTrue}
use Rattle.tables_sql.specs.declared.failure.Failed.{Failed}
use Rattle.tables_outline.specs.Outline.{OutlineValue}

-- the first passed, so the second decides
pub reported_next : (r : Result Bool Failed) (x y z : Bool) → x ≡ true → y ≡ z → IfOk r (λ ok. ok ≡ y)
    → IfOk r (λ ok. ok ≡ (x && z))
reported_next (Ok v) x y z first same h = h ∙ same ∙ sym (ap (λ b. b && z) first)
reported_next (Err e) x y z first same h = tt

pub read_next : (r : Result Bool Failed) (o x y : OutlineValue) → x ≡ y → IfOk r (λ ok. IsTrue ok → o ≡ x)
    → IfOk r (λ ok. IsTrue ok → o ≡ y)
read_next (Ok v) o x y same h = λ ok. h ok ∙ same
read_next (Err e) o x y same h = tt
