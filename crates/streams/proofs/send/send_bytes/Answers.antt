use Rattle.std.proofs.Common.{◌≡◌, ℕ, ◌+◌, ◌-◌, ◌≤◌, ◌++◌, List, Option, length, take, drop, take_all, length-drop}
use Rattle.std.proofs.Common.{arith, subst, sym, ap, ◌∙◌}
use Rattle.std.specs.Io.KnownBytes.{Appends}
use Rattle.std.proofs.KnownBytes.{Appends-trans}
use Rattle.std.proofs.Math.Seq.{take-add}
use Rattle.streams.proofs.send.send_bytes.Goals as goal

rest : (bytes : List ℕ) (done : ℕ) → take (length bytes - done) (drop done bytes) ≡ drop done bytes
rest bytes done = take_all (length bytes - done) (drop done bytes) (omega (arith, length-drop done bytes))

more : (a b c : Option (List ℕ)) (bytes : List ℕ) (done count : ℕ) → Appends a b (take done bytes)
    → Appends b c (take count (take (length bytes - done) (drop done bytes)))
    → Appends a c (take (done + count) bytes)
more a b c bytes done count before now =
    let all : take done bytes ++ take count (take (length bytes - done) (drop done bytes)) ≡ take (done + count) bytes =
    ap (λ t. take done bytes ++ take count t) (rest bytes done) ∙ sym (take-add done count bytes) in
    subst (Appends a c) all (Appends-trans a b c _ _ before now)

within : (bytes : List ℕ) (done count : ℕ) → done ≤ length bytes
    → count ≤ length (take (length bytes - done) (drop done bytes)) → done + count ≤ length bytes
within bytes done count fits least =
    let size : length (take (length bytes - done) (drop done bytes)) ≡ length bytes - done =
    ap length (rest bytes done) ∙ length-drop done bytes in
    omega arith

pub writes-preserved : goal.writes-preserved
writes-preserved g c = record {
  within =
      within c.args.bytes.now c.writes.done c.in_ok-count.count c.writes.invariant.within c.in_ok-count.ensures.bound;
  sent =
      more _ _ _ c.args.bytes.now c.writes.done c.in_ok-count.count c.writes.invariant.sent c.in_ok-count.ensures.bytes;
}
