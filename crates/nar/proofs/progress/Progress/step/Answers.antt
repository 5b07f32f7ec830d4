use Rattle.std.proofs.Common.{◌≡◌, ℕ, List, [], ◌++◌, length, eqb, sym, ap, ◌∙◌, subst, append-nil}
use Rattle.std.proofs.lemmas.Bool.{eqb-true}
use Rattle.std.proofs.lemmas.List.{nil_from_length}
use Rattle.nar.specs.Tree.{IsBytes}
use Rattle.nar.specs.Feeding.{Fed}
use Rattle.nar.specs.NestView.{symbols_of}
use Rattle.nar.proofs.Bytes.{IsBytes-prefix}
use Rattle.nar.proofs.Taking.{passed_on}
use Rattle.nar.proofs.Feeding.{fed_more, fault_of_all}
use Rattle.nar.proofs.Counting.{tail_nil}
use Rattle.nar.proofs.Stepping.{cut}
use Rattle.nar.proofs.progress.Progress.step.Goals as goal

-- ---- a string that is counted

pub returns-in_err-count_on-in-Some-clause-err : goal.returns-in_err-count_on-in-Some-clause-err
returns-in_err-count_on-in-Some-clause-err c = passed_on _ _ _ c.from_residual.ensures.1 (λ fault all bytes h.
    let front = c.split_at.result.0.now in
    let rest = c.split_at.result.1.now in
    let e : all ≡ (h.consumed ++ front) ++ rest =
    cut all h.consumed c.args.piece.now front rest _ h.is c.split_at.ensures.front c.split_at.ensures.back in
    let s = rw c.in-Some.is at h.has_read in
    fault_of_all all (h.consumed ++ front) rest c.in_err-count_on-in-Some.field-0.0 e bytes
    (c.in_err-count_on-in-Some.ensures.err fault h.consumed
    (IsBytes-prefix (h.consumed ++ front) rest (subst IsBytes e bytes)) s.1))

pub returns-in_ok-count_on-in-Some-clause-ok : goal.returns-in_ok-count_on-in-Some-clause-ok
returns-in_ok-count_on-in-Some-clause-ok c = λ all bytes h.
    let front = c.split_at.result.0.now in
    let rest = c.split_at.result.1.now in
    let e : all ≡ (h.consumed ++ front) ++ rest =
    cut all h.consumed c.args.piece.now front rest _ h.is c.split_at.ensures.front c.split_at.ensures.back in
    let s = rw c.in-Some.is at h.has_read in
    record {
      consumed = h.consumed ++ front;
      is = e;
      has_read = c.in_ok-count_on-in-Some.ensures.ok h.consumed
          (IsBytes-prefix (h.consumed ++ front) rest (subst IsBytes e bytes)) s;
    }

-- ---- no string has begun

pub returns-in_err-read_on-in-None-clause-err : goal.returns-in_err-read_on-in-None-clause-err
returns-in_err-read_on-in-None-clause-err c =
    passed_on _ _ _ c.from_residual-in_err-read_on-in-None.ensures.1 (λ fault all bytes h.
    let p = c.args.self.now in
    let none : p.held.items ≡ [] =
    nil_from_length p.held.items (eqb-true (length p.held.items) 0
    (sym (c.is_empty.ensures ∙ ap (λ (k : ℕ). eqb k 0) p.held.ok.0) ∙ c.if-is_empty.true)) in
    let s = rw c.in-None.is at h.has_read in
    let fed =
    fed_more (symbols_of p.nest) p.room [] h.consumed c.args.piece.now
    (subst (λ (v : List ℕ). Fed (symbols_of p.nest) p.room v h.consumed) none s.0) in
    c.in_err-read_on-in-None.ensures.err fault all
    (subst (λ (v : List ℕ). Fed (symbols_of p.nest) p.room c.args.piece.now v) (sym h.is) fed))

pub returns-then-is_empty-clause-ok : goal.returns-then-is_empty-clause-ok
returns-then-is_empty-clause-ok c = λ all bytes h.
    let p = c.args.self.now in
    let none : p.held.items ≡ [] =
    nil_from_length p.held.items (eqb-true (length p.held.items) 0
    (sym (c.is_empty.ensures ∙ ap (λ (k : ℕ). eqb k 0) p.held.ok.0) ∙ c.if-is_empty.true)) in
    let s = rw c.in-None.is at h.has_read in
    let fed =
    fed_more (symbols_of p.nest) p.room [] h.consumed c.args.piece.now
    (subst (λ (v : List ℕ). Fed (symbols_of p.nest) p.room v h.consumed) none s.0) in
    record {
      consumed = all;
      is = sym (ap (λ (v : List ℕ). all ++ v) (tail_nil c.args.piece.now) ∙ append-nil all);
      has_read =
          c.in_ok-read_on-in-None.ensures.ok all
          (subst (λ (v : List ℕ). Fed (symbols_of p.nest) p.room c.args.piece.now v) (sym h.is) fed);
    }

-- ---- a string that is held

pub returns-in_err-fill-in-None-clause-err : goal.returns-in_err-fill-in-None-clause-err
returns-in_err-fill-in-None-clause-err c =
    passed_on _ _ _ c.from_residual-in_err-fill-in-None.ensures.1 (λ fault all bytes h.
    let p = c.args.self.now in
    let front = c.split_at-in-None.result.0.now in
    let rest = c.split_at-in-None.result.1.now in
    let e : all ≡ (h.consumed ++ front) ++ rest =
    cut all h.consumed c.args.piece.now front rest _ h.is c.split_at-in-None.ensures.front
    c.split_at-in-None.ensures.back in
    let s = rw c.in-None.is at h.has_read in
    fault_of_all all (h.consumed ++ front) rest c.in_err-fill-in-None.field-0.0 e bytes
    (c.in_err-fill-in-None.ensures.err fault (h.consumed ++ front)
    (fed_more (symbols_of p.nest) p.room p.held.items h.consumed front s.0)))

pub returns-in_ok-fill-in-None-clause-ok : goal.returns-in_ok-fill-in-None-clause-ok
returns-in_ok-fill-in-None-clause-ok c = λ all bytes h.
    let p = c.args.self.now in
    let front = c.split_at-in-None.result.0.now in
    let rest = c.split_at-in-None.result.1.now in
    let e : all ≡ (h.consumed ++ front) ++ rest =
    cut all h.consumed c.args.piece.now front rest _ h.is c.split_at-in-None.ensures.front
    c.split_at-in-None.ensures.back in
    let s = rw c.in-None.is at h.has_read in
    record {
      consumed = h.consumed ++ front;
      is = e;
      has_read = c.in_ok-fill-in-None.ensures.ok (h.consumed ++ front)
          (fed_more (symbols_of p.nest) p.room p.held.items h.consumed front s.0);
    }
