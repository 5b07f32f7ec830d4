-- A body of which a part is held, and whose rest was read.
use Rattle.std.proofs.Common.{◌≡◌, ℕ, ◌+◌, ◌-◌, ◌≤◌, ◌<◌, List, [], ◌++◌, length, take, drop, Option, Result, Ok, Bool}
use Rattle.std.proofs.Common.{true, false, min, sym, ap, ◌∙◌, arith, append_assoc, append-nil, length-append}
use Rattle.std.proofs.Common.{length-drop, refl, subst}
use Rattle.std.proofs.lemmas.List.{take_all, take-append-le, drop_all, drop-append-le, nil_from_length}
use Rattle.std.proofs.lemmas.Bool.Decides.{nat_tests}
use Rattle.std.specs.Prelude.{nat_le}
use Rattle.wire_server.specs.Bodies.{ReadsBody, ReadsRest, Grows}
use Rattle.wire_server.specs.declared.error.WireError.{WireError}

-- what is held of a body of this size, and its rest
whole_body : (behind read : List ℕ) (size n : ℕ) → n ≡ min size (length behind) → length read ≡ size - n
    → take n behind ++ read ≡ take size (behind ++ read)
whole_body behind read size n is rest = by (nat_le size (length behind)) refl
  where
    by : (v : Bool) → nat_le size (length behind) ≡ v → take n behind ++ read ≡ take size (behind ++ read)
    by true e =
        let within : size ≤ length behind = grind (arith, nat_tests) in
        let same : n ≡ size = grind (arith, nat_tests) in
        let none : read ≡ [] = nil_from_length read (omega (arith, rest, same)) in
        ap (λ t. take n behind ++ t) none ∙ append-nil (take n behind) ∙ ap (λ k. take k behind) same
        ∙ sym (take-append-le size behind read within)
    by false e =
        let beyond : length behind < size = grind (arith, nat_tests) in
        let same : n ≡ length behind = grind (arith, nat_tests) in
        ap (λ t. t ++ read) (take_all n behind (omega (arith, same)))
        ∙ sym (take_all size (behind ++ read) (omega (arith, length-append behind read, rest, same, beyond)))

-- nothing that is held after the body was changed by what was read
pub same_after : (held read : List ℕ) (end : ℕ) → length read ≡ end - length held
    → drop end (held ++ read) ≡ drop end held
same_after held read end rest = by (nat_le end (length held)) refl
  where
    by : (v : Bool) → nat_le end (length held) ≡ v → drop end (held ++ read) ≡ drop end held
    by true e =
        let within : end ≤ length held = grind (arith, nat_tests) in
        let none : read ≡ [] = nil_from_length read (omega (arith, rest, within)) in
        ap (λ t. drop end (held ++ t)) none ∙ ap (drop end) (append-nil held)
    by false e =
        let beyond : length held < end = grind (arith, nat_tests) in
        drop_all end (held ++ read) (omega (arith, length-append held read, rest, beyond))
        ∙ sym (drop_all end held (omega (arith, beyond)))

module _ (old new : Option (List ℕ)) (held : List ℕ) (len size left : ℕ) (read : List ℕ)
    (result : Result Bool WireError) (fits : len ≤ length held)
    (is_left : left ≡ size - (length held - len)) (rest : ReadsRest old new left read result) where
  abbrev pub body_came : ReadsBody old new held len size result
  body_came = record {
    read = read;
    consumed = rest.consumed;
    whole = λ e. (
      omega (arith, rest.whole e, length-append held read, is_left, fits),
      same_after held read (len + size) (omega (arith, rest.whole e, is_left, fits)),
    );
    short = λ e. ((rest.short e).0, omega (arith, (rest.short e).1, length-append held read, is_left, fits));
  }

  -- what stands for the part that is held and then for the rest stands for the body
  pub body_kept : (n : ℕ) (start mid end : List ℕ → Type 0) → result ≡ Ok true → n ≡ min size (length (drop len held))
      → Grows start mid (take n (drop len held)) → Grows mid end read
      → Grows start end (take size (drop len (held ++ read)))
  body_kept n start mid end e at first last = λ all is.
      let count : length read ≡ size - n = omega (arith, rest.whole e, is_left, at, length-drop len held) in
      subst end
      (append_assoc all (take n (drop len held)) read
      ∙ ap (λ t. all ++ t) (whole_body (drop len held) read size n at count)
      ∙ ap (λ t. all ++ take size t) (sym (drop-append-le len held read fits)))
      (last (all ++ take n (drop len held)) (first all is))

-- what stands for a piece and then for another stands for both
pub grows_more : (start mid end : List ℕ → Type 0) (first second : List ℕ) → Grows start mid first
    → Grows mid end second → Grows start end (first ++ second)
grows_more start mid end first second one two =
    λ all is. subst end (append_assoc all first second) (two (all ++ first) (one all is))

-- nothing more
pub grows_nothing : (start : List ℕ → Type 0) → Grows start start []
grows_nothing start = λ all is. subst start (sym (append-nil all)) is
