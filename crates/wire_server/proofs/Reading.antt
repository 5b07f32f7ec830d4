-- What reads in pieces come to.
use Rattle.std.proofs.Common.{◌≡◌, ℕ, ◌+◌, ◌<◌, List, [], ◌∷◌, ◌++◌, length, drop, Option, Some, None, Result, Ok, Err}
use Rattle.std.proofs.Common.{true, false, take, inl, inr, sym, ap, ◌∙◌, arith, append_assoc, append-nil, subst}
use Rattle.std.proofs.Common.{length-drop}
use Rattle.std.specs.Prelude.{IfSome, Bool, cond, nat_le, codes}
use Rattle.std.proofs.lemmas.Bool.{cases_lt}
use Rattle.std.specs.Io.KnownBytes.{Consumes, IsAtEnd}
use Rattle.std.proofs.KnownBytes.{Consumes-trans}
use Rattle.httparse.specs.Grammar.{RequestHead, HasNoRequest}
use Rattle.wire_server.specs.declared.head.Head.{Head}
use Rattle.wire_server.specs.declared.error.Fault.{Fault}
use Rattle.wire_server.specs.Heads.{HasNoHead, Holds}
use Rattle.wire_server.specs.Fields.{fields_of, fields_at, body_length, length_by, values, stated, is_number, max_body}
use Rattle.wire_server.specs.declared.error.Fault.TheVariants.{BadHead, BadLength, TooLarge}
use Rattle.std.specs.Str.Parse.{digits_value}
use Rattle.wire_server.specs.Messages.{FaultOfHead, EndsInside, IsFault}
use Rattle.wire_server.proofs.Heads.{head_in_prefix}
use Rattle.wire_server.proofs.Longer.{head-append}

-- what was taken and what one more read took
pub record Took (old new : Option (List ℕ)) (held held' : List ℕ) : Type 0 where
  pub bytes : List ℕ
  pub consumed : Consumes old new bytes
  pub kept : held' ≡ held ++ bytes

pub took_more : (a b c : Option (List ℕ)) (held mid held' bs : List ℕ) → Took a b held mid → Consumes b c bs
    → held' ≡ mid ++ bs → Took a c held held'
took_more a b c held mid held' bs before read kept = record {
  bytes = before.bytes ++ bs;
  consumed = Consumes-trans a b c before.bytes bs before.consumed read;
  kept = kept ∙ ap (λ t. t ++ bs) before.kept ∙ append_assoc held before.bytes bs;
}

-- at the end of the input the bytes that are held are all of it
pub at_end_all : (P : List ℕ → Type 0) (held : List ℕ) (rest : Option (List ℕ)) → P held → IsAtEnd rest
    → IfSome rest (λ more. P (held ++ more))
at_end_all P held None here end = tt
at_end_all P held (Some more) here end = subst P (sym (ap (λ t. held ++ t) end ∙ append-nil held)) here

-- a fact of whatever follows is one of what follows
pub whatever : (P : List ℕ → Type 0) (held : List ℕ) (rest : Option (List ℕ)) → ((more : List ℕ) → P (held ++ more))
    → IfSome rest (λ more. P (held ++ more))
whatever P held None all = tt
whatever P held (Some more) all = all more

pub no_head : (buf : List ℕ) → HasNoRequest buf → HasNoHead buf
no_head buf none h rest is = none h rest is.reads

-- a fault that the head of what is held shows is one of the whole input
pub fault_of_head : (held : List ℕ) (head : Head) (h : RequestHead) (fault : Fault) → Holds held head h
    → Err fault ≡ body_length (fields_at held head)
    → (more : List ℕ) → FaultOfHead (held ++ more) fault
fault_of_head held head h fault holds is more = (
  h,
  drop head.spans.len held ++ more,
  head-append held more h (drop head.spans.len held) holds.is_head,
  ap body_length (sym holds.places.fields) ∙ sym is,
)

-- where the bytes that were seen have no head, a head goes beyond them
pub beyond_seen : (buf : List ℕ) (head : Head) (h : RequestHead) (seen : ℕ) → Holds buf head h
    → HasNoRequest (take seen buf) → seen < head.spans.len
beyond_seen buf head h seen holds none = elim (cases_lt seen head.spans.len) [
  | inl later ↦ later
  | inr before ↦ absurd
      (none h _ (head_in_prefix buf h _ seen holds.is_head.reads (omega (arith, before, holds.places.len))))
]

-- an input that ends before the body is whole
pub ends_inside : (held : List ℕ) (head : Head) (h : RequestHead) (size : ℕ) → Holds held head h
    → body_length (fields_of h) ≡ Ok size
    → length held < head.spans.len + size → EndsInside held
ends_inside held head h size holds states short =
    let fits = holds.within.section.len_fits in
    (h, drop head.spans.len held, size, holds.is_head, states, omega (arith, fits, length-drop head.spans.len held))

-- what fields say of a body is never that there is no head
abbrev fault_or : Result ℕ Fault → Fault
fault_or (Ok n) = BadLength
fault_or (Err fault) = fault

no_number : (text : List ℕ) → stated text ≡ Err BadHead → ⊥
no_number text e = by (is_number text) (nat_le (digits_value 10 text) max_body) (ap fault_or e)
  where
    by : (v w : Bool) → fault_or (cond v (cond w (Ok (digits_value 10 text)) (Err TooLarge)) (Err BadLength)) ≡ BadHead
        → ⊥
    by true true e = let h : BadLength ≡ BadHead = e in cc
    by true false e = let h : TooLarge ≡ BadHead = e in cc
    by false w e = let h : BadLength ≡ BadHead = e in cc

length_without_head : (codings lengths : List (List ℕ)) → length_by codings lengths ≡ Err BadHead → ⊥
length_without_head [] [] e = let h : BadLength ≡ BadHead = ap fault_or e in cc
length_without_head [] (text ∷ []) e = no_number text e
length_without_head [] (a ∷ b ∷ texts) e = let h : BadLength ≡ BadHead = ap fault_or e in cc
length_without_head (coding ∷ codings) lengths e = let h : BadLength ≡ BadHead = ap fault_or e in cc

pub is_fault : (input : List ℕ) (fault : Fault) → FaultOfHead input fault → IsFault input fault
is_fault input BadHead f =
    absurd (length_without_head (values (codes "transfer-encoding") (fields_of f.0))
    (values (codes "content-length") (fields_of f.0)) f.3)
is_fault input BadLength f = inl f
is_fault input TooLarge f = f
