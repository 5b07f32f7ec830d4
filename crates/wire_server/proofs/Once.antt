-- An input divides in one way.
use Rattle.std.proofs.Common.{◌≡◌, ℕ, ◌+◌, List, [], ◌∷◌, ◌++◌, length, drop, get_or, Result, Ok, Err, Bool, true}
use Rattle.std.proofs.Common.{false, cond, inl, inr, refl, sym, ap, ◌∙◌, arith, subst, length-append}
use Rattle.httparse.specs.Grammar.{RequestHead, ReadsRequest}
use Rattle.httparse.proofs.GrammarLemmas.{request_unique}
use Rattle.wire_server.specs.declared.error.Fault.{Fault}
use Rattle.wire_server.specs.declared.error.Fault.TheVariants.{BadHead, BadLength, TooLarge}
use Rattle.wire_server.specs.Heads.{IsHead}
use Rattle.wire_server.specs.Fields.{fields_of, body_length}
use Rattle.wire_server.specs.Messages.{IsMessage, IsFault}
use Rattle.wire_server.specs.Division.{message, faulty, closes, Divides, DividesOnce}
use Rattle.wire_server.proofs.Heads.{none_in_nothing}

head_once : (input : List ℕ) (h k : RequestHead) (r q : List ℕ) → IsHead input h r → IsHead input k q
    → (h ≡ k) × (r ≡ q)
head_once input h k r q a b = request_unique input h k r q a.reads b.reads

-- what the fields of the one head say
states_once : (input : List ℕ) (h k : RequestHead) (r q : List ℕ) (x y : Result ℕ Fault) → IsHead input h r
    → IsHead input k q
    → body_length (fields_of h) ≡ x → body_length (fields_of k) ≡ y → x ≡ y
states_once input h k r q x y a b e f = sym e ∙ ap (λ g. body_length (fields_of g)) (head_once input h k r q a b).0 ∙ f

prefix_once : (a b x y : List ℕ) → a ++ x ≡ b ++ y → length a ≡ length b → (a ≡ b) × (x ≡ y)
prefix_once [] [] x y e n = (refl, e)
prefix_once [] (d ∷ b) x y e n = absurd (omega arith)
prefix_once (c ∷ a) [] x y e n = absurd (omega arith)
prefix_once (c ∷ a) (d ∷ b) x y e n =
    let rest = prefix_once a b x y (ap (λ t. drop 1 t) e) (omega arith) in
    let head : c ≡ d = ap (λ t. get_or t 0 0) e in
    (ap (λ t. t ∷ a) head ∙ ap (λ t. d ∷ t) rest.0, rest.1)

abbrev size_or : Result ℕ Fault → ℕ
size_or (Ok n) = n
size_or (Err fault) = 0

abbrev fault_or : Result ℕ Fault → Fault
fault_or (Ok n) = BadHead
fault_or (Err fault) = fault

message_once : (input : List ℕ) (h k : RequestHead) (a b x y : List ℕ) → IsMessage input h a x → IsMessage input k b y
    → (h ≡ k) × (a ≡ b) × (x ≡ y)
message_once input h k a b x y p q =
    let same = head_once input h k (a ++ x) (b ++ y) p.head q.head in
    let size = states_once input h k (a ++ x) (b ++ y) (Ok (length a)) (Ok (length b)) p.head q.head p.size q.size in
    let parts = prefix_once a b x y same.1 (ap size_or size) in
    (same.0, parts.0, parts.1)

ok_is_no_error : (n : ℕ) (f : Fault) → Ok n ≡ Err f → ⊥
ok_is_no_error n f e = cc

no_fault : (input : List ℕ) (h : RequestHead) (body rest : List ℕ) (f : Fault) → IsMessage input h body rest
    → IsFault input f → ⊥
no_fault input h body rest BadHead is bad = bad h (body ++ rest) is.head
no_fault input h body rest BadLength is (inl bad) =
    ok_is_no_error (length body) BadLength
    (states_once input h bad.0 (body ++ rest) bad.1 (Ok (length body)) (Err BadLength) is.head bad.2 is.size bad.3)
no_fault input h body rest BadLength is (inr bad) =
    let same = head_once input h bad.0 (body ++ rest) bad.1 is.head bad.3 in
    let size : length body ≡ bad.2 =
    ap size_or (states_once input h bad.0 (body ++ rest) bad.1 (Ok (length body)) (Ok bad.2) is.head bad.3 is.size
    bad.4) in
    let long : length body + length rest ≡ length bad.1 = sym (length-append body rest) ∙ ap length same.1 in
    absurd (omega (arith, bad.5))
no_fault input h body rest TooLarge is bad =
    ok_is_no_error (length body) TooLarge
    (states_once input h bad.0 (body ++ rest) bad.1 (Ok (length body)) (Err TooLarge) is.head bad.2 is.size bad.3)

length_is_no_size : (input : List ℕ) → IsFault input BadLength → IsFault input TooLarge → ⊥
length_is_no_size input (inl a) b =
    let e : BadLength ≡ TooLarge =
    ap fault_or (states_once input a.0 b.0 a.1 b.1 (Err BadLength) (Err TooLarge) a.2 b.2 a.3 b.3) in cc
length_is_no_size input (inr a) b =
    ok_is_no_error a.2 TooLarge (states_once input a.0 b.0 a.1 b.1 (Ok a.2) (Err TooLarge) a.3 b.2 a.4 b.3)

fault_once : (input : List ℕ) (f g : Fault) → IsFault input f → IsFault input g → f ≡ g
fault_once input BadHead BadHead a b = refl
fault_once input BadHead BadLength a (inl b) = absurd (a b.0 b.1 b.2)
fault_once input BadHead BadLength a (inr b) = absurd (a b.0 b.1 b.3)
fault_once input BadHead TooLarge a b = absurd (a b.0 b.1 b.2)
fault_once input BadLength BadHead (inl a) b = absurd (b a.0 a.1 a.2)
fault_once input BadLength BadHead (inr a) b = absurd (b a.0 a.1 a.3)
fault_once input BadLength BadLength a b = refl
fault_once input BadLength TooLarge a b = absurd (length_is_no_size input a b)
fault_once input TooLarge BadHead a b = absurd (b a.0 a.1 a.2)
fault_once input TooLarge BadLength a b = absurd (length_is_no_size input b a)
fault_once input TooLarge TooLarge a b = refl

no_message : (input : List ℕ) (h : RequestHead) (body rest : List ℕ) → input ≡ [] → IsMessage input h body rest → ⊥
no_message input h body rest e is =
    none_in_nothing h (body ++ rest) (subst (λ t. ReadsRequest t h (body ++ rest)) e is.head.reads)

pub divides_once : DividesOnce
divides_once input [] [] a b = refl
divides_once input [] (message k q ∷ b) none is = absurd (no_message input k q is.0 none is.1)
divides_once input [] (faulty g ∷ b) none is = let n : length input ≡ 0 = ap length none in absurd (omega (arith, is.0))
divides_once input (message h p ∷ a) [] is none = absurd (no_message input h p is.0 none is.1)
divides_once input (faulty f ∷ a) [] is none = let n : length input ≡ 0 = ap length none in absurd (omega (arith, is.0))
divides_once input (message h p ∷ a) (faulty g ∷ b) is bad = absurd (no_fault input h p is.0 g is.1 bad.1)
divides_once input (faulty f ∷ a) (message k q ∷ b) bad is = absurd (no_fault input k q is.0 f is.1 bad.1)
divides_once input (faulty f ∷ a) (faulty g ∷ b) x y =
    ap (λ e. faulty e ∷ a) (fault_once input f g x.1 y.1) ∙ ap (λ t. faulty g ∷ t) (x.2 ∙ sym y.2)
divides_once input (message h p ∷ a) (message k q ∷ b) x y =
    let same = message_once input h k p q x.0 y.0 x.1 y.1 in
    let first : message h p ≡ message k q = ap (λ g. message g p) same.0 ∙ ap (λ t. message k t) same.1 in
    let other : cond (closes h) (b ≡ []) (Divides x.0 b) =
    subst (λ g. cond (closes g) (b ≡ []) (Divides x.0 b)) (sym same.0)
    (subst (λ t. cond (closes k) (b ≡ []) (Divides t b)) (sym same.2) y.2) in
    ap (λ i. i ∷ a) first ∙ ap (λ t. message k q ∷ t) (tails (closes h) x.2 other (divides_once x.0 a b))
  where
    tails : (v : Bool) → cond v (a ≡ []) (Divides x.0 a) → cond v (b ≡ []) (Divides x.0 b)
        → (Divides x.0 a → Divides x.0 b → a ≡ b) → a ≡ b
    tails true s t ih = s ∙ sym t
    tails false s t ih = ih s t
