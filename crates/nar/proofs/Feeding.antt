-- A checker that is fed pieces: one step on, the fault that it finds, and its end.
use Rattle.std.proofs.Common.{◌≡◌, ◌≢◌, ℕ, ◌+◌, ◌-◌, ◌≤◌, Bool, false, cond, ltb, eqb, List, [], ◌∷◌, ◌++◌, length}
use Rattle.std.proofs.Common.{take, drop, Option, Some, None, Result, Ok, Err, refl, sym, ap, ◌∙◌, subst, append_assoc}
use Rattle.std.proofs.Common.{append-nil, arith, inl, inr}
use Rattle.std.specs.Prelude.{option_and_then}
use Rattle.std.specs.List.{AllByRecursion, list_all}
use Rattle.std.specs.Int.{w64, from_le_bytes}
use Rattle.std.proofs.lemmas.Bool.{ltb-false, le-ltb}
use Rattle.std.proofs.lemmas.List.{length-append, take-append-le, drop-append-le, length-drop}
use Rattle.nar.specs.declared.error.NarError.{NarError}
use Rattle.nar.specs.declared.error.NarError.TheVariants.{Truncated, TooLarge, BadPadding, Trailing}
use Rattle.nar.specs.String.{string, padded, size_of, length_at, string_of_length, string_at}
use Rattle.nar.specs.Tree.{Tree, IsBytes}
use Rattle.nar.specs.Archive.{Part, archive, IsShallow, IsArchive, spelling, limit}
use Rattle.nar.specs.Fault.{IsFault, Refuses}
use Rattle.nar.specs.Steps.{Symbol, consumed, start, check, FaultAt, trails, stops, refuses, continues}
use Rattle.nar.specs.Reader.{ReadsString}
use Rattle.nar.specs.Answer.{IfFault}
use Rattle.nar.specs.Feeding.{Fed, Waits, EndsIn}
use Rattle.nar.specs.Nest.{left_by, left_at, next}
use Rattle.nar.proofs.Grammar.{chosen}
use Rattle.nar.proofs.Strings.{length-string, padded_le, string_takes}
use Rattle.nar.proofs.Machine.{checked, next_run, whole_from_run, refused, bytes_more}
use Rattle.nar.proofs.Faults.{found_by, fault_at, one_cause, archive_has_none, shallow_more, spelling-push, ok_is}
use Rattle.nar.proofs.Longest.{as_fault, found}
use Rattle.nar.proofs.Bytes.{IsBytes-append, IsBytes-rest, IsBytes-prefix}
use Rattle.nar.proofs.Files.{spelling_bytes}

-- nothing was fed yet
pub fed_none : Fed start limit [] []
fed_none = record { parts = []; spells = refl; takes = refl; shallow = tt; are_bytes = tt; size = refl }

-- a piece more
pub fed_more : (σ : List Symbol) (room : ℕ) (rest bytes piece : List ℕ) → Fed σ room rest bytes
    → Fed σ room (rest ++ piece) (bytes ++ piece)
fed_more σ room rest bytes piece f = record {
  parts = f.parts;
  spells = ap (λ (v : List ℕ). v ++ piece) f.spells ∙ append_assoc (spelling f.parts) rest piece;
  takes = f.takes;
  shallow = f.shallow;
  are_bytes = f.are_bytes;
  size = f.size;
}

-- a string taken
pub fed_step : (x : Symbol) (κ σ : List Symbol) (p : Part) (room : ℕ) (rest bytes s : List ℕ) (left : ℕ)
    (after : List ℕ) → Fed (x ∷ κ) room rest bytes → ReadsString room rest s left after
    → check x s ≡ Ok p → consumed x p ≡ Some σ → Fed (σ ++ κ) left after bytes
fed_step x κ σ p room rest bytes s left after f r ok takes =
    let c = checked x s p ok in
    let ps = f.parts in
    let pushed : spelling (ps ++ p ∷ []) ≡ spelling ps ++ string s =
    spelling-push ps p ∙ ap (λ (v : List ℕ). spelling ps ++ string v) c.same in
    let one : size_of (length s) + left ≡ room = r.size in
    let two : length (spelling ps) + room ≡ limit = f.size in
    record {
      parts = ps ++ p ∷ [];
      spells =
          f.spells ∙ ap (λ (v : List ℕ). spelling ps ++ v) r.parts ∙ sym (append_assoc (spelling ps) (string s) after)
          ∙ ap (λ (v : List ℕ). v ++ after) (sym pushed);
      takes = next_run ps x κ f.takes p ∙ ap (option_and_then (λ (v : List Symbol). Some (v ++ κ))) takes;
      shallow = shallow_more ps p f.shallow c.shallow;
      are_bytes = bytes_more ps p f.are_bytes (subst IsBytes (sym c.same) r.text_bytes);
      size = omega (arith, ap length pushed, length-append (spelling ps) (string s), length-string s);
    }

-- a fault of the rest is one of the bytes
pub fed_fault : (σ : List Symbol) (room : ℕ) (rest bytes : List ℕ) (e : NarError) → Fed σ room rest bytes → IsBytes rest
    → FaultAt σ room rest e → IsFault bytes e
fed_fault σ room rest bytes e f h g =
    let whole : IsBytes (spelling f.parts ++ rest) =
    IsBytes-append (spelling f.parts) rest (spelling_bytes f.parts f.are_bytes) h in
    subst (λ (v : List ℕ). IsFault v e) (sym f.spells)
    (as_fault (spelling f.parts ++ rest) e whole
    (found_by g f.parts f.takes (record { are_bytes = f.are_bytes; shallow = f.shallow; size = f.size }) h))

-- what is left of bytes is bytes
pub fed_rest : (σ : List Symbol) (room : ℕ) (rest all : List ℕ) → Fed σ room rest all → IsBytes all → IsBytes rest
fed_rest σ room rest all f h = IsBytes-rest (spelling f.parts) rest (subst IsBytes f.spells h)

-- at the end of an archive
pub fed_archive : (room : ℕ) (bytes : List ℕ) → Fed [] room [] bytes → (t : Tree) × IsArchive t bytes
fed_archive room bytes f =
    let w = whole_from_run f.parts f.are_bytes f.takes in
    let whole : bytes ≡ spelling (archive w.0) = f.spells ∙ append-nil (spelling f.parts) ∙ ap spelling (sym w.2) in
    let size : length (spelling f.parts) + room ≡ limit = f.size in
    let fits : length bytes ≤ limit = omega (arith, ap length f.spells, length-append (spelling f.parts) []) in (
      w.0,
      record {
        legal = w.1;
        shallow = subst (λ (ps : List Part). AllByRecursion IsShallow ps) (sym w.2) f.shallow;
        spells = whole;
        fits = fits;
      },
    )

-- while it waits, the bytes have no fault but want of more
pub waits_only : (σ : List Symbol) (room : ℕ) (rest bytes : List ℕ) (e : NarError) → Fed σ room rest bytes
    → Waits σ room rest → IsBytes bytes → IsFault bytes e → e ≡ Truncated
waits_only [] room rest bytes e f w h g =
    let a = fed_archive room bytes (subst (λ (v : List ℕ). Fed [] room v bytes) w f) in
    absurd (archive_has_none a.0 bytes e h a.1 g)
waits_only (x ∷ κ) room rest bytes e f w h g =
    one_cause bytes e Truncated h g
    (fed_fault (x ∷ κ) room rest bytes Truncated f (fed_rest (x ∷ κ) room rest bytes f h) (stops w))

-- ---- a fault that isn't want of more stays, whatever follows

pub length_at-append : (bytes more : List ℕ) → 8 ≤ length bytes → length_at (bytes ++ more) ≡ length_at bytes
length_at-append bytes more long = ap (from_le_bytes w64) (take-append-le 8 bytes more long)

abbrev pub padding_of : ℕ → List ℕ → Bool
padding_of n bytes = list_all (λ b. eqb b 0) (take (padded n - n) (drop n (drop 8 bytes)))

append_whole : (n room : ℕ) (bytes more : List ℕ) → 8 ≤ length bytes → size_of n ≤ room → size_of n ≤ length bytes
    → string_of_length n room (bytes ++ more)
    ≡ cond (padding_of n bytes) (Ok (take n (drop 8 bytes), drop (size_of n) bytes ++ more)) (Err BadPadding)
unfolding string_of_length
append_whole n room bytes more long fits whole =
    let len = length-append bytes more in
    let above = padded_le n in
    let cut = length-drop 8 bytes in
    let cut2 = length-drop n (drop 8 bytes) in
    let a : ltb (length (bytes ++ more)) 8 ≡ false = le-ltb _ _ (omega arith) in
    let b : ltb room (size_of n) ≡ false = le-ltb _ _ fits in
    let d : ltb (length (bytes ++ more)) (size_of n) ≡ false = le-ltb _ _ (omega arith) in
    let body : drop 8 (bytes ++ more) ≡ drop 8 bytes ++ more = drop-append-le 8 bytes more long in
    let tail : drop n (drop 8 bytes ++ more) ≡ drop n (drop 8 bytes) ++ more =
    drop-append-le n (drop 8 bytes) more (omega arith) in
    let gap : take (padded n - n) (drop n (drop 8 bytes) ++ more) ≡ take (padded n - n) (drop n (drop 8 bytes)) =
    take-append-le (padded n - n) (drop n (drop 8 bytes)) more (omega arith) in
    let text : take n (drop 8 bytes ++ more) ≡ take n (drop 8 bytes) =
    take-append-le n (drop 8 bytes) more (omega arith) in
    let after : drop (size_of n) (bytes ++ more) ≡ drop (size_of n) bytes ++ more =
    drop-append-le (size_of n) bytes more whole in
    rw (a, b, d, body, tail, gap, text, after) refl

pub not_ok : {A : Type 0} {B : Type 0} (d : NarError) (y : A) → Err d ≡ Ok y → B
not_ok d y e = absurd cc

append_ok : (n room : ℕ) (bytes more s rest : List ℕ) → string_of_length n room bytes ≡ Ok (s, rest)
    → string_of_length n room (bytes ++ more) ≡ Ok (s, rest ++ more)
unfolding string_of_length
append_ok n room bytes more s rest e =
    elim (chosen (ltb (length bytes) 8) _ _ _ e) [
      | inl a ↦ not_ok Truncated (s, rest) a.1
      | inr a ↦ elim (chosen (ltb room (size_of n)) _ _ _ a.1) [
        | inl b ↦ not_ok TooLarge (s, rest) b.1
        | inr b ↦ elim (chosen (ltb (length bytes) (size_of n)) _ _ _ b.1) [
          | inl d ↦ not_ok Truncated (s, rest) d.1
          | inr d ↦ elim (chosen (padding_of n bytes) _ _ _ d.1) [
            | inl z ↦
                let q =
                ok_is (Ok (take n (drop 8 bytes), drop (size_of n) bytes))
                (take n (drop 8 bytes), drop (size_of n) bytes) (s, rest) refl z.1 in
                append_whole n room bytes more (ltb-false _ _ a.0) (ltb-false _ _ b.0) (ltb-false _ _ d.0)
                ∙ rw z.0 (ap (λ (p : List ℕ × List ℕ). Ok (p.0, p.1 ++ more)) q)
            | inr z ↦ not_ok BadPadding (s, rest) z.1
          ]
        ]
      ]
    ]

cut_short : {B : Type 0} (f : NarError) (r : Result (List ℕ × List ℕ) NarError) → (f ≢ Truncated) → r ≡ Err Truncated
    → r ≡ Err f → B
cut_short f r other e g = (let q : Err Truncated ≡ Err f = sym e ∙ g in absurd (other (cc)))

append_err : (n room : ℕ) (bytes more : List ℕ) (f : NarError) → f ≢ Truncated → string_of_length n room bytes ≡ Err f
    → string_of_length n room (bytes ++ more) ≡ Err f
unfolding string_of_length
append_err n room bytes more f other e =
    elim (chosen (ltb (length bytes) 8) _ _ _ e) [
      | inl a ↦ cut_short f (Err Truncated) other refl a.1
      | inr a ↦
          let len = length-append bytes more in
          let long : 8 ≤ length bytes = ltb-false _ _ a.0 in
          let long2 : ltb (length (bytes ++ more)) 8 ≡ false = le-ltb _ _ (omega arith) in
          elim (chosen (ltb room (size_of n)) _ _ _ a.1) [
            | inl b ↦ rw (long2, b.0) b.1
            | inr b ↦ elim (chosen (ltb (length bytes) (size_of n)) _ _ _ b.1) [
              | inl d ↦ cut_short f (Err Truncated) other refl d.1
              | inr d ↦ elim (chosen (padding_of n bytes) _ _ _ d.1) [
                | inl z ↦ not_ok f (take n (drop 8 bytes), drop (size_of n) bytes) (sym z.1)
                | inr z ↦ append_whole n room bytes more long (ltb-false _ _ b.0) (ltb-false _ _ d.0) ∙ rw z.0 z.1
              ]
            ]
          ]
    ]

ok_long : (n room : ℕ) (bytes : List ℕ) (y : List ℕ × List ℕ) → string_of_length n room bytes ≡ Ok y → 8 ≤ length bytes
unfolding string_of_length
ok_long n room bytes y e =
    elim (chosen (ltb (length bytes) 8) _ _ _ e) [
      | inl a ↦ not_ok Truncated y a.1
      | inr a ↦ ltb-false _ _ a.0
    ]

err_long : (n room : ℕ) (bytes : List ℕ) (f : NarError) → f ≢ Truncated → string_of_length n room bytes ≡ Err f
    → 8 ≤ length bytes
unfolding string_of_length
err_long n room bytes f other e =
    elim (chosen (ltb (length bytes) 8) _ _ _ e) [
      | inl a ↦ cut_short f (Err Truncated) other refl a.1
      | inr a ↦ ltb-false _ _ a.0
    ]

string_ok_more : (room : ℕ) (bytes more s rest : List ℕ) → string_at room bytes ≡ Ok (s, rest)
    → string_at room (bytes ++ more) ≡ Ok (s, rest ++ more)
string_ok_more room bytes more s rest e =
    ap (λ (n : ℕ). string_of_length n room (bytes ++ more))
    (length_at-append bytes more (ok_long (length_at bytes) room bytes (s, rest) e))
    ∙ append_ok (length_at bytes) room bytes more s rest e

string_err_more : (room : ℕ) (bytes more : List ℕ) (f : NarError) → f ≢ Truncated → string_at room bytes ≡ Err f
    → string_at room (bytes ++ more) ≡ Err f
string_err_more room bytes more f other e =
    ap (λ (n : ℕ). string_of_length n room (bytes ++ more))
    (length_at-append bytes more (err_long (length_at bytes) room bytes f other e))
    ∙ append_err (length_at bytes) room bytes more f other e

some_more : (bytes more : List ℕ) → bytes ≢ [] → bytes ++ more ≢ []
some_more [] more some e = some refl
some_more (b ∷ bytes) more some e = cc

stays : {σ : List Symbol} {room : ℕ} {bytes : List ℕ} {f : NarError} → FaultAt σ room bytes f → (more : List ℕ)
    → f ≢ Truncated → FaultAt σ room (bytes ++ more) f
stays (trails {bytes = bytes} some) more other = trails (some_more bytes more some)
stays (stops {room = room} {bytes = bytes} {e = e} is) more other = stops (string_err_more room bytes more e other is)
stays (refuses {room = room} {bytes = bytes} {s = s} {rest = rest} is bad) more other =
    refuses (string_ok_more room bytes more s rest is) bad
stays (continues {room = room} {bytes = bytes} {s = s} {rest = rest} is ok takes later) more other =
    continues (string_ok_more room bytes more s rest is) ok takes (stays later more other)

-- what is wrong stays wrong, whatever follows
pub fault_stays : (bytes more : List ℕ) (f : NarError) → IsBytes (bytes ++ more) → f ≢ Truncated → IsFault bytes f
    → IsFault (bytes ++ more) f
fault_stays bytes more f h other g =
    found (bytes ++ more) f h (stays (fault_at bytes f (IsBytes-prefix bytes more h) g) more other)

-- ---- by `next`

abbrev done : List Symbol → Result (List Symbol) NarError
done σ = Ok σ

left_some : (κ : List Symbol) (o : Option (List Symbol)) (τ : List Symbol) → left_by κ o ≡ Ok τ
    → (σ : List Symbol) × (o ≡ Some σ) × (σ ++ κ ≡ τ)
left_some κ None τ e = absurd cc
left_some κ (Some σ) τ e = (σ, refl, cc)

left_is : (x : Symbol) (κ : List Symbol) (r : Result Part NarError) (τ : List Symbol) → left_at x κ r ≡ Ok τ
    → (p : Part) × (σ : List Symbol) × (r ≡ Ok p) × (consumed x p ≡ Some σ) × (σ ++ κ ≡ τ)
left_is x κ (Ok p) τ e = let a = left_some κ (consumed x p) τ e in (p, a.0, refl, a.1, a.2)
left_is x κ (Err f) τ e = absurd cc

pub next_takes : (σ τ : List Symbol) (room : ℕ) (rest all s : List ℕ) (left : ℕ) (after : List ℕ) → next σ s ≡ Ok τ
    → ReadsString room rest s left after → Fed σ room rest all → Fed τ left after all
next_takes [] τ room rest all s left after e r f = absurd cc
next_takes (x ∷ κ) τ room rest all s left after e r f =
    let a = left_is x κ (check x s) τ e in
    subst (λ (v : List Symbol). Fed v left after all) a.4 (fed_step x κ a.1 a.0 room rest all s left after f r a.2 a.3)

left_err : (x : Symbol) (κ : List Symbol) (s : List ℕ) (r : Result Part NarError) (f : NarError) → check x s ≡ r
    → left_at x κ r ≡ Err f → check x s ≡ Err f
left_err x κ s (Ok p) f is e =
    let c = checked x s p is in
    let q : done (c.left ++ κ) ≡ Err f = sym (ap (left_by κ) c.takes) ∙ e in
    absurd cc
left_err x κ s (Err g) f is e = (let q : Err g ≡ Err f = e in is ∙ ap Err (cc))

truncated_or : (ps : List Part) (s : List ℕ) (f : NarError) → Refuses ps s f → f ≢ Truncated
truncated_or ps s f h e = subst (λ (g : NarError). Refuses ps s g) e h

pub next_refuses : (σ : List Symbol) (room : ℕ) (rest all s : List ℕ) (left : ℕ) (after : List ℕ) (f : NarError)
    → next σ s ≡ Err f → σ ≢ [] → ReadsString room rest s left after → IsBytes rest → Fed σ room rest all
    → IsFault all f × (f ≢ Truncated)
next_refuses [] room rest all s left after f e some r h fed = absurd (some refl)
next_refuses (x ∷ κ) room rest all s left after f e some r h fed =
    let bad = left_err x κ s (check x s) f refl e in (
      fed_fault (x ∷ κ) room rest all f fed h (refuses r.is bad),
      truncated_or fed.parts s f (refused fed.parts fed.are_bytes x κ s f fed.takes bad),
    )

pub string_refuses : (σ : List Symbol) (room : ℕ) (rest all : List ℕ) (f : NarError) → string_at room rest ≡ Err f
    → σ ≢ [] → IsBytes rest → Fed σ room rest all → IsFault all f
string_refuses [] room rest all f e some h fed = absurd (some refl)
string_refuses (x ∷ κ) room rest all f e some h fed = fed_fault (x ∷ κ) room rest all f fed h (stops e)

pub ends_refuse : (σ : List Symbol) (room : ℕ) (rest all : List ℕ) → σ ≡ [] → rest ≢ [] → IsBytes rest
    → Fed σ room rest all → IsFault all Trailing
ends_refuse σ room rest all none some h fed =
    fed_fault [] room rest all Trailing (subst (λ (v : List Symbol). Fed v room rest all) none fed) h (trails some)

pub rest_bytes : {room : ℕ} {rest s : List ℕ} {left : ℕ} {after : List ℕ} → ReadsString room rest s left after
    → IsBytes rest → IsBytes after
rest_bytes {room = room} {rest = rest} {s = s} {after = after} r h = (string_takes room rest s after h r.is).rest_bytes

-- the two errors that end the taking of strings
pub step_err : (e : NarError) (σ τ : List Symbol) (room left : ℕ) (bytes rest s : List ℕ) (more : ℕ) (after : List ℕ)
    → IfFault e (λ f. next τ s ≡ Err f) → τ ≢ [] → ReadsString left rest s more after → IsBytes rest
    → ((all : List ℕ) → Fed σ room bytes all → Fed τ left rest all)
    → IfFault e (λ f. (all : List ℕ) → Fed σ room bytes all → IsFault all f × (f ≢ Truncated))
step_err e σ τ room left bytes rest s more after h some r b fed =
    λ fault all g. next_refuses τ left rest all s more after e (h fault) some r b (fed all g)

pub string_err_of : (d e : NarError) (σ τ : List Symbol) (room left : ℕ) (bytes rest : List ℕ)
    → string_at left rest ≡ Err e → d ≡ e → d ≢ Truncated → τ ≢ [] → IsBytes rest
    → ((all : List ℕ) → Fed σ room bytes all → Fed τ left rest all)
    → IfFault d (λ f. (all : List ℕ) → Fed σ room bytes all → IsFault all f × (f ≢ Truncated))
string_err_of d e σ τ room left bytes rest h is other some b fed = λ _ all g.
    let at : string_at left rest ≡ Err d = h ∙ ap Err (sym is) in
    (string_refuses τ left rest all d at some b (fed all g), other)

-- a fault of what was taken is one of all
pub fault_of_all : (all consumed rest : List ℕ) (f : NarError) → all ≡ consumed ++ rest → IsBytes all
    → IsFault consumed f × (f ≢ Truncated) → IsFault all f × (f ≢ Truncated)
fault_of_all all consumed rest f is h (g, other) =
    let bytes : IsBytes (consumed ++ rest) = subst IsBytes is h in
    (subst (λ (v : List ℕ). IsFault v f) (sym is) (fault_stays consumed rest f bytes other g), other)

pub ends_step : {room : ℕ} {bytes rest s : List ℕ} {left : ℕ} {after : List ℕ} → EndsIn bytes rest
    → ReadsString room rest s left after → EndsIn bytes after
ends_step {s = s} {after = after} e r =
    (e.0 ++ string s, e.1 ∙ ap (λ (v : List ℕ). e.0 ++ v) r.parts ∙ sym (append_assoc e.0 (string s) after))

prefix_none : (front rest : List ℕ) → length (front ++ rest) ≤ length rest → front ++ rest ≡ rest
prefix_none [] rest h = refl
prefix_none (x ∷ front) rest h = (let len = length-append front rest in absurd (omega arith))

-- what ends in as much is the same
pub ends_same : (bytes rest : List ℕ) → EndsIn bytes rest → length bytes ≤ length rest → bytes ≡ rest
ends_same bytes rest e h = e.1 ∙ prefix_none e.0 rest (subst (λ (v : List ℕ). length v ≤ length rest) e.1 h)
