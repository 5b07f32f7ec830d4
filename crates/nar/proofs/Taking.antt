-- Parts that were read one after the other, and a fault after them.
use Rattle.std.proofs.Common.{◌≡◌, ℕ, ◌+◌, ◌-◌, ◌^◌, ◌<◌, false, List, [], ◌∷◌, ◌++◌, length, Some, Result, Ok, Err}
use Rattle.std.proofs.Common.{refl, sym, ap, ◌∙◌, subst, append_assoc, append-nil, arith}
use Rattle.std.specs.Prelude.{IsErrAnd, IfOk, IfErr, MatchResult}
use Rattle.std.specs.Str.{bytes_eq}
use Rattle.std.proofs.lemmas.List.{length-append}
use Rattle.std.proofs.lemmas.Grind.{flat_map-append}
use Rattle.nar.specs.declared.error.NarError.{NarError}
use Rattle.nar.specs.declared.error.NarError.TheVariants.{BadTag}
use Rattle.nar.specs.String.{string, string_at, size_of}
use Rattle.nar.specs.Tree.{IsBytes}
use Rattle.nar.specs.Archive.{Part, other, spelled, IsShallow, spelling}
use Rattle.nar.specs.Steps.{Symbol, word, check, run, FaultAt, stops, refuses}
use Rattle.nar.specs.Reader.{ReadsString, Reads, FaultOf}
use Rattle.nar.proofs.Strings.{length-string}
use Rattle.nar.proofs.Bytes.{all_append}
use Rattle.nar.proofs.Faults.{before}

pub string_err : (x : Symbol) (σ : List Symbol) (room : ℕ) (bytes : List ℕ) (e : NarError)
    → string_at room bytes ≡ Err e → FaultOf (x ∷ σ) room bytes e
string_err x σ room bytes e h = λ _ κ. stops h

pub tag_err : (x : Symbol) (σ : List Symbol) {room : ℕ} {bytes s : List ℕ} {left : ℕ} {rest : List ℕ} (e : NarError)
    → ReadsString room bytes s left rest → check x s ≡ Err e → FaultOf (x ∷ σ) room bytes e
tag_err x σ e r h = λ _ κ. refuses r.is h

pub read_part : (p : Part) {room : ℕ} {bytes : List ℕ} {left : ℕ} {rest : List ℕ} → IsShallow p
    → ReadsString room bytes (spelled p) left rest → Reads room bytes (p ∷ []) left rest
read_part p {room = room} {bytes = bytes} {left = left} {rest = rest} h r =
    let none : string (spelled p) ++ [] ≡ string (spelled p) = append-nil (string (spelled p)) in
    let size : size_of (length (spelled p)) + left ≡ room = r.size in
    record {
      spells = r.parts ∙ ap (λ (v : List ℕ). v ++ rest) (sym none);
      shallow = (h, tt);
      are_bytes = (r.text_bytes, tt);
      size = omega (arith, ap length none, length-string (spelled p));
    }

pub reads_then : {room : ℕ} {bytes : List ℕ} {ps qs : List Part} {left : ℕ} {rest : List ℕ} {more : ℕ} {last : List ℕ}
    → Reads room bytes ps left rest → Reads left rest qs more last → Reads room bytes (ps ++ qs) more last
reads_then {ps = ps} {qs = qs} {rest = rest} {more = more} {last = last} a b =
    let both : spelling (ps ++ qs) ≡ spelling ps ++ spelling qs = flat_map-append (λ p. string (spelled p)) ps qs in
    let sa = a.size in
    let sb = b.size in
    record {
      spells =
          a.spells ∙ ap (λ (v : List ℕ). spelling ps ++ v) b.spells
          ∙ sym (append_assoc (spelling ps) (spelling qs) last) ∙ ap (λ (v : List ℕ). v ++ last) (sym both);
      shallow = all_append IsShallow ps qs a.shallow b.shallow;
      are_bytes = all_append (λ p. IsBytes (spelled p)) ps qs a.are_bytes b.are_bytes;
      size = omega (arith, ap length both, length-append (spelling ps) (spelling qs), sa, sb);
    }

-- a fault after parts that were read is one where they were to be read
pub fault_then : (σ τ : List Symbol) (ps : List Part) {room : ℕ} {bytes : List ℕ} {left : ℕ} {rest : List ℕ}
    (e : NarError) → room < 2 ^ 64 → Reads room bytes ps left rest
    → ((κ : List Symbol) → run (σ ++ κ) ps ≡ Some (τ ++ κ)) → FaultOf τ left rest e → FaultOf σ room bytes e
fault_then σ τ ps {room = room} {bytes = bytes} {left = left} {rest = rest} e lt r at h = λ fault κ.
    let size : length (spelling ps) + left ≡ room = r.size in
    let same : left ≡ room - length (spelling ps) = omega arith in
    let present =
    before ps (σ ++ κ) (τ ++ κ) room rest e (at κ) r.shallow (omega arith) lt
    (subst (λ (k : ℕ). FaultAt (τ ++ κ) k rest e) same (h fault κ)) in
    subst (λ (v : List ℕ). FaultAt (σ ++ κ) room v e) (sym r.spells) present

pub bytes_differ : (s w : List ℕ) → bytes_eq s w ≡ false → check (word w) s ≡ Err BadTag
bytes_differ s w e = rw e refl

-- a fault at the first symbol, whatever else is to come
pub fault_more : (x : Symbol) (σ : List Symbol) (room : ℕ) (bytes : List ℕ) (e : NarError)
    → FaultOf (x ∷ []) room bytes e → FaultOf (x ∷ σ) room bytes e
fault_more x σ room bytes e h = λ fault κ. h fault (σ ++ κ)

-- an error that a `?` passes on
pub passed_on : {T : Type 0} (r : Result T NarError) (P : NarError → Type 0) (e : NarError) → IsErrAnd r (λ d. d ≡ e)
    → P e → IfErr r P
passed_on (Ok x) P e is h = tt
passed_on (Err d) P e is h = subst P (sym is) h

-- a word that was read and tested
pub tested : (w : List ℕ) {room : ℕ} {bytes s : List ℕ} {left : ℕ} {rest : List ℕ} → ReadsString room bytes s left rest
    → s ≡ w → Reads room bytes (other w ∷ []) left rest
tested w {room = room} {bytes = bytes} {left = left} {rest = rest} r is =
    subst (λ (v : List ℕ). Reads room bytes (other v ∷ []) left rest) is (read_part (other _) tt r)

-- a fault at the first symbols, whatever else is to come
pub fault_append : (σ τ : List Symbol) (room : ℕ) (bytes : List ℕ) (e : NarError) → FaultOf σ room bytes e
    → FaultOf (σ ++ τ) room bytes e
fault_append σ τ room bytes e h =
    λ fault κ. subst (λ (v : List Symbol). FaultAt v room bytes e) (sym (append_assoc σ τ κ)) (h fault (τ ++ κ))

-- both outcomes of a result, one by one
pub if_ok : {T : Type 0} (r : Result T NarError) (P : T → Type 0) (Q : NarError → Type 0) → MatchResult r P Q → IfOk r P
if_ok (Ok x) P Q h = h
if_ok (Err e) P Q h = tt

pub if_err : {T : Type 0} (r : Result T NarError) (P : T → Type 0) (Q : NarError → Type 0) → MatchResult r P Q
    → IfErr r Q
if_err (Ok x) P Q h = tt
if_err (Err e) P Q h = h

pub matched : {T : Type 0} (r : Result T NarError) (P : T → Type 0) (Q : NarError → Type 0) (e : NarError)
    → IsErrAnd r (λ d. d ≡ e) → Q e → MatchResult r P Q
matched (Ok x) P Q e is h = absurd is
matched (Err d) P Q e is h = subst Q (sym is) h
