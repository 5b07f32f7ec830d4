-- The whole input.
use Rattle.std.proofs.Common.{◌≡◌, ◌≢◌, ℕ, ◌+◌, List, [], ◌∷◌, ◌++◌, length, Result, Ok, Err, refl, sym, ap, ◌∙◌, subst}
use Rattle.std.proofs.Common.{append-nil, arith}
use Rattle.std.specs.Prelude.{codes, IfOk, IfErr, MatchResult}
use Rattle.nar.specs.declared.error.NarError.{NarError}
use Rattle.nar.specs.declared.error.NarError.TheVariants.{Trailing, Memory, Truncated, BadTag, BadPadding, BadName}
use Rattle.nar.specs.declared.error.NarError.TheVariants.{NotSorted, TooDeep, TooLarge}
use Rattle.nar.specs.Tree.{Tree, IsBytes}
use Rattle.nar.specs.Archive.{other, archive, IsArchive, spelling, limit}
use Rattle.nar.specs.Fault.{IsFault}
use Rattle.nar.specs.Answer.{IfFault}
use Rattle.nar.specs.Steps.{start, FaultAt, trails}
use Rattle.nar.specs.Reader.{Reads, ReadsNode, FaultOf}
use Rattle.nar.proofs.Grammar.{walk}
use Rattle.nar.proofs.Faults.{before, one_cause, archive_has_none}
use Rattle.nar.proofs.Longest.{found}
use Rattle.nar.proofs.Unique.{one_reading}
use Rattle.nar.proofs.Taking.{reads_then}

pub top_fault : (input : List ℕ) (e : NarError) → IsBytes input → FaultOf start limit input e
    → IfFault e (IsFault input)
top_fault input e h f = λ fault. found input e h (f fault [])

-- the first word and a node
pub top_reads : {input : List ℕ} {left : ℕ} {rest : List ℕ} {t : Tree} {more : ℕ} {end : List ℕ}
    → Reads limit input (other (codes "nix-archive-1") ∷ []) left rest → ReadsNode 1 left rest t more end
    → Reads limit input (archive t) more end
top_reads a n = reads_then a n.parts

pub is_archive : {input : List ℕ} {t : Tree} {more : ℕ} {end : List ℕ} {left : ℕ} {rest : List ℕ}
    → ReadsNode 1 left rest t more end → Reads limit input (archive t) more end → end ≡ [] → IsArchive t input
is_archive {input = input} {t = t} n r none =
    let size = r.size in
    let whole : input ≡ spelling (archive t) =
    r.spells ∙ ap (λ (v : List ℕ). spelling (archive t) ++ v) none ∙ append-nil (spelling (archive t)) in
    record { legal = n.named; shallow = r.shallow; spells = whole; fits = omega (arith, ap length whole) }

pub trails_after : {input : List ℕ} {t : Tree} {more : ℕ} {end : List ℕ} {left : ℕ} {rest : List ℕ} → IsBytes input
    → ReadsNode 1 left rest t more end → Reads limit input (archive t) more end → end ≢ [] → IsFault input Trailing
trails_after {input = input} {t = t} {more = more} {end = end} h n r some =
    let size : length (spelling (archive t)) + more ≡ limit = r.size in
    let present =
    before (archive t) start [] limit end Trailing (walk t n.named) r.shallow (omega arith) (omega arith)
    (trails some) in
    found input Trailing h (subst (λ (v : List ℕ). FaultAt start limit v Trailing) (sym r.spells) present)

-- ---- both ways

-- an error that is no fault is out of memory
pub only_memory : (e : NarError) → IfFault e (λ _. ⊥) → e ≡ Memory
only_memory Memory h = refl
only_memory Truncated h = absurd (h (λ (q : Truncated ≡ Memory). cc))
only_memory BadTag h = absurd (h (λ (q : BadTag ≡ Memory). cc))
only_memory BadPadding h = absurd (h (λ (q : BadPadding ≡ Memory). cc))
only_memory BadName h = absurd (h (λ (q : BadName ≡ Memory). cc))
only_memory NotSorted h = absurd (h (λ (q : NotSorted ≡ Memory). cc))
only_memory TooDeep h = absurd (h (λ (q : TooDeep ≡ Memory). cc))
only_memory Trailing h = absurd (h (λ (q : Trailing ≡ Memory). cc))
only_memory TooLarge h = absurd (h (λ (q : TooLarge ≡ Memory). cc))

pub gives_archive : {X : Type 0} (view : X → Tree) (r : Result X NarError) (input : List ℕ) (t : Tree) → IsBytes input
    → IfOk r (λ x. IsArchive (view x) input) → IfErr r (λ e. IfFault e (IsFault input)) → IsArchive t input
    → MatchResult r (λ x. view x ≡ t) (λ e. e ≡ Memory)
gives_archive view (Ok x) input t b a f h = one_reading (view x) t input a h
gives_archive view (Err e) input t b a f h = only_memory e (λ fault. archive_has_none t input e b h (f fault))

pub gives_fault : {X : Type 0} (view : X → Tree) (r : Result X NarError) (input : List ℕ) (g : NarError) → IsBytes input
    → IfOk r (λ x. IsArchive (view x) input) → IfErr r (λ e. IfFault e (IsFault input)) → IsFault input g
    → MatchResult r (λ x. ⊥) (λ e. IfFault e (λ f. f ≡ g))
gives_fault view (Ok x) input g b a f h = archive_has_none (view x) input g b a h
gives_fault view (Err e) input g b a f h = λ fault. one_cause input e g b (f fault) h
