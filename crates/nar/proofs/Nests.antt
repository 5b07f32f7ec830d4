-- A nest at its ends.
use Rattle.std.proofs.Common.{◌≡◌, ◌≢◌, ℕ, Bool, true, false, List, [], ◌∷◌, length, map, reverse, eqb, cond, Result}
use Rattle.std.proofs.Common.{Ok, Err, refl, sym, ap, ◌∙◌, arith, ◌<◌, Option}
use Rattle.std.specs.Global.{Vec}
use Rattle.std.proofs.lemmas.Bool.{eqb-true, eq-eqb, ltb-true}
use Rattle.std.proofs.lemmas.List.{nil_from_length, length-map, length-reverse}
use Rattle.std.specs.Prelude.{codes, IsTrue}
use Rattle.std.specs.Str.{bytes_eq}
use Rattle.nar.specs.declared.error.NarError.{NarError}
use Rattle.nar.specs.declared.error.NarError.TheVariants.{BadTag}
use Rattle.nar.specs.declared.nest.Phase.{Phase}
use Rattle.nar.specs.declared.nest.Phase.TheVariants as phases
use Rattle.nar.specs.Steps.{Symbol, word}
use Rattle.nar.specs.Nest.{under, symbols, next, Continues, AwaitsKeyword, is_counted}
use Rattle.nar.proofs.Bytes.{differ}

pub under_refuses : (names : List (List ℕ)) (s : List ℕ) → under names ≢ [] → bytes_eq s (codes ")") ≡ false
    → next (under names) s ≡ Err BadTag
under_refuses [] s some e = absurd (some refl)
under_refuses (n ∷ names) s some e = rw e refl

under_none : (names : List (List ℕ)) → under names ≡ [] → names ≡ []
under_none [] e = refl
under_none (n ∷ names) e = absurd cc

-- nothing is to come where no entry is open
pub none_open : (vs : List (Vec ℕ)) (b : Bool) → b ≡ eqb (length vs) 0
    → (b ≡ true → under (reverse (map (λ v. v.items) vs)) ≡ [])
    × (under (reverse (map (λ v. v.items) vs)) ≡ [] → b ≡ true)
none_open vs b is = (
  λ e. (let none : vs ≡ [] = nil_from_length vs (eqb-true _ 0 (sym is ∙ e)) in
      ap (λ (us : List (Vec ℕ)). under (reverse (map (λ v. v.items) us))) none),
  λ e. is ∙ eq-eqb (length vs) 0
      (sym (length-map vs (λ v. v.items)) ∙ sym (length-reverse (map (λ v. v.items) vs)) ∙ ap length (under_none _ e)),
)

-- ---- a string that is longer than each fixed string

longer_differs : (s w : List ℕ) → length w < length s → bytes_eq s w ≡ false
longer_differs s w h = differ s w (λ e. (let q : length s ≡ length w = ap length e in absurd (omega arith)))

refused_word : (w : List ℕ) (κ : List Symbol) (s : List ℕ) → length w < length s → next (word w ∷ κ) s ≡ Err BadTag
refused_word w κ s h = (let e : bytes_eq s w ≡ false = longer_differs s w h in rw e refl)

refused_under : (names : List (List ℕ)) (s : List ℕ) → 13 < length s → under names ≢ []
    → next (under names) s ≡ Err BadTag
refused_under names s h some = under_refuses names s some (longer_differs s (codes ")") (omega arith))

long_refused : (phase : Phase) (last : Option (List ℕ)) (names : List (List ℕ)) (s : List ℕ) → AwaitsKeyword phase
    → phase ≢ phases.Data → 13 < length s → next (symbols phase last names) s ≡ Err BadTag
long_refused phases.Magic last names s h other long = refused_word (codes "nix-archive-1") _ s long
long_refused phases.Open last names s h other long = refused_word (codes "(") _ s (omega arith)
long_refused phases.Type last names s h other long = refused_word (codes "type") _ s (omega arith)
long_refused phases.Kind last names s h other long = absurd h
long_refused phases.File last names s h other long =
    let a : bytes_eq s (codes "executable") ≡ false = longer_differs s _ (omega arith) in
    let b : bytes_eq s (codes "contents") ≡ false = longer_differs s _ (omega arith) in
    rw (a, b) refl
long_refused phases.Empty last names s h other long = refused_word [] _ s (omega arith)
long_refused phases.Contents last names s h other long = refused_word (codes "contents") _ s (omega arith)
long_refused phases.Target last names s h other long = refused_word (codes "target") _ s (omega arith)
long_refused phases.Data last names s h other long = absurd (other refl)
long_refused phases.Close last names s h other long = refused_word (codes ")") _ s (omega arith)
long_refused phases.Entries last names s h other long =
    let a : bytes_eq s (codes ")") ≡ false = longer_differs s _ (omega arith) in
    let b : bytes_eq s (codes "entry") ≡ false = longer_differs s _ (omega arith) in
    rw (a, b) refl
long_refused phases.EntryOpen last names s h other long = refused_word (codes "(") _ s (omega arith)
long_refused phases.NameWord last names s h other long = refused_word (codes "name") _ s (omega arith)
long_refused phases.Name last names s h other long = absurd h
long_refused phases.NodeWord last names s h other long =
    (let a : bytes_eq s (codes "node") ≡ false = longer_differs s _ (omega arith) in rw a refl)
long_refused phases.Under last names s h other long = absurd h

kind_refused : (last : Option (List ℕ)) (names : List (List ℕ)) (s : List ℕ) → 13 < length s
    → next (symbols phases.Kind last names) s ≡ Err BadTag
kind_refused last names s long =
    let a : bytes_eq s (codes "regular") ≡ false = longer_differs s _ (omega arith) in
    let b : bytes_eq s (codes "symlink") ≡ false = longer_differs s _ (omega arith) in
    let d : bytes_eq s (codes "directory") ≡ false = longer_differs s _ (omega arith) in
    rw (a, b, d) refl

-- what is counted is refused, but where any string may be
pub counted_refused : (phase : Phase) (last : Option (List ℕ)) (names : List (List ℕ)) (s : List ℕ)
    → phase ≢ phases.Data → IsTrue (is_counted phase (length s)) → symbols phase last names ≢ []
    → next (symbols phase last names) s ≡ Err BadTag
counted_refused phases.Name last names s other h some = absurd (let q : false ≡ true = h in cc)
counted_refused phases.Data last names s other h some = absurd (other refl)
counted_refused phases.Kind last names s other h some = kind_refused last names s (ltb-true 13 (length s) h)
counted_refused phases.Under last names s other h some = refused_under names s (ltb-true 13 (length s) h) some
counted_refused phases.Magic last names s other h some =
    long_refused phases.Magic last names s tt other (ltb-true 13 (length s) h)
counted_refused phases.Open last names s other h some =
    long_refused phases.Open last names s tt other (ltb-true 13 (length s) h)
counted_refused phases.Type last names s other h some =
    long_refused phases.Type last names s tt other (ltb-true 13 (length s) h)
counted_refused phases.File last names s other h some =
    long_refused phases.File last names s tt other (ltb-true 13 (length s) h)
counted_refused phases.Empty last names s other h some =
    long_refused phases.Empty last names s tt other (ltb-true 13 (length s) h)
counted_refused phases.Contents last names s other h some =
    long_refused phases.Contents last names s tt other (ltb-true 13 (length s) h)
counted_refused phases.Target last names s other h some =
    long_refused phases.Target last names s tt other (ltb-true 13 (length s) h)
counted_refused phases.Close last names s other h some =
    long_refused phases.Close last names s tt other (ltb-true 13 (length s) h)
counted_refused phases.Entries last names s other h some =
    long_refused phases.Entries last names s tt other (ltb-true 13 (length s) h)
counted_refused phases.EntryOpen last names s other h some =
    long_refused phases.EntryOpen last names s tt other (ltb-true 13 (length s) h)
counted_refused phases.NameWord last names s other h some =
    long_refused phases.NameWord last names s tt other (ltb-true 13 (length s) h)
counted_refused phases.NodeWord last names s other h some =
    long_refused phases.NodeWord last names s tt other (ltb-true 13 (length s) h)

-- ---- a fixed word

pub word_goes : (s w : List ℕ) (after : Phase) (r : Result Phase NarError) (last : Option (List ℕ))
    (names : List (List ℕ)) → r ≡ cond (bytes_eq s w) (Ok after) (Err BadTag)
    → Continues (next (word w ∷ symbols after last names) s) r last names
word_goes s w after r last names e = rw e (by_test (bytes_eq s w) refl)
  where
    by_test : (b : Bool) → bytes_eq s w ≡ b
        → Continues (next (word w ∷ symbols after last names) s) (cond b (Ok after) (Err BadTag)) last names
    by_test true t = rw t (rw t refl)
    by_test false t = rw t refl
