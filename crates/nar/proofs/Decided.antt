-- Each input is an archive or has a fault, and the function says which.
use Rattle.std.proofs.Common.{◌≡◌, ℕ, zero, suc, ◌+◌, ◌-◌, ◌<◌, ◌≤◌, true, false, ltb, List, [], ◌∷◌, ◌++◌, length}
use Rattle.std.proofs.Common.{drop, Option, Some, Result, Ok, Err, refl, sym, ap, ◌∙◌, subst, arith, ◌⊎◌, inl, inr}
use Rattle.std.specs.Prelude.{option_and_then, unwrap_or, MatchResult, IfOk, IfErr, codes, ◌↔◌}
use Rattle.std.specs.List.{AllByRecursion}
use Rattle.std.proofs.lemmas.Bool.{lt-ltb}
use Rattle.std.proofs.lemmas.List.{length-append}
use Rattle.nar.specs.declared.error.NarError.{NarError}
use Rattle.nar.specs.declared.error.NarError.TheVariants.{Truncated}
use Rattle.nar.specs.String.{string, size_of, string_of_length, string_at}
use Rattle.nar.specs.Tree.{Tree, regular, symlink, directory, Entries, no_entries, entry, IsBytes}
use Rattle.nar.specs.Archive.{Part, other, spelled, kind_parts, entries_parts, archive, IsShallow, IsArchive, spelling}
use Rattle.nar.specs.Archive.{limit}
use Rattle.nar.specs.Fault.{IsFault}
use Rattle.nar.specs.Answer.{IfFault}
use Rattle.nar.specs.Steps.{Symbol, consumed, run, start, check, AreBytes, FaultAt, trails, stops, refuses, continues}
use Rattle.nar.specs.Outcome.{and_then, parts_from, kind_from, entries_from, tree_from, outcome_of}
use Rattle.nar.proofs.Strings.{length-string, Takes, string_takes}
use Rattle.nar.proofs.Machine.{Checked, checked, whole_from_run}
use Rattle.nar.proofs.Faults.{one_cause, archive_has_none}
use Rattle.nar.proofs.Longest.{found}
use Rattle.nar.proofs.Unique.{regrouped, one_reading}

-- the parts are whole where these symbols are to come, and the bytes are theirs
pub record Passes (σ : List Symbol) (room : ℕ) (bytes : List ℕ) (parts : List Part) : Type 0 where
  pub takes : run σ parts ≡ Some []
  pub shallow : AllByRecursion IsShallow parts
  pub are_bytes : AreBytes parts
  pub spells : bytes ≡ spelling parts
  pub fits : length (spelling parts) ≤ room

abbrev Decided : List Symbol → ℕ → List ℕ → Result (List Part) NarError → Type 0
Decided σ room bytes r = MatchResult r (Passes σ room bytes) (FaultAt σ room bytes)

pub short : (room : ℕ) (bytes : List ℕ) → length bytes < 8 → string_at room bytes ≡ Err Truncated
unfolding string_of_length
short room bytes h = (let few : ltb (length bytes) 8 ≡ true = lt-ltb _ _ h in rw few refl)

one_more : (x : Symbol) (κ : List Symbol) (room : ℕ) (bytes s rest : List ℕ) (p : Part)
    (r : Result (List Part) NarError) → string_at room bytes ≡ Ok (s, rest) → check x s ≡ Ok p → Takes room bytes s rest
    → (c : Checked x s p)
    → Decided (c.left ++ κ) (room - size_of (length s)) rest r
    → Decided (x ∷ κ) room bytes (and_then r (λ ps. Ok (p ∷ ps)))
one_more x κ room bytes s rest p (Err e) is ok t c f = continues is ok c.takes f
one_more x κ room bytes s rest p (Ok ps) is ok t c q =
    let same : string (spelled p) ≡ string s = ap string c.same in
    let size : size_of (length s) ≤ room = t.fits in
    let inner : length (spelling ps) ≤ room - size_of (length s) = q.fits in
    let both : length (string (spelled p) ++ spelling ps) ≡ length (string s) + length (spelling ps) =
    length-append (string (spelled p)) (spelling ps) ∙ ap (λ (v : List ℕ). length v + length (spelling ps)) same in
    let fits : length (string (spelled p) ++ spelling ps) ≤ room = omega (arith, length-string s) in
    record {
      takes = ap (option_and_then (λ (σ : List Symbol). run (σ ++ κ) ps)) c.takes ∙ q.takes;
      shallow = (c.shallow, q.shallow);
      are_bytes = (subst IsBytes (sym c.same) t.text_bytes, q.are_bytes);
      spells = t.parts ∙ ap (λ (v : List ℕ). string s ++ v) q.spells ∙ ap (λ (v : List ℕ). v ++ spelling ps) (sym same);
      fits = fits;
    }

by_check : (x : Symbol) (κ : List Symbol) (room : ℕ) (bytes s rest : List ℕ)
    (more : List Symbol → Result (List Part) NarError) (r : Result Part NarError) → string_at room bytes ≡ Ok (s, rest)
    → check x s ≡ r → Takes room bytes s rest
    → ((σ : List Symbol) → Decided σ (room - size_of (length s)) rest (more σ))
    → Decided (x ∷ κ) room bytes (and_then r
    (λ p. and_then (more (unwrap_or (consumed x p) [] ++ κ)) (λ ps. Ok (p ∷ ps))))
by_check x κ room bytes s rest more (Err f) is at t later = refuses is at
by_check x κ room bytes s rest more (Ok p) is at t later =
    let c = checked x s p at in
    let left : unwrap_or (consumed x p) [] ≡ c.left = ap (λ (o : Option (List Symbol)). unwrap_or o []) c.takes in
    let here : Decided (c.left ++ κ) (room - size_of (length s)) rest (more (unwrap_or (consumed x p) [] ++ κ)) =
    subst (λ (v : List Symbol). Decided (v ++ κ) (room - size_of (length s)) rest
    (more (unwrap_or (consumed x p) [] ++ κ))) left (later (unwrap_or (consumed x p) [] ++ κ)) in
    one_more x κ room bytes s rest p (more (unwrap_or (consumed x p) [] ++ κ)) is at t c here

by_string : (x : Symbol) (κ : List Symbol) (room : ℕ) (bytes : List ℕ)
    (more : List Symbol → ℕ → List ℕ → Result (List Part) NarError) (r : Result (List ℕ × List ℕ) NarError)
    → string_at room bytes ≡ r → IsBytes bytes
    → ((σ : List Symbol) (left : ℕ) (rest : List ℕ) → length rest < length bytes → IsBytes rest
    → Decided σ left rest (more σ left rest))
    → Decided (x ∷ κ) room bytes (and_then r
    (λ next. and_then (check x next.0)
    (λ p. and_then (more (unwrap_or (consumed x p) [] ++ κ) (room - size_of (length next.0)) next.1)
    (λ ps. Ok (p ∷ ps)))))
by_string x κ room bytes more (Err f) is h later = stops is
by_string x κ room bytes more (Ok (s, rest)) is h later =
    let t = string_takes room bytes s rest h is in
    let shorter : length rest < length bytes =
    omega (arith, ap length t.parts, length-append (string s) rest, length-string s) in
    by_check x κ room bytes s rest (λ σ. more σ (room - size_of (length s)) rest) (check x s) is refl t
    (λ σ. later σ (room - size_of (length s)) rest shorter t.rest_bytes)

decided : (steps : ℕ) (σ : List Symbol) (room : ℕ) (bytes : List ℕ) → length bytes ≤ steps → IsBytes bytes
    → Decided σ room bytes (parts_from steps σ room bytes)
decided steps [] room [] le h = record { takes = refl; shallow = tt; are_bytes = tt; spells = refl; fits = omega arith }
decided steps [] room (b ∷ bytes) le h = trails (λ (e : b ∷ bytes ≡ []). absurd cc)
decided zero (x ∷ κ) room bytes le h = stops (short room bytes (omega arith))
decided (suc steps) (x ∷ κ) room bytes le h =
    by_string x κ room bytes (λ σ left rest. parts_from steps σ left rest) (string_at room bytes) refl h
    (λ σ left rest lt k. decided steps σ left rest (omega arith) k)

-- ---- the tree of the parts

abbrev Close : List Part → List Part
Close r = other (codes ")") ∷ r

mutual
  kind_back : (steps d : ℕ) (t : Tree) (r : List Part) → length (kind_parts d t ++ Close r) ≤ steps
      → kind_from steps (kind_parts d t ++ Close r) ≡ (t, r)
  kind_back zero d (regular true c) r h = absurd (omega arith)
  kind_back zero d (regular false c) r h = absurd (omega arith)
  kind_back zero d (symlink s) r h = absurd (omega arith)
  kind_back zero d (directory es) r h = absurd (omega arith)
  kind_back (suc steps) d (regular true c) r h = refl
  kind_back (suc steps) d (regular false c) r h = refl
  kind_back (suc steps) d (symlink s) r h = refl
  kind_back (suc steps) d (directory es) r h =
      let e = entries_back steps d es r (omega arith) in
      ap (λ (v : Entries × List Part). (directory v.0, v.1)) e

  entries_back : (steps d : ℕ) (es : Entries) (r : List Part) → length (entries_parts d es ++ Close r) ≤ steps
      → entries_from steps (entries_parts d es ++ Close r) ≡ (es, r)
  entries_back zero d no_entries r h = absurd (omega arith)
  entries_back zero d (entry n t es) r h = absurd (omega arith)
  entries_back (suc steps) d no_entries r h = refl
  entries_back (suc steps) d (entry n t es) r h =
      let more : List Part = Close (entries_parts d es ++ Close r) in
      let group = regrouped d t es r in
      let size = ap length group in
      let both = length-append (kind_parts (d + 1) t) (Close more) in
      let first : kind_from steps (kind_parts (d + 1) t ++ Close more) ≡ (t, more) =
      kind_back steps (d + 1) t more (omega arith) in
      let others : entries_from steps (entries_parts d es ++ Close r) ≡ (es, r) =
      entries_back steps d es r (omega arith) in
      ap (λ (ps : List Part). (let x = kind_from steps ps in let y = entries_from steps (drop 1 x.1) in
      let z : Entries × List Part = (entry n x.0 y.0, y.1) in z)) group
      ∙ ap (λ (x : Tree × List Part).
      (let y = entries_from steps (drop 1 x.1) in let z : Entries × List Part = (entry n x.0 y.0, y.1) in z))
      first
      ∙ ap (λ (y : Entries × List Part). (let z : Entries × List Part = (entry n t y.0, y.1) in z)) others

tree_back : (t : Tree) → tree_from (archive t) ≡ t
tree_back t = ap (λ (v : Tree × List Part). v.0) (kind_back (length (archive t)) 1 t [] (omega arith))

-- ---- the function agrees with the relations

passes_archive : (input : List ℕ) (ps : List Part) → Passes start limit input ps → IsArchive (tree_from ps) input
passes_archive input ps q =
    let w = whole_from_run ps q.are_bytes q.takes in
    let spells : input ≡ spelling (archive w.0) = q.spells ∙ ap spelling (sym w.2) in
    let fits : length input ≤ limit = subst (λ (v : List ℕ). length v ≤ limit) (sym q.spells) q.fits in
    let is : IsArchive w.0 input =
    record {
      legal = w.1;
      shallow = subst (λ (ps : List Part). AllByRecursion IsShallow ps) (sym w.2) q.shallow;
      spells = spells;
      fits = fits;
    } in
    subst (λ (t : Tree). IsArchive t input) (sym (tree_back w.0) ∙ ap tree_from w.2) is

agrees : (input : List ℕ) → IsBytes input → MatchResult (outcome_of input) (λ t. IsArchive t input) (IsFault input)
unfolding outcome_of
agrees input h =
    by_parts (parts_from (length input) start limit input) (decided (length input) start limit input (omega arith) h)
  where
    by_parts : (r : Result (List Part) NarError) → Decided start limit input r
        → MatchResult (and_then r (λ ps. Ok (tree_from ps))) (λ t. IsArchive t input) (IsFault input)
    by_parts (Ok ps) q = passes_archive input ps q
    by_parts (Err e) f = found input e h f

pub outcome_archive : (input : List ℕ) (t : Tree) → IsBytes input → (outcome_of input ≡ Ok t) ↔ IsArchive t input
outcome_archive input t h = (λ e. rw e at (agrees input h), λ a. by_outcome (outcome_of input) (agrees input h) a)
  where
    by_outcome : (r : Result Tree NarError) → MatchResult r (λ t. IsArchive t input) (IsFault input) → IsArchive t input
        → r ≡ Ok t
    by_outcome (Ok u) m a = ap Ok (one_reading u t input m a)
    by_outcome (Err e) m a = absurd (archive_has_none t input e h a m)

pub outcome_fault : (input : List ℕ) (e : NarError) → IsBytes input → (outcome_of input ≡ Err e) ↔ IsFault input e
outcome_fault input e h = (λ q. rw q at (agrees input h), λ f. by_outcome (outcome_of input) (agrees input h) f)
  where
    by_outcome : (r : Result Tree NarError) → MatchResult r (λ t. IsArchive t input) (IsFault input) → IsFault input e
        → r ≡ Err e
    by_outcome (Ok u) m f = absurd (archive_has_none u input e h m f)
    by_outcome (Err g) m f = ap Err (one_cause input g e h m f)

pub archive_or_fault : (input : List ℕ) → IsBytes input
    → ((t : Tree) × IsArchive t input) ⊎ ((e : NarError) × IsFault input e)
archive_or_fault input h = by_outcome (outcome_of input) (agrees input h)
  where
    by_outcome : (r : Result Tree NarError) → MatchResult r (λ t. IsArchive t input) (IsFault input)
        → ((t : Tree) × IsArchive t input) ⊎ ((e : NarError) × IsFault input e)
    by_outcome (Ok t) m = inl (t, m)
    by_outcome (Err e) m = inr (e, m)

-- what is right by the relations is right by the function
pub gives_outcome : {X : Type 0} (view : X → Tree) (r : Result X NarError) (input : List ℕ) → IsBytes input
    → IfOk r (λ x. IsArchive (view x) input) → IfErr r (λ e. IfFault e (IsFault input))
    → MatchResult r (λ x. outcome_of input ≡ Ok (view x)) (λ e. IfFault e (λ f. outcome_of input ≡ Err f))
gives_outcome view (Ok x) input b a f = (outcome_archive input (view x) b).1 a
gives_outcome view (Err e) input b a f = λ fault. (outcome_fault input e b).1 (f fault)
