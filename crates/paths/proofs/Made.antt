-- Computed paths are base names, and addresses verify if and only if they fit.
use Rattle.std.proofs.Common.{◌≡◌, ◌↔◌, ℕ, Bool, true, false, List, [], ◌∷◌, ◌++◌, length, drop}
use Rattle.std.proofs.Common.{Result, Ok, Err, refl, ap, sym, subst, ◌∙◌, arith, length-append}
use Rattle.std.specs.Prelude.{codes, ◌&&◌}
use Rattle.std.specs.Str.{bytes_eq}
use Rattle.std.proofs.Math.Seq.{drop-append_seam}
use Rattle.std.proofs.lemmas.Bool.{and_parts}
use Rattle.std.proofs.lemmas.Slice.Eq.{bytes_eq-Decides}
use Rattle.sha2.specs.Sha256.{sha256}
use Rattle.nar.specs.declared.error.NarError.{NarError}
use Rattle.nar.specs.Tree.{Tree, regular, symlink, directory, IsBytes}
use Rattle.nar.specs.Archive.{IsArchive}
use Rattle.nar.specs.Outcome.{outcome_of}
use Rattle.nar.proofs.Decided.{outcome_archive}
use Rattle.paths.specs.declared.content_address.Method.{Method}
use Rattle.paths.specs.declared.content_address.Method.TheVariants.{Text, Source}
use Rattle.paths.specs.Names.{is_store_name}
use Rattle.paths.specs.StorePath.{is_base_name, name_of}
use Rattle.paths.specs.Base32.{base32}
use Rattle.paths.specs.Fold.{fold20}
use Rattle.paths.specs.Path.{fingerprint_of, in_path_order, IsPathOf, path_of, text_path, source_path}
use Rattle.paths.specs.ContentAddress.{plain_contents, is_made_of, text_verifies}
use Rattle.paths.specs.ContentAddress.{method_verifies, Fits, FitsText}
use Rattle.paths.specs.Laws as laws
use Rattle.paths.proofs.PathText.{is_base_name-join}
use Rattle.paths.proofs.Spelling.{base32-count, base32-digits}
use Rattle.paths.proofs.Digests.{fold20-count}
use Rattle.paths.proofs.PathOrder.{path_of-is, path_of-fits}

path-base : (kind dir name : List ℕ) (refs : List (List ℕ)) (inner : List ℕ) → is_store_name name ≡ true
    → is_base_name (path_of kind dir name refs inner) ≡ true
unfolding path_of
path-base kind dir name refs inner h =
    let folded = fold20 (sha256 (fingerprint_of kind dir (in_path_order refs) inner name)) in
    is_base_name-join (base32 folded) name (base32-count folded (fold20-count _)) (base32-digits folded) h

pub text-base : laws.TextPathsAreBaseNames
unfolding text_path
text-base dir name refs contents h = path-base (codes "text") dir name refs (sha256 contents) h

pub source-base : laws.SourcePathsAreBaseNames
unfolding source_path
source-base dir name refs nar h = path-base (codes "source") dir name refs (sha256 nar) h

pub one-path : laws.OnePath
one-path kind dir name refs inner base = (
  path_of-is kind dir name refs inner base,
  λ e. subst (IsPathOf kind dir name refs inner) (sym e) (path_of-fits kind dir name refs inner),
)

-- the name in a computed path
path-name : (kind dir name : List ℕ) (refs : List (List ℕ)) (inner : List ℕ)
    → name_of (path_of kind dir name refs inner) ≡ name
unfolding path_of
path-name kind dir name refs inner =
    let digits = base32 (fold20 (sha256 (fingerprint_of kind dir (in_path_order refs) inner name))) in
    let front = digits ++ 45 ∷ [] in
    let count : length front ≡ 33 =
    omega (
      arith,
      length-append digits (45 ∷ []),
      base32-count (fold20 (sha256 (fingerprint_of kind dir (in_path_order refs) inner name))) (fold20-count _),
    ) in
    ap (λ n. drop n (front ++ name)) (sym count) ∙ drop-append_seam front name

bytes-same : (xs : List ℕ) → bytes_eq xs xs ≡ true
bytes-same xs = (bytes_eq-Decides xs xs).1 refl

both : (a b : Bool) → a ≡ true → b ≡ true → (a && b) ≡ true
both a b p q = ap (λ x. x && b) p ∙ q

-- what is made of a digest, in the words of the relation
made-is : (kind stated inner dir path : List ℕ) (refs : List (List ℕ))
    → (is_made_of kind stated inner dir path refs ≡ true)
    ↔ ((stated ≡ inner) × IsPathOf kind dir (name_of path) refs inner path)
made-is kind stated inner dir path refs = (
  λ h.
      let parts = and_parts _ _ h in (
        (bytes_eq-Decides stated inner).0 parts.0,
        (one-path kind dir (name_of path) refs inner path).1 ((bytes_eq-Decides path _).0 parts.1),
      ),
  λ h. both _ _ ((bytes_eq-Decides stated inner).1 h.0)
      ((bytes_eq-Decides path _).1 ((one-path kind dir (name_of path) refs inner path).0 h.1)),
)

made-itself : (kind dir name : List ℕ) (refs : List (List ℕ)) (inner : List ℕ)
    → is_made_of kind inner inner dir (path_of kind dir name refs inner) refs ≡ true
made-itself kind dir name refs inner =
    both _ _ (bytes-same inner) (ap (λ n. bytes_eq (path_of kind dir name refs inner) (path_of kind dir n refs inner))
    (path-name kind dir name refs inner) ∙ bytes-same (path_of kind dir name refs inner))

pub texts-verify : laws.TextAddressesVerify
unfolding text_path
texts-verify dir name refs contents nar archive bytes =
    ap (λ r. text_verifies (sha256 contents) dir (path_of (codes "text") dir name refs (sha256 contents)) refs
    (plain_contents r)) ((outcome_archive nar (regular false contents) bytes).1 archive)
    ∙ made-itself (codes "text") dir name refs (sha256 contents)

pub sources-verify : laws.SourceAddressesVerify
unfolding source_path
sources-verify dir name refs nar = made-itself (codes "source") dir name refs (sha256 nar)

-- a test of an archive's contents that passes
text-fits : (digest dir path : List ℕ) (refs : List (List ℕ)) (nar : List ℕ) (r : Result Tree NarError)
    → ((t : Tree) → r ≡ Ok t → IsArchive t nar)
    → text_verifies digest dir path refs (plain_contents r) ≡ true → FitsText digest dir path refs nar
text-fits digest dir path refs nar (Ok (regular false contents)) archive h =
    let made = (made-is (codes "text") digest (sha256 contents) dir path refs).0 h in
    record { contents = contents; archive = archive (regular false contents) refl; hash = made.0; made = made.1 }
text-fits digest dir path refs nar (Ok (regular true contents)) archive h = let no : ⊥ = cc in absurd no
text-fits digest dir path refs nar (Ok (symlink target)) archive h = let no : ⊥ = cc in absurd no
text-fits digest dir path refs nar (Ok (directory _)) archive h = let no : ⊥ = cc in absurd no
text-fits digest dir path refs nar (Err e) archive h = let no : ⊥ = cc in absurd no

verifying-by : (method : Method) (digest dir path : List ℕ) (refs : List (List ℕ)) (nar : List ℕ) → IsBytes nar
    → (method_verifies method digest dir path refs nar ≡ true) ↔ Fits method digest dir path refs nar
verifying-by Text digest dir path refs nar bytes = (
  text-fits digest dir path refs nar (outcome_of nar) (λ t e. (outcome_archive nar t bytes).0 e),
  λ h. ap (λ r. text_verifies digest dir path refs (plain_contents r))
      ((outcome_archive nar (regular false h.contents) bytes).1 h.archive)
      ∙ (made-is (codes "text") digest (sha256 h.contents) dir path refs).1 (h.hash, h.made),
)
verifying-by Source digest dir path refs nar bytes = (
  λ h. let made =
      (made-is (codes "source") digest (sha256 nar) dir path refs).0 h in record { hash = made.0; made = made.1 },
  λ h. (made-is (codes "source") digest (sha256 nar) dir path refs).1 (h.hash, h.made),
)

pub verifying : laws.VerifyingIsExact
verifying ca dir path refs nar bytes = verifying-by ca.method ca.digest dir path refs nar bytes
