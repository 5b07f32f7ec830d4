-- The texts of content addresses.
use Rattle.std.proofs.Common.{◌≡◌, ◌≢◌, ℕ, true, false, cond, List, ◌++◌, drop, length, Option, Some, None}
use Rattle.std.proofs.Common.{Result, Ok, Err, ap, refl, sym, ◌∙◌, inl, inr}
use Rattle.std.specs.Prelude.{codes}
use Rattle.std.proofs.lemmas.Bool.{cases_Bool}
use Rattle.std.proofs.lemmas.Bool.Decides.{Decides-eqb}
use Rattle.std.proofs.lemmas.Slice.Eq.{starts_is}
use Rattle.nar.specs.Tree.{IsBytes}
use Rattle.paths.specs.declared.digits.Base32Error.{Base32Error}
use Rattle.paths.specs.declared.content_address.Method.{Method}
use Rattle.paths.specs.declared.content_address.Method.TheVariants.{Text, Source}
use Rattle.paths.specs.Names.{begins}
use Rattle.paths.specs.Base32.{base32, unbase32}
use Rattle.paths.specs.ContentAddress.{ContentAddress, address_prefix, IsAddressText, with_method, address_of}
use Rattle.paths.proofs.Spelling.{spelled, read_back, read_spells, read-bytes, base32-spells}

begun : (front text rest : List ℕ) → text ≡ front ++ rest → begins text front ≡ true
begun front text rest e = (starts_is Decides-eqb text front _ refl).1 rest e

not-begun : (front text : List ℕ) → ((rest : List ℕ) → text ≢ front ++ rest) → begins text front ≡ false
not-begun front text other =
    elim (cases_Bool (begins text front)) [
      | inl h ↦ absurd (other (drop (length front) text) ((starts_is Decides-eqb text front _ refl).0 h))
      | inr h ↦ h
    ]

as-source : List ℕ → Option ContentAddress
as-source text = cond (begins text (codes "fixed:r:sha256:")) (with_method Source (unbase32 (drop 15 text) 32)) None

-- an address by its prefix
pub address_of-text : (text digits : List ℕ) → text ≡ codes "text:sha256:" ++ digits
    → address_of text ≡ with_method Text (unbase32 digits 32)
unfolding address_of as-source
address_of-text text digits e =
    ap (λ b. cond b (with_method Text (unbase32 (drop 12 text) 32)) (as-source text))
    (begun (codes "text:sha256:") text digits e)
    ∙ ap (λ t. with_method Text (unbase32 (drop 12 t) 32)) e

pub address_of-source : (text digits : List ℕ) → text ≡ codes "fixed:r:sha256:" ++ digits
    → address_of text ≡ with_method Source (unbase32 digits 32)
unfolding address_of as-source
address_of-source text digits e =
    ap (λ t. cond (begins t (codes "text:sha256:")) (with_method Text (unbase32 (drop 12 text) 32)) (as-source text)) e
    ∙ ap (λ b. cond b (with_method Source (unbase32 (drop 15 text) 32)) None)
    (begun (codes "fixed:r:sha256:") text digits e)
    ∙ ap (λ t. with_method Source (unbase32 (drop 15 t) 32)) e

pub address_of-other : (text : List ℕ) → ((rest : List ℕ) → text ≢ codes "text:sha256:" ++ rest)
    → ((rest : List ℕ) → text ≢ codes "fixed:r:sha256:" ++ rest) → address_of text ≡ None
unfolding address_of as-source
address_of-other text no_text no_source =
    ap (λ b. cond b (with_method Text (unbase32 (drop 12 text) 32)) (as-source text))
    (not-begun (codes "text:sha256:") text no_text)
    ∙ ap (λ b. cond b (with_method Source (unbase32 (drop 15 text) 32)) None)
    (not-begun (codes "fixed:r:sha256:") text no_source)

-- ---- a text is an address if and only if it is that address's text

read : (method : Method) (r : Result (List ℕ) Base32Error) (ca : ContentAddress) → with_method method r ≡ Some ca
    → (r ≡ Ok ca.digest) × (method ≡ ca.method)
read method (Ok digest) ca e = (ap (λ o. Ok (digest_or digest o)) e, ap (λ o. method_or method o) e)
  where
    digest_or : List ℕ → Option ContentAddress → List ℕ
    digest_or d None = d
    digest_or d (Some a) = a.digest

    method_or : Method → Option ContentAddress → Method
    method_or m None = m
    method_or m (Some a) = a.method
read method (Err f) ca e = let no : ⊥ = cc in absurd no

text-of : (method : Method) (digits text : List ℕ) (ca : ContentAddress) → text ≡ address_prefix method ++ digits
    → with_method method (unbase32 digits 32) ≡ Some ca → IsAddressText ca text
text-of method digits text ca e h =
    let found = read method (unbase32 digits 32) ca h in
    let spells = read_spells digits 32 ca.digest found.0 in
    record {
      digest = spells.1;
      bytes = read-bytes digits 32 ca.digest found.0;
      spells =
          e ∙ ap (λ ds. address_prefix method ++ ds) (spelled digits ca.digest spells.0)
          ∙ ap (λ m. address_prefix m ++ base32 ca.digest) found.1;
    }

split-at : (front text : List ℕ) → begins text front ≡ true → text ≡ front ++ drop (length front) text
split-at front text h = (starts_is Decides-eqb text front _ refl).0 h

never : (front text : List ℕ) → begins text front ≡ false → (rest : List ℕ) → text ≢ front ++ rest
never front text h rest e = let both : true ≡ false = sym (begun front text rest e) ∙ h in let no : ⊥ = cc in absurd no

pub address-is : (text : List ℕ) (ca : ContentAddress) → address_of text ≡ Some ca → IsAddressText ca text
address-is text ca h =
    elim (cases_Bool (begins text (codes "text:sha256:"))) [
      | inl t ↦ let e =
          split-at (codes "text:sha256:") text t in
          text-of Text (drop 12 text) text ca e (sym (address_of-text text (drop 12 text) e) ∙ h)
      | inr t ↦ elim (cases_Bool (begins text (codes "fixed:r:sha256:"))) [
        | inl s ↦ let e =
            split-at (codes "fixed:r:sha256:") text s in
            text-of Source (drop 15 text) text ca e (sym (address_of-source text (drop 15 text) e) ∙ h)
        | inr s ↦ let none : None ≡ Some ca =
            sym (address_of-other text (never (codes "text:sha256:") text t) (never (codes "fixed:r:sha256:") text s))
            ∙ h in let no : ⊥ = cc in absurd no
      ]
    ]

digest-back : (digest : List ℕ) → length digest ≡ 32 → IsBytes digest → unbase32 (base32 digest) 32 ≡ Ok digest
digest-back digest count bytes =
    ap (unbase32 (base32 digest)) (sym count) ∙ read_back (base32 digest) digest bytes (base32-spells digest bytes)

pub address-back : (method : Method) (digest text : List ℕ) → length digest ≡ 32 → IsBytes digest
    → text ≡ address_prefix method ++ base32 digest
    → address_of text ≡ Some (record { method = method; digest = digest })
address-back Text digest text count bytes e =
    address_of-text text (base32 digest) e ∙ ap (with_method Text) (digest-back digest count bytes)
address-back Source digest text count bytes e =
    address_of-source text (base32 digest) e ∙ ap (with_method Source) (digest-back digest count bytes)

-- an address is read off its prefix and the digits that are read as its digest
pub address-read : (ca : ContentAddress) (text digits : List ℕ) → text ≡ address_prefix ca.method ++ digits
    → unbase32 digits 32 ≡ Ok ca.digest → address_of text ≡ Some ca
address-read ca text digits e h = by ca.method e
  where
    by : (method : Method) → text ≡ address_prefix method ++ digits
        → address_of text ≡ Some (record { method = method; digest = ca.digest })
    by Text t = address_of-text text digits t ∙ ap (with_method Text) h
    by Source t = address_of-source text digits t ∙ ap (with_method Source) h
