use Rattle.std.proofs.Common.{◌≡◌, ◌≢◌, List, ℕ, ◌++◌, ◌∷◌, length, drop, ap, sym, ◌∙◌, lit<}
use Rattle.std.proofs.Math.Seq.{drop-append_seam}
use Rattle.std.proofs.lemmas.Str.Pattern.{strip_prefix_char}
use Rattle.paths.specs.StorePath.{base_of}
use Rattle.paths.proofs.PathText.{base_of-below, base_of-other}
use Rattle.paths.proofs.store_path.base_of.Goals as goal

-- below the directory, and what is below begins with `/`
cut : (dir text rest base : List ℕ) → text ≡ dir ++ rest → rest ≡ 47 ∷ base → base ≡ base_of dir text
cut dir text rest base e f = sym (ap (base_of dir) (e ∙ ap (λ r. dir ++ r) f) ∙ base_of-below dir base)

-- below the directory, and what is below begins with another byte
without_slash : (dir text rest : List ℕ) → text ≡ dir ++ rest → ((base : List ℕ) → rest ≢ 47 ∷ base)
    → text ≡ base_of dir text
without_slash dir text rest e other =
    sym (base_of-other dir text (λ base h. other base
    (sym (drop-append_seam dir rest) ∙ ap (drop (length dir)) (sym e ∙ h) ∙ drop-append_seam dir (47 ∷ base))))

pub returns-in-Some-strip_prefix : goal.returns-in-Some-strip_prefix
returns-in-Some-strip_prefix c =
    let cases = c.in-Some.ensures.cases in
    let dir = c.as_str.ensures.value in
    let below : c.args.text.now ≡ c.args.dir.now ++ c.in-Some.rest.now =
    cases.1.1 ∙ ap (λ r. c.as_str.result.now ++ r) (sym cases.2) ∙ ap (λ d. d ++ c.in-Some.rest.now) dir in
    let slash =
    strip_prefix_char 47 c.in-Some.rest.now c.strip_prefix-2.result c.strip_prefix-2.ensures.cases (lit< tt) in
    cut _ _ _ _ below (rw c.in-Some-strip_prefix.is at slash)

pub returns-in-None : goal.returns-in-None
returns-in-None c =
    let cases = c.in-Some.ensures.cases in
    let dir = c.as_str.ensures.value in
    let below : c.args.text.now ≡ c.args.dir.now ++ c.in-Some.rest.now =
    cases.1.1 ∙ ap (λ r. c.as_str.result.now ++ r) (sym cases.2) ∙ ap (λ d. d ++ c.in-Some.rest.now) dir in
    let slash =
    strip_prefix_char 47 c.in-Some.rest.now c.strip_prefix-2.result c.strip_prefix-2.ensures.cases (lit< tt) in
    without_slash _ _ _ below (rw c.in-None.is at slash)

pub returns-in_default : goal.returns-in_default
returns-in_default c =
    let other = c.in_default.ensures.cases in
    sym (base_of-other _ _ (λ rest h. other (47 ∷ rest) (h ∙ ap (λ d. d ++ 47 ∷ rest) (sym c.as_str.ensures.value))))
