-- The values of one more field.
use Rattle.std.proofs.Common.{◌≡◌, ℕ, ◌+◌, ◌<◌, List, [], ◌∷◌, ◌++◌, Bool, true, false, cond, length, take, get_or}
use Rattle.std.proofs.Common.{refl, sym, ap, ◌∙◌, subst}
use Rattle.std.specs.Prelude.{map, ◌||◌}
use Rattle.std.specs.List.{list_any}
use Rattle.std.specs.Str.{str_eq_ignore_ascii_case}
use Rattle.std.proofs.lemmas.List.{take_more, map-append}
use Rattle.std.specs.Bool.{Decides}
use Rattle.std.specs.Char.{to_ascii_lowercase}
use Rattle.std.proofs.lemmas.Bool.Decides.{same_from_decides}
use Rattle.std.proofs.lemmas.Slice.Eq.{bytes_eq-Decides}
use Rattle.httparse.specs.declared.spans.HeaderSpan.{HeaderSpan}
use Rattle.httparse.specs.Spans.{span_bytes, header_bytes}
use Rattle.wire_server.specs.Fields.{Fields, values}

pub values_yes : (name : List ℕ) (fs : Fields) (f : List ℕ × List ℕ) → str_eq_ignore_ascii_case f.0 name ≡ true
    → values name (fs ++ f ∷ []) ≡ values name fs ++ f.1 ∷ []
values_yes name [] f h = rw h refl
values_yes name (g ∷ fs) f h = by (values_yes name fs f h) (str_eq_ignore_ascii_case g.0 name)
  where
    by : values name (fs ++ f ∷ []) ≡ values name fs ++ f.1 ∷ [] → (b : Bool)
        → cond b (g.1 ∷ values name (fs ++ f ∷ [])) (values name (fs ++ f ∷ []))
        ≡ cond b (g.1 ∷ values name fs) (values name fs) ++ f.1 ∷ []
    by e true = ap (λ t. g.1 ∷ t) e
    by e false = e

pub values_no : (name : List ℕ) (fs : Fields) (f : List ℕ × List ℕ) → str_eq_ignore_ascii_case f.0 name ≡ false
    → values name (fs ++ f ∷ []) ≡ values name fs
values_no name [] f h = rw h refl
values_no name (g ∷ fs) f h = by (values_no name fs f h) (str_eq_ignore_ascii_case g.0 name)
  where
    by : values name (fs ++ f ∷ []) ≡ values name fs → (b : Bool)
        → cond b (g.1 ∷ values name (fs ++ f ∷ [])) (values name (fs ++ f ∷ []))
        ≡ cond b (g.1 ∷ values name fs) (values name fs)
    by e true = ap (λ t. g.1 ∷ t) e
    by e false = e

-- one more item of a list that is mapped
pub map_more : {X Y : Type 0} (g : X → Y) (xs : List X) (i : ℕ) (d : X) → i < length xs
    → map g (take (i + 1) xs) ≡ map g (take i xs) ++ g (get_or xs i d) ∷ []
map_more g xs i d h = ap (map g) (take_more xs i d h) ∙ map-append g (take i xs) (get_or xs i d ∷ [])

-- the values of the fields as far as one more of them
module _ (buf name : List ℕ) (hs : List HeaderSpan) (i : ℕ) (d : HeaderSpan) (in_range : i < length hs) (n : List ℕ)
    (named : n ≡ span_bytes buf (get_or hs i d).name) (same : Bool)
    (decides : Decides same (map to_ascii_lowercase n ≡ map to_ascii_lowercase name)) where
  test : same ≡ str_eq_ignore_ascii_case (span_bytes buf (get_or hs i d).name) name
  test = subst (λ t. same ≡ str_eq_ignore_ascii_case t name) named
      (same_from_decides same (str_eq_ignore_ascii_case n name) decides
      (bytes_eq-Decides (map to_ascii_lowercase n) (map to_ascii_lowercase name)))

  pub one_more : same ≡ true → (v : List ℕ) → v ≡ span_bytes buf (get_or hs i d).value
      → values name (map (header_bytes buf) (take (i + 1) hs))
      ≡ values name (map (header_bytes buf) (take i hs)) ++ v ∷ []
  one_more is v value =
      ap (values name) (map_more (header_bytes buf) hs i d in_range)
      ∙ values_yes name (map (header_bytes buf) (take i hs)) (header_bytes buf (get_or hs i d)) (sym test ∙ is)
      ∙ ap (λ t. values name (map (header_bytes buf) (take i hs)) ++ t ∷ []) (sym value)

  pub no_more : same ≡ false → values name (map (header_bytes buf) (take (i + 1) hs))
      ≡ values name (map (header_bytes buf) (take i hs))
  no_more is =
      ap (values name) (map_more (header_bytes buf) hs i d in_range)
      ∙ values_no name (map (header_bytes buf) (take i hs)) (header_bytes buf (get_or hs i d)) (sym test ∙ is)

-- whether one of the values is that text, and one more of them
pub any_more : (text : List ℕ) (vs : List (List ℕ)) (v : List ℕ)
    → list_any (λ t. str_eq_ignore_ascii_case t text) (vs ++ v ∷ [])
    ≡ (list_any (λ t. str_eq_ignore_ascii_case t text) vs || str_eq_ignore_ascii_case v text)
any_more text [] v = by (str_eq_ignore_ascii_case v text)
  where
    by : (b : Bool) → (b || false) ≡ (false || b)
    by true = refl
    by false = refl
any_more text (w ∷ vs) v =
    ap (λ b. str_eq_ignore_ascii_case w text || b) (any_more text vs v) ∙ by (str_eq_ignore_ascii_case w text)
  where
    by : (b : Bool) → (b || (list_any (λ t. str_eq_ignore_ascii_case t text) vs || str_eq_ignore_ascii_case v text))
        ≡ ((b || list_any (λ t. str_eq_ignore_ascii_case t text) vs) || str_eq_ignore_ascii_case v text)
    by true = refl
    by false = refl

-- the test so far with that of one more value
pub any_step : (old new : Bool) (text : List ℕ) (vs vs' : List (List ℕ)) (v : List ℕ) → vs' ≡ vs ++ v ∷ []
    → old ≡ list_any (λ t. str_eq_ignore_ascii_case t text) vs → new ≡ (old || str_eq_ignore_ascii_case v text)
    → new ≡ list_any (λ t. str_eq_ignore_ascii_case t text) vs'
any_step old new text vs vs' v more is next =
    next ∙ ap (λ b. b || str_eq_ignore_ascii_case v text) is ∙ sym (any_more text vs v)
    ∙ ap (list_any (λ t. str_eq_ignore_ascii_case t text)) (sym more)

-- what a comparison answers
pub same_texts : (a b : List ℕ) (same : Bool) → Decides same (map to_ascii_lowercase a ≡ map to_ascii_lowercase b)
    → same ≡ str_eq_ignore_ascii_case a b
same_texts a b same decides =
    same_from_decides same (str_eq_ignore_ascii_case a b) decides
    (bytes_eq-Decides (map to_ascii_lowercase a) (map to_ascii_lowercase b))

pub stays : (old new x : Bool) → new ≡ old → old ≡ true → new ≡ (old || x)
stays old new x is found = is ∙ found ∙ sym (ap (λ b. b || x) found)

pub turns : (old new x : Bool) → new ≡ x → old ≡ false → new ≡ (old || x)
turns old new x is found = is ∙ sym (ap (λ b. b || x) found)
