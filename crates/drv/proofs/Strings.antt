-- A string that is read is one that is written, and what is written is read.
use Rattle.std.proofs.Common.{◌≡◌, ℕ, Bool, true, false, eqb, not, List, [], ◌∷◌, ◌++◌, map, Option, Some, None, refl}
use Rattle.std.proofs.Common.{sym, ap, ◌∙◌, append_assoc, inl, inr}
use Rattle.std.specs.List.{flat_map}
use Rattle.std.proofs.lemmas.Bool.{eqb-true, and_parts, and_from, not-true, not_from_false}
use Rattle.drv.specs.Written.{Written, itself, quote, backslash, line_feed, carriage_return, tab, is_plain, written}
use Rattle.drv.specs.Written.{meant, string, value}
use Rattle.drv.specs.Reading.{after, unescaped, with_byte, body_at, string_at, string_end}
use Rattle.drv.proofs.Steps.{bind_some, chosen, after_is, Reads, Skips, Skips-rest_of}

abbrev Spelled : ℕ → ℕ → Type 0
Spelled letter byte = (w : Written) × (written w ≡ 92 ∷ letter ∷ []) × (meant w ≡ byte)

letter_is : (letter known byte : ℕ) → eqb letter known ≡ true → known ∷ [] ≡ letter ∷ []
letter_is letter known byte e = ap (λ n. n ∷ []) (sym (eqb-true letter known e))

-- a letter that means a byte is one of the five escapes
escape_of : (letter byte : ℕ) → unescaped letter ≡ Some byte → Spelled letter byte
escape_of letter byte e0 =
    elim (chosen (eqb letter 34) _ _ (Some byte) e0) [
      | inl h ↦ (quote, ap (λ (l : List ℕ). 92 ∷ l) (letter_is letter 34 byte h.0), let s : 34 ≡ byte = cc in s)
      | inr h1 ↦ elim (chosen (eqb letter 92) _ _ (Some byte) h1.1) [
        | inl h ↦ (backslash, ap (λ (l : List ℕ). 92 ∷ l) (letter_is letter 92 byte h.0), let s : 92 ≡ byte = cc in s)
        | inr h2 ↦ elim (chosen (eqb letter 110) _ _ (Some byte) h2.1) [
          | inl h ↦ (
            line_feed,
            ap (λ (l : List ℕ). 92 ∷ l) (letter_is letter 110 byte h.0),
            let s : 10 ≡ byte = cc in
                s,
          )
          | inr h3 ↦ elim (chosen (eqb letter 114) _ _ (Some byte) h3.1) [
            | inl h ↦ (
              carriage_return,
              ap (λ (l : List ℕ). 92 ∷ l) (letter_is letter 114 byte h.0),
              let s : 13 ≡ byte =
                  cc in s,
            )
            | inr h4 ↦ elim (chosen (eqb letter 116) (Some 9) None (Some byte) h4.1) [
              | inl h ↦ (tab, ap (λ (l : List ℕ). 92 ∷ l) (letter_is letter 116 byte h.0), let s : 9 ≡ byte = cc in s)
              | inr h ↦ absurd cc
            ]
          ]
        ]
      ]
    ]

with_byte_some : (b : ℕ) (o : Option (List ℕ × List ℕ)) (v rest : List ℕ) → with_byte b o ≡ Some (v, rest)
    → (u : List ℕ) × (o ≡ Some (u, rest)) × (b ∷ u ≡ v)
with_byte_some b (Some x) v rest e =
    let parts : (b ∷ x.0 ≡ v) × (x.1 ≡ rest) = Rattle.std.proofs.lemmas.Option.some_pair_parts (b ∷ x.0) v x.1 rest e in
    (x.0, ap (λ (r : List ℕ). Some (x.0, r)) parts.1, parts.0)
with_byte_some b None v rest e = absurd cc

-- what comes before what is still to be read
abbrev lead : Bool → List ℕ
lead true = 92 ∷ []
lead false = []

abbrev Body : Bool → List ℕ → List ℕ → List ℕ → Type 0
Body escaped t v rest =
    (ws : List Written) × (map meant ws ≡ v) × (lead escaped ++ t ≡ flat_map written ws ++ 34 ∷ rest)

body_takes : (escaped : Bool) (t v rest : List ℕ) → body_at escaped t ≡ Some (v, rest) → Body escaped t v rest
unfolding body_at
body_takes true [] v rest e = absurd cc
body_takes false [] v rest e = absurd cc
body_takes true (c ∷ t) v rest e =
    let byte = bind_some (unescaped c) (λ byte. with_byte byte (body_at false t)) (v, rest) e in
    let w = escape_of c byte.0 byte.1 in
    let more = with_byte_some byte.0 (body_at false t) v rest byte.2 in
    let others = body_takes false t more.0 rest more.1 in (
      w.0 ∷ others.0,
      ap (λ (m : List ℕ). meant w.0 ∷ m) others.1 ∙ ap (λ m. m ∷ more.0) w.2 ∙ more.2,
      ap (λ (r : List ℕ). 92 ∷ c ∷ r) others.2
          ∙ ap (λ (f : List ℕ). f ++ (flat_map written others.0 ++ 34 ∷ rest)) (sym w.1)
          ∙ sym (append_assoc (written w.0) (flat_map written others.0) (34 ∷ rest)),
    )
body_takes false (c ∷ t) v rest e =
    elim (chosen (eqb c 34) _ _ (Some (v, rest)) e) [
      | inl h ↦
          let parts : ([] ≡ v) × (t ≡ rest) = Rattle.std.proofs.lemmas.Option.some_pair_parts [] v t rest h.1 in
          ([], parts.0, ap (λ n. n ∷ t) (eqb-true c 34 h.0) ∙ ap (λ (r : List ℕ). 34 ∷ r) parts.1)
      | inr h ↦ elim (chosen (eqb c 92) _ _ (Some (v, rest)) h.1) [
        | inl k ↦
            let others = body_takes true t v rest k.1 in
            (others.0, others.1, ap (λ n. n ∷ t) (eqb-true c 92 k.0) ∙ others.2)
        | inr k ↦
            let more = with_byte_some c (body_at false t) v rest k.1 in
            let others = body_takes false t more.0 rest more.1 in
            let plain : is_plain c ≡ true =
            and_from (not (eqb c 34)) (not (eqb c 92)) (not_from_false (eqb c 34) h.0)
            (not_from_false (eqb c 92) k.0) in (
              itself c plain ∷ others.0,
              ap (λ (m : List ℕ). c ∷ m) others.1 ∙ more.2,
              ap (λ (r : List ℕ). c ∷ r) others.2,
            )
      ]
    ]

body_again : (ws : List Written) (rest : List ℕ)
    → body_at false (flat_map written ws ++ 34 ∷ rest) ≡ Some (map meant ws, rest)
unfolding body_at
body_again [] rest = refl
body_again (itself b plain ∷ ws) rest =
    let parts = and_parts (not (eqb b 34)) (not (eqb b 92)) plain in
    rw (not-true (eqb b 34) parts.0, not-true (eqb b 92) parts.1) (ap (with_byte b) (body_again ws rest))
body_again (quote ∷ ws) rest = ap (with_byte 34) (body_again ws rest)
body_again (backslash ∷ ws) rest = ap (with_byte 92) (body_again ws rest)
body_again (line_feed ∷ ws) rest = ap (with_byte 10) (body_again ws rest)
body_again (carriage_return ∷ ws) rest = ap (with_byte 13) (body_again ws rest)
body_again (tab ∷ ws) rest = ap (with_byte 9) (body_again ws rest)

abbrev pub Means : List Written → List ℕ → Type 0
Means ws v = value ws ≡ v

pub strings : Reads string_at string Means
unfolding string_at string value
strings = record {
  again =
      λ ws v rest m. ap (body_at false) (append_assoc (flat_map written ws) (34 ∷ []) rest) ∙ body_again ws rest
      ∙ ap (λ (u : List ℕ). Some (u, rest)) m;
  takes = λ t v rest e.
      let body = bind_some (after 34 t) (body_at false) (v, rest) e in
      let ws = body_takes false body.0 v rest body.2 in (
        ws.0,
        ws.1,
        after_is 34 t body.0 body.1
            ∙ ap (λ (r : List ℕ). 34 ∷ r) (ws.2 ∙ sym (append_assoc (flat_map written ws.0) (34 ∷ []) rest)),
      );
}

pub string_skips : Skips string_end string
unfolding string_end
string_skips = Skips-rest_of string_at string Means strings (λ ws. (value ws, refl))
