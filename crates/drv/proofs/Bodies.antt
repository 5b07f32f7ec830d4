-- What comes before the quote that ends a string, a byte at a time.
use Rattle.std.proofs.Common.{◌≡◌, ℕ, ◌+◌, ◌<◌, ◌≤◌, Bool, true, false, List, [], ◌∷◌, ◌++◌, length, get_or, drop}
use Rattle.std.proofs.Common.{Option, Some, None, refl, sym, ap, ◌∙◌, append_assoc}
use Rattle.std.proofs.lemmas.List.{at_drop_more, at_drop_all}
use Rattle.std.proofs.lemmas.Bool.{ne_eqb}
use Rattle.drv.specs.Reading.{◌>>=◌, unescaped, with_byte, body_at, rest_of}

-- with bytes before it
abbrev pub with_bytes : List ℕ → Option (List ℕ × List ℕ) → Option (List ℕ × List ℕ)
with_bytes front (Some x) = Some (front ++ x.0, x.1)
with_bytes front None = None

-- at the end of the text
pub body_none : (escaped : Bool) (t : List ℕ) (i : ℕ) → length t ≤ i → body_at escaped (drop i t) ≡ None
unfolding body_at
body_none true t i le = at_drop_all (body_at true) t i le
body_none false t i le = at_drop_all (body_at false) t i le

-- after a backslash
pub body_escape : (t : List ℕ) (i : ℕ) → i < length t
    → body_at true (drop i t) ≡ (unescaped (get_or t i 0) >>= λ byte. with_byte byte (body_at false (drop (i + 1) t)))
unfolding body_at
body_escape t i lt = at_drop_more (body_at true) t i 0 lt

-- the quote that ends the string
pub body_quote : (t : List ℕ) (i : ℕ) → i < length t → get_or t i 0 ≡ 34
    → body_at false (drop i t) ≡ Some ([], drop (i + 1) t)
unfolding body_at
body_quote t i lt is = at_drop_more (body_at false) t i 0 lt ∙ ap (λ b. body_at false (b ∷ drop (i + 1) t)) is

-- a backslash
pub body_backslash : (t : List ℕ) (i : ℕ) → i < length t → get_or t i 0 ≡ 92
    → body_at false (drop i t) ≡ body_at true (drop (i + 1) t)
unfolding body_at
body_backslash t i lt is = at_drop_more (body_at false) t i 0 lt ∙ ap (λ b. body_at false (b ∷ drop (i + 1) t)) is

plain_step : (b : ℕ) (t : List ℕ) → (b ≡ 34 → ⊥) → (b ≡ 92 → ⊥) → body_at false (b ∷ t) ≡ with_byte b (body_at false t)
unfolding body_at
plain_step b t not_quote not_backslash = rw (ne_eqb b 34 not_quote, ne_eqb b 92 not_backslash) refl

-- any other byte
pub body_plain : (t : List ℕ) (i : ℕ) → i < length t → (get_or t i 0 ≡ 34 → ⊥) → (get_or t i 0 ≡ 92 → ⊥)
    → body_at false (drop i t) ≡ with_byte (get_or t i 0) (body_at false (drop (i + 1) t))
body_plain t i lt not_quote not_backslash =
    at_drop_more (body_at false) t i 0 lt ∙ plain_step (get_or t i 0) (drop (i + 1) t) not_quote not_backslash

-- ---- the rest

pub rest_of-with_byte : (b : ℕ) (read : Option (List ℕ × List ℕ)) → rest_of (with_byte b read) ≡ rest_of read
rest_of-with_byte b (Some x) = refl
rest_of-with_byte b None = refl

pub rest_of-unescaped : (o : Option ℕ) (b : ℕ) (read : Option (List ℕ × List ℕ)) → o ≡ Some b
    → rest_of (o >>= λ byte. with_byte byte read) ≡ rest_of read
rest_of-unescaped (Some c) b read e = rest_of-with_byte c read
rest_of-unescaped None b read e = absurd cc

-- ---- the bytes

pub with_bytes-none : (read : Option (List ℕ × List ℕ)) → with_bytes [] read ≡ read
with_bytes-none (Some x) = refl
with_bytes-none None = refl

pub with_bytes-more : (front : List ℕ) (b : ℕ) (read : Option (List ℕ × List ℕ))
    → with_bytes front (with_byte b read) ≡ with_bytes (front ++ b ∷ []) read
with_bytes-more front b (Some x) = ap (λ (bytes : List ℕ). Some (bytes, x.1)) (sym (append_assoc front (b ∷ []) x.0))
with_bytes-more front b None = refl

pub with_bytes-unescaped : (front : List ℕ) (o : Option ℕ) (b : ℕ) (read : Option (List ℕ × List ℕ)) → o ≡ Some b
    → with_bytes front (o >>= λ byte. with_byte byte read) ≡ with_bytes (front ++ b ∷ []) read
with_bytes-unescaped front (Some c) b read e =
    with_bytes-more front c read ∙ ap (λ n. with_bytes (front ++ n ∷ []) read) cc
with_bytes-unescaped front None b read e = absurd cc

-- ---- the steps of a loop, from what a test and a call told

-- after a backslash, where the letter means nothing
pub escape_fails : (escaped : Bool) (t : List ℕ) (i : ℕ) → i < length t → escaped ≡ true
    → None ≡ unescaped (get_or t i 0) → body_at escaped (drop i t) ≡ None
escape_fails escaped t i lt is none =
    ap (λ e. body_at e (drop i t)) is ∙ body_escape t i lt
    ∙ ap (λ o. o >>= λ byte. with_byte byte (body_at false (drop (i + 1) t))) (sym none)

-- after a backslash, where the letter means a byte
pub escape_goes_on : (escaped now : Bool) (t : List ℕ) (i b : ℕ) → i < length t → escaped ≡ true → now ≡ false
    → Some b ≡ unescaped (get_or t i 0) → body_at escaped (drop i t) ≡ with_byte b (body_at now (drop (i + 1) t))
escape_goes_on escaped now t i b lt is is_now some =
    ap (λ e. body_at e (drop i t)) is ∙ body_escape t i lt
    ∙ ap (λ o. o >>= λ byte. with_byte byte (body_at false (drop (i + 1) t))) (sym some)
    ∙ ap (λ e. with_byte b (body_at e (drop (i + 1) t))) (sym is_now)

pub quote_ends : (escaped : Bool) (t : List ℕ) (i : ℕ) → i < length t → escaped ≡ false → get_or t i 0 ≡ 34
    → body_at escaped (drop i t) ≡ Some ([], drop (i + 1) t)
quote_ends escaped t i lt is quote = ap (λ e. body_at e (drop i t)) is ∙ body_quote t i lt quote

pub backslash_goes_on : (escaped now : Bool) (t : List ℕ) (i : ℕ) → i < length t → escaped ≡ false → now ≡ true
    → get_or t i 0 ≡ 92 → body_at escaped (drop i t) ≡ body_at now (drop (i + 1) t)
backslash_goes_on escaped now t i lt is is_now backslash =
    ap (λ e. body_at e (drop i t)) is ∙ body_backslash t i lt backslash
    ∙ ap (λ e. body_at e (drop (i + 1) t)) (sym is_now)

pub plain_goes_on : (escaped now : Bool) (t : List ℕ) (i : ℕ) → i < length t → escaped ≡ false → now ≡ escaped
    → (get_or t i 0 ≡ 34 → ⊥) → (get_or t i 0 ≡ 92 → ⊥)
    → body_at escaped (drop i t) ≡ with_byte (get_or t i 0) (body_at now (drop (i + 1) t))
plain_goes_on escaped now t i lt is is_now not_quote not_backslash =
    ap (λ e. body_at e (drop i t)) is ∙ body_plain t i lt not_quote not_backslash
    ∙ ap (λ e. with_byte (get_or t i 0) (body_at e (drop (i + 1) t))) (sym (is_now ∙ is))

-- a byte was pushed
pub pushed : (front now : List ℕ) (b : ℕ) (read total : Option (List ℕ × List ℕ)) → now ≡ front ++ b ∷ []
    → with_bytes front (with_byte b read) ≡ total → with_bytes now read ≡ total
pushed front now b read total is so_far =
    ap (λ bytes. with_bytes bytes read) is ∙ sym (with_bytes-more front b read) ∙ so_far
