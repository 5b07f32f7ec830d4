-- Readers, one step after the other: what a step that succeeded gives, and readers that read what is written.
use Rattle.std.proofs.Common.{◌≡◌, ℕ, Bool, true, false, cond, eqb, List, [], ◌∷◌, ◌++◌, Option, Some, None, refl, sym}
use Rattle.std.proofs.Common.{ap, ◌∙◌, append_assoc, inl, inr, ◌⊎◌}
use Rattle.std.proofs.lemmas.Bool.{eqb-true}
use Rattle.drv.specs.Reading.{◌>>=◌, after, rest_of, bare, without_value, ◌>=>◌, further}

pub bind_some : {A B : Type 0} (o : Option A) (f : A → Option B) (y : B) → (o >>= f) ≡ Some y
    → (x : A) × (o ≡ Some x) × (f x ≡ Some y)
bind_some (Some x) f y e = (x, refl, e)
bind_some None f y e = absurd cc

pub bind_same : {A B : Type 0} (o : Option A) (f g : A → Option B) → ((x : A) → o ≡ Some x → f x ≡ g x)
    → (o >>= f) ≡ (o >>= g)
bind_same (Some x) f g h = h x refl
bind_same None f g h = refl

-- how a test ended
pub chosen : {A : Type 0} (b : Bool) (x y z : A) → cond b x y ≡ z → ((b ≡ true) × (x ≡ z)) ⊎ ((b ≡ false) × (y ≡ z))
chosen true x y z e = inl (refl, e)
chosen false x y z e = inr (refl, e)

pub after_is : (byte : ℕ) (t rest : List ℕ) → after byte t ≡ Some rest → t ≡ byte ∷ rest
after_is byte [] rest e = absurd cc
after_is byte (b ∷ t) rest e =
    elim (chosen (eqb b byte) (Some t) None (Some rest) e) [
      | inl h ↦ let same : b ≡ byte = eqb-true b byte h.0 in let rest_same : t ≡ rest =
          cc in ap (λ x. x ∷ t) same ∙ ap (λ (u : List ℕ). byte ∷ u) rest_same
      | inr h ↦ absurd cc
    ]

eqb-refl : (n : ℕ) → eqb n n ≡ true
eqb-refl n = Rattle.std.proofs.lemmas.Bool.eq-eqb n n refl

pub after_same : (byte : ℕ) (rest : List ℕ) → after byte (byte ∷ rest) ≡ Some rest
after_same byte rest = ap (λ b. cond b (Some rest) None) (eqb-refl byte)

-- A reader reads what is written, and nothing else: x, written before it, means y.
pub record Reads {X Y : Type 0} (read : List ℕ → Option (Y × List ℕ)) (spell : X → List ℕ)
    (Means : X → Y → Type 0) : Type 0 where
  pub again : (x : X) (y : Y) (rest : List ℕ) → Means x y → read (spell x ++ rest) ≡ Some (y, rest)
  pub takes : (t : List ℕ) (y : Y) (rest : List ℕ) → read t ≡ Some (y, rest)
      → (x : X) × Means x y × (t ≡ spell x ++ rest)

-- The same where what is written isn't asked for.
pub record Skips {X : Type 0} (skip : List ℕ → Option (List ℕ)) (spell : X → List ℕ) : Type 0 where
  pub again : (x : X) (rest : List ℕ) → skip (spell x ++ rest) ≡ Some rest
  pub takes : (t rest : List ℕ) → skip t ≡ Some rest → (x : X) × (t ≡ spell x ++ rest)

rest_some : {Y : Type 0} (o : Option (Y × List ℕ)) (rest : List ℕ) → rest_of o ≡ Some rest
    → (y : Y) × (o ≡ Some (y, rest))
rest_some (Some z) rest e = let same : z.1 ≡ rest = cc in (z.0, ap (λ (u : List ℕ). Some (z.0, u)) same)
rest_some None rest e = absurd cc

pub Skips-rest_of : {X Y : Type 0} (read : List ℕ → Option (Y × List ℕ)) (spell : X → List ℕ) (Means : X → Y → Type 0)
    → Reads read spell Means → ((x : X) → (y : Y) × Means x y) → Skips (λ t. rest_of (read t)) spell
Skips-rest_of read spell Means reads all = record {
  again = λ x rest. ap rest_of (reads.again x (all x).0 rest (all x).1);
  takes = λ t rest e.
      let y = rest_some (read t) rest e in
      let x = reads.takes t y.0 rest y.1 in
      (x.0, x.2);
}

bare_some : (o : Option (List ℕ)) (y : Unit {0}) (rest : List ℕ) → bare o ≡ Some (y, rest) → o ≡ Some rest
bare_some (Some r) y rest e = ap (λ (z : Option (Unit {0} × List ℕ)). rest_of z) e
bare_some None y rest e = absurd cc

pub Reads-without_value : {X : Type 0} (skip : List ℕ → Option (List ℕ)) (spell : X → List ℕ) → Skips skip spell
    → Reads (without_value skip) spell (λ x y. Unit {0})
Reads-without_value skip spell skips = record {
  again = λ x y rest m. ap bare (skips.again x rest);
  takes = λ t y rest e.
      let x = skips.takes t rest (bare_some (skip t) y rest e) in
      (x.0, tt, x.1);
}

-- one after the other
pub Skips-then : {X Y : Type 0} (first second : List ℕ → Option (List ℕ)) (s : X → List ℕ) (u : Y → List ℕ)
    → Skips first s → Skips second u → Skips (first >=> second) (λ (z : X × Y). s z.0 ++ u z.1)
Skips-then first second s u a b = record {
  again =
      λ z rest. ap (λ (t : List ℕ). first t >>= second) (append_assoc (s z.0) (u z.1) rest)
      ∙ ap (λ (o : Option (List ℕ)). o >>= second) (a.again z.0 (u z.1 ++ rest)) ∙ b.again z.1 rest;
  takes = λ t rest e.
      let mid = bind_some (first t) second rest e in
      let x = a.takes t mid.0 mid.1 in
      let y = b.takes mid.0 rest mid.2 in
      ((x.0, y.0), x.1 ∙ ap (λ (r : List ℕ). s x.0 ++ r) y.1 ∙ sym (append_assoc (s x.0) (u y.0) rest));
}

pub Skips-byte : (byte : ℕ) → Skips (after byte) (λ (x : Unit {0}). byte ∷ [])
Skips-byte byte = record { again = λ x rest. after_same byte rest; takes = λ t rest e. (tt, after_is byte t rest e) }

-- after a comma
pub Skips-further : {X : Type 0} (part : List ℕ → Option (List ℕ)) (s : X → List ℕ) → Skips part s
    → Skips (further part) (λ x. 44 ∷ s x)
unfolding further
Skips-further part s skips = record {
  again = λ x rest. skips.again x rest;
  takes = λ t rest e.
      let mid = bind_some (after 44 t) part rest e in
      let x = skips.takes mid.0 rest mid.2 in
      (x.0, after_is 44 t mid.0 mid.1 ∙ ap (λ (r : List ℕ). 44 ∷ r) x.1);
}
