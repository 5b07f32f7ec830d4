-- The values of entries, by key.
use Rattle.std.specs.Prelude.{◌≡◌, ℕ, Bool, List, [], ◌∷◌, cond, Option, Some, None, Result, Ok, Err, ⊤, option_map}
use Rattle.std.specs.Prelude.{map}
use Rattle.std.specs.Option.{option_and_then}
use Rattle.std.specs.List.{list_all, list_any}
use Rattle.std.specs.Str.{bytes_eq}
use Rattle.std.specs.Borrow.{Bor}
use Rattle.wire_bodies.specs.Lines.{Entry}
use Rattle.wire_bodies.specs.declared.error.BodyError.{BodyError}
use Rattle.wire_bodies.specs.declared.error.BodyError.TheVariants.{BadBodyHead, Memory}
use Rattle.wire_bodies.specs.declared.entries.Found.{Found}
use Rattle.wire_bodies.specs.declared.entries.Found.TheVariants as found

-- the values after a key, in their order
abbrev pub values : List ℕ → List Entry → List (List ℕ)
values key [] = []
values key (e ∷ es) = cond (bytes_eq e.0 key) (e.1 ∷ values key es) (values key es)

-- each key is one of these
abbrev pub are_known : List (List ℕ) → List Entry → Bool
are_known keys es = list_all (λ e. list_any (bytes_eq e.0) keys) es

-- ---- what values stand for, where each of them is read by a function

module _ {A : Type 0} (read : List ℕ → Option A) where
  -- exactly one value
  abbrev pub single : List (List ℕ) → Option A
  single [] = None
  single (v ∷ []) = read v
  single (v ∷ w ∷ vs) = None

  -- one value or none
  abbrev pub optional : List (List ℕ) → Option (Option A)
  optional [] = Some None
  optional (v ∷ []) = option_map (λ x. Some x) (read v)
  optional (v ∷ w ∷ vs) = None

  -- any number of values
  abbrev pub each : List (List ℕ) → Option (List A)
  each [] = Some []
  each (v ∷ vs) = option_and_then (λ x. option_map (λ xs. x ∷ xs) (each vs)) (read v)

-- ---- what the functions answer

-- the value that is present, or that none is
abbrev pub Answers : {A B : Type 0} → (A → B) → Option B → Result A BodyError → Type 0
Answers view present (Ok x) = present ≡ Some (view x)
Answers view present (Err BadBodyHead) = present ≡ None
Answers view present (Err Memory) = ⊤

-- no value, this one value, or more than one
abbrev pub Are : List (List ℕ) → Found → Type 0
Are [] found.None = ⊤
Are (v ∷ []) (found.One w) = w.now ≡ v
Are (v ∷ w ∷ vs) found.More = ⊤
Are _ _ = ⊥

-- the texts of borrowed keys
abbrev pub texts : List (Bor (List ℕ)) → List (List ℕ)
texts keys = map (λ key. key.now) keys
