-- Bytes that are no text name no caller.
use Rattle.std.proofs.Common.{◌≡◌, ℕ, ◌<◌, Bool, true, false, cond, eqb, not, ◌&&◌, List, [], ◌∷◌, length, get_or}
use Rattle.std.proofs.Common.{Option, Some, None, arith, leb, refl, subst}
use Rattle.std.specs.List.{list_all}
use Rattle.std.specs.Str.{IsUtf8, IsAscii}
use Rattle.std.proofs.lemmas.Bool.{and_parts}
use Rattle.std.proofs.lemmas.Bool.Decides.{nat_tests}
use Rattle.std.proofs.lemmas.Str.{IsUtf8-from_ascii}
use Rattle.std.proofs.lemmas.Str.Ascii.{IsAscii-nil, IsAscii-cons}
use Rattle.paths.specs.Names.{is_plain_byte, is_plain_name}
use Rattle.policy.specs.Caller.{Caller, caller_of}
use Rattle.std.specs.Borrow.{Bor}
use Rattle.wire_server.specs.Fields.{Are}
use Rattle.wire_server.specs.declared.fields.Values.TheVariants as values
use Rattle.wire_server.specs.Callers.{named, caller_by}

plain_byte : (b : ℕ) → is_plain_byte b ≡ true → b < 128
plain_byte b h = grind (arith, nat_tests)

plain_bytes : (bs : List ℕ) → list_all is_plain_byte bs ≡ true → IsAscii bs
plain_bytes [] h = IsAscii-nil
plain_bytes (b ∷ bs) h =
    let parts = and_parts (is_plain_byte b) (list_all is_plain_byte bs) h in
    IsAscii-cons b bs (plain_byte b parts.0) (plain_bytes bs parts.1)

plain_name_is_text : (name : List ℕ) → is_plain_name name ≡ true → IsUtf8 name
plain_name_is_text name h =
    IsUtf8-from_ascii name (plain_bytes name
    (and_parts (leb 1 (length name) && leb (length name) 64 && not (eqb (get_or name 0 0) 45))
    (list_all is_plain_byte name) h).1)

no_plain_name : (name : List ℕ) → (IsUtf8 name → ⊥) → is_plain_name name ≡ false
no_plain_name name none = by (is_plain_name name) refl
  where
    by : (v : Bool) → is_plain_name name ≡ v → v ≡ false
    by true e = absurd (none (plain_name_is_text name e))
    by false e = refl

-- a name that is no text
pub no_name : (name : List ℕ) (group : Option (List ℕ)) → (IsUtf8 name → ⊥) → named name group ≡ None
no_name name group none = rw (no_plain_name name none) refl

-- a group that is no text
pub no_group : (name group : List ℕ) → (IsUtf8 group → ⊥) → named name (Some group) ≡ None
no_group name group none = rw (no_plain_name group none) (by (is_plain_name name) (Some (caller_of name (Some group))))
  where
    by : (v : Bool) (present : Option Caller) → cond (v && false) present None ≡ None
    by true present = refl
    by false present = refl

-- the one user, and a group that is no text
pub no_group_of : (users groups : List (List ℕ)) (user group : Bor (List ℕ)) → Are users (values.One user)
    → Are groups (values.One group)
    → (IsUtf8 group.now → ⊥) → caller_by users groups ≡ None
no_group_of [] groups user group one-user one-group none = elim one-user [ ]
no_group_of (u ∷ v ∷ us) groups user group one-user one-group none = elim one-user [ ]
no_group_of (u ∷ []) [] user group one-user one-group none = elim one-group [ ]
no_group_of (u ∷ []) (g ∷ h ∷ gs) user group one-user one-group none = elim one-group [ ]
no_group_of (u ∷ []) (g ∷ []) user group one-user one-group none =
    no_group u g (subst (λ t. IsUtf8 t → ⊥) one-group none)

-- the one user, and the one group
pub two_named : (users groups : List (List ℕ)) (user group : Bor (List ℕ)) (text : List ℕ) → Are users (values.One user)
    → Are groups (values.One group)
    → text ≡ group.now → named user.now (Some text) ≡ caller_by users groups
two_named [] groups user group text one-user one-group is = elim one-user [ ]
two_named (u ∷ v ∷ us) groups user group text one-user one-group is = elim one-user [ ]
two_named (u ∷ []) [] user group text one-user one-group is = elim one-group [ ]
two_named (u ∷ []) (g ∷ h ∷ gs) user group text one-user one-group is = elim one-group [ ]
two_named (u ∷ []) (g ∷ []) user group text one-user one-group is = cc
