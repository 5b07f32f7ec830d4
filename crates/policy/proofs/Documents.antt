-- The document of a configuration, from what the reader of TOML says.
use Rattle.std.proofs.Common.{◌≡◌, ℕ, ◌≤◌, ◌<◌, le-leb, List, length, Some, None, Err, inl, inr, refl}
use Rattle.std.proofs.lemmas.Bool.{cases_Bool, lt-leb}
use Rattle.std.proofs.lemmas.Str.{is_utf8-from_IsUtf8, IsUtf8-from_is_utf8}
use Rattle.std.specs.Str.{IsUtf8, is_utf8}
use Rattle.toml.specs.Data.{Members}
use Rattle.toml.specs.Parse.{parse_document}
use Rattle.policy.specs.Toml.{document_of, config_of}
use Rattle.policy.specs.declared.error.KeyWord.TheVariants.{Syntax}

pub document-present : (bytes : List ℕ) (t : Members) → length bytes ≤ 1048576 → IsUtf8 bytes
    → parse_document bytes ≡ Some t → document_of bytes ≡ Some t
document-present bytes t small text parsed =
    rw (le-leb (length bytes) 1048576 small, is_utf8-from_IsUtf8 bytes text) parsed

pub document-none : (bytes : List ℕ) → length bytes ≤ 1048576 → (IsUtf8 bytes → parse_document bytes ≡ None)
    → document_of bytes ≡ None
document-none bytes small refused =
    elim (cases_Bool (is_utf8 bytes)) [
      | inl text ↦ rw (le-leb (length bytes) 1048576 small, text) (refused (IsUtf8-from_is_utf8 bytes text))
      | inr other ↦ rw (le-leb (length bytes) 1048576 small, other)
    ]

-- a text above the limit is refused whatever it says
pub config_of-too_long : (bytes : List ℕ) → 1048576 < length bytes → config_of bytes ≡ Err Syntax
config_of-too_long bytes long = rw (lt-leb (length bytes) 1048576 long) refl
