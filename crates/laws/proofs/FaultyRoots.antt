-- Roots with a fault aren't sound.
use Rattle.std.proofs.Common.{◌≡◌, ℕ, ◌≤◌, ◌&&◌, List, [], ◌∷◌, length, sym, ap, subst, ◌∙◌, arith, IsTrue, inl, inr}
use Rattle.std.specs.Prelude.{ℤ, pos, ◌<ℤ◌, nat_le, Contains}
use Rattle.std.specs.List.{list_all}
use Rattle.std.specs.FinMap as finite
use Rattle.std.proofs.lemmas.Bool.{and_parts, leb-true}
use Rattle.std.proofs.lemmas.Int.{ints}
use Rattle.paths.specs.Root.{is_label_byte, is_runtime_label}
use Rattle.tables_sql.specs.Contents.{Contents}
use Rattle.model.specs.World.{Path}
use Rattle.tables_schema.specs.declared.schema.Schema.{Schema}
use Rattle.tables_world.specs.Worlds.{rows_of, IsSoundBy}
use Rattle.laws.specs.FaultyRoots.{FaultyPermanentAreUnsound, FaultyUserRootsAreUnsound, FaultyRuntimeAreUnsound}
use Rattle.laws.specs.FaultyRoots.{FaultyProfilesAreUnsound, FaultyGenerationsAreUnsound, FaultySessionsAreUnsound}
use Rattle.laws.proofs.FaultyRows.{clash, no_key, parts_of}
use Rattle.tables_world.proofs.Recorded.{cases, no_member}
use Rattle.laws.proofs.Schemas.{sessions_keep_in_bounds}

pub faulty_permanent : FaultyPermanentAreUnsound
faulty_permanent c name t row = record {
  name_not_plain = λ bad dir schema sound. clash bad ((parts_of schema dir c sound).roots.permanent name t row).0;
  to_no_object = λ none dir schema sound. no_key none ((parts_of schema dir c sound).roots.permanent name t row).1;
}

pub faulty_user_roots : FaultyUserRootsAreUnsound
faulty_user_roots c owner name t row = record {
  owner_not_plain =
      λ bad dir schema sound. clash bad ((parts_of schema dir c sound).roots.user_roots (owner, name) t row).0;
  name_not_plain =
      λ bad dir schema sound. clash bad ((parts_of schema dir c sound).roots.user_roots (owner, name) t row).1;
  to_no_object =
      λ none dir schema sound. no_key none ((parts_of schema dir c sound).roots.user_roots (owner, name) t row).2;
}

-- ---- labels

each : (label : List ℕ) (b : ℕ) → IsTrue (list_all is_label_byte label) → Contains label b → IsTrue (is_label_byte b)
each [] b h c = absurd (no_member b c)
each (x ∷ xs) b h c =
    let parts = and_parts (is_label_byte x) (list_all is_label_byte xs) h in
    elim (cases x b xs c) as (λ _. IsTrue (is_label_byte b)) [
      | inl is ↦ ap is_label_byte (sym is) ∙ parts.0
      | inr later ↦ each xs b parts.1 later
    ]

-- a label has 1 to 256 bytes, each of 33 to 126
record IsLabel (label : List ℕ) : Type 0 where
  some : 1 ≤ length label
  most : length label ≤ 256
  low : (b : ℕ) → Contains label b → 33 ≤ b
  high : (b : ℕ) → Contains label b → b ≤ 126

label_of : (label : List ℕ) → IsTrue (is_runtime_label label) → IsLabel label
label_of label h =
    let both = and_parts (nat_le 1 (length label) && nat_le (length label) 256) (list_all is_label_byte label) h in
    let sizes = and_parts (nat_le 1 (length label)) (nat_le (length label) 256) both.0 in
    record {
      some = leb-true 1 (length label) sizes.0;
      most = leb-true (length label) 256 sizes.1;
      low = λ b c. leb-true 33 b (and_parts (nat_le 33 b) (nat_le b 126) (each label b both.1 c)).0;
      high = λ b c. leb-true b 126 (and_parts (nat_le 33 b) (nat_le b 126) (each label b both.1 c)).1;
    }

module _ (c : Contents) (label : List ℕ) (t : Path) (row : IsTrue (finite.contains_key c.runtime (label, t)))
    (schema : Schema) (dir : List ℕ) (sound : IsSoundBy schema dir c) where
  labelled : IsLabel label
  labelled = label_of label ((parts_of schema dir c sound).roots.runtime (label, t) row).0

pub faulty_runtime : FaultyRuntimeAreUnsound
faulty_runtime c label t row = record {
  no_label = λ none dir schema sound. let l =
      labelled c label t row schema dir sound in omega (arith, l.some, ap length none);
  label_too_long = λ more dir schema sound. let l =
      labelled c label t row schema dir sound in omega (arith, l.most, more);
  low_byte = λ b present less dir schema sound. let l =
      labelled c label t row schema dir sound in omega (arith, l.low b present, less);
  high_byte = λ b present more dir schema sound. let l =
      labelled c label t row schema dir sound in omega (arith, l.high b present, more);
  to_no_object = λ none dir schema sound. no_key none ((parts_of schema dir c sound).roots.runtime (label, t) row).1;
}

-- ---- numbers

too_low : (n : ℤ) (m : ℕ) → n ≡ pos m → 1 ≤ m → n <ℤ pos 1 → ⊥
too_low n m is le low = let less : pos m <ℤ pos 1 = subst (λ z. z <ℤ pos 1) is low in omega (arith, ints, less, le)

too_high : (n : ℤ) (m last : ℕ) → n ≡ pos m → m ≤ last → pos last <ℤ n → ⊥
too_high n m last is le high = let more : pos last <ℤ pos m =
    subst (λ z. pos last <ℤ z) is high in omega (arith, ints, more, le)

-- ---- profiles

pub faulty_profiles : FaultyProfilesAreUnsound
faulty_profiles c owner name current row = record {
  owner_not_plain =
      λ bad dir schema sound. clash bad ((parts_of schema dir c sound).roots.profiles (owner, name) current row).0;
  name_not_plain =
      λ bad dir schema sound. clash bad ((parts_of schema dir c sound).roots.profiles (owner, name) current row).1;
  current_of_no_generation =
      λ none dir schema sound. no_key none ((parts_of schema dir c sound).roots.profiles (owner, name) current row).2;
}

pub faulty_generations : FaultyGenerationsAreUnsound
faulty_generations c owner name n t row = record {
  below_1 = λ low dir schema sound. let g =
      (parts_of schema dir c sound).roots.generations owner name n t row in too_low n g.number g.is_number g.lowest low;
  above_9999 = λ high dir schema sound. let g =
      (parts_of schema dir c sound).roots.generations owner name n t row in
      too_high n g.number 9999 g.is_number g.highest high;
  of_no_profile =
      λ none dir schema sound. no_key none ((parts_of schema dir c sound).roots.generations owner name n t row).profile;
  to_no_object =
      λ none dir schema sound. no_key none ((parts_of schema dir c sound).roots.generations owner name n t row).target;
}

-- ---- sessions

pub faulty_sessions : FaultySessionsAreUnsound
faulty_sessions c owner n t row = record {
  owner_not_plain =
      λ bad dir schema sound. clash bad (sessions_keep_in_bounds schema dir (rows_of c) sound (owner, n, t) row).owner;
  below_1 = λ low dir schema sound. let s =
      sessions_keep_in_bounds schema dir (rows_of c) sound (owner, n, t) row in
      too_low n s.number s.is_number s.lowest low;
  above_4194304 = λ high dir schema sound. let s =
      sessions_keep_in_bounds schema dir (rows_of c) sound (owner, n, t) row in
      too_high n s.number 4194304 s.is_number s.highest high;
  to_no_object =
      λ none dir schema sound. no_key none
      (sessions_keep_in_bounds schema dir (rows_of c) sound (owner, n, t) row).target;
}
