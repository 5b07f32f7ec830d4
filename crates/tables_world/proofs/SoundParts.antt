-- Rows are sound if and only if their parts are.
use Rattle.std.proofs.Common.{◌≡◌, ℕ, ◌≤◌, List, Some, None, Option, option_map, refl, sym, ap, subst, ◌∙◌, IsTrue}
use Rattle.std.specs.Prelude.{ℤ, pos, is_some}
use Rattle.std.specs.FinMap as finite
use Rattle.std.proofs.lemmas.Bool.{false≢true}
use Rattle.std.proofs.lemmas.Option.{same_Some}
use Rattle.paths.specs.Root.{is_session}
use Rattle.tables_sql.specs.Contents.{Stored}
use Rattle.model.specs.World.{Path, Pair, Object, Profile, Temporary, has}
use Rattle.model.specs.Sound.{IsSoundObject, IsSoundProfile}
use Rattle.tables_world.specs.Rows.{Rows, SessionPath, object_in, profile_in, generations_in, number_in, world_of}
use Rattle.tables_world.specs.Rows.{IsSoundRows}
use Rattle.tables_schema.specs.declared.schema.Schema.{Schema}
use Rattle.tables_world.specs.Parts.{IsSoundGeneration, IsSoundSession, AreSoundParts, AreSoundByParts}
use Rattle.tables_world.proofs.Columns.{reference_at, generation_at, temporary_at, object_at, profile_at}

some_mapped : {X Y : Type 0} (f : X → Y) (g : Option X) (y : Y) → option_map f g ≡ Some y
    → (x : X) × (g ≡ Some x) × (f x ≡ y)
some_mapped f None y h = absurd (false≢true (ap is_some h))
some_mapped f (Some x) y h = (x, refl, same_Some (f x) y h)

pub some_key : {X : Type 0} (g : Option X) → IsTrue (is_some g) → (x : X) × (g ≡ Some x)
some_key None h = absurd (false≢true h)
some_key (Some x) h = (x, refl)

is_some_mapped : {X Y : Type 0} (f : X → Y) (g : Option X) → is_some (option_map f g) ≡ is_some g
is_some_mapped f None = refl
is_some_mapped f (Some x) = refl

module _ (schema : Schema) (dir : List ℕ) (c : Rows) where
  valid : (p : Path) → has (world_of c) p ≡ finite.contains_key c.objects p
  valid p = ap is_some (object_at c p) ∙ is_some_mapped (object_in c p) (finite.get c.objects p)

  is_valid : (p : Path) → IsTrue (finite.contains_key c.objects p) → IsTrue (has (world_of c) p)
  is_valid p h = valid p ∙ h

  -- ---- from the parts

  module _ (h : AreSoundParts schema dir c) where
    sound_object : (p : Path) (o : Object) → finite.get (world_of c).objects p ≡ Some o
        → IsSoundObject dir (world_of c) p o
    sound_object p o e =
        let it = some_mapped (object_in c p) (finite.get c.objects p) o (sym (object_at c p) ∙ e) in
        let row = h.objects.objects p it.0 it.1 in
        subst (IsSoundObject dir (world_of c) p) it.2 (record {
          path = row.path;
          tree = row.tree;
          archive = row.archive;
          deriver = row.deriver;
          references = λ r present. is_valid r (h.objects.references p r (sym (reference_at c p r) ∙ present)).1;
          reference_count = row.reference_count;
          no_self_reference = row.no_self_reference;
          address = row.address;
          derivation = row.derivation;
          outputs = row.outputs_are;
        })

    numbers : (owner name : List ℕ) (n : ℤ) → IsTrue (finite.contains_key c.generations (owner, name, n))
        → (m : ℕ) × (n ≡ pos m)
    numbers owner name n present =
        let t = some_key (finite.get c.generations (owner, name, n)) present in
        let row = h.roots.generations owner name n t.0 t.1 in
        (row.number, row.is_number)

    sessions : (k : SessionPath) → IsTrue (finite.contains_key c.temp_roots k) → (m : ℕ) × (k.1 ≡ pos m)
    sessions k present = let s = h.sessions k present in (s.number, s.is_number)

    same_number : (m k : ℕ) → pos m ≡ pos k → k ≡ m
    same_number m k e = ap number_in (sym e)

    sound_profile : (owned : Pair) (q : Profile) → finite.get (world_of c).profiles owned ≡ Some q
        → IsSoundProfile (world_of c) owned q
    sound_profile owned q e =
        let it = some_mapped (profile_in c owned) (finite.get c.profiles owned) q (sym (profile_at c owned) ∙ e) in
        let row = h.roots.profiles owned it.0 it.1 in
        let current = numbers owned.0 owned.1 it.0 row.2 in
        subst (IsSoundProfile (world_of c) owned) it.2 (record {
          owner = row.0;
          name = row.1;
          current =
              ap is_some (generation_at c numbers owned.0 owned.1 (number_in it.0)
              ∙ ap (λ n. finite.get c.generations (owned.0, owned.1, n))
              (ap (λ n. pos (number_in n)) current.1 ∙ sym current.1)) ∙ row.2;
          lowest = λ m present.
              let t =
              some_key (finite.get c.generations (owned.0, owned.1, pos m))
              (sym (ap is_some (generation_at c numbers owned.0 owned.1 m)) ∙ present) in
              let g = h.roots.generations owned.0 owned.1 (pos m) t.0 t.1 in
              subst (λ k. 1 ≤ k) (same_number m g.number g.is_number) g.lowest;
          highest = λ m present.
              let t =
              some_key (finite.get c.generations (owned.0, owned.1, pos m))
              (sym (ap is_some (generation_at c numbers owned.0 owned.1 m)) ∙ present) in
              let g = h.roots.generations owned.0 owned.1 (pos m) t.0 t.1 in
              subst (λ k. k ≤ 9999) (same_number m g.number g.is_number) g.highest;
          targets =
              λ m t found. is_valid t (h.roots.generations owned.0 owned.1 (pos m) t
              (sym (generation_at c numbers owned.0 owned.1 m) ∙ found)).target;
        })

    session_of : (t : Temporary) → IsTrue (finite.contains_key (world_of c).temporary t)
        → IsSoundSession c (t.owner, pos t.session, t.path)
    session_of t present = h.sessions (t.owner, pos t.session, t.path) (sym (temporary_at c sessions t) ∙ present)

    rows_of_parts : IsSoundRows schema dir c
    rows_of_parts = record {
      directory = h.directory;
      settings_are = h.settings_are;
      no_pieces = h.no_pieces;
      no_temporary = h.no_temporary;
      cut = h.cut;
      hash = λ p x e. (h.objects.objects p x e).hash;
      address = λ p x text e ca. (h.objects.objects p x e).address_text text ca;
      pieces = h.pieces;
      references = λ p r present. (h.objects.references p r present).0;
      outputs = h.objects.outputs;
      generations = λ owner name n present. let t =
          some_key (finite.get c.generations (owner, name, n)) present in
          (h.roots.generations owner name n t.0 t.1).profile;
      numbers = numbers;
      current = λ owned n e. numbers owned.0 owned.1 n (h.roots.profiles owned n e).2;
      sessions = sessions;
      world = record {
        objects = sound_object;
        permanent_name = λ name present. let e =
            some_key (finite.get c.permanent name) present in (h.roots.permanent name e.0 e.1).0;
        permanent_target = λ name t e. is_valid t (h.roots.permanent name t e).1;
        user_root_owner = λ owned present. let e =
            some_key (finite.get c.user_roots owned) present in (h.roots.user_roots owned e.0 e.1).0;
        user_root_name = λ owned present. let e =
            some_key (finite.get c.user_roots owned) present in (h.roots.user_roots owned e.0 e.1).1;
        user_root_target = λ owned t e. is_valid t (h.roots.user_roots owned t e).2;
        profiles = sound_profile;
        runtime_label = λ r present. (h.roots.runtime r present).0;
        runtime_target = λ r present. is_valid r.1 (h.roots.runtime r present).1;
        temporary_owner = λ t present. (session_of t present).owner;
        temporary_session = λ t present. let s =
            session_of t present in subst (λ k. IsTrue (is_session k)) (same_number t.session s.number s.is_number)
            s.session;
        temporary_target = λ t present. is_valid t.path (session_of t present).target;
      };
    }

  -- ---- to the parts

  module _ (h : IsSoundRows schema dir c) where
    object_reported : (p : Path) (x : Stored) → finite.get c.objects p ≡ Some x
        → IsSoundObject dir (world_of c) p (object_in c p x)
    object_reported p x e = h.world.objects p (object_in c p x) (object_at c p ∙ ap (option_map (object_in c p)) e)

    profile_reported : (owned : Pair) (n : ℤ) → finite.get c.profiles owned ≡ Some n
        → IsSoundProfile (world_of c) owned (profile_in c owned n)
    profile_reported owned n e =
        h.world.profiles owned (profile_in c owned n) (profile_at c owned ∙ ap (option_map (profile_in c owned)) e)

    is_object : (p : Path) → IsTrue (has (world_of c) p) → IsTrue (finite.contains_key c.objects p)
    is_object p present = sym (valid p) ∙ present

    generation_sound : (owner name : List ℕ) (n : ℤ) (t : Path) → finite.get c.generations (owner, name, n) ≡ Some t
        → IsSoundGeneration c owner name n t
    generation_sound owner name n t e =
        let present = ap is_some e in
        let profile = h.generations owner name n present in
        let current = some_key (finite.get c.profiles (owner, name)) profile in
        let q = profile_reported (owner, name) current.0 current.1 in
        let m = h.numbers owner name n present in
        let found : finite.get (generations_in c (owner, name)) m.0 ≡ Some t =
        generation_at c h.numbers owner name m.0 ∙ ap (λ k. finite.get c.generations (owner, name, k)) (sym m.1)
        ∙ e in
        record {
          number = m.0;
          is_number = m.1;
          lowest = q.lowest m.0 (ap is_some found);
          highest = q.highest m.0 (ap is_some found);
          profile = profile;
          target = is_object t (q.targets m.0 t found);
        }

    session_sound : (k : SessionPath) → IsTrue (finite.contains_key c.temp_roots k) → IsSoundSession c k
    session_sound k present =
        let m = h.sessions k present in
        let t : Temporary = record { owner = k.0; session = m.0; path = k.2 } in
        let reported : IsTrue (finite.contains_key (world_of c).temporary t) =
        temporary_at c h.sessions t ∙ ap (λ (n : ℤ). finite.contains_key c.temp_roots (k.0, n, k.2)) (sym m.1)
        ∙ present in
        record {
          owner = h.world.temporary_owner t reported;
          number = m.0;
          is_number = m.1;
          session = h.world.temporary_session t reported;
          target = is_object k.2 (h.world.temporary_target t reported);
        }

    parts_of_rows : AreSoundParts schema dir c
    parts_of_rows = record {
      directory = h.directory;
      settings_are = h.settings_are;
      no_pieces = h.no_pieces;
      no_temporary = h.no_temporary;
      cut = h.cut;
      pieces = h.pieces;
      sessions = session_sound;
      objects = record {
        objects = λ p x e.
            let o = object_reported p x e in
            record {
              path = o.path;
              hash = h.hash p x e;
              tree = o.tree;
              archive = o.archive;
              deriver = o.deriver;
              address_text = λ text ca. h.address p x text e ca;
              names = λ r present. let y =
                  some_key (finite.get c.objects r) (is_object r (o.references r present)) in
                  (object_reported r y.0 y.1).path;
              reference_count = o.reference_count;
              no_self_reference = o.no_self_reference;
              address = o.address;
              derivation = o.derivation;
              outputs_are = o.outputs;
            };
        references = λ p r present.
            let from = h.references p r present in
            let x = some_key (finite.get c.objects p) from in
            (from, is_object r ((object_reported p x.0 x.1).references r (reference_at c p r ∙ present)));
        outputs = h.outputs;
      };
      roots = record {
        permanent =
            λ name t e. (h.world.permanent_name name (ap is_some e), is_object t (h.world.permanent_target name t e));
        user_roots =
            λ owned t e. (
              h.world.user_root_owner owned (ap is_some e),
              h.world.user_root_name owned (ap is_some e),
              is_object t (h.world.user_root_target owned t e),
            );
        runtime = λ r present. (h.world.runtime_label r present, is_object r.1 (h.world.runtime_target r present));
        profiles = λ owned n e.
            let q = profile_reported owned n e in
            let m = h.current owned n e in (
              q.owner,
              q.name,
              sym (ap is_some
                  (generation_at c h.numbers owned.0 owned.1 (number_in n)
                  ∙ ap (λ k. finite.get c.generations (owned.0, owned.1, k))
                  (ap (λ k. pos (number_in k)) m.1 ∙ sym m.1))) ∙ q.current,
            );
        generations = generation_sound;
      };
    }

pub sound_by_parts : AreSoundByParts
sound_by_parts schema dir c = (parts_of_rows schema dir c, rows_of_parts schema dir c)
