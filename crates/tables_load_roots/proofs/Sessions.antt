-- Temporary roots that are put into the outline one after another, and what is tested of them.
use Rattle.std.proofs.Common.{◌≡◌, ℤ, pos, negsuc, List, [], ◌∷◌, map, Bool, true, false, cond, Some, None, Option}
use Rattle.std.proofs.Common.{is_some, refl, sym, ap, ◌∙◌, IsTrue}
use Rattle.std.specs.Prelude.{◌↔◌, ℕ}
use Rattle.std.specs.declared.cmp.Ordering.{Ordering}
use Rattle.std.specs.Ordering.{eq_by_cmp}
use Rattle.std.specs.Cmp.{IsTotalOrder}
use Rattle.std.specs.FinMap as finite
use Rattle.std.specs.FinMap.Entries.{find as find_entry}
use Rattle.std.proofs.lemmas.Bool.{false≢true}
use Rattle.tables_sql.specs.Contents.{Contents, SessionPath, session_path_cmp}
use Rattle.tables_sql.proofs.Orders.{session_path_total, session_path_antisymmetric}
use Rattle.paths.specs.Names.{is_plain_name}
use Rattle.paths.specs.Root.{Set, set_of}
use Rattle.model.specs.World.{Temporary, temporary_cmp}
use Rattle.tables_world.specs.Rows.{temporary_in}
use Rattle.tables_world.specs.Worlds.{rows_of, world_in}
use Rattle.tables_world.specs.Parts.{IsSoundSession}
use Rattle.model.proofs.Empty.{no_entries, no_key}
use Rattle.tables_outline.specs.Maps.{put_all}
use Rattle.tables_outline.proofs.Orders.{temporary_total, temporary_antisymmetric}
use Rattle.tables_load_roots.specs.Loaded.{Objects, is_session_number, is_temporary_root, are_temporary, AreObjects}
use Rattle.tables_load_roots.proofs.EachEntry.{tested_entries}
use Rattle.tables_load_roots.proofs.SoundRoots.{first_true, second_true, both_true, some_key, from_target, to_target}

-- what a row makes a member of
abbrev pub member : SessionPath × Unit {0} → Temporary × Unit {0}
member e = (temporary_in e.0, tt)

-- ---- members that are put one after another make the set of all

abbrev either : Option (Unit {0}) → Option (Unit {0}) → Option (Unit {0})
either (Some x) o = Some x
either None o = o

module _ {K : Type 0} {R : K → K → Ordering} (o : IsTotalOrder R) (alike : finite.IsAntisymmetric R) where
  get-members : (es : List (K × Unit {0})) (m : Set R) (q : K)
      → finite.get (put_all es m) q ≡ either (find_entry R q es) (finite.get m q)
  get-members [] m q = refl
  get-members (e ∷ es) m q =
      get-members es (finite.insert m e.0 e.1) q ∙ ap (either (find_entry R q es)) (finite.get-insert o m e.0 e.1 q)
      ∙ by (eq_by_cmp R q e.0) (find_entry R q es)
    where
      by : (b : Bool) (g : Option (Unit {0}))
          → either g (cond b (Some e.1) (finite.get m q)) ≡ either (cond b (Some e.1) g) (finite.get m q)
      by false g = refl
      by true None = refl
      by true (Some x) = refl

  or_none : (g : Option (Unit {0})) → either g None ≡ g
  or_none None = refl
  or_none (Some x) = refl

  members_put : (es : List (K × Unit {0})) → put_all es finite.empty ≡ finite.from_entries {R = R} es
  members_put es = finite.same_map o alike _ _ (λ q.
      get-members es finite.empty q ∙ ap (either (find_entry R q es)) (finite.get-empty R q)
      ∙ or_none (find_entry R q es) ∙ sym (finite.get-from_entries o es q))

members_of : (es : List (SessionPath × Unit {0}))
    → map member es ≡ map (λ (t : Temporary). let d : Temporary × Unit {0} = (t, tt) in d)
    (map temporary_in (map (λ (e : SessionPath × Unit {0}). e.0) es))
members_of [] = refl
members_of (e ∷ es) = ap (λ (l : List (Temporary × Unit {0})). (temporary_in e.0, tt) ∷ l) (members_of es)

-- all rows make what the world has
pub temporary_again : (m : Set session_path_cmp)
    → put_all (map member (finite.entries m)) finite.empty ≡ set_of temporary_cmp (map temporary_in (finite.keys m))
temporary_again m =
    members_put temporary_total temporary_antisymmetric (map member (finite.entries m))
    ∙ ap (finite.from_entries {R = temporary_cmp}) (members_of (finite.entries m))

-- where there are no rows, there are no temporary roots
pub none_kept : (c : Contents) → c.temp_roots ≡ finite.empty → (world_in c).temporary ≡ finite.empty
none_kept c none =
    sym (temporary_again c.temp_roots)
    ∙ ap (λ (es : List (SessionPath × Unit {0})). put_all {R = temporary_cmp} (map member es) finite.empty)
    (ap finite.entries none ∙ no_entries (Unit {0}) session_path_cmp)

-- ---- the tests

is_natural : (z : ℤ) → is_session_number z ≡ true → (k : ℕ) × (z ≡ pos k)
is_natural (pos k) h = (k, refl)
is_natural (negsuc k) h = absurd (false≢true h)

module _ (objects : Objects) (c : Contents) (are : AreObjects objects c) where
  session_from : (k : SessionPath) → is_temporary_root objects (k, tt) ≡ true → IsSoundSession (rows_of c) k
  session_from k h =
      let rest = second_true (is_plain_name k.0) _ h in
      let number = first_true (is_session_number k.1) _ rest in
      let n = is_natural k.1 number in
      record {
        owner = first_true (is_plain_name k.0) _ h;
        number = n.0;
        is_number = n.1;
        session = sym (ap is_session_number n.1) ∙ number;
        target = from_target objects c are k.2 (second_true (is_session_number k.1) _ rest);
      }

  session_to : (k : SessionPath) → IsSoundSession (rows_of c) k → is_temporary_root objects (k, tt) ≡ true
  session_to k s =
      both_true (is_plain_name k.0) _ s.owner
      (both_true (is_session_number k.1) _ (ap is_session_number s.is_number ∙ s.session)
      (to_target objects c are k.2 s.target))

  pub sessions_sound : (are_temporary objects c ≡ true)
      ↔ ((k : SessionPath) → IsTrue (finite.contains_key c.temp_roots k) → IsSoundSession (rows_of c) k)
  sessions_sound = (
    λ h k present.
        let x = some_key (finite.get c.temp_roots k) present in
        session_from k ((tested_entries session_path_total session_path_antisymmetric c.temp_roots
        (is_temporary_root objects)).0 h k x.0 x.1),
    λ sound. (tested_entries session_path_total session_path_antisymmetric c.temp_roots (is_temporary_root objects)).1
        (λ k x e. session_to k (sound k (ap is_some e))),
  )

-- none is unsound where there are no rows
pub no_session : (c : Contents) → c.temp_roots ≡ finite.empty → (k : SessionPath)
    → IsTrue (finite.contains_key c.temp_roots k) → IsSoundSession (rows_of c) k
no_session c none k present =
    absurd (no_key (Unit {0}) session_path_cmp k
    (sym (ap (λ (m : Set session_path_cmp). finite.contains_key m k) none) ∙ present))
