-- What a change of the temporary roots makes of the world.
use Rattle.std.proofs.Common.{◌≡◌, ℕ, List, Bool, true, false, ◌&&◌, not, cond, Some, None, Option, is_some, refl, sym}
use Rattle.std.proofs.Common.{ap, subst, ◌∙◌, IsTrue, eq-eqb, T}
use Rattle.std.specs.Prelude.{ℤ, pos, ◌==◌}
use Rattle.std.specs.declared.cmp.Ordering.{Ordering}
use Rattle.std.specs.declared.cmp.Ordering.TheVariants.{Less, Equal, Greater}
use Rattle.std.specs.Ordering.{eq_by_cmp, is_eq, int_cmp, ordering_then}
use Rattle.std.specs.Cmp.{IsTotalOrder, eq_by_cmp_equiv, int_cmp_total}
use Rattle.std.specs.FinMap as finite
use Rattle.std.proofs.lemmas.Bool.{false≢true}
use Rattle.std.proofs.Math.Facts.{eqb_yes}
use Rattle.paths.specs.Root.{bytes_cmp, Set}
use Rattle.tables_sql.specs.Contents.{Contents, SessionPath, session_path_cmp}
use Rattle.tables_sql.proofs.Orders.{session_path_total, session_path_antisymmetric}
use Rattle.model.specs.World.{Path, Temporary, temporary_cmp, World}
use Rattle.model.specs.Sound.{IsSound}
use Rattle.tables_world.specs.Rows.{number_in, temporary_in}
use Rattle.tables_world.specs.Worlds.{IsSoundContents, rows_of, world_in}
use Rattle.tables_world.proofs.Columns.{temporary_at}
use Rattle.tables_outline.proofs.Orders.{temporary_total, temporary_antisymmetric}
use Rattle.tables_outline.proofs.Puts.{get-kept, tied_is}
use Rattle.model.specs.Effects.{is_of_session}
use Rattle.tables_outline.specs.Temporary.{entries_without_session}
use Rattle.tables_writes.specs.Temporary.{keeps}
use Rattle.tables_writes.proofs.AfterWrites.{Follows}

-- ---- two keys are the same in one order where they are in another

same_tests : (a b : Bool) → (a ≡ true → b ≡ true) → (b ≡ true → a ≡ true) → a ≡ b
same_tests true b f g = sym (f refl)
same_tests false true f g = g refl
same_tests false false f g = refl

tied_alike : {K L : Type 0} {R : K → K → Ordering} {S : L → L → Ordering} → IsTotalOrder R → finite.IsAntisymmetric R
    → IsTotalOrder S → finite.IsAntisymmetric S
    → (f : K → L) (back : L → K) → ((x : K) → back (f x) ≡ x) → (x y : K) → eq_by_cmp S (f x) (f y) ≡ eq_by_cmp R x y
tied_alike {R = R} {S = S} o one p other f back again x y = same_tests (eq_by_cmp S (f x) (f y)) (eq_by_cmp R x y)
    (λ h. let e : x ≡ y = sym (again x) ∙ ap back (tied_is other (f x) (f y) h) ∙ again y in
    ap (eq_by_cmp R x) (sym e) ∙ (eq_by_cmp_equiv o).refl x)
    (λ h. let e : x ≡ y = tied_is one x y h in
    ap (λ z. eq_by_cmp S (f x) (f z)) (sym e) ∙ (eq_by_cmp_equiv p).refl (f x))

-- a temporary root, as its row has it
abbrev row_of : Temporary → SessionPath
row_of t = (t.owner, pos t.session, t.path)

kept_tied : (t u : Temporary) → eq_by_cmp session_path_cmp (row_of t) (row_of u) ≡ eq_by_cmp temporary_cmp t u
kept_tied t u =
    tied_alike temporary_total temporary_antisymmetric session_path_total session_path_antisymmetric row_of temporary_in
    (λ x. refl) t u

yes : (b : Bool) → b ≡ true → T b
yes true h = tt
yes false h = absurd (false≢true h)

number_tied : (n m : ℕ) → eq_by_cmp int_cmp (pos n) (pos m) ≡ (n == m)
number_tied n m = same_tests (eq_by_cmp int_cmp (pos n) (pos m)) (n == m)
    (λ h. eq-eqb n m (ap number_in (tied_is finite.int_cmp-IsAntisymmetric (pos n) (pos m) h)))
    (λ h. ap (λ (k : ℕ). eq_by_cmp int_cmp (pos n) (pos k)) (sym (eqb_yes (yes (n == m) h)))
    ∙ (eq_by_cmp_equiv int_cmp_total).refl (pos n))

-- ---- sets by what is in them

in_set : (o : Option (Unit {0})) → o ≡ cond (is_some o) (Some tt) None
in_set None = refl
in_set (Some x) = refl

same_set : (m n : Set temporary_cmp) → ((t : Temporary) → finite.contains_key m t ≡ finite.contains_key n t) → m ≡ n
same_set m n h =
    finite.same_map temporary_total temporary_antisymmetric m n
    (λ t. in_set (finite.get m t) ∙ ap (λ (b : Bool). cond b (Some tt) None) (h t) ∙ sym (in_set (finite.get n t)))

module _ (dir : List ℕ) (c : Contents) (rows : IsSoundContents dir c) where
  -- rows in which no number is negative show this world, and are sound where it is
  others_follow : (f : finite.FinMap session_path_cmp (Unit {0}) → finite.FinMap session_path_cmp (Unit {0}))
      (F : Set temporary_cmp → Set temporary_cmp)
      → ((k : SessionPath) → IsTrue (finite.contains_key (f c.temp_roots) k) → (m : ℕ) × (k.1 ≡ pos m))
      → ((t : Temporary) → finite.contains_key (f c.temp_roots) (row_of t)
      ≡ finite.contains_key (F (world_in c).temporary) t)
      → Follows dir (λ (x : Contents). record x { temp_roots = f x.temp_roots })
      (λ (w : World). record w { temporary = F w.temporary }) c
  others_follow f F numbers reported =
      let after : Contents = record c { temp_roots = f c.temp_roots } in
      let same : world_in after ≡ record (world_in c) { temporary = F (world_in c).temporary } =
      ap (λ m. record (world_in c) { temporary = m })
      (same_set (world_in after).temporary (F (world_in c).temporary)
      (λ t. temporary_at (rows_of after) numbers t ∙ reported t)) in
      record {
        world = same;
        sound = λ world. record {
          directory = rows.directory;
          settings_are = rows.settings_are;
          no_pieces = rows.no_pieces;
          no_temporary = λ h. absurd (false≢true (sym h));
          cut = rows.cut;
          pieces = rows.pieces;
          sessions = numbers;
          address = rows.address;
          hash = rows.hash;
          references = rows.references;
          outputs = rows.outputs;
          generations = rows.generations;
          numbers = rows.numbers;
          current = rows.current;
          world = subst (IsSound dir) (sym same) world;
        };
      }

  was_reported : (t : Temporary)
      → finite.contains_key c.temp_roots (row_of t) ≡ finite.contains_key (world_in c).temporary t
  was_reported t = sym (temporary_at (rows_of c) rows.sessions t)

  -- one more, or the same once more
  module _ (owner : List ℕ) (session : ℕ) (path : Path) where
    abbrev more : finite.FinMap session_path_cmp (Unit {0}) → finite.FinMap session_path_cmp (Unit {0})
    more m = finite.insert m (owner, pos session, path) tt

    abbrev gains : Set temporary_cmp → Set temporary_cmp
    gains m = finite.insert m (keeps owner session path) tt

    numbers_more : (k : SessionPath) → IsTrue (finite.contains_key (more c.temp_roots) k) → (m : ℕ) × (k.1 ≡ pos m)
    numbers_more k h =
        by (eq_by_cmp session_path_cmp k (owner, pos session, path)) refl
        (ap is_some (sym (finite.get-insert session_path_total c.temp_roots (owner, pos session, path) tt k)) ∙ h)
      where
        by : (b : Bool) → eq_by_cmp session_path_cmp k (owner, pos session, path) ≡ b
            → is_some (cond b (Some tt) (finite.get c.temp_roots k)) ≡ true → (m : ℕ) × (k.1 ≡ pos m)
        by true t present =
            (session, ap (λ (x : SessionPath). x.1) (tied_is session_path_antisymmetric k (owner, pos session, path) t))
        by false t present = rows.sessions k present

    reported_more : (t : Temporary)
        → finite.contains_key (more c.temp_roots) (row_of t) ≡ finite.contains_key (gains (world_in c).temporary) t
    reported_more t =
        ap is_some (finite.get-insert session_path_total c.temp_roots (owner, pos session, path) tt (row_of t))
        ∙ ap (λ b. is_some (cond b (Some tt) (finite.get c.temp_roots (row_of t))))
        (kept_tied t (keeps owner session path))
        ∙ by (eq_by_cmp temporary_cmp t (keeps owner session path)) (was_reported t)
        ∙ ap is_some (sym (finite.get-insert temporary_total (world_in c).temporary (keeps owner session path) tt t))
      where
        by : (b : Bool) → is_some (finite.get c.temp_roots (row_of t)) ≡ is_some (finite.get (world_in c).temporary t)
            → is_some (cond b (Some tt) (finite.get c.temp_roots (row_of t)))
            ≡ is_some (cond b (Some tt) (finite.get (world_in c).temporary t))
        by true h = refl
        by false h = h

    pub added_follows : Follows dir
        (λ (x : Contents). record x { temp_roots = finite.insert x.temp_roots (owner, pos session, path) tt })
        (λ (w : World). record w { temporary = finite.insert w.temporary (keeps owner session path) tt }) c
    added_follows = others_follow more gains numbers_more reported_more

  -- those of a session gone
  module _ (owner : List ℕ) (session : ℕ) where
    abbrev stays : SessionPath → Bool
    stays k = not (eq_by_cmp bytes_cmp k.0 owner && eq_by_cmp int_cmp k.1 (pos session))

    abbrev fewer : finite.FinMap session_path_cmp (Unit {0}) → finite.FinMap session_path_cmp (Unit {0})
    fewer m = finite.retain_keys m stays

    abbrev loses : Set temporary_cmp → Set temporary_cmp
    loses m = entries_without_session owner session m

    numbers_fewer : (k : SessionPath) → IsTrue (finite.contains_key (fewer c.temp_roots) k) → (m : ℕ) × (k.1 ≡ pos m)
    numbers_fewer k h =
        rows.sessions k (by (stays k)
        (ap is_some (sym (get-kept session_path_total session_path_antisymmetric c.temp_roots stays k)) ∙ h))
      where
        by : (b : Bool) → is_some (cond b (finite.get c.temp_roots k) None) ≡ true
            → is_some (finite.get c.temp_roots k) ≡ true
        by true present = present
        by false present = absurd (false≢true present)

    reported_fewer : (t : Temporary)
        → finite.contains_key (fewer c.temp_roots) (row_of t) ≡ finite.contains_key (loses (world_in c).temporary) t
    reported_fewer t =
        ap is_some (get-kept session_path_total session_path_antisymmetric c.temp_roots stays (row_of t))
        ∙ ap (λ b. is_some (cond (not (eq_by_cmp bytes_cmp t.owner owner && b)) (finite.get c.temp_roots (row_of t))
        None)) (number_tied t.session session)
        ∙ by (not (is_of_session owner session t)) (was_reported t)
        ∙ ap is_some (sym (get-kept temporary_total temporary_antisymmetric (world_in c).temporary
        (λ u. not (is_of_session owner session u)) t))
      where
        by : (b : Bool) → is_some (finite.get c.temp_roots (row_of t)) ≡ is_some (finite.get (world_in c).temporary t)
            → is_some (cond b (finite.get c.temp_roots (row_of t)) None)
            ≡ is_some (cond b (finite.get (world_in c).temporary t) None)
        by true h = h
        by false h = refl

    pub ended_follows : Follows dir
        (λ (x : Contents). record x {
          temp_roots =
              finite.retain_keys x.temp_roots
              (λ k. not (eq_by_cmp bytes_cmp k.0 owner && eq_by_cmp int_cmp k.1 (pos session)));
        })
        (λ (w : World). record w { temporary = entries_without_session owner session w.temporary }) c
    ended_follows = others_follow fewer loses numbers_fewer reported_fewer

-- ---- one is taken away by a test of each part

three_tied : (r s t : Ordering) → is_eq (ordering_then r (ordering_then s t)) ≡ (is_eq r && (is_eq s && is_eq t))
three_tied Less s t = refl
three_tied Equal Less t = refl
three_tied Equal Equal t = refl
three_tied Equal Greater t = refl
three_tied Greater s t = refl

pub without_one : (m : finite.FinMap session_path_cmp (Unit {0})) (owner : List ℕ) (n : ℤ) (path : Path)
    → finite.retain_keys m (λ k. not
    (eq_by_cmp bytes_cmp k.0 owner && (eq_by_cmp int_cmp k.1 n && eq_by_cmp bytes_cmp k.2 path)))
    ≡ finite.retain_keys m (λ k. not (eq_by_cmp session_path_cmp k (owner, n, path)))
without_one m owner n path =
    λ i. finite.retain_keys m (λ k. not (sym (three_tied (bytes_cmp k.0 owner) (int_cmp k.1 n) (bytes_cmp k.2 path)) i))
