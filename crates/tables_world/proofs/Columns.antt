-- What is read off rows, entry by entry.
use Rattle.std.proofs.Common.{◌≡◌, ℕ, List, [], ◌∷◌, map, Bool, true, false, ◌&&◌, cond, Some, None, Option, option_map}
use Rattle.std.proofs.Common.{refl, sym, ap, ap₂, ◌∙◌, IsTrue, inl, inr, ◌⊎◌, ◌↔◌}
use Rattle.std.specs.Prelude.{ℤ, pos, is_some}
use Rattle.std.specs.List.{filter, list_any}
use Rattle.std.specs.declared.cmp.Ordering.{Ordering}
use Rattle.std.specs.declared.cmp.Ordering.TheVariants.{Less, Equal, Greater}
use Rattle.std.specs.Ordering.{eq_by_cmp, is_eq, nat_cmp, int_cmp, ordering_then}
use Rattle.std.specs.Cmp.{IsTotalOrder, Equal-is, tied_itself, then_total, on_total, nat_cmp_total, int_cmp_total}
use Rattle.std.specs.Cmp.Lexicographic.{nat_list_cmp_total, on_texts}
use Rattle.std.specs.FinMap as finite
use Rattle.std.specs.FinMap.Entries.{find as find_entry}
use Rattle.std.proofs.lemmas.Bool.{false≢true, or_left, or_right}
use Rattle.std.proofs.lemmas.Option.{same_Some}
use Rattle.paths.specs.Root.{bytes_cmp}
use Rattle.paths.specs.ContentAddress.{ContentAddress, IsAddressText}
use Rattle.paths.proofs.Addresses.{address-is, address-back}
use Rattle.tables_sql.specs.Contents.{triple_cmp}
use Rattle.model.specs.World.{Path, Pair, pair_cmp, Profile, Temporary, temporary_cmp}
use Rattle.tables_world.specs.Rows.{piece_cmp, SessionPath, session_path_cmp, Rows, references_in, outputs_in}
use Rattle.tables_world.specs.Rows.{pieces_in, address_in, object_in, number_in, generations_in, profile_in}
use Rattle.tables_world.specs.Rows.{temporary_in, world_of, IsSoundRows}
use Rattle.tables_schema.specs.declared.schema.Schema.{Schema}
use Rattle.tables_world.specs.Laws.{DescribesProfile, DescribesWorld}

-- ---- members

-- an element of a list
abbrev pub In : {X : Type 0} → X → List X → Type 0
In x [] = ⊥
In x (y ∷ ys) = (y ≡ x) ⊎ In x ys

-- ---- orders

pub bytes_antisymmetric : finite.IsAntisymmetric bytes_cmp
bytes_antisymmetric = finite.slice_cmp-IsAntisymmetric finite.nat_cmp-IsAntisymmetric

both_equal : (r s : Ordering) → ordering_then r s ≡ Equal → (r ≡ Equal) × (s ≡ Equal)
both_equal Less s e = cc
both_equal Equal s e = (refl, e)
both_equal Greater s e = cc

pub pair_total : IsTotalOrder pair_cmp
pair_total = then_total (on_texts (λ (p : Pair). p.0)) (on_texts (λ (p : Pair). p.1))

pub pair_antisymmetric : finite.IsAntisymmetric pair_cmp
pair_antisymmetric x y e =
    let both = both_equal (bytes_cmp x.0 y.0) (bytes_cmp x.1 y.1) e in
    λ i. (bytes_antisymmetric x.0 y.0 both.0 i, bytes_antisymmetric x.1 y.1 both.1 i)

tied_both : (r s : Ordering) → is_eq (ordering_then r s) ≡ (is_eq r && is_eq s)
tied_both Less s = refl
tied_both Equal s = refl
tied_both Greater s = refl

tied_three : (r s t : Ordering) → is_eq (ordering_then r (ordering_then s t)) ≡ (is_eq r && is_eq s && is_eq t)
tied_three Less s t = refl
tied_three Equal s t = tied_both s t
tied_three Greater s t = refl

tied_is : {K : Type 0} {R : K → K → Ordering} → finite.IsAntisymmetric R → (k j : K) → IsTrue (eq_by_cmp R k j) → k ≡ j
tied_is {K} {R} same k j h = same k j ((Equal-is (R k j)).0 h)

same_tests : (a b : Bool) → (IsTrue a → IsTrue b) → (IsTrue b → IsTrue a) → a ≡ b
same_tests true b f g = sym (f refl)
same_tests false true f g = g refl
same_tests false false f g = refl

-- numbers that aren't negative tie as their values do
numbers_tie : (n m : ℕ) → eq_by_cmp int_cmp (pos n) (pos m) ≡ eq_by_cmp nat_cmp n m
numbers_tie n m = same_tests (eq_by_cmp int_cmp (pos n) (pos m)) (eq_by_cmp nat_cmp n m)
    (λ h. ap (λ (z : ℤ). eq_by_cmp nat_cmp n (number_in z))
    (sym (tied_is finite.int_cmp-IsAntisymmetric (pos n) (pos m) h)) ∙ ap is_eq (tied_itself nat_cmp_total n))
    (λ h. ap (λ (k : ℕ). eq_by_cmp int_cmp (pos n) (pos k)) (sym (tied_is finite.nat_cmp-IsAntisymmetric n m h))
    ∙ ap is_eq (tied_itself int_cmp_total (pos n)))

abbrev with_unit : {X : Type 0} → X → X × Unit {0}
with_unit x = (x, tt)

-- ---- the entries of which a part of the key is given

module _ {K L X : Type 0} (R : K → K → Ordering) (S : L → L → Ordering) (test : K → Bool) (part : K → L) (q : L)
    (k : K) where
  pub find_part : (es : List (K × X))
      → ((e : K × X) → In e es → eq_by_cmp R k e.0 ≡ (test e.0 && eq_by_cmp S q (part e.0)))
      → find_entry S q (map (λ (e : K × X). (part e.0, e.1)) (filter (λ (e : K × X). test e.0) es)) ≡ find_entry R k es
  find_part [] h = refl
  find_part (e ∷ es) h = by (test e.0) refl (find_part es (λ d c. h d (inr c)))
    where
      here : eq_by_cmp R k e.0 ≡ (test e.0 && eq_by_cmp S q (part e.0))
      here = h e (inl refl)

      by : (t : Bool) → test e.0 ≡ t
          → find_entry S q (map (λ (d : K × X). (part d.0, d.1)) (filter (λ (d : K × X). test d.0) es))
          ≡ find_entry R k es
          → find_entry S q (map (λ (d : K × X). (part d.0, d.1))
          (cond t (e ∷ filter (λ (d : K × X). test d.0) es) (filter (λ (d : K × X). test d.0) es)))
          ≡ cond (eq_by_cmp R k e.0) (Some e.1) (find_entry R k es)
      by true t later = ap₂ (λ b o. cond b (Some e.1) o) (sym (here ∙ ap (λ b. b && eq_by_cmp S q (part e.0)) t)) later
      by false t later =
          later ∙ ap (λ b. cond b (Some e.1) (find_entry R k es))
          (sym (here ∙ ap (λ b. b && eq_by_cmp S q (part e.0)) t))

-- an entry of a map has a key of it
any_in : {K X : Type 0} {R : K → K → Ordering} → IsTotalOrder R → (es : List (K × X)) (e : K × X) → In e es
    → IsTrue (list_any (eq_by_cmp R e.0) (map (λ (d : K × X). d.0) es))
any_in o [] e h = absurd h
any_in {K} {X} {R} o (d ∷ es) e (inl is) =
    or_left (eq_by_cmp R e.0 d.0) _ (ap (λ (x : K × X). eq_by_cmp R e.0 x.0) is ∙ ap is_eq (tied_itself o e.0))
any_in {K} {X} {R} o (d ∷ es) e (inr later) = or_right (eq_by_cmp R e.0 d.0) _ (any_in o es e later)

pub entry_key : {K X : Type 0} {R : K → K → Ordering} → IsTotalOrder R → (m : finite.FinMap R X) (e : K × X)
    → In e (finite.entries m) → IsTrue (finite.contains_key m e.0)
entry_key o m e h = finite.contains_key-keys m e.0 ∙ any_in o (finite.entries m) e h

-- a map whose values are changed, each with its key
module _ {K X Y : Type 0} {R : K → K → Ordering} (o : IsTotalOrder R) (same : finite.IsAntisymmetric R)
    (f : K → X → Y) where
  find_changed : (es : List (K × X)) (q : K)
      → find_entry R q (map (λ (e : K × X). (e.0, f e.0 e.1)) es) ≡ option_map (f q) (find_entry R q es)
  find_changed [] q = refl
  find_changed (e ∷ es) q = by (eq_by_cmp R q e.0) refl (find_changed es q)
    where
      by : (b : Bool) → eq_by_cmp R q e.0 ≡ b
          → find_entry R q (map (λ (d : K × X). (d.0, f d.0 d.1)) es) ≡ option_map (f q) (find_entry R q es)
          → cond b (Some (f e.0 e.1)) (find_entry R q (map (λ (d : K × X). (d.0, f d.0 d.1)) es))
          ≡ option_map (f q) (cond b (Some e.1) (find_entry R q es))
      by true t later = ap (λ k. Some (f k e.1)) (sym (tied_is same q e.0 t))
      by false t later = later

  pub get_changed : (m : finite.FinMap R X) (q : K)
      → finite.get (finite.from_entries {R = R} (map (λ (e : K × X). (e.0, f e.0 e.1)) (finite.entries m))) q
      ≡ option_map (f q) (finite.get m q)
  get_changed m q =
      finite.get-from_entries o (map (λ (e : K × X). (e.0, f e.0 e.1)) (finite.entries m)) q
      ∙ find_changed (finite.entries m) q ∙ ap (option_map (f q)) (sym (finite.get-entries m q))

-- ---- the columns

-- by the first of a pair
module _ {L X : Type 0} (S : L → L → Ordering) (R : Path × L → Path × L → Ordering) (total : IsTotalOrder S)
    (parts : (p : Path) (q : L) (x : Path × L)
    → eq_by_cmp R (p, q) x ≡ (eq_by_cmp bytes_cmp p x.0 && eq_by_cmp S q x.1)) where
  pub get_part : (m : finite.FinMap R X) (p : Path) (q : L)
      → finite.get (finite.from_entries {R = S}
      (map (λ (e : (Path × L) × X). (e.0.1, e.1))
      (filter (λ (e : (Path × L) × X). eq_by_cmp bytes_cmp p e.0.0) (finite.entries m)))) q
      ≡ finite.get m (p, q)
  get_part m p q =
      finite.get-from_entries total
      (map (λ (e : (Path × L) × X). (e.0.1, e.1))
      (filter (λ (e : (Path × L) × X). eq_by_cmp bytes_cmp p e.0.0) (finite.entries m))) q
      ∙ find_part R S (λ (x : Path × L). eq_by_cmp bytes_cmp p x.0) (λ (x : Path × L). x.1) q (p, q) (finite.entries m)
      (λ e h. parts p q e.0)
      ∙ sym (finite.get-entries m (p, q))

module _ (c : Rows) where
  pub piece_at : (p : Path) (n : ℤ) → finite.get (pieces_in c p) n ≡ finite.get c.pieces (p, n)
  piece_at p n =
      get_part int_cmp piece_cmp int_cmp_total (λ x q y. tied_both (bytes_cmp x y.0) (int_cmp q y.1)) c.pieces p n

  pub reference_at : (p r : Path) → finite.contains_key (references_in c p) r ≡ finite.contains_key c.refs (p, r)
  reference_at p r =
      ap is_some (get_part bytes_cmp pair_cmp nat_list_cmp_total
      (λ x q y. tied_both (bytes_cmp x y.0) (bytes_cmp q y.1)) c.refs p r)

  pub output_at : (p : Path) (name : List ℕ) → finite.get (outputs_in c p) name ≡ finite.get c.outs (p, name)
  output_at p name =
      get_part bytes_cmp pair_cmp nat_list_cmp_total (λ x q y. tied_both (bytes_cmp x y.0) (bytes_cmp q y.1)) c.outs p
      name

module _ (c : Rows) where
  triple_total : IsTotalOrder triple_cmp
  triple_total =
      then_total (on_texts (λ (t : List ℕ × List ℕ × ℤ). t.0))
      (then_total (on_texts (λ (t : List ℕ × List ℕ × ℤ). t.1))
      (on_total (λ (t : List ℕ × List ℕ × ℤ). t.2) int_cmp_total))

  kept_total : IsTotalOrder session_path_cmp
  kept_total =
      then_total (on_texts (λ (t : SessionPath). t.0))
      (then_total (on_total (λ (t : SessionPath). t.1) int_cmp_total) (on_texts (λ (t : SessionPath). t.2)))

  -- where no number is negative
  pub generation_at : ((owner name : List ℕ) (n : ℤ) → IsTrue (finite.contains_key c.generations (owner, name, n))
      → (m : ℕ) × (n ≡ pos m))
      → (owner name : List ℕ) (n : ℕ)
      → finite.get (generations_in c (owner, name)) n ≡ finite.get c.generations (owner, name, pos n)
  generation_at numbers owner name n =
      finite.get-from_entries nat_cmp_total (map (λ (e : (List ℕ × List ℕ × ℤ) × Path). (number_in e.0.2, e.1))
      (filter (λ (e : (List ℕ × List ℕ × ℤ) × Path). eq_by_cmp bytes_cmp owner e.0.0 && eq_by_cmp bytes_cmp name e.0.1)
      (finite.entries c.generations))) n
      ∙ find_part triple_cmp nat_cmp
      (λ (x : List ℕ × List ℕ × ℤ). eq_by_cmp bytes_cmp owner x.0 && eq_by_cmp bytes_cmp name x.1)
      (λ (x : List ℕ × List ℕ × ℤ). number_in x.2) n (owner, name, pos n) (finite.entries c.generations) agree
      ∙ sym (finite.get-entries c.generations (owner, name, pos n))
    where
      agree : (e : (List ℕ × List ℕ × ℤ) × Path) → In e (finite.entries c.generations)
          → eq_by_cmp triple_cmp (owner, name, pos n) e.0
          ≡ (eq_by_cmp bytes_cmp owner e.0.0 && eq_by_cmp bytes_cmp name e.0.1
          && eq_by_cmp nat_cmp n (number_in e.0.2))
      agree e h =
          let m = numbers e.0.0 e.0.1 e.0.2 (entry_key triple_total c.generations e h) in
          tied_three (bytes_cmp owner e.0.0) (bytes_cmp name e.0.1) (int_cmp (pos n) e.0.2)
          ∙ ap (λ (z : ℤ). eq_by_cmp bytes_cmp owner e.0.0 && eq_by_cmp bytes_cmp name e.0.1
          && is_eq (int_cmp (pos n) z)) m.1
          ∙ ap (λ b. eq_by_cmp bytes_cmp owner e.0.0 && eq_by_cmp bytes_cmp name e.0.1 && b) (numbers_tie n m.0)
          ∙ sym (ap (λ (z : ℤ). eq_by_cmp bytes_cmp owner e.0.0 && eq_by_cmp bytes_cmp name e.0.1
          && eq_by_cmp nat_cmp n (number_in z)) m.1)

  any_kept : ((k : SessionPath) → IsTrue (finite.contains_key c.temp_roots k) → (m : ℕ) × (k.1 ≡ pos m))
      → (t : Temporary) (es : List (SessionPath × Unit {0}))
      → ((e : SessionPath × Unit {0}) → In e es → IsTrue (finite.contains_key c.temp_roots e.0))
      → is_some (find_entry temporary_cmp t
      (map with_unit (map temporary_in (map (λ (e : SessionPath × Unit {0}). e.0) es))))
      ≡ is_some (find_entry session_path_cmp (t.owner, pos t.session, t.path) es)
  any_kept sessions t [] h = refl
  any_kept sessions t (e ∷ es) h =
      let m = sessions e.0 (h e (inl refl)) in
      let same : eq_by_cmp temporary_cmp t (temporary_in e.0)
      ≡ eq_by_cmp session_path_cmp (t.owner, pos t.session, t.path) e.0 =
      ap (λ (z : ℤ). eq_by_cmp temporary_cmp t (temporary_in (e.0.0, z, e.0.2))) m.1
      ∙ tied_three (bytes_cmp t.owner e.0.0) (nat_cmp t.session m.0) (bytes_cmp t.path e.0.2)
      ∙ ap (λ b. eq_by_cmp bytes_cmp t.owner e.0.0 && b && eq_by_cmp bytes_cmp t.path e.0.2)
      (sym (numbers_tie t.session m.0))
      ∙ sym (tied_three (bytes_cmp t.owner e.0.0) (int_cmp (pos t.session) (pos m.0)) (bytes_cmp t.path e.0.2))
      ∙ sym (ap (λ (z : ℤ). eq_by_cmp session_path_cmp (t.owner, pos t.session, t.path) (e.0.0, z, e.0.2)) m.1) in
      by (eq_by_cmp session_path_cmp (t.owner, pos t.session, t.path) e.0)
      (eq_by_cmp temporary_cmp t (temporary_in e.0)) same (any_kept sessions t es (λ d k. h d (inr k)))
    where
      by : (a b : Bool) → b ≡ a
          → is_some (find_entry temporary_cmp t
          (map with_unit (map temporary_in (map (λ (d : SessionPath × Unit {0}). d.0) es))))
          ≡ is_some (find_entry session_path_cmp (t.owner, pos t.session, t.path) es)
          → is_some (cond b (Some tt) (find_entry temporary_cmp t
          (map with_unit (map temporary_in (map (λ (d : SessionPath × Unit {0}). d.0) es)))))
          ≡ is_some (cond a (Some e.1) (find_entry session_path_cmp (t.owner, pos t.session, t.path) es))
      by true true is later = refl
      by false false is later = later
      by true false is later = absurd (false≢true is)
      by false true is later = absurd (false≢true (sym is))

  temporary_total : IsTotalOrder temporary_cmp
  temporary_total =
      then_total (on_texts (λ (t : Temporary). t.owner))
      (then_total (on_total (λ (t : Temporary). t.session) nat_cmp_total) (on_texts (λ (t : Temporary). t.path)))

  pub temporary_at : ((k : SessionPath) → IsTrue (finite.contains_key c.temp_roots k) → (m : ℕ) × (k.1 ≡ pos m))
      → (t : Temporary) → finite.contains_key (world_of c).temporary t
      ≡ finite.contains_key c.temp_roots (t.owner, pos t.session, t.path)
  temporary_at sessions t =
      ap is_some (finite.get-from_entries temporary_total (map with_unit (map temporary_in (finite.keys c.temp_roots)))
      t)
      ∙ any_kept sessions t (finite.entries c.temp_roots) (λ e h. entry_key kept_total c.temp_roots e h)
      ∙ ap is_some (sym (finite.get-entries c.temp_roots (t.owner, pos t.session, t.path)))

  pub object_at : (p : Path) → finite.get (world_of c).objects p ≡ option_map (object_in c p) (finite.get c.objects p)
  object_at p = get_changed nat_list_cmp_total bytes_antisymmetric (object_in c) c.objects p

  pub profile_at : (owned : Pair)
      → finite.get (world_of c).profiles owned ≡ option_map (profile_in c owned) (finite.get c.profiles owned)
  profile_at owned = get_changed pair_total pair_antisymmetric (profile_in c) c.profiles owned

-- an address is that of a text if and only if the text is its own
addressed : (t : Option (List ℕ)) (ca : ContentAddress)
    → (address_in t ≡ Some ca) ↔ ((text : List ℕ) × (t ≡ Some text) × IsAddressText ca text)
addressed None ca = ((λ e. absurd (false≢true (ap is_some e))), (λ k. absurd (false≢true (ap is_some k.1))))
addressed (Some text) ca = (
  (λ e. (text, refl, address-is text ca e)),
  (λ k. address-back ca.method ca.digest text k.2.digest k.2.bytes (same_Some text k.0 k.1 ∙ k.2.spells)),
)

module _ (schema : Schema) (dir : List ℕ) (c : Rows) (sound : IsSoundRows schema dir c) where
  reported_profile : (owner name : List ℕ) (o : Option ℤ) → finite.get c.profiles (owner, name) ≡ o → is_some o ≡ true
      → (x : Profile) × (finite.get (world_of c).profiles (owner, name) ≡ Some x) × DescribesProfile c owner name x
  reported_profile owner name None e h = absurd (false≢true h)
  reported_profile owner name (Some n) e h =
      let m = sound.current (owner, name) n e in (
        profile_in c (owner, name) n,
        profile_at c (owner, name) ∙ ap (option_map (profile_in c (owner, name))) e,
        record {
          generation = generation_at c sound.numbers owner name;
          current = e ∙ ap Some (m.1 ∙ ap (λ (z : ℤ). pos (number_in z)) (sym m.1));
        },
      )

  pub reports_world : DescribesWorld c (world_of c)
  reports_world = record {
    no_object = λ p e. object_at c p ∙ ap (option_map (object_in c p)) e;
    object = λ p o e. (
      object_in c p o,
      object_at c p ∙ ap (option_map (object_in c p)) e,
      record {
        archive = refl;
        piece = piece_at c p;
        reference = reference_at c p;
        output = output_at c p;
        deriver = refl;
        address = addressed o.ca;
      },
    );
    no_profile = λ owned e. profile_at c owned ∙ ap (option_map (profile_in c owned)) e;
    profile = λ owner name h. reported_profile owner name (finite.get c.profiles (owner, name)) refl h;
    permanent = λ name. refl;
    user_root = λ owned. refl;
    runtime = λ pair. refl;
    temporary = temporary_at c sound.sessions;
  }
