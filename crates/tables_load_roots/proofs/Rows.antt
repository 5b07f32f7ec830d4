-- Rows that are tested and put into the outline one after another.
use Rattle.std.proofs.Common.{◌≡◌, List, [], ◌∷◌, map, Bool, ◌&&◌, Result, Ok, Err, IfOk, refl, sym, ap, ap₂, ◌∙◌}
use Rattle.std.specs.List.{list_all}
use Rattle.std.specs.declared.cmp.Ordering.{Ordering}
use Rattle.std.specs.Cmp.{IsTotalOrder}
use Rattle.std.specs.FinMap as finite
use Rattle.tables_outline.specs.Maps.{put_all}
use Rattle.tables_outline.specs.Outline.{OutlineValue}
use Rattle.tables_load_roots.specs.Loaded.{all_pass, all_put, LoadAs, Objects}
use Rattle.tables_load_roots.proofs.PutAll.{all_put_again}

-- rows that leave the objects as they are
module _ {X E : Type 0} (entry : X → E) (test : Objects → E → Bool) (put : X → OutlineValue → OutlineValue)
    (keeps : (x : X) (o : OutlineValue) → (put x o).objects ≡ o.objects) where
  pub pass_each : (xs : List X) (o : OutlineValue)
      → all_pass (λ x (p : OutlineValue). test p.objects (entry x)) put xs o ≡ list_all (test o.objects) (map entry xs)
  pass_each [] o = refl
  pass_each (x ∷ xs) o =
      ap (λ b. test o.objects (entry x) && b)
      (pass_each xs (put x o) ∙ ap (λ m. list_all (test m) (map entry xs)) (keeps x o))

-- rows whose tests stay what they are
module _ {X E : Type 0} (entry : X → E) (test : OutlineValue → E → Bool) (put : X → OutlineValue → OutlineValue)
    (keeps : (x : X) (o : OutlineValue) (e : E) → test (put x o) e ≡ test o e) where
  alike : (x : X) (o : OutlineValue) (es : List E) → list_all (test (put x o)) es ≡ list_all (test o) es
  alike x o [] = refl
  alike x o (e ∷ es) = ap₂ (λ a b. a && b) (keeps x o e) (alike x o es)

  pub pass_so : (xs : List X) (o : OutlineValue)
      → all_pass (λ x (p : OutlineValue). test p (entry x)) put xs o ≡ list_all (test o) (map entry xs)
  pass_so [] o = refl
  pass_so (x ∷ xs) o = ap (λ b. test o (entry x) && b) (pass_so xs (put x o) ∙ alike x o (map entry xs))

-- a part of an outline next to its objects, and how it is replaced
pub record IsPart {M : Type 0} (part : OutlineValue → M) (with_part : M → OutlineValue → OutlineValue) : Type 0 where
  pub objects : (m : M) (o : OutlineValue) → (with_part m o).objects ≡ o.objects
  pub read_back : (m : M) (o : OutlineValue) → part (with_part m o) ≡ m
  pub last : (m n : M) (o : OutlineValue) → with_part n (with_part m o) ≡ with_part n o
  pub same : (o : OutlineValue) → with_part (part o) o ≡ o

-- rows of which each is one entry of such a part
module _ {X E K V : Type 0} {R : K → K → Ordering} (entry : X → E) (test : Objects → E → Bool) (seen : E → K × V)
    (part : OutlineValue → finite.FinMap R V) (with_part : finite.FinMap R V → OutlineValue → OutlineValue)
    (is : IsPart part with_part) where
  abbrev put_entry : X → OutlineValue → OutlineValue
  put_entry x o = with_part (finite.insert (part o) (seen (entry x)).0 (seen (entry x)).1) o

  put_each : (xs : List X) (o : OutlineValue)
      → all_put put_entry xs o ≡ with_part (put_all (map seen (map entry xs)) (part o)) o
  put_each [] o = sym (is.same o)
  put_each (x ∷ xs) o =
      let m = finite.insert (part o) (seen (entry x)).0 (seen (entry x)).1 in
      put_each xs (put_entry x o) ∙ ap (λ n. with_part (put_all (map seen (map entry xs)) n) (put_entry x o))
      (is.read_back m o)
      ∙ is.last m (put_all (map seen (map entry xs)) m) o

  -- they are put into a part that is empty, and make one of which they are all entries
  pub load_entries : (m : finite.FinMap R V) (es : List E) → put_all (map seen es) finite.empty ≡ m → (xs : List X)
      → map entry xs ≡ es → (o : OutlineValue) → part o ≡ finite.empty
      → LoadAs (λ x (p : OutlineValue). test p.objects (entry x)) put_entry xs o (list_all (test o.objects) es)
      (with_part m o)
  load_entries m es makes xs listed o none = record {
    reported = pass_each entry test put_entry (λ x p. is.objects _ p) xs o ∙ ap (list_all (test o.objects)) listed;
    loaded =
        λ sound. put_each xs o ∙ ap₂ (λ l n. with_part (put_all (map seen l) n) o) listed none
        ∙ ap (λ n. with_part n o) makes;
  }

-- entries as they are
map_same : {E : Type 0} (es : List E) → map (λ e. e) es ≡ es
map_same [] = refl
map_same (e ∷ es) = ap (λ l. e ∷ l) (map_same es)

pub entries_again : {K V : Type 0} {R : K → K → Ordering} → IsTotalOrder R → finite.IsAntisymmetric R
    → (m : finite.FinMap R V) → put_all (map (λ e. e) (finite.entries m)) finite.empty ≡ m
entries_again total alike m =
    ap (λ es. put_all es finite.empty) (map_same (finite.entries m)) ∙ all_put_again total alike m

-- what is read is one thing, and so another
pub reads_so : {T E : Type 0} (r : Result T E) (U : Type 0) (P Q : T → Type 0) → IfOk r (λ x. U × P x)
    → ((x : T) → P x → Q x) → IfOk r (λ x. U × Q x)
reads_so (Ok x) U P Q h so = (h.0, so x h.1)
reads_so (Err e) U P Q h so = tt
