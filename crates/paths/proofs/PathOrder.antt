-- The references of a list in path order: one list fits, and it is the function's.
use Rattle.std.proofs.Common.{◌≡◌, ℕ, Bool, true, false, List, [], ◌∷◌, ◌++◌, map, T, ap, sym, subst, refl, ◌∙◌}
use Rattle.std.proofs.Common.{Less, Equal, Greater, Some, None, Option, is_some}
use Rattle.std.specs.Prelude.{codes, ◌&&◌}
use Rattle.std.specs.List.{AllByRecursion, list_any}
use Rattle.std.specs.List.Sorted.{IsStrictlySortedBy}
use Rattle.std.specs.declared.cmp.Ordering.{Ordering}
use Rattle.std.specs.Ordering.{eq_by_cmp, is_lt}
use Rattle.std.specs.Cmp.{eq_by_cmp_equiv, Equal-is}
use Rattle.std.specs.Cmp.Lexicographic.{nat_list_cmp_total}
use Rattle.std.specs.FinMap as finite
use Rattle.std.specs.FinMap.{find, is_sorted, slice_cmp-IsAntisymmetric, nat_cmp-IsAntisymmetric}
use Rattle.std.specs.FinMap.Entries.{is_some-find, below_all}
use Rattle.std.proofs.lemmas.Map.Views.{Contains-from_any, list_any-from_Contains}
use Rattle.paths.specs.Root.{bytes_cmp, set_of}
use Rattle.sha2.specs.Sha256.{sha256}
use Rattle.paths.specs.Base32.{base32}
use Rattle.paths.specs.Fold.{fold20}
use Rattle.paths.specs.Path.{InPathOrder, in_path_order, fingerprint_of, IsPathOf, path_of}
use Rattle.paths.proofs.Spelling.{spelled, base32-spells}
use Rattle.paths.proofs.Digests.{sha256-bytes, fold20-bytes}

abbrev marked : List (List ℕ) → List (List ℕ × Unit {0})
marked ks = map (λ k. (k, tt)) ks

keys-marked : (ks : List (List ℕ)) → map (λ e. e.0) (marked ks) ≡ ks
keys-marked [] = refl
keys-marked (k ∷ ks) = ap (λ xs. k ∷ xs) (keys-marked ks)

both : (a b : Bool) → T a → T b → T (a && b)
both true b p q = q
both false b p q = p

below : (k : List ℕ) (ks : List (List ℕ)) → AllByRecursion (λ y. bytes_cmp k y ≡ Less) ks
    → T (below_all bytes_cmp k (marked ks))
below k [] h = tt
below k (x ∷ xs) h = both _ _ (subst (λ r. T (is_lt r)) (sym h.0) tt) (below k xs h.1)

-- what strictly rises is what a map holds
rises : (ks : List (List ℕ)) → IsStrictlySortedBy bytes_cmp ks → T (is_sorted bytes_cmp (marked ks))
unfolding IsStrictlySortedBy
rises [] h = tt
rises (k ∷ ks) h = both _ _ (below k ks h.0) (rises ks h.1)

-- only equal texts tie
exact : (x y : List ℕ) → eq_by_cmp bytes_cmp x y ≡ true → x ≡ y
exact x y e = slice_cmp-IsAntisymmetric nat_cmp-IsAntisymmetric x y ((Equal-is (bytes_cmp x y)).0 e)

same_test : (a b : Bool) → (a ≡ true → b ≡ true) → (b ≡ true → a ≡ true) → a ≡ b
same_test true b f g = sym (f refl)
same_test false true f g = g refl
same_test false false f g = refl

same_mark : (x y : Option (Unit {0})) → is_some x ≡ is_some y → x ≡ y
same_mark None None e = refl
same_mark (Some u) (Some v) e = refl
same_mark None (Some v) e = let no : ⊥ = cc in absurd no
same_mark (Some u) None e = let no : ⊥ = cc in absurd no

-- whether a map of a list has a key
has : (q : List ℕ) (ks : List (List ℕ)) → is_some (find bytes_cmp q (marked ks)) ≡ list_any (eq_by_cmp bytes_cmp q) ks
has q ks = is_some-find bytes_cmp q (marked ks) ∙ ap (list_any (eq_by_cmp bytes_cmp q)) (keys-marked ks)

-- only one list fits, and it is the function's
pub in_path_order-is : (refs ordered : List (List ℕ)) → InPathOrder refs ordered → in_path_order refs ≡ ordered
unfolding in_path_order
in_path_order-is refs ordered h =
    let sorted = rises ordered h.rising in
    let kept : finite.FinMap bytes_cmp (Unit {0}) = finite.from_sorted (marked ordered) in
    let laws = eq_by_cmp_equiv nat_list_cmp_total in
    let test : (q : List ℕ) → list_any (eq_by_cmp bytes_cmp q) refs ≡ list_any (eq_by_cmp bytes_cmp q) ordered = λ q.
    same_test _ _ (λ t. list_any-from_Contains laws q ordered ((h.same q).1 (Contains-from_any exact q refs t)))
    (λ t. list_any-from_Contains laws q refs ((h.same q).0 (Contains-from_any exact q ordered t))) in
    let same : set_of bytes_cmp refs ≡ kept =
    finite.same_map nat_list_cmp_total (slice_cmp-IsAntisymmetric nat_cmp-IsAntisymmetric) _ _ (λ q.
    finite.get-from_entries nat_list_cmp_total (marked refs) q
    ∙ same_mark _ _ (has q refs ∙ test q ∙ sym (has q ordered))
    ∙ sym (finite.get-from_sorted bytes_cmp (marked ordered) q sorted)) in
    ap finite.keys same ∙ ap (λ es. map (λ e. e.0) es) (finite.entries-from_sorted bytes_cmp (marked ordered) sorted)
    ∙ keys-marked ordered

-- only one base name fits, and it is the function's
pub path_of-is : (kind dir name : List ℕ) (refs : List (List ℕ)) (inner base : List ℕ)
    → IsPathOf kind dir name refs inner base → base ≡ path_of kind dir name refs inner
unfolding path_of
path_of-is kind dir name refs inner base h =
    h.of.joined
    ∙ ap (λ ds. ds ++ codes "-" ++ name)
    (spelled _ _ h.of.spelled ∙ ap (λ os. base32 (fold20 (sha256 (fingerprint_of kind dir os inner name))))
    (sym (in_path_order-is refs h.ordered h.in_order)))

-- ---- and the function's list fits

lesser : (r : Ordering) → T (is_lt r) → r ≡ Less
lesser Less h = refl
lesser Equal h = absurd h
lesser Greater h = absurd h

front : (a b : Bool) → T (a && b) → T a
front true b h = tt
front false b h = h

back : (a b : Bool) → T (a && b) → T b
back true b h = h
back false b h = absurd h

all-below : (k : List ℕ) (es : List (List ℕ × Unit {0})) → T (below_all bytes_cmp k es)
    → AllByRecursion (λ y. bytes_cmp k y ≡ Less) (map (λ e. e.0) es)
all-below k [] h = tt
all-below k (e ∷ es) h = (lesser _ (front _ _ h), all-below k es (back _ _ h))

keys-rise : (es : List (List ℕ × Unit {0})) → T (is_sorted bytes_cmp es)
    → IsStrictlySortedBy bytes_cmp (map (λ e. e.0) es)
unfolding IsStrictlySortedBy
keys-rise [] h = tt
keys-rise (e ∷ es) h = (all-below e.0 es (front _ _ h), keys-rise es (back _ _ h))

pub in_path_order-fits : (refs : List (List ℕ)) → InPathOrder refs (in_path_order refs)
unfolding in_path_order
in_path_order-fits refs =
    let laws = eq_by_cmp_equiv nat_list_cmp_total in
    let held : (q : List ℕ) → list_any (eq_by_cmp bytes_cmp q) (finite.keys (set_of bytes_cmp refs))
    ≡ list_any (eq_by_cmp bytes_cmp q) refs = λ q.
    sym (finite.contains_key-keys (set_of bytes_cmp refs) q)
    ∙ ap is_some (finite.get-from_entries nat_list_cmp_total (marked refs) q) ∙ has q refs in
    record {
      rising = keys-rise (finite.entries (set_of bytes_cmp refs)) (finite.entries_sorted (set_of bytes_cmp refs));
      same = λ r. (
        λ h. Contains-from_any exact r refs
            (sym (held r) ∙ list_any-from_Contains laws r (finite.keys (set_of bytes_cmp refs)) h),
        λ h. Contains-from_any exact r (finite.keys (set_of bytes_cmp refs))
            (held r ∙ list_any-from_Contains laws r refs h),
      );
    }

pub path_of-fits : (kind dir name : List ℕ) (refs : List (List ℕ)) (inner : List ℕ)
    → IsPathOf kind dir name refs inner (path_of kind dir name refs inner)
unfolding path_of
path_of-fits kind dir name refs inner =
    let fingerprint = fingerprint_of kind dir (in_path_order refs) inner name in
    let folded = fold20 (sha256 fingerprint) in
    record {
      ordered = in_path_order refs;
      in_order = in_path_order-fits refs;
      of =
          record {
            digits = base32 folded;
            spelled = base32-spells folded (fold20-bytes _ (sha256-bytes fingerprint));
            joined = refl;
          };
    }
