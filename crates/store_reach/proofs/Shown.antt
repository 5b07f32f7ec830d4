-- Roots as a caller sees them, one after another.
use Rattle.std.proofs.Common.{◌≡◌, List, [], ◌∷◌, ◌++◌, map, Bool, true, false, not, cond, ◌&&◌, ◌||◌, refl, sym, ap}
use Rattle.std.proofs.Common.{ap₂, append-nil, ◌∙◌}
use Rattle.std.specs.Prelude.{if◌then◌else◌}
use Rattle.std.specs.List.{filter, list_any}
use Rattle.std.proofs.lemmas.Bool.{false≢true, and_parts}
use Rattle.std.proofs.lemmas.List.Elements.{filter-append}
use Rattle.paths.specs.Root.{Root}
use Rattle.live.specs.Graph.{same}
use Rattle.model.specs.World.{Pair}
use Rattle.policy.specs.declared.kinds.Class.{Class}
use Rattle.policy.specs.Rules.{is_trusted}
use Rattle.model.specs.Seen.{plain, censored, same_pair, each_once, seen_root, seen}
use Rattle.model.proofs.MapMembers.{bytes_antisymmetric, tied_is}
use Rattle.tables_outline.proofs.Loops.{map-append}

-- ---- equal pairs

pair_is : (p q : Pair) → same_pair p q ≡ true → p ≡ q
pair_is p q h =
    let both = and_parts (same p.0 q.0) (same p.1 q.1) h in
    λ i. (tied_is bytes_antisymmetric p.0 q.0 both.0 i, tied_is bytes_antisymmetric p.1 q.1 both.1 i)

any_kept : (f g : Pair → Bool) → ((r : Pair) → f r ≡ true → g r ≡ true) → (ps : List Pair)
    → list_any f (filter g ps) ≡ list_any f ps
any_kept f g keeps [] = refl
any_kept f g keeps (r ∷ ps) = by (g r) (keeps r) (any_kept f g keeps ps)
  where
    not_it : (a : Bool) → (a ≡ true → false ≡ true) → (x : Bool) → x ≡ (a || x)
    not_it true k x = absurd (false≢true (k refl))
    not_it false k x = refl

    by : (b : Bool) → (f r ≡ true → b ≡ true) → list_any f (filter g ps) ≡ list_any f ps
        → list_any f (cond b (r ∷ filter g ps) (filter g ps)) ≡ (f r || list_any f ps)
    by true k later = ap (λ x. f r || x) later
    by false k later = later ∙ not_it (f r) k (list_any f ps)

-- a pair more, after the others
each_once_push : (ps : List Pair) (p : Pair)
    → each_once (ps ++ p ∷ []) ≡ cond (list_any (λ r. same_pair r p) (each_once ps)) (each_once ps)
    (each_once ps ++ p ∷ [])
each_once_push [] p = refl
each_once_push (q ∷ ps) p =
    ap (λ rs. q ∷ filter (λ r. not (same_pair q r)) rs) (each_once_push ps p) ∙ by (same_pair q p) refl
  where
    shown : List Pair
    shown = each_once ps

    apart : Pair → Bool
    apart = λ r. not (same_pair q r)

    again : (a : Bool) → same_pair q p ≡ true
        → q ∷ filter apart (cond a shown (shown ++ p ∷ [])) ≡ q ∷ filter apart shown
    again true e = refl
    again false e =
        ap (λ rs. q ∷ rs) (filter-append apart shown (p ∷ [])
        ∙ ap (λ b. filter apart shown ++ cond (not b) (p ∷ []) []) e ∙ append-nil (filter apart shown))

    behind : (a : Bool) → same_pair q p ≡ false
        → q ∷ filter apart (cond a shown (shown ++ p ∷ []))
        ≡ cond a (q ∷ filter apart shown) (q ∷ filter apart shown ++ p ∷ [])
    behind true e = refl
    behind false e =
        ap (λ rs. q ∷ rs) (filter-append apart shown (p ∷ [])
        ∙ ap (λ b. filter apart shown ++ cond (not b) (p ∷ []) []) e)

    kept : same_pair q p ≡ false → list_any (λ r. same_pair r p) (filter apart shown)
        ≡ list_any (λ r. same_pair r p) shown
    kept e = any_kept (λ r. same_pair r p) apart (λ r h. ap (λ z. not (same_pair q z)) (pair_is r p h) ∙ ap not e) shown

    by : (b : Bool) → same_pair q p ≡ b
        → q ∷ filter apart (cond (list_any (λ r. same_pair r p) shown) shown (shown ++ p ∷ []))
        ≡ cond (b || list_any (λ r. same_pair r p) (filter apart shown)) (q ∷ filter apart shown)
        (q ∷ filter apart shown ++ p ∷ [])
    by true e = again (list_any (λ r. same_pair r p) shown) e
    by false e =
        behind (list_any (λ r. same_pair r p) shown) e
        ∙ ap (λ b. cond b (q ∷ filter apart shown) (q ∷ filter apart shown ++ p ∷ [])) (sym (kept e))

-- ---- one root more

seen_push : (class : Class) (before : List Root) (r : Root) → seen class (before ++ r ∷ [])
    ≡ cond (not (is_trusted class) && list_any (λ p. same_pair p (seen_root class r)) (seen class before))
    (seen class before) (seen class before ++ seen_root class r ∷ [])
seen_push class before r = by (is_trusted class)
  where
    by : (t : Bool) → (if t then map plain (before ++ r ∷ [])
        else each_once (map plain (map censored (before ++ r ∷ []))))
        ≡ cond (not t && list_any (λ p. same_pair p (plain (if t then r else censored r)))
        (if t then map plain before else each_once (map plain (map censored before))))
        (if t then map plain before else each_once (map plain (map censored before)))
        ((if t then map plain before else each_once (map plain (map censored before)))
        ++ plain (if t then r else censored r) ∷ [])
    by true = map-append plain before (r ∷ [])
    by false =
        ap each_once (ap (map plain) (map-append censored before (r ∷ []))
        ∙ map-append plain (map censored before) (censored r ∷ []))
        ∙ each_once_push (map plain (map censored before)) (plain (censored r))

module _ (class : Class) (before : List Root) (r : Root) (ps : List Pair) (p : Pair) (shown : ps ≡ seen class before)
    (one : p ≡ seen_root class r) where
  tested : (b : Bool) → b ≡ (not (is_trusted class) && list_any (λ q. same_pair q p) ps)
      → seen class (before ++ r ∷ []) ≡ cond b ps (ps ++ p ∷ [])
  tested b test =
      seen_push class before r
      ∙ ap₂ (λ qs q. cond (not (is_trusted class) && list_any (λ x. same_pair x q) qs) qs (qs ++ q ∷ [])) (sym shown)
      (sym one)
      ∙ ap (λ c. cond c ps (ps ++ p ∷ [])) (sym test)

  -- an equal pair is shown already
  pub seen_again : true ≡ (not (is_trusted class) && list_any (λ q. same_pair q p) ps)
      → ps ≡ seen class (before ++ r ∷ [])
  seen_again test = sym (tested true test)

  -- the pair is shown
  pub seen_more : false ≡ (not (is_trusted class) && list_any (λ q. same_pair q p) ps)
      → ps ++ p ∷ [] ≡ seen class (before ++ r ∷ [])
  seen_more test = sym (tested false test)
