-- How callers see roots: one, and many in their order.
use Rattle.std.proofs.Common.{◌≡◌, List, [], ◌∷◌, map, Bool, true, false, ◌&&◌, ◌||◌, not, cond, Some, refl, sym, ap}
use Rattle.std.proofs.Common.{◌∙◌, IsTrue, subst, inl, inr, ◌⊎◌}
use Rattle.std.specs.Prelude.{Contains, if◌then◌else◌}
use Rattle.std.specs.List.{filter, list_any}
use Rattle.std.proofs.lemmas.Bool.{false≢true, and_parts, and_from}
use Rattle.paths.specs.Root.{Kind, permanent, user, profile, runtime, temporary, Root}
use Rattle.live.proofs.Members.{any_from, some_of_any}
use Rattle.live.proofs.Reach.{same_is, same_itself}
use Rattle.live.specs.Graph.{same}
use Rattle.policy.specs.Class.{class_of}
use Rattle.policy.specs.declared.kinds.Class.{Class}
use Rattle.model.specs.World.{Pair}
use Rattle.model.specs.Seen.{plain, is_hidden, hidden_label, censored, same_pair, each_once}
use Rattle.laws.specs.Sights.{HidesLabel, SeesRoot, AreFirsts, SeesRoots, ShowsTheLabel}

-- ---- one root

label_seen : (r : Root) (k : Kind) → (k ≡ runtime → ⊥) → (k ≡ temporary → ⊥)
    → (if is_hidden k then hidden_label else r.label) ≡ r.label
label_seen r permanent run temp = refl
label_seen r user run temp = refl
label_seen r profile run temp = refl
label_seen r runtime run temp = absurd (run refl)
label_seen r temporary run temp = absurd (temp refl)

hides : (r : Root) → HidesLabel r (plain (censored r))
hides r = record {
  target = refl;
  hidden = hidden;
  label = λ run temp. label_seen r r.kind run temp;
}
  where
    hidden : (r.kind ≡ runtime) ⊎ (r.kind ≡ temporary)
        → (if is_hidden r.kind then hidden_label else r.label) ≡ hidden_label
    hidden (inl e) = ap (λ k. if is_hidden k then hidden_label else r.label) e
    hidden (inr e) = ap (λ k. if is_hidden k then hidden_label else r.label) e

pub sees_root : (class : Class) (r : Root) → SeesRoot class r
sees_root class r = record {
  trusted = λ h. ap (λ b. plain (if b then r else censored r)) h;
  others = λ h. subst (λ b. HidesLabel r (plain (if b then r else censored r))) (sym h) (hides r);
}

-- ---- each pair once

pub same_pair_is : (p q : Pair) → IsTrue (same_pair p q) → p ≡ q
same_pair_is p q h =
    let parts = and_parts (same p.0 q.0) (same p.1 q.1) h in
    λ i. (same_is p.0 q.0 parts.0 i, same_is p.1 q.1 parts.1 i)

same_pair_itself : (p : Pair) → IsTrue (same_pair p p)
same_pair_itself p = and_from (same p.0 p.0) (same p.1 p.1) (same_itself p.0) (same_itself p.1)

came : List Pair → Pair → Bool
came before q = list_any (λ z. same_pair z q) before

has_come : (before : List Pair) (q : Pair) → Contains before q → IsTrue (came before q)
unfolding came
has_come before q c = any_from (λ z. same_pair z q) before q c (same_pair_itself q)

is_among : (before : List Pair) (q : Pair) → IsTrue (came before q) → Contains before q
unfolding came
is_among before q h = let x =
    some_of_any (λ z. same_pair z q) before h in subst (λ y. Contains before y) (same_pair_is x.0 q x.2) x.1

-- what passes two tests passes a third that asks both
both_tests : (f g h : Pair → Bool) → ((q : Pair) → h q ≡ (f q && g q)) → (ps : List Pair)
    → filter f (filter g ps) ≡ filter h ps
both_tests f g h is [] = refl
both_tests f g h is (p ∷ ps) = by (f p) (g p) refl refl (both_tests f g h is ps)
  where
    by : (a b : Bool) → f p ≡ a → g p ≡ b → filter f (filter g ps) ≡ filter h ps
        → filter f (cond b (p ∷ filter g ps) (filter g ps)) ≡ cond (h p) (p ∷ filter h ps) (filter h ps)
    by true true e k later =
        ap (λ c. cond c (p ∷ filter f (filter g ps)) (filter f (filter g ps))) e ∙ ap (λ qs. p ∷ qs) later
        ∙ sym (ap (λ c. cond c (p ∷ filter h ps) (filter h ps)) (is p ∙ ap (λ c. c && g p) e ∙ k))
    by false true e k later =
        ap (λ c. cond c (p ∷ filter f (filter g ps)) (filter f (filter g ps))) e ∙ later
        ∙ sym (ap (λ c. cond c (p ∷ filter h ps) (filter h ps)) (is p ∙ ap (λ c. c && g p) e))
    by true false e k later =
        later ∙ sym (ap (λ c. cond c (p ∷ filter h ps) (filter h ps)) (is p ∙ ap (λ c. c && g p) e ∙ k))
    by false false e k later =
        later ∙ sym (ap (λ c. cond c (p ∷ filter h ps) (filter h ps)) (is p ∙ ap (λ c. c && g p) e))

all_pass : (ps : List Pair) → filter (λ q. true) ps ≡ ps
all_pass [] = refl
all_pass (p ∷ ps) = ap (λ qs. p ∷ qs) (all_pass ps)

-- an element that came before is left out anyway
old_first : (before : List Pair) (x : Pair) → IsTrue (came before x) → (q : Pair)
    → not (came before q) ≡ (not (came before q) && not (same_pair x q))
old_first before x old q = by (same_pair x q) refl
  where
    kept : (b : Bool) → b ≡ (b && true)
    kept true = refl
    kept false = refl

    by : (b : Bool) → same_pair x q ≡ b → not (came before q) ≡ (not (came before q) && not b)
    by true e = let is : came before q ≡ true =
        ap (came before) (sym (same_pair_is x q e)) ∙ old in ap (λ b. not b) is ∙ sym (ap (λ b. not b && false) is)
    by false e = kept (not (came before q))

not_either : (a b : Bool) → not (a || b) ≡ (not b && not a)
not_either true true = refl
not_either true false = refl
not_either false true = refl
not_either false false = refl

firsts : (before xs : List Pair) → AreFirsts before xs (filter (λ q. not (came before q)) (each_once xs))
unfolding came
firsts before [] = refl
firsts before (x ∷ xs) = by (came before x) refl (λ old. firsts old xs)
  where
    by : (b : Bool) → came before x ≡ b
        → ((old : List Pair) → AreFirsts old xs (filter (λ q. not (came old q)) (each_once xs)))
        → AreFirsts before (x ∷ xs) (cond (not b)
        (x ∷ filter (λ q. not (came before q)) (filter (λ q. not (same_pair x q)) (each_once xs)))
        (filter (λ q. not (came before q)) (filter (λ q. not (same_pair x q)) (each_once xs))))
    by true e later = inl (
      is_among before x e,
      subst (λ ys. AreFirsts before xs ys)
          (sym (both_tests (λ q. not (came before q)) (λ q. not (same_pair x q)) (λ q. not (came before q))
          (old_first before x e) (each_once xs))) (later before),
    )
    by false e later = inr (
      (λ c. false≢true (sym e ∙ has_come before x c)),
      (
        filter (λ q. not (came before q)) (filter (λ q. not (same_pair x q)) (each_once xs)),
        refl,
        subst (λ ys. AreFirsts (x ∷ before) xs ys)
            (sym (both_tests (λ q. not (came before q)) (λ q. not (same_pair x q)) (λ q. not (came (x ∷ before) q))
            (λ q. not_either (same_pair x q) (came before q)) (each_once xs))) (later (x ∷ before)),
      ),
    )

-- ---- many roots

mapped_twice : (roots : List Root) → map plain (map censored roots) ≡ map (λ (r : Root). plain (censored r)) roots
mapped_twice [] = refl
mapped_twice (r ∷ rs) = ap (λ ps. plain (censored r) ∷ ps) (mapped_twice rs)

hidden_firsts : (roots : List Root)
    → AreFirsts [] (map (λ (r : Root). plain (censored r)) roots) (each_once (map plain (map censored roots)))
unfolding came
hidden_firsts roots =
    subst (λ ps. AreFirsts [] (map (λ (r : Root). plain (censored r)) roots) (each_once ps)) (sym (mapped_twice roots))
    (subst (λ ys. AreFirsts [] (map (λ (r : Root). plain (censored r)) roots) ys)
    (all_pass (each_once (map (λ (r : Root). plain (censored r)) roots)))
    (firsts [] (map (λ (r : Root). plain (censored r)) roots)))

pub sees_roots : (class : Class) (roots : List Root) → SeesRoots class roots
sees_roots class roots = record {
  trusted =
      λ h. ap (λ b. if b then map plain roots else each_once (map plain (map censored roots))) h
      ∙ sym (ap (λ b. map (λ (r : Root). plain (if b then r else censored r)) roots) h);
  others =
      λ h. subst (λ b. AreFirsts [] (map (λ (r : Root). plain (if b then r else censored r)) roots)
      (if b then map plain roots else each_once (map plain (map censored roots)))) (sym h) (hidden_firsts roots);
}

pub shows_the_label : ShowsTheLabel
shows_the_label s w c q h denial = denial.is_shown ∙ ap Some ((sees_root (class_of s c) denial.root).trusted h)
