-- The machine's answer at each string, and what the definitions say of it.
use Rattle.std.proofs.Common.{◌≡◌, ℕ, ◌≤◌, ◌<◌, Bool, true, false, cond, eqb, ltb, ◌&&◌, List, [], ◌∷◌, ◌++◌, Option}
use Rattle.std.proofs.Common.{Some, None, Result, Ok, Err, refl, sym, ap, ◌∙◌, subst, append-nil, arith, inl, inr, ◌⊎◌}
use Rattle.std.specs.Prelude.{IsTrue, codes, option_and_then, is_some, ⊤}
use Rattle.std.specs.Str.{bytes_eq}
use Rattle.std.proofs.lemmas.Slice.Eq.{bytes_eq-Decides}
use Rattle.std.proofs.lemmas.Bool.{eqb-true, ltb-true, ltb-false, le-ltb, and_parts, both_ways}
use Rattle.nar.specs.declared.error.NarError.{NarError}
use Rattle.nar.specs.declared.error.NarError.TheVariants.{Truncated, BadTag, BadPadding, BadName, NotSorted, TooDeep}
use Rattle.nar.specs.declared.error.NarError.TheVariants.{Trailing, TooLarge, Memory}
use Rattle.nar.specs.Tree.{IsBytes, is_name, rises}
use Rattle.nar.specs.Archive.{Part, name, node, other, spelled, IsShallow}
use Rattle.nar.specs.Fault.{IsWhole, Begins, NameMayFollow, Refuses}
use Rattle.nar.specs.Steps.{Symbol, word, any, kind, file, entries, entry_name, node_word, consumed, run, start, check}
use Rattle.nar.specs.Steps.{after_name, AreBytes}
use Rattle.nar.proofs.Grammar.{walk, run-append, Rest, completed, back, chosen, same_bytes, none_is_some, some_is}
use Rattle.nar.proofs.Grammar.{eqb-same, and_then_some, open_from_run}
use Rattle.nar.proofs.Bytes.{all_append, all_prefix, archive_bytes, node_bytes, IsLast, a_name_above}

-- ---- what the machine takes begins an archive, and the other way round

back_all : (ps : List Part) (σ τ : List Symbol) (r : List Part) → AreBytes ps → run σ ps ≡ Some τ → Rest τ r
    → Rest σ (ps ++ r)
back_all [] σ τ r b e h = subst (λ (v : List Symbol). Rest v r) (sym (some_is σ τ e)) h
back_all (p ∷ ps) [] τ r b e h = none_is_some τ e
back_all (p ∷ ps) (x ∷ κ) τ r b e h =
    let a = and_then_some (consumed x p) (λ σ. run (σ ++ κ) ps) τ e in
    back x p a.0 κ (ps ++ r) b.0 a.1 (back_all ps (a.0 ++ κ) τ r b.1 a.2 h)

whole_from_rest : (r : List Part) → Rest start r → IsWhole r
whole_from_rest r (r1, e1, (r2, e2, (r3, e3, (t, r4, e4, named, e5)))) = (t, named, sym (rw (e1, e2, e3, e4, e5) refl))

pub whole_from_run : (ps : List Part) → AreBytes ps → run start ps ≡ Some [] → IsWhole ps
whole_from_run ps b e =
    whole_from_rest ps (subst (λ (v : List Part). Rest start v) (append-nil ps) (back_all ps start [] [] b e refl))

pub begins_from_run : (ps : List Part) (σ : List Symbol) → AreBytes ps → run start ps ≡ Some σ → Begins ps
begins_from_run ps σ b e =
    let c = completed σ (open_from_run ps σ b e) in
    let w = whole_from_rest (ps ++ c.0) (back_all ps start σ c.0 b e c.1) in
    (w.0, c.0, w.1, w.2)

pub run_from_whole : (ps : List Part) → IsWhole ps → run start ps ≡ Some []
run_from_whole ps (t, named, e) = ap (run start) (sym e) ∙ walk t named

pub run_from_begins : (ps : List Part) → Begins ps → (σ : List Symbol) × (run start ps ≡ Some σ)
run_from_begins ps (t, rest, named, e) =
    let all : run start (ps ++ rest) ≡ Some [] = ap (run start) (sym e) ∙ walk t named in
    let a = and_then_some (run start ps) (λ τ. run τ rest) [] (sym (run-append start ps rest) ∙ all) in
    (a.0, a.1)

pub bytes_from_begins : (ps : List Part) → Begins ps → AreBytes ps
bytes_from_begins ps (t, rest, named, e) =
    all_prefix (λ p. IsBytes (spelled p)) ps rest (subst AreBytes e (archive_bytes t named))

pub bytes_from_whole : (ps : List Part) → IsWhole ps → AreBytes ps
bytes_from_whole ps (t, named, e) = subst AreBytes e (archive_bytes t named)

pub bytes_more : (ps : List Part) (p : Part) → AreBytes ps → IsBytes (spelled p) → AreBytes (ps ++ p ∷ [])
bytes_more ps p b c = all_append (λ p. IsBytes (spelled p)) ps (p ∷ []) b (c, tt)

-- ---- one part more

module _ (ps : List Part) (x : Symbol) (κ : List Symbol) (at : run start ps ≡ Some (x ∷ κ)) where
  pub next_run : (p : Part) → run start (ps ++ p ∷ []) ≡ option_and_then (λ σ. Some (σ ++ κ)) (consumed x p)
  next_run p = run-append start ps (p ∷ []) ∙ ap (option_and_then (λ τ. run τ (p ∷ []))) at

  pub begins_next : (p : Part) (σ : List Symbol) → AreBytes ps → IsBytes (spelled p) → consumed x p ≡ Some σ
      → Begins (ps ++ p ∷ [])
  begins_next p σ b c e =
      begins_from_run (ps ++ p ∷ []) (σ ++ κ) (bytes_more ps p b c)
      (next_run p ∙ ap (option_and_then (λ (v : List Symbol). Some (v ++ κ))) e)

  pub stepped_next : (p : Part) → Begins (ps ++ p ∷ []) → (σ : List Symbol) × (consumed x p ≡ Some σ)
  stepped_next p b =
      let a = run_from_begins (ps ++ p ∷ []) b in
      let c = and_then_some (consumed x p) (λ σ. Some (σ ++ κ)) a.0 (sym (next_run p) ∙ a.1) in
      (c.0, c.1)

-- ---- what a check says

plain_ok : (o : Option (List Symbol)) (p q : Part) (d : NarError) → cond (is_some o) (Ok p) (Err d) ≡ Ok q
    → (σ : List Symbol) × (o ≡ Some σ) × (p ≡ q)
plain_ok None p q d e = absurd cc
plain_ok (Some σ) p q d e = (σ, refl, cc)

plain_err : (o : Option (List Symbol)) (p : Part) (d f : NarError) → cond (is_some o) (Ok p) (Err d) ≡ Err f
    → (o ≡ None) × (d ≡ f)
plain_err None p d f e = (refl, cc)
plain_err (Some σ) p d f e = absurd cc

pub record Checked (x : Symbol) (s : List ℕ) (p : Part) : Type 0 where
  pub left : List Symbol
  pub takes : consumed x p ≡ Some left
  pub same : spelled p ≡ s
  pub shallow : IsShallow p

checked_plain : (x : Symbol) (s : List ℕ) (p : Part)
    → cond (is_some (consumed x (other s))) (Ok (other s)) (Err BadTag) ≡ Ok p → Checked x s p
checked_plain x s p e =
    let a = plain_ok (consumed x (other s)) (other s) p BadTag e in
    subst (λ (q : Part). Checked x s q) a.2 (record { left = a.0; takes = a.1; same = refl; shallow = tt })

if_ok : (b : Bool) (r : Result Part NarError) (d : NarError) (p : Part) → cond b r (Err d) ≡ Ok p
    → (b ≡ true) × (r ≡ Ok p)
if_ok true r d p e = (refl, e)
if_ok false r d p e = absurd cc

unless_ok : (b : Bool) (d : NarError) (r p : Part) → cond b (Err d) (Ok r) ≡ Ok p → (b ≡ false) × (r ≡ p)
unless_ok true d r p e = absurd cc
unless_ok false d r p e = (refl, cc)

checked_name : (d : ℕ) (last : Option (List ℕ)) (s : List ℕ) (p : Part) → check (entry_name d last) s ≡ Ok p
    → Checked (entry_name d last) s p
checked_name d last s p e =
    let a = if_ok (is_name s) _ BadName p e in
    let b = if_ok (rises last s) (Ok (name s)) NotSorted p a.1 in
    let same : name s ≡ p = cc (b.1) in
    let t : consumed (entry_name d last) (name s) ≡ Some (after_name d s) = rw (a.0, b.0) refl in
    subst (λ (q : Part). Checked (entry_name d last) s q) same
    (record { left = after_name d s; takes = t; same = refl; shallow = tt })

checked_node : (d : ℕ) (s : List ℕ) (p : Part) → check (node_word d) s ≡ Ok p → Checked (node_word d) s p
checked_node d s p e =
    let a = if_ok (bytes_eq s (codes "node")) _ BadTag p e in
    let b = unless_ok (ltb 256 d) TooDeep (node d) p a.1 in
    let t : consumed (node_word d) (node d) ≡ Some [] = rw (eqb-same d) refl in
    subst (λ (q : Part). Checked (node_word d) s q) b.1
    (record { left = []; takes = t; same = sym (same_bytes s _ a.0); shallow = ltb-false 256 d b.0 })

pub checked : (x : Symbol) (s : List ℕ) (p : Part) → check x s ≡ Ok p → Checked x s p
checked (word w) s p e = checked_plain (word w) s p e
checked any s p e = checked_plain any s p e
checked (kind d) s p e = checked_plain (kind d) s p e
checked file s p e = checked_plain file s p e
checked (entries d last) s p e = checked_plain (entries d last) s p e
checked (entry_name d last) s p e = checked_name d last s p e
checked (node_word d) s p e = checked_node d s p e

-- ---- a part that the machine takes passes the check

plain_takes : (o : Option (List Symbol)) (p : Part) (σ : List Symbol) → o ≡ Some σ
    → cond (is_some o) (Ok p) (Err BadTag) ≡ Ok p
plain_takes o p σ e = rw e refl

pub check_consumed : (x : Symbol) (p : Part) (σ : List Symbol) → consumed x p ≡ Some σ → IsShallow p
    → check x (spelled p) ≡ Ok p
check_consumed (word w) (other s) σ e h = plain_takes _ (other s) σ e
check_consumed any (other s) σ e h = refl
check_consumed (kind d) (other s) σ e h = plain_takes _ (other s) σ e
check_consumed file (other s) σ e h = plain_takes _ (other s) σ e
check_consumed (entries d last) (other s) σ e h = plain_takes _ (other s) σ e
check_consumed (entry_name d last) (name n) σ e h =
    elim (chosen (is_name n && rises last n) (Some (after_name d n)) None (Some σ) e) [
      | inl c ↦ let both = and_parts (is_name n) (rises last n) c.0 in rw (both.0, both.1) refl
      | inr c ↦ none_is_some σ c.1
    ]
check_consumed (node_word d) (node d') σ e h =
    elim (chosen (eqb d' d) (Some []) None (Some σ) e) [
      | inl c ↦
          let same = eqb-true d' d c.0 in
          let in_range : ltb 256 d ≡ false = le-ltb 256 d (subst (λ (k : ℕ). k ≤ 256) same h) in
          rw (in_range, same) refl
      | inr c ↦ none_is_some σ c.1
    ]
check_consumed _ _ σ e h = none_is_some σ e

-- ---- why a string is refused

is_name_symbol : (x : Symbol) (n : List ℕ) (σ : List Symbol) → consumed x (name n) ≡ Some σ
    → (d : ℕ) × (last : Option (List ℕ)) × (x ≡ entry_name d last)
is_name_symbol (entry_name d last) n σ e = (d, last, refl)
is_name_symbol (word w) n σ e = none_is_some σ e
is_name_symbol any n σ e = none_is_some σ e
is_name_symbol (kind d) n σ e = none_is_some σ e
is_name_symbol file n σ e = none_is_some σ e
is_name_symbol (entries d last) n σ e = none_is_some σ e
is_name_symbol (node_word d) n σ e = none_is_some σ e

is_node_symbol : (x : Symbol) (d : ℕ) (σ : List Symbol) → consumed x (node d) ≡ Some σ → x ≡ node_word d
is_node_symbol (node_word d') d σ e =
    elim (chosen (eqb d d') (Some []) None (Some σ) e) [
      | inl c ↦ ap node_word (sym (eqb-true d d' c.0))
      | inr c ↦ none_is_some σ c.1
    ]
is_node_symbol (word w) d σ e = none_is_some σ e
is_node_symbol any d σ e = none_is_some σ e
is_node_symbol (kind d') d σ e = none_is_some σ e
is_node_symbol file d σ e = none_is_some σ e
is_node_symbol (entries d' last) d σ e = none_is_some σ e
is_node_symbol (entry_name d' last) d σ e = none_is_some σ e

-- a name may come where the symbol is one
takes_some_name : (d : ℕ) (last : Option (List ℕ)) → IsLast last
    → (n : List ℕ) × (σ : List Symbol) × IsBytes n × (consumed (entry_name d last) (name n) ≡ Some σ)
takes_some_name d last h = let n = a_name_above last h in (n.0, after_name d n.0, n.1, rw (n.2, n.3) refl)

-- where neither a name nor a node comes
abbrev IsPlain : Symbol → Type 0
IsPlain (entry_name d last) = ⊥
IsPlain (node_word d) = ⊥
IsPlain _ = ⊤

plain_takes_other : (x : Symbol) (p : Part) (σ : List Symbol) → IsPlain x → consumed x p ≡ Some σ
    → p ≡ other (spelled p)
plain_takes_other x (other s) σ h e = refl
plain_takes_other (word w) (name n) σ h e = none_is_some σ e
plain_takes_other any (name n) σ h e = none_is_some σ e
plain_takes_other (kind d) (name n) σ h e = none_is_some σ e
plain_takes_other file (name n) σ h e = none_is_some σ e
plain_takes_other (entries d last) (name n) σ h e = none_is_some σ e
plain_takes_other (entry_name d last) (name n) σ h e = absurd h
plain_takes_other (node_word d) (name n) σ h e = absurd h
plain_takes_other (word w) (node d') σ h e = none_is_some σ e
plain_takes_other any (node d') σ h e = none_is_some σ e
plain_takes_other (kind d) (node d') σ h e = none_is_some σ e
plain_takes_other file (node d') σ h e = none_is_some σ e
plain_takes_other (entries d last) (node d') σ h e = none_is_some σ e
plain_takes_other (entry_name d last) (node d') σ h e = absurd h
plain_takes_other (node_word d) (node d') σ h e = absurd h

plain_no_name : (x : Symbol) (n : List ℕ) (σ : List Symbol) → IsPlain x → consumed x (name n) ≡ Some σ → ⊥
plain_no_name x n σ h e = let p : name n ≡ other n = plain_takes_other x (name n) σ h e in absurd cc

node_takes_node : (d : ℕ) (p : Part) (σ : List Symbol) → consumed (node_word d) p ≡ Some σ → p ≡ node d
node_takes_node d (node d') σ e =
    elim (chosen (eqb d' d) (Some []) None (Some σ) e) [
      | inl c ↦ ap node (eqb-true d' d c.0)
      | inr c ↦ none_is_some σ c.1
    ]
node_takes_node d (name n) σ e = none_is_some σ e
node_takes_node d (other s) σ e = none_is_some σ e

if_err : (b : Bool) (r : Result Part NarError) (d f : NarError) → cond b r (Err d) ≡ Err f
    → ((b ≡ true) × (r ≡ Err f)) ⊎ ((b ≡ false) × (d ≡ f))
if_err true r d f e = inl (refl, e)
if_err false r d f e = inr (refl, cc)

unless_err : (b : Bool) (d f : NarError) (r : Part) → cond b (Err d) (Ok r) ≡ Err f → (b ≡ true) × (d ≡ f)
unless_err true d f r e = (refl, cc)
unless_err false d f r e = absurd cc

module _ (ps : List Part) (b : AreBytes ps) where
  abbrev At : Symbol → List Symbol → Type 0
  At x κ = run start ps ≡ Some (x ∷ κ)

  refused_plain : (x : Symbol) (κ : List Symbol) (s : List ℕ) (f : NarError) → IsPlain x → At x κ
      → cond (is_some (consumed x (other s))) (Ok (other s)) (Err BadTag) ≡ Err f → Refuses ps s f
  refused_plain x κ s f h at e =
      let a = plain_err (consumed x (other s)) (other s) BadTag f e in
      let no_name : NameMayFollow ps → ⊥ = λ w. let t =
      stepped_next ps x κ at (name w.0) w.1 in plain_no_name x w.0 t.0 h t.1 in
      let none_so : (p : Part) → spelled p ≡ s → Begins (ps ++ p ∷ []) → ⊥ = λ p is w.
      let t = stepped_next ps x κ at p w in
      let same : p ≡ other s = plain_takes_other x p t.0 h t.1 ∙ ap other is in
      let some : consumed x (other s) ≡ Some (t.0) = subst (λ (q : Part). consumed x q ≡ Some (t.0)) same t.1 in
      none_is_some t.0 (sym a.0 ∙ some) in
      subst (λ (g : NarError). Refuses ps s g) a.1 (no_name, none_so)

  name_may_follow : (d : ℕ) (last : Option (List ℕ)) (κ : List Symbol) → At (entry_name d last) κ → NameMayFollow ps
  name_may_follow d last κ at =
      let n = takes_some_name d last (open_from_run ps (entry_name d last ∷ κ) b at).0 in
      (n.0, begins_next ps (entry_name d last) κ at (name n.0) n.1 b n.2 n.3)

  refused_name : (d : ℕ) (last : Option (List ℕ)) (κ : List Symbol) (s : List ℕ) (f : NarError)
      → At (entry_name d last) κ → check (entry_name d last) s ≡ Err f → Refuses ps s f
  refused_name d last κ s f at e =
      elim (if_err (is_name s) _ BadName f e) [
        | inl a ↦ elim (if_err (rises last s) (Ok (name s)) NotSorted f a.1) [
          | inl low ↦ absurd (let q : Ok (name s) ≡ Err f = low.1 in cc)
          | inr low ↦
              let no : Begins (ps ++ name s ∷ []) → ⊥ = λ w.
              let t = stepped_next ps (entry_name d last) κ at (name s) w in
              elim (chosen (is_name s && rises last s) (Some (after_name d s)) None (Some t.0) t.1) [
                | inl c ↦ both_ways (rises last s) low.0 (and_parts (is_name s) (rises last s) c.0).1
                | inr c ↦ none_is_some t.0 c.1
              ] in
              subst (λ (g : NarError). Refuses ps s g) low.1 (name_may_follow d last κ at, a.0, no)
        ]
        | inr a ↦ subst (λ (g : NarError). Refuses ps s g) a.1
            (name_may_follow d last κ at, λ (w : IsTrue (is_name s)). both_ways (is_name s) a.0 w)
      ]

  refused_node : (d : ℕ) (κ : List Symbol) (s : List ℕ) (f : NarError) → At (node_word d) κ
      → check (node_word d) s ≡ Err f → Refuses ps s f
  refused_node d κ s f at e =
      elim (if_err (bytes_eq s (codes "node")) _ BadTag f e) [
        | inl a ↦
            let deep = unless_err (ltb 256 d) TooDeep f (node d) a.1 in
            let begins = begins_next ps (node_word d) κ at (node d) [] b (node_bytes d) (rw (eqb-same d) refl) in
            subst (λ (g : NarError). Refuses ps s g) deep.1 (d, ltb-true 256 d deep.0, same_bytes s _ a.0, begins)
        | inr a ↦
            let no_name : NameMayFollow ps → ⊥ = λ w.
            let t = stepped_next ps (node_word d) κ at (name w.0) w.1 in
            let q : name w.0 ≡ node d = node_takes_node d (name w.0) t.0 t.1 in absurd cc in
            let none_so : (p : Part) → spelled p ≡ s → Begins (ps ++ p ∷ []) → ⊥ = λ p is w.
            let t = stepped_next ps (node_word d) κ at p w in
            let q : codes "node" ≡ s = sym (ap spelled (node_takes_node d p t.0 t.1)) ∙ is in
            both_ways (bytes_eq s (codes "node")) a.0 ((bytes_eq-Decides s (codes "node")).1 (sym q)) in
            subst (λ (g : NarError). Refuses ps s g) a.1 (no_name, none_so)
      ]

  pub refused : (x : Symbol) (κ : List Symbol) (s : List ℕ) (f : NarError) → At x κ → check x s ≡ Err f → Refuses ps s f
  refused (word w) κ s f at e = refused_plain (word w) κ s f tt at e
  refused any κ s f at e = refused_plain any κ s f tt at e
  refused (kind d) κ s f at e = refused_plain (kind d) κ s f tt at e
  refused file κ s f at e = refused_plain file κ s f tt at e
  refused (entries d last) κ s f at e = refused_plain (entries d last) κ s f tt at e
  refused (entry_name d last) κ s f at e = refused_name d last κ s f at e
  refused (node_word d) κ s f at e = refused_node d κ s f at e

-- ---- a string is refused for one reason, and then the check fails

module _ (ps : List Part) (x : Symbol) (κ : List Symbol) (at : run start ps ≡ Some (x ∷ κ)) (bytes : AreBytes ps)
    (s : List ℕ) where
  name_or_node : NameMayFollow ps → (d : ℕ) → Begins (ps ++ node d ∷ []) → ⊥
  name_or_node w d b =
      let t = stepped_next ps x κ at (name w.0) w.1 in
      let u = stepped_next ps x κ at (node d) b in
      let n = is_name_symbol x w.0 t.0 t.1 in
      let one : x ≡ entry_name n.0 n.1 = n.2 in
      let two : x ≡ node_word d = is_node_symbol x d u.0 u.1 in
      let both : entry_name n.0 n.1 ≡ node_word d = sym one ∙ two in
      absurd cc

  tag_and_deep : {A : Type 0} → Refuses ps s BadTag → Refuses ps s TooDeep → A
  tag_and_deep a b = absurd (a.1 (node b.0) (sym b.2) b.3)

  name_and_deep : {A : Type 0} → NameMayFollow ps → Refuses ps s TooDeep → A
  name_and_deep a b = absurd (name_or_node a b.0 b.3)

  pub one_reason : (e f : NarError) → Refuses ps s e → Refuses ps s f → e ≡ f
  one_reason BadTag BadTag a b = refl
  one_reason BadTag BadName a b = absurd (a.0 b.0)
  one_reason BadTag NotSorted a b = absurd (a.0 b.0)
  one_reason BadTag TooDeep a b = tag_and_deep a b
  one_reason BadName BadTag a b = absurd (b.0 a.0)
  one_reason BadName BadName a b = refl
  one_reason BadName NotSorted a b = absurd (a.1 b.1)
  one_reason BadName TooDeep a b = name_and_deep a.0 b
  one_reason NotSorted BadTag a b = absurd (b.0 a.0)
  one_reason NotSorted BadName a b = absurd (b.1 a.1)
  one_reason NotSorted NotSorted a b = refl
  one_reason NotSorted TooDeep a b = name_and_deep a.0 b
  one_reason TooDeep BadTag a b = tag_and_deep b a
  one_reason TooDeep BadName a b = name_and_deep b.0 a
  one_reason TooDeep NotSorted a b = name_and_deep b.0 a
  one_reason TooDeep TooDeep a b = refl
  one_reason Truncated f a b = absurd a
  one_reason BadPadding f a b = absurd a
  one_reason Trailing f a b = absurd a
  one_reason TooLarge f a b = absurd a
  one_reason Memory f a b = absurd a
  one_reason e Truncated a b = absurd b
  one_reason e BadPadding a b = absurd b
  one_reason e Trailing a b = absurd b
  one_reason e TooLarge a b = absurd b
  one_reason e Memory a b = absurd b

  -- what passes is not refused
  passes_none : (e : NarError) (p : Part) → IsBytes s → check x s ≡ Ok p → Refuses ps s e → ⊥
  passes_none BadTag p sb ok a = let c =
      checked x s p ok in a.1 p c.same (begins_next ps x κ at p c.left bytes (subst IsBytes (sym c.same) sb) c.takes)
  passes_none BadName p sb ok a =
      let t = stepped_next ps x κ at (name a.0.0) a.0.1 in
      let n = is_name_symbol x a.0.0 t.0 t.1 in
      let here : check (entry_name n.0 n.1) s ≡ Ok p = subst (λ (y : Symbol). check y s ≡ Ok p) n.2 ok in
      a.1 (if_ok (is_name s) _ BadName p here).0
  passes_none NotSorted p sb ok a =
      let t = stepped_next ps x κ at (name a.0.0) a.0.1 in
      let n = is_name_symbol x a.0.0 t.0 t.1 in
      let here : check (entry_name n.0 n.1) s ≡ Ok p = subst (λ (y : Symbol). check y s ≡ Ok p) n.2 ok in
      let q = if_ok (is_name s) _ BadName p here in
      let r = if_ok (rises n.1 s) (Ok (name s)) NotSorted p q.1 in
      let takes : consumed (entry_name n.0 n.1) (name s) ≡ Some (after_name n.0 s) = rw (q.0, r.0) refl in
      a.2 (begins_next ps x κ at (name s) (after_name n.0 s) bytes sb
      (subst (λ (y : Symbol). consumed y (name s) ≡ Some (after_name n.0 s)) (sym n.2) takes))
  passes_none TooDeep p sb ok a =
      let t = stepped_next ps x κ at (node a.0) a.3 in
      let n = is_node_symbol x a.0 t.0 t.1 in
      let here : check (node_word (a.0)) s ≡ Ok p = subst (λ (y : Symbol). check y s ≡ Ok p) n ok in
      let q = if_ok (bytes_eq s (codes "node")) _ BadTag p here in
      let r = unless_ok (ltb 256 (a.0)) TooDeep (node (a.0)) p q.1 in
      let le : a.0 ≤ 256 = ltb-false 256 (a.0) r.0 in
      let gt : 256 < a.0 = a.1 in
      omega arith
  passes_none Truncated p sb ok a = a
  passes_none BadPadding p sb ok a = a
  passes_none Trailing p sb ok a = a
  passes_none TooLarge p sb ok a = a
  passes_none Memory p sb ok a = a

  by_check : (r : Result Part NarError) (e : NarError) → IsBytes s → check x s ≡ r → Refuses ps s e → r ≡ Err e
  by_check (Ok p) e sb is a = absurd (passes_none e p sb is a)
  by_check (Err f) e sb is a = ap Err (one_reason f e (refused ps bytes x κ s f at is) a)

  pub fails_check : (e : NarError) → IsBytes s → Refuses ps s e → check x s ≡ Err e
  fails_check e sb a = by_check (check x s) e sb refl a
