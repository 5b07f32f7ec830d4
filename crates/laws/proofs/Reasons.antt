-- A request is refused for a fault that it has.
use Rattle.std.proofs.Common.{◌≡◌, ℕ, ◌<◌, List, [], ◌∷◌, length, Bool, true, false, not, ◌&&◌, ◌||◌, Some, None}
use Rattle.std.proofs.Common.{Option, refl, sym, ap, ◌∙◌, IsTrue, subst, inl, inr, ◌⊎◌}
use Rattle.std.specs.Prelude.{◌==◌, nat_le, is_some, is_none, IsFalse, Contains, Result, Ok, Err, if◌then◌else◌}
use Rattle.std.specs.List.{list_all}
use Rattle.std.specs.FinMap as finite
use Rattle.std.proofs.lemmas.Bool.{false≢true, leb-false, eqb-true}
use Rattle.std.proofs.lemmas.Option.{same_Some}
use Rattle.sha2.specs.Sha256.{sha256}
use Rattle.nar.specs.declared.error.NarError.{NarError}
use Rattle.nar.specs.declared.error.NarError.TheVariants as archives
use Rattle.nar.specs.Tree.{Tree, regular, symlink, directory}
use Rattle.nar.specs.Outcome.{outcome_of}
use Rattle.paths.specs.Names.{is_plain_name}
use Rattle.paths.specs.StorePath.{is_derivation}
use Rattle.paths.specs.Root.{is_runtime_label, is_session}
use Rattle.paths.specs.Path.{text_path, source_path}
use Rattle.paths.specs.ContentAddress.{ContentAddress}
use Rattle.drv.specs.declared.error.DrvError.{DrvError}
use Rattle.drv.specs.declared.error.DrvError.TheVariants as texts
use Rattle.drv.specs.Outcome.{outputs_of}
use Rattle.live.specs.Graph.{same, holds}
use Rattle.live.proofs.Groups.{held_is}
use Rattle.live.proofs.Members.{at_head, behind}
use Rattle.live.proofs.Reach.{same_itself}
use Rattle.policy.specs.Settings.{Settings}
use Rattle.model.specs.World.{Path, Pair, World, has}
use Rattle.model.specs.Request.{Imported, Request, add_text, add_source, import_object, info, nar, ls, list, list_live}
use Rattle.model.specs.Request.{list_dead, list_roots, list_roots_of, set_permanent, drop_permanent, set_user_root}
use Rattle.model.specs.Request.{drop_user_root, set_profile, rollback, switch, delete_generation, replace_runtime}
use Rattle.model.specs.Request.{add_temp, end_session, collect, delete, report}
use Rattle.model.specs.declared.refusal.Refusal.{Refusal}
use Rattle.model.specs.declared.refusal.Refusal.TheVariants.{Truncated, BadTag, BadPadding, BadName, NotSorted, TooDeep}
use Rattle.model.specs.declared.refusal.Refusal.TheVariants.{Trailing, TooLarge, CaMismatch, BadDerivation}
use Rattle.model.specs.declared.refusal.Refusal.TheVariants.{DoubleOutput, NotValid, MissingReference, NarHashMismatch}
use Rattle.model.specs.declared.refusal.Refusal.TheVariants.{SelfReference, NoRoot, NoProfile, NoGeneration}
use Rattle.model.specs.declared.refusal.Refusal.TheVariants.{CurrentGeneration, NoOlderGeneration, GenerationLimit}
use Rattle.model.specs.declared.refusal.Refusal.TheVariants.{TooManyReferences, BadRootName, BadLabel, BadSession}
use Rattle.model.specs.Profiles.{profile_at, has_profile, has_generation, number_for, previous}
use Rattle.paths.specs.Decimal.{max_generation}
use Rattle.model.specs.Adds.{added_import, text_archive_size}
use Rattle.model.specs.Faults.{archive_refusal, derivation_refusal}
use Rattle.model.specs.Tests.{unless, first_failing, archive_fault, outputs_fault, tree_fault, if_derivation}
use Rattle.model.specs.Tests.{is_verified, is_complete, refusal}
use Rattle.laws.specs.Generations.{IsNumberFor}
use Rattle.laws.specs.AddOrder.{HasMissingReference, IsFaultyTree, text, other}
use Rattle.laws.specs.Reasons.{IsNoAddressOf, IsNoDerivation, HasFault, RefusalsHaveReasons, MentionedAreValid}
use Rattle.laws.proofs.Faults.{out_of_bounds}
use Rattle.laws.proofs.AddFaults.{texts_are_measured}
use Rattle.laws.proofs.Numbers.{chosen, none_below}
use Rattle.model.proofs.Passed.{met, passed}
use Rattle.model.proofs.Read.{archive_is_read}

-- ---- one test after another

-- whatever fails, first this test or a later one
test : (P : Refusal → Type 0) (b : Bool) (q r : Refusal) (ts : List (Option Refusal)) → (IsFalse b → P q)
    → (IsTrue b → first_failing ts ≡ Some r → P r) → first_failing (unless b q ∷ ts) ≡ Some r → P r
test P true q r ts here later e = later refl e
test P false q r ts here later e = subst P (same_Some q r e) (here refl)

fault : (P : Refusal → Type 0) (t : Option Refusal) (r : Refusal) (ts : List (Option Refusal))
    → ((x : Refusal) → t ≡ Some x → P x) → (t ≡ None → first_failing ts ≡ Some r → P r)
    → first_failing (t ∷ ts) ≡ Some r → P r
fault P None r ts here later e = later refl e
fault P (Some x) r ts here later e = subst P (same_Some x r e) (here x refl)

end : (P : Refusal → Type 0) (r : Refusal) → first_failing [] ≡ Some r → P r
end P r e = absurd (false≢true (ap is_some e))

one_bad : (a b : Bool) → IsFalse (a && b) → IsFalse a ⊎ IsFalse b
one_bad true b h = inr h
one_bad false b h = inl refl

not_false : (b : Bool) → IsFalse (not b) → IsTrue b
not_false true h = refl
not_false false h = absurd (false≢true (sym h))

-- one that doesn't pass
some_fails : {X : Type 0} (f : X → Bool) (xs : List X) → IsFalse (list_all f xs)
    → (x : X) × Contains xs x × IsFalse (f x)
some_fails f [] h = absurd (false≢true (sym h))
some_fails {X} f (x ∷ xs) h = by (f x) refl h (some_fails f xs)
  where
    by : (b : Bool) → f x ≡ b → IsFalse (b && list_all f xs)
        → (IsFalse (list_all f xs) → (y : X) × Contains xs y × IsFalse (f y))
        → (y : X) × Contains (x ∷ xs) y × IsFalse (f y)
    by true e k more = let rest = more k in (rest.0, behind x rest.0 xs rest.1, rest.2)
    by false e k more = (x, at_head x xs, e)

more_than : (n m : ℕ) → IsFalse (nat_le n m) → m < n
more_than n m h = leb-false n m h

-- ---- faults of adds

itself : (refs : List Path) (p : Path) → IsFalse (not (holds refs p)) → Contains refs p
itself refs p h = held_is refs p (not_false (holds refs p) h)

lacking : (w : World) (p : Path) (refs : List Path) → IsFalse (is_complete w p refs) → HasMissingReference w p refs
lacking w p refs h = by (has w p) refl h
  where
    by : (b : Bool) → has w p ≡ b → IsFalse (b || list_all (λ r. has w r || same r p) refs)
        → HasMissingReference w p refs
    by true e k = absurd (false≢true (sym k))
    by false e k =
        let x = some_fails (λ r. has w r || same r p) refs k in
        record {
          fresh = e;
          reference = x.0;
          listed = x.1;
          other =
              λ is. false≢true (sym (right_false (has w x.0) (same x.0 p) x.2) ∙ ap (λ q. same q p) is ∙ same_itself p);
          missing = left_false (has w x.0) (same x.0 p) x.2;
        }
      where
        left_false : (a d : Bool) → IsFalse (a || d) → IsFalse a
        left_false true d j = absurd (false≢true (sym j))
        left_false false d j = refl

        right_false : (a d : Bool) → IsFalse (a || d) → IsFalse d
        right_false true d j = absurd (false≢true (sym j))
        right_false false d j = j

unread : (o : Result Tree NarError) (x : Refusal) → archive_fault o ≡ Some x
    → (e : NarError) × (o ≡ Err e) × (archive_refusal e ≡ Some x)
unread (Ok t) x h = absurd (false≢true (ap is_some h))
unread (Err e) x h = (e, refl, h)

wrong_outputs : (o : Result (List (List ℕ × Path)) DrvError) (x : Refusal) → outputs_fault o ≡ Some x
    → (e : DrvError) × (o ≡ Err e) × (derivation_refusal e ≡ Some x)
wrong_outputs (Ok found) x h = absurd (false≢true (ap is_some h))
wrong_outputs (Err e) x h = (e, refl, h)

wrong_tree : (dir : List ℕ) (t : Tree) (x : Refusal) → tree_fault dir (Ok t) ≡ Some x
    → (e : DrvError) × IsFaultyTree dir t e × (derivation_refusal e ≡ Some x)
wrong_tree dir (regular executable contents) x h = let o =
    wrong_outputs (outputs_of dir contents) x h in (o.0, text executable contents refl o.1, o.2)
wrong_tree dir (symlink target) x h =
    (texts.BadDerivation, other (λ executable contents e. link target executable contents e) refl, h)
  where
    link : (target : List ℕ) (executable : Bool) (contents : List ℕ) → symlink target ≡ regular executable contents → ⊥
    link target executable contents e = cc
wrong_tree dir (directory entries) x h =
    (texts.BadDerivation, other (λ executable contents e. folder executable contents e) refl, h)
  where
    folder : (executable : Bool) (contents : List ℕ) → directory entries ≡ regular executable contents → ⊥
    folder executable contents e = cc

-- what is so of both refusals of derivations is so of each
of_derivation : (P : Refusal → Type 0) (Q : DrvError → Type 0) → (Q texts.BadDerivation → P BadDerivation)
    → (Q texts.DoubleOutput → P DoubleOutput)
    → (e : DrvError) (x : Refusal) → derivation_refusal e ≡ Some x → Q e → P x
of_derivation P Q bad double texts.BadDerivation x is q = subst P (same_Some BadDerivation x is) (bad q)
of_derivation P Q bad double texts.DoubleOutput x is q = subst P (same_Some DoubleOutput x is) (double q)
of_derivation P Q bad double texts.Memory x is q = absurd (false≢true (ap is_some is))

asked : (p : Path) (t : Option Refusal) (x : Refusal) → if_derivation p t ≡ Some x
    → IsTrue (is_derivation p) × (t ≡ Some x)
asked p t x h = by (is_derivation p) refl h
  where
    by : (b : Bool) → is_derivation p ≡ b → (if b then t else None) ≡ Some x → IsTrue (is_derivation p) × (t ≡ Some x)
    by true e k = (e, k)
    by false e k = absurd (false≢true (ap is_some k))

no_derivation : (dir : List ℕ) (p : Path) (b : List ℕ) (t : Tree) (x : Refusal) → outcome_of b ≡ Ok t
    → if_derivation p (tree_fault dir (outcome_of b)) ≡ Some x
    → (e : DrvError) × IsNoDerivation dir p b e × (derivation_refusal e ≡ Some x)
no_derivation dir p b t x read h =
    let parts = asked p (tree_fault dir (outcome_of b)) x h in
    let found = wrong_tree dir t x (ap (tree_fault dir) (sym read) ∙ parts.1) in
    (found.0, record { named = parts.0; tree = t; read = read; faulty = found.1 }, found.2)

no_address : (dir : List ℕ) (i : Imported) (ca : Option ContentAddress) → i.ca ≡ ca
    → IsFalse (is_verified dir i.path (added_import dir i).object ca) → IsNoAddressOf dir i.path i.refs i.nar i.ca
no_address dir i None e h = absurd (false≢true (sym h))
no_address dir i (Some a) e h = record { given = a; is = e; fails = h }

has_address : (ca : Option ContentAddress) (b : Bool) → IsFalse (is_none ca || not b)
    → ((a : ContentAddress) × (ca ≡ Some a)) × IsTrue b
has_address None b h = absurd (false≢true (sym h))
has_address (Some a) b h = ((a, refl), not_false b h)

-- ---- each request

module _ (s : Settings) (w : World) where
  of_text : (name : List ℕ) (refs : List Path) (contents : List ℕ) (r : Refusal)
      → refusal s w (add_text name refs contents) ≡ Some r → HasFault s w (add_text name refs contents) r
  of_text name refs contents r =
      let p = text_path s.store_dir name refs contents in
      let P = HasFault s w (add_text name refs contents) in
      test P (nat_le (length refs) 4096) TooManyReferences r _ (λ f. more_than (length refs) 4096 f) (λ _.
      test P (nat_le (text_archive_size contents) 16777216) TooLarge r _
      (λ f. subst (λ (n : ℕ). 16777216 < n) (texts_are_measured contents)
      (more_than (text_archive_size contents) 16777216 f)) (λ _.
      test P (not (holds refs p)) SelfReference r _ (itself refs p) (λ _.
      fault P (if_derivation p (outputs_fault (outputs_of s.store_dir contents))) r _ (λ x e.
      let parts = asked p (outputs_fault (outputs_of s.store_dir contents)) x e in
      let found = wrong_outputs (outputs_of s.store_dir contents) x parts.1 in
      of_derivation P (λ e. IsTrue (is_derivation p) × (outputs_of s.store_dir contents ≡ Err e)) (λ q. q) (λ q. q)
      found.0 x found.2 (parts.0, found.1)) (λ _.
      test P (is_complete w p refs) MissingReference r [] (lacking w p refs) (λ _. end P r)))))

  no_source : (name : List ℕ) (refs : List Path) (b : List ℕ) (e : NarError) (x : Refusal) → outcome_of b ≡ Err e
      → archive_refusal e ≡ Some x → HasFault s w (add_source name refs b) x
  no_source name refs b archives.Truncated x is reported =
      subst (HasFault s w (add_source name refs b)) (same_Some Truncated x reported)
      (record { fault = archives.Truncated; read = is; reported = refl })
  no_source name refs b archives.BadTag x is reported =
      subst (HasFault s w (add_source name refs b)) (same_Some BadTag x reported)
      (record { fault = archives.BadTag; read = is; reported = refl })
  no_source name refs b archives.BadPadding x is reported =
      subst (HasFault s w (add_source name refs b)) (same_Some BadPadding x reported)
      (record { fault = archives.BadPadding; read = is; reported = refl })
  no_source name refs b archives.BadName x is reported =
      subst (HasFault s w (add_source name refs b)) (same_Some BadName x reported)
      (record { fault = archives.BadName; read = is; reported = refl })
  no_source name refs b archives.NotSorted x is reported =
      subst (HasFault s w (add_source name refs b)) (same_Some NotSorted x reported)
      (record { fault = archives.NotSorted; read = is; reported = refl })
  no_source name refs b archives.TooDeep x is reported =
      subst (HasFault s w (add_source name refs b)) (same_Some TooDeep x reported)
      (record { fault = archives.TooDeep; read = is; reported = refl })
  no_source name refs b archives.Trailing x is reported =
      subst (HasFault s w (add_source name refs b)) (same_Some Trailing x reported)
      (record { fault = archives.Trailing; read = is; reported = refl })
  no_source name refs b archives.TooLarge x is reported =
      subst (HasFault s w (add_source name refs b)) (same_Some TooLarge x reported)
      (record { fault = archives.TooLarge; read = is; reported = refl })
  no_source name refs b archives.Memory x is reported = absurd (false≢true (ap is_some reported))

  no_import : (i : Imported) (e : NarError) (x : Refusal) → outcome_of i.nar ≡ Err e → archive_refusal e ≡ Some x
      → HasFault s w (import_object i) x
  no_import i archives.Truncated x is reported =
      subst (HasFault s w (import_object i)) (same_Some Truncated x reported)
      (record { fault = archives.Truncated; read = is; reported = refl })
  no_import i archives.BadTag x is reported =
      subst (HasFault s w (import_object i)) (same_Some BadTag x reported)
      (record { fault = archives.BadTag; read = is; reported = refl })
  no_import i archives.BadPadding x is reported =
      subst (HasFault s w (import_object i)) (same_Some BadPadding x reported)
      (record { fault = archives.BadPadding; read = is; reported = refl })
  no_import i archives.BadName x is reported =
      subst (HasFault s w (import_object i)) (same_Some BadName x reported)
      (record { fault = archives.BadName; read = is; reported = refl })
  no_import i archives.NotSorted x is reported =
      subst (HasFault s w (import_object i)) (same_Some NotSorted x reported)
      (record { fault = archives.NotSorted; read = is; reported = refl })
  no_import i archives.TooDeep x is reported =
      subst (HasFault s w (import_object i)) (same_Some TooDeep x reported)
      (record { fault = archives.TooDeep; read = is; reported = refl })
  no_import i archives.Trailing x is reported =
      subst (HasFault s w (import_object i)) (same_Some Trailing x reported)
      (record { fault = archives.Trailing; read = is; reported = refl })
  no_import i archives.TooLarge x is reported =
      subst (HasFault s w (import_object i)) (same_Some TooLarge x reported)
      (record { fault = archives.TooLarge; read = is; reported = refl })
  no_import i archives.Memory x is reported = absurd (false≢true (ap is_some reported))

  of_source : (name : List ℕ) (refs : List Path) (b : List ℕ) (r : Refusal)
      → refusal s w (add_source name refs b) ≡ Some r → HasFault s w (add_source name refs b) r
  of_source name refs b r =
      let p = source_path s.store_dir name refs b in
      let P = HasFault s w (add_source name refs b) in
      test P (nat_le (length refs) 4096) TooManyReferences r _ (λ f. more_than (length refs) 4096 f) (λ _.
      fault P (archive_fault (outcome_of b)) r _
      (λ x e. let found = unread (outcome_of b) x e in no_source name refs b found.0 x found.1 found.2) (λ read.
      test P (not (holds refs p)) SelfReference r _ (itself refs p) (λ _.
      fault P (if_derivation p (tree_fault s.store_dir (outcome_of b))) r _ (λ x e.
      let t = archive_is_read b read in
      let found = no_derivation s.store_dir p b t.0 x t.1 e in
      of_derivation P (IsNoDerivation s.store_dir p b) (λ q. q) (λ q. q) found.0 x found.2 found.1) (λ _.
      test P (is_complete w p refs) MissingReference r [] (lacking w p refs) (λ _. end P r)))))

  of_import : (i : Imported) (r : Refusal) → refusal s w (import_object i) ≡ Some r → HasFault s w (import_object i) r
  of_import i r =
      let P = HasFault s w (import_object i) in
      test P (nat_le (length i.refs) 4096) TooManyReferences r _ (λ f. more_than (length i.refs) 4096 f) (λ _.
      fault P (archive_fault (outcome_of i.nar)) r _
      (λ x e. let found = unread (outcome_of i.nar) x e in no_import i found.0 x found.1 found.2) (λ read.
      test P (same (sha256 i.nar) i.nar_hash) NarHashMismatch r _
      (λ f is. false≢true (sym f ∙ ap (λ d. same d i.nar_hash) is ∙ same_itself i.nar_hash)) (λ _.
      test P (is_none i.ca || not (holds i.refs i.path)) SelfReference r _
      (λ f. let both = has_address i.ca (holds i.refs i.path) f in (both.0, held_is i.refs i.path both.1)) (λ _.
      test P (is_verified s.store_dir i.path (added_import s.store_dir i).object i.ca) CaMismatch r _
      (λ f. no_address s.store_dir i i.ca refl f) (λ _.
      fault P (if_derivation i.path (tree_fault s.store_dir (outcome_of i.nar))) r _ (λ x e.
      let t = archive_is_read i.nar read in
      let found = no_derivation s.store_dir i.path i.nar t.0 x t.1 e in
      of_derivation P (IsNoDerivation s.store_dir i.path i.nar) (λ q. q) (λ q. q) found.0 x found.2 found.1) (λ _.
      test P (is_complete w i.path i.refs) MissingReference r [] (lacking w i.path i.refs) (λ _. end P r)))))))

  beyond : (owned : Pair) (p : Path) → IsFalse (nat_le (number_for (profile_at w owned) p) max_generation)
      → (n : ℕ) × IsNumberFor (profile_at w owned) p n × (9999 < n)
  beyond owned p f = (
    number_for (profile_at w owned) p,
    chosen (profile_at w owned) p,
    more_than (number_for (profile_at w owned) p) 9999 f,
  )

  reason : (q : Request) (r : Refusal) → refusal s w q ≡ Some r → HasFault s w q r
  reason (add_text name refs contents) r = of_text name refs contents r
  reason (add_source name refs b) r = of_source name refs b r
  reason (import_object i) r = of_import i r
  reason (info p) r = test (HasFault s w (info p)) (has w p) NotValid r [] (λ f. f) (λ _. end (HasFault s w (info p)) r)
  reason (nar p) r = test (HasFault s w (nar p)) (has w p) NotValid r [] (λ f. f) (λ _. end (HasFault s w (nar p)) r)
  reason (ls p) r = test (HasFault s w (ls p)) (has w p) NotValid r [] (λ f. f) (λ _. end (HasFault s w (ls p)) r)
  reason list r = end (HasFault s w list) r
  reason list_live r = end (HasFault s w list_live) r
  reason list_dead r = end (HasFault s w list_dead) r
  reason list_roots r = end (HasFault s w list_roots) r
  reason (list_roots_of p) r =
      test (HasFault s w (list_roots_of p)) (has w p) NotValid r [] (λ f. f)
      (λ _. end (HasFault s w (list_roots_of p)) r)
  reason (set_permanent name p) r =
      let P = HasFault s w (set_permanent name p) in
      test P (is_plain_name name) BadRootName r _ (λ f. f) (λ _.
      test P (has w p) NotValid r [] (λ f. f) (λ _. end P r))
  reason (drop_permanent name) r =
      let P = HasFault s w (drop_permanent name) in
      test P (is_plain_name name) BadRootName r _ (λ f. f) (λ _.
      test P (finite.contains_key w.permanent name) NoRoot r [] (λ f. f) (λ _. end P r))
  reason (set_user_root owner name p) r =
      let P = HasFault s w (set_user_root owner name p) in
      test P (is_plain_name owner && is_plain_name name) BadRootName r _
      (one_bad (is_plain_name owner) (is_plain_name name)) (λ _.
      test P (has w p) NotValid r [] (λ f. f) (λ _. end P r))
  reason (drop_user_root owner name) r =
      let P = HasFault s w (drop_user_root owner name) in
      test P (is_plain_name owner && is_plain_name name) BadRootName r _
      (one_bad (is_plain_name owner) (is_plain_name name)) (λ _.
      test P (finite.contains_key w.user_roots (owner, name)) NoRoot r [] (λ f. f) (λ _. end P r))
  reason (set_profile owner name p) r =
      let P = HasFault s w (set_profile owner name p) in
      test P (is_plain_name owner && is_plain_name name) BadRootName r _
      (one_bad (is_plain_name owner) (is_plain_name name)) (λ _.
      test P (has w p) NotValid r _ (λ f. f) (λ _.
      test P (nat_le (number_for (profile_at w (owner, name)) p) max_generation) GenerationLimit r []
      (beyond (owner, name) p) (λ _. end P r)))
  reason (rollback owner name) r =
      let P = HasFault s w (rollback owner name) in
      test P (is_plain_name owner && is_plain_name name) BadRootName r _
      (one_bad (is_plain_name owner) (is_plain_name name)) (λ _.
      test P (has_profile w (owner, name)) NoProfile r _ (λ f. f) (λ _.
      test P (is_some (previous (profile_at w (owner, name)))) NoOlderGeneration r []
      (none_below (profile_at w (owner, name))) (λ _. end P r)))
  reason (switch owner name n) r =
      let P = HasFault s w (switch owner name n) in
      test P (is_plain_name owner && is_plain_name name) BadRootName r _
      (one_bad (is_plain_name owner) (is_plain_name name)) (λ _.
      test P (has_profile w (owner, name)) NoProfile r _ (λ f. f) (λ _.
      test P (has_generation (profile_at w (owner, name)) n) NoGeneration r [] (λ f. f) (λ _. end P r)))
  reason (delete_generation owner name n) r =
      let P = HasFault s w (delete_generation owner name n) in
      test P (is_plain_name owner && is_plain_name name) BadRootName r _
      (one_bad (is_plain_name owner) (is_plain_name name)) (λ _.
      test P (has_profile w (owner, name)) NoProfile r _ (λ f. f) (λ _.
      test P (has_generation (profile_at w (owner, name)) n) NoGeneration r _ (λ f. f) (λ _.
      test P (not ((profile_at w (owner, name)).current == n)) CurrentGeneration r []
      (λ f. eqb-true (profile_at w (owner, name)).current n (not_false _ f)) (λ _. end P r))))
  reason (replace_runtime pairs) r =
      let P = HasFault s w (replace_runtime pairs) in
      test P (list_all (λ x. is_runtime_label x.0) pairs) BadLabel r []
      (some_fails (λ (x : Pair). is_runtime_label x.0) pairs) (λ _. end P r)
  reason (add_temp owner session p) r =
      let P = HasFault s w (add_temp owner session p) in
      test P (is_plain_name owner) BadRootName r _ (λ f. f) (λ _.
      test P (is_session session) BadSession r _ (out_of_bounds session) (λ _.
      test P (has w p) NotValid r [] (λ f. f) (λ _. end P r)))
  reason (end_session owner session) r =
      let P = HasFault s w (end_session owner session) in
      test P (is_plain_name owner) BadRootName r _ (λ f. f) (λ _.
      test P (is_session session) BadSession r [] (out_of_bounds session) (λ _. end P r))
  reason (collect ignores limit) r = end (HasFault s w (collect ignores limit)) r
  reason (delete named ignores) r =
      test (HasFault s w (delete named ignores)) (list_all (has w) named) NotValid r [] (some_fails (has w) named)
      (λ _. end (HasFault s w (delete named ignores)) r)
  reason report r = end (HasFault s w report) r

pub refusals_have_reasons : RefusalsHaveReasons
refusals_have_reasons s w c q r new h = reason s w q r h.1

pub reported_are_valid : MentionedAreValid
reported_are_valid s w c p = record {
  info_ = λ a new h. met (has w p) _ (passed _ [] h.1).0;
  nar_ = λ a new h. met (has w p) _ (passed _ [] h.1).0;
  ls_ = λ a new h. met (has w p) _ (passed _ [] h.1).0;
  roots = λ a new h. met (has w p) _ (passed _ [] h.1).0;
}
