-- References with a fault aren't sound.
use Rattle.std.proofs.Common.{◌≡◌, ◌≢◌, ℕ, zero, suc, ◌-◌, ◌≤◌, List, [], ◌∷◌, length, cond, None, refl, sym, ap, ◌∙◌}
use Rattle.std.proofs.Common.{arith, IsTrue}
use Rattle.std.specs.Prelude.{is_some, Contains, AllPairs}
use Rattle.std.specs.Cmp.Lexicographic.{nat_list_cmp_total}
use Rattle.std.specs.FinMap as finite
use Rattle.paths.specs.Root.{bytes_cmp}
use Rattle.tables_sql.specs.Contents.{Contents}
use Rattle.model.specs.World.{Path}
use Rattle.tables_world.specs.Rows.{references_in}
use Rattle.tables_schema.specs.declared.schema.Schema.{Schema}
use Rattle.tables_world.specs.Worlds.{rows_of, IsSoundBy}
use Rattle.laws.specs.FaultyRows.{ExcludesFaultyReferences}
use Rattle.tables_world.proofs.Recorded.{at_head, behind}
use Rattle.tables_world.proofs.SoundParts.{some_key}
use Rattle.tables_world.proofs.Reported.{get-reference}
use Rattle.laws.proofs.FaultyRows.{clash, no_key, parts_of, untied, row_sound}

-- a map has at least as many keys as there are different ones of a list in it
counted : (ks : List Path) (m : finite.FinMap bytes_cmp (Unit {0})) → AllPairs (λ q r. q ≢ r) ks
    → ((r : Path) → Contains ks r → IsTrue (finite.contains_key m r)) → length ks ≤ finite.len m
counted [] m own held = omega arith
counted (k ∷ ks) m own held =
    by (finite.len m) refl (counted ks (finite.remove m k)
    (λ i j d lt in_list. own (suc i) (suc j) d (omega arith) (omega arith)) still)
  where
    apart : (r : Path) → Contains ks r → r ≢ k
    apart r h e = let lt = h.1 in own 0 (suc h.0) r (omega arith) (omega arith) (sym e ∙ sym h.2)

    still : (r : Path) → Contains ks r → IsTrue (finite.contains_key (finite.remove m k) r)
    still r h =
        ap is_some (finite.get-remove nat_list_cmp_total m k r
        ∙ ap (λ b. cond b None (finite.get m r)) (untied r k (apart r h))) ∙ held r (behind k r ks h)

    less : finite.len (finite.remove m k) ≡ finite.len m - 1
    less =
        finite.len-remove nat_list_cmp_total m k
        ∙ ap (λ b. cond b (finite.len m - 1) (finite.len m)) (held k (at_head k ks))

    by : (n : ℕ) → finite.len m ≡ n → length ks ≤ finite.len (finite.remove m k) → length (k ∷ ks) ≤ finite.len m
    by zero e rest =
        absurd (no_key (ap (λ x. finite.get x k) (finite.empty_of_len m e) ∙ finite.get-empty bytes_cmp k)
        (held k (at_head k ks)))
    by (suc n) e rest = omega (arith, rest, less, e)

module _ (c : Contents) (p : Path) where
  no_more : (schema : Schema) (dir : List ℕ) (references : List Path) → IsSoundBy schema dir c
      → AllPairs (λ q r. q ≢ r) references
      → ((r : Path) → Contains references r → IsTrue (finite.contains_key c.refs (p, r))) → length references ≤ 4096
  no_more schema dir [] sound own are = omega arith
  no_more schema dir (r ∷ rs) sound own are =
      let o =
      some_key (finite.get c.objects p)
      ((parts_of schema dir c sound).objects.references p r (are r (at_head r rs))).0 in
      let many = (row_sound c p o.0 o.1 schema dir sound).reference_count in
      let all =
      counted (r ∷ rs) (references_in (rows_of c) p) own (λ q h. ap is_some (get-reference c p q) ∙ are q h) in
      omega (arith, many, all)

  pub references_exclude : ExcludesFaultyReferences c p
  references_exclude = record {
    of_no_object =
        λ r present none dir schema sound. no_key none ((parts_of schema dir c sound).objects.references p r present).0;
    to_no_object =
        λ r present none dir schema sound. no_key none ((parts_of schema dir c sound).objects.references p r present).1;
    no_base_name = λ r present bad dir schema sound.
        let o = some_key (finite.get c.objects r) ((parts_of schema dir c sound).objects.references p r present).1 in
        clash bad (row_sound c r o.0 o.1 schema dir sound).path;
    too_many = λ references own are more dir schema sound. let most =
        no_more schema dir references sound own are in omega (arith, most, more);
  }
