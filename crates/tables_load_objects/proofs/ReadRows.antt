-- Reads, one after another.
use Rattle.std.proofs.Common.{◌≡◌, ℕ, List, [], map, Bool, true, false, cond, Some, None, Option, refl, sym, ap, subst}
use Rattle.std.proofs.Common.{◌∙◌, arith, IsTrue}
use Rattle.std.specs.Ordering.{eq_by_cmp}
use Rattle.std.specs.FinMap as finite
use Rattle.sqlite_trees.specs.Tree.{Trees}
use Rattle.sqlite_trees.specs.declared.store.Store.{Ghosts}
use Rattle.sqlite.specs.Effect.{Database}
use Rattle.sqlite.specs.State.{State, HasCleanDisk, Survives, IsUnchanged}
use Rattle.sqlite.specs.Held.{Held, state}
use Rattle.sqlite.proofs.Callers.{unchanged_then}
use Rattle.paths.specs.Root.{bytes_cmp}
use Rattle.tables_sql.specs.Contents.{Numbered, numbered_cmp, contents_of}
use Rattle.tables_sql.specs.Calls.{HasFurther}
use Rattle.tables_sql.proofs.Orders.{numbered_total, numbered_antisymmetric}
use Rattle.tables_sql.proofs.Transactions.{survives_none}
use Rattle.tables_schema.specs.declared.schema.Schema.{Schema}
use Rattle.tables_schema.specs.Forms.{piece}
use Rattle.tables_rows.specs.Frames.{MayRead, LeftAsItWas}
use Rattle.model.proofs.Empty.{no_entries}
use Rattle.tables_outline.proofs.Puts.{get-kept}
use Rattle.tables_rows.specs.declared.objects.Object.{Object}
use Rattle.tables_rows.specs.Entries.{piece_in, stored_of, IsStored}
use Rattle.model.specs.World.{Path}
use Rattle.tables_load_objects.specs.declared.object_rows.ObjectRows.{ObjectRows}
use Rattle.tables_load_objects.specs.declared.joined.Joined.{Joined}
use Rattle.tables_load_objects.specs.declared.source.Source.{Source}
use Rattle.tables_load_objects.specs.Rows.{AreRowsOf, AreJoined, AreStored}
use Rattle.tables_load_objects.specs.Pieces.{HasPiecesBy}
use Rattle.tables_load_objects.specs.Loading.{MayReadBy, MayReadFrom}
use Rattle.tables_load_objects.proofs.Columns.{parts_read}
use Rattle.tables_load_objects.proofs.Each.{shown_of, no_change}

-- the disk was clean before, if it is after
pub clean_before : (a b : State) (P : Trees → Type 0) → Survives a b P → HasCleanDisk b → HasCleanDisk a
clean_before a b P h clean = omega (arith, h.clean, clean)

pub unchanged_both : (a b c : State) → (HasCleanDisk b → IsUnchanged a b) → (HasCleanDisk c → IsUnchanged b c)
    → Survives b c (λ _. ⊥) → HasCleanDisk c → IsUnchanged a c
unchanged_both a b c first next survives clean =
    unchanged_then a b c (first (clean_before b c (λ _. ⊥) survives clean)) (next clean)

module _ (s0 s1 s2 : State) (p : Path) (r : ObjectRows) (o : Option Object) (is : o ≡ Some r.object)
    (first : IsUnchanged s0 s1 × IsStored (contents_of s0.now).objects p o)
    (second : IsUnchanged s1 s2 × (map piece_in r.pieces.items
    ≡ finite.entries (finite.retain_keys (contents_of s1.now).pieces (λ k. eq_by_cmp bytes_cmp k.0 p)))) where
  stored_here : ((stored_of r.object).0 ≡ p) × (finite.get (contents_of s0.now).objects p ≡ Some (stored_of r.object).1)
  stored_here = subst (IsStored (contents_of s0.now).objects p) is first.1

  -- two reads give the row of a path and its pieces
  pub rows_read : IsUnchanged s0 s2 × AreRowsOf (contents_of s0.now) p r
  rows_read = (
    unchanged_then s0 s1 s2 first.0 second.0,
    record {
      base = stored_here.0;
      object = stored_here.1;
      pieces =
          parts_read (contents_of s0.now) p r.pieces.items
          (second.1 ∙ ap (λ (d : Database). finite.entries
          (finite.retain_keys (contents_of d).pieces (λ k. eq_by_cmp bytes_cmp k.0 p))) first.0.0.now_is);
    },
  )

-- where there is no piece, none is listed
pub none_listed : (m : finite.FinMap numbered_cmp (List ℕ)) (p : Path) → m ≡ finite.empty
    → finite.entries (finite.retain_keys m (λ k. eq_by_cmp bytes_cmp k.0 p)) ≡ []
none_listed m p none =
    let here : Numbered → Bool = λ k. eq_by_cmp bytes_cmp k.0 p in
    let nothing : finite.retain_keys (finite.empty {X = List ℕ} {R = numbered_cmp}) here ≡ finite.empty =
    finite.same_map numbered_total numbered_antisymmetric _ _
    (λ q. get-kept numbered_total numbered_antisymmetric finite.empty here q
    ∙ ap (λ g. cond (here q) g None) (finite.get-empty numbered_cmp q) ∙ either (here q)
    ∙ sym (finite.get-empty numbered_cmp q)) in
    ap (λ (n : finite.FinMap numbered_cmp (List ℕ)). finite.entries (finite.retain_keys n here)) none
    ∙ ap finite.entries nothing ∙ no_entries (List ℕ) numbered_cmp
  where
    either : (b : Bool) → ◌≡◌ {A = Option (List ℕ)} (cond b None None) None
    either true = refl
    either false = refl

pub no_pieces : (m : finite.FinMap numbered_cmp (List ℕ)) → m ≡ finite.empty → finite.keys m ≡ []
no_pieces m none = ap finite.keys none ∙ ap (map (λ (e : Numbered × List ℕ). e.0)) (no_entries (List ℕ) numbered_cmp)

-- a state that shows the same has the further table still, or none of its rows
pub further_still : (a b : State) (d : Database → Type 0) → b.now ≡ a.now → d a.now → d b.now
further_still a b d same h = subst d (sym same) h

-- so it is after a read
pub further_after : (a b : State) (d : Database → Type 0) → (HasCleanDisk b → IsUnchanged a b) → Survives a b (λ _. ⊥)
    → (HasCleanDisk a → IsTrue a.is_open → d a.now) → HasCleanDisk b → d b.now
further_after a b d read survives had clean =
    let same = (read clean).0 in
    further_still a b d same.now_is (had (clean_before a b (λ _. ⊥) survives clean) same.was_open)

-- a state that shows the same has the same rows in other tables
pub joined_still : (a b : State) (all : Joined) → b.now ≡ a.now → AreJoined (contents_of a.now) all
    → AreJoined (contents_of b.now) all
joined_still a b all same h = subst (λ (d : Database). AreJoined (contents_of d) all) (sym same) h

module _ {S : Type 0} {g : Ghosts S} where
  -- no read yet
  pub as_it_was : (a : Held S) → MayRead g a → (HasCleanDisk (state g a) → IsTrue (state g a).is_open)
      → LeftAsItWas g a a
  as_it_was a may opened =
      let s = state g a in
      record {
        idle = may.idle;
        same = λ clean. shown_of s s (no_change s (opened clean));
        ready = may.ready;
        survives = survives_none s;
      }

  -- after a read there are pieces as before
  pub pieces_after : (schema : Schema) (a b : Held S) → LeftAsItWas g a b
      → (HasCleanDisk (state g b) → IsUnchanged (state g a) (state g b)) → HasPiecesBy g schema a
      → HasPiecesBy g schema b
  pieces_after schema a b left read had = record {
    exists =
        λ clean has is_open. further_after (state g a) (state g b) (λ d. HasFurther d piece) read left.survives
        (λ early up. had.exists early has up) clean;
    no_table =
        λ clean has is_open. further_after (state g a) (state g b) (λ d. (contents_of d).pieces ≡ finite.empty) read
        left.survives (λ early up. had.no_table early has up) clean;
  }

  -- so it may be read as before
  pub by_after : (schema : Schema) (a b : Held S) → LeftAsItWas g a b
      → (HasCleanDisk (state g b) → IsUnchanged (state g a) (state g b)) → MayReadBy g schema a → MayReadBy g schema b
  by_after schema a b left read may = record {
    frame = record { idle = left.idle; ready = left.ready };
    pieces = pieces_after schema a b left read may.pieces;
  }

  -- and from a source, with other rows read ahead
  pub from_after : (source : Source) (before after : List Object) (a b : Held S) → LeftAsItWas g a b
      → (HasCleanDisk (state g b) → IsUnchanged (state g a) (state g b))
      → MayReadFrom g source before a → (HasCleanDisk (state g b) → AreStored (contents_of (state g a).now) after)
      → MayReadFrom g source after b
  from_after source before after a b left read may ahead = record {
    frame = record { idle = left.idle; ready = left.ready };
    opened = λ clean. (read clean).0.is_open;
    pieces = pieces_after source.schema a b left read may.pieces;
    joined =
        λ clean. joined_still (state g a) (state g b) source.joined.now (read clean).0.now_is
        (may.joined (clean_before (state g a) (state g b) (λ _. ⊥) left.survives clean));
    ahead =
        λ clean. subst (λ (d : Database). AreStored (contents_of d) after) (sym (read clean).0.now_is) (ahead clean);
  }
