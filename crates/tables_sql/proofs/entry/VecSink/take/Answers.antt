use Rattle.std.proofs.Common.{◌≡◌, ◌-◌, true, Some, inr, refl, sym, subst, ◌∙◌, length}
use Rattle.std.specs.Prelude.{slice_get}
use Rattle.sqlite_catalog.proofs.ListFacts.{zip_push}
use Rattle.tables_sql.proofs.Lists.{more_adjacent, adjacent_last}
use Rattle.tables_sql.proofs.entry.VecSink.take.Goals as goal
use Rattle.tables_sql.proofs.entry.VecSink.take.Goals.{in-Some+else-not-is_below, in_default}

pub returns-then-not-is_below-clause-refused : goal.returns-then-not-is_below-clause-refused
returns-then-not-is_below-clause-refused g c =
    let all = c.args.self.now.items in
    let entry = c.in_ok-entry.entry in
    let last : slice_get all (length all - 1) ≡ Some c.in-Some.last.now =
    sym (rw (c.in-Some.is, c.deref.ensures.value) at c.last.ensures.value) in
    inr (
      refl,
      λ rows h. inr (
        _,
        zip_push g.T.Entry.is_shown rows all c.args.row.now entry h.0 c.in_ok-entry.ensures.shown,
        λ up.
            let below : true ≡ g.T.Entry.is_below c.in-Some.last.now entry =
            adjacent_last (λ x y. true ≡ g.T.Entry.is_below x y) all entry up c.in-Some.last.now last in
            let no = below ∙ sym c.if-not-is_below.ensures in cc,
      ),
    )

pub returns-clause-loaded : goal.returns-clause-loaded
returns-clause-loaded g c rows h =
    let all = c.args.self.now.items in
    let entry = c.in_ok-entry.entry in
    let last : (x : _) → slice_get all (length all - 1) ≡ Some x → true ≡ g.T.Entry.is_below x entry =
    λ x is. elim c.match-last.branch [
      | in-Some+else-not-is_below w ↦
          let present = rw (w.in-Some.is, c.deref.ensures.value) at c.last.ensures.value in
          let same : w.in-Some.last.now ≡ x = let e = present ∙ is in cc in
          subst (λ z. true ≡ g.T.Entry.is_below z entry) same w.if-not-is_below.ensures
      | in_default w ↦ let present =
          rw (w.in_default.is, c.deref.ensures.value) at c.last.ensures.value in absurd (let no = present ∙ is in cc)
    ] in
    rw c.in_ok-push.ensures.items (
      zip_push g.T.Entry.is_shown rows all c.args.row.now entry h.0
          c.in_ok-entry.ensures.shown,
      more_adjacent (λ x y. true ≡ g.T.Entry.is_below x y) all entry h.1 last,
    )
