use Rattle.std.proofs.Common.{◌≡◌, Bool, Result, sym, ap, subst, ◌∙◌}
use Rattle.std.specs.Prelude.{IfOk, IsTrue}
use Rattle.std.specs.Option.{option_copied_mut}
use Rattle.std.specs.FinMap as finite
use Rattle.std.specs.declared.alloc.AllocError.{AllocError}
use Rattle.std.proofs.lemmas.Bool.{false≢true}
use Rattle.model.specs.World.{pair_cmp}
use Rattle.tables_outline.specs.Maps.{seen_map, pair_bytes}
use Rattle.tables_outline.specs.View.{outline_view, profile_view}
use Rattle.tables_outline.specs.LoadedEntries.{with_generation}
use Rattle.tables_outline.specs.Outline.{OutlineValue}
use Rattle.tables_outline.proofs.Generations.{profile_present, generation_put}
use Rattle.tables_outline.proofs.outline.Outline.add_generation.Goals as goal
use Rattle.tables_outline.proofs.outline.Outline.add_generation.Goals.{in-Some+in_ok-put-in-Some, in-None}

pub returns-clause-present : goal.returns-clause-present
returns-clause-present c =
    let es = c.self.inside.profiles.entries in
    let owned = pair_bytes c.args.owned.now in
    let seen : (b : Bool) → finite.contains_key (seen_map pair_cmp pair_bytes profile_view es) owned ≡ b
    → b ≡ finite.contains_key c.args.self.now.profiles owned =
    λ b h. sym h ∙ ap (λ (o : OutlineValue). finite.contains_key o.profiles owned) c.self.view_is in
    elim c.match-get_mut.branch [
      | in-Some+in_ok-put-in-Some w ↦ subst
          (λ (r : Result Bool AllocError). IfOk r (λ b. b ≡ finite.contains_key c.args.self.now.profiles owned))
          (sym w.result-is) (seen _ (profile_present es owned _
          (sym c.get_mut.ensures.value ∙ ap option_copied_mut w.in-Some.is)))
      | in-None w ↦ subst (λ (r : Result Bool AllocError). IfOk r
          (λ b. b ≡ finite.contains_key c.args.self.now.profiles owned)) (sym w.result-is)
          (seen _ (profile_present es owned _ (sym c.get_mut.ensures.value ∙ ap option_copied_mut w.in-None.is)))
    ]

pub returns-clause-done : goal.returns-clause-done
returns-clause-done c =
    let es = c.self.inside.profiles.entries in
    let owned = pair_bytes c.args.owned.now in
    elim c.match-get_mut.branch [
      | in-Some+in_ok-put-in-Some w ↦
          subst (λ (r : Result Bool AllocError). IfOk r
          (λ b. IsTrue b → outline_view c.match-get_mut.self-inside
          ≡ record c.args.self.now {
            profiles =
                with_generation owned c.args.number c.args.target c.args.self.now.profiles;
          })) (sym w.result-is)
          (λ _.
          ap outline_view w.self-inside-is
          ∙ ap (λ m. record (outline_view c.self.inside) { profiles = m })
          (ap (seen_map pair_cmp pair_bytes profile_view) (c.get_mut.follows.holds w.put.new.profile).0
          ∙ generation_put es owned w.in-Some.profile.now w.put.new.profile c.args.number c.args.target
          (sym c.get_mut.ensures.value ∙ ap option_copied_mut w.in-Some.is) w.in_ok-put-in-Some.ensures)
          ∙ ap (λ (o : OutlineValue). record o {
            profiles =
                with_generation owned c.args.number c.args.target o.profiles;
          }) c.self.view_is)
      | in-None w ↦ subst (λ (r : Result Bool AllocError). IfOk r
          (λ b. IsTrue b → outline_view c.match-get_mut.self-inside
          ≡ record c.args.self.now {
            profiles =
                with_generation owned c.args.number c.args.target c.args.self.now.profiles;
          })) (sym w.result-is)
          (λ t. absurd (false≢true t))
    ]
