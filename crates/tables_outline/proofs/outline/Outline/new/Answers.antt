use Rattle.std.proofs.Common.{◌≡◌, ℕ, List, string_bytes, sym, ap, map, ◌∙◌}
use Rattle.std.specs.FinMap as finite
use Rattle.paths.specs.Root.{bytes_cmp}
use Rattle.model.specs.World.{pair_cmp, temporary_cmp, Object}
use Rattle.model.proofs.Empty.{no_entries}
use Rattle.tables_outline.specs.Maps.{seen_map, seen_set, pair_bytes, labelled_bytes, temporary_bytes}
use Rattle.tables_outline.specs.View.{profile_view}
use Rattle.tables_outline.specs.Outline.{outlined, Outlined, OutlineValue}
use Rattle.tables_outline.proofs.outline.Outline.new.Goals as goal

none_outlined : ◌≡◌ {A = finite.FinMap bytes_cmp Outlined}
    (finite.from_entries (map (λ e. (e.0, outlined e.1)) (finite.entries (finite.empty {X = Object} {R = bytes_cmp}))))
    finite.empty
none_outlined =
    ap (λ es. finite.from_entries {R = bytes_cmp} (map (λ e. (e.0, outlined e.1)) es)) (no_entries Object bytes_cmp)

pub returns : goal.returns
returns c =
    let made : ◌≡◌ {A = OutlineValue} _ _ = λ i. record {
      objects = c.new-objects.ensures i;
      permanent = seen_map bytes_cmp string_bytes (λ (t : List ℕ). t) (c.new-permanent.ensures.empty i);
      user_roots = seen_map pair_cmp pair_bytes (λ (t : List ℕ). t) (c.new-user_roots.ensures.empty i);
      profiles = seen_map pair_cmp pair_bytes profile_view (c.new-profiles.ensures.empty i);
      runtime = seen_set pair_cmp labelled_bytes (c.new-runtime.ensures.empty i);
      temporary = seen_set temporary_cmp temporary_bytes (c.new-temporary.ensures.empty i);
    } in
    made ∙ ap (λ m. record {
      objects = m;
      permanent = finite.empty;
      user_roots = finite.empty;
      profiles = finite.empty;
      runtime = finite.empty;
      temporary = finite.empty;
    }) (sym none_outlined)
