-- The orders of keys.
use Rattle.std.proofs.Common.{◌≡◌, refl}
use Rattle.std.specs.declared.cmp.Ordering.{Ordering}
use Rattle.std.specs.declared.cmp.Ordering.TheVariants.{Less, Equal, Greater}
use Rattle.std.specs.Ordering.{nat_cmp, ordering_then}
use Rattle.std.specs.Cmp.{IsTotalOrder, then_total, on_total, nat_cmp_total}
use Rattle.std.specs.Cmp.Lexicographic.{on_texts, nat_list_cmp_total}
use Rattle.std.specs.FinMap as finite
use Rattle.paths.specs.Root.{bytes_cmp}
use Rattle.model.specs.World.{Pair, pair_cmp, Temporary, temporary_cmp}

pub bytes_total : IsTotalOrder bytes_cmp
bytes_total = nat_list_cmp_total

pub bytes_antisymmetric : finite.IsAntisymmetric bytes_cmp
bytes_antisymmetric = finite.slice_cmp-IsAntisymmetric finite.nat_cmp-IsAntisymmetric

pub nat_antisymmetric : finite.IsAntisymmetric nat_cmp
nat_antisymmetric = finite.nat_cmp-IsAntisymmetric

both_equal : (r s : Ordering) → ordering_then r s ≡ Equal → (r ≡ Equal) × (s ≡ Equal)
both_equal Less s e = cc
both_equal Equal s e = (refl, e)
both_equal Greater s e = cc

pub pair_total : IsTotalOrder pair_cmp
pair_total = then_total (on_texts (λ (p : Pair). p.0)) (on_texts (λ (p : Pair). p.1))

pub pair_antisymmetric : finite.IsAntisymmetric pair_cmp
pair_antisymmetric x y e =
    let both = both_equal (bytes_cmp x.0 y.0) (bytes_cmp x.1 y.1) e in
    λ i. (bytes_antisymmetric x.0 y.0 both.0 i, bytes_antisymmetric x.1 y.1 both.1 i)

pub temporary_total : IsTotalOrder temporary_cmp
temporary_total =
    then_total (on_texts (λ (t : Temporary). t.owner))
    (then_total (on_total (λ (t : Temporary). t.session) nat_cmp_total) (on_texts (λ (t : Temporary). t.path)))

pub temporary_antisymmetric : finite.IsAntisymmetric temporary_cmp
temporary_antisymmetric x y e =
    let owners = both_equal (bytes_cmp x.owner y.owner) _ e in
    let rest = both_equal (nat_cmp x.session y.session) (bytes_cmp x.path y.path) owners.1 in
    λ i. record {
      owner = bytes_antisymmetric x.owner y.owner owners.0 i;
      session = nat_antisymmetric x.session y.session rest.0 i;
      path = bytes_antisymmetric x.path y.path rest.1 i;
    }
