-- Hiding labels keeps the order of roots.
use Rattle.std.proofs.Common.{◌≡◌, ℕ, List, Bool, true, false, refl, sym, ap, ◌∙◌}
use Rattle.std.specs.Prelude.{if◌then◌else◌}
use Rattle.std.specs.declared.cmp.Ordering.{Ordering}
use Rattle.std.specs.declared.cmp.Ordering.TheVariants.{Less, Equal, Greater}
use Rattle.std.specs.Ordering.{ordering_then, nat_cmp}
use Rattle.std.specs.Cmp.{tied_itself}
use Rattle.std.specs.Cmp.Lexicographic.{nat_list_cmp_total}
use Rattle.std.proofs.lemmas.Bool.{false≢true}
use Rattle.paths.specs.Root.{bytes_cmp, Root, place, root_cmp}
use Rattle.live.proofs.Order.{same_kinds}
use Rattle.model.specs.Seen.{is_hidden, hidden_label, censored}

hidden_distinct : (a b : Bool) (l m : List ℕ) → a ≡ b
    → bytes_cmp (if a then hidden_label else l) (if b then hidden_label else m) ≡ Less → bytes_cmp l m ≡ Less
hidden_distinct true true l m e h = let t : bytes_cmp hidden_label hidden_label ≡ Equal =
    tied_itself nat_list_cmp_total hidden_label in absurd (apart (sym t ∙ h))
  where
    apart : Equal ≡ Less → ⊥
    apart e = cc
hidden_distinct false false l m e h = h
hidden_distinct true false l m e h = absurd (false≢true (sym e))
hidden_distinct false true l m e h = absurd (false≢true e)

then_labels : (t : Ordering) (l m : Ordering) → (l ≡ Less → m ≡ Less) → ordering_then t l ≡ Less
    → ordering_then t m ≡ Less
then_labels Less l m f h = refl
then_labels Equal l m f h = f h
then_labels Greater l m f h = h

then_targets : (k : Ordering) (l m : Ordering) → (k ≡ Equal → l ≡ Less → m ≡ Less) → ordering_then k l ≡ Less
    → ordering_then k m ≡ Less
then_targets Less l m f h = refl
then_targets Equal l m f h = f refl h
then_targets Greater l m f h = h

pub below_hidden : (x y : Root) → root_cmp (censored x) (censored y) ≡ Less → root_cmp x y ≡ Less
below_hidden x y h =
    then_targets (nat_cmp (place x.kind) (place y.kind)) _ _
    (λ e. then_labels (bytes_cmp x.target y.target) _ _
    (hidden_distinct (is_hidden x.kind) (is_hidden y.kind) x.label y.label
    (ap is_hidden (same_kinds x.kind y.kind e)))) h
