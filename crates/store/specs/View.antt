-- A store as its callers see it: its tables and its settings.
use Rattle.std.specs.Prelude.{refl}
use Rattle.std.specs.Coded.{Coded, code_by, coded×}
use Rattle.policy.specs.Settings.{Settings}
use Rattle.policy.specs.Codes.{settings_code}
use Rattle.model.specs.Reply.{Reply, done, denied, refused, failed}
use Rattle.tables_writes.specs.TablesValue.{TablesValue, kept_code}

pub record StoreView (S : Type 0) : Type 0 where
  pub tables : TablesValue S
  pub settings : Settings

abbrev pub store_view_code : {S : Type 0} → Coded S → Coded (StoreView S)
store_view_code {S} store =
    code_by (TablesValue S × Settings) (coded× (kept_code store) settings_code) (λ k. (k.tables, k.settings))
    (λ p. record { tables = p.0; settings = p.1 }) (λ _. refl)

-- a reply that leaves the store as it was: a denial or a refusal
abbrev pub IsStill : Reply → Type 0
IsStill (denied rule root) = Unit {0}
IsStill (refused r) = Unit {0}
IsStill (done a) = ⊥
IsStill (failed f) = ⊥
