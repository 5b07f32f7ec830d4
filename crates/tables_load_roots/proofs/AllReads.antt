-- All roots, by a schema: what was read last decides.
use Rattle.std.proofs.Common.{◌≡◌, Bool, true, false, Result, Ok, Err, IfOk, sym, ◌∙◌, IsTrue}
use Rattle.std.specs.Prelude.{◌↔◌}
use Rattle.std.specs.FinMap as finite
use Rattle.std.proofs.lemmas.Bool.{false≢true}
use Rattle.tables_sql.specs.declared.failure.Failed.{Failed}
use Rattle.tables_sql.specs.Contents.{Contents}
use Rattle.tables_world.specs.Worlds.{rows_of}
use Rattle.tables_world.specs.Parts.{AreSoundRoots}
use Rattle.tables_load_roots.specs.Loaded.{Objects, are_roots, are_temporary, AreObjects, AreAllSound}
use Rattle.tables_load_roots.proofs.SoundRoots.{roots_sound}
use Rattle.tables_load_roots.proofs.Sessions.{sessions_sound, no_session}

module _ (objects : Objects) (c : Contents) where
  abbrev pub Reported : Bool → Type 0
  Reported ok = AreObjects objects c → (IsTrue ok ↔ AreSoundRoots (rows_of c))

  abbrev pub ToldAll : Bool → Type 0
  ToldAll ok = AreObjects objects c → (IsTrue ok ↔ AreAllSound (rows_of c))

  -- by their tests
  pub roots_decide : (ok : Bool) → ok ≡ are_roots objects c → Reported ok
  roots_decide ok is are =
      (λ h. (roots_sound objects c are).0 (sym is ∙ h), λ sound. is ∙ (roots_sound objects c are).1 sound)

  pub all_unsound : (ok : Bool) → ok ≡ false → Reported ok → ToldAll false
  all_unsound ok failed reported are = (
    λ h. absurd (false≢true h),
    λ all. sym failed ∙ (reported are).1 all.roots,
  )

  -- there is no table of temporary roots
  pub all_read : (ok : Bool) → ok ≡ true → c.temp_roots ≡ finite.empty → Reported ok → ToldAll true
  all_read ok passed none reported are = (
    λ h. record { roots = (reported are).0 passed; sessions = no_session c none },
    λ all. sym passed ∙ (reported are).1 all.roots,
  )

  -- the sessions decide
  pub sessions_decide : (ok : Bool) → ok ≡ true → Reported ok → (last : Bool) → last ≡ are_temporary objects c
      → ToldAll last
  sessions_decide ok passed reported last is are = (
    λ h. record { roots = (reported are).0 passed; sessions = (sessions_sound objects c are).0 (sym is ∙ h) },
    λ all. is ∙ (sessions_sound objects c are).1 all.sessions,
  )

  pub sessions_reported : (r : Result Bool Failed) (ok : Bool) → ok ≡ true → Reported ok → (y : Bool)
      → y ≡ are_temporary objects c → IfOk r (λ last. last ≡ y) → IfOk r ToldAll
  sessions_reported (Ok last) ok passed reported y same h = sessions_decide ok passed reported last (h ∙ same)
  sessions_reported (Err e) ok passed reported y same h = tt
