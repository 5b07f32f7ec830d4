use Rattle.std.proofs.Common.{sym, ◌∙◌}
use Rattle.std.proofs.lemmas.Bool.{false≢true}
use Rattle.tables_load_objects.proofs.soundness.sound_archive.Goals as goal

pub returns-then-not-is_archive : goal.returns-then-not-is_archive
returns-then-not-is_archive c =
    λ sound. false≢true (sym c.if-not-is_archive.true
    ∙ c.is_archive.ensures.1 (sound.recorded.tree, sound.recorded.archive))

pub sound_outputs-requires : goal.sound_outputs-requires
sound_outputs-requires c = c.is_archive.ensures.0 c.if-not-is_archive.false
