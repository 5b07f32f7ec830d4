use Rattle.std.proofs.Common.{ℕ, List, map, ◌++◌, sym, ap, subst, ◌∙◌, String, Global, string_bytes}
use Rattle.std.specs.List.{zip}
use Rattle.std.specs.FinMap as finite
use Rattle.nar.specs.Archive.{IsArchive}
use Rattle.paths.specs.Root.{bytes_cmp, set_of}
use Rattle.tables.specs.Outline.{Outlined}
use Rattle.tables.proofs.SoundChanges.{archive_put}
use Rattle.examples.proofs.changes.add_file.Goals as goal

pub insert_object-requires-clause-sound : goal.insert_object-requires-clause-sound
insert_object-requires-clause-sound g c w t =
    archive_put c.args.tables.now.dir w t.sound c.args.path.now _ c.append.new.self c.in_ok-object.object
    c.as_str-text.ensures.valid (sym c.is_derivation.ensures ∙ c.if-is_derivation.false)
    (subst (IsArchive _) (c.deref.ensures.value
    ∙ sym (c.in_ok-append.ensures.ok ∙ ap (λ (l : List ℕ). l ++ c.write.new.out.items) c.new-nar.ensures))
    c.in_ok-read.ensures.found)
    (ap (λ (o : Outlined). o.references) c.in_ok-object.ensures
    ∙ ap (λ (l : List (List ℕ)). set_of bytes_cmp l) c.new-4.ensures.items)
    (ap (λ (o : Outlined). o.deriver) c.in_ok-object.ensures)
    (ap (λ (o : Outlined). o.ca) c.in_ok-object.ensures)
    (ap (λ (o : Outlined). o.outputs) c.in_ok-object.ensures
    ∙ ap (λ (l : List (String Global)). finite.from_entries {R = bytes_cmp}
    (zip (map string_bytes l) c.new-3.result.items)) c.new-2.ensures.items)
