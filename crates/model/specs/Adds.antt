-- What an add passes: the path and the object.
use Rattle.std.specs.Prelude.{ℕ, ◌+◌, false, List, length, Option, Some, None}
use Rattle.nar.specs.String.{padded}
use Rattle.nar.specs.Tree.{regular}
use Rattle.nar.specs.Archive.{archive, spelling}
use Rattle.paths.specs.Root.{bytes_cmp, set_of}
use Rattle.paths.specs.Path.{text_path, source_path}
use Rattle.paths.specs.ContentAddress.{ContentAddress, text_address, source_address}
use Rattle.model.specs.World.{Path, Object}
use Rattle.model.specs.Objects.{outputs_at}
use Rattle.model.specs.Request.{Imported}

-- a path with the object that is to be there
pub record Added : Type 0 where
  pub path : Path
  pub object : Object

-- an object of a store directory, with the outputs that it records
abbrev pub added_at : List ℕ → Path → List Path → Option Path → Option ContentAddress → List ℕ → Added
added_at dir path refs deriver ca nar = record {
  path = path;
  object = record {
    nar = nar;
    references = set_of bytes_cmp refs;
    deriver = deriver;
    ca = ca;
    outputs = outputs_at dir path nar;
  };
}

-- the archive of a text object: of the regular file with these contents that isn't executable
unfoldable pub text_archive : List ℕ → List ℕ
text_archive contents = spelling (archive (regular false contents))

-- how many bytes that has: 112, and those of the contents filled to a multiple of 8
abbrev pub text_archive_size : List ℕ → ℕ
text_archive_size contents = 112 + padded (length contents)

-- a text object, at the path of its contents
abbrev pub added_text : List ℕ → List ℕ → List Path → List ℕ → Added
added_text dir name refs contents =
    added_at dir (text_path dir name refs contents) refs None (Some (text_address contents)) (text_archive contents)

-- a source object: an archive, at its path
abbrev pub added_source : List ℕ → List ℕ → List Path → List ℕ → Added
added_source dir name refs nar = added_at dir (source_path dir name refs nar) refs None (Some (source_address nar)) nar

-- an object as it is passed
abbrev pub added_import : List ℕ → Imported → Added
added_import dir i = added_at dir i.path i.refs i.deriver i.ca i.nar
