-- What roots in memory stand for.
use Rattle.std.specs.Prelude.{string_bytes}
use Rattle.paths.specs.Root as roots
use Rattle.paths.specs.declared.root.RootKind.{RootKind}
use Rattle.paths.specs.declared.root.RootKind.TheVariants.{Permanent, User, Profile, Runtime, Temporary}
use Rattle.paths.specs.declared.root.Root.{Root}

abbrev pub kind_view : RootKind → roots.Kind
kind_view Permanent = roots.permanent
kind_view User = roots.user
kind_view Profile = roots.profile
kind_view Runtime = roots.runtime
kind_view Temporary = roots.temporary

abbrev pub root_view : Root → roots.Root
root_view r = record { kind = kind_view r.kind; target = r.target; label = string_bytes r.label }
