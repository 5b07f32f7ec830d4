-- What the entries that the code keeps stand for.
use Rattle.std.specs.Prelude.{string_bytes}
use Rattle.policy.specs.Settings.{Entry as EntryView, everyone, user, group}
use Rattle.policy.specs.declared.entry.Entry.{Entry}
use Rattle.policy.specs.declared.entry.Entry.TheVariants.{Everyone, User, Group}

-- an entry, with its text as bytes
abbrev pub entry_view : Entry → EntryView
entry_view Everyone = everyone
entry_view (User name) = user (string_bytes name)
entry_view (Group name) = group (string_bytes name)
