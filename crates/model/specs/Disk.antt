-- What a request needs of the disk, as three questions.
use Rattle.std.specs.Prelude.{Bool, true, false}
use Rattle.model.specs.Request.{Request, DiskUse, no_use, archive_use, put_use, delete_use, disk_use}

abbrev pub is_archive_use : DiskUse → Bool
is_archive_use archive_use = true
is_archive_use no_use = false
is_archive_use put_use = false
is_archive_use delete_use = false

abbrev pub is_any_use : DiskUse → Bool
is_any_use no_use = false
is_any_use archive_use = true
is_any_use put_use = true
is_any_use delete_use = true

abbrev pub is_put_use : DiskUse → Bool
is_put_use put_use = true
is_put_use no_use = false
is_put_use archive_use = false
is_put_use delete_use = false

-- whether a request is answered from the disk: one for an archive or its listing; all others are answered from memory
abbrev pub reads_disk : Request → Bool
reads_disk q = is_archive_use (disk_use q)

-- whether a request touches the disk: an archive or its listing is read from the disk, and a change is written to it
abbrev pub touches_disk : Request → Bool
touches_disk q = is_any_use (disk_use q)

-- whether a request puts rows into the tables: it changes them, and not by deleting alone
abbrev pub puts_rows : Request → Bool
puts_rows q = is_put_use (disk_use q)
