-- Message files that came before a part of a run, and what it removes of them.
use Rattle.std.specs.Prelude.{List}
use Rattle.std.specs.List.{AllByRecursion, flat_map}
use Rattle.sr_book.specs.Entries.{Name}
use Rattle.sr_receive_gather.specs.MessageFiles.{FetchedFile, message_file_of}
use Rattle.sr_site.specs.Happenings.{Happening}
use Rattle.sr_site.specs.Seen.{Seen}
use Rattle.sr_agent.specs.Removals.{CameAs, RemovesBehind}

-- each message file among these was fetched from the folder of this database since a run began
abbrev pub HaveCome : Name → List Happening → List Happening → List FetchedFile → Type 0
HaveCome publisher begun now fetched_files = AllByRecursion (CameAs publisher begun now) (flat_map message_file_of fetched_files)

-- in a part of a run no file was removed but one that was done with, where the message files among these had come before it
abbrev pub RemovesOfCome : Name → List FetchedFile → Seen → Seen → Type 0
RemovesOfCome publisher fetched_files before now = (begun : List Happening) → HaveCome publisher begun before.happened fetched_files → RemovesBehind before.first publisher begun before.happened now.happened
