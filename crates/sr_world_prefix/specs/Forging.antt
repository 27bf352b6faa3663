-- Files that came, and which of them are not forged.
use Rattle.std.specs.Prelude.{◌≡◌, ⊤, ℕ, List, ◌++◌, Some, None, Ok, Err}
use Rattle.std.specs.List.{AllByRecursion}
use Rattle.sr_book.specs.Entries.{Name}
use Rattle.sr_database_history.specs.Recorded.{Recorded}
use Rattle.sr_msgform.specs.Messages.{IsMessage, message_spelling}
use Rattle.sr_msgform.specs.declared.message.Message.{Message}
use Rattle.sr_site.specs.Happenings.{Happening, attached, wrote, cut_to, synced, listed, fetched, sent, removed, handed_over}
use Rattle.sr_site.specs.Seen.{Seen}
use Rattle.sr_world_prefix.specs.Truths.{IsTrueInPart}

-- bytes are not forged: where they are a message from the user to this database, it is true in part of the user's history
abbrev pub IsUnforged : Name → Name → List Recorded → List ℕ → Type 0
IsUnforged publisher user us bytes = (m : Message) → IsMessage m → bytes ≡ message_spelling m → m.from ≡ user → m.to ≡ publisher → IsTrueInPart user us m

-- what a fetch gave is not forged
abbrev pub CameUnforged : Name → Name → List Recorded → Happening → Type 0
CameUnforged publisher user us (attached name folder done) = ⊤
CameUnforged publisher user us (wrote file place bytes done after) = ⊤
CameUnforged publisher user us (cut_to file to done after) = ⊤
CameUnforged publisher user us (synced file done after) = ⊤
CameUnforged publisher user us (listed address folder listing) = ⊤
CameUnforged publisher user us (fetched address name limit (Ok (Some bytes))) = IsUnforged publisher user us bytes
CameUnforged publisher user us (fetched address name limit (Ok None)) = ⊤
CameUnforged publisher user us (fetched address name limit (Err fault)) = ⊤
CameUnforged publisher user us (sent address name bytes done) = ⊤
CameUnforged publisher user us (removed address name done) = ⊤
CameUnforged publisher user us (handed_over folders noted) = ⊤

-- nothing is forged that was fetched from the one moment to the other
pub record NoneForged (publisher user : Name) (us : List Recorded) (before now : Seen) : Type 0 where
  pub more : List Happening
  pub is : now.happened ≡ more ++ before.happened
  pub each : AllByRecursion (CameUnforged publisher user us) more
