-- Message files that are removed: each is done with, whatever a crash may leave.
use Rattle.std.specs.Prelude.{◌≡◌, ⊤, ℕ, ◌≤◌, List, [], ◌∷◌, ◌++◌, Some, Ok}
use Rattle.sr_book.specs.Entries.{Name}
use Rattle.sr_database_history.specs.Folds.{books_of}
use Rattle.sr_database_history.specs.Recorded.{Recorded}
use Rattle.sr_msgform.specs.Messages.{IsMessage, message_spelling}
use Rattle.sr_msgform.specs.declared.message.Message.{Message}
use Rattle.sr_receive_gather.specs.MessageFiles.{MessageFile, longest_fetch}
use Rattle.sr_site.specs.Files.{Files}
use Rattle.sr_site.specs.Happenings.{Happening, fetched, removed}
use Rattle.sr_site.specs.Images.{MayLeave}
use Rattle.sr_site.specs.Seen.{Seen}
use Rattle.sr_database_meaning.specs.Standing.{StandsAs}

-- this happened since a run began
pub record HappenedSince (begun now : List Happening) (step : Happening) : Type 0 where
  pub later : List Happening
  pub earlier : List Happening
  pub is : now ≡ later ++ step ∷ (earlier ++ begun)

-- since then this message to this database was fetched from its folder, under this name
pub record CameAs (publisher : Name) (begun now : List Happening) (message_file : MessageFile) : Type 0 where
  pub spelled : IsMessage message_file.1
  pub to : message_file.1.to ≡ publisher
  pub there : HappenedSince begun now (fetched publisher message_file.0 longest_fetch (Ok (Some (message_spelling message_file.1))))

-- a file of this name is done with: a message was fetched under it since the run began; and all that a crash may leave stands for one history, by whose book
-- of its sender its window was received, and what it confirms and asks for was noted
pub record IsDoneWith (first : Files) (publisher : Name) (address name : List ℕ) (begun now : List Happening) : Type 0 where
  pub own : address ≡ publisher
  pub message : Message
  pub came : CameAs publisher begun now (name, message)
  pub es : List Recorded
  pub settled : (image : Files) → MayLeave first now image → StandsAs publisher es image
  pub received : message.upto.0 ≤ (books_of message.from es).log_received
  pub confirmed : message.confirm.0 ≤ (books_of message.from es).confirm_sent
  pub answered : message.ask_count ≤ (books_of message.from es).resend_count

-- of these, which happened after what happened before, the newest first, each removal is of a file that is done with as the removal begins
abbrev pub AreDoneWith : Files → Name → List Happening → List Happening → List Happening → Type 0
AreDoneWith first publisher begun before [] = ⊤
AreDoneWith first publisher begun before (removed address name done ∷ more) = IsDoneWith first publisher address name begun (more ++ before) × AreDoneWith first publisher begun before more
AreDoneWith first publisher begun before (step ∷ more) = AreDoneWith first publisher begun before more

-- from the one moment to the other no file was removed, nor its removal begun, but one that was done with
pub record RemovesBehind (first : Files) (publisher : Name) (begun before now : List Happening) : Type 0 where
  pub more : List Happening
  pub is : now ≡ more ++ before
  pub are : AreDoneWith first publisher begun before more

-- so it is in a run, from its beginning
abbrev pub RemovesInRun : Name → Seen → Seen → Type 0
RemovesInRun publisher before now = RemovesBehind before.first publisher before.happened before.happened now.happened
