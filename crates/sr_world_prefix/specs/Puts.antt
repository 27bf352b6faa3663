-- Messages that were put, and the histories that stand behind them.
use Rattle.std.specs.Prelude.{◌≡◌, ℕ, List, ◌++◌}
use Rattle.std.specs.List.{AllByRecursion}
use Rattle.sr_book.specs.Entries.{Name}
use Rattle.sr_database_history.specs.Recorded.{Recorded}
use Rattle.sr_world_model.specs.Truth.{IsTrueOf}
use Rattle.sr_msgform.specs.Messages.{IsMessage, message_spelling}
use Rattle.sr_msgform.specs.declared.message.Message.{Message}
use Rattle.sr_send_needs.specs.Needs.{KeepsNeeds}
use Rattle.sr_site.specs.Files.{Files}
use Rattle.sr_site.specs.Happenings.{Happening}
use Rattle.sr_site.specs.Images.{IsSettled, MayLeave}
use Rattle.sr_site.specs.Seen.{Seen}
use Rattle.sr_database_meaning.specs.Events.{PutFile, puts_in}
use Rattle.sr_database_meaning.specs.Standing.{StandsAs, StandsFor}
use Rattle.sr_database_meaning.specs.Traces.{AtEach}
use Rattle.sr_world.specs.Real.{layers}
use Rattle.sr_world_prefix.specs.Good.{StandGood}
use Rattle.sr_world_prefix.specs.Truths.{IsTrueInPart}

-- bytes are those of a message of which this holds, and can be read again
pub record IsFileOf (Holds : Message → Type 0) (bytes : List ℕ) : Type 0 where
  pub message : Message
  pub is_message : IsMessage message
  pub bytes_are : bytes ≡ message_spelling message
  pub is : Holds message

abbrev pub AreFilesOf : (Message → Type 0) → List PutFile → Type 0
AreFilesOf Holds put_files = AllByRecursion (λ l. IsFileOf Holds l.2) put_files

-- files stand for a history by which it holds of these messages, each of which its database sent
pub record StandBehind (Holds : Name → List Recorded → Message → Type 0) (publisher : Name) (put_files : List PutFile) (files : Files) : Type 0 where
  pub es : List Recorded
  pub stands : StandsAs publisher es files
  pub are : AreFilesOf (Holds publisher es) put_files

-- at each moment from the one to the other, what a crash leaves stands so behind the message files that were put until then
pub record StandsBehind (Stand : List PutFile → Files → Type 0) (before now : Seen) : Type 0 where
  pub more : List Happening
  pub is : now.happened ≡ more ++ before.happened
  pub moments : AtEach (λ since. (image : Files) → MayLeave before.first (since ++ before.happened) image → Stand (puts_in since) image) more

-- it stands for a history by which it holds of all these messages
abbrev pub BacksPuts : (Name → List Recorded → Message → Type 0) → Name → Seen → Seen → Type 0
BacksPuts Holds publisher before now = StandsBehind (StandBehind Holds publisher) before now

-- files stand for a history of this publisher, and the log in force keeps what its users have not confirmed, to none of whom more is confirmed than was sent
pub record StandForOne (publisher : Name) (files : Files) : Type 0 where
  pub es : List Recorded
  pub base : ℕ
  pub stands : StandsFor publisher es base files
  pub needs : KeepsNeeds publisher es base

-- where every crash leaves a good history of this publisher, at each moment it leaves one of which all messages are true that were put until then; and where
-- it leaves any of his, they are true of it in part
pub record PutsTrue (publisher : Name) (before now : Seen) : Type 0 where
  pub whole : IsSettled (StandGood publisher) before → BacksPuts (IsTrueOf layers) publisher before now
  pub in_part : IsSettled (StandForOne publisher) before → BacksPuts IsTrueInPart publisher before now
