-- Message files that were fetched, and what each is found to be.
use Rattle.std.specs.Prelude.{◌≡◌, ⊤, ℕ, ◌≤◌, List, [], ◌∷◌, filter, Option, Some, None, IsSome, Ok, bytes_eq}
use Rattle.std.specs.List.{flat_map}
use Rattle.sr_msgform.specs.Messages.{IsMessage, message_spelling}
use Rattle.sr_msgform.specs.declared.message.Message.{Message}
use Rattle.sr_catalog_schema.specs.Catalogs.{Lists}
use Rattle.sr_catalog_schema.specs.Members.{user_name}
use Rattle.sr_catalog_schema.specs.Names.{named}
use Rattle.sr_site.specs.Happenings.{Happening, fetched}
use Rattle.sr_receive_gather.specs.declared.report.Report.{Report}
use Rattle.sr_receive_gather.specs.declared.report.Report.TheVariants.{Junk, Stranger}

-- the name of a message file, and its message
abbrev pub MessageFile : Type 0
MessageFile = List ℕ × Message

-- what was found under a name of the listing: no file any more, a file that is no message, a message that is not for this database, or a message file
pub data FetchedFile : Type 0 where
  gone : List ℕ → FetchedFile
  junk : List ℕ → List ℕ → FetchedFile
  stranger : List ℕ → Message → FetchedFile
  message_file : List ℕ → Message → FetchedFile

-- the message is for this database: from a partner of it, and what it confirms and asks for lies within its log
pub record IsFor (catalog : Lists) (end : ℕ) (m : Message) : Type 0 where
  pub to : m.to ≡ catalog.publisher
  pub from : IsSome (named user_name m.from catalog.users)
  pub confirm : m.confirm.0 ≤ end
  pub ask : m.ask_offset.0 ≤ end

-- it is what it is found to be
abbrev pub IsFetchedFile : Lists → ℕ → FetchedFile → Type 0
IsFetchedFile catalog end (gone name) = ⊤
IsFetchedFile catalog end (junk name bytes) = (m : Message) → IsMessage m → ¬ (bytes ≡ message_spelling m)
IsFetchedFile catalog end (stranger name m) = IsMessage m × ¬ (IsFor catalog end m)
IsFetchedFile catalog end (message_file name m) = IsMessage m × IsFor catalog end m

-- the file's name
abbrev pub name_of : FetchedFile → List ℕ
name_of (gone name) = name
name_of (junk name bytes) = name
name_of (stranger name m) = name
name_of (message_file name m) = name

-- what its fetch gave
abbrev pub found_of : FetchedFile → Option (List ℕ)
found_of (gone name) = None
found_of (junk name bytes) = Some bytes
found_of (stranger name m) = Some (message_spelling m)
found_of (message_file name m) = Some (message_spelling m)

-- the limit of each fetch: one byte more than a message file may have
abbrev pub longest_fetch : ℕ
longest_fetch = 2097153

-- the fetch, from the folder of this address
abbrev pub fetch_of : List ℕ → FetchedFile → Happening
fetch_of address fetched_file = fetched address (name_of fetched_file) longest_fetch (Ok (found_of fetched_file))

-- what is reported of it
abbrev pub report_of : FetchedFile → List Report
report_of (gone name) = []
report_of (junk name bytes) = Junk name ∷ []
report_of (stranger name m) = Stranger name ∷ []
report_of (message_file name m) = []

-- the message file that it is
abbrev pub message_file_of : FetchedFile → List MessageFile
message_file_of (gone name) = []
message_file_of (junk name bytes) = []
message_file_of (stranger name m) = []
message_file_of (message_file name m) = (name, m) ∷ []

-- the message files of a user among what came, in the order of the listing
abbrev pub message_files_from : List ℕ → List FetchedFile → List MessageFile
message_files_from user fetched_files = filter (λ l. bytes_eq user l.1.from) (flat_map message_file_of fetched_files)
