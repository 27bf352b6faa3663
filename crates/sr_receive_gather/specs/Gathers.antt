-- What a gathering of the mail does.
use Rattle.std.specs.Prelude.{◌≡◌, ◌⊎◌, ⊤, ℕ, Bool, false, List, [], ◌∷◌, ◌++◌, map, IsTrue, Option, Result, Ok, Err, if◌then◌else◌}
use Rattle.std.specs.List.{AllByRecursion, flat_map}
use Rattle.sr_mail.specs.declared.window.Window.{Window}
use Rattle.sr_catalog_schema.specs.Catalogs.{Lists}
use Rattle.sr_site.specs.Causes.{MailStays, Rose}
use Rattle.sr_site.specs.Happenings.{Happening, listed, fetched}
use Rattle.sr_site.specs.Listings.{IsListing, Lists as ListsFirst}
use Rattle.sr_site.specs.Seen.{Seen}
use Rattle.sr_site.specs.declared.mail.Listing.{Listing}
use Rattle.sr_site.specs.declared.mail.MailFault.{MailFault}
use Rattle.sr_receive_gather.specs.Bags.{Has}
use Rattle.sr_receive_gather.specs.MessageFiles.{FetchedFile, IsFetchedFile, MessageFile, fetch_of, message_files_from, longest_fetch, name_of, report_of}
use Rattle.sr_receive_gather.specs.declared.bag.PartnerMail.{PartnerMail}
use Rattle.sr_receive_gather.specs.declared.fault.ReceiveFault.{ReceiveFault}
use Rattle.sr_receive_gather.specs.declared.fault.ReceiveFault.TheVariants.{Disk, Mail, Full, Long, Memory}
use Rattle.sr_receive_gather.specs.declared.report.Report.{Report}
use Rattle.sr_receive_gather.specs.declared.report.Report.TheVariants.{More}

-- fetches of what came, after what happened before
abbrev pub fetches : List ℕ → List FetchedFile → List Happening → List Happening
fetches address [] before = before
fetches address (fetched_file ∷ fetched_files) before = fetches address fetched_files (fetch_of address fetched_file ∷ before)

-- the report of a listing that was cut
abbrev pub more_report : Bool → List Report
more_report more = if more then More ∷ [] else []

-- all reports of a gathering
abbrev pub reports_of : Bool → List FetchedFile → List Report
reports_of more fetched_files = more_report more ++ flat_map report_of fetched_files

-- the folder was listed, and these files of it were fetched
pub record HappenedAll (address : List ℕ) (before now : Seen) (listing : Listing) (fetched_files : List FetchedFile) : Type 0 where
  pub folder : List (List ℕ)
  pub lists : ListsFirst folder listing
  pub happened : now.happened ≡ fetches address fetched_files (listed address folder (Ok listing) ∷ before.happened)

-- ---- gatherings that a fault ended

-- the fetch with which a fault came, if one was begun: of the first name that was left
abbrev pub IsLastFetch : List ℕ → List (List ℕ) → List Happening → Type 0
IsLastFetch address left [] = ⊤
IsLastFetch address left (step ∷ more) =
    (more ≡ []) × ((name : List ℕ) × (rest : List (List ℕ)) × (found : Result (Option (List ℕ)) MailFault) × (left ≡ name ∷ rest) × (step ≡ fetched address name longest_fetch found))

-- of these names the first were fetched, and one more at most was begun
pub record FetchedInPart (address : List ℕ) (before now : List Happening) (names : List (List ℕ)) (fetched_files : List FetchedFile) : Type 0 where
  pub left : List (List ℕ)
  pub parts : names ≡ map name_of fetched_files ++ left
  pub last : List Happening
  pub one : IsLastFetch address left last
  pub happened : now ≡ last ++ fetches address fetched_files before

-- the folder was not listed: nothing happened, or the listing failed
pub record IsUnlisted (address : List ℕ) (before now : List Happening) (more : Bool) (fetched_files : List FetchedFile) : Type 0 where
  pub more_is : more ≡ false
  pub none : fetched_files ≡ []
  pub happened : (now ≡ before) ⊎ ((folder : List (List ℕ)) × (fault : MailFault) × (now ≡ listed address folder (Err fault) ∷ before))

-- that a listing was cut is reported before its files are fetched
abbrev pub IsTold : Listing → Bool → List FetchedFile → Type 0
IsTold listing more fetched_files = (more ≡ listing.more) ⊎ ((more ≡ false) × (fetched_files ≡ []))

-- the folder was listed, and files of it were fetched
pub record IsListedInPart (address : List ℕ) (before now : List Happening) (more : Bool) (fetched_files : List FetchedFile) : Type 0 where
  pub folder : List (List ℕ)
  pub listing : Listing
  pub lists : ListsFirst folder listing
  pub more_is : IsTold listing more fetched_files
  pub part : FetchedInPart address (listed address folder (Ok listing) ∷ before) now listing.names fetched_files

abbrev pub HappenedInPart : List ℕ → List Happening → List Happening → Bool → List FetchedFile → Type 0
HappenedInPart address before now more fetched_files = IsUnlisted address before now more fetched_files ⊎ IsListedInPart address before now more fetched_files

-- only the mail refuses, or there is no memory, and then no call of the mail failed
abbrev pub IsMailFault : Seen → Seen → ReceiveFault → Type 0
IsMailFault before now Disk = ⊥
IsMailFault before now Mail = Rose before.mail_faults now.mail_faults
IsMailFault before now (Full end need) = ⊥
IsMailFault before now (Long size limit) = ⊥
IsMailFault before now Memory = now.mail_faults ≡ before.mail_faults

-- why a gathering ends before its end, and what it did: what was reported is of files of the listing that were fetched
pub record GatherCause (catalog : Lists) (end : ℕ) (before now : Seen) (reports reports' : List Report) (fault : ReceiveFault) : Type 0 where
  pub why : IsMailFault before now fault
  pub more : Bool
  pub fetched_files : List FetchedFile
  pub are : AllByRecursion (IsFetchedFile catalog end) fetched_files
  pub happened : IsTrue before.observable → HappenedInPart catalog.publisher before.happened now.happened more fetched_files
  pub reports_are : reports' ≡ reports ++ reports_of more fetched_files
  pub stays : MailStays before now

-- ---- file by file

-- message files came into the bag: to each user's his
abbrev pub Extends : List PartnerMail → List PartnerMail → List FetchedFile → Type 0
Extends bag bag' fetched_files = (user : List ℕ) (message_files : List MessageFile) (dropped_windows : List Window) → Has bag user message_files dropped_windows → Has bag' user (message_files ++ message_files_from user fetched_files) dropped_windows

-- a file was fetched, and sorted
pub record GathersOne (catalog : Lists) (end : ℕ) (before now : Seen) (name : List ℕ) (bag bag' : List PartnerMail) (reports reports' : List Report) : Type 0 where
  pub fetched_file : FetchedFile
  pub name_is : name_of fetched_file ≡ name
  pub is : IsFetchedFile catalog end fetched_file
  pub happened : IsTrue before.observable → now.happened ≡ fetch_of catalog.publisher fetched_file ∷ before.happened
  pub extended : Extends bag bag' (fetched_file ∷ [])
  pub reports_are : reports' ≡ reports ++ report_of fetched_file
  pub stays : MailStays before now
  pub steady : now.mail_faults ≡ before.mail_faults

-- why a file is not gathered: its fetch was begun, and nothing reported
pub record GatherOneCause (address name : List ℕ) (before now : Seen) (reports reports' : List Report) (fault : ReceiveFault) : Type 0 where
  pub why : IsMailFault before now fault
  pub found : Result (Option (List ℕ)) MailFault
  pub happened : IsTrue before.observable → now.happened ≡ fetched address name longest_fetch found ∷ before.happened
  pub reports_are : reports' ≡ reports
  pub stays : MailStays before now

-- why the files of a listing are not all gathered
pub record GatherListedCause (catalog : Lists) (end : ℕ) (before now : Seen) (listing : Listing) (reports reports' : List Report) (fault : ReceiveFault) : Type 0 where
  pub why : IsMailFault before now fault
  pub more : Bool
  pub fetched_files : List FetchedFile
  pub are : AllByRecursion (IsFetchedFile catalog end) fetched_files
  pub more_is : IsTold listing more fetched_files
  pub happened : IsTrue before.observable → FetchedInPart catalog.publisher before.happened now.happened listing.names fetched_files
  pub reports_are : reports' ≡ reports ++ reports_of more fetched_files
  pub stays : MailStays before now

-- the folder was listed, and each listed file was fetched once, in order, and is what it was found to be
pub record GathersInto (catalog : Lists) (end : ℕ) (before now : Seen) (bag bag' : List PartnerMail) (reports reports' : List Report) : Type 0 where
  pub listing : Listing
  pub is_listing : IsListing listing
  pub fetched_files : List FetchedFile
  pub names : map name_of fetched_files ≡ listing.names
  pub are : AllByRecursion (IsFetchedFile catalog end) fetched_files
  pub happened : IsTrue before.observable → HappenedAll catalog.publisher before now listing fetched_files
  pub extended : Extends bag bag' fetched_files
  pub reports_are : reports' ≡ reports ++ reports_of listing.more fetched_files
  pub stays : MailStays before now
  pub steady : now.mail_faults ≡ before.mail_faults
