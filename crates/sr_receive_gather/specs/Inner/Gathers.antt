-- What a gathering of the mail does.
-- Here is what no contract of the program says by itself.
use Rattle.std.specs.Prelude.{◌≡◌, ◌⊎◌, ℕ, List, [], ◌∷◌, ◌++◌, map, IsTrue, Some}
use Rattle.std.specs.List.{AllByRecursion}
use Rattle.sr_msgform.specs.declared.message.Message.{Message}
use Rattle.sr_catalog_schema.specs.Catalogs.{Lists}
use Rattle.sr_site.specs.Causes.{MailStays}
use Rattle.sr_site.specs.Listings.{IsListing}
use Rattle.sr_site.specs.Seen.{Seen}
use Rattle.sr_site.specs.declared.mail.Listing.{Listing}
use Rattle.sr_receive_gather.specs.Bags.{Has}
use Rattle.sr_receive_gather.specs.MessageFiles.{FetchedFile, message_file, IsFetchedFile, IsFor, found_of, message_files_from, name_of, report_of}
use Rattle.sr_receive_gather.specs.declared.bag.PartnerMail.{PartnerMail}
use Rattle.sr_receive_gather.specs.declared.report.Report.{Report}
use Rattle.sr_receive_gather.specs.declared.report.Report.TheVariants.{Stranger}
use Rattle.sr_receive_gather.specs.Gathers.{fetches, reports_of, HappenedAll, Extends}

-- the folder was listed, each listed file was fetched once, in order, and is what it was found to be; the bag holds each user's message files
pub record HasGathered (catalog : Lists) (end : ℕ) (before now : Seen) (reports reports' : List Report) (bag : List PartnerMail) : Type 0 where
  pub listing : Listing
  pub is_listing : IsListing listing
  pub fetched_files : List FetchedFile
  pub names : map name_of fetched_files ≡ listing.names
  pub are : AllByRecursion (IsFetchedFile catalog end) fetched_files
  pub happened : IsTrue before.observable → HappenedAll catalog.publisher before now listing fetched_files
  pub bag_is : (user : List ℕ) → Has bag user (message_files_from user fetched_files) []
  pub reports_are : reports' ≡ reports ++ reports_of listing.more fetched_files
  pub stays : MailStays before now
  pub steady : now.mail_faults ≡ before.mail_faults

-- a file was found to be what it is
pub record IsSorted (catalog : Lists) (end : ℕ) (name bytes : List ℕ) (bag bag' : List PartnerMail) (reports reports' : List Report) : Type 0 where
  pub fetched_file : FetchedFile
  pub name_is : name_of fetched_file ≡ name
  pub found : found_of fetched_file ≡ Some bytes
  pub is : IsFetchedFile catalog end fetched_file
  pub extended : Extends bag bag' (fetched_file ∷ [])
  pub reports_are : reports' ≡ reports ++ report_of fetched_file

-- a message is a stranger
pub record IsStranger (catalog : Lists) (end : ℕ) (name : List ℕ) (m : Message) (bag bag' : List PartnerMail) (reports reports' : List Report) : Type 0 where
  pub strange : ¬ (IsFor catalog end m)
  pub bag_is : bag' ≡ bag
  pub reports_are : reports' ≡ reports ++ Stranger name ∷ []

-- a message is one for this database
pub record IsMessageFile (catalog : Lists) (end : ℕ) (name : List ℕ) (m : Message) (bag bag' : List PartnerMail) (reports reports' : List Report) : Type 0 where
  pub for : IsFor catalog end m
  pub extended : Extends bag bag' (message_file name m ∷ [])
  pub reports_are : reports' ≡ reports

abbrev pub IsPlaced : Lists → ℕ → List ℕ → Message → List PartnerMail → List PartnerMail → List Report → List Report → Type 0
IsPlaced catalog end name m bag bag' reports reports' = IsStranger catalog end name m bag bag' reports reports' ⊎ IsMessageFile catalog end name m bag bag' reports reports'

-- all files of a listing were fetched, and sorted
pub record GathersAll (catalog : Lists) (end : ℕ) (before now : Seen) (listing : Listing) (bag bag' : List PartnerMail) (reports reports' : List Report) : Type 0 where
  pub fetched_files : List FetchedFile
  pub names : map name_of fetched_files ≡ listing.names
  pub are : AllByRecursion (IsFetchedFile catalog end) fetched_files
  pub happened : IsTrue before.observable → now.happened ≡ fetches catalog.publisher fetched_files before.happened
  pub extended : Extends bag bag' fetched_files
  pub reports_are : reports' ≡ reports ++ reports_of listing.more fetched_files
  pub stays : MailStays before now
  pub steady : now.mail_faults ≡ before.mail_faults
