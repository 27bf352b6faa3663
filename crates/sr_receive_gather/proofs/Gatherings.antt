-- A gathering of the mail, file by file.
use Rattle.std.proofs.Common.{◌≡◌, ℕ, Bool, false, List, [], ◌∷◌, ◌++◌, map, Option, Some, None, Result, Ok, Err, refl, sym, ap, subst, ◌∙◌, append_assoc, inl, inr}
use Rattle.std.specs.Prelude.{IsTrue, IsErrOf, option_map}
use Rattle.std.specs.List.{AllByRecursion, flat_map, filter}
use Rattle.std.specs.Str.{bytes_eq}
use Rattle.std.proofs.lemmas.Grind.{flat_map-append}
use Rattle.std.proofs.lemmas.List.{append-nil, map-append}
use Rattle.std.proofs.lemmas.List.Elements.{filter-append}
use Rattle.sr_mail_cut.proofs.Lists.{AllByRecursion-append}
use Rattle.sr_msgform.specs.Messages.{IsMessage, message_spelling}
use Rattle.sr_msgform.specs.declared.message.Message.{Message}
use Rattle.sr_catalog_schema.specs.Catalogs.{Lists}
use Rattle.sr_site.specs.Causes.{MailStays, Rose}
use Rattle.sr_site.specs.Inner.Growing.{mail_stays_on}
use Rattle.sr_site.specs.Happenings.{Happening, listed, fetched}
use Rattle.sr_site.specs.Listings.{IsListing, Lists as ListsFirst}
use Rattle.sr_site.specs.Seen.{Seen}
use Rattle.sr_site.specs.declared.mail.Listing.{Listing}
use Rattle.sr_site.specs.declared.mail.MailFault.{MailFault}
use Rattle.sr_site.specs.declared.mail.MailFault.TheVariants as mail
use Rattle.sr_receive_gather.specs.Bags.{Has}
use Rattle.sr_receive_gather.specs.Inner.Faults.{fault_of_mail}
use Rattle.sr_receive_gather.specs.Gathers.{Extends, FetchedInPart, GatherCause, GatherListedCause, GatherOneCause, GathersInto, GathersOne, fetches, more_report, reports_of}
use Rattle.sr_receive_gather.specs.Inner.Gathers.{GathersAll, HasGathered, IsPlaced, IsSorted}
use Rattle.sr_receive_gather.specs.MessageFiles.{FetchedFile, gone, junk, stranger, message_file, IsFetchedFile, MessageFile, fetch_of, message_file_of, message_files_from, longest_fetch, name_of, report_of}
use Rattle.sr_receive_gather.specs.declared.bag.PartnerMail.{PartnerMail}
use Rattle.sr_receive_gather.specs.declared.fault.ReceiveFault.{ReceiveFault}
use Rattle.sr_receive_gather.specs.declared.fault.ReceiveFault.TheVariants.{Memory}
use Rattle.sr_receive_gather.specs.declared.report.Report.{Report}
use Rattle.sr_receive_gather.specs.declared.report.Report.TheVariants.{Junk}
use Rattle.sr_receive_gather.proofs.MailEnds.{mail_why, mail_then}
use Rattle.sr_receive_gather.proofs.Removing.{still}

told_then : (before now : Seen) → MailStays before now → IsTrue before.observable → IsTrue now.observable
told_then before now stays told = subst (λ (b : Bool). IsTrue b) (sym stays.observable) told

-- ---- what a file is

-- it is no message
pub junk_sorted : (catalog : Lists) (end : ℕ) (name bytes : List ℕ) (bag : List PartnerMail) (reports reports' : List Report) → ((m : Message) → IsMessage m → bytes ≡ message_spelling m → ⊥)
    → reports' ≡ reports ++ Junk name ∷ [] → IsSorted catalog end name bytes bag bag reports reports'
junk_sorted catalog end name bytes bag reports reports' none told = record {
  fetched_file = junk name bytes;
  name_is = refl;
  found = refl;
  is = none;
  extended = λ user message_files dropped_windows h. subst (λ (l : List MessageFile). Has bag user l dropped_windows) (sym (append-nil message_files)) h;
  reports_are = told;
}

-- it is one, for this database or a stranger
pub placed_sorted : (catalog : Lists) (end : ℕ) (name bytes : List ℕ) (m : Message) (bag bag' : List PartnerMail) (reports reports' : List Report) → IsMessage m → bytes ≡ message_spelling m
    → IsPlaced catalog end name m bag bag' reports reports' → IsSorted catalog end name bytes bag bag' reports reports'
placed_sorted catalog end name bytes m bag bag' reports reports' is spelled (inl s) = record {
  fetched_file = stranger name m;
  name_is = refl;
  found = ap Some (sym spelled);
  is = (is, s.strange);
  extended = λ user message_files dropped_windows h.
      subst (λ (l : List MessageFile). Has bag' user l dropped_windows) (sym (append-nil message_files)) (subst (λ (b : List PartnerMail). Has b user message_files dropped_windows) (sym s.bag_is) h);
  reports_are = s.reports_are;
}
placed_sorted catalog end name bytes m bag bag' reports reports' is spelled (inr l) = record {
  fetched_file = message_file name m;
  name_is = refl;
  found = ap Some (sym spelled);
  is = (is, l.for);
  extended = l.extended;
  reports_are = l.reports_are ∙ sym (append-nil reports);
}

-- ---- one file

-- it is gone
pub gone_one : {B : Type 0} (items : B → List ℕ) (catalog : Lists) (end : ℕ) (before now : Seen) (at name : List ℕ) (bag : List PartnerMail) (reports : List Report) (found : Option B) → at ≡ catalog.publisher
    → found ≡ None → (IsTrue before.observable → now.happened ≡ fetched at name longest_fetch (Ok (option_map items found)) ∷ before.happened) → MailStays before now → now.mail_faults ≡ before.mail_faults
    → GathersOne catalog end before now name bag bag reports reports
gone_one {B} items catalog end before now at name bag reports found same none happened stays steady = record {
  fetched_file = gone name;
  name_is = refl;
  is = tt;
  happened = λ told. happened told ∙ ap (λ (a : List ℕ). fetched a name longest_fetch (Ok (option_map items found)) ∷ before.happened) same
      ∙ ap (λ (f : Option B). fetched catalog.publisher name longest_fetch (Ok (option_map items f)) ∷ before.happened) none;
  extended = λ user message_files dropped_windows h. subst (λ (l : List MessageFile). Has bag user l dropped_windows) (sym (append-nil message_files)) h;
  reports_are = sym (append-nil reports);
  stays = stays;
  steady = steady;
}

-- its fetch failed
pub unfetched_one : {T : Type 0} (address at name : List ℕ) (before now : Seen) (reports : List Report) (fault : MailFault) (result : Result T MailFault) → at ≡ address → result ≡ Err fault
    → (IsTrue before.observable → now.happened ≡ fetched at name longest_fetch (Err fault) ∷ before.happened) → MailStays before now → (IsErrOf result mail.Failed → Rose before.mail_faults now.mail_faults)
    → (IsErrOf result mail.Memory → now.mail_faults ≡ before.mail_faults) → GatherOneCause address name before now reports reports (fault_of_mail fault)
unfetched_one address at name before now reports fault result same is happened stays cause short = record {
  why = mail_why before now fault result is cause short;
  found = Err fault;
  happened = λ told. happened told ∙ ap (λ (a : List ℕ). fetched a name longest_fetch (Err fault) ∷ before.happened) same;
  reports_are = refl;
  stays = stays;
}

-- there was no memory to sort it
pub unsorted_one : (address at name : List ℕ) (before now : Seen) (reports reports' : List Report) (found : Option (List ℕ)) → at ≡ address → reports' ≡ reports
    → (IsTrue before.observable → now.happened ≡ fetched at name longest_fetch (Ok found) ∷ before.happened) → MailStays before now → now.mail_faults ≡ before.mail_faults
    → GatherOneCause address name before now reports reports' Memory
unsorted_one address at name before now reports reports' found same kept happened stays steady = record {
  why = steady;
  found = Ok found;
  happened = λ told. happened told ∙ ap (λ (a : List ℕ). fetched a name longest_fetch (Ok found) ∷ before.happened) same;
  reports_are = kept;
  stays = stays;
}

-- ---- all files of a listing

-- the files before those that are left are gathered
pub record IsGathering (catalog : Lists) (end : ℕ) (before now : Seen) (listing : Listing) (left : List (List ℕ)) (bag bag' : List PartnerMail) (reports reports' : List Report) : Type 0 where
  pub fetched_files : List FetchedFile
  pub parts : listing.names ≡ map name_of fetched_files ++ left
  pub are : AllByRecursion (IsFetchedFile catalog end) fetched_files
  pub happened : IsTrue before.observable → now.happened ≡ fetches catalog.publisher fetched_files before.happened
  pub extended : Extends bag bag' fetched_files
  pub reports_are : reports' ≡ reports ++ reports_of listing.more fetched_files
  pub stays : MailStays before now
  pub steady : now.mail_faults ≡ before.mail_faults

pub gathering_start : (catalog : Lists) (end : ℕ) (seen : Seen) (listing : Listing) (left : List (List ℕ)) (bag : List PartnerMail) (reports reports' : List Report) → left ≡ listing.names
    → reports' ≡ reports ++ more_report listing.more → IsGathering catalog end seen seen listing left bag bag reports reports'
gathering_start catalog end seen listing left bag reports reports' all more = record {
  fetched_files = [];
  parts = sym all;
  are = tt;
  happened = λ told. refl;
  extended = λ user message_files dropped_windows h. subst (λ (l : List MessageFile). Has bag user l dropped_windows) (sym (append-nil message_files)) h;
  reports_are = more ∙ ap (λ (l : List Report). reports ++ l) (sym (append-nil (more_report listing.more)));
  stays = still seen;
  steady = refl;
}

fetches_more : (address : List ℕ) (fetched_files : List FetchedFile) (fetched_file : FetchedFile) (before : List Happening) → fetches address (fetched_files ++ fetched_file ∷ []) before ≡ fetch_of address fetched_file ∷ fetches address fetched_files before
fetches_more address [] fetched_file before = refl
fetches_more address (c ∷ fetched_files) fetched_file before = fetches_more address fetched_files fetched_file (fetch_of address c ∷ before)

message_files_more : (user : List ℕ) (fetched_files : List FetchedFile) (fetched_file : FetchedFile) → message_files_from user (fetched_files ++ fetched_file ∷ []) ≡ message_files_from user fetched_files ++ message_files_from user (fetched_file ∷ [])
message_files_more user fetched_files fetched_file =
    let his = λ (l : MessageFile). bytes_eq user l.1.from in
    ap (filter his) (flat_map-append message_file_of fetched_files (fetched_file ∷ [])) ∙ filter-append his (flat_map message_file_of fetched_files) (flat_map message_file_of (fetched_file ∷ []))

reports_more : (more : Bool) (fetched_files : List FetchedFile) (fetched_file : FetchedFile) → reports_of more (fetched_files ++ fetched_file ∷ []) ≡ reports_of more fetched_files ++ report_of fetched_file
reports_more more fetched_files fetched_file =
    ap (λ (l : List Report). more_report more ++ l) (flat_map-append report_of fetched_files (fetched_file ∷ []) ∙ ap (λ (l : List Report). flat_map report_of fetched_files ++ l) (append-nil (report_of fetched_file)))
    ∙ sym (append_assoc (more_report more) (flat_map report_of fetched_files) (report_of fetched_file))

names_more : (fetched_files : List FetchedFile) (fetched_file : FetchedFile) (name : List ℕ) (left : List (List ℕ)) → name_of fetched_file ≡ name → map name_of fetched_files ++ name ∷ left ≡ map name_of (fetched_files ++ fetched_file ∷ []) ++ left
names_more fetched_files fetched_file name left is =
    ap (λ (n : List ℕ). map name_of fetched_files ++ n ∷ left) (sym is) ∙ sym (append_assoc (map name_of fetched_files) (name_of fetched_file ∷ []) left)
    ∙ ap (λ (l : List (List ℕ)). l ++ left) (sym (map-append name_of fetched_files (fetched_file ∷ [])))

pub gathering_more : (catalog : Lists) (end : ℕ) (before middle now : Seen) (listing : Listing) (name : List ℕ) (left : List (List ℕ)) (bag bag' bag'' : List PartnerMail) (reports reports' reports'' : List Report)
    → IsGathering catalog end before middle listing (name ∷ left) bag bag' reports reports' → GathersOne catalog end middle now name bag' bag'' reports' reports''
    → IsGathering catalog end before now listing left bag bag'' reports reports''
gathering_more catalog end before middle now listing name left bag bag' bag'' reports reports' reports'' g one = record {
  fetched_files = g.fetched_files ++ one.fetched_file ∷ [];
  parts = g.parts ∙ names_more g.fetched_files one.fetched_file name left one.name_is;
  are = AllByRecursion-append (IsFetchedFile catalog end) g.fetched_files (one.fetched_file ∷ []) g.are (one.is, tt);
  happened = λ told. one.happened (told_then before middle g.stays told) ∙ ap (λ (l : List Happening). fetch_of catalog.publisher one.fetched_file ∷ l) (g.happened told)
      ∙ sym (fetches_more catalog.publisher g.fetched_files one.fetched_file before.happened);
  extended = λ user message_files dropped_windows h.
      subst (λ (l : List MessageFile). Has bag'' user l dropped_windows)
      (append_assoc message_files (message_files_from user g.fetched_files) (message_files_from user (one.fetched_file ∷ [])) ∙ ap (λ (l : List MessageFile). message_files ++ l) (sym (message_files_more user g.fetched_files one.fetched_file)))
      (one.extended user (message_files ++ message_files_from user g.fetched_files) dropped_windows (g.extended user message_files dropped_windows h));
  reports_are = one.reports_are ∙ ap (λ (l : List Report). l ++ report_of one.fetched_file) g.reports_are ∙ append_assoc reports (reports_of listing.more g.fetched_files) (report_of one.fetched_file)
      ∙ ap (λ (l : List Report). reports ++ l) (sym (reports_more listing.more g.fetched_files one.fetched_file));
  stays = mail_stays_on before middle now g.stays one.stays;
  steady = one.steady ∙ g.steady;
}

pub gathering_stop : (catalog : Lists) (end : ℕ) (before middle now : Seen) (listing : Listing) (name : List ℕ) (left : List (List ℕ)) (bag bag' : List PartnerMail) (reports reports' reports'' : List Report) (fault : ReceiveFault)
    → IsGathering catalog end before middle listing (name ∷ left) bag bag' reports reports' → GatherOneCause catalog.publisher name middle now reports' reports'' fault
    → GatherListedCause catalog end before now listing reports reports'' fault
gathering_stop catalog end before middle now listing name left bag bag' reports reports' reports'' fault g stop = record {
  why = mail_then before middle now fault g.steady stop.why;
  more = listing.more;
  fetched_files = g.fetched_files;
  are = g.are;
  more_is = inl refl;
  happened = λ told. record {
    left = name ∷ left;
    parts = g.parts;
    last = fetched catalog.publisher name longest_fetch stop.found ∷ [];
    one = (refl, (name, left, stop.found, refl, refl));
    happened = stop.happened (told_then before middle g.stays told) ∙ ap (λ (l : List Happening). fetched catalog.publisher name longest_fetch stop.found ∷ l) (g.happened told);
  };
  reports_are = stop.reports_are ∙ g.reports_are;
  stays = mail_stays_on before middle now g.stays stop.stays;
}

-- there was no memory to report that there are others
pub untold_others : (catalog : Lists) (end : ℕ) (seen : Seen) (listing : Listing) (reports reports' : List Report) → reports' ≡ reports → GatherListedCause catalog end seen seen listing reports reports' Memory
untold_others catalog end seen listing reports reports' kept = record {
  why = refl;
  more = false;
  fetched_files = [];
  are = tt;
  more_is = inr (refl, refl);
  happened = λ told. record { left = listing.names; parts = refl; last = []; one = tt; happened = refl };
  reports_are = kept ∙ sym (append-nil reports);
  stays = still seen;
}

-- ---- the listing and its files

pub gathered_into : (catalog : Lists) (end : ℕ) (before middle now : Seen) (at : List ℕ) (listing : Listing) (bag bag' : List PartnerMail) (reports reports' : List Report) → at ≡ catalog.publisher → IsListing listing
    → (IsTrue before.observable → (folder : List (List ℕ)) × (middle.happened ≡ listed at folder (Ok listing) ∷ before.happened) × ListsFirst folder listing) → MailStays before middle → middle.mail_faults ≡ before.mail_faults
    → GathersAll catalog end middle now listing bag bag' reports reports' → GathersInto catalog end before now bag bag' reports reports'
gathered_into catalog end before middle now at listing bag bag' reports reports' same is l stays steady all = record {
  listing = listing;
  is_listing = is;
  fetched_files = all.fetched_files;
  names = all.names;
  are = all.are;
  happened = λ told.
      let k = l told in
      record {
        folder = k.0;
        lists = k.2;
        happened = all.happened (told_then before middle stays told)
            ∙ ap (λ (h : List Happening). fetches catalog.publisher all.fetched_files h) (k.1 ∙ ap (λ (a : List ℕ). listed a k.0 (Ok listing) ∷ before.happened) same);
      };
  extended = all.extended;
  reports_are = all.reports_are;
  stays = mail_stays_on before middle now stays all.stays;
  steady = all.steady ∙ steady;
}

pub stopped_into : (catalog : Lists) (end : ℕ) (before middle now : Seen) (at : List ℕ) (listing : Listing) (reports reports' : List Report) (fault : ReceiveFault) → at ≡ catalog.publisher
    → (IsTrue before.observable → (folder : List (List ℕ)) × (middle.happened ≡ listed at folder (Ok listing) ∷ before.happened) × ListsFirst folder listing) → MailStays before middle → middle.mail_faults ≡ before.mail_faults
    → GatherListedCause catalog end middle now listing reports reports' fault → GatherCause catalog end before now reports reports' fault
stopped_into catalog end before middle now at listing reports reports' fault same l stays steady stop = record {
  why = mail_then before middle now fault steady stop.why;
  more = stop.more;
  fetched_files = stop.fetched_files;
  are = stop.are;
  happened = λ told.
      let k = l told in
      inr (record {
        folder = k.0;
        listing = listing;
        lists = k.2;
        more_is = stop.more_is;
        part = subst (λ (h : List Happening). FetchedInPart catalog.publisher h now.happened listing.names stop.fetched_files)
            (k.1 ∙ ap (λ (a : List ℕ). listed a k.0 (Ok listing) ∷ before.happened) same) (stop.happened (told_then before middle stays told));
      });
  reports_are = stop.reports_are;
  stays = mail_stays_on before middle now stays stop.stays;
}

-- the folder could not be listed
pub unlisted : {T : Type 0} (catalog : Lists) (end : ℕ) (before now : Seen) (at : List ℕ) (reports : List Report) (fault : MailFault) (result : Result T MailFault) → at ≡ catalog.publisher → result ≡ Err fault
    → (IsTrue before.observable → (folder : List (List ℕ)) × (now.happened ≡ listed at folder (Err fault) ∷ before.happened)) → MailStays before now
    → (IsErrOf result mail.Failed → Rose before.mail_faults now.mail_faults) → (IsErrOf result mail.Memory → now.mail_faults ≡ before.mail_faults)
    → GatherCause catalog end before now reports reports (fault_of_mail fault)
unlisted catalog end before now at reports fault result same is l stays cause short = record {
  why = mail_why before now fault result is cause short;
  more = false;
  fetched_files = [];
  are = tt;
  happened = λ told.
      let k = l told in
      inl (record { more_is = refl; none = refl; happened = inr (k.0, fault, k.1 ∙ ap (λ (a : List ℕ). listed a k.0 (Err fault) ∷ before.happened) same) });
  reports_are = sym (append-nil reports);
  stays = stays;
}

-- nothing was done
pub nothing_gathered : (catalog : Lists) (end : ℕ) (seen : Seen) (reports : List Report) → GatherCause catalog end seen seen reports reports Memory
nothing_gathered catalog end seen reports = record {
  why = refl;
  more = false;
  fetched_files = [];
  are = tt;
  happened = λ told. inl (record { more_is = refl; none = refl; happened = inl refl });
  reports_are = sym (append-nil reports);
  stays = still seen;
}

-- ---- into a bag in which nothing was

all_gathered : (catalog : Lists) (end : ℕ) (before now : Seen) (bag bag' : List PartnerMail) (reports reports' : List Report) → ((user : List ℕ) → Has bag user [] []) → GathersInto catalog end before now bag bag' reports reports'
    → HasGathered catalog end before now reports reports' bag'
all_gathered catalog end before now bag bag' reports reports' empty g = record {
  listing = g.listing;
  is_listing = g.is_listing;
  fetched_files = g.fetched_files;
  names = g.names;
  are = g.are;
  happened = g.happened;
  bag_is = λ user. g.extended user [] [] (empty user);
  reports_are = g.reports_are;
  stays = g.stays;
  steady = g.steady;
}

pub has_gathered : (catalog of : Lists) (end upto : ℕ) (before now : Seen) (bag bag' : List PartnerMail) (reports reports' : List Report) → of ≡ catalog → upto ≡ end → ((user : List ℕ) → Has bag user [] [])
    → GathersInto of upto before now bag bag' reports reports' → HasGathered catalog end before now reports reports' bag'
has_gathered catalog of end upto before now bag bag' reports reports' same there empty g =
    subst (λ (c : Lists). HasGathered c end before now reports reports' bag') same
    (subst (λ (n : ℕ). HasGathered of n before now reports reports' bag') there (all_gathered of upto before now bag bag' reports reports' empty g))

pub gather_stopped : (catalog of : Lists) (end upto : ℕ) (before now : Seen) (reports reports' : List Report) (fault : ReceiveFault) → of ≡ catalog → upto ≡ end
    → GatherCause of upto before now reports reports' fault → GatherCause catalog end before now reports reports' fault
gather_stopped catalog of end upto before now reports reports' fault same there stop =
    subst (λ (c : Lists). GatherCause c end before now reports reports' fault) same (subst (λ (n : ℕ). GatherCause of n before now reports reports' fault) there stop)
