-- The receive pass: the mail is gathered, and then each partner has his pass. Turns stand with the newest first.
use Rattle.std.specs.Prelude.{◌≡◌, ⊤, ℕ, Bool, List, [], ◌∷◌, ◌++◌, map, Ok, if◌then◌else◌}
use Rattle.std.specs.List.{AllByRecursion}
use Rattle.sr_book.specs.Entries.{Name}
use Rattle.sr_database_history.specs.Folds.{state_of, books_of}
use Rattle.sr_database_history.specs.Recorded.{Recorded}
use Rattle.sr_catalog_schema.specs.Catalogs.{Lists}
use Rattle.sr_catalog_schema.specs.Members.{user_name}
use Rattle.sr_site.specs.Happenings.{Happening, listed}
use Rattle.sr_site.specs.Listings.{Lists as ListsFirst}
use Rattle.sr_site.specs.declared.mail.Listing.{Listing}
use Rattle.sr_receive.specs.Acts.{ReceiveAct, PassState, stand_of, AreActs, IsAtRest, entries_of, taken_in, mail_after}
use Rattle.sr_receive_gather.specs.Bags.{filed_of}
use Rattle.sr_receive_gather.specs.Gathers.{fetches, reports_of}
use Rattle.sr_receive_gather.specs.Greatest.{has_gap, raises}
use Rattle.sr_receive_gather.specs.MessageFiles.{FetchedFile, MessageFile, IsFetchedFile, message_files_from, name_of}
use Rattle.sr_receive.specs.Passes.{act_reports, first_notes, gap_report, note_entries}
use Rattle.sr_receive_gather.specs.Purges.{dead, removals}
use Rattle.sr_receive_gather.specs.declared.bag.Filed.{Filed}
use Rattle.sr_agent.specs.Lines.{Line, received, report_lines}
use Rattle.sr_agent.specs.declared.partner.Partner.{Partner}

-- the partners of a history, in order of grant
abbrev pub partners : Name → List Recorded → List Name
partners publisher es = map user_name (state_of publisher es).catalog.users

-- ---- the mail

-- what was gathered: the names that the folder held, those that were listed, and what each of these was found to be
pub record Gathering : Type 0 where
  pub folder : List (List ℕ)
  pub listing : Listing
  pub fetched_files : List FetchedFile

-- each listed file was fetched once, in order, and is what it was found to be, by the catalog and the end of the log as they were then
pub record IsGathering (catalog : Lists) (end : ℕ) (g : Gathering) : Type 0 where
  pub lists : ListsFirst g.folder g.listing
  pub names : map name_of g.fetched_files ≡ g.listing.names
  pub are : AllByRecursion (IsFetchedFile catalog end) g.fetched_files

abbrev pub gathering_lines : Gathering → List Line
gathering_lines g = report_lines (reports_of g.listing.more g.fetched_files)

-- what happened to the mail then
abbrev pub gathering_mail : Name → Gathering → List Happening → List Happening
gathering_mail publisher g before = fetches publisher g.fetched_files (listed publisher g.folder (Ok g.listing) ∷ before)

-- ---- one partner's pass

-- a partner, and what was made of the windows of his message files, the newest first
pub record PartnerPass : Type 0 where
  pub user : Name
  pub acts : List ReceiveAct

abbrev pub message_files_of : List FetchedFile → PartnerPass → List MessageFile
message_files_of fetched_files t = message_files_from t.user fetched_files

abbrev pub files_of : List FetchedFile → PartnerPass → List Filed
files_of fetched_files t = map filed_of (message_files_of fetched_files t)

-- where a partner's pass begins: the state that the history comes to, and the offset of the partner's log up to which all is taken
abbrev pub beginning : Name → List Recorded → Name → PassState
beginning publisher es user = record { state = state_of publisher es; received = (books_of user es).log_received; dropped_windows = []; left = [] }

abbrev pub ending : Name → List Recorded → PartnerPass → PassState
ending publisher es t = stand_of (beginning publisher es t.user) t.acts

-- whether an ask is due for what lies past the offset up to which all is taken then
abbrev pub asks_in : Name → List Recorded → List FetchedFile → PartnerPass → Bool
asks_in publisher es fetched_files t = has_gap (ending publisher es t).received (files_of fetched_files t)

-- a partner's pass as it may be: each window is tried as the ones before left it, and none leads on at the end
pub record IsPartnerPass (publisher : Name) (es : List Recorded) (fetched_files : List FetchedFile) (t : PartnerPass) : Type 0 where
  pub are : AreActs publisher t.user (message_files_of fetched_files t) (beginning publisher es t.user) t.acts
  pub rest : IsAtRest (message_files_of fetched_files t) (ending publisher es t)

-- the entries that it adds: the notes of the greatest confirm and of the ask of the greatest count, the transactions that were taken, and the
-- note that something is missing
abbrev pub partner_pass_entries : Name → List Recorded → List FetchedFile → PartnerPass → List Recorded
partner_pass_entries publisher es fetched_files t =
    first_notes t.user (books_of t.user es) (files_of fetched_files t) ++ (entries_of t.user t.acts ++ note_entries t.user (raises (ending publisher es t).received (files_of fetched_files t)))

-- its lines: conflicts and clashes as they were taken, torn windows, how much was taken, and what was not reached
abbrev pub partner_pass_lines : Name → List Recorded → List FetchedFile → PartnerPass → List Line
partner_pass_lines publisher es fetched_files t =
    report_lines (act_reports t.user t.acts) ++ received t.user (taken_in t.acts) (ending publisher es t).received ∷ report_lines (gap_report t.user (ending publisher es t).received (files_of fetched_files t))

-- the files that are removed after it, where any are to be: the dead ones by the book with its entries
abbrev pub partner_pass_removals : Name → List Recorded → List FetchedFile → Bool → PartnerPass → List Happening → List Happening
partner_pass_removals publisher es fetched_files purge t before =
    if purge then removals publisher (dead (books_of t.user (es ++ partner_pass_entries publisher es fetched_files t)) (files_of fetched_files t)) before else before

-- what happens to the mail in it: files of windows are fetched again, and dead ones are removed
abbrev pub partner_pass_mail : Name → List Recorded → List FetchedFile → Bool → PartnerPass → List Happening → List Happening
partner_pass_mail publisher es fetched_files purge t before = partner_pass_removals publisher es fetched_files purge t (mail_after publisher t.acts before)

-- ---- partners' passes, each on the history with the entries of those before it

-- with the entries of one more
abbrev pub entries_with : Name → List Recorded → List FetchedFile → PartnerPass → List Recorded → List Recorded
entries_with publisher es fetched_files t added = added ++ partner_pass_entries publisher (es ++ added) fetched_files t

abbrev pub partner_passes_entries : Name → List Recorded → List FetchedFile → List PartnerPass → List Recorded
partner_passes_entries publisher es fetched_files [] = []
partner_passes_entries publisher es fetched_files (t ∷ earlier) = entries_with publisher es fetched_files t (partner_passes_entries publisher es fetched_files earlier)

-- the history that partners' passes leave
abbrev pub after_partner_passes : Name → List Recorded → List FetchedFile → List PartnerPass → List Recorded
after_partner_passes publisher es fetched_files partner_passes = es ++ partner_passes_entries publisher es fetched_files partner_passes

abbrev pub ArePartnerPasses : Name → List Recorded → List FetchedFile → List PartnerPass → Type 0
ArePartnerPasses publisher es fetched_files [] = ⊤
ArePartnerPasses publisher es fetched_files (t ∷ earlier) = ArePartnerPasses publisher es fetched_files earlier × IsPartnerPass publisher (after_partner_passes publisher es fetched_files earlier) fetched_files t

abbrev pub partner_passes_lines : Name → List Recorded → List FetchedFile → List PartnerPass → List Line
partner_passes_lines publisher es fetched_files [] = []
partner_passes_lines publisher es fetched_files (t ∷ earlier) = partner_passes_lines publisher es fetched_files earlier ++ partner_pass_lines publisher (after_partner_passes publisher es fetched_files earlier) fetched_files t

abbrev pub partner_passes_mail : Name → List Recorded → List FetchedFile → Bool → List PartnerPass → List Happening → List Happening
partner_passes_mail publisher es fetched_files purge [] before = before
partner_passes_mail publisher es fetched_files purge (t ∷ earlier) before = partner_pass_mail publisher (after_partner_passes publisher es fetched_files earlier) fetched_files purge t (partner_passes_mail publisher es fetched_files purge earlier before)

-- whose partners' passes they were, in order
abbrev pub users_in : List PartnerPass → List Name
users_in [] = []
users_in (t ∷ earlier) = users_in earlier ++ t.user ∷ []

-- and whether an ask is due for each
abbrev pub partners_in : Name → List Recorded → List FetchedFile → List PartnerPass → List Partner
partners_in publisher es fetched_files [] = []
partners_in publisher es fetched_files (t ∷ earlier) =
    partners_in publisher es fetched_files earlier ++ record { user = t.user; ask = asks_in publisher (after_partner_passes publisher es fetched_files earlier) fetched_files t } ∷ []
