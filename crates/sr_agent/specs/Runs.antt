-- A run of the agent as a whole: which passes it makes, and what it adds to the history, to the trace, to the mail and to the lines.
use Rattle.std.specs.Prelude.{◌≡◌, ℕ, Bool, true, false, List, [], ◌++◌, map, Option, Some, None}
use Rattle.sr_book.specs.Entries.{Name}
use Rattle.sr_database_history.specs.Folds.{state_of, end_of}
use Rattle.sr_database_history.specs.Recorded.{Recorded}
use Rattle.sr_receive_gather.specs.MessageFiles.{FetchedFile}
use Rattle.sr_site.specs.Happenings.{Happening}
use Rattle.sr_database_meaning.specs.Events.{Event, commit, commits}
use Rattle.sr_agent.specs.Deliveries.{Delivery, AreDeliveries, deliveries_events, deliveries_lines, sent_to}
use Rattle.sr_agent.specs.Lines.{Line}
use Rattle.sr_agent.specs.PartnerPasses.{Gathering, IsGathering, gathering_lines, gathering_mail, partners}
use Rattle.sr_agent.specs.PartnerPasses.{PartnerPass, ArePartnerPasses, partner_passes_entries, partner_passes_lines, partner_passes_mail, users_in, partners_in}
use Rattle.sr_agent.specs.declared.options.Options.{Options}
use Rattle.sr_agent.specs.declared.partner.Partner.{Partner}

-- what a run did: the mail that it gathered, if it did, the partners' passes of partners as it received, and what was sent to each; the newest first
pub record Run : Type 0 where
  pub gathered : Option Gathering
  pub partner_passes : List PartnerPass
  pub deliveries : List Delivery

abbrev pub nothing_done : Run
nothing_done = record { gathered = None; partner_passes = []; deliveries = [] }

-- what came: nothing where no mail was gathered
abbrev pub fetched_files_of : Option Gathering → List FetchedFile
fetched_files_of None = []
fetched_files_of (Some g) = g.fetched_files

abbrev pub lines_of : Option Gathering → List Line
lines_of None = []
lines_of (Some g) = gathering_lines g

abbrev pub mail_of : Name → Option Gathering → List Happening → List Happening
mail_of publisher None before = before
mail_of publisher (Some g) before = gathering_mail publisher g before

-- ---- what it adds

-- the entries of the receive pass
abbrev pub taken_entries : Name → List Recorded → Run → List Recorded
taken_entries publisher es run = partner_passes_entries publisher es (fetched_files_of run.gathered) run.partner_passes

-- the history that the receive pass leaves, on which messages are made
abbrev pub after_receiving : Name → List Recorded → Run → List Recorded
after_receiving publisher es run = es ++ taken_entries publisher es run

-- the files and notes of the send pass
abbrev pub sent_events : Name → List Recorded → Run → List Event
sent_events publisher es run = deliveries_events publisher (after_receiving publisher es run) run.deliveries

-- the trace: commits of the receive pass, partner by partner; then for each partner the files that were put, and their note
abbrev pub trace_of : Name → List Recorded → Run → List Event
trace_of publisher es run = map commit (taken_entries publisher es run) ++ sent_events publisher es run

-- the history that a run leaves
abbrev pub after_run : Name → List Recorded → Run → List Recorded
after_run publisher es run = es ++ commits (trace_of publisher es run)

-- the lines of the receive pass
abbrev pub received_lines : Name → List Recorded → Run → List Line
received_lines publisher es run = lines_of run.gathered ++ partner_passes_lines publisher es (fetched_files_of run.gathered) run.partner_passes

-- the lines: reports of the folder; for each partner what came of his message files; then for each what was sent to him
abbrev pub run_lines : Name → List Recorded → Run → List Line
run_lines publisher es run =
    lines_of run.gathered ++ (partner_passes_lines publisher es (fetched_files_of run.gathered) run.partner_passes ++ deliveries_lines publisher (after_receiving publisher es run) run.deliveries)

-- what happens to the mail in the receive pass
abbrev pub received_mail : Name → List Recorded → Bool → Run → List Happening → List Happening
received_mail publisher es purge run before = partner_passes_mail publisher es (fetched_files_of run.gathered) purge run.partner_passes (mail_of publisher run.gathered before)

-- ---- which passes it makes

-- a partner without an ask
abbrev pub quiet : Name → Partner
quiet user = record { user = user; ask = false }

-- the partners as the send pass finds them: an ask is due where the receive pass of this run raised one
abbrev pub asked : Bool → Name → List Recorded → Run → List Partner
asked false publisher es run = map quiet (partners publisher es)
asked true publisher es run = partners_in publisher es (fetched_files_of run.gathered) run.partner_passes

-- the receive pass, up to some partner
pub record IsReceiving (publisher : Name) (es : List Recorded) (run : Run) (users : List Name) : Type 0 where
  pub gathering : Gathering
  pub gathered_is : run.gathered ≡ Some gathering
  pub is : IsGathering (state_of publisher es).catalog (end_of es) gathering
  pub are : ArePartnerPasses publisher es gathering.fetched_files run.partner_passes
  pub whose : users_in run.partner_passes ≡ users

-- it is left out
pub record IsNotReceiving (run : Run) : Type 0 where
  pub gathered_is : run.gathered ≡ None
  pub none : run.partner_passes ≡ []

abbrev pub Receives : Bool → Name → List Recorded → Run → Type 0
Receives false publisher es run = IsNotReceiving run
Receives true publisher es run = IsReceiving publisher es run (partners publisher es)

-- the send pass, up to some partner
pub record IsSending (publisher : Name) (es : List Recorded) (limit : ℕ) (run : Run) (to : List Partner) : Type 0 where
  pub are : AreDeliveries publisher (after_receiving publisher es run) limit run.deliveries
  pub whom : sent_to run.deliveries ≡ to

abbrev pub Sends : Options → Bool → Name → List Recorded → Run → Type 0
Sends options false publisher es run = run.deliveries ≡ []
Sends options true publisher es run = IsSending publisher es options.length run (asked options.receive publisher es run)

-- a whole run: the receive pass for each partner in order of grant, and then the send pass for each; either is left out where it is not asked for
pub record IsRun (publisher : Name) (es : List Recorded) (options : Options) (run : Run) : Type 0 where
  pub receives : Receives options.receive publisher es run
  pub sends : Sends options options.send publisher es run
