-- What a run of the agent promises.
use Rattle.std.specs.Prelude.{◌≡◌, ◌⊎◌, ⊤, ℕ, Bool, true, false, List, [], ◌∷◌, ◌++◌, IsTrue, IfOk, OnOk, Result, Ok, Err}
use Rattle.sr_book.specs.Entries.{Name}
use Rattle.sr_database.specs.Databases.{IsDatabase}
use Rattle.sr_database.specs.InForce.{HasLogInForce}
use Rattle.sr_database.specs.Views.{View}
use Rattle.sr_database_history.specs.Recorded.{Recorded}
use Rattle.sr_receive.specs.Passes.{AreSteady as IsSteady}
use Rattle.sr_session.specs.Reports.{Endures}
use Rattle.sr_site.specs.Causes.{Stays}
use Rattle.sr_site.specs.Happenings.{mail_in}
use Rattle.sr_site.specs.Seen.{Seen}
use Rattle.sr_site.specs.Streams.{Output}
use Rattle.sr_database_meaning.specs.Events.{Event}
use Rattle.sr_database_meaning.specs.Traces.{Went}
use Rattle.sr_agent.specs.Deliveries.{AreBased, with_puts}
use Rattle.sr_agent.specs.Ends.{Ended, HasTold}
use Rattle.sr_agent.specs.Lines.{Line, alarms, restarted}
use Rattle.sr_agent.specs.Removals.{RemovesInRun}
use Rattle.sr_agent.specs.Restarts.{HasRestarted, RestartStop}
use Rattle.sr_agent.specs.Runs.{Run, IsRun, after_run, received_lines, received_mail, run_lines, sent_events, trace_of}
use Rattle.sr_agent.specs.Stops.{StopsAt, told_entries}
use Rattle.sr_agent.specs.PartnerPasses.{PartnerPass}
use Rattle.sr_agent.specs.declared.fault.AgentFault.{AgentFault}
use Rattle.sr_agent.specs.declared.options.Options.{Options}

-- nothing happened to the mail but what the run did: one listing, and a fetch of each listed file; for each partner his second fetches and
-- removals; and then the puts
abbrev pub MailDone : Name → List Recorded → Options → Run → Seen → Seen → Type 0
MailDone publisher es options run before now =
    mail_in now.happened ≡ with_puts (sent_events publisher es run) (received_mail publisher es options.purge run (mail_in before.happened))

-- the database of a history, whose log begins at a base, is that of the history with what the run added, and its site went through the run's trace. The log
-- goes on to begin there, and from there all was sent
pub record CameSoFar (base : ℕ) (new : View) (before now : Seen) (publisher : Name) (es : List Recorded) (options : Options) (run : Run) : Type 0 where
  pub database : IsDatabase new publisher (after_run publisher es run) now
  pub went : Went before now publisher es (trace_of publisher es run)
  pub mail : MailDone publisher es options run before now
  -- no device failed on the way: the first fault ends a run
  pub steady : IsSteady before now
  -- each message file that was removed was done with, durably
  pub removals : RemovesInRun publisher before now
  pub base_is : new.log.base ≡ base
  pub based : AreBased base run.deliveries

-- ---- to the end, and not

-- the whole run
pub record RanWhole (base : ℕ) (new : View) (before now : Seen) (publisher : Name) (es : List Recorded) (options : Options) (lines : List Line) : Type 0 where
  pub run : Run
  pub is : IsRun publisher es options run
  pub came : CameSoFar base new before now publisher es options run
  pub lines_are : lines ≡ run_lines publisher es run

-- where partners had their partners' passes, these lines were written whole
abbrev pub AreTold : List PartnerPass → List Line → Output → Output → Type 0
AreTold [] lines written written' = ⊤
AreTold (t ∷ earlier) lines written written' = HasTold lines written written'

-- a fault ended it: the first steps of a run were done, and then what was begun of the next
pub record RanInPart (base : ℕ) (new : View) (before now : Seen) (written written' : Output) (publisher : Name) (es : List Recorded) (options : Options) (lines : List Line) (fault : AgentFault) : Type 0 where
  pub run : Run
  pub db : View
  pub seen : Seen
  pub came : CameSoFar base db before seen publisher es options run
  pub events : List Event
  pub told : List Line
  pub stops : StopsAt publisher es options run db new seen now events told fault (HasTold lines written written')
  pub went : Went before now publisher es (trace_of publisher es run ++ events)
  pub removals : RemovesInRun publisher before now
  pub lines_are : lines ≡ run_lines publisher es run ++ told
  -- whatever a crash leaves stands for a history that begins with the entries that the lines tell of
  pub reported : Endures publisher (after_run publisher es run ++ told_entries stops) now
  -- the lines of each partner's pass that was made were written whole, and all before them: only then are its dead files removed
  pub partner_passes_told : AreTold run.partner_passes (received_lines publisher es run) written written'

abbrev pub Did : ℕ → View → Seen → Seen → Output → Output → Name → List Recorded → Options → List Line → Result ℕ AgentFault → Type 0
Did base new before now written written' publisher es options lines (Ok count) = RanWhole base new before now publisher es options lines
Did base new before now written written' publisher es options lines (Err fault) = RanInPart base new before now written written' publisher es options lines fault

-- ---- the whole of it

-- the log was begun anew where the least need lies, that was told, and then the passes were made on the same history
pub record RestartedAndDid (old new : View) (before now : Seen) (written written' : Output) (publisher : Name) (es : List Recorded) (options : Options) (lines : List Line) (result : Result ℕ AgentFault) : Type 0 where
  pub between : View
  pub middle : Seen
  pub said : Output
  pub restart : HasRestarted publisher es old between before middle
  pub told : HasTold (restarted between.log.base ∷ []) written said
  pub stays : Stays middle now
  pub rest : List Line
  pub lines_are : lines ≡ restarted between.log.base ∷ rest
  pub did : Did between.log.base new middle now said written' publisher es options rest result

-- a fault may also come before the passes
abbrev pub DidAnew : View → View → Seen → Seen → Output → Output → Name → List Recorded → Options → List Line → Result ℕ AgentFault → Type 0
DidAnew old new before now written written' publisher es options lines (Ok count) = RestartedAndDid old new before now written written' publisher es options lines (Ok count)
DidAnew old new before now written written' publisher es options lines (Err fault) =
    RestartedAndDid old new before now written written' publisher es options lines (Err fault) ⊎ RestartStop publisher es old new before now lines fault

-- with the restart of the log, or without it
abbrev pub DidWhere : Bool → View → View → Seen → Seen → Output → Output → Name → List Recorded → Options → List Line → Result ℕ AgentFault → Type 0
DidWhere false old new before now written written' publisher es options lines result = Did old.log.base new before now written written' publisher es options lines result
DidWhere true old new before now written written' publisher es options lines result = DidAnew old new before now written written' publisher es options lines result

pub record RanAgent (old new : View) (before now : Seen) (written written' : Output) (options : Options) (result : Result ℕ AgentFault) : Type 0 where
  pub lines : List Line
  pub ended : Ended new before now written written' lines result
  pub count : IfOk result (λ n. n ≡ alarms lines)
  -- also where no history leads to the value
  pub in_force : OnOk result (IsTrue before.observable → HasLogInForce old before → HasLogInForce new now)
  pub did : IsTrue before.observable → (publisher : Name) (es : List Recorded) → IsDatabase old publisher es before → DidWhere options.restart old new before now written written' publisher es options lines result
