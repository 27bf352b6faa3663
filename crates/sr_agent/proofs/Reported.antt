-- What the lines of a run tell of endures, wherever a fault ended it.
use Rattle.std.proofs.Common.{Bool, List, [], ◌∷◌, ◌++◌, sym, subst, inl, inr}
use Rattle.std.specs.Prelude.{IsTrue}
use Rattle.std.proofs.lemmas.List.{append-nil}
use Rattle.sr_book.specs.Entries.{Name}
use Rattle.sr_database.specs.Databases.{IsDatabase}
use Rattle.sr_database.specs.Views.{View}
use Rattle.sr_database_history.specs.Recorded.{Recorded}
use Rattle.sr_database_meaning.specs.Events.{Event, commits}
use Rattle.sr_database_meaning.specs.Traces.{Went}
use Rattle.sr_database_meaning.proofs.Going.{told_images, told_same}
use Rattle.sr_receive.specs.Entering.{Reached}
use Rattle.sr_receive_gather.specs.MessageFiles.{FetchedFile}
use Rattle.sr_session.specs.Reports.{Endures}
use Rattle.sr_session.proofs.Reports.{commits_endure, settled_endures}
use Rattle.sr_site.specs.Seen.{Seen}
use Rattle.sr_agent.specs.Lines.{Line}
use Rattle.sr_agent.specs.PartnerPasses.{partner_pass_entries}
use Rattle.sr_agent.specs.Stops.{PartnerPassStop, behind_message_files, in_message_files, told_in_pass}
use Rattle.sr_agent.specs.declared.fault.AgentFault.{AgentFault}
use Rattle.sr_agent.proofs.Ending.{partner_pass_stopped}
use Rattle.sr_agent.proofs.Joints.{settled_as}
use Rattle.sr_agent.proofs.Returned.{removed_settled}

-- from where a stretch began
pub went_endures : (before now : Seen) (publisher : Name) (es : List Recorded) (events : List Event) → Went before now publisher es events → Endures publisher es now
went_endures before now publisher es events went image there = elim (told_images before now publisher es events went image there) [
  | inl stands ↦ (commits events, stands)
  | inr lacks ↦ (commits lacks.others, lacks.stands)
]

pub observable_then : (before now : Seen) (publisher : Name) (es : List Recorded) (events : List Event) → Went before now publisher es events → IsTrue before.observable → IsTrue now.observable
observable_then before now publisher es events went told = subst (λ (b : Bool). IsTrue b) (sym (told_same before now publisher es events went).0) told

-- a database on its site, and no entry more
pub database_endures : (view : View) (publisher : Name) (es : List Recorded) (seen : Seen) → IsDatabase view publisher es seen → Endures publisher es seen
database_endures view publisher es seen database = settled_endures publisher es seen (settled_as view publisher es seen database)

pub nothing_told : (publisher : Name) (es : List Recorded) (seen : Seen) → Endures publisher es seen → Endures publisher (es ++ []) seen
nothing_told publisher es seen endures = subst (λ (rs : List Recorded). Endures publisher rs seen) (sym (append-nil es)) endures

-- entries of a pass
reached_endures : (old new : View) (before now : Seen) (entries broken : List Recorded) (publisher : Name) (es : List Recorded) → Reached old new before now entries broken → IsTrue before.observable
    → IsDatabase old publisher es before → Endures publisher (es ++ entries) now
reached_endures old new before now entries [] publisher es reached told database = database_endures new publisher (es ++ entries) now (reached.database told reached.state.0 publisher es database)
reached_endures old new before now entries (r ∷ []) publisher es reached told database = commits_endure before now publisher es entries r (reached.went told publisher es database)
reached_endures old new before now entries (r ∷ other ∷ rs) publisher es reached told database = absurd reached.state

-- a partner's pass that a fault ended, behind other lines
abbrev pub StopEndures : Name → List Recorded → List FetchedFile → Name → View → View → Seen → Seen → List Event → List Line → AgentFault → Bool → Type 0 → Type 0
StopEndures publisher es fetched_files user db new seen now events lines fault purge whole =
    (stop : PartnerPassStop publisher es fetched_files user db new seen now events lines fault purge whole) × Endures publisher (es ++ told_in_pass stop) now

pub stop_endures : (publisher : Name) (es : List Recorded) (fetched_files : List FetchedFile) (user : Name) (db new : View) (seen now : Seen) (events : List Event) (lines : List Line) (fault : AgentFault) (purge : Bool)
    (one all : Type 0) → (one → all) → IsTrue seen.observable → IsTrue now.observable → IsDatabase db publisher es seen → PartnerPassStop publisher es fetched_files user db new seen now events lines fault purge one
    → StopEndures publisher es fetched_files user db new seen now events lines fault purge all
stop_endures publisher es fetched_files user db new seen now events lines fault purge one all so told told_now database (in_message_files stop) =
    (in_message_files stop, reached_endures db new seen now stop.entries stop.begun publisher es stop.reached told database)
stop_endures publisher es fetched_files user db new seen now events lines fault purge one all so told told_now database (behind_message_files stop) =
    let there = es ++ partner_pass_entries publisher es fetched_files stop.partner_pass in (
      partner_pass_stopped publisher es fetched_files user db new seen now events lines fault purge one all so (behind_message_files stop),
      settled_endures publisher there now (removed_settled new publisher es there fetched_files stop.partner_pass stop.between now fault purge one told_now stop.database stop.removed),
    )
