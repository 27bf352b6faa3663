-- A whole run, from its passes.
use Rattle.std.proofs.Common.{◌≡◌, ℕ, List, [], ◌++◌, map, sym, ap, ◌∙◌, append_assoc}
use Rattle.sr_book.specs.Entries.{Name}
use Rattle.sr_database.specs.Databases.{IsDatabase}
use Rattle.sr_database.specs.Views.{View}
use Rattle.sr_database_history.specs.Recorded.{Recorded}
use Rattle.sr_receive.specs.Passes.{AreSteady as IsSteady}
use Rattle.sr_site.specs.Happenings.{mail_in}
use Rattle.sr_site.specs.Seen.{Seen}
use Rattle.sr_database_meaning.specs.Events.{Event, commit, commits}
use Rattle.sr_database_meaning.specs.Traces.{Went}
use Rattle.sr_agent.specs.Lines.{Line}
use Rattle.sr_agent.specs.Removals.{RemovesInRun}
use Rattle.sr_agent.specs.Runs.{Run, Receives, after_receiving, asked, fetched_files_of, lines_of, received_mail, taken_entries}
use Rattle.sr_agent.specs.PartnerPasses.{partner_passes_lines}
use Rattle.sr_agent.specs.declared.options.Options.{Options}
use Rattle.sr_agent.specs.declared.partner.Partner.{Partner}
use Rattle.sr_agent.proofs.Joints.{commits-append, commits_of}

-- ---- after the receive pass, where the log began at a base

pub record Received (base : ℕ) (new : View) (before now : Seen) (publisher : Name) (es : List Recorded) (options : Options) (asks : List Partner) (lines : List Line) : Type 0 where
  pub run : Run
  pub none : run.deliveries ≡ []
  pub receives : Receives options.receive publisher es run
  pub database : IsDatabase new publisher (after_receiving publisher es run) now
  pub base_is : new.log.base ≡ base
  pub went : Went before now publisher es (map commit (taken_entries publisher es run))
  pub mail : mail_in now.happened ≡ received_mail publisher es options.purge run (mail_in before.happened)
  pub steady : IsSteady before now
  pub removals : RemovesInRun publisher before now
  pub asks_are : asks ≡ asked options.receive publisher es run
  pub lines_are : lines ≡ lines_of run.gathered ++ partner_passes_lines publisher es (fetched_files_of run.gathered) run.partner_passes

-- the history of commits and then of the items after them
pub history_is : (es added : List Recorded) (events : List Event) → (es ++ added) ++ commits events ≡ es ++ commits (map commit added ++ events)
history_is es added events =
    append_assoc es added (commits events)
    ∙ ap (λ (rs : List Recorded). es ++ rs) (ap (λ (rs : List Recorded). rs ++ commits events) (sym (commits_of added)) ∙ sym (commits-append (map commit added) events))
