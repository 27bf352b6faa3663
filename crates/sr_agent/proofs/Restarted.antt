-- What every crash leaves while a log is begun anew before the passes of a run.
use Rattle.std.proofs.Common.{◌≡◌, ℕ, List, [], ap, inl}
use Rattle.sr_book.specs.Entries.{Name}
use Rattle.sr_database.specs.Databases.{IsDatabase}
use Rattle.sr_database.specs.Restarts.{BeginsAnew}
use Rattle.sr_database.specs.Views.{View}
use Rattle.sr_database_history.specs.Recorded.{Recorded}
use Rattle.sr_database_meaning.specs.Events.{attaches_in}
use Rattle.sr_database_meaning.specs.Restarts.{StandsAtEither}
use Rattle.sr_logfile.specs.Log.{Log}
use Rattle.sr_send_needs.specs.Needs.{least_need}
use Rattle.sr_site.specs.Causes.{DiskStays}
use Rattle.sr_site.specs.Happenings.{Happening}
use Rattle.sr_site.specs.Images.{RestsThroughout}
use Rattle.sr_site.specs.Seen.{Seen}
use Rattle.sr_agent.specs.Lines.{Line}
use Rattle.sr_agent.specs.Restarts.{IsUnmoved, RestartStop, restarting, searching, untold}
use Rattle.sr_agent.specs.declared.fault.AgentFault.{AgentFault}

-- where the log of a value begins
pub begins_where : {keep : ℕ} {old new : View} → BeginsAnew keep old new → new.log.base ≡ keep
begins_where anew = ap (λ (l : Log). l.base) anew.log

-- nothing happened
pub still_rests : (publisher : Name) (es : List Recorded) (keep : ℕ) (view : View) (before now : Seen) → IsDatabase view publisher es before → IsUnmoved before now
    → RestsThroughout (StandsAtEither publisher es view.log.base keep) before now
still_rests publisher es keep view before now database still = record { more = []; is = still.happened; moments = λ image there. inl (database.settled image there).stands }

module _ (publisher : Name) (es : List Recorded) (old new : View) (before now : Seen) (lines : List Line) (fault : AgentFault) where
  -- a run that ended before its passes
  pub stop_rests : IsDatabase old publisher es before → RestartStop publisher es old new before now lines fault
      → RestsThroughout (StandsAtEither publisher es old.log.base (least_need publisher es old.log.base)) before now
  stop_rests database (searching left still none why) = still_rests publisher es (least_need publisher es old.log.base) old before now database still
  stop_rests database (restarting part none) = part.moments
  stop_rests database (untold restart told sink) = restart.moments

  pub stop_stays : RestartStop publisher es old new before now lines fault → DiskStays before now
  stop_stays (searching left still none why) = still.stays
  stop_stays (restarting part none) = part.stays
  stop_stays (untold restart told sink) = restart.stays

  pub stop_attaches : RestartStop publisher es old new before now lines fault → attaches_in now.happened ≡ attaches_in before.happened
  stop_attaches (searching left still none why) = ap (λ (h : List Happening). attaches_in h) still.happened
  stop_attaches (restarting part none) = part.quiet.attached
  stop_attaches (untold restart told sink) = restart.quiet.attached
