use Rattle.sr_session.specs.Inner.Faults.{fault_of_stop}
use Rattle.sr_session_script.specs.Meaning.{synchronized}
use Rattle.sr_session.specs.Inner.Ready.{work_of}
use Rattle.sr_session.proofs.Results.{took_err}
use Rattle.sr_session.proofs.Synced.{not_refused, synced_stop, synced_entry}
use Rattle.sr_session.proofs.synchronizing.synchronize.Goals as goal

pub returns-in_err-accept : goal.returns-in_err-accept
returns-in_err-accept g c =
    let view = c.args.db.now in
    let seen = g.S.Held.seen c.args.site.now in
    let why = c.in_err-accept.field-0.0 in
    record {
      took = λ region.
          took_err (synchronized c.args.rule.now (work_of view region)) view view seen seen c.args.lines.now.items c.args.lines.now.items region (fault_of_stop why) c.from_residual.result c.from_residual.ensures.1
          (synced_stop view seen c.args.lines.now.items region c.catalog.result.now c.args.stmt.now c.args.rule.now why c.requires.ready.usable c.catalog.ensures.catalog c.requires.stmt c.in_err-accept.ensures.meant);
    }

pub record_views-requires-clause-accepted : goal.record_views-requires-clause-accepted
record_views-requires-clause-accepted g c =
    not_refused c.catalog.result.now c.args.db.now.catalog c.args.stmt.now c.args.rule.now c.catalog.ensures.catalog c.requires.stmt c.in_ok-accept.ensures.meant

pub returns : goal.returns
returns g c = record {
  took = λ region.
      synced_entry c.args.db.now c.record_views.new.db (g.S.Held.seen c.args.site.now) (g.S.Held.seen c.record_views.new.site) c.args.lines.now.items c.record_views.new.lines.items region c.catalog.result.now c.args.stmt.now c.args.rule.now
      c.record_views.result c.catalog.ensures.catalog c.requires.stmt c.in_ok-accept.ensures.meant (c.record_views.ensures.took region);
}
