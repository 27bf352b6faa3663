use Rattle.sr_database_history.specs.Recorded.{sync}
use Rattle.sr_database.specs.Views.{committed}
use Rattle.sr_session_script.specs.Meaning.{enters}
use Rattle.sr_session_script.specs.Synced.{views_of}
use Rattle.sr_session.specs.Inner.Ready.{work_of}
use Rattle.sr_session.proofs.Results.{took_memory}
use Rattle.sr_session.proofs.States.{shown, shown_committed}
use Rattle.sr_session.proofs.Synced.{can_sync, can_sync_some}
use Rattle.sr_session.proofs.synchronizing.record_views.Goals as goal

pub returns-in_err-entry : goal.returns-in_err-entry
returns-in_err-entry g c =
    let view = c.args.db.now in
    record {
      took = λ region.
          took_memory (enters (sync c.args.rule.now.user (views_of (committed view) c.args.rule.now)) (work_of view region)) view (g.S.Held.seen c.args.site.now) c.args.lines.now.items c.args.lines.now.items region
          c.from_residual.result c.from_residual.ensures.1 c.requires.ready.usable (λ i. c.args.lines.now.items);
    }

pub enter-requires-clause-entry : goal.enter-requires-clause-entry
enter-requires-clause-entry g c =
    let view = c.args.db.now in
    can_sync_some view c.args.rule.now (shown c.catalog.result.now c.rows.result.now) c.in_ok-entry.entry c.requires.pending
    (shown_committed view c.catalog.result.now c.rows.result.now c.requires.ready.sound c.requires.pending c.catalog.ensures.catalog c.rows.ensures.rows) c.requires.accepted c.in_ok-entry.ensures.entry
    c.in_ok-entry.ensures.short

pub returns : goal.returns
returns g c =
    let view = c.args.db.now in
    record {
      took = λ region.
          c.enter.ensures.took (sync c.args.rule.now.user (views_of (committed view) c.args.rule.now)) region
          (can_sync view c.args.rule.now (shown c.catalog.result.now c.rows.result.now) c.in_ok-entry.entry c.requires.pending
          (shown_committed view c.catalog.result.now c.rows.result.now c.requires.ready.sound c.requires.pending c.catalog.ensures.catalog c.rows.ensures.rows) c.requires.accepted c.in_ok-entry.ensures.entry
          c.in_ok-entry.ensures.short);
    }
