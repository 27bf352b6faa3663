use Rattle.std.proofs.Common.{◌≡◌, ◌<◌, ◌^◌, List, length, subst, ◌∙◌}
use Rattle.sr_database_history.specs.Recorded.{own}
use Rattle.sr_logform.specs.declared.change.Change.{Change}
use Rattle.sr_session_script.specs.Meaning.{enters}
use Rattle.sr_session.specs.Inner.Ready.{work_of}
use Rattle.sr_session.proofs.Commits.{took_none}
use Rattle.sr_session.proofs.Results.{took_memory}
use Rattle.sr_session.proofs.Transactions.{can_own, can_own_some, took_own}
use Rattle.sr_session.proofs.transaction.commit_pending.Goals as goal

pub returns-in_err-changes : goal.returns-in_err-changes
returns-in_err-changes g c = record {
  took = λ region.
      took_memory (enters (own c.args.db.now.pending) (work_of c.args.db.now region)) c.args.db.now (g.S.Held.seen c.args.site.now) c.args.lines.now.items c.args.lines.now.items region c.from_residual.result
      c.from_residual.ensures.1 c.requires.ready.usable (λ i. c.args.lines.now.items);
}

pub returns-in_default : goal.returns-in_default
returns-in_default g c = record {
  took = λ region.
      took_none (enters (own c.args.db.now.pending) (work_of c.args.db.now region)) c.args.db.now (g.S.Held.seen c.args.site.now) c.args.lines.now.items c.args.lines.now.items region c.requires.ready.usable
      (λ i. c.args.lines.now.items);
}

pub enter-requires-clause-entry : goal.enter-requires-clause-entry
enter-requires-clause-entry g c =
    can_own_some c.args.db.now c.in_ok-changes.changes (c.in_ok-changes.ensures.equal ∙ c.pending.ensures.pending)
    (subst (λ (l : List Change). length l < 2 ^ 32) c.as_slice.ensures.items c.in-Ok.ensures.0) c.pending.ensures.short c.requires.open

pub returns : goal.returns
returns g c =
    let same : c.in_ok-changes.changes ≡ c.args.db.now.pending = c.in_ok-changes.ensures.equal ∙ c.pending.ensures.pending in
    record {
      took = λ region.
          took_own c.args.db.now c.enter.new.db (g.S.Held.seen c.args.site.now) (g.S.Held.seen c.enter.new.site) c.args.lines.now.items c.enter.new.lines.items region c.enter.result c.in_ok-changes.changes same
          (c.enter.ensures.took (own c.in_ok-changes.changes) region
          (can_own c.args.db.now c.in_ok-changes.changes same (subst (λ (l : List Change). length l < 2 ^ 32) c.as_slice.ensures.items c.in-Ok.ensures.0) c.pending.ensures.short c.requires.open));
    }
