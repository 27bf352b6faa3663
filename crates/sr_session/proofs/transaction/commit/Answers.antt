use Rattle.std.proofs.Common.{◌≡◌, [], List, subst}
use Rattle.std.specs.Prelude.{◌≢◌}
use Rattle.sr_logform.specs.declared.change.Change.{Change}
use Rattle.sr_session_script.specs.Meaning.{committed}
use Rattle.sr_session.specs.Inner.Ready.{work_of}
use Rattle.sr_session.proofs.Results.{took_memory}
use Rattle.sr_session.proofs.Transactions.{is_none, is_some, committed_none, committed_some}
use Rattle.sr_session.proofs.transaction.commit.Goals as goal

pub returns-in_err-extend_from_slice : goal.returns-in_err-extend_from_slice
returns-in_err-extend_from_slice g c = record {
  took = λ region.
      took_memory (committed (work_of c.args.db.now region)) c.args.db.now (g.S.Held.seen c.args.site.now) c.args.lines.now.items c.extend_from_slice.new.self.items region c.from_residual.result
      c.from_residual.ensures.1 c.requires.ready.usable c.in_err-extend_from_slice.ensures.items;
}

pub returns-then-is_empty : goal.returns-then-is_empty
returns-then-is_empty g c =
    let none : c.args.db.now.pending ≡ [] = subst (λ (l : List Change). l ≡ []) c.pending.ensures.pending (is_none c.pending.result.now c.if-is_empty.ensures) in
    record {
      took = λ region.
          committed_none c.args.db.now (g.S.Held.seen c.args.site.now) c.args.lines.now.items c.extend_from_slice.new.self.items region c.requires.ready.usable c.in_ok-extend_from_slice.ensures.items none;
    }

pub returns : goal.returns
returns g c =
    let some : c.args.db.now.pending ≢ [] = subst (λ (l : List Change). l ≢ []) c.pending.ensures.pending (is_some c.pending.result.now c.if-is_empty.ensures) in
    record {
      took = λ region.
          committed_some c.args.db.now c.commit_pending.new.db (g.S.Held.seen c.args.site.now) (g.S.Held.seen c.commit_pending.new.site) c.args.lines.now.items c.commit_pending.new.lines.items region c.commit_pending.result
          some (c.commit_pending.ensures.took region);
    }
