use Rattle.std.proofs.Common.{◌≡◌, [], List, subst}
use Rattle.std.specs.Prelude.{◌≢◌}
use Rattle.sr_logform.specs.declared.change.Change.{Change}
use Rattle.sr_session.proofs.Transactions.{is_none, is_some, closed_none, closed_some}
use Rattle.sr_session.proofs.transaction.close.Goals as goal

pub returns-then-is_empty : goal.returns-then-is_empty
returns-then-is_empty g c =
    let none : c.args.db.now.pending ≡ [] = subst (λ (l : List Change). l ≡ []) c.pending.ensures.pending (is_none c.pending.result.now c.if-is_empty.ensures) in
    record {
      took = λ region.
          closed_none c.args.db.now (g.S.Held.seen c.args.site.now) c.args.lines.now.items c.args.lines.now.items region c.requires.ready.usable (λ i. c.args.lines.now.items) none;
    }

pub returns : goal.returns
returns g c =
    let some : c.args.db.now.pending ≢ [] = subst (λ (l : List Change). l ≢ []) c.pending.ensures.pending (is_some c.pending.result.now c.if-is_empty.ensures) in
    record {
      took = λ region.
          closed_some c.args.db.now c.commit_pending.new.db (g.S.Held.seen c.args.site.now) (g.S.Held.seen c.commit_pending.new.site) c.args.lines.now.items c.commit_pending.new.lines.items region c.commit_pending.result
          some (c.commit_pending.ensures.took region);
    }
