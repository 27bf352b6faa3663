use Rattle.std.proofs.Common.{◌≡◌, [], List, subst}
use Rattle.std.specs.Prelude.{◌≢◌}
use Rattle.sr_logform.specs.declared.change.Change.{Change}
use Rattle.sr_session.proofs.Stretches.{ran_closed, ran_open}
use Rattle.sr_session.proofs.Transactions.{is_none, is_some}
use Rattle.sr_session.proofs.running.run_to_end.Goals as goal

pub returns-then-is_empty : goal.returns-then-is_empty
returns-then-is_empty g c =
    let none : c.run_statements.new.db.pending ≡ [] = subst (λ (l : List Change). l ≡ []) c.pending.ensures.pending (is_none c.pending.result.now c.if-is_empty.ensures) in
    record {
      ran =
          ran_closed c.args.db.now c.run_statements.new.db (g.S.Held.seen c.args.site.now) (g.S.Held.seen c.run_statements.new.site) (g.O.Sink.seen c.args.sink.now) (g.O.Sink.seen c.run_statements.new.sink)
          c.run_statements.new.session.lines.items c.run_statements.new.session.region c.args.statements.now c.in_ok-run_statements.ensures.ran none;
    }

pub returns-in-Ok : goal.returns-in-Ok
returns-in-Ok g c =
    let some : c.run_statements.new.db.pending ≢ [] = subst (λ (l : List Change). l ≢ []) c.pending.ensures.pending (is_some c.pending.result.now c.if-is_empty.ensures) in
    record {
      ran =
          ran_open c.args.db.now c.run_statements.new.db (g.S.Held.seen c.args.site.now) (g.S.Held.seen c.run_statements.new.site) (g.O.Sink.seen c.args.sink.now) (g.O.Sink.seen c.run_statements.new.sink)
          c.run_statements.new.session.lines.items c.extend_from_slice.new.self.items c.run_statements.new.session.region c.args.statements.now c.in_ok-run_statements.ensures.ran some c.in-Ok.ensures.items;
    }
