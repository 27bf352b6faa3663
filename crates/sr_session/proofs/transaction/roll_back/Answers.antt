use Rattle.std.proofs.Common.{ap}
use Rattle.sr_session_script.specs.Meaning.{rolled}
use Rattle.sr_database.specs.Views.{View, committed}
use Rattle.sr_session.specs.Inner.Ready.{work_of}
use Rattle.sr_session.proofs.Results.{took_memory}
use Rattle.sr_session.proofs.Transactions.{rolled_back_step}
use Rattle.sr_session.proofs.transaction.roll_back.Goals as goal

pub returns-in_err-extend_from_slice : goal.returns-in_err-extend_from_slice
returns-in_err-extend_from_slice c = record {
  took = λ seen region.
      took_memory (rolled (work_of c.args.db.now region)) c.args.db.now seen c.args.lines.now.items c.extend_from_slice.new.self.items region c.from_residual.result c.from_residual.ensures.1 c.requires.usable
      c.in_err-extend_from_slice.ensures.items;
}

pub returns : goal.returns
returns c = record {
  took = λ seen region.
      rolled_back_step c.args.db.now c.rollback.new.self seen c.args.lines.now.items c.extend_from_slice.new.self.items region c.requires.usable (ap (λ (v : View). v.log) c.rollback.ensures.back)
      (ap (λ (v : View). v.pending) c.rollback.ensures.back) (ap (λ (v : View). committed v) c.rollback.ensures.back) c.rollback.ensures.value c.in_ok-extend_from_slice.ensures.items;
}
