use Rattle.std.proofs.Common.{subst}
use Rattle.sr_database.specs.Views.{View}
use Rattle.sr_session_script.specs.Meaning.{executed}
use Rattle.sr_session.specs.Inner.Ready.{work_of}
use Rattle.sr_session.specs.Inner.Steps.{Took}
use Rattle.sr_session.proofs.rows.execute.Goals as goal

pub returns : goal.returns
returns c = record {
  took = λ seen region.
      subst (λ (v : View). Took (executed (work_of v region) c.args.stmt.now) v c.execute_reusing.new.db seen seen c.args.lines.now.items c.execute_reusing.new.lines.items region c.execute_reusing.result) c.spare-spare.ensures.same
      (c.execute_reusing.ensures.took seen region);
}
