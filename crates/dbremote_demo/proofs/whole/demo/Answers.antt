use Rattle.dbremote_demo.proofs.Telling.{ended_so}
use Rattle.dbremote_demo.proofs.whole.demo.Goals as goal

pub returns-in-Err-Run : goal.returns-in-Err-Run
returns-in-Err-Run g c =
    let stopped = rw c.in-Err-Run.field-0-is at c.in-Err-Run.ensures.stop in
    record {
      demonstrated = ended_so c.args.seed c.args.count c.in-Err-Run.line.items (g.O.Sink.seen c.args.output.now) (g.O.Sink.seen c.end.new.output) c.in-Err-Run.status c.end.result stopped
          c.end.ensures.written c.end.ensures.status;
    }
