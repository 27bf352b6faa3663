use Rattle.std.proofs.Common.{◌≡◌, length}
use Rattle.std.specs.Prelude.{IsTrue}
use Rattle.sr_site.specs.Streams.{OutputStays}
use Rattle.sr_session.specs.Said.{Said}
use Rattle.sr_session.proofs.saying.say.Given as goal

-- what was written so far, and what is left
abbrev pub invariant-pieces : goal.invariant-pieces
invariant-pieces g l = record {
  said : IsTrue ((g.O.Sink.seen l.fn.sink).observable) → Said l.fn.bytes l.rest ((g.O.Sink.seen l.fn.sink).taken) ((g.O.Sink.seen l.sink).taken);
  stays : OutputStays (g.O.Sink.seen l.fn.sink) (g.O.Sink.seen l.sink);
  steady : (g.O.Sink.seen l.sink).faults ≡ (g.O.Sink.seen l.fn.sink).faults;
}

abbrev pub decreases-pieces : goal.decreases-pieces
decreases-pieces g l = length l.rest
