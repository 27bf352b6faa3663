use Rattle.std.proofs.Common.{◌≡◌, take}
use Rattle.sr_mail.specs.Inner.Spans.{spans_from}
use Rattle.sr_mail.proofs.covering.spans_of.Given as goal

abbrev pub invariant-loop-number : goal.invariant-loop-number
invariant-loop-number l = l.spans.items ≡ spans_from 0 (take l.number l.pieces)
