use Rattle.std.proofs.Common.{◌≡◌, ◌≤◌, ◌++◌, length, IsTrue}
use Rattle.dbremote_command.specs.Limits.{most_script}
use Rattle.dbremote_command.proofs.stream.read_all.Given as goal

abbrev pub invariant-pieces : goal.invariant-pieces
invariant-pieces g l =
    let source = g.I.Source in
    record {
      told : (source.seen l.source).observable ≡ (source.seen l.fn.source).observable;
      steady : (source.seen l.source).faults ≡ (source.seen l.fn.source).faults;
      short : length l.text.items ≤ most_script;
      pieces : l.counter ≤ length l.text.items;
      buffer : length l.buffer.items ≡ 65536;
      text : IsTrue ((source.seen l.fn.source).observable) → (source.seen l.fn.source).left ≡ l.text.items ++ (source.seen l.source).left;
    }
