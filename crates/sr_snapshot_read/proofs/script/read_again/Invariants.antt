use Rattle.sr_snapshot_read.proofs.ScriptRead.{Repeating}
use Rattle.sr_snapshot_read.proofs.script.read_again.Given as goal

abbrev pub invariant-texts : goal.invariant-texts
invariant-texts g l = Repeating l.file l.script l.lines l.count l.left (g.S.Held.seen l.fn.site) (g.S.Held.seen l.site) l.fn.window l.window

abbrev pub decreases-texts : goal.decreases-texts
decreases-texts g l = l.left
