use Rattle.std.proofs.Common.{vec_len}
use Rattle.sr_parse.proofs.Normals.{NormalSoFar}
use Rattle.sr_parse.proofs.normal.normal.Given as goal

abbrev pub invariant-columns : goal.invariant-columns
invariant-columns l = NormalSoFar l.key l.fn.written.items l.left.items l.columns.items

abbrev pub decreases-columns : goal.decreases-columns
decreases-columns l = vec_len l.left
