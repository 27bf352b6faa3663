use Rattle.std.proofs.Common.{rules, arith}
use Rattle.std.proofs.lemmas.Grind.{common_steps}
use Rattle.sr_parse.proofs.Normals.{NormalSoFar-start, NormalSoFar-more, NormalSoFar-end, IsNormal-marked}
use Rattle.sr_parse.proofs.normal.normal.Goals as goal

pub columns-init : goal.columns-init
columns-init c = NormalSoFar-start _ _ _ _ (search rules) (search rules)

pub columns-preserved : goal.columns-preserved
columns-preserved c =
    NormalSoFar-more _ _ _ _ _ _ c.in-Some.column c.marked-marked.result c.columns.invariant (grind (arith, common_steps))
    (IsNormal-marked _ _ c.in-Some.column c.marked-marked.result c.in_ok-names.ensures.set c.marked-marked.ensures.name c.marked-marked.ensures.kind c.marked-marked.ensures.not_null) (grind (arith, common_steps))

pub returns : goal.returns
returns c = record { normal = NormalSoFar-end _ _ _ _ _ c.columns.invariant (grind (arith, common_steps)) (search rules) }
