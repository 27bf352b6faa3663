use Rattle.std.proofs.Common.{sym}
use Rattle.sr_ast.specs.Exprs.{term_of}
use Rattle.sr_eval.specs.Inner.Bounds.{columns_of, values_of}
use Rattle.sr_eval.proofs.Sources.{row_of_all}
use Rattle.sr_eval.proofs.Typed.{gives_no_truth}
use Rattle.sr_eval.proofs.evaluation.eval_over.Goals as goal

pub returns-in-Some-Judged : goal.returns-in-Some-Judged
returns-in-Some-Judged c =
    let found = rw c.in-Some-Judged.field-0-is at (sym c.in-Some-Judged.ensures.meaning) in
    absurd (gives_no_truth (columns_of c.args.sources.now) (values_of c.args.sources.now) (term_of c.args.expr.now) _ found (row_of_all c.args.sources.now c.requires.fit) c.requires.typed)
