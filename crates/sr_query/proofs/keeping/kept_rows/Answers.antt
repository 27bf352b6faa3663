use Rattle.std.proofs.Common.{List, sym, ap, ◌∙◌}
use Rattle.sr_exec_dml.specs.Inner.Edits.{prefixed}
use Rattle.sr_exec_dml.proofs.Fitted.{prefixed-none}
use Rattle.sr_query.specs.Combinations.{kept}
use Rattle.sr_query.specs.Inner.Candidates.{rows_left}
use Rattle.sr_query.specs.Inner.Walks.{found}
use Rattle.sr_query.specs.Sources.{conditions_of}
use Rattle.sr_query.specs.declared.joined.Combination.{Combination}
use Rattle.sr_query.proofs.keeping.kept_rows.Goals as goal

pub rows-init : goal.rows-init
rows-init c =
    let left = kept c.args.prepared.now.scope.now (conditions_of c.args.prepared.now.select.now) (rows_left c.in_ok-left.left) in
    ap (λ (cs : List Combination). prefixed (found cs) left) c.new-kept.ensures.items ∙ prefixed-none left ∙ sym c.in_ok-left.ensures.rows
