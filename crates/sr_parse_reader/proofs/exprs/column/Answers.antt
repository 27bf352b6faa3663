use Rattle.std.proofs.Common.{rules, ap}
use Rattle.sr_ast.specs.Exprs.{term_of}
use Rattle.sr_parse_reader.specs.Inner.Productions.{Named}
use Rattle.sr_parse_reader.proofs.Parts.{recast, handed_mapped, valued}
use Rattle.sr_parse_reader.proofs.Constants.{column_of, column_to, column_back}
use Rattle.sr_parse_reader.proofs.exprs.column.Goals as goal

pub returns-in_err-table-clause-reads : goal.returns-in_err-table-clause-reads
returns-in_err-table-clause-reads c = handed_mapped _ c.from_residual.result (recast Named column_of column_to column_back c.in_err-table.ensures.reads) (search rules)

pub returns-clause-reads : goal.returns-clause-reads
returns-clause-reads c = valued (ap term_of c.leaf.ensures.expr) (recast Named column_of column_to column_back c.in_ok-table.ensures.reads)
