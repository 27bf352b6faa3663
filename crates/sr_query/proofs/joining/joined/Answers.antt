use Rattle.std.proofs.Common.{sym}
use Rattle.sr_query.proofs.joining.joined.Goals as goal

pub returns-clause-fit : goal.returns-clause-fit
returns-clause-fit c = record {
  alias = c.alias_of.result.now;
  scope = c.in_ok-scope.ensures.scope;
  fits = c.requires.rows.each _ c.in-Some.table.now (sym c.in-Some.ensures.table);
}
