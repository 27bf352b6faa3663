use Rattle.std.proofs.Common.{sym, ◌∙◌}
use Rattle.sr_ast.specs.Statements.{is_ddl}
use Rattle.sr_catalog_change.specs.Changes.{refusal}
use Rattle.sr_snapshot_read.proofs.ScriptRead.{never_taken, none_refused}
use Rattle.sr_snapshot_read.proofs.script.is_accepted.Goals as goal

pub returns-then-not-is_ddl : goal.returns-then-not-is_ddl
returns-then-not-is_ddl c = record { accepted = never_taken (is_ddl c.args.stmt.now) _ (sym c.is_ddl.ensures ∙ c.if-not-is_ddl.true) }

pub returns : goal.returns
returns c = record {
  accepted = none_refused (is_ddl c.args.stmt.now) c.in_ok-fault.fault (refusal c.args.catalog.now c.args.stmt.now) c.is_none.result (sym c.is_ddl.ensures ∙ c.if-not-is_ddl.false) c.in_ok-fault.ensures.refusal c.is_none.ensures;
}
