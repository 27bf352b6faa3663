-- An op carries one statement, and has one outcome.
use Rattle.std.proofs.Common.{◌≡◌, ℕ, Bool, List, Option, Some, None, refl, sym, ap, ◌∙◌}
use Rattle.sr_ast.specs.declared.stmt.Stmt.{Stmt}
use Rattle.sr_logform.specs.declared.op.Op.{Op}
use Rattle.sr_logform.specs.declared.op.Op.TheVariants as op
use Rattle.sr_logform.specs.declared.outcome.Outcome.{Outcome}
use Rattle.sr_parse.proofs.Prints.{prints_once}
use Rattle.sr_rows.specs.Marks.{RowMap}
use Rattle.sr_catalog_schema.specs.Catalogs.{Lists}
use Rattle.sr_resolve.specs.Judging.{judged, IsPrintedBy, IsStatementOf, IsJudged}

printed_once : (text : List ℕ) (a b : Option Stmt) → IsPrintedBy a text → IsPrintedBy b text → a ≡ b
printed_once text None None h k = refl
printed_once text None (Some s) h k = absurd (h s k)
printed_once text (Some s) None h k = absurd (k s h)
printed_once text (Some s) (Some t) h k = ap (λ x. Some x) (prints_once text s t h k)

pub one_statement : (o : Op) (a b : Option Stmt) → IsStatementOf a o → IsStatementOf b o → a ≡ b
one_statement (op.Insert table values) a b h k = h ∙ sym k
one_statement (op.Remove table key) a b h k = h ∙ sym k
one_statement (op.Set table key columns) a b h k = h ∙ sym k
one_statement (op.Clear table) a b h k = h ∙ sym k
one_statement (op.Exec text) a b h k = printed_once text a b h k

pub one_outcome : (catalog : Lists) (rows : RowMap) (above : Bool) (o : Op) (a b : Outcome) → IsJudged catalog rows above o a
    → IsJudged catalog rows above o b → a ≡ b
one_outcome catalog rows above o a b h k =
    h.outcome_is ∙ ap (judged catalog rows above o) (one_statement o h.statement k.statement h.carried k.carried) ∙ sym k.outcome_is
