use Rattle.std.proofs.Common.{◌≡◌, length, Some, None, refl, sym, ap, subst, ◌∙◌, arith}
use Rattle.std.proofs.lemmas.Bool.{eqb-true, eqb-false, iff_false}
use Rattle.sr_msgform.specs.Messages.{KeepsRules}
use Rattle.sr_msgform.proofs.Whole.{fields_found, read_is, reads_whole}
use Rattle.sr_msgform.proofs.reading.message_in.Goals as goal

pub returns-then-not-is_empty-clause-only : goal.returns-then-not-is_empty-clause-only
returns-then-not-is_empty-clause-only c = λ m h k e.
    let both = read_is m c.in-Ok.message c.args.bytes.now c.in-Ok.rest.now h e c.in-Ok.ensures in
    absurd (eqb-false (length c.in-Ok.rest.now) 0 (sym c.is_empty.ensures ∙ c.if-not-is_empty.true) (ap length both.1))

pub returns-then-not-keeps_rules-clause-only : goal.returns-then-not-keeps_rules-clause-only
returns-then-not-keeps_rules-clause-only c = λ m h k e.
    let both = read_is m c.in-Ok.message c.args.bytes.now c.in-Ok.rest.now h e c.in-Ok.ensures in
    absurd (iff_false c.keeps_rules.ensures c.if-not-keeps_rules.true (subst KeepsRules (sym both.0) k))

pub returns-else-not-keeps_rules-clause-found : goal.returns-else-not-keeps_rules-clause-found
returns-else-not-keeps_rules-clause-found c =
    let none : length c.in-Ok.rest.now ≡ 0 = eqb-true (length c.in-Ok.rest.now) 0 (sym c.is_empty.ensures ∙ c.if-not-is_empty.false) in
    let found = fields_found c.args.bytes.now c.in-Ok.message c.in-Ok.rest.now (λ i. omega (arith, c.type_inv.bytes i)) none c.in-Ok.ensures in
    (found.0, c.keeps_rules.ensures.0 c.if-not-keeps_rules.false, found.1)

pub returns-else-not-keeps_rules-clause-only : goal.returns-else-not-keeps_rules-clause-only
returns-else-not-keeps_rules-clause-only c = λ m h k e. ap (λ x. Some x) (read_is m c.in-Ok.message c.args.bytes.now c.in-Ok.rest.now h e c.in-Ok.ensures).0

pub returns-in-Err-Left-clause-only : goal.returns-in-Err-Left-clause-only
returns-in-Err-Left-clause-only c = λ m h k e. absurd (reads_whole m c.args.bytes.now c.in-Err-Left.field-0-0 h e (rw c.in-Err-Left.field-0-is at c.in-Err-Left.ensures))
