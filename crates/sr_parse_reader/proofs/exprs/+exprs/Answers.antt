use Rattle.std.proofs.Common.{rules, arith, ap, refl}
use Rattle.sr_ast.specs.Exprs.{term_of}
use Rattle.sr_parse_reader.proofs.Readings.{IsDeep-joined}
use Rattle.sr_parse_reader.proofs.Refusing.{shallower, part_at, chain_missed, chain_begun, chain_whole, chain_full, chain_next_missed, chain_next, sum_missed, against_full, against_missed, against_read, tested_full, tested_missed, tested_read, sum_alone, no_denial_reads, denial_missed, denial_read, denial_full, no_minus_reads, below_read, minus_full, minus_missed, minus_read, within_missed, within_open, within_read, within_full, named_reads, literal_reads}
use Rattle.sr_parse_reader.proofs.Parts.{cast, handed_mapped, no_memory_mapped, valued}
use Rattle.sr_parse_reader.proofs.Alone.{alone_read, alone_missed}
use Rattle.sr_parse_reader.proofs.Constants.{stayed}
use Rattle.sr_parse_reader.proofs.exprs.+exprs.Goals as goal

pub chain-more-init : goal.chain-more-init
chain-more-init t c = record { deep = c.in_ok-left.ensures.deep; reads = chain_begun c.args.level c.in_ok-left.left c.in_ok-left.ensures.reads; less = search rules }

pub chain-more-preserved : goal.chain-more-preserved
chain-more-preserved t c = record {
  deep = IsDeep-joined _ _ _ _ _ _ _ _ _ c.more.invariant.deep c.in_ok-right.ensures.deep c.inside.ensures.depth c.in_ok-left-2.ensures.term c.in_ok-left-2.ensures.depth (omega arith);
  reads = chain_next c.in_ok-right.right c.more.invariant.reads (search rules) (search rules) c.inside.ensures.depth c.inside.ensures.parentheses c.in_ok-right.ensures.reads c.in_ok-left-2.ensures.term;
  less = search rules;
}

pub chain-returns-in_err-operand-clause-reads : goal.chain-returns-in_err-operand-clause-reads
chain-returns-in_err-operand-clause-reads t c = handed_mapped _ c.from_residual.result (alone_missed c.args.level (c.if-is_alone.ensures.alone refl) c.requires.room.0 c.in_err-operand.ensures.reads) (search rules)

pub chain-returns-then-is_alone-clause-reads : goal.chain-returns-then-is_alone-clause-reads
chain-returns-then-is_alone-clause-reads t c = alone_read c.args.level c.in_ok-operand.operand (c.if-is_alone.ensures.alone refl) c.in_ok-operand.ensures.deep c.in_ok-operand.ensures.reads

pub chain-returns-in_err-left-clause-reads : goal.chain-returns-in_err-left-clause-reads
chain-returns-in_err-left-clause-reads t c = handed_mapped _ c.from_residual-in_err-left.result (chain_missed c.args.level c.in_err-left.ensures.reads) (search rules)

pub chain-returns-then-left-room-clause-reads : goal.chain-returns-then-left-room-clause-reads
chain-returns-then-left-room-clause-reads t c = chain_full c.in-Some.operator c.more.invariant.reads (search rules) c.more.invariant.deep c.if-left-room.true

pub chain-returns-in_err-right-clause-reads : goal.chain-returns-in_err-right-clause-reads
chain-returns-in_err-right-clause-reads t c = handed_mapped _ c.from_residual-in_err-right.result (chain_next_missed c.in-Some.operator c.more.invariant.reads (search rules) (search rules) (shallower c.more.invariant.deep c.if-left-room.false) c.inside.ensures.depth c.inside.ensures.parentheses c.in_err-right.ensures.reads) (search rules)

pub chain-returns-in_err-left-2-clause-reads : goal.chain-returns-in_err-left-2-clause-reads
chain-returns-in_err-left-2-clause-reads t c = no_memory_mapped _ c.from_residual-in_err-left-2.result (search rules)

pub chain-returns-clause-reads : goal.chain-returns-clause-reads
chain-returns-clause-reads t c = chain_whole c.more.left c.more.invariant.reads (search rules) c.more.invariant.deep

pub part-returns-in-Or-clause-reads : goal.part-returns-in-Or-clause-reads
part-returns-in-Or-clause-reads t c = part_at c.chain.result c.in-Or.is c.chain.ensures.reads

pub part-returns-in-And-clause-reads : goal.part-returns-in-And-clause-reads
part-returns-in-And-clause-reads t c = part_at c.negation.result c.in-And.is c.negation.ensures.reads

pub part-returns-in-Sum-clause-reads : goal.part-returns-in-Sum-clause-reads
part-returns-in-Sum-clause-reads t c = part_at c.chain-in-Sum.result c.in-Sum.is c.chain-in-Sum.ensures.reads

pub part-returns-in-Product-clause-reads : goal.part-returns-in-Product-clause-reads
part-returns-in-Product-clause-reads t c = part_at c.signed.result c.in-Product.is c.signed.ensures.reads

pub comparison-returns-in_err-left-clause-reads : goal.comparison-returns-in_err-left-clause-reads
comparison-returns-in_err-left-clause-reads t c = handed_mapped _ c.from_residual.result (sum_missed c.in_err-left.ensures.reads) (search rules)

pub comparison-returns-then-left-room-clause-reads : goal.comparison-returns-then-left-room-clause-reads
comparison-returns-then-left-room-clause-reads t c = against_full c.in_ok-left.left c.in-Some.operator c.in_ok-left.ensures.reads (search rules) c.in_ok-left.ensures.deep c.if-left-room.true

pub comparison-returns-in_err-right-clause-reads : goal.comparison-returns-in_err-right-clause-reads
comparison-returns-in_err-right-clause-reads t c = handed_mapped _ c.from_residual-in_err-right.result (against_missed c.in_ok-left.left c.in-Some.operator c.in_ok-left.ensures.reads (search rules) (search rules) (shallower c.in_ok-left.ensures.deep c.if-left-room.false) c.inside.ensures.depth c.inside.ensures.parentheses c.in_err-right.ensures.reads) (search rules)

pub comparison-returns-in_err-whole-clause-reads : goal.comparison-returns-in_err-whole-clause-reads
comparison-returns-in_err-whole-clause-reads t c = no_memory_mapped _ c.from_residual-in_err-whole.result (search rules)

pub comparison-returns-in-Some-clause-reads : goal.comparison-returns-in-Some-clause-reads
comparison-returns-in-Some-clause-reads t c = against_read c.in_ok-left.left c.in_ok-right.right c.in_ok-whole.whole c.in_ok-left.ensures.reads (search rules) (search rules) (shallower c.in_ok-left.ensures.deep c.if-left-room.false) c.inside.ensures.depth c.inside.ensures.parentheses c.in_ok-right.ensures.reads c.in_ok-whole.ensures.term

pub comparison-returns-then-left-room-2-clause-reads : goal.comparison-returns-then-left-room-2-clause-reads
comparison-returns-then-left-room-2-clause-reads t c = tested_full c.in_ok-left.left c.in_ok-left.ensures.reads (c.if-is_keyword.ensures.found refl) c.in_ok-left.ensures.deep c.if-left-room-2.true

pub comparison-returns-in_err-operator-clause-reads : goal.comparison-returns-in_err-operator-clause-reads
comparison-returns-in_err-operator-clause-reads t c = handed_mapped _ c.from_residual-in_err-operator.result (tested_missed c.in_ok-left.left c.in_ok-left.ensures.reads (search rules) (shallower c.in_ok-left.ensures.deep c.if-left-room-2.false) c.in_err-operator.ensures.reads) (search rules)

pub comparison-returns-in_err-whole-2-clause-reads : goal.comparison-returns-in_err-whole-2-clause-reads
comparison-returns-in_err-whole-2-clause-reads t c = no_memory_mapped _ c.from_residual-in_err-whole-2.result (search rules)

pub comparison-returns-then-is_keyword-clause-reads : goal.comparison-returns-then-is_keyword-clause-reads
comparison-returns-then-is_keyword-clause-reads t c = tested_read c.in_ok-left.left c.in_ok-whole-2.whole c.in_ok-left.ensures.reads (search rules) (shallower c.in_ok-left.ensures.deep c.if-left-room-2.false) c.in_ok-operator.ensures.reads c.in_ok-whole-2.ensures.term

pub comparison-returns-clause-reads : goal.comparison-returns-clause-reads
comparison-returns-clause-reads t c = sum_alone c.in_ok-left.left c.in_ok-left.ensures.reads (search rules) (c.if-is_keyword.ensures.absent refl)

pub negation-returns-in_err-compared-clause-reads : goal.negation-returns-in_err-compared-clause-reads
negation-returns-in_err-compared-clause-reads t c = handed_mapped _ c.from_residual.result (cast (no_denial_reads (c.if-not-is_keyword.ensures.absent refl)) c.in_err-compared.ensures.reads) (search rules)

pub negation-returns-then-not-is_keyword-clause-reads : goal.negation-returns-then-not-is_keyword-clause-reads
negation-returns-then-not-is_keyword-clause-reads t c = cast (no_denial_reads (c.if-not-is_keyword.ensures.absent refl)) c.in_ok-compared.ensures.reads

pub negation-returns-then-room-lt2-clause-reads : goal.negation-returns-then-room-lt2-clause-reads
negation-returns-then-room-lt2-clause-reads t c = denial_full (c.if-not-is_keyword.ensures.found refl) c.requires.room.0 c.if-room-lt2.true

pub negation-returns-in_err-operand-clause-reads : goal.negation-returns-in_err-operand-clause-reads
negation-returns-in_err-operand-clause-reads t c = handed_mapped _ c.from_residual-in_err-operand.result (denial_missed (search rules) c.inside.ensures.depth c.inside.ensures.parentheses c.in_err-operand.ensures.reads) (search rules)

pub negation-returns-in_err-whole-clause-reads : goal.negation-returns-in_err-whole-clause-reads
negation-returns-in_err-whole-clause-reads t c = no_memory_mapped _ c.from_residual-in_err-whole.result (search rules)

pub negation-returns-clause-reads : goal.negation-returns-clause-reads
negation-returns-clause-reads t c = denial_read c.in_ok-operand.operand c.in_ok-whole.whole (search rules) c.inside.ensures.depth c.inside.ensures.parentheses c.in_ok-operand.ensures.reads c.in_ok-whole.ensures.term

pub signed-returns-in_err-operand-clause-reads : goal.signed-returns-in_err-operand-clause-reads
signed-returns-in_err-operand-clause-reads t c = handed_mapped _ c.from_residual.result (cast (no_minus_reads (c.if-not-takes_sign.ensures.absent refl)) (stayed (c.if-not-takes_sign.ensures.kept refl) c.in_err-operand.ensures.reads)) (search rules)

pub signed-returns-then-not-takes_sign-clause-reads : goal.signed-returns-then-not-takes_sign-clause-reads
signed-returns-then-not-takes_sign-clause-reads t c = cast (no_minus_reads (c.if-not-takes_sign.ensures.absent refl)) (stayed (c.if-not-takes_sign.ensures.kept refl) c.in_ok-operand.ensures.reads)

pub signed-returns-in-Some-clause-reads : goal.signed-returns-in-Some-clause-reads
signed-returns-in-Some-clause-reads t c = below_read c.leaf.result c.requires.room.0 (c.if-not-takes_sign.ensures.found refl) (search rules) (search rules) (ap term_of c.leaf.ensures.expr)

pub signed-returns-then-room-lt2-clause-reads : goal.signed-returns-then-room-lt2-clause-reads
signed-returns-then-room-lt2-clause-reads t c = minus_full c.requires.room.0 (c.if-not-takes_sign.ensures.found refl) (search rules) c.if-room-lt2.true

pub signed-returns-in_err-operand-2-clause-reads : goal.signed-returns-in_err-operand-2-clause-reads
signed-returns-in_err-operand-2-clause-reads t c = handed_mapped _ c.from_residual-in_err-operand-2.result (minus_missed c.requires.room.0 (c.if-not-takes_sign.ensures.found refl) (search rules) c.inside.ensures.depth c.inside.ensures.parentheses c.in_err-operand-2.ensures.reads) (search rules)

pub signed-returns-in_err-whole-clause-reads : goal.signed-returns-in_err-whole-clause-reads
signed-returns-in_err-whole-clause-reads t c = no_memory_mapped _ c.from_residual-in_err-whole.result (search rules)

pub signed-returns-clause-reads : goal.signed-returns-clause-reads
signed-returns-clause-reads t c = minus_read c.in_ok-operand-2.operand c.in_ok-whole.whole c.in_ok-operand-2.ensures.progress (c.if-not-takes_sign.ensures.found refl) (search rules) c.inside.ensures.depth c.inside.ensures.parentheses c.in_ok-operand-2.ensures.reads c.in_ok-whole.ensures.term

pub primary-returns-then-room-eq0-clause-reads : goal.primary-returns-then-room-eq0-clause-reads
primary-returns-then-room-eq0-clause-reads t c = within_full (c.if-is_sign.ensures.found refl) c.requires.room.0 c.if-room-eq0.true

pub primary-returns-in_err-inner-clause-reads : goal.primary-returns-in_err-inner-clause-reads
primary-returns-in_err-inner-clause-reads t c = handed_mapped _ c.from_residual.result (within_missed (search rules) (omega arith) refl refl c.in_err-inner.ensures.reads) (search rules)

pub primary-returns-in_err-sign-clause-reads : goal.primary-returns-in_err-sign-clause-reads
primary-returns-in_err-sign-clause-reads t c = handed_mapped _ c.from_residual-in_err-sign.result (within_open c.in_ok-inner.inner (search rules) (omega arith) refl refl c.in_ok-inner.ensures.reads c.in_err-sign.ensures.reads) (search rules)

pub primary-returns-then-is_sign-clause-reads : goal.primary-returns-then-is_sign-clause-reads
primary-returns-then-is_sign-clause-reads t c = within_read c.in_ok-inner.inner (search rules) (omega arith) refl refl c.in_ok-inner.ensures.reads c.in_ok-sign.ensures.reads

pub primary-returns-in_err-column-clause-reads : goal.primary-returns-in_err-column-clause-reads
primary-returns-in_err-column-clause-reads t c = handed_mapped _ c.from_residual-in_err-column.result (cast (named_reads (c.if-is_name.ensures.found refl).1 c.requires.room.0) c.in_err-column.ensures.reads) (search rules)

pub primary-returns-then-is_name-clause-reads : goal.primary-returns-then-is_name-clause-reads
primary-returns-then-is_name-clause-reads t c = cast (named_reads (c.if-is_name.ensures.found refl).1 c.requires.room.0) c.in_ok-column.ensures.reads

pub primary-returns-in_err-value-clause-reads : goal.primary-returns-in_err-value-clause-reads
primary-returns-in_err-value-clause-reads t c = handed_mapped _ c.from_residual-in_err-value.result (cast (literal_reads (c.if-is_sign.ensures.absent refl) (c.if-is_name.ensures.absent refl) c.requires.room.0) c.in_err-value.ensures.reads) (search rules)

pub primary-returns-clause-reads : goal.primary-returns-clause-reads
primary-returns-clause-reads t c = valued (ap term_of c.leaf.ensures.expr) (cast (literal_reads (c.if-is_sign.ensures.absent refl) (c.if-is_name.ensures.absent refl) c.requires.room.0) c.in_ok-value.ensures.reads)
