use Rattle.std.proofs.Common.{arith}
use Rattle.sr_base.specs.Inner.NumberLaws.{rest_le}
use Rattle.sr_base.proofs.Formats.{prefix_of}
use Rattle.sr_base.proofs.reading.read_prefix.Goals as goal

pub overflow_sub-result : goal.overflow_sub-result
overflow_sub-result g c = (rest_le g.met.T.Field.format c.args.bytes.now (c.in-Ok.value, c.in-Ok.rest.now) (λ i. omega (arith, c.type_inv.bytes i)) c.in-Ok.ensures.exact).1

pub overflow_sub-result-in-Err-Left : goal.overflow_sub-result-in-Err-Left
overflow_sub-result-in-Err-Left g c = (g.met.T.Field.format.within c.args.bytes.now (λ i. omega (arith, c.type_inv.bytes i))).breaks c.in-Err-Left.left (rw c.in-Err-Left.field-0-is at c.in-Err-Left.ensures.exact)

pub returns-in-Ok-clause-found : goal.returns-in-Ok-clause-found
returns-in-Ok-clause-found g c = prefix_of g.met.T.Field.format c.args.bytes.now c.in-Ok.value c.in-Ok.rest.now (λ i. omega (arith, c.type_inv.bytes i)) c.in-Ok.ensures.exact

pub returns-in-Err-Left-clause-place : goal.returns-in-Err-Left-clause-place
returns-in-Err-Left-clause-place g c =
    let near = (g.met.T.Field.format.within c.args.bytes.now (λ i. omega (arith, c.type_inv.bytes i))).breaks c.in-Err-Left.left (rw c.in-Err-Left.field-0-is at c.in-Err-Left.ensures.exact) in
    (c.in-Err-Left.left, (rw c.in-Err-Left.field-0-is at c.in-Err-Left.ensures.exact), omega (arith, near))
