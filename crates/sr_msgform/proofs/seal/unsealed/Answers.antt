use Rattle.std.proofs.Common.{◌≡◌, arith}
use Rattle.std.proofs.lemmas.Bool.{iff_false}
use Rattle.sr_msgform.proofs.Sealing.{sealed_parts}
use Rattle.sr_msgform.proofs.seal.unsealed.Goals as goal

pub returns-then-bytes-lt-DIGEST-clause-none : goal.returns-then-bytes-lt-DIGEST-clause-none
returns-then-bytes-lt-DIGEST-clause-none c = λ content e. let p = sealed_parts c.args.bytes.now content e in omega (arith, p.long)

pub returns-then-not-are_same-clause-none : goal.returns-then-not-are_same-clause-none
returns-then-not-are_same-clause-none c = λ content e.
    let p = sealed_parts c.args.bytes.now content e in
    let equal : c.split_at.result.1.now ≡ c.as_slice.result.now = cc (p.prefix, p.back) in
    iff_false c.are_same.ensures c.if-not-are_same.true equal
