use Rattle.std.proofs.Common.{ℕ, subst, arith}
use Rattle.sr_site.specs.Files.{bytes_of}
use Rattle.sr_site.specs.Reads.{HasRead}
use Rattle.sr_logfile.proofs.Prefixes.{has_header}
use Rattle.sr_logfile.proofs.opening.base_of.Goals as goal

pub returns-in-Some-clause-header : goal.returns-in-Some-clause-header
returns-in-Some-clause-header g c told =
    let read = subst (λ (n : ℕ). HasRead (bytes_of (g.S.Held.seen c.args.site.now).files c.args.file) 0 17 n c.read_at.new.buffer) c.if-count-eq17.true (c.in_ok-count.ensures.read told) in
    has_header c.in-Some.base _ c.read_at.new.buffer read (omega arith) c.in-Some.ensures.some.0 c.in-Some.ensures.some.1
