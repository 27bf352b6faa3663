use Rattle.std.proofs.Common.{rules, refl}
use Rattle.std.specs.Prelude.{IsTrue}
use Rattle.sr_memsite.specs.Inner.Meaning.{seen_of}
use Rattle.test_lives.proofs.Running.{has_run}
use Rattle.test_lives.proofs.office.run_on.Goals as goal

pub returns : goal.returns
returns c =
    let whole : IsTrue c.apart-disk.result.2.whole = search rules in
    record {
      ran =
          has_run c.args.office _ (seen_of c.with-site.result.site) c.run-status.new.site.site c.requires.whole c.with-site.ensures.seen refl c.run-status.ensures.stays c.run-status.ensures.steps
          c.apart-disk.ensures.disk whole c.apart-disk.ensures.are;
    }
