use Rattle.std.proofs.Common.{refl, sym, ap, subst, length}
use Rattle.sr_memsite.specs.Disks.{files_in}
use Rattle.sr_site.specs.Files.{Files}
use Rattle.sr_site.specs.Seen.{Seen}
use Rattle.dbremote_demo_draws.specs.Inner.Whole.{StandWhole}
use Rattle.dbremote_demo_draws.specs.Summaries.{ArePartsOf}
use Rattle.dbremote_demo_draws.proofs.parts.summed.Goals as goal

pub returns : goal.returns
returns c = record {
  summary = λ whole.
      let same = ap (λ (s : Seen). s.files) c.with-site.ensures.seen in
      record {
        parts = subst (λ (files : Files). ArePartsOf files (files_in c.args.demo_sites.r1) (files_in c.args.demo_sites.r2) (files_in c.args.demo_sites.r3) c.in_ok-parts.field-0) same
            (c.in_ok-parts.ensures.parts (subst StandWhole (sym same) whole.cons) whole.r1 whole.r2 whole.r3);
        statements_are = refl;
        put = ap length c.puts.ensures.puts;
        lost_is = refl;
      };
}
