use Rattle.std.proofs.Common.{rules}
use Rattle.sr_database.specs.Inner.Views.{present}
use Rattle.sr_memsite.specs.Inner.Meaning.{seen_of}
use Rattle.dbremote_demo_draws.proofs.Parting.{base_at_zero, of_above}
use Rattle.dbremote_demo_draws.proofs.parts.parts_on.Goals as goal

pub returns-in_ok-r3-in-Ok : goal.returns-in_ok-r3-in-Ok
returns-in_ok-r3-in-Ok c = record {
  parts = λ whole whole_r1 whole_r2 whole_r3.
      let is = (c.in-Ok.ensures.stood (search rules) whole.publisher whole.es 0 whole.stands).0 in
      let same = c.in-Ok.ensures.files (search rules) in
      record {
        above = present c.in-Ok.above;
        of_cons = of_above c.in-Ok.above (seen_of c.open.new.site) (seen_of c.args.site.now).files whole is same c.in-Ok.ensures.ready.1 c.in_ok-cons-in-Ok.field-0
            (c.in_ok-cons-in-Ok.ensures.part (base_at_zero c.in-Ok.above (seen_of c.open.new.site) (seen_of c.args.site.now).files whole is same) whole.publisher whole.es is);
        of_r1 = c.in_ok-r1-in-Ok.ensures.part whole_r1;
        of_r2 = c.in_ok-r2-in-Ok.ensures.part whole_r2;
        of_r3 = c.in_ok-r3-in-Ok.ensures.part whole_r3;
      };
}
