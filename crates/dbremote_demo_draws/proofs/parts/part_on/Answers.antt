use Rattle.std.proofs.Common.{rules}
use Rattle.sr_database.specs.Inner.Views.{present}
use Rattle.sr_memsite.specs.Inner.Meaning.{seen_of}
use Rattle.dbremote_demo_draws.proofs.Parting.{base_at_zero, of_below}
use Rattle.dbremote_demo_draws.proofs.parts.part_on.Goals as goal

pub returns-in_ok-part-in-Ok : goal.returns-in_ok-part-in-Ok
returns-in_ok-part-in-Ok c = record {
  part = λ whole.
      let is = (c.in-Ok.ensures.stood (search rules) whole.publisher whole.es 0 whole.stands).0 in
      let same = c.in-Ok.ensures.files (search rules) in
      of_below c.in-Ok.below (seen_of c.open.new.site) (seen_of c.args.site.now).files whole is same c.in-Ok.ensures.ready.1 (present c.args.above.now) c.args.demo_site _
      (c.in_ok-part-in-Ok.ensures.part (base_at_zero c.in-Ok.below (seen_of c.open.new.site) (seen_of c.args.site.now).files whole is same) whole.publisher whole.es is);
}
