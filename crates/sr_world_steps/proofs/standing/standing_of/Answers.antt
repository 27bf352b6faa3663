use Rattle.std.proofs.lemmas.List.{nil_from_length}
use Rattle.sr_world_steps.proofs.Following.{begun_new, next_fits, goes_on, ended}
use Rattle.sr_world_steps.proofs.standing.standing_of.Goals as goal

pub entries-init : goal.entries-init
entries-init c =
    begun_new c.args.publisher.now c.in_ok-name.name c.args.log.now c.new-catalog.result c.new-rows.result c.requires.some c.in_ok-name.ensures.equal c.new-catalog.ensures.new
    c.new-rows.ensures.rows c.new-rows.ensures.marked c.new-rows.ensures.trail

pub takes_effect-requires-clause-fits : goal.takes_effect-requires-clause-fits
takes_effect-requires-clause-fits c =
    next_fits c.args.publisher.now c.args.log.now c.entries.left.now c.in-Some.rest.now c.entries.catalog c.entries.rows c.in-Some.field-0-0.now c.entries.invariant
    c.in-Some.ensures.cases.0

pub entries-preserved : goal.entries-preserved
entries-preserved c =
    goes_on c.args.publisher.now c.args.log.now c.entries.left.now c.in-Some.rest.now c.entries.catalog c.takes_effect.new.catalog c.entries.rows c.takes_effect.new.rows
    c.in-Some.field-0-0.now c.entries.invariant c.in-Some.ensures.cases.0 c.in_ok-takes_effect.ensures.fresh c.in_ok-takes_effect.ensures.effect

pub returns : goal.returns
returns c = record {
  standing = ended c.args.publisher.now c.args.log.now c.entries.left.now c.entries.catalog c.entries.rows c.entries.invariant
      (nil_from_length c.entries.left.now c.in_default.ensures.cases);
}
