use Rattle.std.proofs.Common.{◌∙◌, rules}
use Rattle.std.specs.Option.{option_copied}
use Rattle.sr_database.specs.Inner.Views.{present}
use Rattle.dbremote_demo_draws.proofs.Parting.{differs}
use Rattle.dbremote_demo_draws.proofs.parts.part_of_entries.Goals as goal

pub returns : goal.returns
returns c = record {
  part = record {
    counted = c.in_ok-part.ensures.counted;
    differ = differs (present c.args.above.now) (present c.args.below.now) c.args.demo_site c.args.entries.now c.args.table.now _ _ _ c.requires.table (search rules) c.in_ok-own.ensures.keys
        (c.in_ok-part.ensures.differ ∙ c.in_ok-differ.ensures.differ);
  };
}
