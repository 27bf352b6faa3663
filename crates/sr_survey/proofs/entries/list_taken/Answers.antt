use Rattle.std.proofs.Common.{◌≡◌, true, false, refl}
use Rattle.std.specs.List.{list_any}
use Rattle.sr_survey.specs.Inner.Concerning.{has_run}
use Rattle.sr_survey.proofs.Listing.{taken_run, taken_told}
use Rattle.sr_survey_places.proofs.Listing.{on_ok}
use Rattle.sr_survey_places.specs.declared.key.Key.TheVariants as keyed
use Rattle.sr_survey.proofs.entries.list_taken.Goals as goal

pub returns-then-has_run : goal.returns-then-has_run
returns-then-has_run c =
    let run : list_any has_run c.args.ops.now ≡ true = cc in
    record { listed = taken_run c.args.lists.now.lists c.list_one.new.lists.lists c.args.place c.args.catalog.now c.args.from.now c.args.ops.now run (c.in_ok-list_one.ensures.listed keyed.Each refl) }

pub returns : goal.returns
returns c =
    let run : list_any has_run c.args.ops.now ≡ false = cc in
    record { listed = on_ok c.list_told.result c.list_told.ensures.listed (λ h. taken_told c.args.lists.now.lists c.list_told.new.lists.lists c.args.place c.args.catalog.now c.args.from.now c.args.ops.now run h) }
