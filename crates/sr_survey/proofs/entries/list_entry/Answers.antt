use Rattle.std.proofs.Common.{[], ◌∷◌, sym, ap}
use Rattle.sr_survey.proofs.Listing.{listed_as}
use Rattle.sr_survey.specs.Inner.Concerning.{entry_keys}
use Rattle.sr_survey_places.specs.declared.key.Key.TheVariants as keyed
use Rattle.sr_survey.proofs.entries.list_entry.Goals as goal

pub returns-in_ok-list_one-in-Sync : goal.returns-in_ok-list_one-in-Sync
unfolding entry_keys
returns-in_ok-list_one-in-Sync c = record {
  listed = listed_as c.args.lists.now.lists c.list_one.new.lists.lists c.args.place (keyed.To c.in-Sync.to ∷ []) (entry_keys c.args.catalog.now c.args.entry.now) (ap (entry_keys c.args.catalog.now) (sym c.in-Sync.is))
      (c.in_ok-list_one-in-Sync.ensures.listed (keyed.To c.in-Sync.to) (ap keyed.To c.in_ok-copy-in-Sync.ensures.equal));
}
