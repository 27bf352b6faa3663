use Rattle.sr_site.specs.Inner.Growing.{all_of_it, more_than}
use Rattle.sr_site.proofs.laws.what_happened_grows.Goals as goal

pub returns : goal.returns
returns c before now grows = more_than before now (grows before (all_of_it before))
