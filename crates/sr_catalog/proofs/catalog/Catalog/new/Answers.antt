use Rattle.sr_catalog.proofs.Spelling.{spelled_at_first}
use Rattle.sr_catalog.proofs.catalog.Catalog.new.Goals as goal

pub invariant_of-result : goal.invariant_of-result
invariant_of-result c = spelled_at_first c.new.result c.args.publisher c.new.ensures.new
