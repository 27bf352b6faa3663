use Rattle.sr_publish.proofs.Sources.{one_source}
use Rattle.sr_publish.proofs.laws.one_article.Goals as goal

pub returns : goal.returns
returns c = record { source = one_source }
