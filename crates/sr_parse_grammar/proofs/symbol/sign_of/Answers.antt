use Rattle.std.proofs.Common.{rules}
use Rattle.sr_parse_grammar.proofs.Words.{MayStand-start}
use Rattle.sr_parse_grammar.proofs.symbol.sign_of.Goals as goal

pub signs-init : goal.signs-init
signs-init c = MayStand-start _ _ (search rules)
