use Rattle.std.proofs.Common.{◌≡◌, rules}
use Rattle.dbremote_words.specs.Orders.{asked_of}
use Rattle.dbremote_words.proofs.Mays.{may_be_asked}
use Rattle.dbremote_words.proofs.words.asked_of.Goals as goal

pub returns-clause-may : goal.returns-clause-may
returns-clause-may c =
    let is : c.in_ok-asked.asked ≡ asked_of c.args.words.now = search rules in
    may_be_asked c.in_ok-asked.asked c.args.words.now is
