-- So far the copies are the subscriptions that were passed.
use Rattle.std.proofs.Common.{◌≡◌, take}
use Rattle.sr_survey.proofs.surveying.copies.Given as goal

abbrev pub invariant-loop-subscription : goal.invariant-loop-subscription
invariant-loop-subscription l = l.items.items ≡ take l.subscription-index l.subscriptions
