use Rattle.std.proofs.Common.{ℕ, ◌-◌, ◌^◌}
use Rattle.sr_mail.specs.Inner.Inboxes.{IsWholeWindow}
use Rattle.sr_mail.specs.Reaching.{IsFar}
use Rattle.sr_mail.proofs.inbox.Inbox.far.Given as goal

abbrev pub invariant-windows : goal.invariant-windows
invariant-windows l = (end : ℕ) → IsFar (IsWholeWindow l.self) l.far end → IsFar (IsWholeWindow l.self) l.fn.received.0 end

abbrev pub decreases-windows : goal.decreases-windows
decreases-windows l = 2 ^ 64 - l.far
