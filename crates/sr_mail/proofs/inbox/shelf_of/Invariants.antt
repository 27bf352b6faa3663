use Rattle.std.proofs.Common.{◌-◌, ◌<◌, length, take}
use Rattle.sr_mail.specs.Inner.Shelves.{AllBefore, all_of}
use Rattle.sr_mail.proofs.inbox.shelf_of.Given as goal

abbrev pub invariant-shelves : goal.invariant-shelves
invariant-shelves l = record {
  within : l.at < length l.shelves;
  before : AllBefore (all_of (take l.at l.shelves)) l.window;
}

abbrev pub decreases-shelves : goal.decreases-shelves
decreases-shelves l = length l.shelves - l.at
