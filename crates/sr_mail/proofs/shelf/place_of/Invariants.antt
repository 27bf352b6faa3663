use Rattle.std.proofs.Common.{◌≡◌, ◌≤◌, length, take, drop}
use Rattle.sr_mail.specs.Inner.Shelves.{AllBefore}
use Rattle.sr_mail.proofs.shelf.place_of.Given as goal

abbrev pub invariant-windows : goal.invariant-windows
invariant-windows l = record {
  within : l.place ≤ length l.windows;
  left : l.left ≡ drop l.place l.windows;
  before : AllBefore (take l.place l.windows) l.window;
}

abbrev pub decreases-windows : goal.decreases-windows
decreases-windows l = length l.left
