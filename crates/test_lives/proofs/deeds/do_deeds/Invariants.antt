use Rattle.std.proofs.Common.{◌≡◌, ◌++◌, take}
use Rattle.test_lives.specs.Inner.Deeds.{places_in}
use Rattle.test_lives.proofs.deeds.do_deeds.Given as goal

-- the runs of those so far are added
abbrev pub invariant-deeds : goal.invariant-deeds
invariant-deeds l = l.lives_now.places ≡ l.fn.lives.places ++ places_in (take l.deed-index l.deeds)
