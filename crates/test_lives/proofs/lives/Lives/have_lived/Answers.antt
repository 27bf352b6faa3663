use Rattle.std.proofs.Common.{subst}
use Rattle.test_lives.specs.Inner.Lives.{HaveOneWorld, LivesSoFar, offices_of}
use Rattle.test_lives.proofs.Living.{one_world}
use Rattle.test_lives.proofs.lives.Lives.have_lived.Goals as goal

pub returns : goal.returns
returns c =
    let inside : LivesSoFar =
    record { above = c.self.inside.above; below = c.self.inside.below; mail = c.self.inside.mail; put = c.self.inside.put; places = c.self.inside.places } in
    record { world = subst (λ (l : LivesSoFar). HaveOneWorld (offices_of l) l.put l.places) c.self.view_is (one_world inside c.self.invariant) }
