use Rattle.test_lives.proofs.Doing.{all_of_them}
use Rattle.test_lives.proofs.life.live.Goals as goal

pub returns : goal.returns
returns c = record {
  places =
      all_of_them _ _ _ _ _ _ _ _ c.in_ok-begun.ensures.none c.in_ok-come.ensures.places c.in_ok-clashed.ensures.places c.in_ok-left.ensures.places c.in_ok-regained.ensures.places
      c.in_ok-tabled.ensures.places c.in_ok-written.ensures.places c.in_ok-lives.ensures.places;
  world = c.have_lived.ensures.world;
}
