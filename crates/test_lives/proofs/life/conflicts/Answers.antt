use Rattle.test_lives.proofs.life.conflicts.Goals as goal

pub returns : goal.returns
returns c = record { places = c.do_deeds.ensures.places }
