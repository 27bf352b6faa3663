use Rattle.sr_database.proofs.Settled.{still, rows_fit, fits_some, takes}
use Rattle.sr_database.proofs.settling.take_other.Goals as goal

pub takes_effect-requires : goal.takes_effect-requires
takes_effect-requires c = record {
  rows = rows_fit _ _ _ _ c.requires.pending c.requires.entry c.requires.other c.requires.fit;
  fresh = still _ _ _ _ c.requires.pending c.requires.entry c.requires.other;
  fits = fits_some _ _ _ _ c.requires.pending c.requires.entry c.requires.other;
}

pub returns-clause-takes : goal.returns-clause-takes
returns-clause-takes c = takes _ _ _ _ c.requires.pending c.requires.entry c.requires.other _ _ c.in_ok-takes_effect.ensures.effect c.in_ok-takes_effect.ensures.fresh
