use Rattle.sr_catalog_laws.proofs.Sound.{sound_catalog}
use Rattle.sr_catalog_laws.proofs.keeping.catalogs_are_sound.Goals as goal

pub returns : goal.returns
returns c = record { sound = sound_catalog }
