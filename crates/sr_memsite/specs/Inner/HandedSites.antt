-- What a site in memory is that is handed its folders.
-- Here is what no contract of the program says by itself.
use Rattle.sr_memsite.specs.Handing.{AreAsHappened, IsTruthful}
use Rattle.sr_memsite.specs.Inner.Meaning.{seen_of, folders_of}
use Rattle.sr_memsite.specs.declared.site.MemorySite.{MemorySite}

-- what lies in its folders is what happened to those that were handed to it, and each fetch since then gave what lay there
pub record HasHanded (site : MemorySite) : Type 0 where
  pub as_happened : AreAsHappened (seen_of site).happened (folders_of site)
  pub truthful : IsTruthful (seen_of site).happened
