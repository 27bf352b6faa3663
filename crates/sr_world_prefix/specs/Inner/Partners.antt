-- What a run keeps of partners that are in step.
-- Here is what no contract of the program says by itself.
use Rattle.std.specs.Prelude.{List}
use Rattle.sr_book.specs.Entries.{Name}
use Rattle.sr_database_history.specs.Recorded.{Recorded}
use Rattle.sr_site.specs.Images.{RestsThroughout}
use Rattle.sr_site.specs.Seen.{Seen}
use Rattle.sr_world_prefix.specs.Partners.{ArePartners, StandInStep}

-- where a database, whose name and history come last, is in step with this partner, it is so at each moment, whatever a crash leaves then
abbrev pub StaysInStepWith : Name → List Recorded → Name → List Recorded → Seen → Seen → Type 0
StaysInStepWith user us publisher es before now = ArePartners publisher user es us → RestsThroughout (StandInStep publisher user us) before now
