-- What a run keeps of a partner.
use Rattle.std.specs.Prelude.{List}
use Rattle.sr_book.specs.Entries.{Name}
use Rattle.sr_database_history.specs.Recorded.{Recorded}
use Rattle.sr_site.specs.Images.{IsSettled, RestsThroughout}
use Rattle.sr_site.specs.Seen.{Seen}
use Rattle.sr_world_prefix.specs.Forging.{NoneForged}
use Rattle.sr_world_prefix.specs.Partners.{StandInStep}

-- where every crash leaves a history that goes with the partner's, and nothing is forged that is fetched of his, so it is at each moment
abbrev pub KeepsPartner : Name → Name → List Recorded → Seen → Seen → Type 0
KeepsPartner publisher user us before now =
    IsSettled (StandInStep publisher user us) before → NoneForged publisher user us before now → RestsThroughout (StandInStep publisher user us) before now
