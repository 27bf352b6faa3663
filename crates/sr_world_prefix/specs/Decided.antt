-- What became of a partner's ops: as judging has it, in the state of the entries before.
use Rattle.std.specs.Prelude.{⊤, List, [], ◌∷◌}
use Rattle.sr_book.specs.Entries.{Name}
use Rattle.sr_database_history.specs.Folds.{State, fresh, next}
use Rattle.sr_database_history.specs.Recorded.{Recorded, own, taken, ddl, sync, pass, note}
use Rattle.sr_resolve.specs.Taking.{AreJudged, is_above}
use Rattle.sr_site.specs.Files.{Files}
use Rattle.sr_site.specs.Images.{IsSettled, RestsThroughout}
use Rattle.sr_site.specs.Seen.{Seen}
use Rattle.sr_database_meaning.specs.Standing.{StandsAs}

-- an entry that takes a transaction has of its ops the outcomes that judging gives, each in the state that those before it leave. From above an op
-- is applied as it comes; where one from below meets another value, the triggers decide. Other entries take nothing
abbrev pub IsDecided : State → Recorded → Type 0
IsDecided s (own changes) = ⊤
IsDecided s (taken user at dones) = AreJudged s (is_above s user) dones
IsDecided s (ddl statement) = ⊤
IsDecided s (sync user tables) = ⊤
IsDecided s (pass users only statement changes) = ⊤
IsDecided s (note user what) = ⊤

-- so it is of each entry, in the state that those before it leave
abbrev pub AreDecided : State → List Recorded → Type 0
AreDecided s [] = ⊤
AreDecided s (r ∷ rs) = IsDecided s r × AreDecided (next s r) rs

-- files stand for such a history of this publisher
pub record StandDecided (publisher : Name) (files : Files) : Type 0 where
  pub es : List Recorded
  pub stands : StandsAs publisher es files
  pub decided : AreDecided (fresh publisher) es

-- where every crash leaves such a history, so it is at each moment
abbrev pub KeepsDecided : Name → Seen → Seen → Type 0
KeepsDecided publisher before now = IsSettled (StandDecided publisher) before → RestsThroughout (StandDecided publisher) before now
