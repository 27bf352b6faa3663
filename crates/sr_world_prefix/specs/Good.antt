-- Good histories: every entry says what is so, and every book is in order.
use Rattle.std.specs.Prelude.{⊤, List, [], ◌∷◌}
use Rattle.sr_book.specs.Entries.{Name}
use Rattle.sr_database_history.specs.Folds.{State, fresh, next}
use Rattle.sr_database_history.specs.Recorded.{Recorded}
use Rattle.sr_world_model.specs.Worlds.{IsInOrder}
use Rattle.sr_site.specs.Files.{Files}
use Rattle.sr_site.specs.Images.{IsSettled, RestsThroughout}
use Rattle.sr_site.specs.Seen.{Seen}
use Rattle.sr_world.specs.Lawful.{SaysSo}
use Rattle.sr_world.specs.Real.{layers}
use Rattle.sr_world_prefix.specs.Kept.{StandsKeeping}

-- what each entry says is so, in the state that those before it leave
abbrev pub AreSaid : State → List Recorded → Type 0
AreSaid s [] = ⊤
AreSaid s (r ∷ rs) = SaysSo s r × AreSaid (next s r) rs

-- a history of this publisher: each entry says what is so, and the book of every user is in order: he confirmed no more than was sent to him, which lies within
-- the log, no more was confirmed to him than was taken from him, and the counts of his asks rise
pub record IsGoodHistory (publisher : Name) (es : List Recorded) : Type 0 where
  pub says_so : AreSaid (fresh publisher) es
  pub books : (user : Name) → IsInOrder layers user es

-- files stand for such a history, and the log in force keeps what partners need
pub record StandGood (publisher : Name) (files : Files) : Type 0 where
  pub es : List Recorded
  pub stands : StandsKeeping publisher es files
  pub good : IsGoodHistory publisher es

-- where every crash leaves such a history, so it is at each moment
abbrev pub KeepsGood : Name → Seen → Seen → Type 0
KeepsGood publisher before now = IsSettled (StandGood publisher) before → RestsThroughout (StandGood publisher) before now
