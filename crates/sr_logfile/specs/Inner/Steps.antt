-- From one record of a log to the next.
use Rattle.std.specs.Prelude.{◌≡◌, ℕ, ◌+◌, ◌^◌, ◌≤◌, ◌<◌, List, [], ◌∷◌, ◌++◌, length, take}
use Rattle.sr_site.specs.Files.{Files}
use Rattle.sr_logfile.specs.declared.reading.Step.{Step}
use Rattle.sr_logfile.specs.declared.reading.Step.TheVariants.{End, Short, Record}
use Rattle.sr_logfile.specs.Log.{Log}
use Rattle.sr_logfile.specs.Inner.Logs.{IsAt}

-- the next record is longer than the buffer
pub record IsLonger (left : List (List ℕ)) (room need : ℕ) : Type 0 where
  pub body : List ℕ
  pub rest : List (List ℕ)
  pub left_is : left ≡ body ∷ rest
  pub need_is : need ≡ length body
  pub longer : room < need

-- the next record's body stands at the buffer's front, and the position `end` is behind it
pub record IsNext (log : Log) (after : ℕ) (done left : List (List ℕ)) (files : Files) (buffer : List ℕ) (end count : ℕ) : Type 0 where
  pub body : List ℕ
  pub rest : List (List ℕ)
  pub left_is : left ≡ body ∷ rest
  pub count_is : count ≡ length body
  pub prefix : take count buffer ≡ body
  pub end_is : end ≡ after + 5 + count
  pub goes_on : IsAt log end (done ++ body ∷ []) rest files

-- what `next` answers where these bodies are left
abbrev pub IsStep : Log → ℕ → List (List ℕ) → List (List ℕ) → Files → List ℕ → Step → Type 0
IsStep log after done left files buffer End = left ≡ []
IsStep log after done left files buffer (Short need) = IsLonger left (length buffer) need
IsStep log after done left files buffer (Record end count) = IsNext log after done left files buffer end.0 count × (count ≤ length buffer)

-- the bounds of what `next` answers, whatever the disk holds
abbrev pub StaysWithin : Log → ℕ → ℕ → Step → Type 0
StaysWithin log after room End = Unit {0}
StaysWithin log after room (Short need) = (room < need) × (need ≤ 2 ^ 26)
StaysWithin log after room (Record end count) = (1 ≤ count) × (count ≤ room) × (count ≤ 2 ^ 26) × (end.0 ≡ after + 5 + count) × (end.0 ≤ log.end)
