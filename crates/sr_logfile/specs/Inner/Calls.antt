-- The calls of the disk that make a log or append to it.
use Rattle.std.specs.Prelude.{◌≡◌, ℕ, ◌+◌, Bool, true, List, [], ◌∷◌, Result, OnOk, IsErrOf}
use Rattle.sr_logfile.specs.declared.fault.LogFault.{LogFault}
use Rattle.sr_logfile.specs.declared.fault.LogFault.TheVariants.{Damaged}
use Rattle.sr_site.specs.Files.{bytes_of}
use Rattle.sr_site.specs.Happenings.{synced}
use Rattle.sr_site.specs.Seen.{Seen}
use Rattle.sr_site.specs.Inner.Calls.{Call, write, cut, sync}
use Rattle.sr_site.specs.declared.file.File.{File}
use Rattle.sr_logfile.specs.Inner.Records.{fresh_bytes}

-- the calls of a commit: the framed record behind the gate, a sync, the open gate, a sync
abbrev pub commit_calls : File → ℕ → List ℕ → List Call
commit_calls file gate framed = write file (gate + 1) framed ∷ sync file ∷ write file gate (1 ∷ []) ∷ sync file ∷ []

-- the calls that make a log without records: a cut to nothing, the header and a closed gate, a sync
abbrev pub fresh_calls : File → ℕ → List Call
fresh_calls file base = cut file 0 ∷ write file 0 (fresh_bytes base) ∷ sync file ∷ []

-- one sync of the file happened, and it succeeded where anything was read: where a log was found, or damage
pub record HasSynced {T : Type 0} (file : File) (result : Result T LogFault) (before now : Seen) : Type 0 where
  pub done : Bool
  pub is : now.happened ≡ synced file done (bytes_of before.files file) ∷ before.happened
  pub found : OnOk result (done ≡ true)
  pub damaged : (at : ℕ) → IsErrOf result (Damaged at) → done ≡ true
