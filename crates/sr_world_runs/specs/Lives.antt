-- Many runs of many databases, as they were seen from outside: in the order of their last fetches, the newest first.
use Rattle.std.specs.Prelude.{◌≡◌, ◌≢◌, ◌⊎◌, ⊤, List, [], ◌∷◌, ◌++◌, map, Some, None, Ok, Err, Contains}
use Rattle.std.specs.List.{AllByRecursion}
use Rattle.sr_book.specs.Entries.{Name}
use Rattle.sr_database_history.specs.Recorded.{Recorded}
use Rattle.sr_world_model.specs.Worlds.{World, history, fresh_world}
use Rattle.sr_world_model.specs.Runs.{WorldRun, after_world_runs}
use Rattle.sr_msgform.specs.Messages.{IsMessage, message_spelling}
use Rattle.sr_msgform.specs.declared.message.Message.{Message}
use Rattle.sr_site.specs.Files.{Files}
use Rattle.sr_site.specs.Happenings.{Happening, attached, wrote, cut_to, synced, listed, fetched, sent, removed, handed_over}
use Rattle.sr_site.specs.Images.{IsImage, MayLeave}
use Rattle.sr_site.specs.Seen.{Seen}
use Rattle.sr_database_meaning.specs.Events.{PutFile, puts_in}
use Rattle.sr_world_untouched.specs.Untouched.{KeysAgree}
use Rattle.sr_world.specs.Real.{IsGoodWorld, AreRunsIn}
use Rattle.sr_world_runs.specs.Worlds.{MakesSteps, AreFiles, Rests}

-- a run of a database: its site before, and at its end; and what had happened where it broke off, which is all, where it did not. It keeps its contract
pub record SeenRun : Type 0 where
  pub owner : Name
  pub before : Seen
  pub now : Seen
  pub since : List Happening
  pub later : List Happening
  pub is : now.happened ≡ (later ++ since) ++ before.happened
  pub steps : (w : World Recorded) → MakesSteps w owner before now

-- the files that runs put until they broke off, the oldest first
abbrev pub put_by : List SeenRun → List PutFile
put_by [] = []
put_by (r ∷ earlier) = put_by earlier ++ puts_in r.since

-- what may be found of a database after runs: what its last one may have left, or what stood there at first
abbrev pub MayFind : (Name → Seen) → List SeenRun → Name → Files → Type 0
MayFind first [] d image = IsImage (first d) image
MayFind first (r ∷ earlier) d image =
    ((d ≡ r.owner) × MayLeave r.before.first (r.since ++ r.before.happened) image) ⊎ ((d ≢ r.owner) × MayFind first earlier d image)

-- what a fetch gave is one of these files, or no message
abbrev pub CameOf : List PutFile → Happening → Type 0
CameOf put_files (attached name folder done) = ⊤
CameOf put_files (wrote file place bytes done after) = ⊤
CameOf put_files (cut_to file to done after) = ⊤
CameOf put_files (synced file done after) = ⊤
CameOf put_files (listed address folder listing) = ⊤
CameOf put_files (fetched address name limit (Ok (Some bytes))) = Contains (map (λ (l : PutFile). l.2) put_files) bytes ⊎ ((m : Message) → IsMessage m → ¬ (bytes ≡ message_spelling m))
CameOf put_files (fetched address name limit (Ok None)) = ⊤
CameOf put_files (fetched address name limit (Err fault)) = ⊤
CameOf put_files (sent address name bytes done) = ⊤
CameOf put_files (removed address name done) = ⊤
CameOf put_files (handed_over folders noted) = ⊤

-- a run comes after others: it is of one of the databases, found what these left, and all that it fetched had been put by them, or is no message
pub record ComesBehind (names : List Name) (first : Name → Seen) (earlier : List SeenRun) (r : SeenRun) : Type 0 where
  pub named : Contains names r.owner
  pub found : (image : Files) → IsImage r.before image → MayFind first earlier r.owner image
  pub came : AllByRecursion (CameOf (put_by earlier)) (r.later ++ r.since)

abbrev pub AreLives : List Name → (Name → Seen) → List SeenRun → Type 0
AreLives names first [] = ⊤
AreLives names first (r ∷ earlier) = AreLives names first earlier × ComesBehind names first earlier r

-- whose runs they are, the oldest first
abbrev pub owners_of : List SeenRun → List Name
owners_of [] = []
owners_of (r ∷ earlier) = owners_of earlier ++ r.owner ∷ []

-- runs are runs of one world, in this order, from databases without entries: it is good, untouched keys agree in it, it has the messages that they put, and
-- what may be found of each database rests on its history in it
pub record HaveLived (names : List Name) (first : Name → Seen) (seen : List SeenRun) : Type 0 where
  pub runs : List (WorldRun Recorded)
  pub are : AreRunsIn (fresh_world names) runs
  pub owners : map (λ (r : WorldRun Recorded). r.owner) runs ≡ owners_of seen
  pub good : IsGoodWorld (after_world_runs (fresh_world names) runs)
  pub keys : KeysAgree (after_world_runs (fresh_world names) runs)
  pub put : AreFiles (put_by seen) (after_world_runs (fresh_world names) runs).messages
  pub spelled : AllByRecursion IsMessage (after_world_runs (fresh_world names) runs).messages
  pub rests : (d : Name) → Contains names d → Rests (after_world_runs (fresh_world names) runs).messages d (history (after_world_runs (fresh_world names) runs) d) (MayFind first seen d)
