-- What is in force while the other generation is written.
use Rattle.std.proofs.Common.{◌≡◌, ◌≢◌, List, [], ◌++◌, Bool, ℕ, refl, sym, ◌∙◌, ap, subst}
use Rattle.std.specs.Prelude.{IsTrue}
use Rattle.sr_database_meaning.proofs.Resting.{rests_end, rests_on}
use Rattle.sr_database_meaning.specs.Generations.{Generation, even, odd, snapshot_of, log_of, generation_of, other_of}
use Rattle.sr_database_restart.proofs.Beside.{beside, rests_each, stays_settled}
use Rattle.sr_database_restart.proofs.Quiet.{quiet, quiet_on}
use Rattle.sr_database_restart.specs.Inner.Generations.{IsLogFile}
use Rattle.sr_database_restart.specs.Inner.Restarting.{AgreesOn, KeepsInForce}
use Rattle.sr_database_restart.specs.Inner.Writing.{HasWritten, Touches, TouchesOther}
use Rattle.sr_logfile.specs.Inner.Logs.{IsAt}
use Rattle.sr_logfile.specs.Log.{Log}
use Rattle.sr_logfile.specs.Records.{Spells}
use Rattle.sr_logfile_carry.proofs.Files.{stays, other_bytes}
use Rattle.sr_logfile_carry.specs.Inner.Carrying.{IsReplaced}
use Rattle.sr_logfile_carry.specs.Inner.Touching.{HappenedOn}
use Rattle.sr_site.specs.Files.{Files, bytes_of, with_bytes, OthersStay}
use Rattle.sr_site.specs.Images.{KeepsOthers, RestsThroughout}
use Rattle.sr_site.specs.Inner.Growing.{disk_stays_on}
use Rattle.sr_site.specs.Seen.{Seen}
use Rattle.sr_site.specs.declared.file.File.{File}
use Rattle.sr_site.specs.declared.file.File.TheVariants.{Root, Log0, Log1, Snap0, Snap1}

-- ---- files of two generations

-- a file that is neither the root nor of the generation
pub record IsApart (generation : Generation) (file : File) : Type 0 where
  pub root : file ≢ Root
  pub snapshot : file ≢ snapshot_of generation
  pub log : file ≢ log_of generation

pub snapshot_apart : (generation : Generation) → IsApart generation (snapshot_of (other_of generation))
snapshot_apart even = record { root = λ e. cc; snapshot = λ e. cc; log = λ e. cc }
snapshot_apart odd = record { root = λ e. cc; snapshot = λ e. cc; log = λ e. cc }

pub log_apart : (generation : Generation) → IsApart generation (log_of (other_of generation))
log_apart even = record { root = λ e. cc; snapshot = λ e. cc; log = λ e. cc }
log_apart odd = record { root = λ e. cc; snapshot = λ e. cc; log = λ e. cc }

-- the log of the other generation is another file than the log, whichever that is
pub other_log : (file : File) → file ≢ log_of (other_of (generation_of file))
other_log Root = λ e. cc
other_log Log0 = λ e. cc
other_log Log1 = λ e. cc
other_log Snap0 = λ e. cc
other_log Snap1 = λ e. cc

pub log_not_snapshot : (generation : Generation) → log_of generation ≢ snapshot_of generation
log_not_snapshot even = λ e. cc
log_not_snapshot odd = λ e. cc

agrees_but : (generation : Generation) (file : File) (old image : Files) → IsApart generation file → OthersStay file old image → AgreesOn generation old image
agrees_but generation file old image apart others = record {
  root = stays file Root old image apart.root others;
  snapshot = stays file (snapshot_of generation) old image apart.snapshot others;
  log = stays file (log_of generation) old image apart.log others;
}

agrees_on : (generation : Generation) (old middle image : Files) → AgreesOn generation old middle → AgreesOn generation middle image → AgreesOn generation old image
agrees_on generation old middle image one other = record { root = other.root ∙ one.root; snapshot = other.snapshot ∙ one.snapshot; log = other.log ∙ one.log }

-- ---- moments

-- before anything happens
pub keeps_here : (generation : Generation) (before : Seen) → RestsThroughout (KeepsInForce generation before) before before
keeps_here generation before = record { more = []; is = refl; moments = λ image there. record { old = image; stood = there; agrees = record { root = refl; snapshot = refl; log = refl } } }

-- calls on a file of the other generation change nothing in force
pub keeps_on : (generation : Generation) (file : File) (before middle now : Seen) → IsApart generation file → middle.first ≡ before.first → RestsThroughout (KeepsInForce generation before) before middle
    → HappenedOn file middle.happened now.happened → RestsThroughout (KeepsInForce generation before) before now
keeps_on generation file before middle now apart first kept on =
    rests_on (KeepsInForce generation before) before middle now first kept
    (rests_each (KeepsOthers file middle) (KeepsInForce generation before) middle now (λ image beside. then_keeps image beside) (beside file middle now on))
  where
    then_keeps : (image : Files) → KeepsOthers file middle image → KeepsInForce generation before image
    then_keeps image beside =
        let was = rests_end (KeepsInForce generation before) before middle first kept beside.old beside.stood in
        record { old = was.old; stood = was.stood; agrees = agrees_on generation was.old beside.old image was.agrees (agrees_but generation file beside.old image apart beside.others) }

pub touches_here : (generation : Generation) (file : File) (before now : Seen) → IsApart generation file → Touches file before now → TouchesOther generation before now
touches_here generation file before now apart touches = record {
  stays = touches.stays;
  keeps = λ told. keeps_on generation file before before now apart refl (keeps_here generation before) (touches.on told);
  quiet = λ told. quiet file before.happened now.happened (touches.on told);
}

pub told_then : (generation : Generation) (before now : Seen) → TouchesOther generation before now → IsTrue before.observable → IsTrue now.observable
told_then generation before now touches told = subst (λ (b : Bool). IsTrue b) (sym touches.stays.observable) told

pub touches_on : (generation : Generation) (file : File) (before middle now : Seen) → IsApart generation file → TouchesOther generation before middle → Touches file middle now → TouchesOther generation before now
touches_on generation file before middle now apart first touches = record {
  stays = disk_stays_on before middle now first.stays touches.stays;
  keeps = λ told. keeps_on generation file before middle now apart first.stays.first (first.keeps told) (touches.on (told_then generation before middle first told));
  quiet = λ told. quiet_on before.happened middle.happened now.happened (first.quiet told) (quiet file middle.happened now.happened (touches.on (told_then generation before middle first told)));
}

-- ---- bytes

-- what a log has is in its own file
pub is_at_then : (log : Log) (position : ℕ) (done left : List (List ℕ)) (old new : Files) → bytes_of new log.file ≡ bytes_of old log.file → IsAt log position done left old → IsAt log position done left new
is_at_then log position done left old new same at = record {
  is_log = record { spells = subst (λ (bytes : List ℕ). Spells log.base (done ++ left) bytes) (sym same) at.is_log.spells; end_is = at.is_log.end_is };
  after_is = at.after_is;
}

-- the log in force stands where the snapshot of the other generation was written
pub log_stands : (file : File) (bytes : List ℕ) (before now : Seen) → IsLogFile file → IsReplaced (snapshot_of (other_of (generation_of file))) bytes before now → bytes_of now.files file ≡ bytes_of before.files file
log_stands file bytes before now is replaced =
    let apart = snapshot_apart (generation_of file) in
    ap (λ (f : Files). bytes_of f file) replaced.files ∙ other_bytes before.files (snapshot_of (other_of (generation_of file))) file bytes (λ e. apart.log (e ∙ is))

-- both files of the other generation
pub has_written : (generation : Generation) (snapshot log : List ℕ) (before middle now : Seen) → IsReplaced (snapshot_of (other_of generation)) snapshot before middle → IsReplaced (log_of (other_of generation)) log middle now
    → now.first ≡ middle.first → HappenedOn (log_of (other_of generation)) middle.happened now.happened → HasWritten generation snapshot log before now
has_written generation snapshot log before middle now one other first on = record {
  files = other.files ∙ ap (λ (f : Files). with_bytes f (log_of (other_of generation)) log) one.files;
  settled = λ image there. record {
    snapshot_is = stays_settled (log_of (other_of generation)) (snapshot_of (other_of generation)) snapshot middle now (log_not_snapshot (other_of generation)) first on one.settled image there;
    log_is = other.settled image there;
  };
}
