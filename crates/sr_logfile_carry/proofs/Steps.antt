-- Steps that change one file, one behind the other.
use Rattle.std.proofs.Common.{◌≡◌, ◌+◌, ℕ, Bool, true, List, [], ◌∷◌, ◌++◌, length, drop, refl, sym, ◌∙◌, ap, subst, append_assoc, arith}
use Rattle.std.proofs.lemmas.List.{append-nil, take_all, drop_all}
use Rattle.std.specs.Prelude.{IsTrue, Result, Ok, Err, IfErr, IsErrAnd}
use Rattle.sr_logfile_carry.proofs.Files.{replaced_again}
use Rattle.sr_logfile_carry.specs.Inner.Carrying.{HasNow, HasSettled, StepCause}
use Rattle.sr_logfile_carry.specs.Inner.Touching.{AreOn, HappenedOn, OnlyOn}
use Rattle.sr_logfile_carry.specs.declared.fault.CarryFault.{CarryFault}
use Rattle.sr_logfile_carry.specs.declared.fault.CarryFault.TheVariants.{Disk, Memory, Damaged}
use Rattle.sr_site.proofs.Images.{bytes_of-with_bytes, with_same}
use Rattle.sr_site.proofs.Others.{others_on, others_but}
use Rattle.sr_site.specs.Causes.{DiskStays, Rose}
use Rattle.sr_site.specs.Files.{Files, bytes_of, with_bytes, overwritten, OthersStay}
use Rattle.sr_site.specs.Happenings.{Happening, wrote, cut_to, synced}
use Rattle.sr_site.specs.Images.{MayLeave}
use Rattle.sr_site.specs.Inner.Growing.{disk_stays_on}
use Rattle.sr_site.specs.Seen.{Seen}
use Rattle.sr_site.specs.declared.file.File.{File}

-- ---- calls on one file

are_on_on : (file : File) (later more : List Happening) → AreOn file later → AreOn file more → AreOn file (later ++ more)
are_on_on file [] more one other = other
are_on_on file (step ∷ later) more one other = (one.0, are_on_on file later more one.1 other)

pub happened_on : (file : File) (before middle now : List Happening) → HappenedOn file before middle → HappenedOn file middle now → HappenedOn file before now
happened_on file before middle now one other =
    record {
      more = other.more ++ one.more;
      is = other.is ∙ ap (λ (h : List Happening). other.more ++ h) one.is ∙ sym (append_assoc other.more one.more before);
      on = are_on_on file other.more one.more other.on one.on;
    }

pub told_then : (file : File) (before now : Seen) → OnlyOn file before now → IsTrue before.observable → IsTrue now.observable
told_then file before now only told = subst (λ (b : Bool). IsTrue b) (sym only.stays.observable) told

pub told_before : (file : File) (before now : Seen) → OnlyOn file before now → IsTrue now.observable → IsTrue before.observable
told_before file before now only told = subst (λ (b : Bool). IsTrue b) only.stays.observable told

pub only_on : (file : File) (before middle now : Seen) → OnlyOn file before middle → OnlyOn file middle now → OnlyOn file before now
only_on file before middle now one other =
    record {
      stays = disk_stays_on before middle now one.stays other.stays;
      on = λ told. happened_on file before.happened middle.happened now.happened (one.on told) (other.on (told_then file before middle one told));
      others = λ told. others_on file before.files middle.files now.files (one.others told) (other.others (told_then file before middle one told));
    }

pub only_wrote : (file : File) (place : ℕ) (bytes after : List ℕ) (done : Bool) (before now : Seen) → DiskStays before now
    → (IsTrue before.observable → now.happened ≡ wrote file place bytes done after ∷ before.happened) → (IsTrue before.observable → OthersStay file before.files now.files) → OnlyOn file before now
only_wrote file place bytes after done before now stays is others =
    record { stays = stays; on = λ told. record { more = wrote file place bytes done after ∷ []; is = is told; on = (refl, tt) }; others = others }

pub only_cut : (file : File) (to : ℕ) (after : List ℕ) (done : Bool) (before now : Seen) → DiskStays before now
    → (IsTrue before.observable → now.happened ≡ cut_to file to done after ∷ before.happened) → (IsTrue before.observable → OthersStay file before.files now.files) → OnlyOn file before now
only_cut file to after done before now stays is others =
    record { stays = stays; on = λ told. record { more = cut_to file to done after ∷ []; is = is told; on = (refl, tt) }; others = others }

unchanged : (file : File) (old new : Files) → new ≡ old → OthersStay file old new
unchanged file old new same = others_but file old new (bytes_of old file) (same ∙ with_same old file)

pub only_synced : (file : File) (after : List ℕ) (done : Bool) (before now : Seen) → DiskStays before now
    → (IsTrue before.observable → now.happened ≡ synced file done after ∷ before.happened) → (IsTrue before.observable → now.files ≡ before.files) → OnlyOn file before now
only_synced file after done before now stays is same = record {
  stays = stays;
  on = λ told. record { more = synced file done after ∷ []; is = is told; on = (refl, tt) };
  others = λ told. unchanged file before.files now.files (same told);
}

-- a read is no happening
pub only_read : (file : File) (before now : Seen) → DiskStays before now → (IsTrue before.observable → now.happened ≡ before.happened) → (IsTrue before.observable → now.files ≡ before.files) → OnlyOn file before now
only_read file before now stays is same =
    record { stays = stays; on = λ told. record { more = []; is = is told; on = tt }; others = λ told. unchanged file before.files now.files (same told) }

-- ---- bytes

-- what is written at the end stands behind the rest
at_end : (old bytes : List ℕ) (place : ℕ) → place ≡ length old → overwritten old place bytes ≡ old ++ bytes
at_end old bytes place is =
    ap (λ (l : List ℕ). (l ++ bytes) ++ drop (place + length bytes) old) (take_all place old (omega (arith, is)))
    ∙ ap (λ (l : List ℕ). (old ++ bytes) ++ l) (drop_all (place + length bytes) old (omega (arith, is)))
    ∙ append-nil (old ++ bytes)

pub its_bytes : (file : File) (bytes : List ℕ) (before now : Seen) → HasNow file bytes before now → IsTrue before.observable → bytes_of now.files file ≡ bytes
its_bytes file bytes before now has told = ap (λ (f : Files). bytes_of f file) (has.files told) ∙ bytes_of-with_bytes before.files file bytes

-- the bytes are others by name
pub has_as : (file : File) (bytes more : List ℕ) (before now : Seen) → (IsTrue before.observable → bytes ≡ more) → HasNow file bytes before now → HasNow file more before now
has_as file bytes more before now is has = record { only = has.only; steady = has.steady; files = λ told. has.files told ∙ ap (λ (l : List ℕ). with_bytes before.files file l) (is told) }

-- what the last step left is what all of them left
pub has_on : (file : File) (bytes : List ℕ) (before middle now : Seen) → OnlyOn file before middle → middle.disk_faults ≡ before.disk_faults → HasNow file bytes middle now → HasNow file bytes before now
has_on file bytes before middle now only steady has = record {
  only = only_on file before middle now only has.only;
  steady = has.steady ∙ steady;
  files = λ told.
      has.files (told_then file before middle only told)
      ∙ ap (λ (f : Files). with_bytes f file bytes) (only.others told)
      ∙ replaced_again before.files file (bytes_of middle.files file) bytes;
}

-- a write at the end
pub has_written : (file : File) (place : ℕ) (bytes : List ℕ) (before now : Seen) → OnlyOn file before now → now.disk_faults ≡ before.disk_faults
    → (IsTrue before.observable → place ≡ length (bytes_of before.files file)) → (IsTrue before.observable → now.files ≡ with_bytes before.files file (overwritten (bytes_of before.files file) place bytes))
    → HasNow file (bytes_of before.files file ++ bytes) before now
has_written file place bytes before now only steady at written =
    record { only = only; steady = steady; files = λ told. written told ∙ ap (λ (l : List ℕ). with_bytes before.files file l) (at_end (bytes_of before.files file) bytes place (at told)) }

-- a sync behind it
pub settled_by : (file : File) (bytes : List ℕ) (before middle now : Seen) → HasNow file bytes before middle → OnlyOn file middle now → now.disk_faults ≡ middle.disk_faults → (IsTrue middle.observable → now.files ≡ middle.files)
    → (IsTrue middle.observable → now.happened ≡ synced file true (bytes_of middle.files file) ∷ middle.happened) → HasSettled file bytes before now
settled_by file bytes before middle now has only steady same happened = record {
  has = record {
    only = only_on file before middle now has.only only;
    steady = steady ∙ has.steady;
    files = λ told. same (told_then file before middle has.only told) ∙ has.files told;
  };
  settled = λ told image there.
      let left = subst (λ (h : List Happening). MayLeave now.first h image) (happened (told_then file before middle has.only told)) there in
      ap (λ (f : Files). bytes_of f file) left.2 ∙ bytes_of-with_bytes left.0 file (bytes_of middle.files file) ∙ its_bytes file bytes before middle has told;
}

-- it is settled behind steps before
pub settled_on : (file : File) (bytes more : List ℕ) (before middle now : Seen) → OnlyOn file before middle → middle.disk_faults ≡ before.disk_faults → (IsTrue before.observable → bytes ≡ more) → HasSettled file bytes middle now → HasSettled file more before now
settled_on file bytes more before middle now only steady is settled = record {
  has = has_as file bytes more before now is (has_on file bytes before middle now only steady settled.has);
  settled = λ told image there. settled.settled (told_then file before middle only told) image there ∙ is told;
}

-- ---- causes

-- why the last step gave nothing, behind those before
pub cause_on : (file : File) (before middle now : Seen) (fault : CarryFault) → OnlyOn file before middle → middle.disk_faults ≡ before.disk_faults → StepCause file middle now fault → StepCause file before now fault
cause_on file before middle now Disk only steady cause = (only_on file before middle now only cause.0, subst (λ (n : ℕ). Rose n now.disk_faults) steady cause.1)
cause_on file before middle now Memory only steady cause = cause
cause_on file before middle now (Damaged at) only steady cause = (only_on file before middle now only cause.0, λ told. cause.1 (told_then file before middle only told), cause.2 ∙ steady)

-- what holds of a fault holds of the answer that is it
pub if_fault : {T : Type 0} (holds : CarryFault → Type 0) (fault : CarryFault) (result : Result T CarryFault) → IsErrAnd result (λ e. e ≡ fault) → holds fault → IfErr result holds
if_fault holds fault (Ok x) is so = tt
if_fault holds fault (Err e) is so = subst holds (sym is) so

-- ---- a file that is begun anew

-- it was cut to nothing, and bytes were written
pub begun : (file : File) (bytes wanted : List ℕ) (before middle now : Seen) → OnlyOn file before middle → middle.disk_faults ≡ before.disk_faults → (IsTrue before.observable → middle.files ≡ with_bytes before.files file [])
    → OnlyOn file middle now → now.disk_faults ≡ middle.disk_faults → (IsTrue middle.observable → now.files ≡ with_bytes middle.files file (overwritten (bytes_of middle.files file) 0 bytes)) → bytes ≡ wanted → HasNow file wanted before now
begun file bytes wanted before middle now only_first steady_first empty only steady written is =
    let none : IsTrue before.observable → bytes_of middle.files file ≡ [] = λ told. ap (λ (f : Files). bytes_of f file) (empty told) ∙ bytes_of-with_bytes before.files file [] in
    has_as file (bytes_of middle.files file ++ bytes) wanted before now (λ told. ap (λ (l : List ℕ). l ++ bytes) (none told) ∙ is)
    (has_on file (bytes_of middle.files file ++ bytes) before middle now only_first steady_first
    (has_written file 0 bytes middle now only steady (λ told. sym (ap (λ (l : List ℕ). length l) (none (told_before file before middle only_first told)))) written))
