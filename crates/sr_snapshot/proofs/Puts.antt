-- Pieces that are put one behind the other.
use Rattle.std.proofs.Common.{◌≡◌, ◌+◌, ℕ, Bool, List, [], ◌∷◌, ◌++◌, length, drop, refl, sym, ◌∙◌, ap, subst, append_assoc, length-append, arith}
use Rattle.std.proofs.lemmas.List.{append-nil, take_all, drop_all}
use Rattle.std.specs.Prelude.{IsTrue, Option, Some, None, Result, Ok, Err, IfErr, MatchOption, IsErrAnd}
use Rattle.sr_site.specs.Causes.{DiskStays, Rose}
use Rattle.sr_site.specs.Files.{Files, bytes_of, with_bytes, overwritten, OthersStay}
use Rattle.sr_site.specs.Happenings.{Happening, wrote, cut_to, synced}
use Rattle.sr_site.specs.Inner.Growing.{disk_stays_on}
use Rattle.sr_site.specs.Seen.{Seen}
use Rattle.sr_site.specs.declared.file.File.{File}
use Rattle.sr_site.specs.declared.file.File.TheVariants.{Root, Log0, Log1, Snap0, Snap1}
use Rattle.sr_snapshot.specs.Inner.Writing.{AreOn, HappenedOn, OnlyOn, HasPut, PutCause}
use Rattle.sr_snapshot.specs.declared.fault.SnapFault.{SnapFault}
use Rattle.sr_snapshot.specs.declared.fault.SnapFault.TheVariants.{Disk, Long, Damaged, Memory}

-- ---- calls on one file

are_on_on : (file : File) (later more : List Happening) → AreOn file later → AreOn file more → AreOn file (later ++ more)
are_on_on file [] more one other = other
are_on_on file (step ∷ later) more one other = (one.0, are_on_on file later more one.1 other)

happened_on : (file : File) (before middle now : List Happening) → HappenedOn file before middle → HappenedOn file middle now → HappenedOn file before now
happened_on file before middle now one other =
    record {
      more = other.more ++ one.more;
      is = other.is ∙ ap (λ (h : List Happening). other.more ++ h) one.is ∙ sym (append_assoc other.more one.more before);
      on = are_on_on file other.more one.more other.on one.on;
    }

pub told_then : (file : File) (before now : Seen) → OnlyOn file before now → IsTrue before.observable → IsTrue now.observable
told_then file before now only told = subst (λ (b : Bool). IsTrue b) (sym only.stays.observable) told

pub only_on : (file : File) (before middle now : Seen) → OnlyOn file before middle → OnlyOn file middle now → OnlyOn file before now
only_on file before middle now one other =
    record {
      stays = disk_stays_on before middle now one.stays other.stays;
      on = λ told. happened_on file before.happened middle.happened now.happened (one.on told) (other.on (told_then file before middle one told));
    }

pub only_wrote : (file : File) (place : ℕ) (bytes after : List ℕ) (done : Bool) (before now : Seen) → DiskStays before now
    → (IsTrue before.observable → now.happened ≡ wrote file place bytes done after ∷ before.happened) → OnlyOn file before now
only_wrote file place bytes after done before now stays is = record { stays = stays; on = λ told. record { more = wrote file place bytes done after ∷ []; is = is told; on = (refl, tt) } }

pub only_cut : (file : File) (to : ℕ) (after : List ℕ) (done : Bool) (before now : Seen) → DiskStays before now
    → (IsTrue before.observable → now.happened ≡ cut_to file to done after ∷ before.happened) → OnlyOn file before now
only_cut file to after done before now stays is = record { stays = stays; on = λ told. record { more = cut_to file to done after ∷ []; is = is told; on = (refl, tt) } }

pub only_synced : (file : File) (after : List ℕ) (done : Bool) (before now : Seen) → DiskStays before now
    → (IsTrue before.observable → now.happened ≡ synced file done after ∷ before.happened) → OnlyOn file before now
only_synced file after done before now stays is = record { stays = stays; on = λ told. record { more = synced file done after ∷ []; is = is told; on = (refl, tt) } }

same_stays : (before : Seen) → DiskStays before before
same_stays before = record { observable = refl; first = refl; grows = λ moment there. there; mail = refl; mail_faults = refl; later = omega arith }

pub only_nothing : (file : File) (before : Seen) → OnlyOn file before before
only_nothing file before = record { stays = same_stays before; on = λ told. record { more = []; is = refl; on = tt } }

-- ---- one file's bytes

pub its_bytes : (files : Files) (f : File) (bytes : List ℕ) → bytes_of (with_bytes files f bytes) f ≡ bytes
its_bytes files Root bytes = refl
its_bytes files Log0 bytes = refl
its_bytes files Log1 bytes = refl
its_bytes files Snap0 bytes = refl
its_bytes files Snap1 bytes = refl

pub as_it_is : (files : Files) (f : File) → OthersStay f files files
as_it_is files Root = refl
as_it_is files Log0 = refl
as_it_is files Log1 = refl
as_it_is files Snap0 = refl
as_it_is files Snap1 = refl

pub replaced_again : (files : Files) (f : File) (bytes more : List ℕ) → with_bytes (with_bytes files f bytes) f more ≡ with_bytes files f more
replaced_again files Root bytes more = refl
replaced_again files Log0 bytes more = refl
replaced_again files Log1 bytes more = refl
replaced_again files Snap0 bytes more = refl
replaced_again files Snap1 bytes more = refl

pub others_on : (file : File) (before middle now : Files) → OthersStay file before middle → OthersStay file middle now → OthersStay file before now
others_on file before middle now one other =
    other ∙ ap (λ (f : Files). with_bytes f file (bytes_of now file)) one ∙ replaced_again before file (bytes_of middle file) (bytes_of now file)

-- what is written at the end stands behind the rest
pub at_end : (old bytes : List ℕ) (place : ℕ) → place ≡ length old → overwritten old place bytes ≡ old ++ bytes
at_end old bytes place is =
    ap (λ (l : List ℕ). (l ++ bytes) ++ drop (place + length bytes) old) (take_all place old (omega (arith, is)))
    ∙ ap (λ (l : List ℕ). (old ++ bytes) ++ l) (drop_all (place + length bytes) old (omega (arith, is)))
    ∙ append-nil (old ++ bytes)

-- ---- pieces

-- nothing was put
pub put_nothing : (file : File) (seen : Seen) (waiting : List ℕ) (place : ℕ) → (IsTrue seen.observable → place ≡ length (bytes_of seen.files file)) → HasPut file [] seen seen waiting waiting place
put_nothing file seen waiting place at = record {
  only = only_nothing file seen;
  steady = refl;
  all = λ told. sym (append-nil (bytes_of seen.files file ++ waiting));
  others = λ told. as_it_is seen.files file;
  at = at;
}

-- a piece waits
pub put_waiting : (file : File) (seen : Seen) (waiting piece : List ℕ) (place : ℕ) → (IsTrue seen.observable → place ≡ length (bytes_of seen.files file)) → HasPut file piece seen seen waiting (waiting ++ piece) place
put_waiting file seen waiting piece place at = record {
  only = only_nothing file seen;
  steady = refl;
  all = λ told. sym (append_assoc (bytes_of seen.files file) waiting piece);
  others = λ told. as_it_is seen.files file;
  at = at;
}

-- a piece, and another one behind it
pub put_on : (file : File) (piece more : List ℕ) (before middle now : Seen) (w0 w1 w2 : List ℕ) (p1 p2 : ℕ) → HasPut file piece before middle w0 w1 p1 → HasPut file more middle now w1 w2 p2
    → HasPut file (piece ++ more) before now w0 w2 p2
put_on file piece more before middle now w0 w1 w2 p1 p2 one other = record {
  only = only_on file before middle now one.only other.only;
  steady = other.steady ∙ one.steady;
  all = λ told. other.all (told_then file before middle one.only told) ∙ ap (λ (l : List ℕ). l ++ more) (one.all told) ∙ append_assoc (bytes_of before.files file ++ w0) piece more;
  others = λ told. others_on file before.files middle.files now.files (one.others told) (other.others (told_then file before middle one.only told));
  at = λ told. other.at (told_then file before middle one.only told);
}

pub cause_on : (file : File) (piece : List ℕ) (before middle now : Seen) (w0 w1 : List ℕ) (p : ℕ) (fault : SnapFault) → HasPut file piece before middle w0 w1 p → PutCause file middle now fault → PutCause file before now fault
cause_on file piece before middle now w0 w1 p Disk one cause = (only_on file before middle now one.only cause.0, subst (λ (n : ℕ). Rose n now.disk_faults) one.steady cause.1)
cause_on file piece before middle now w0 w1 p (Long size limit) one cause = cause
cause_on file piece before middle now w0 w1 p (Damaged at) one cause = cause
cause_on file piece before middle now w0 w1 p Memory one cause = (only_on file before middle now one.only cause.0, cause.1 ∙ one.steady)

-- what waited was written
pub flushed : (file : File) (before now : Seen) (waited waiting : List ℕ) (place next : ℕ) → OnlyOn file before now → now.disk_faults ≡ before.disk_faults
    → (IsTrue before.observable → place ≡ length (bytes_of before.files file)) → (IsTrue before.observable → now.files ≡ with_bytes before.files file (overwritten (bytes_of before.files file) place waited))
    → (IsTrue before.observable → OthersStay file before.files now.files) → waiting ≡ [] → next ≡ place + length waited → HasPut file [] before now waited waiting next
flushed file before now waited waiting place next only steady at written others none far =
    let bytes : IsTrue before.observable → bytes_of now.files file ≡ bytes_of before.files file ++ waited =
    λ told. ap (λ (f : Files). bytes_of f file) (written told) ∙ its_bytes before.files file (overwritten (bytes_of before.files file) place waited) ∙ at_end (bytes_of before.files file) waited place (at told) in
    record {
      only = only;
      steady = steady;
      all = λ told. ap (λ (l : List ℕ). bytes_of now.files file ++ l) none ∙ ap (λ (l : List ℕ). l ++ []) (bytes told);
      others = others;
      at = λ told. omega (arith, far, at told, ap (λ (l : List ℕ). length l) (bytes told), length-append (bytes_of before.files file) waited);
    }

pub told_before : (file : File) (before now : Seen) → OnlyOn file before now → IsTrue now.observable → IsTrue before.observable
told_before file before now only told = subst (λ (b : Bool). IsTrue b) only.stays.observable told

-- where the next piece will stand
pub at_then : (file : File) (piece : List ℕ) (before now : Seen) (waited waiting : List ℕ) (place : ℕ) → HasPut file piece before now waited waiting place → IsTrue now.observable → place ≡ length (bytes_of now.files file)
at_then file piece before now waited waiting place put told = put.at (told_before file before now put.only told)

-- a field waited, and then what waits was written or not
pub put_field : (file : File) (piece : List ℕ) (before now : Seen) (w0 w1 w2 : List ℕ) (place next : ℕ) → (IsTrue before.observable → place ≡ length (bytes_of before.files file)) → w1 ≡ w0 ++ piece
    → HasPut file [] before now w1 w2 next → HasPut file piece before now w0 w2 next
put_field file piece before now w0 w1 w2 place next at is put =
    let waits : HasPut file piece before before w0 w1 place = subst (λ (w : List ℕ). HasPut file piece before before w0 w place) (sym is) (put_waiting file before w0 piece place at) in
    subst (λ (l : List ℕ). HasPut file l before now w0 w2 next) (append-nil piece) (put_on file piece [] before before now w0 w1 w2 place next waits put)

-- a field waited, and others were put behind it
pub put_behind : (file : File) (piece more : List ℕ) (before now : Seen) (w0 w1 w2 : List ℕ) (place next : ℕ) → (IsTrue before.observable → place ≡ length (bytes_of before.files file)) → w1 ≡ w0 ++ piece
    → HasPut file more before now w1 w2 next → HasPut file (piece ++ more) before now w0 w2 next
put_behind file piece more before now w0 w1 w2 place next at is put =
    let waits : HasPut file piece before before w0 w1 place = subst (λ (w : List ℕ). HasPut file piece before before w0 w place) (sym is) (put_waiting file before w0 piece place at) in
    put_on file piece more before before now w0 w1 w2 place next waits put

-- why a field did not wait: nothing happened
pub cause_memory : (file : File) (seen : Seen) → PutCause file seen seen Memory
cause_memory file seen = (only_nothing file seen, refl)

-- what holds of a fault holds of the answer that is it
pub if_fault : {T : Type 0} (holds : SnapFault → Type 0) (fault : SnapFault) (result : Result T SnapFault) → IsErrAnd result (λ e. e ≡ fault) → holds fault → IfErr result holds
if_fault holds fault (Ok x) is so = tt
if_fault holds fault (Err e) is so = subst holds (sym is) so

-- ---- lists

pub none_there : {A : Type 0} (o : Option A) (P : Type 0) (Q : A → Type 0) → ((x : A) → ¬ (o ≡ Some x)) → MatchOption o P Q → P
none_there None P Q none is = is
none_there (Some x) P Q none is = absurd (none x refl)

pub no_length : {A : Type 0} (xs : List A) → length xs ≡ 0 → xs ≡ []
no_length [] none = refl
no_length (x ∷ xs) none = absurd (omega (arith, none))

-- of the bytes that are to be put, these are left
pub record Putting (file : File) (all left : List ℕ) (before now : Seen) (waited waiting : List ℕ) (place : ℕ) : Type 0 where
  pub done : List ℕ
  pub put : HasPut file done before now waited waiting place
  pub parts : done ++ left ≡ all

pub putting_begin : (file : File) (all : List ℕ) (seen : Seen) (waited waiting : List ℕ) (place : ℕ) → waiting ≡ waited → (IsTrue seen.observable → place ≡ length (bytes_of seen.files file)) → Putting file all all seen seen waited waiting place
putting_begin file all seen waited waiting place is at =
    record { done = []; put = subst (λ (w : List ℕ). HasPut file [] seen seen waited w place) (sym is) (put_nothing file seen waited place at); parts = refl }

-- the first bytes wait already
pub putting_behind : (file : File) (piece all left : List ℕ) (seen : Seen) (waited waiting : List ℕ) (place : ℕ) → waiting ≡ waited ++ piece → (IsTrue seen.observable → place ≡ length (bytes_of seen.files file)) → piece ++ left ≡ all
    → Putting file all left seen seen waited waiting place
putting_behind file piece all left seen waited waiting place is at parts =
    record { done = piece; put = subst (λ (w : List ℕ). HasPut file piece seen seen waited w place) (sym is) (put_waiting file seen waited piece place at); parts = parts }

pub putting_more : (file : File) (all piece left rest : List ℕ) (before middle now : Seen) (w0 w1 w2 : List ℕ) (p1 p2 : ℕ) → left ≡ piece ++ rest → Putting file all left before middle w0 w1 p1 → HasPut file piece middle now w1 w2 p2
    → Putting file all rest before now w0 w2 p2
putting_more file all piece left rest before middle now w0 w1 w2 p1 p2 is putting put = record {
  done = putting.done ++ piece;
  put = put_on file putting.done piece before middle now w0 w1 w2 p1 p2 putting.put put;
  parts = append_assoc putting.done piece rest ∙ ap (λ (l : List ℕ). putting.done ++ l) (sym is) ∙ putting.parts;
}

pub putting_end : (file : File) (all left : List ℕ) (before now : Seen) (waited waiting : List ℕ) (place : ℕ) → left ≡ [] → Putting file all left before now waited waiting place → HasPut file all before now waited waiting place
putting_end file all left before now waited waiting place none putting =
    let whole : putting.done ≡ all = sym (append-nil putting.done) ∙ ap (λ (l : List ℕ). putting.done ++ l) (sym none) ∙ putting.parts in
    subst (λ (l : List ℕ). HasPut file l before now waited waiting place) whole putting.put

pub putting_cause : (file : File) (all left : List ℕ) (before middle now : Seen) (w0 w1 : List ℕ) (p : ℕ) (fault : SnapFault) → Putting file all left before middle w0 w1 p → PutCause file middle now fault → PutCause file before now fault
putting_cause file all left before middle now w0 w1 p fault putting cause = cause_on file putting.done before middle now w0 w1 p fault putting.put cause

pub putting_at : (file : File) (all left : List ℕ) (before now : Seen) (w0 w1 : List ℕ) (p : ℕ) → Putting file all left before now w0 w1 p → IsTrue now.observable → p ≡ length (bytes_of now.files file)
putting_at file all left before now w0 w1 p putting told = at_then file putting.done before now w0 w1 p putting.put told

pub ruleset putting = (put_nothing, put_waiting, put_on, cause_on)
