-- A field that is read from a window.
use Rattle.std.proofs.Common.{◌≡◌, ◌≤◌, ◌+◌, ℕ, List, [], ◌∷◌, ◌++◌, length, drop, Err, refl, sym, ap, ◌∙◌, append_assoc, length-append, length-drop, arith, inl, inr, ◌⊎◌}
use Rattle.std.proofs.lemmas.List.{drop-append-le, drop-drop}
use Rattle.std.specs.Prelude.{IsTrue}
use Rattle.sr_base.specs.Inner.Reading.{BeginsWith}
use Rattle.sr_base.specs.Reading.{Read}
use Rattle.sr_site.specs.Files.{bytes_of}
use Rattle.sr_site.specs.Seen.{Seen}
use Rattle.sr_site.specs.declared.file.File.{File}
use Rattle.sr_snapshot.specs.declared.fault.SnapFault.{SnapFault}
use Rattle.sr_snapshot.specs.declared.fault.SnapFault.TheVariants.{Disk, Long, Damaged, Memory}
use Rattle.sr_snapshot_read.specs.Inner.Reading.{BreaksWithin, HasEnough, HasTaken, IsOver, ReadAlone, ReadyCause, TakeCause}
use Rattle.sr_snapshot_read.specs.Inner.Views.{View}

pub ready_cause : (file : File) (breaks : List ℕ → ℕ → Type 0) (before now : Seen) (view : View) (fault : SnapFault) → ReadAlone before now → ReadyCause before now fault → TakeCause file breaks before now view fault
ready_cause file breaks before now view Disk read cause = (read, cause)
ready_cause file breaks before now view (Long size limit) read cause = cause
ready_cause file breaks before now view (Damaged at) read cause = absurd cause
ready_cause file breaks before now view Memory read cause = (read, cause)

pub taken_within : (held spelling : List ℕ) (taken : ℕ) → BeginsWith held spelling taken → taken ≤ length held
taken_within held spelling taken begins = omega (arith, begins.taken_all, ap (λ (l : List ℕ). length l) begins.prefix, length-append spelling (drop taken held))

pub took : (file : File) (before now : Seen) (v0 v1 v2 : View) (held spelling : List ℕ) (taken : ℕ) → ReadAlone before now → now.disk_faults ≡ before.disk_faults → (IsTrue before.observable → IsOver v1 (bytes_of before.files file)) → v1.place ≡ v0.place
    → held ≡ v1.held → BeginsWith held spelling taken → v2.held ≡ drop taken v1.held → v2.place ≡ v1.place + taken → v2.size ≡ v1.size → HasTaken file spelling before now v0 v2
took file before now v0 v1 v2 held spelling taken read steady over place is begins held_now place_now size_now =
    let behind_all : (told : IsTrue before.observable) → drop v2.place (bytes_of before.files file) ≡ drop taken held ++ (over told).behind =
    λ told.
    let bytes = bytes_of before.files file in
    let o = over told in
    ap (λ (n : ℕ). drop n bytes) place_now ∙ sym (drop-drop taken v1.place bytes) ∙ ap (drop taken) (o.parts ∙ ap (λ (l : List ℕ). l ++ o.behind) (sym is)) ∙ drop-append-le taken held o.behind (taken_within held spelling taken begins) in
    record {
      read = read;
      steady = steady;
      over = λ told. record {
        size_is = size_now ∙ (over told).size_is;
        behind = (over told).behind;
        parts = behind_all told ∙ ap (λ (l : List ℕ). l ++ (over told).behind) (ap (drop taken) is ∙ sym held_now);
      };
      parts = λ told.
          let bytes = bytes_of before.files file in
          let o = over told in
          ap (λ (n : ℕ). drop n bytes) (sym place) ∙ o.parts ∙ ap (λ (l : List ℕ). l ++ o.behind) (sym is ∙ begins.prefix) ∙ append_assoc spelling (drop taken held) o.behind
          ∙ ap (λ (l : List ℕ). spelling ++ l) (sym (behind_all told));
    }

pub none_behind : (view : View) (bytes behind : List ℕ) → view.size ≡ length bytes → drop view.place bytes ≡ view.held ++ behind → view.place + length view.held ≡ view.size → behind ≡ []
none_behind view bytes [] size parts all = refl
none_behind view bytes (b ∷ behind) size parts all = absurd (omega (arith, size, all, ap (λ (l : List ℕ). length l) parts, length-append view.held (b ∷ behind), length-drop view.place bytes))

-- where a field breaks in what is held
pub broke : {A : Type 0} (file : File) (reading : List ℕ → Read A) (need : ℕ) (before now : Seen) (v0 v1 : View) (held : List ℕ) (at left : ℕ) → ReadAlone before now → now.disk_faults ≡ before.disk_faults
    → (IsTrue before.observable → IsOver v1 (bytes_of before.files file)) → (IsTrue before.observable → HasEnough v1 need) → v1.place ≡ v0.place → v1.place + length v1.held ≤ v1.size → held ≡ v1.held → reading held ≡ Err left
    → at + left ≡ length held → TakeCause file (BreaksWithin reading need) before now v0 (Damaged (v1.place + at))
broke file reading need before now v0 v1 held at left read steady over enough place within is broken place_is = (
  read,
  steady,
  λ told.
      let bytes = bytes_of before.files file in
      let o = over told in
      let parts : drop v0.place bytes ≡ held ++ o.behind = ap (λ (n : ℕ). drop n bytes) (sym place) ∙ o.parts ∙ ap (λ (l : List ℕ). l ++ o.behind) (sym is) in
      let tells : (need ≤ length v1.held) ⊎ (v1.place + length v1.held ≡ v1.size) → (need ≤ length held) ⊎ (o.behind ≡ []) =
      λ e. elim e [
        | inl some ↦ inl (omega (arith, some, ap (λ (l : List ℕ). length l) is))
        | inr all ↦ inr (none_behind v1 bytes o.behind o.size_is o.parts all)
      ] in
      record {
        left = left + length o.behind;
        broken = record { held = held; behind = o.behind; parts = parts; enough = tells (enough told); within = left; broken = broken; left_is = refl };
        at_is = omega (arith, within, place_is, o.size_is, ap (λ (l : List ℕ). length l) is, ap (λ (l : List ℕ). length l) o.parts, length-append v1.held o.behind, length-drop v1.place bytes);
      },
)
