-- What breaks where it begins.
use Rattle.std.proofs.Common.{◌≡◌, ◌≤◌, ◌<◌, ◌+◌, ◌-◌, ◌^◌, ℕ, List, [], ◌++◌, length, take, drop, refl, sym, ap, subst, ◌∙◌, length-drop, arith, inl, inr, ◌⊎◌}
use Rattle.std.proofs.lemmas.List.{append-nil, length-take, take-append-drop, take-append-le}
use Rattle.std.specs.Int.{w32, w64, to_be_bytes}
use Rattle.std.specs.Prelude.{IsTrue}
use Rattle.sr_base.specs.Fields.{name_spelling, IsName}
use Rattle.sr_site.specs.Files.{bytes_of}
use Rattle.sr_site.specs.Seen.{Seen}
use Rattle.sr_site.specs.declared.file.File.{File}
use Rattle.sr_snapshot.specs.Parts.{magic}
use Rattle.sr_snapshot.specs.declared.fault.SnapFault.{SnapFault}
use Rattle.sr_snapshot.specs.declared.fault.SnapFault.TheVariants.{Damaged}
use Rattle.sr_snapshot_read.proofs.FieldReads.{none_behind}
use Rattle.sr_snapshot_read.specs.Damages.{CountBreaks, LacksMagic, NameBreaks, OffsetBreaks}
use Rattle.sr_snapshot_read.specs.Inner.Reading.{HasEnough, HasTaken, IsOver, ReadAlone, TakeCause}
use Rattle.sr_snapshot_read.specs.Inner.Views.{View}

-- a part that was taken is not the one that has to stand there
pub here_cause : (file : File) (breaks : List ℕ → ℕ → Type 0) (a : List ℕ) (before now : Seen) (v0 v1 : View) (place : ℕ) (fault : SnapFault) → fault ≡ Damaged place → place ≡ v0.place → v0.place + length v0.held ≤ v0.size
    → (IsTrue before.observable → IsOver v0 (bytes_of before.files file)) → HasTaken file a before now v0 v1 → ((bytes rest : List ℕ) → bytes ≡ a ++ rest → breaks bytes (length bytes)) → TakeCause file breaks before now v0 fault
here_cause file breaks a before now v0 v1 place fault is here within over taken step =
    let cause : TakeCause file breaks before now v0 (Damaged place) = (
      taken.read,
      taken.steady,
      λ told.
          let bytes = bytes_of before.files file in
          record {
            left = length (drop v0.place bytes);
            broken = step (drop v0.place bytes) (drop v1.place bytes) (taken.parts told);
            at_is = omega (arith, here, within, (over told).size_is, length-drop v0.place bytes);
          },
    ) in
    subst (λ (e : SnapFault). TakeCause file breaks before now v0 e) (sym is) cause

pub other_name : (name other : List ℕ) → IsName other → (other ≡ name → ⊥) → (bytes rest : List ℕ) → bytes ≡ name_spelling other ++ rest → NameBreaks name bytes (length bytes)
other_name name other is differs bytes rest parts = inr (record { other = other; is = is; differs = differs; there = record { rest = rest; parts = parts; then = tt }; here = refl })

pub other_count : (count other : ℕ) → other < 2 ^ 32 → (other ≡ count → ⊥) → (bytes rest : List ℕ) → bytes ≡ to_be_bytes w32 other ++ rest → CountBreaks count bytes (length bytes)
other_count count other is differs bytes rest parts = inr (record { other = other; is = is; differs = differs; there = record { rest = rest; parts = parts; then = tt }; here = refl })

pub far_offset : (place : ℕ) → place < 2 ^ 64 → 2 ^ 62 < place → (bytes rest : List ℕ) → bytes ≡ to_be_bytes w64 place ++ rest → OffsetBreaks bytes (length bytes)
far_offset place short far bytes rest parts = inr (record { place = place; short = short; far = far; there = record { rest = rest; parts = parts; then = tt }; here = refl })

-- ---- the magic

pub short_magic : (held : List ℕ) → length held < 8 → take 8 held ≡ magic → ⊥
short_magic held short is = absurd (omega (arith, short, ap (λ (l : List ℕ). length l) is, length-take 8 held))

pub magic_front : (held : List ℕ) → take 8 held ≡ magic → held ≡ magic ++ drop 8 held
magic_front held is = sym (take-append-drop 8 held) ∙ ap (λ (l : List ℕ). l ++ drop 8 held) is

pub magic_first : (held rest : List ℕ) → held ≡ magic ++ rest → take 8 held ≡ magic
magic_first held rest is = ap (λ (l : List ℕ). take 8 l) is

front_magic : (held behind rest : List ℕ) → 8 ≤ length held → held ++ behind ≡ magic ++ rest → held ≡ magic ++ drop 8 held
front_magic held behind rest enough is =
    let front : take 8 held ≡ magic = sym (take-append-le 8 held behind enough) ∙ ap (λ (l : List ℕ). take 8 l) is in
    sym (take-append-drop 8 held) ∙ ap (λ (l : List ℕ). l ++ drop 8 held) front

pub lacks_magic : (view : View) (bytes : List ℕ) → IsOver view bytes → HasEnough view 8 → ((rest : List ℕ) → view.held ≡ magic ++ rest → ⊥) → LacksMagic (drop view.place bytes) (length (drop view.place bytes))
lacks_magic view bytes over enough none = record { other = λ rest is. by rest is enough; here = refl }
  where
    by : (rest : List ℕ) → drop view.place bytes ≡ magic ++ rest → (8 ≤ length view.held) ⊎ (view.place + length view.held ≡ view.size) → ⊥
    by rest is (inl some) = none (drop 8 view.held) (front_magic view.held over.behind rest some (sym over.parts ∙ is))
    by rest is (inr all) =
        let end : over.behind ≡ [] = none_behind view bytes over.behind over.size_is over.parts all in
        none rest (sym (append-nil view.held) ∙ ap (λ (l : List ℕ). view.held ++ l) (sym end) ∙ sym over.parts ∙ is)

pub magic_cause : (file : File) (before now : Seen) (v0 v1 : View) (place : ℕ) (fault : SnapFault) → fault ≡ Damaged place → place ≡ v1.place → v1.place ≡ v0.place → v1.place + length v1.held ≤ v1.size → ReadAlone before now → now.disk_faults ≡ before.disk_faults
    → (IsTrue before.observable → IsOver v1 (bytes_of before.files file)) → (IsTrue before.observable → HasEnough v1 8) → ((rest : List ℕ) → v1.held ≡ magic ++ rest → ⊥) → TakeCause file LacksMagic before now v0 fault
magic_cause file before now v0 v1 place fault is here same within read steady over enough none =
    let cause : TakeCause file LacksMagic before now v0 (Damaged place) = (
      read,
      steady,
      λ told.
          let bytes = bytes_of before.files file in
          record {
            left = length (drop v1.place bytes);
            broken = subst (λ (n : ℕ). LacksMagic (drop n bytes) (length (drop v1.place bytes))) same (lacks_magic v1 bytes (over told) (enough told) none);
            at_is = omega (arith, here, within, (over told).size_is, length-drop v1.place bytes);
          },
    ) in
    subst (λ (e : SnapFault). TakeCause file LacksMagic before now v0 e) (sym is) cause
