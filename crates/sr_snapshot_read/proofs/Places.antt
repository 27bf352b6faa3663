-- Readings that break at the place of their field.
use Rattle.std.proofs.Common.{◌≡◌, ◌≤◌, ◌+◌, ◌-◌, ℕ, List, ◌++◌, length, drop, refl, ap, length-drop, arith}
use Rattle.std.proofs.Math.Nat.{max-add-min, sub-add-eq-max}
use Rattle.std.specs.Prelude.{max, min, IsTrue, Result, Ok, Err}
use Rattle.sr_base.specs.Fields.{bytes_spelling, name_spelling, IsListOf, IsName, IsText}
use Rattle.sr_base.specs.Inner.ListLaws.{list_format}
use Rattle.sr_base.specs.Inner.Reading.{IsFormat, IsWithin}
use Rattle.sr_base.specs.Inner.TextLaws.{name_format, text_format}
use Rattle.sr_base.specs.Inner.ValueLaws.{value_format}
use Rattle.sr_base.specs.Reading.{Read, list_at}
use Rattle.sr_base.specs.Values.{value_spelling, IsValue, row_spelling}
use Rattle.sr_site.specs.Files.{bytes_of}
use Rattle.sr_site.specs.Seen.{Seen}
use Rattle.sr_site.specs.declared.file.File.{File}
use Rattle.sr_snapshot.specs.declared.fault.SnapFault.{SnapFault}
use Rattle.sr_snapshot.specs.declared.fault.SnapFault.TheVariants.{Disk, Long, Damaged, Memory}
use Rattle.sr_snapshot_read.specs.Inner.Places.{no_further}
use Rattle.sr_snapshot_read.specs.Places.{breaking_by, name_in, text_in, value_in, with_left}
use Rattle.sr_snapshot_read.specs.Inner.Reading.{TakeCause}
use Rattle.sr_snapshot_read.specs.Damages.{FieldBreaks}
use Rattle.sr_snapshot_read.specs.Inner.Views.{View}

found_in : {A : Type 0} (least : ℕ) (read : Result (A × List ℕ) ℕ) (x : A × List ℕ) → with_left least read ≡ Ok x → read ≡ Ok x
found_in least (Ok y) x is = is
found_in least (Err left) x is = cc

broken_in : {A : Type 0} (least left bound : ℕ) (read : Result (A × List ℕ) ℕ) → with_left least read ≡ Err left → least ≤ bound → IsWithin read bound → left ≤ bound
broken_in least left bound (Ok y) is small within = absurd (cc)
broken_in least left bound (Err e) is small within =
    let same : max least e ≡ left = cc in
    omega (arith, same, small, within.breaks e refl, sub-add-eq-max least e)

-- it reads the same, and breaks where it did
format_by : {A : Type 0} {reading : List ℕ → Read A} {spelling : A → List ℕ} {fits : A → Type 0} (skip : ℕ) → IsFormat reading spelling fits → IsFormat (breaking_by skip reading) spelling fits
format_by {A} {reading} {spelling} {fits} skip format = record {
  takes = λ bytes value rest are is. format.takes bytes value rest are (found_in (length bytes - skip) (reading bytes) (value, rest) is);
  again = λ value rest so. ap (with_left (length (spelling value ++ rest) - skip)) (format.again value rest so);
  within = λ bytes are. record { breaks = λ left is. broken_in (length bytes - skip) left (length bytes) (reading bytes) is (omega arith) (format.within bytes are) };
}

pub name_in_format : IsFormat name_in name_spelling IsName
name_in_format = format_by 0 name_format

pub text_in_format : IsFormat text_in bytes_spelling IsText
text_in_format = format_by 0 text_format

pub value_in_format : IsFormat value_in value_spelling IsValue
value_in_format = format_by 1 value_format

pub row_in_format : IsFormat (list_at value_in) row_spelling (IsListOf IsValue)
row_in_format = list_format value_in_format

-- the lesser of a place and a bound, by what lies past it
pub lesser : (at place skip : ℕ) → at - ((at - place) - skip) ≡ min at (place + skip)
lesser at place skip = omega (arith, sub-add-eq-max at (place + skip), max-add-min at (place + skip))

-- a field that breaks later breaks there
pub cause_by : {A : Type 0} (file : File) (skip : ℕ) (reading : List ℕ → Read A) (before now : Seen) (view : View) (place : ℕ) (fault : SnapFault) → place ≡ view.place → TakeCause file (FieldBreaks reading) before now view fault
    → TakeCause file (FieldBreaks (breaking_by skip reading)) before now view (no_further (place + skip) fault)
cause_by file skip reading before now view place Disk here cause = cause
cause_by file skip reading before now view place (Long size limit) here cause = absurd cause
cause_by file skip reading before now view place (Damaged at) here cause = (
  cause.0,
  cause.1,
  λ told.
      let bytes = bytes_of before.files file in
      let found = cause.2 told in
      let size : ℕ = length (drop view.place bytes) in
      record {
        left = max (size - skip) found.left;
        broken = ap (with_left (size - skip)) found.broken;
        at_is = omega (arith, here, found.at_is, length-drop view.place bytes, sub-add-eq-max (size - skip) found.left, sub-add-eq-max at (place + skip), max-add-min at (place + skip));
      },
)
cause_by file skip reading before now view place Memory here cause = cause
