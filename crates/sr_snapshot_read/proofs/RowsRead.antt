-- Values and rows that are read one after the other.
use Rattle.std.proofs.Common.{◌≡◌, ◌≢◌, ◌<◌, ◌^◌, ◌+◌, ℕ, zero, suc, List, [], ◌∷◌, ◌++◌, length, take, Option, Some, None, Result, Ok, refl, sym, ap, subst, ◌∙◌, append_assoc, length-append, arith}
use Rattle.std.proofs.lemmas.List.{append-nil, take_all}
use Rattle.std.specs.Int.{w32, to_be_bytes}
use Rattle.std.specs.List.{flat_map, AllByRecursion}
use Rattle.std.specs.Prelude.{IsTrue, MatchOption}
use Rattle.sr_base.specs.Inner.NumberLaws.{number_again, wide32}
use Rattle.sr_base.specs.Reading.{◌>>=◌, items_at, list_at, number_at}
use Rattle.sr_base.specs.Values.{value_spelling, IsValue}
use Rattle.sr_base.specs.declared.value.Value.{Value}
use Rattle.sr_site.specs.Files.{bytes_of}
use Rattle.sr_site.specs.Seen.{Seen}
use Rattle.sr_site.specs.declared.file.File.{File}
use Rattle.sr_snapshot.proofs.Puts.{only_nothing}
use Rattle.sr_snapshot.specs.declared.fault.SnapFault.{SnapFault}
use Rattle.sr_snapshot.specs.declared.fault.SnapFault.TheVariants.{Memory}
use Rattle.sr_snapshot_read.proofs.Places.{value_in_format}
use Rattle.sr_snapshot_read.proofs.Windows.{cause_behind, taken_on}
use Rattle.sr_snapshot_read.specs.Places.{value_in}
use Rattle.sr_snapshot_read.specs.Inner.Reading.{HasTaken, IsOver, ReadAlone, TakeCause}
use Rattle.sr_snapshot_read.specs.Damages.{FieldBreaks}
use Rattle.sr_snapshot_read.specs.Inner.RowsRead.{HasTakenRow, HasTakenValues}
use Rattle.sr_snapshot_read.specs.Inner.Views.{View}

-- no call was made
pub read_nothing : (file : File) (seen : Seen) → ReadAlone seen seen
read_nothing file seen = record { stays = (only_nothing file seen).stays; files = λ told. refl; happened = λ told. refl }

-- nothing was taken
pub taken_nothing : (file : File) (seen : Seen) (view : View) → (IsTrue seen.observable → IsOver view (bytes_of seen.files file)) → HasTaken file [] seen seen view view
taken_nothing file seen view over = record {
  read = read_nothing file seen;
  steady = refl;
  over = over;
  parts = λ told. refl;
}

-- want of memory behind what was taken
pub memory_behind : (file : File) (breaks : List ℕ → ℕ → Type 0) (before middle now : Seen) (v0 v1 v2 : View) {a b : List ℕ} → HasTaken file a before middle v0 v1 → HasTaken file b middle now v1 v2 → TakeCause file breaks before now v0 Memory
memory_behind file breaks before middle now v0 v1 v2 {a} {b} one other = let both = taken_on file a b before middle now v0 v1 v2 one other in (both.read, both.steady)

-- ---- values

pub record ReadingValues (file : File) (count width left : ℕ) (before now : Seen) (v0 v1 : View) (kept : List Value) : Type 0 where
  pub values : List Value
  pub taken : HasTaken file (flat_map value_spelling values) before now v0 v1
  pub are : AllByRecursion IsValue values
  pub counted : length values + left ≡ count
  pub kept_is : kept ≡ take width values

pub values_begin : (file : File) (count width : ℕ) (seen : Seen) (view : View) (kept : List Value) → (IsTrue seen.observable → IsOver view (bytes_of seen.files file)) → kept ≡ [] → ReadingValues file count width count seen seen view view kept
values_begin file count width seen view kept over none = record { values = []; taken = taken_nothing file seen view over; are = tt; counted = omega arith; kept_is = none ∙ sym (take_all width [] (omega arith)) }

all_more : (vs : List Value) (v : Value) → AllByRecursion IsValue vs → IsValue v → AllByRecursion IsValue (vs ++ v ∷ [])
all_more [] v all is = (is, tt)
all_more (x ∷ vs) v all is = (all.0, all_more vs v all.1 is)

flat_more : (vs : List Value) (v : Value) → flat_map value_spelling vs ++ value_spelling v ≡ flat_map value_spelling (vs ++ v ∷ [])
flat_more [] v = sym (append-nil (value_spelling v))
flat_more (x ∷ vs) v = append_assoc (value_spelling x) (flat_map value_spelling vs) (value_spelling v) ∙ ap (λ (l : List ℕ). value_spelling x ++ l) (flat_more vs v)

pub values_more : (file : File) (count width left more : ℕ) (before middle now : Seen) (v0 v1 v2 : View) (kept kept2 : List Value) (value : Value) → left ≡ more + 1 → (reading : ReadingValues file count width left before middle v0 v1 kept)
    → HasTaken file (value_spelling value) middle now v1 v2 → IsValue value → kept2 ≡ take width (reading.values ++ value ∷ []) → ReadingValues file count width more before now v0 v2 kept2
values_more file count width left more before middle now v0 v1 v2 kept kept2 value one reading taken is kept_is = record {
  values = reading.values ++ value ∷ [];
  taken = subst (λ (l : List ℕ). HasTaken file l before now v0 v2) (flat_more reading.values value) (taken_on file (flat_map value_spelling reading.values) (value_spelling value) before middle now v0 v1 v2 reading.taken taken);
  are = all_more reading.values value reading.are is;
  counted = omega (arith, reading.counted, one, length-append reading.values (value ∷ []));
  kept_is = kept_is;
}

pub values_end : (file : File) (count width left : ℕ) (before now : Seen) (v0 v1 : View) (kept : List Value) → left ≡ 0 → ReadingValues file count width left before now v0 v1 kept → HasTakenValues file count width before now v0 v1 kept
values_end file count width left before now v0 v1 kept none reading =
    record { values = reading.values; taken = reading.taken; are = reading.are; counted = omega (arith, reading.counted, none); kept_is = reading.kept_is }

-- a value that breaks behind others breaks them all
abbrev with_others : Value → Result (List Value × List ℕ) ℕ → Result (List Value × List ℕ) ℕ
with_others v read = read >>= (λ others. Ok (v ∷ others.0, others.1))

items_break : (vs : List Value) (bytes rest : List ℕ) (left count : ℕ) → AllByRecursion IsValue vs → bytes ≡ flat_map value_spelling vs ++ rest → FieldBreaks value_in rest left → length vs < count → FieldBreaks (items_at value_in count) bytes left
unfolding items_at
items_break vs bytes rest left zero are is broken lt = absurd (omega (arith, lt))
items_break [] bytes rest left (suc count) are is broken lt =
    ap (λ (r : Result (Value × List ℕ) ℕ). r >>= (λ first. with_others first.0 (items_at value_in count first.1))) (ap value_in is ∙ broken)
items_break (v ∷ vs) bytes rest left (suc count) are is broken lt =
    let read : value_in bytes ≡ Ok (v, flat_map value_spelling vs ++ rest) =
    ap value_in (is ∙ append_assoc (value_spelling v) (flat_map value_spelling vs) rest) ∙ value_in_format.again v (flat_map value_spelling vs ++ rest) are.0 in
    let later : FieldBreaks (items_at value_in count) (flat_map value_spelling vs ++ rest) left = items_break vs (flat_map value_spelling vs ++ rest) rest left count are.1 refl broken (omega (arith, lt)) in
    ap (λ (r : Result (Value × List ℕ) ℕ). r >>= (λ first. with_others first.0 (items_at value_in count first.1))) read ∙ ap (with_others v) later

pub values_cause : (file : File) (count width left : ℕ) (before middle now : Seen) (v0 v1 : View) (kept : List Value) (fault : SnapFault) → 0 < left → (reading : ReadingValues file count width left before middle v0 v1 kept)
    → TakeCause file (FieldBreaks value_in) middle now v1 fault → TakeCause file (FieldBreaks (items_at value_in count)) before now v0 fault
values_cause file count width left before middle now v0 v1 kept fault some reading cause =
    cause_behind file (FieldBreaks value_in) (FieldBreaks (items_at value_in count)) (flat_map value_spelling reading.values) before middle now v0 v1 fault reading.taken
    (λ bytes rest place is broken. items_break reading.values bytes rest place count reading.are is broken (omega (arith, some, reading.counted))) cause

-- ---- rows

pub count_in_row : (bytes : List ℕ) (left : ℕ) → FieldBreaks (number_at w32) bytes left → FieldBreaks (list_at value_in) bytes left
unfolding list_at
count_in_row bytes left broken = ap (λ (r : Result (ℕ × List ℕ) ℕ). r >>= (λ count. items_at value_in count.0 count.1)) broken

pub values_in_row : (count : ℕ) (bytes rest : List ℕ) (left : ℕ) → count < 2 ^ 32 → bytes ≡ to_be_bytes w32 count ++ rest → FieldBreaks (items_at value_in count) rest left → FieldBreaks (list_at value_in) bytes left
unfolding list_at
values_in_row count bytes rest left short is broken =
    ap (λ (r : Result (ℕ × List ℕ) ℕ). r >>= (λ count. items_at value_in count.0 count.1)) (ap (number_at w32) is ∙ number_again w32 (2 ^ 32) wide32 count rest short) ∙ broken

-- a row behind its count
pub row_taken : (file : File) (count width : ℕ) (before middle now : Seen) (v0 v1 v2 : View) (kept : List Value) → count < 2 ^ 32 → HasTaken file (to_be_bytes w32 count) before middle v0 v1 → (values : HasTakenValues file count width middle now v1 v2 kept)
    → (found : Option (List Value)) → MatchOption found (count ≢ width) (λ r. (count ≡ width) × (r ≡ kept)) → HasTakenRow file width before now v0 v2 found
row_taken file count width before middle now v0 v1 v2 kept short head values found is = record {
  row = values.values;
  taken = subst (λ (n : ℕ). HasTaken file (to_be_bytes w32 n ++ flat_map value_spelling values.values) before now v0 v2) (sym values.counted)
      (taken_on file (to_be_bytes w32 count) (flat_map value_spelling values.values) before middle now v0 v1 v2 head values.taken);
  is = (subst (λ (n : ℕ). n < 2 ^ 32) (sym values.counted) short, values.are);
  found_is = by found is;
}
  where
    by : (found : Option (List Value)) → MatchOption found (count ≢ width) (λ r. (count ≡ width) × (r ≡ kept)) → MatchOption found (length values.values ≢ width) (λ r. r ≡ values.values)
    by None differs = λ same. differs (sym values.counted ∙ same)
    by (Some r) same = same.1 ∙ values.kept_is ∙ take_all width values.values (omega (arith, same.0, values.counted))
