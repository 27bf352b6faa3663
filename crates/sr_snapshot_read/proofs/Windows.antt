-- What breaks in a window that holds enough breaks in all that is left.
use Rattle.std.proofs.Common.{◌≡◌, ◌≤◌, ◌<◌, ◌+◌, ℕ, Bool, true, false, cond, ltb, List, [], ◌∷◌, ◌++◌, length, take, drop, Result, Ok, Err, refl, sym, ap, subst, ◌∙◌, append_assoc, length-append, arith, inl, inr, ◌⊎◌}
use Rattle.std.proofs.lemmas.Bool.{cases_lt, eqb-true, le-ltb, lt-ltb, ltb-false, ltb-true}
use Rattle.std.proofs.lemmas.Bool.Decides.{nat_tests}
use Rattle.std.proofs.lemmas.List.{append-nil, drop-append-le, length-drop, take_all, take-append-drop, take-append-le}
use Rattle.std.specs.Int.{Width, w32, w64, byte_len, cast_signed, from_be_bytes}
use Rattle.std.specs.Prelude.{IsTrue, ℤ, nat_lt, ◌==◌}
use Rattle.std.specs.Str.{is_utf8}
use Rattle.sr_base.specs.Fields.{is_name_size, name_at}
use Rattle.sr_base.specs.Names.{is_lower_name}
use Rattle.sr_base.specs.Reading.{Read, ◌>>=◌, just_at, mapped_at, number_at, signed_at, tag_at, text_at, untagged_at, day_at, is_day, value_at}
use Rattle.sr_base.specs.declared.value.Value.{Value}
use Rattle.sr_base.specs.declared.value.Value.TheVariants.{Null, Int, Big, Str, Date}
use Rattle.sr_site.specs.Causes.{Rose}
use Rattle.sr_site.specs.Files.{Files, bytes_of}
use Rattle.sr_site.specs.Inner.Growing.{disk_stays_on}
use Rattle.sr_site.specs.Reads.{HasRead}
use Rattle.sr_site.specs.Seen.{Seen}
use Rattle.sr_site.specs.declared.file.File.{File}
use Rattle.sr_snapshot.specs.declared.fault.SnapFault.{SnapFault}
use Rattle.sr_snapshot.specs.declared.fault.SnapFault.TheVariants.{Disk, Long, Damaged, Memory}
use Rattle.sr_snapshot_read.specs.Inner.Reading.{BreaksAt, BreaksWithin, HasTaken, IsOver, ReadAlone, TakeCause}
use Rattle.sr_snapshot_read.specs.Damages.{FieldBreaks}
use Rattle.sr_snapshot_read.specs.Inner.Views.{View}

-- ---- steps that read

pub then_told : (before now : Seen) → ReadAlone before now → IsTrue before.observable → IsTrue now.observable
then_told before now read told = subst (λ (b : Bool). IsTrue b) (sym read.stays.observable) told

pub before_told : (before now : Seen) → ReadAlone before now → IsTrue now.observable → IsTrue before.observable
before_told before now read told = subst (λ (b : Bool). IsTrue b) read.stays.observable told

pub read_on : (before middle now : Seen) → ReadAlone before middle → ReadAlone middle now → ReadAlone before now
read_on before middle now one other =
    record {
      stays = disk_stays_on before middle now one.stays other.stays;
      files = λ told. other.files (then_told before middle one told) ∙ one.files told;
      happened = λ told. other.happened (then_told before middle one told) ∙ one.happened told;
    }

pub same_bytes : (file : File) (before now : Seen) → ReadAlone before now → IsTrue before.observable → bytes_of now.files file ≡ bytes_of before.files file
same_bytes file before now read told = ap (λ (f : Files). bytes_of f file) (read.files told)

-- what is still over a file
pub over_then : (file : File) (before now : Seen) (view : View) → ReadAlone before now → (IsTrue before.observable → IsOver view (bytes_of before.files file)) → IsTrue now.observable → IsOver view (bytes_of now.files file)
over_then file before now view read over told =
    let at = before_told before now read told in
    subst (λ (l : List ℕ). IsOver view l) (sym (same_bytes file before now read at)) (over at)

-- ---- what is taken

pub taken_on : (file : File) (a b : List ℕ) (before middle now : Seen) (v0 v1 v2 : View) → HasTaken file a before middle v0 v1 → HasTaken file b middle now v1 v2 → HasTaken file (a ++ b) before now v0 v2
taken_on file a b before middle now v0 v1 v2 one other = record {
  read = read_on before middle now one.read other.read;
  steady = other.steady ∙ one.steady;
  over = λ told. subst (λ (l : List ℕ). IsOver v2 l) (same_bytes file before middle one.read told) (other.over (then_told before middle one.read told));
  parts = λ told.
      let same = same_bytes file before middle one.read told in
      one.parts told ∙ ap (λ (l : List ℕ). a ++ l) (subst (λ (l : List ℕ). drop v1.place l ≡ b ++ drop v2.place l) same (other.parts (then_told before middle one.read told))) ∙ sym (append_assoc a b (drop v2.place (bytes_of before.files file)));
}

-- where the window is behind what was taken
pub taken_over : (file : File) (a : List ℕ) (before now : Seen) (v0 v1 : View) → HasTaken file a before now v0 v1 → IsTrue now.observable → IsOver v1 (bytes_of now.files file)
taken_over file a before now v0 v1 taken told = over_then file before now v1 taken.read taken.over told

-- what breaks behind what was taken
pub cause_behind : (file : File) (breaks broken : List ℕ → ℕ → Type 0) (a : List ℕ) (before middle now : Seen) (v0 v1 : View) (fault : SnapFault) → HasTaken file a before middle v0 v1
    → ((bytes rest : List ℕ) (left : ℕ) → bytes ≡ a ++ rest → breaks rest left → broken bytes left) → TakeCause file breaks middle now v1 fault → TakeCause file broken before now v0 fault
cause_behind file breaks broken a before middle now v0 v1 Disk one step cause = (read_on before middle now one.read cause.0, subst (λ (n : ℕ). Rose n now.disk_faults) one.steady cause.1)
cause_behind file breaks broken a before middle now v0 v1 (Long size limit) one step cause = cause
cause_behind file breaks broken a before middle now v0 v1 (Damaged at) one step cause = (
  read_on before middle now one.read cause.0,
  cause.1 ∙ one.steady,
  λ told.
      let same = same_bytes file before middle one.read told in
      let found = subst (λ (l : List ℕ). BreaksAt breaks l v1.place at) same (cause.2 (then_told before middle one.read told)) in
      record { left = found.left; broken = step (drop v0.place (bytes_of before.files file)) (drop v1.place (bytes_of before.files file)) found.left (one.parts told) found.broken; at_is = found.at_is },
)
cause_behind file breaks broken a before middle now v0 v1 Memory one step cause = (read_on before middle now one.read cause.0, cause.1 ∙ one.steady)

-- what breaks from the same place on
pub cause_as : (file : File) (breaks broken : List ℕ → ℕ → Type 0) (before now : Seen) (view : View) (fault : SnapFault) → ((bytes : List ℕ) (left : ℕ) → breaks bytes left → broken bytes left) → TakeCause file breaks before now view fault
    → TakeCause file broken before now view fault
cause_as file breaks broken before now view Disk step cause = cause
cause_as file breaks broken before now view (Long size limit) step cause = cause
cause_as file breaks broken before now view (Damaged at) step cause =
    (cause.0, cause.1, λ told. let found = cause.2 told in record { left = found.left; broken = step _ found.left found.broken; at_is = found.at_is })
cause_as file breaks broken before now view Memory step cause = cause

pub kept_front : (count len : ℕ) (buffer rest : List ℕ) → len ≡ length buffer → take count (take len (buffer ++ rest)) ≡ take count buffer
kept_front count len buffer rest is = ap (λ (l : List ℕ). take count l) (take-append-le len buffer rest (omega (arith, is)) ∙ take_all len buffer (omega (arith, is)))

-- a window that was read anew
pub refilled : (bytes : List ℕ) (place size wanted count : ℕ) (buffer items : List ℕ) → size ≡ length bytes → HasRead bytes place wanted count buffer → items ≡ take count buffer → IsOver (record { held = items; place = place; size = size }) bytes
refilled bytes place size wanted count buffer items size_is read is = record {
  size_is = size_is;
  behind = drop wanted (drop place bytes);
  parts = sym (take-append-drop wanted (drop place bytes)) ∙ ap (λ (l : List ℕ). l ++ drop wanted (drop place bytes)) (sym (is ∙ read.prefix));
}

-- ---- fields

-- a reading that breaks in bytes that are enough breaks in more of them, at the same place
abbrev Stands : {A : Type 0} → (List ℕ → Read A) → List ℕ → Type 0
Stands reading held = (behind : List ℕ) (left : ℕ) → reading held ≡ Err left → reading (held ++ behind) ≡ Err (left + length behind)

pub breaks_in_all : {A : Type 0} (reading : List ℕ → Read A) (need : ℕ) → ((held : List ℕ) → need ≤ length held → Stands reading held) → (bytes : List ℕ) (left : ℕ) → BreaksWithin reading need bytes left → FieldBreaks reading bytes left
breaks_in_all reading need stands bytes left within = by within.enough
  where
    by : (need ≤ length within.held) ⊎ (within.behind ≡ []) → reading bytes ≡ Err left
    by (inl enough) = ap reading within.parts ∙ stands within.held enough within.behind within.within within.broken ∙ ap (λ (n : ℕ). Err n) (sym within.left_is)
    by (inr none) =
        let all : bytes ≡ within.held = within.parts ∙ ap (λ (l : List ℕ). within.held ++ l) none ∙ append-nil within.held in
        let same : left ≡ within.within = omega (arith, within.left_is, ap (λ (l : List ℕ). length l) none) in
        ap reading all ∙ within.broken ∙ ap (λ (n : ℕ). Err n) (sym same)

-- a number that is there never breaks
abbrev Numbered : Type 0
Numbered = Result (ℕ × List ℕ) ℕ

abbrev in_number : Bool → Width → List ℕ → Numbered
in_number short w held = cond short (Err (length held)) (Ok (from_be_bytes w (take (byte_len w) held), drop (byte_len w) held))

in_whole : (short : Bool) (w : Width) (held : List ℕ) → short ≡ false → in_number short w held ≡ Ok (from_be_bytes w (take (byte_len w) held), drop (byte_len w) held)
in_whole false w held is = refl
in_whole true w held is = cc

numbered : (w : Width) (held : List ℕ) → byte_len w ≤ length held → number_at w held ≡ Ok (from_be_bytes w (take (byte_len w) held), drop (byte_len w) held)
numbered w held enough = in_whole (ltb (length held) (byte_len w)) w held (le-ltb (length held) (byte_len w) enough)

not_broken : {A : Type 0} (x : A × List ℕ) (left : ℕ) (read : Result (A × List ℕ) ℕ) → read ≡ Ok x → read ≡ Err left → ⊥
not_broken x left read one other = cc

number_stands : (w : Width) (held : List ℕ) → byte_len w ≤ length held → Stands (number_at w) held
number_stands w held enough behind left broken = absurd (not_broken (from_be_bytes w (take (byte_len w) held), drop (byte_len w) held) left (number_at w held) (numbered w held enough) broken)

pub count_breaks : (bytes : List ℕ) (left : ℕ) → BreaksWithin (number_at w32) 4 bytes left → FieldBreaks (number_at w32) bytes left
count_breaks = breaks_in_all (number_at w32) 4 (number_stands w32)

pub number_breaks : (bytes : List ℕ) (left : ℕ) → BreaksWithin (number_at w64) 8 bytes left → FieldBreaks (number_at w64) bytes left
number_breaks = breaks_in_all (number_at w64) 8 (number_stands w64)

-- of a name 65 bytes tell
size_same : (size n m : ℕ) → 64 ≤ n → 64 ≤ m → is_name_size size n ≡ is_name_size size m
size_same size n m one other = grind (arith, nat_tests)

size_least : (size n : ℕ) → is_name_size size n ≡ true → size ≤ n
size_least size n is = grind (arith, nat_tests)

abbrev Named : Type 0
Named = Result (List ℕ × List ℕ) ℕ

abbrev chosen : Bool → Bool → List ℕ × List ℕ → ℕ → ℕ → Named
chosen one two found inner outer = cond one (cond two (Ok found) (Err inner)) (Err outer)

name_by : (one two : Bool) (found : List ℕ × List ℕ) (inner outer left : ℕ) → chosen one two found inner outer ≡ Err left → ((one ≡ true) × (two ≡ false) × (inner ≡ left)) ⊎ ((one ≡ false) × (outer ≡ left))
name_by true true found inner outer left is = absurd (cc)
name_by true false found inner outer left is = inl (refl, refl, cc)
name_by false two found inner outer left is = inr (refl, cc)

chosen_inner : (one two : Bool) (found : List ℕ × List ℕ) (inner outer : ℕ) → one ≡ true → two ≡ false → chosen one two found inner outer ≡ Err inner
chosen_inner true false found inner outer is none = refl
chosen_inner true true found inner outer is none = cc
chosen_inner false two found inner outer is none = cc

chosen_outer : (one two : Bool) (found : List ℕ × List ℕ) (inner outer : ℕ) → one ≡ false → chosen one two found inner outer ≡ Err outer
chosen_outer false two found inner outer is = refl
chosen_outer true two found inner outer is = cc

name_stands : (held : List ℕ) → 65 ≤ length held → Stands name_at held
unfolding name_at
name_stands [] enough behind left broken = absurd (omega (arith, enough))
name_stands (size ∷ rest) enough behind left broken =
    let long = length-append rest behind in
    let same : is_name_size size (length (rest ++ behind)) ≡ is_name_size size (length rest) = size_same size (length (rest ++ behind)) (length rest) (omega (arith, enough, long)) (omega (arith, enough)) in
    elim (name_by (is_name_size size (length rest)) (is_lower_name (take size rest)) (take size rest, drop size rest) (length rest) (length (size ∷ rest)) left broken) [
      | inl at ↦ chosen_inner (is_name_size size (length (rest ++ behind))) (is_lower_name (take size (rest ++ behind))) (take size (rest ++ behind), drop size (rest ++ behind)) (length (rest ++ behind)) (length (size ∷ rest ++ behind)) (same ∙ at.0)
          (ap (λ (l : List ℕ). is_lower_name l) (take-append-le size rest behind (size_least size (length rest) at.0)) ∙ at.1)
          ∙ ap (λ (n : ℕ). Err n) (omega (arith, long, at.2))
      | inr at ↦ chosen_outer (is_name_size size (length (rest ++ behind))) (is_lower_name (take size (rest ++ behind))) (take size (rest ++ behind), drop size (rest ++ behind)) (length (rest ++ behind)) (length (size ∷ rest ++ behind)) (same ∙ at.0)
          ∙ ap (λ (n : ℕ). Err n) (omega (arith, long, at.1))
    ]

pub name_breaks : (bytes : List ℕ) (left : ℕ) → BreaksWithin name_at 65 bytes left → FieldBreaks name_at bytes left
name_breaks = breaks_in_all name_at 65 name_stands

-- ---- texts and values

abbrev spelled_length : List ℕ → ℕ
spelled_length held = from_be_bytes w32 (take 4 held)

abbrev in_text : Bool → List ℕ → ℕ → ℕ → Named
in_text short rest size whole = cond short (Err whole) (cond (is_utf8 (take size rest)) (Ok (take size rest, drop size rest)) (Err (length rest)))

text_is : (held : List ℕ) → 4 ≤ length held → text_at held ≡ in_text (nat_lt (length (drop 4 held)) (spelled_length held)) (drop 4 held) (spelled_length held) (length held)
unfolding text_at
text_is held enough = ap (λ (r : Result (ℕ × List ℕ) ℕ). r >>= (λ size. in_text (nat_lt (length size.1) size.0) size.1 size.0 (length held))) (numbered w32 held enough)

-- the text has room in what is held, or it has none in all that is left
abbrev HasText : List ℕ → List ℕ → Type 0
HasText held behind = (4 + spelled_length held ≤ length held) ⊎ (length (held ++ behind) < 4 + spelled_length held)

in_text_by : (short utf8 : Bool) (found : List ℕ × List ℕ) (whole inner left : ℕ) → cond short (Err whole) (cond utf8 (Ok found) (Err inner)) ≡ Err left → ((short ≡ true) × (whole ≡ left)) ⊎ ((short ≡ false) × (utf8 ≡ false) × (inner ≡ left))
in_text_by true utf8 found whole inner left is = inl (refl, cc)
in_text_by false true found whole inner left is = absurd (cc)
in_text_by false false found whole inner left is = inr (refl, refl, cc)

short_text : (short utf8 : Bool) (found : List ℕ × List ℕ) (whole inner : ℕ) → short ≡ true → cond short (Err whole) (cond utf8 (Ok found) (Err inner)) ≡ Err whole
short_text true utf8 found whole inner is = refl
short_text false utf8 found whole inner is = cc

other_text : (short utf8 : Bool) (found : List ℕ × List ℕ) (whole inner : ℕ) → short ≡ false → utf8 ≡ false → cond short (Err whole) (cond utf8 (Ok found) (Err inner)) ≡ Err inner
other_text false false found whole inner is none = refl
other_text false true found whole inner is none = cc
other_text true utf8 found whole inner is none = cc

text_stands : (held behind : List ℕ) (left : ℕ) → 4 ≤ length held → HasText held behind → text_at held ≡ Err left → text_at (held ++ behind) ≡ Err (left + length behind)
text_stands held behind left enough has broken =
    let long = length-append held behind in
    let dropped : drop 4 (held ++ behind) ≡ drop 4 held ++ behind = drop-append-le 4 held behind enough in
    let size : spelled_length (held ++ behind) ≡ spelled_length held = ap (from_be_bytes w32) (take-append-le 4 held behind enough) in
    let short = length-drop 4 held in
    let all = text_is (held ++ behind) (omega (arith, enough, long)) ∙ (λ i. in_text (nat_lt (length (dropped i)) (size i)) (dropped i) (size i) (length (held ++ behind))) in
    elim (in_text_by (nat_lt (length (drop 4 held)) (spelled_length held)) (is_utf8 (take (spelled_length held) (drop 4 held))) (take (spelled_length held) (drop 4 held), drop (spelled_length held) (drop 4 held)) (length held) (length (drop 4 held)) left
    (sym (text_is held enough) ∙ broken)) [
      | inl at ↦ all ∙ short_text (nat_lt (length (drop 4 held ++ behind)) (spelled_length held)) (is_utf8 (take (spelled_length held) (drop 4 held ++ behind))) (take (spelled_length held) (drop 4 held ++ behind), drop (spelled_length held) (drop 4 held ++ behind)) (length (held ++ behind)) (length (drop 4 held ++ behind))
          (lt-ltb (length (drop 4 held ++ behind)) (spelled_length held) (by at.0)) ∙ ap (λ (n : ℕ). Err n) (omega (arith, long, at.1))
      | inr at ↦ all ∙ other_text (nat_lt (length (drop 4 held ++ behind)) (spelled_length held)) (is_utf8 (take (spelled_length held) (drop 4 held ++ behind))) (take (spelled_length held) (drop 4 held ++ behind), drop (spelled_length held) (drop 4 held ++ behind)) (length (held ++ behind)) (length (drop 4 held ++ behind))
          (le-ltb (length (drop 4 held ++ behind)) (spelled_length held) (room at.0)) (ap (λ (l : List ℕ). is_utf8 l) (take-append-le (spelled_length held) (drop 4 held) behind (fit at.0)) ∙ at.1)
          ∙ ap (λ (n : ℕ). Err n) (omega (arith, length-append (drop 4 held) behind, at.2))
    ]
  where
    fit : nat_lt (length (drop 4 held)) (spelled_length held) ≡ false → spelled_length held ≤ length (drop 4 held)
    fit wide = ltb-false (length (drop 4 held)) (spelled_length held) wide

    room : nat_lt (length (drop 4 held)) (spelled_length held) ≡ false → spelled_length held ≤ length (drop 4 held ++ behind)
    room wide = omega (arith, fit wide, length-append (drop 4 held) behind)

    by : nat_lt (length (drop 4 held)) (spelled_length held) ≡ true → length (drop 4 held ++ behind) < spelled_length held
    by narrow = elim has [
      | inl fits ↦ absurd (omega (arith, fits, length-drop 4 held, ltb-true (length (drop 4 held)) (spelled_length held) narrow))
      | inr none ↦ omega (arith, none, length-append held behind, length-append (drop 4 held) behind, length-drop 4 held, enough)
    ]

-- so many bytes tell of a text
pub text_breaks : (need : ℕ) (bytes : List ℕ) (left : ℕ) → 4 ≤ need → (4 ≤ length bytes → 4 + spelled_length bytes ≤ length bytes → 4 + spelled_length bytes ≤ need) → BreaksWithin text_at need bytes left → FieldBreaks text_at bytes left
text_breaks need bytes left least told within = by within.enough
  where
    by : (need ≤ length within.held) ⊎ (within.behind ≡ []) → text_at bytes ≡ Err left
    by (inl enough) =
        let four : 4 ≤ length within.held = omega (arith, least, enough) in
        let same : spelled_length bytes ≡ spelled_length within.held = ap (from_be_bytes w32) (ap (λ (l : List ℕ). take 4 l) within.parts ∙ take-append-le 4 within.held within.behind four) in
        let long = ap (λ (l : List ℕ). length l) within.parts ∙ length-append within.held within.behind in
        let has : HasText within.held within.behind =
        elim (cases_lt (length bytes) (4 + spelled_length within.held)) [
          | inl none ↦ inr (omega (arith, none, ap (λ (l : List ℕ). length l) within.parts))
          | inr some ↦ inl (omega (arith, enough, same, told (omega (arith, four, long)) (omega (arith, some, same))))
        ] in
        ap text_at within.parts ∙ text_stands within.held within.behind within.within four has within.broken ∙ ap (λ (n : ℕ). Err n) (sym within.left_is)
    by (inr none) =
        let all : bytes ≡ within.held = within.parts ∙ ap (λ (l : List ℕ). within.held ++ l) none ∙ append-nil within.held in
        ap text_at all ∙ within.broken ∙ ap (λ (n : ℕ). Err n) (omega (arith, within.left_is, ap (λ (l : List ℕ). length l) none))

-- ---- values

-- what breaks in these bytes breaks with others behind them
abbrev Stays : {A : Type 0} → (List ℕ → Read A) → List ℕ → List ℕ → Type 0
Stays reading held behind = (left : ℕ) → reading held ≡ Err left → reading (held ++ behind) ≡ Err (left + length behind)

tag_stays : {A : Type 0} (tag : ℕ) (item other : List ℕ → Read A) (byte : ℕ) (rest behind : List ℕ) → (byte ≡ tag → Stays item rest behind) → Stays other (byte ∷ rest) behind → Stays (tag_at tag item other) (byte ∷ rest) behind
tag_stays tag item other byte rest behind inner outer left broken = by (byte == tag) refl broken
  where
    by : (b : Bool) → (byte == tag) ≡ b → cond b (item rest) (other (byte ∷ rest)) ≡ Err left → cond (byte == tag) (item (rest ++ behind)) (other (byte ∷ rest ++ behind)) ≡ Err (left + length behind)
    by true is broke = ap (λ (b : Bool). cond b (item (rest ++ behind)) (other (byte ∷ rest ++ behind))) is ∙ inner (eqb-true byte tag is) left broke
    by false is broke = ap (λ (b : Bool). cond b (item (rest ++ behind)) (other (byte ∷ rest ++ behind))) is ∙ outer left broke

just_stays : {A : Type 0} (value : A) (held behind : List ℕ) → Stays (just_at value) held behind
just_stays value held behind left broken = absurd (cc)

abbrev mapped : {A B : Type 0} → (A → B) → Result (A × List ℕ) ℕ → Result (B × List ℕ) ℕ
mapped to (Ok v) = Ok (to v.0, v.1)
mapped to (Err left) = Err left

abbrev then_mapped : {A B : Type 0} → (A → B) → A × List ℕ → Result (B × List ℕ) ℕ
then_mapped to v = Ok (to v.0, v.1)

mapped_is : {A B : Type 0} (to : A → B) (reading : List ℕ → Read A) (bytes : List ℕ) → mapped_at to reading bytes ≡ mapped to (reading bytes)
mapped_is {A} {B} to reading bytes = by (reading bytes)
  where
    by : (r : Result (A × List ℕ) ℕ) → (r >>= then_mapped to) ≡ mapped to r
    by (Ok v) = refl
    by (Err left) = refl

mapped_err : {A B : Type 0} (to : A → B) (r : Result (A × List ℕ) ℕ) (left : ℕ) → mapped to r ≡ Err left → r ≡ Err left
mapped_err to (Ok v) left is = absurd (cc)
mapped_err to (Err l) left is = let same : l ≡ left = cc in ap (λ (n : ℕ). Err n) same

mapped_stays : {A B : Type 0} (to : A → B) (reading : List ℕ → Read A) (held behind : List ℕ) → Stays reading held behind → Stays (mapped_at to reading) held behind
mapped_stays to reading held behind stays left broken =
    let inner : reading held ≡ Err left = mapped_err to (reading held) left (sym (mapped_is to reading held) ∙ broken) in
    mapped_is to reading (held ++ behind) ∙ ap (mapped to) (stays left inner)

abbrev in_signed : Width → Numbered → Result (ℤ × List ℕ) ℕ
in_signed w (Ok bits) = Ok (cast_signed w bits.0, bits.1)
in_signed w (Err left) = Err left

abbrev then_signed : Width → ℕ × List ℕ → Result (ℤ × List ℕ) ℕ
then_signed w bits = Ok (cast_signed w bits.0, bits.1)

signed_is : (w : Width) (held : List ℕ) → signed_at w held ≡ in_signed w (number_at w held)
unfolding signed_at
signed_is w held = by (number_at w held)
  where
    by : (r : Numbered) → (r >>= then_signed w) ≡ in_signed w r
    by (Ok bits) = refl
    by (Err left) = refl

signed_read : (w : Width) (held : List ℕ) → byte_len w ≤ length held → signed_at w held ≡ Ok (cast_signed w (from_be_bytes w (take (byte_len w) held)), drop (byte_len w) held)
signed_read w held enough = signed_is w held ∙ ap (in_signed w) (numbered w held enough)

signed_never : (w : Width) (held : List ℕ) (left : ℕ) → byte_len w ≤ length held → signed_at w held ≡ Err left → ⊥
signed_never w held left enough broken = not_broken (cast_signed w (from_be_bytes w (take (byte_len w) held)), drop (byte_len w) held) left (signed_at w held) (signed_read w held enough) broken

signed_stays : (w : Width) (held behind : List ℕ) → byte_len w ≤ length held → Stays (signed_at w) held behind
signed_stays w held behind enough left broken = absurd (signed_never w held left enough broken)

abbrev day_of : List ℕ → ℤ
day_of held = cast_signed w32 (from_be_bytes w32 (take 4 held))

abbrev in_day : Bool → List ℕ → Result (ℤ × List ℕ) ℕ
in_day is held = cond is (Ok (day_of held, drop 4 held)) (Err (length held))

unfoldable day_after : List ℕ → Result (ℤ × List ℕ) ℕ → Result (ℤ × List ℕ) ℕ
day_after bytes r = r >>= (λ days. cond (is_day days.0) (Ok days) (Err (length bytes)))

day_is : (held : List ℕ) → 4 ≤ length held → day_at held ≡ in_day (is_day (day_of held)) held
unfolding day_at day_after
day_is held enough = ap (day_after held) (signed_read w32 held enough)

in_none : (is : Bool) (held : List ℕ) → is ≡ false → in_day is held ≡ Err (length held)
in_none false held none = refl
in_none true held none = cc

in_err : (is : Bool) (held : List ℕ) (left : ℕ) → in_day is held ≡ Err left → (is ≡ false) × (length held ≡ left)
in_err true held left broken = absurd (cc)
in_err false held left broken = (refl, cc)

day_stays : (held behind : List ℕ) → 4 ≤ length held → Stays day_at held behind
day_stays held behind enough left broken =
    let same : day_of (held ++ behind) ≡ day_of held = ap (λ (l : List ℕ). cast_signed w32 (from_be_bytes w32 l)) (take-append-le 4 held behind enough) in
    let at = in_err (is_day (day_of held)) held left (sym (day_is held enough) ∙ broken) in
    day_is (held ++ behind) (omega (arith, enough, length-append held behind)) ∙ in_none (is_day (day_of (held ++ behind))) (held ++ behind) (ap is_day same ∙ at.0)
    ∙ ap (λ (n : ℕ). Err n) (omega (arith, at.1, length-append held behind))

untagged_stays : {A : Type 0} (held behind : List ℕ) → Stays (untagged_at {A = A}) held behind
untagged_stays held behind left broken = let here : length held ≡ left = cc in ap (λ (n : ℕ). Err n) (omega (arith, here, length-append held behind))

abbrev from_four : List ℕ → Read Value
from_four = tag_at 4 (mapped_at Date day_at) untagged_at

abbrev from_three : List ℕ → Read Value
from_three = tag_at 3 (mapped_at Str text_at) from_four

abbrev from_two : List ℕ → Read Value
from_two = tag_at 2 (mapped_at Big (signed_at w64)) from_three

abbrev from_one : List ℕ → Read Value
from_one = tag_at 1 (mapped_at Int (signed_at w32)) from_two

value_stays : (byte : ℕ) (rest behind : List ℕ) → 8 ≤ length rest → (byte ≡ 3 → HasText rest behind) → Stays value_at (byte ∷ rest) behind
unfolding value_at
value_stays byte rest behind enough has =
    let four : 4 ≤ length rest = omega (arith, enough) in
    tag_stays 0 (just_at Null) from_one byte rest behind (λ is. just_stays Null rest behind)
    (tag_stays 1 (mapped_at Int (signed_at w32)) from_two byte rest behind (λ is. mapped_stays Int (signed_at w32) rest behind (signed_stays w32 rest behind four))
    (tag_stays 2 (mapped_at Big (signed_at w64)) from_three byte rest behind (λ is. mapped_stays Big (signed_at w64) rest behind (signed_stays w64 rest behind enough))
    (tag_stays 3 (mapped_at Str text_at) from_four byte rest behind (λ is. mapped_stays Str text_at rest behind (λ left. text_stands rest behind left four (has is)))
    (tag_stays 4 (mapped_at Date day_at) untagged_at byte rest behind (λ is. mapped_stays Date day_at rest behind (day_stays rest behind four)) (untagged_stays (byte ∷ rest) behind)))))

-- so many bytes tell of a value
pub value_breaks : (need : ℕ) (bytes : List ℕ) (left : ℕ) → 9 ≤ need → ((rest : List ℕ) → bytes ≡ 3 ∷ rest → 4 ≤ length rest → 4 + spelled_length rest ≤ length rest → 5 + spelled_length rest ≤ need)
    → BreaksWithin value_at need bytes left → FieldBreaks value_at bytes left
value_breaks need bytes left least told within = by within.enough
  where
    cases : (held : List ℕ) → bytes ≡ held ++ within.behind → need ≤ length held → (l : ℕ) → value_at held ≡ Err l → value_at (held ++ within.behind) ≡ Err (l + length within.behind)
    cases [] parts enough l broken = absurd (omega (arith, least, enough))
    cases (byte ∷ rest) parts enough l broken =
        let eight : 8 ≤ length rest = omega (arith, least, enough) in
        let same : spelled_length (rest ++ within.behind) ≡ spelled_length rest = ap (from_be_bytes w32) (take-append-le 4 rest within.behind (omega (arith, eight))) in
        let long = length-append rest within.behind in
        let has : byte ≡ 3 → HasText rest within.behind =
        λ three. elim (cases_lt (length (rest ++ within.behind)) (4 + spelled_length rest)) [
          | inl none ↦ inr none
          | inr some ↦ inl (omega (arith, enough, same, told (rest ++ within.behind) (parts ∙ ap (λ (b : ℕ). b ∷ (rest ++ within.behind)) three) (omega (arith, eight, long)) (omega (arith, some, same))))
        ] in
        value_stays byte rest within.behind eight has l broken

    by : (need ≤ length within.held) ⊎ (within.behind ≡ []) → value_at bytes ≡ Err left
    by (inl enough) = ap value_at within.parts ∙ cases within.held within.parts enough within.within within.broken ∙ ap (λ (n : ℕ). Err n) (sym within.left_is)
    by (inr none) =
        let all : bytes ≡ within.held = within.parts ∙ ap (λ (l : List ℕ). within.held ++ l) none ∙ append-nil within.held in
        ap value_at all ∙ within.broken ∙ ap (λ (n : ℕ). Err n) (omega (arith, within.left_is, ap (λ (l : List ℕ). length l) none))
