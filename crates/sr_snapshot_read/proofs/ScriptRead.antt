-- The script of a catalog, read text by text, and once more beside the catalog's own.
use Rattle.std.proofs.Common.{◌≡◌, ◌≤◌, ◌<◌, ◌^◌, ◌+◌, ℕ, zero, suc, Bool, true, false, not, List, [], ◌∷◌, ◌++◌, length, map, drop, Option, Some, None, is_some, refl, sym, ap, subst, ◌∙◌, append_assoc, length-append, length-drop, arith, inl, inr, ◌⊎◌}
use Rattle.std.proofs.lemmas.Bool.{eqb-true}
use Rattle.std.proofs.lemmas.List.{append-nil}
use Rattle.std.specs.Int.{w32, to_be_bytes}
use Rattle.std.specs.List.{flat_map, AllByRecursion}
use Rattle.std.specs.Prelude.{⊤, ◌↔◌, IsTrue, IfSome, ◌==◌}
use Rattle.sr_ast.specs.Layout.{printed}
use Rattle.sr_ast.specs.Statements.{is_ddl}
use Rattle.sr_ast.specs.declared.stmt.Stmt.{Stmt}
use Rattle.sr_base.proofs.Formats.{begins_no_other}
use Rattle.sr_base.specs.Fields.{bytes_spelling, list_spelling, IsText}
use Rattle.sr_base.specs.Reading.{number_at}
use Rattle.sr_base.specs.Inner.ListLaws.{list_format}
use Rattle.sr_base.specs.Inner.TextLaws.{text_format}
use Rattle.sr_book.specs.Entries.{Name}
use Rattle.sr_catalog_change.specs.Changes.{next, refusal}
use Rattle.sr_catalog_schema.specs.Catalogs.{Lists, nothing_but}
use Rattle.sr_catalog_schema.specs.declared.fault.DdlFault.{DdlFault}
use Rattle.sr_catalog_script_laws.proofs.ReplayNexts.{publisher_next}
use Rattle.sr_catalog_script_laws.specs.Scripts.{statements}
use Rattle.sr_parse.proofs.Prints.{prints_once}
use Rattle.sr_parse.specs.Prints.{Prints}
use Rattle.sr_site.specs.Causes.{Rose}
use Rattle.sr_site.specs.Files.{bytes_of}
use Rattle.sr_site.specs.Seen.{Seen}
use Rattle.sr_site.specs.declared.file.File.{File}
use Rattle.sr_snapshot.specs.declared.fault.SnapFault.{SnapFault}
use Rattle.sr_snapshot.specs.declared.fault.SnapFault.TheVariants.{Disk, Long, Damaged, Memory}
use Rattle.sr_snapshot_read.proofs.Fronts.{behind_same, never}
use Rattle.sr_snapshot_read.proofs.Heres.{here_cause}
use Rattle.sr_snapshot_read.proofs.Places.{text_in_format}
use Rattle.sr_snapshot_read.proofs.RowsRead.{taken_nothing}
use Rattle.sr_snapshot_read.proofs.Windows.{cause_as, cause_behind, read_on, same_bytes, taken_on, then_told}
use Rattle.sr_snapshot_read.specs.Damages.{IsNextStatement, ListsBreak, Make, ScriptBreaks, ScriptDiffers, TextsBreak, FieldBreaks}
use Rattle.sr_snapshot_read.specs.Places.{text_in}
use Rattle.sr_snapshot_read.specs.Inner.Reading.{BreaksAt, HasTaken, IsOver, ReadAlone, TakeCause}
use Rattle.sr_snapshot_read.specs.Inner.ScriptRead.{Ends, HasRepeated, HasTakenScript, HasTakenText, HasTakenTexts, Makes, RefusesText, RepeatBreaks, TextBreaks, TextDiffers}
use Rattle.sr_snapshot_read.specs.Inner.Views.{View}

-- ---- the statement of a text

abbrev IsTaken : Lists → Stmt → Type 0
IsTaken c s = IsTrue (is_ddl s) × (refusal c s ≡ None)

it_prints : (text : List ℕ) (found : Option Stmt) (s : Stmt) → IfSome found (λ x. Prints x text) → found ≡ Some s → Prints s text
it_prints text found s all is = subst (λ (o : Option Stmt). IfSome o (λ x. Prints x text)) is all

pub next_found : (c : Lists) (text : List ℕ) (found : Option Stmt) (s : Stmt) → IfSome found (λ x. Prints x text) → found ≡ Some s → IsTrue (is_ddl s) × (refusal c s ≡ None) → IsNextStatement c text s
next_found c text found s all is taken = record { prints = it_prints text found s all is; changes = taken.0; accepted = taken.1 }

-- no other statement prints so
pub next_other : (c : Lists) (text : List ℕ) (found : Option Stmt) (s : Stmt) → IfSome found (λ x. Prints x text) → found ≡ Some s → (IsTrue (is_ddl s) × (refusal c s ≡ None) → ⊥) → (t : Stmt) → ¬ (IsNextStatement c text t)
next_other c text found s all is not_taken t it =
    let one : t ≡ s = prints_once text t s it.prints (it_prints text found s all is) in
    not_taken (subst (λ (x : Stmt). IsTaken c x) one (it.changes, it.accepted))

pub never_none : (s : Stmt) → Some s ≡ None → ⊥
never_none s none = cc

pub is_false : (b : Bool) → b ≡ true → b ≡ false → ⊥
is_false b one other = cc

-- what is no statement on the catalog is not taken
pub not_taken : (d : Bool) (P : Type 0) → d ≡ false → IsTrue d × P → ⊥
not_taken d P off both = is_false d both.0 off

pub never_taken : (d : Bool) (P : Type 0) → d ≡ false → IsTrue false ↔ (IsTrue d × P)
never_taken d P off = (λ wrong. absurd (cc), λ both. absurd (not_taken d P off both))

not_there : (o : Option DdlFault) (x : DdlFault) → Some x ≡ o → o ≡ None → ⊥
not_there o x some none = cc

is_not : (b : Bool) → false ≡ not b → b ≡ true
is_not true at = refl
is_not false at = cc

not_both : (b : Bool) → true ≡ not b → b ≡ true → ⊥
not_both true at on = cc
not_both false at on = cc

pub none_refused : (d : Bool) (fault o : Option DdlFault) (b : Bool) → d ≡ true → fault ≡ o → is_some fault ≡ not b → IsTrue b ↔ (IsTrue d × (o ≡ None))
none_refused d fault o b on is test = by fault is test
  where
    by : (fault : Option DdlFault) → fault ≡ o → is_some fault ≡ not b → IsTrue b ↔ (IsTrue d × (o ≡ None))
    by None same at = (λ t. (on, sym same), λ both. is_not b at)
    by (Some x) same at = (λ t. absurd (not_both b at t), λ both. absurd (not_there o x same both.1))

pub change_next : (c : Lists) (text : List ℕ) (found : Option Stmt) (s : Stmt) → IfSome found (IsNextStatement c text) → found ≡ Some s → IsNextStatement c text s
change_next c text found s all is = subst (λ (o : Option Stmt). IfSome o (IsNextStatement c text)) is all

pub next_none : (c : Lists) (text : List ℕ) → ((s : Stmt) → ¬ (Prints s text)) → (t : Stmt) → ¬ (IsNextStatement c text t)
next_none c text none t it = none t it.prints

-- ---- one text

misfits : (c : Lists) (text : List ℕ) → IsText text → ((s : Stmt) → ¬ (IsNextStatement c text s)) → (bytes rest : List ℕ) → bytes ≡ bytes_spelling text ++ rest → TextBreaks c bytes (length bytes)
misfits c text is none bytes rest parts = inr (record { text = text; is = is; misfit = none; there = record { rest = rest; parts = parts; then = tt }; here = refl })

pub field_cause : (file : File) (c : Lists) (before now : Seen) (view : View) (fault : SnapFault) → TakeCause file (FieldBreaks text_in) before now view fault → TakeCause file (TextBreaks c) before now view fault
field_cause file c before now view fault cause = cause_as file (FieldBreaks text_in) (TextBreaks c) before now view fault (λ bytes left broken. inl broken) cause

pub refused_cause : (file : File) (c : Lists) (text : List ℕ) (before now : Seen) (v0 v1 : View) (place : ℕ) (fault : SnapFault) → IsText text → place ≡ v0.place → v0.place + length v0.held ≤ v0.size
    → (IsTrue before.observable → IsOver v0 (bytes_of before.files file)) → HasTaken file (bytes_spelling text) before now v0 v1 → RefusesText c text place fault → TakeCause file (TextBreaks c) before now v0 fault
refused_cause file c text before now v0 v1 place Disk is here within over taken cause = absurd cause
refused_cause file c text before now v0 v1 place (Long size limit) is here within over taken cause = absurd cause
refused_cause file c text before now v0 v1 place (Damaged at) is here within over taken cause =
    here_cause file (TextBreaks c) (bytes_spelling text) before now v0 v1 place (Damaged at) (ap (λ (n : ℕ). Damaged n) cause.0) here within over taken (misfits c text is cause.1)
refused_cause file c text before now v0 v1 place Memory is here within over taken cause = (taken.read, taken.steady)

-- ---- texts

all_more : (xs : List (List ℕ)) (x : List ℕ) → AllByRecursion IsText xs → IsText x → AllByRecursion IsText (xs ++ x ∷ [])
all_more [] x all is = (is, tt)
all_more (y ∷ xs) x all is = (all.0, all_more xs x all.1 is)

flat_more : (xs : List (List ℕ)) (x : List ℕ) → flat_map bytes_spelling xs ++ bytes_spelling x ≡ flat_map bytes_spelling (xs ++ x ∷ [])
flat_more [] x = sym (append-nil (bytes_spelling x))
flat_more (y ∷ xs) x = append_assoc (bytes_spelling y) (flat_map bytes_spelling xs) (bytes_spelling x) ∙ ap (λ (l : List ℕ). bytes_spelling y ++ l) (flat_more xs x)

text_on : (file : File) (texts : List (List ℕ)) (text : List ℕ) (before middle now : Seen) (v0 v1 v2 : View) → HasTaken file (flat_map bytes_spelling texts) before middle v0 v1 → HasTaken file (bytes_spelling text) middle now v1 v2
    → HasTaken file (flat_map bytes_spelling (texts ++ text ∷ [])) before now v0 v2
text_on file texts text before middle now v0 v1 v2 one other =
    subst (λ (l : List ℕ). HasTaken file l before now v0 v2) (flat_more texts text) (taken_on file (flat_map bytes_spelling texts) (bytes_spelling text) before middle now v0 v1 v2 one other)

make_more : (c : Lists) (texts : List (List ℕ)) (text : List ℕ) (d e : Lists) → Make c texts d → Makes d text e → Make c (texts ++ text ∷ []) e
make_more c [] text d e same (s, is_next, after) = (s, subst (λ (x : Lists). IsNextStatement x text s) (sym same) is_next, ap (λ (x : Lists). next x s) same ∙ sym after)
make_more c (t ∷ texts) text d e (s, is_next, rest) makes = (s, is_next, make_more (next c s) texts text d e rest makes)

pub record ReadingTexts (file : File) (c : Lists) (count left : ℕ) (before now : Seen) (v0 v1 : View) (d : Lists) : Type 0 where
  pub texts : List (List ℕ)
  pub taken : HasTaken file (flat_map bytes_spelling texts) before now v0 v1
  pub are : AllByRecursion IsText texts
  pub counted : length texts + left ≡ count
  pub make : Make c texts d

pub texts_begin : (file : File) (c d : Lists) (count : ℕ) (seen : Seen) (view : View) → (IsTrue seen.observable → IsOver view (bytes_of seen.files file)) → d ≡ c → ReadingTexts file c count count seen seen view view d
texts_begin file c d count seen view over same = record { texts = []; taken = taken_nothing file seen view over; are = tt; counted = omega arith; make = sym same }

pub texts_more : (file : File) (c : Lists) (count left more : ℕ) (before middle now : Seen) (v0 v1 v2 : View) (d e : Lists) → left ≡ more + 1 → ReadingTexts file c count left before middle v0 v1 d → HasTakenText file middle now v1 v2 d e
    → ReadingTexts file c count more before now v0 v2 e
texts_more file c count left more before middle now v0 v1 v2 d e one reading one_more = record {
  texts = reading.texts ++ one_more.text ∷ [];
  taken = text_on file reading.texts one_more.text before middle now v0 v1 v2 reading.taken one_more.taken;
  are = all_more reading.texts one_more.text reading.are one_more.is;
  counted = omega (arith, reading.counted, one, length-append reading.texts (one_more.text ∷ []));
  make = make_more c reading.texts one_more.text d e reading.make one_more.makes;
}

pub texts_end : (file : File) (c : Lists) (count left : ℕ) (before now : Seen) (v0 v1 : View) (d : Lists) → left ≡ 0 → ReadingTexts file c count left before now v0 v1 d → HasTakenTexts file count before now v0 v1 c d
texts_end file c count left before now v0 v1 d none reading =
    record { texts = reading.texts; taken = reading.taken; are = reading.are; counted = omega (arith, reading.counted, none); make = reading.make }

texts_break : (c : Lists) (texts : List (List ℕ)) (d : Lists) (bytes rest : List ℕ) (left count : ℕ) → AllByRecursion IsText texts → Make c texts d → bytes ≡ flat_map bytes_spelling texts ++ rest → TextBreaks d rest left → length texts < count
    → TextsBreak c count bytes left
texts_break c texts d bytes rest left zero are make is broken lt = absurd (omega (arith, lt))
texts_break c [] d bytes rest left (suc count) are make is broken lt =
    let here : TextBreaks c bytes left = subst (λ (l : List ℕ). TextBreaks c l left) (sym is) (subst (λ (x : Lists). TextBreaks x rest left) (sym make) broken) in
    elim here [
      | inl field ↦ inl field
      | inr misfit ↦ inr (inl misfit)
    ]
texts_break c (t ∷ texts) d bytes rest left (suc count) are (s, is_next, make) is broken lt =
    inr (inr (
      t,
      s,
      are.0,
      is_next,
      record {
        rest = flat_map bytes_spelling texts ++ rest;
        parts = is ∙ append_assoc (bytes_spelling t) (flat_map bytes_spelling texts) rest;
        then = texts_break (next c s) texts d (flat_map bytes_spelling texts ++ rest) rest left count are.1 make refl broken (omega (arith, lt));
      },
    ))

pub texts_cause : (file : File) (c : Lists) (count left : ℕ) (before middle now : Seen) (v0 v1 : View) (d : Lists) (fault : SnapFault) → 0 < left → ReadingTexts file c count left before middle v0 v1 d
    → TakeCause file (TextBreaks d) middle now v1 fault → TakeCause file (TextsBreak c count) before now v0 fault
texts_cause file c count left before middle now v0 v1 d fault some reading cause =
    cause_behind file (TextBreaks d) (TextsBreak c count) (flat_map bytes_spelling reading.texts) before middle now v0 v1 fault reading.taken
    (λ bytes rest place is broken. texts_break c reading.texts d bytes rest place count reading.are reading.make is broken (omega (arith, some, reading.counted))) cause

-- ---- once more

pub record Repeating (file : File) (script lines : List (List ℕ)) (count left : ℕ) (before now : Seen) (v0 v1 : View) : Type 0 where
  pub texts : List (List ℕ)
  pub taken : HasTaken file (flat_map bytes_spelling texts) before now v0 v1
  pub are : AllByRecursion IsText texts
  pub counted : length texts + left ≡ count
  pub parts : script ≡ texts ++ lines

pub repeat_begin : (file : File) (script lines : List (List ℕ)) (count : ℕ) (seen : Seen) (view : View) → (IsTrue seen.observable → IsOver view (bytes_of seen.files file)) → lines ≡ script → Repeating file script lines count count seen seen view view
repeat_begin file script lines count seen view over same = record { texts = []; taken = taken_nothing file seen view over; are = tt; counted = omega arith; parts = sym same }

pub repeat_more : (file : File) (script lines later : List (List ℕ)) (text : List ℕ) (count left more : ℕ) (before middle now : Seen) (v0 v1 v2 : View) → left ≡ more + 1 → Repeating file script lines count left before middle v0 v1
    → HasTaken file (bytes_spelling text) middle now v1 v2 → IsText text → lines ≡ text ∷ later → Repeating file script later count more before now v0 v2
repeat_more file script lines later text count left more before middle now v0 v1 v2 one reading taken is split = record {
  texts = reading.texts ++ text ∷ [];
  taken = text_on file reading.texts text before middle now v0 v1 v2 reading.taken taken;
  are = all_more reading.texts text reading.are is;
  counted = omega (arith, reading.counted, one, length-append reading.texts (text ∷ []));
  parts = reading.parts ∙ ap (λ (l : List (List ℕ)). reading.texts ++ l) split ∙ sym (append_assoc reading.texts (text ∷ []) later);
}

not_none : (line : List ℕ) (lines : List (List ℕ)) → (length (line ∷ lines) == 0) ≡ false
not_none line lines = by (length (line ∷ lines) == 0) refl
  where
    by : (b : Bool) → (length (line ∷ lines) == 0) ≡ b → b ≡ false
    by true is = absurd (omega (arith, eqb-true (length (line ∷ lines)) 0 is))
    by false is = refl

ends_by : (script texts lines : List (List ℕ)) (whole : Bool) → script ≡ texts ++ lines → whole ≡ (length lines == 0) → Ends script texts whole
ends_by script texts [] whole parts is = subst (λ (b : Bool). Ends script texts b) (sym is) (parts ∙ append-nil texts)
ends_by script texts (line ∷ lines) whole parts is = subst (λ (b : Bool). Ends script texts b) (sym (is ∙ not_none line lines)) (line, lines, parts)

pub repeat_end : (file : File) (script lines : List (List ℕ)) (count left : ℕ) (before now : Seen) (v0 v1 : View) (whole : Bool) → left ≡ 0 → whole ≡ (length lines == 0)
    → Repeating file script lines count left before now v0 v1 → HasRepeated file script count before now v0 v1 whole
repeat_end file script lines count left before now v0 v1 whole none is reading =
    record { texts = reading.texts; taken = reading.taken; are = reading.are; counted = omega (arith, reading.counted, none); ends = ends_by script reading.texts lines whole reading.parts is }

abbrev OneDiffers : List (List ℕ) → List ℕ → ℕ → Type 0
OneDiffers lines bytes left = FieldBreaks text_in bytes left ⊎ TextDiffers lines bytes left

repeats_break : (script lines texts : List (List ℕ)) (bytes rest : List ℕ) (left count : ℕ) → AllByRecursion IsText texts → script ≡ texts ++ lines → bytes ≡ flat_map bytes_spelling texts ++ rest → OneDiffers lines rest left → length texts < count
    → RepeatBreaks script count bytes left
repeats_break script lines texts bytes rest left zero are parts is broken lt = absurd (omega (arith, lt))
repeats_break script lines [] bytes rest left (suc count) are parts is broken lt =
    let here : OneDiffers script bytes left = subst (λ (l : List ℕ). OneDiffers script l left) (sym is) (subst (λ (s : List (List ℕ)). OneDiffers s rest left) (sym parts) broken) in
    elim here [
      | inl field ↦ inl field
      | inr differs ↦ inr (inl differs)
    ]
repeats_break script lines (t ∷ texts) bytes rest left (suc count) are parts is broken lt =
    inr (inr (
      t,
      texts ++ lines,
      are.0,
      parts,
      record {
        rest = flat_map bytes_spelling texts ++ rest;
        parts = is ∙ append_assoc (bytes_spelling t) (flat_map bytes_spelling texts) rest;
        then = repeats_break (texts ++ lines) lines texts (flat_map bytes_spelling texts ++ rest) rest left count are.1 refl refl broken (omega (arith, lt));
      },
    ))

repeat_cause : (file : File) (script lines : List (List ℕ)) (count left : ℕ) (before middle now : Seen) (v0 v1 : View) (fault : SnapFault) → 0 < left → Repeating file script lines count left before middle v0 v1
    → TakeCause file (OneDiffers lines) middle now v1 fault → TakeCause file (RepeatBreaks script count) before now v0 fault
repeat_cause file script lines count left before middle now v0 v1 fault some reading cause =
    cause_behind file (OneDiffers lines) (RepeatBreaks script count) (flat_map bytes_spelling reading.texts) before middle now v0 v1 fault reading.taken
    (λ bytes rest place is broken. repeats_break script lines reading.texts bytes rest place count reading.are reading.parts is broken (omega (arith, some, reading.counted))) cause

pub repeat_field : (file : File) (script lines : List (List ℕ)) (count left : ℕ) (before middle now : Seen) (v0 v1 : View) (fault : SnapFault) → 0 < left → Repeating file script lines count left before middle v0 v1
    → TakeCause file (FieldBreaks text_in) middle now v1 fault → TakeCause file (RepeatBreaks script count) before now v0 fault
repeat_field file script lines count left before middle now v0 v1 fault some reading cause =
    repeat_cause file script lines count left before middle now v0 v1 fault some reading (cause_as file (FieldBreaks text_in) (OneDiffers lines) middle now v1 fault (λ bytes place broken. inl broken) cause)

pub repeat_other : (file : File) (script lines : List (List ℕ)) (text : List ℕ) (count left : ℕ) (before middle now : Seen) (v0 v1 v2 : View) (place : ℕ) (fault : SnapFault) → 0 < left → Repeating file script lines count left before middle v0 v1
    → IsText text → fault ≡ Damaged place → place ≡ v1.place → v1.place + length v1.held ≤ v1.size → (IsTrue middle.observable → IsOver v1 (bytes_of middle.files file)) → HasTaken file (bytes_spelling text) middle now v1 v2
    → ((later : List (List ℕ)) → ¬ (lines ≡ text ∷ later)) → TakeCause file (RepeatBreaks script count) before now v0 fault
repeat_other file script lines text count left before middle now v0 v1 v2 place fault some reading is_text is here within over taken other =
    repeat_cause file script lines count left before middle now v0 v1 fault some reading
    (here_cause file (OneDiffers lines) (bytes_spelling text) middle now v1 v2 place fault is here within over taken
    (λ bytes rest parts. inr (record { text = text; is = is_text; differs = other; there = record { rest = rest; parts = parts; then = tt }; here = refl })))

-- ---- where the texts are not the script

first_differs : (whole : ℕ) (script : List (List ℕ)) (t : List ℕ) (texts : List (List ℕ)) (behind : List ℕ) (left : ℕ) → ((later : List (List ℕ)) → ¬ (script ≡ t ∷ later)) → left ≡ length (flat_map bytes_spelling (t ∷ texts) ++ behind)
    → ScriptDiffers whole script (t ∷ texts) behind left
first_differs whole [] t texts behind left other here = here
first_differs whole (line ∷ script) t texts behind left other here = inl ((λ same. other script (ap (λ (l : List ℕ). l ∷ script) same)), here)

text_differs : (whole : ℕ) (script : List (List ℕ)) (t : List ℕ) (texts : List (List ℕ)) (behind bytes : List ℕ) (left : ℕ) → IsText t → bytes ≡ flat_map bytes_spelling (t ∷ texts) ++ behind
    → ((later : List (List ℕ)) → RepeatBreaks later (length texts) (flat_map bytes_spelling texts ++ behind) left → ScriptDiffers whole later texts behind left) → RepeatBreaks script (suc (length texts)) bytes left
    → ScriptDiffers whole script (t ∷ texts) behind left
text_differs whole script t texts behind bytes left is_text is on breaks = by breaks
  where
    parts : bytes ≡ bytes_spelling t ++ (flat_map bytes_spelling texts ++ behind)
    parts = is ∙ append_assoc (bytes_spelling t) (flat_map bytes_spelling texts) behind

    by : RepeatBreaks script (suc (length texts)) bytes left → ScriptDiffers whole script (t ∷ texts) behind left
    by (inl field) = absurd (never text_in_format t bytes (flat_map bytes_spelling texts ++ behind) left is_text parts field)
    by (inr (inl differs)) =
        let same : t ≡ differs.text = (behind_same text_format t differs.text bytes (flat_map bytes_spelling texts ++ behind) (λ rest. ⊤) is_text differs.is parts differs.there).0 in
        first_differs whole script t texts behind left (λ later split. differs.differs later (split ∙ ap (λ (x : List ℕ). x ∷ later) same)) (differs.here ∙ ap (λ (l : List ℕ). length l) is)
    by (inr (inr (text, later, is_it, split, there))) =
        let both = behind_same text_format t text bytes (flat_map bytes_spelling texts ++ behind) (λ rest. RepeatBreaks later (length texts) rest left) is_text is_it parts there in
        let whole_is : t ∷ later ≡ script = ap (λ (x : List ℕ). x ∷ later) both.0 ∙ sym split in
        subst (λ (s : List (List ℕ)). ScriptDiffers whole s (t ∷ texts) behind left) whole_is (inr (refl, on later both.1))

script_differs : (whole : ℕ) (script texts : List (List ℕ)) (behind bytes : List ℕ) (left : ℕ) → AllByRecursion IsText texts → bytes ≡ flat_map bytes_spelling texts ++ behind → RepeatBreaks script (length texts) bytes left
    → ScriptDiffers whole script texts behind left
script_differs whole script [] behind bytes left are is broken = absurd broken
script_differs whole script (t ∷ texts) behind bytes left are is broken =
    text_differs whole script t texts behind bytes left are.0 is (λ later more. script_differs whole later texts behind (flat_map bytes_spelling texts ++ behind) left are.1 refl more) broken

short_differs : (whole : ℕ) (texts : List (List ℕ)) (line : List ℕ) (later : List (List ℕ)) (behind : List ℕ) (left : ℕ) → left ≡ whole → ScriptDiffers whole (texts ++ line ∷ later) texts behind left
short_differs whole [] line later behind left is = is
short_differs whole (t ∷ texts) line later behind left is = inr (refl, short_differs whole texts line later behind left is)

-- ---- the script

pub script_broken : (publisher : Name) (bytes first behind : List ℕ) (count left : ℕ) (texts : List (List ℕ)) (c : Lists) → count < 2 ^ 32 → bytes ≡ to_be_bytes w32 count ++ first → length texts ≡ count → AllByRecursion IsText texts
    → Make (nothing_but publisher) texts c → first ≡ flat_map bytes_spelling texts ++ behind → ScriptDiffers (length bytes) (map printed (statements c)) texts behind left ⊎ ((texts ≡ map printed (statements c)) × ListsBreak c.tables c.users behind left)
    → ScriptBreaks publisher bytes left
script_broken publisher bytes first behind count left texts c few parts counted are make there broken =
    inr (count, few, record { rest = first; parts = parts; then = inr (texts, c, counted, are, make, record { rest = behind; parts = there; then = broken }) })

pub count_cause : (file : File) (publisher : Name) (before now : Seen) (view : View) (fault : SnapFault) → TakeCause file (FieldBreaks (number_at w32)) before now view fault → TakeCause file (ScriptBreaks publisher) before now view fault
count_cause file publisher before now view fault cause = cause_as file (FieldBreaks (number_at w32)) (ScriptBreaks publisher) before now view fault (λ bytes left broken. inl broken) cause

pub made_cause : (file : File) (publisher : Name) (count : ℕ) (before middle now : Seen) (v0 v1 : View) (fault : SnapFault) → count < 2 ^ 32 → HasTaken file (to_be_bytes w32 count) before middle v0 v1
    → TakeCause file (TextsBreak (nothing_but publisher) count) middle now v1 fault → TakeCause file (ScriptBreaks publisher) before now v0 fault
made_cause file publisher count before middle now v0 v1 fault few taken cause =
    cause_behind file (TextsBreak (nothing_but publisher) count) (ScriptBreaks publisher) (to_be_bytes w32 count) before middle now v0 v1 fault taken
    (λ bytes rest left is broken. inr (count, few, record { rest = rest; parts = is; then = inl broken })) cause

-- the same place, seen through another window
pub again_over : (view again : View) (bytes : List ℕ) → IsOver view bytes → again.held ≡ [] → again.place ≡ view.place → again.size ≡ view.size → IsOver again bytes
again_over view again bytes over held place size =
    record { size_is = size ∙ over.size_is; behind = drop again.place bytes; parts = sym (ap (λ (l : List ℕ). l ++ drop again.place bytes) held) }

-- nothing more was taken
taken_later : (file : File) (a : List ℕ) (before middle now : Seen) (v0 v1 : View) → HasTaken file a before middle v0 v1 → ReadAlone middle now → now.disk_faults ≡ middle.disk_faults → HasTaken file a before now v0 v1
taken_later file a before middle now v0 v1 taken read steady = record { read = read_on before middle now taken.read read; steady = steady ∙ taken.steady; over = taken.over; parts = taken.parts }

texts_once : (xs ys : List (List ℕ)) (rest other : List ℕ) → length xs < 2 ^ 32 → length xs ≡ length ys → AllByRecursion IsText xs → AllByRecursion IsText ys → flat_map bytes_spelling xs ++ rest ≡ flat_map bytes_spelling ys ++ other → xs ≡ ys
texts_once xs ys rest other few counts one two same =
    let listed : list_spelling bytes_spelling xs ++ rest ≡ list_spelling bytes_spelling ys ++ other =
    append_assoc (to_be_bytes w32 (length xs)) (flat_map bytes_spelling xs) rest ∙ (λ i. to_be_bytes w32 (counts i) ++ same i) ∙ sym (append_assoc (to_be_bytes w32 (length ys)) (flat_map bytes_spelling ys) other) in
    (begins_no_other (list_format text_format) xs ys rest other (few, one) (subst (λ (n : ℕ). n < 2 ^ 32) counts few, two) listed).0

keeps_publisher : (c : Lists) (texts : List (List ℕ)) (d : Lists) → Make c texts d → d.publisher ≡ c.publisher
keeps_publisher c [] d same = ap (λ (x : Lists). x.publisher) (sym same)
keeps_publisher c (t ∷ texts) d (s, is_next, rest) = keeps_publisher (next c s) texts d rest ∙ publisher_next c s

-- a script whose texts were taken, and then taken once more beside those of the catalog that they made
module _ (file : File) (publisher : Name) (count : ℕ) (s0 s1 s2 s3 : Seen) (v0 v1 v2 w0 w1 : View) (c : Lists) (few : count < 2 ^ 32) (counted : HasTaken file (to_be_bytes w32 count) s0 s1 v0 v1) (made : HasTakenTexts file count s1 s2 v1 v2 (nothing_but publisher) c) (place : w0.place ≡ v1.place) where
  front : HasTaken file (to_be_bytes w32 count ++ flat_map bytes_spelling made.texts) s0 s2 v0 v2
  front = taken_on file (to_be_bytes w32 count) (flat_map bytes_spelling made.texts) s0 s1 s2 v0 v1 v2 counted made.taken

  -- the bytes behind the count
  behind_count : IsTrue s0.observable → drop v1.place (bytes_of s0.files file) ≡ flat_map bytes_spelling made.texts ++ drop v2.place (bytes_of s0.files file)
  behind_count told =
      subst (λ (l : List ℕ). drop v1.place l ≡ flat_map bytes_spelling made.texts ++ drop v2.place l) (same_bytes file s0 s1 counted.read told) (made.taken.parts (then_told s0 s1 counted.read told))

  breaks : (left : ℕ) (told : IsTrue s0.observable) → ScriptDiffers (length (drop v0.place (bytes_of s0.files file))) (map printed (statements c)) made.texts (drop v2.place (bytes_of s0.files file)) left
      → ScriptBreaks publisher (drop v0.place (bytes_of s0.files file)) left
  breaks left told differs =
      let bytes = bytes_of s0.files file in
      script_broken publisher (drop v0.place bytes) (drop v1.place bytes) (drop v2.place bytes) count left made.texts c few (counted.parts told) made.counted made.are made.make (behind_count told) (inl differs)

  pub again_cause : (fault : SnapFault) → TakeCause file (RepeatBreaks (map printed (statements c)) count) s2 s3 w0 fault → TakeCause file (ScriptBreaks publisher) s0 s3 v0 fault
  again_cause Disk cause = (read_on s0 s2 s3 front.read cause.0, subst (λ (n : ℕ). Rose n s3.disk_faults) front.steady cause.1)
  again_cause (Long size limit) cause = absurd cause
  again_cause (Damaged at) cause = (
    read_on s0 s2 s3 front.read cause.0,
    cause.1 ∙ front.steady,
    λ told.
        let bytes = bytes_of s0.files file in
        let found : BreaksAt (RepeatBreaks (map printed (statements c)) count) bytes w0.place at =
        subst (λ (l : List ℕ). BreaksAt (RepeatBreaks (map printed (statements c)) count) l w0.place at) (same_bytes file s0 s2 front.read told) (cause.2 (then_told s0 s2 front.read told)) in
        let broken : RepeatBreaks (map printed (statements c)) (length made.texts) (drop v1.place bytes) found.left =
        subst (λ (n : ℕ). RepeatBreaks (map printed (statements c)) n (drop v1.place bytes) found.left) (sym made.counted) (subst (λ (n : ℕ). RepeatBreaks (map printed (statements c)) count (drop n bytes) found.left) place found.broken) in
        record {
          left = found.left;
          broken = breaks found.left told (script_differs (length (drop v0.place bytes)) (map printed (statements c)) made.texts (drop v2.place bytes) (drop v1.place bytes) found.left made.are (behind_count told) broken);
          at_is = found.at_is;
        },
  )
  again_cause Memory cause = (read_on s0 s2 s3 front.read cause.0, cause.1 ∙ front.steady)

  module _ (again : HasRepeated file (map printed (statements c)) count s2 s3 w0 w1 true) where
    script_count : length (map printed (statements c)) ≡ count
    script_count = ap (λ (l : List (List ℕ)). length l) again.ends ∙ again.counted

    script_texts : AllByRecursion IsText (map printed (statements c))
    script_texts = subst (λ (l : List (List ℕ)). AllByRecursion IsText l) (sym again.ends) again.are

    same_texts : IsTrue s0.observable → made.texts ≡ map printed (statements c)
    same_texts told =
        let bytes = bytes_of s0.files file in
        let other : drop w0.place bytes ≡ flat_map bytes_spelling again.texts ++ drop w1.place bytes =
        subst (λ (l : List ℕ). drop w0.place l ≡ flat_map bytes_spelling again.texts ++ drop w1.place l) (same_bytes file s0 s2 front.read told) (again.taken.parts (then_told s0 s2 front.read told)) in
        texts_once made.texts again.texts (drop v2.place bytes) (drop w1.place bytes) (subst (λ (n : ℕ). n < 2 ^ 32) (sym made.counted) few) (made.counted ∙ sym again.counted) made.are again.are
        (sym (behind_count told) ∙ ap (λ (n : ℕ). drop n bytes) (sym place) ∙ other) ∙ sym again.ends

    pub script_taken : HasTakenScript file publisher s0 s3 v0 v2 c
    script_taken =
        let later = taken_later file (to_be_bytes w32 count ++ flat_map bytes_spelling made.texts) s0 s2 s3 v0 v2 front again.taken.read again.taken.steady in
        record {
          taken = record {
            read = later.read;
            steady = later.steady;
            over = later.over;
            parts = λ told.
                let counts : count ≡ length (map printed (statements c)) = sym script_count in
                let same = same_texts told in
                later.parts told ∙ (λ i. (to_be_bytes w32 (counts i) ++ flat_map bytes_spelling (same i)) ++ drop v2.place (bytes_of s0.files file));
          };
          few = subst (λ (n : ℕ). n < 2 ^ 32) (sym script_count) few;
          are = script_texts;
          publisher_is = keeps_publisher (nothing_but publisher) made.texts c made.make;
          make = λ told. subst (λ (l : List (List ℕ)). Make (nothing_but publisher) l c) (same_texts told) made.make;
        }

  pub script_short : HasRepeated file (map printed (statements c)) count s2 s3 w0 w1 false → (IsTrue s0.observable → IsOver v0 (bytes_of s0.files file)) → v0.place + length v0.held ≤ v0.size → TakeCause file (ScriptBreaks publisher) s0 s3 v0 (Damaged v0.place)
  script_short again over within =
      let later = taken_later file (to_be_bytes w32 count ++ flat_map bytes_spelling made.texts) s0 s2 s3 v0 v2 front again.taken.read again.taken.steady in (
        later.read,
        later.steady,
        λ told.
            let bytes = bytes_of s0.files file in
            let other : drop w0.place bytes ≡ flat_map bytes_spelling again.texts ++ drop w1.place bytes =
            subst (λ (l : List ℕ). drop w0.place l ≡ flat_map bytes_spelling again.texts ++ drop w1.place l) (same_bytes file s0 s2 front.read told) (again.taken.parts (then_told s0 s2 front.read told)) in
            let same : made.texts ≡ again.texts =
            texts_once made.texts again.texts (drop v2.place bytes) (drop w1.place bytes) (subst (λ (n : ℕ). n < 2 ^ 32) (sym made.counted) few) (made.counted ∙ sym again.counted) made.are again.are
            (sym (behind_count told) ∙ ap (λ (n : ℕ). drop n bytes) (sym place) ∙ other) in
            let script : made.texts ++ again.ends.0 ∷ again.ends.1 ≡ map printed (statements c) = ap (λ (l : List (List ℕ)). l ++ again.ends.0 ∷ again.ends.1) same ∙ sym again.ends.2 in
            let whole = length (drop v0.place bytes) in
            record {
              left = whole;
              broken = breaks whole told (subst (λ (s : List (List ℕ)). ScriptDiffers whole s made.texts (drop v2.place bytes) whole) script (short_differs whole made.texts again.ends.0 again.ends.1 (drop v2.place bytes) whole refl));
              at_is = omega (arith, within, (over told).size_is, length-drop v0.place bytes);
            },
      )
