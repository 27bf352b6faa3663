-- Entries by their kinds: the recorded ones that they are taken to mean.
use Rattle.std.proofs.Common.{◌≡◌, ◌↔◌, ℕ, Bool, true, false, List, map, IsTrue, refl, sym, ap, subst}
use Rattle.std.specs.List.{AllByRecursion}
use Rattle.sr_base.specs.declared.offset.Offset.{Offset}
use Rattle.sr_base.specs.declared.value.Value.{Value as Cell}
use Rattle.sr_ast.specs.Layout.{printed}
use Rattle.sr_ast.specs.Statements.{is_ddl, is_carried}
use Rattle.sr_ast.specs.declared.stmt.Stmt.{Stmt}
use Rattle.sr_book.specs.Entries.{Name}
use Rattle.sr_book.specs.declared.note.Note.{Note}
use Rattle.sr_exec_dml.specs.Applying.{applied}
use Rattle.sr_exec_dml.specs.FittingChanges.{ChangesFit}
use Rattle.sr_database_history.specs.Fitting.{Knows, IsAccepted, FitsState}
use Rattle.sr_database_history.specs.Folds.{State, with_statement, after_dones, next}
use Rattle.sr_database_history.specs.Recorded.{Done, done_of, Recorded, own, taken, ddl, sync, pass, note}
use Rattle.sr_logform.specs.declared.change.Change.{Change}
use Rattle.sr_logform.specs.declared.entry.Entry.TheVariants as entries
use Rattle.sr_logform.specs.declared.op.Op.{Op}
use Rattle.sr_logform.specs.declared.outcome.Outcome.{Outcome}
use Rattle.sr_database_fold.specs.Inner.Answers.{Tells, TellsOne}
use Rattle.sr_database_fold.specs.Inner.Readings.{FitsAs}
use Rattle.sr_database_fold.specs.Inner.Deeds.{DoFit}
use Rattle.sr_database_fold.specs.Inner.Parts.{IsTextOf, RunsToo, IsPassedOn, after_run}

-- ---- Own

pub own_of : (s : State) (changes : List Change) (r : Recorded) → FitsAs s (entries.Own changes) r → (r ≡ own changes) × ChangesFit s.catalog s.rows changes
unfolding FitsState
own_of s changes (own cs) f = let e = f.is in let same : cs ≡ changes = cc in
    (ap (λ (l : List Change). own l) same, subst (λ (l : List Change). ChangesFit s.catalog s.rows l) same f.fits)
own_of s changes (taken user at dones) f = let e = f.is in cc
own_of s changes (ddl statement) f = let e = f.is in cc
own_of s changes (sync user tables) f = let e = f.is in cc
own_of s changes (pass users only statement cs) f = let e = f.is in cc
own_of s changes (note user what) f = let e = f.is in cc

pub own_told : (s after : State) (changes : List Change) (told : Bool) → after.catalog ≡ s.catalog
    → Tells (ChangesFit s.catalog s.rows changes) (after.rows ≡ applied s.catalog changes s.rows) told
    → TellsOne (FitsAs s (entries.Own changes)) (next s) after told
unfolding FitsState next
own_told s after changes true same h = (own changes, record { is = refl; meant = tt; fits = h.0 }, λ i. record { catalog = same i; rows = h.1 i })
own_told s after changes false same h = λ r f. h (own_of s changes r f).1

-- ---- From

pub taken_of : (s : State) (user : Name) (at : Offset) (ops : List (Op × Outcome)) (r : Recorded) → FitsAs s (entries.From user at ops) r
    → Knows s user × ((dones : List Done) × (r ≡ taken user at dones) × DoFit s ops dones)
unfolding FitsState
taken_of s user at ops (own cs) f = let e = f.is in cc
taken_of s user at ops (taken u a dones) f =
    let e = f.is in
    let users : u ≡ user = cc in
    let ats : a ≡ at = cc in
    let are : map done_of dones ≡ ops = cc in (
      subst (λ (n : Name). Knows s n) users f.fits.0,
      (dones, (λ i. taken (users i) (ats i) dones), record { are = are; meant = f.meant; fit = f.fits.1 }),
    )
taken_of s user at ops (ddl statement) f = let e = f.is in cc
taken_of s user at ops (sync u tables) f = let e = f.is in cc
taken_of s user at ops (pass users only statement cs) f = let e = f.is in cc
taken_of s user at ops (note u what) f = let e = f.is in cc

pub taken_told : (s after : State) (user : Name) (at : Offset) (ops : List (Op × Outcome)) (told : Bool) → Knows s user
    → TellsOne (DoFit s ops) (λ dones. after_dones dones s) after told → TellsOne (FitsAs s (entries.From user at ops)) (next s) after told
unfolding FitsState next
taken_told s after user at ops true known h = (
  taken user at h.0,
  record { is = ap (λ (l : List (Op × Outcome)). entries.From user at l) h.1.are; meant = h.1.meant; fits = (known, h.1.fit) },
  h.2,
)
taken_told s after user at ops false known h = λ r f. let t = taken_of s user at ops r f in h t.1.0 t.1.2

pub taken_unknown : (s after : State) (user : Name) (at : Offset) (ops : List (Op × Outcome)) → ¬ (Knows s user)
    → TellsOne (FitsAs s (entries.From user at ops)) (next s) after false
taken_unknown s after user at ops never = λ r f. never (taken_of s user at ops r f).0

-- ---- Ddl

pub ddl_of : (s : State) (text : List ℕ) (r : Recorded) → FitsAs s (entries.Ddl text) r → (statement : Stmt) × IsTextOf is_ddl text statement × IsAccepted s statement × (r ≡ ddl statement)
unfolding FitsState
ddl_of s text (own cs) f = let e = f.is in cc
ddl_of s text (taken u a dones) f = let e = f.is in cc
ddl_of s text (ddl statement) f = let e = f.is in let prints : printed statement ≡ text = cc in
    (statement, record { prints = record { normal = f.meant.0; prints = prints }; is_kind = f.meant.1 }, f.fits, refl)
ddl_of s text (sync u tables) f = let e = f.is in cc
ddl_of s text (pass users only statement cs) f = let e = f.is in cc
ddl_of s text (note u what) f = let e = f.is in cc

pub ddl_fits : (s : State) (text : List ℕ) (statement : Stmt) → IsTextOf is_ddl text statement → IsAccepted s statement → FitsAs s (entries.Ddl text) (ddl statement)
unfolding FitsState
ddl_fits s text statement t accepted = record { is = ap (λ (l : List ℕ). entries.Ddl l) t.prints.prints; meant = (t.prints.normal, t.is_kind); fits = accepted }

pub ddl_told : (s after : State) (text : List ℕ) (statement : Stmt) → IsTextOf is_ddl text statement → IsAccepted s statement → after ≡ with_statement statement s
    → TellsOne (FitsAs s (entries.Ddl text)) (next s) after true
unfolding next
ddl_told s after text statement t accepted is = (ddl statement, ddl_fits s text statement t accepted, is)

-- ---- Pass

pub pass_of : (s : State) (users : List Name) (only : Bool) (text : List ℕ) (changes : List Change) (r : Recorded) → FitsAs s (entries.Pass users only text changes) r
    → AllByRecursion (Knows s) users × ((statement : Stmt) × (r ≡ pass users only statement changes) × IsTextOf is_carried text statement × FitsState s (pass users only statement changes))
unfolding FitsState
pass_of s users only text changes (own cs) f = let e = f.is in cc
pass_of s users only text changes (taken u a dones) f = let e = f.is in cc
pass_of s users only text changes (ddl statement) f = let e = f.is in cc
pass_of s users only text changes (sync u tables) f = let e = f.is in cc
pass_of s users only text changes (pass us o statement cs) f =
    let e = f.is in
    let names : us ≡ users = cc in
    let onlys : o ≡ only = cc in
    let prints : printed statement ≡ text = cc in
    let same : cs ≡ changes = cc in
    let is : pass us o statement cs ≡ pass users only statement changes = cc in
    let fits = subst (λ (r : Recorded). FitsState s r) is f.fits in
    (fits.0, (statement, is, record { prints = record { normal = f.meant.0; prints = prints }; is_kind = f.meant.1 }, fits))
pass_of s users only text changes (note u what) f = let e = f.is in cc

pub pass_told : (s after : State) (users : List Name) (text : List ℕ) (changes : List Change) (told : Bool) → AllByRecursion (Knows s) users
    → TellsOne (RunsToo s text changes) (after_run s changes) after told → TellsOne (FitsAs s (entries.Pass users false text changes)) (next s) after told
unfolding FitsState next
pass_told s after users text changes true known h = (
  pass users false h.0 changes,
  record {
    is = ap (λ (t : List ℕ). entries.Pass users false t changes) h.1.runs.stands.prints.prints;
    meant = (h.1.runs.stands.prints.normal, h.1.runs.stands.is_kind);
    fits = (known, h.1.runs.fit, h.1.runs.accepted, h.1.may);
  },
  h.2,
)
pass_told s after users text changes false known h = λ r f.
    let p = pass_of s users false text changes r f in
    h p.1.0 (record { runs = record { stands = p.1.2; accepted = p.1.3.2; fit = p.1.3.1 }; may = p.1.3.3 })

pub only_told : (s : State) (users : List Name) (text : List ℕ) (changes : List Change) (told : Bool) → AllByRecursion (Knows s) users
    → IsTrue told ↔ ((statement : Stmt) × IsPassedOn text changes statement) → TellsOne (FitsAs s (entries.Pass users true text changes)) (next s) s told
unfolding FitsState next
only_told s users text changes true known h =
    let passed = h.0 refl in (
      pass users true passed.0 changes,
      record {
        is = ap (λ (t : List ℕ). entries.Pass users true t changes) passed.1.stands.prints.prints;
        meant = (passed.1.stands.prints.normal, passed.1.stands.is_kind);
        fits = (known, subst (λ (l : List Change). ChangesFit s.catalog s.rows l) (sym passed.1.none) tt, tt, passed.1.none);
      },
      refl,
    )
only_told s users text changes false known h = λ r f.
    let p = pass_of s users true text changes r f in
    let no = h.1 (p.1.0, record { stands = p.1.2; none = p.1.3.3 }) in
    cc

pub pass_unknown : (s after : State) (users : List Name) (only : Bool) (text : List ℕ) (changes : List Change) → ¬ (AllByRecursion (Knows s) users)
    → TellsOne (FitsAs s (entries.Pass users only text changes)) (next s) after false
pass_unknown s after users only text changes never = λ r f. never (pass_of s users only text changes r f).0

-- ---- Sync and Note

pub sync_of : (s : State) (user : Name) (tables : List (Name × List (List Cell))) (r : Recorded) → FitsAs s (entries.Sync user tables) r
    → (r ≡ sync user tables) × Knows s user
unfolding FitsState
sync_of s user tables (own cs) f = let e = f.is in cc
sync_of s user tables (taken u a dones) f = let e = f.is in cc
sync_of s user tables (ddl statement) f = let e = f.is in cc
sync_of s user tables (sync u ts) f = let e = f.is in let users : u ≡ user = cc in let is : sync u ts ≡ sync user tables = cc in
    (is, subst (λ (n : Name). Knows s n) users f.fits)
sync_of s user tables (pass users only statement cs) f = let e = f.is in cc
sync_of s user tables (note u what) f = let e = f.is in cc

pub sync_told : (s : State) (user : Name) (tables : List (Name × List (List Cell))) (told : Bool) → IsTrue told ↔ Knows s user
    → TellsOne (FitsAs s (entries.Sync user tables)) (next s) s told
unfolding FitsState next
sync_told s user tables true h = (sync user tables, record { is = refl; meant = tt; fits = h.0 refl }, refl)
sync_told s user tables false h = λ r f. let known = h.1 (sync_of s user tables r f).1 in cc

pub note_of : (s : State) (user : Name) (what : Note) (r : Recorded) → FitsAs s (entries.Note user what) r → (r ≡ note user what) × Knows s user
unfolding FitsState
note_of s user what (own cs) f = let e = f.is in cc
note_of s user what (taken u a dones) f = let e = f.is in cc
note_of s user what (ddl statement) f = let e = f.is in cc
note_of s user what (sync u ts) f = let e = f.is in cc
note_of s user what (pass users only statement cs) f = let e = f.is in cc
note_of s user what (note u w) f = let e = f.is in let users : u ≡ user = cc in let is : note u w ≡ note user what = cc in
    (is, subst (λ (n : Name). Knows s n) users f.fits)

pub note_told : (s : State) (user : Name) (what : Note) (told : Bool) → IsTrue told ↔ Knows s user
    → TellsOne (FitsAs s (entries.Note user what)) (next s) s told
unfolding FitsState next
note_told s user what true h = (note user what, record { is = refl; meant = tt; fits = h.0 refl }, refl)
note_told s user what false h = λ r f. let known = h.1 (note_of s user what r f).1 in cc
