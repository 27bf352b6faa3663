-- Going through a log, entry by entry.
use Rattle.std.proofs.Common.{◌≡◌, ℕ, ◌+◌, List, [], ◌∷◌, refl, sym, ap, subst, ◌∙◌}
use Rattle.sr_base.specs.declared.offset.Offset.{Offset}
use Rattle.sr_base.specs.Values.{offset_from}
use Rattle.sr_book.specs.Entries.{Name}
use Rattle.std.specs.FinMap as map_of
use Rattle.sr_catalog_schema.specs.Catalogs.{Lists, nothing_but}
use Rattle.sr_database_fold.specs.Inner.Readings.{state_in, FitsAs}
use Rattle.sr_database_history.specs.Fitting.{Fits}
use Rattle.sr_database_history.specs.Folds.{State, fresh, next, size, state_from, state_of}
use Rattle.sr_database_history.specs.Inner.Laws.{Holds}
use Rattle.sr_database_history.specs.Recorded.{Recorded, entry_of}
use Rattle.sr_database_history.proofs.Kept.{fresh_holds, stays_held}
use Rattle.sr_logform.specs.declared.entry.Entry.{Entry}
use Rattle.sr_rows.specs.Inner.Steps.{at_mark}
use Rattle.sr_rows.specs.Marks.{Marked}
use Rattle.sr_world_steps.specs.Inner.Logs.{GoesOn, HasLog, IsLog, logged_from}
use Rattle.sr_world_steps.specs.Inner.Places.{Log}
use Rattle.sr_world_steps.specs.Inner.Standings.{StandsBehind}

-- the first entry of a log, and those behind it
pub record First (s : State) (place : ℕ) (rs : List Recorded) (x : Offset × Entry) (rest : Log) : Type 0 where
  pub entry : Recorded
  pub behind : List Recorded
  pub all : rs ≡ entry ∷ behind
  pub is : entry_of entry ≡ x.1
  pub ends : x.0.0 ≡ place + (size entry + 5)
  pub fits : Fits s place entry
  pub on : GoesOn (next s entry) (place + (size entry + 5)) behind rest

pub first_of : (s : State) (place : ℕ) (rs : List Recorded) (x : Offset × Entry) (rest : Log) → GoesOn s place rs (x ∷ rest) → First s place rs x rest
first_of s place [] x rest g = let never : [] ≡ x ∷ rest = g.logged in absurd (cc)
first_of s place (r ∷ rs) x rest g =
    let cons : (offset_from (place + (size r + 5)), entry_of r) ∷ logged_from (place + (size r + 5)) rs ≡ x ∷ rest = g.logged in
    let one : (offset_from (place + (size r + 5)), entry_of r) ≡ x = cc in
    let more : logged_from (place + (size r + 5)) rs ≡ rest = cc in
    record {
      entry = r;
      behind = rs;
      all = refl;
      is = ap (λ (p : Offset × Entry). p.1) one;
      ends = sym (ap (λ (p : Offset × Entry). p.0.0) one);
      fits = g.stored.0;
      on = record { stored = g.stored.1; logged = more };
    }

pub none_of : (s : State) (place : ℕ) (rs : List Recorded) → GoesOn s place rs [] → rs ≡ []
none_of s place [] g = refl
none_of s place (r ∷ rs) g =
    let never : (offset_from (place + (size r + 5)), entry_of r) ∷ logged_from (place + (size r + 5)) rs ≡ [] = g.logged in absurd (cc)

-- the entries of a history that are left, where some were gone through
pub record Left (d : Name) (rs : List Recorded) (left : Log) (s : State) : Type 0 where
  pub place : ℕ
  pub rest : List Recorded
  pub on : GoesOn s place rest left
  pub state : state_from s rest ≡ state_of d rs

-- going through the log has come so far
pub record Follows (d : Name) (log left : Log) (catalog : Lists) (rows : Marked) : Type 0 where
  pub holds : Holds (state_in catalog rows)
  pub fresh : rows ≡ at_mark rows.rows
  pub some : HasLog d log
  pub ahead : (rs : List Recorded) → IsLog d rs log → Left d rs left (state_in catalog rows)

begun : (d : Name) (log : Log) (catalog : Lists) (rows : Marked) → HasLog d log → rows ≡ at_mark rows.rows → state_in catalog rows ≡ fresh d
    → Follows d log log catalog rows
begun d log catalog rows some mark is = record {
  holds = subst Holds (sym is) (fresh_holds d);
  fresh = mark;
  some = some;
  ahead = λ rs g. record { place = 0; rest = rs; on = subst (λ (s : State). GoesOn s 0 rs log) (sym is) g; state = ap (λ (s : State). state_from s rs) is };
}

-- before any entry
pub begun_new : (d name : Name) (log : Log) (catalog : Lists) (rows : Marked) → HasLog d log → name ≡ d → catalog ≡ nothing_but name → rows.rows ≡ map_of.empty
    → rows.marked ≡ map_of.empty → rows.trail ≡ [] → Follows d log log catalog rows
begun_new d name log catalog rows some same new none marked trail =
    begun d log catalog rows some (λ i. record { rows = rows.rows; marked = (marked ∙ sym none) i; trail = trail i })
    (λ i. record { catalog = (new ∙ ap nothing_but same) i; rows = none i })

pub next_fits : (d : Name) (log left rest : Log) (catalog : Lists) (rows : Marked) (x : Offset × Entry) → Follows d log left catalog rows → left ≡ x ∷ rest
    → (r : Recorded) × FitsAs (state_in catalog rows) x.1 r
unfolding HasLog
next_fits d log left rest catalog rows x f split =
    let l = f.ahead f.some.0 f.some.1 in
    let g : GoesOn (state_in catalog rows) l.place l.rest (x ∷ rest) = subst (GoesOn (state_in catalog rows) l.place l.rest) split l.on in
    let one = first_of (state_in catalog rows) l.place l.rest x rest g in
    (one.entry, record { is = one.is; meant = one.fits.meant; fits = one.fits.state })

next_left : (d : Name) (rs : List Recorded) (left rest : Log) (s after : State) (x : Offset × Entry) → left ≡ x ∷ rest
    → ((r : Recorded) → FitsAs s x.1 r → after ≡ next s r) → Left d rs left s → Left d rs rest after
next_left d rs left rest s after x split effect l =
    let one = first_of s l.place l.rest x rest (subst (GoesOn s l.place l.rest) split l.on) in
    let is : after ≡ next s one.entry = effect one.entry (record { is = one.is; meant = one.fits.meant; fits = one.fits.state }) in
    record {
      place = l.place + (size one.entry + 5);
      rest = one.behind;
      on = subst (λ (t : State). GoesOn t (l.place + (size one.entry + 5)) one.behind rest) (sym is) one.on;
      state = ap (λ (t : State). state_from t one.behind) is ∙ ap (λ (l : List Recorded). state_from s l) (sym one.all) ∙ l.state;
    }

pub goes_on : (d : Name) (log left rest : Log) (catalog now : Lists) (rows new : Marked) (x : Offset × Entry) → Follows d log left catalog rows → left ≡ x ∷ rest
    → new ≡ at_mark new.rows
    → ((r : Recorded) → FitsAs (state_in catalog rows) x.1 r → state_in now new ≡ next (state_in catalog rows) r)
    → Follows d log rest now new
unfolding HasLog
goes_on d log left rest catalog now rows new x f split mark effect =
    let s : State = state_in catalog rows in
    let l = f.ahead f.some.0 f.some.1 in
    let one = first_of s l.place l.rest x rest (subst (GoesOn s l.place l.rest) split l.on) in
    let is : state_in now new ≡ next s one.entry = effect one.entry (record { is = one.is; meant = one.fits.meant; fits = one.fits.state }) in
    record {
      holds = subst Holds (sym is) (stays_held s l.place one.entry f.holds one.fits);
      fresh = mark;
      some = f.some;
      ahead = λ rs g. next_left d rs left rest s (state_in now new) x split effect (f.ahead rs g);
    }

all_left : (d : Name) (rs : List Recorded) (left : Log) (s : State) → left ≡ [] → Left d rs left s → s ≡ state_of d rs
all_left d rs left s none l =
    ap (λ (rest : List Recorded). state_from s rest) (sym (none_of s l.place l.rest (subst (GoesOn s l.place l.rest) none l.on))) ∙ l.state

pub ended : (d : Name) (log left : Log) (catalog : Lists) (rows : Marked) → Follows d log left catalog rows → left ≡ [] → StandsBehind d log catalog rows
ended d log left catalog rows f none = record {
  holds = f.holds;
  fresh = f.fresh;
  state = λ rs g. all_left d rs left (state_in catalog rows) none (f.ahead rs g);
}
