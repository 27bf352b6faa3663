-- Files that stand for a history: what they hold, and which they are.
use Rattle.std.proofs.Common.{◌≡◌, ℕ, ◌+◌, ◌^◌, ◌≤◌, List, [], ◌∷◌, ◌++◌, length, Some, refl, sym, ap, subst, arith, length-append}
use Rattle.std.specs.List.{AllByRecursion}
use Rattle.sr_base.specs.Fields.{IsName}
use Rattle.sr_book.specs.Entries.{Name}
use Rattle.sr_database_history.specs.Fitting.{Fits, stored_from, Stored}
use Rattle.sr_database_history.specs.Folds.{State, fresh, next, state_from, state_of, size, end_from, end_of}
use Rattle.sr_database_history.specs.Recorded.{Recorded, entry_of, IsRecorded}
use Rattle.sr_database_history.proofs.Joined.{le-end_from, stored_from-append}
use Rattle.sr_database_history.proofs.Once.{bytes_once}
use Rattle.sr_logfile.specs.Records.{record_of, open_records, IsBody, Spells}
use Rattle.sr_logfile.proofs.Records.{length-record}
use Rattle.sr_logfile.proofs.Uniqueness.{one_spelling}
use Rattle.sr_logform.specs.Entries.{entry_spelling, IsEntry}
use Rattle.sr_logform.specs.Limits.{longest_body}
use Rattle.sr_logform.specs.declared.entry.Entry.{Entry}
use Rattle.sr_logform.specs.declared.entry.Entry.TheVariants as entries
use Rattle.sr_site.specs.Files.{Files, bytes_of}
use Rattle.sr_snapshot.specs.Inner.Beginnings.{first_of}
use Rattle.sr_snapshot.specs.Beginnings.{Beginning, beginning_behind}
use Rattle.sr_snapshot.specs.Snapshots.{IsSnapshot}
use Rattle.sr_snapshot.proofs.Firsts.{first_is}
use Rattle.sr_snapshot.proofs.Uniqueness.{one_beginning}
use Rattle.sr_database_meaning.specs.Generations.{Generation, snapshot_of, log_of, generation_in}
use Rattle.sr_database_meaning.specs.Inner.Snapshots.{fresh_snapshot}
use Rattle.sr_database_meaning.specs.Standing.{body, bodies, IsSnapshotAt, StandsFor, StandFrom}
use Rattle.sr_database_meaning.proofs.Beginnings.{ends_within}

-- ---- bodies of entries

pub body_once : (r q : Recorded) → IsRecorded r → IsRecorded q → IsEntry (entry_of r) → IsEntry (entry_of q) → body r ≡ body q → r ≡ q
body_once r q n m fit fit' same = (bytes_once r q [] [] n m fit fit' (ap (λ (l : List ℕ). l ++ []) same)).0

pub bodies_once : (s : State) (place : ℕ) (es fs : List Recorded) → stored_from s place es → stored_from s place fs → bodies es ≡ bodies fs → es ≡ fs
bodies_once s place [] [] a b same = refl
bodies_once s place [] (f ∷ fs) a b same = cc
bodies_once s place (e ∷ es) [] a b same = cc
bodies_once s place (e ∷ es) (f ∷ fs) a b same =
    let heads : body e ≡ body f = cc in
    let tails : bodies es ≡ bodies fs = cc in
    let is : e ≡ f = body_once e f a.0.meant b.0.meant a.0.spelled b.0.spelled heads in
    let are : es ≡ fs = bodies_once (next s e) (place + (size e + 5)) es fs a.1 (subst (λ (x : Recorded). stored_from (next s x) (place + (size x + 5)) fs) (sym is) b.1) tails in
    cc

-- entries that go on where others end
pub record GoesOn (s : State) (place : ℕ) (ds es : List Recorded) (b : List ℕ) : Type 0 where
  pub r : Recorded
  pub rs : List Recorded
  pub is : es ≡ ds ++ r ∷ rs
  pub body_is : body r ≡ b
  pub fits : Fits (state_from s ds) (end_from place ds) r

pub goes_on : (s : State) (place : ℕ) (ds es : List Recorded) (b : List ℕ) (more : List (List ℕ)) → stored_from s place ds → stored_from s place es → bodies es ≡ bodies ds ++ b ∷ more → GoesOn s place ds es b
goes_on s place [] [] b more d e same = cc
goes_on s place [] (r ∷ rs) b more d e same =
    let heads : body r ≡ b = cc in
    record { r = r; rs = rs; is = refl; body_is = heads; fits = e.0 }
goes_on s place (x ∷ ds) [] b more d e same = cc
goes_on s place (x ∷ ds) (y ∷ es) b more d e same =
    let heads : body y ≡ body x = cc in
    let tails : bodies es ≡ bodies ds ++ b ∷ more = cc in
    let is : y ≡ x = body_once y x e.0.meant d.0.meant e.0.spelled d.0.spelled heads in
    let on = goes_on (next s x) (place + (size x + 5)) ds es b more d.1 (subst (λ (z : Recorded). stored_from (next s z) (place + (size z + 5)) es) is e.1) tails in
    record { r = on.r; rs = on.rs; is = λ i. is i ∷ on.is i; body_is = on.body_is; fits = on.fits }

-- the length of a body is the size of its entry
pub size_is : (r : Recorded) → size r ≡ length (body r)
unfolding size
size_is r = refl

pub ends_are : (place : ℕ) (es : List Recorded) → end_from place es ≡ place + length (open_records (bodies es))
ends_are place [] = omega arith
ends_are place (r ∷ rs) = omega (arith, ends_are (place + (size r + 5)) rs, size_is r, length-record (body r), length-append (1 ∷ record_of (body r)) (open_records (bodies rs)))

longest : (e : Entry) → longest_body e ≤ 2 ^ 26
longest (entries.Own changes) = omega arith
longest (entries.From user at ops) = omega arith
longest (entries.Ddl text) = omega arith
longest (entries.Sync user tables) = omega arith
longest (entries.Pass users only text changes) = omega arith
longest (entries.Note user note) = omega arith

pub some_byte : (e : Entry) → 1 ≤ length (entry_spelling e)
unfolding entry_spelling
some_byte (entries.Own changes) = omega arith
some_byte (entries.From user at ops) = omega arith
some_byte (entries.Ddl text) = omega arith
some_byte (entries.Sync user tables) = omega arith
some_byte (entries.Pass users only text changes) = omega arith
some_byte (entries.Note user note) = omega arith

pub is_body : (s : State) (place : ℕ) (r : Recorded) → Fits s place r → IsBody (body r)
is_body s place r fits = (some_byte (entry_of r), omega (arith, fits.short, longest (entry_of r), size_is r))

pub are_bodies : (s : State) (place : ℕ) (es : List Recorded) → stored_from s place es → AllByRecursion IsBody (bodies es)
are_bodies s place [] stored = tt
are_bodies s place (r ∷ rs) stored = (is_body s place r stored.0, are_bodies (next s r) (place + (size r + 5)) rs stored.1)

-- entries behind an offset end in front of the last one
pub within : (s : State) (place : ℕ) (es : List Recorded) → place ≤ 2 ^ 62 → stored_from s place es → place + length (open_records (bodies es)) ≤ 2 ^ 62
within s place es limit stored = omega (arith, ends_within s place es limit stored, ends_are place es)

-- entries that end at one place are parted from those behind them in one way
pub one_part : (place : ℕ) (done left ds ls : List Recorded) → done ++ left ≡ ds ++ ls → end_from place done ≡ end_from place ds → (done ≡ ds) × (left ≡ ls)
one_part place [] left [] ls same ends = (refl, same)
one_part place [] left (y ∷ ds) ls same ends = absurd (omega (arith, ends, le-end_from (place + (size y + 5)) ds))
one_part place (x ∷ done) left [] ls same ends = absurd (omega (arith, ends, le-end_from (place + (size x + 5)) done))
one_part place (x ∷ done) left (y ∷ ds) ls same ends =
    let heads : x ≡ y = cc in
    let tails : done ++ left ≡ ds ++ ls = cc in
    let both = one_part (place + (size y + 5)) done left ds ls tails (subst (λ (r : Recorded). end_from (place + (size r + 5)) done ≡ end_from (place + (size y + 5)) ds) heads ends) in
    (λ i. heads i ∷ both.0 i, both.1)

-- ---- standing, in one generation

pub of_beginning : (publisher : Name) (done : List Recorded) (bytes : List ℕ) → IsSnapshotAt publisher done bytes → IsSnapshot (beginning_behind publisher done) bytes
unfolding IsSnapshotAt
of_beginning publisher done bytes is = is

pub at_beginning : (publisher : Name) (done : List Recorded) (bytes : List ℕ) → IsSnapshot (beginning_behind publisher done) bytes → IsSnapshotAt publisher done bytes
unfolding IsSnapshotAt
at_beginning publisher done bytes is = is

pub fresh_there : (publisher : Name) (bytes : List ℕ) → IsName publisher → bytes ≡ fresh_snapshot publisher → IsSnapshotAt publisher [] bytes
fresh_there publisher bytes name is = at_beginning publisher [] bytes (subst (λ (l : List ℕ). IsSnapshot (first_of publisher) l) (sym is) (first_is publisher name))

-- a new database
pub record Stands (generation : Generation) (publisher : Name) (es : List Recorded) (files : Files) : Type 0 where
  pub root : generation_in files.root ≡ Some generation
  pub name : IsName publisher
  pub stored : Stored publisher es
  pub snapshot : bytes_of files (snapshot_of generation) ≡ fresh_snapshot publisher
  pub log : Spells 0 (bodies es) (bytes_of files (log_of generation))

pub stands_for : (generation : Generation) (publisher : Name) (es : List Recorded) (files : Files) → Stands generation publisher es files → StandsFor publisher es 0 files
stands_for generation publisher es files s =
    record {
      generation = generation;
      root = s.root;
      name = s.name;
      stored = s.stored;
      done = [];
      left = es;
      parts = refl;
      base_is = refl;
      snapshot = fresh_there publisher (bytes_of files (snapshot_of generation)) s.name s.snapshot;
      log = s.log;
    }

-- a root names one generation
pub one_generation : (files : Files) (g h : Generation) → generation_in files.root ≡ Some g → generation_in files.root ≡ Some h → g ≡ h
one_generation files g h a b = cc

pub is_stored : (publisher : Name) (es : List Recorded) (base : ℕ) (files : Files) → StandsFor publisher es base files → Stored publisher es
is_stored publisher es base files s = s.stored

-- what is stored behind other entries, and where these end
pub behind : (publisher : Name) (done es : List Recorded) → Stored publisher (done ++ es) → stored_from (state_of publisher done) (end_of done) es
behind publisher done es stored = ((stored_from-append (fresh publisher) 0 done es).0 stored).1

-- files that stand for a history stand behind the beginning that their snapshot tells
pub stand_behind : (publisher : Name) (es : List Recorded) (base : ℕ) (files : Files) → (s : StandsFor publisher es base files) → StandFrom (beginning_behind publisher s.done) s.left files
stand_behind publisher es base files s =
    record {
      generation = s.generation;
      root = s.root;
      snapshot = of_beginning publisher s.done (bytes_of files (snapshot_of s.generation)) s.snapshot;
      stored = behind publisher s.done s.left (subst (λ (l : List Recorded). Stored publisher l) s.parts s.stored);
      log = subst (λ (n : ℕ). Spells n (bodies s.left) (bytes_of files (log_of s.generation))) s.base_is s.log;
    }

-- whoever stands behind its beginning with these entries stands for the history
pub stands_whole : (publisher : Name) (done left : List Recorded) (files : Files) → IsName publisher → Stored publisher (done ++ left) → StandFrom (beginning_behind publisher done) left files → StandsFor publisher (done ++ left) (end_of done) files
stands_whole publisher done left files name stored s =
    record {
      generation = s.generation;
      root = s.root;
      name = name;
      stored = stored;
      done = done;
      left = left;
      parts = refl;
      base_is = refl;
      snapshot = at_beginning publisher done (bytes_of files (snapshot_of s.generation)) s.snapshot;
      log = s.log;
    }

-- files stand behind one beginning, with one list of entries
pub one_standing : (b c : Beginning) (es fs : List Recorded) (files : Files) → StandFrom b es files → StandFrom c fs files → (b ≡ c) × (es ≡ fs)
one_standing b c es fs files s t =
    let g : t.generation ≡ s.generation = one_generation files t.generation s.generation t.root s.root in
    let kept : IsSnapshot c (bytes_of files (snapshot_of s.generation)) = subst (λ (x : Generation). IsSnapshot c (bytes_of files (snapshot_of x))) g t.snapshot in
    let log : Spells c.place (bodies fs) (bytes_of files (log_of s.generation)) = subst (λ (x : Generation). Spells c.place (bodies fs) (bytes_of files (log_of x))) g t.log in
    let same : b ≡ c = one_beginning b c (bytes_of files (snapshot_of s.generation)) s.snapshot kept in
    let stored : stored_from b.state b.place fs = subst (λ (x : Beginning). stored_from x.state x.place fs) (sym same) t.stored in
    (same, bodies_once b.state b.place es fs s.stored stored (one_spelling (bytes_of files (log_of s.generation)) b.place c.place (bodies es) (bodies fs) s.log log).1)
