-- Histories for which the same files stand are alike, and come to the same.
use Rattle.std.proofs.Common.{◌≡◌, ℕ, ◌+◌, List, [], ◌∷◌, ◌++◌, refl, sym, ◌∙◌, ap, subst, arith, append_assoc}
use Rattle.sr_book.specs.Books.{new_book}
use Rattle.sr_book.specs.Entries.{Name}
use Rattle.sr_book.specs.Histories.{book_from}
use Rattle.sr_book.specs.declared.book.Book.{Book}
use Rattle.sr_book.proofs.Folds.{book_from-append}
use Rattle.sr_database_history.specs.Fitting.{Fits, stored_from, Stored}
use Rattle.sr_database_history.specs.Folds.{State, fresh, state_from, state_of, size, end_from, end_of, sees, books_of}
use Rattle.sr_database_history.specs.Recorded.{Recorded}
use Rattle.sr_database_history.proofs.Joined.{state_from-append, end_from-append, le-end_from, stored_from-append, stored_from-more}
use Rattle.sr_logfile.specs.Records.{Spells}
use Rattle.sr_logfile.proofs.Uniqueness.{one_spelling}
use Rattle.sr_site.specs.Files.{Files, bytes_of}
use Rattle.sr_database_meaning.specs.Inner.Alike.{AreAlike, ComeToSame}
use Rattle.sr_database_meaning.specs.Generations.{Generation, snapshot_of, log_of}
use Rattle.sr_database_meaning.specs.Standing.{bodies, IsSnapshotAt, StandsFor}
use Rattle.sr_database_meaning.proofs.Beginnings.{one_publisher, same_books}
use Rattle.sr_database_meaning.proofs.Standing.{behind, bodies_once, of_beginning, one_generation, one_part}
use Rattle.sr_snapshot.specs.Beginnings.{Beginning, beginning_behind}
use Rattle.sr_snapshot.specs.Snapshots.{IsSnapshot}
use Rattle.sr_snapshot.proofs.Uniqueness.{one_beginning}

-- ---- what one snapshot keeps

come_itself : (publisher : Name) (done : List Recorded) (base : ℕ) → base ≡ end_of done → ComeToSame publisher done done base
come_itself publisher done base at =
    record { end = at; end_too = at; state = refl; books = λ user. refl; snapshots = λ bytes is. is; snapshots_too = λ bytes is. is }

-- two histories that come to one beginning come to the same
come_to_same : (publisher : Name) (done dones : List Recorded) (base : ℕ) → Stored publisher done → Stored publisher dones → beginning_behind publisher done ≡ beginning_behind publisher dones → base ≡ end_of done → ComeToSame publisher done dones base
unfolding IsSnapshotAt
come_to_same publisher done dones base stored stored' same at =
    record {
      end = at;
      end_too = at ∙ ap (λ (b : Beginning). b.place) same;
      state = ap (λ (b : Beginning). b.state) same;
      books = same_books publisher done dones stored stored' same;
      snapshots = λ bytes is. subst (λ (b : Beginning). IsSnapshot b bytes) same is;
      snapshots_too = λ bytes is. subst (λ (b : Beginning). IsSnapshot b bytes) (sym same) is;
    }

-- two histories of which one snapshot is kept are of one publisher, and come to the same: a snapshot is of one beginning
same_snapshot : (publisher other : Name) (done dones : List Recorded) (bytes : List ℕ) → Stored publisher done → Stored other dones
    → IsSnapshotAt publisher done bytes → IsSnapshotAt other dones bytes → (publisher ≡ other) × ((base : ℕ) → base ≡ end_of done → ComeToSame publisher done dones base)
same_snapshot publisher other done dones bytes stored stored' one two =
    let same : beginning_behind publisher done ≡ beginning_behind other dones
    = one_beginning (beginning_behind publisher done) (beginning_behind other dones) bytes (of_beginning publisher done bytes one) (of_beginning other dones bytes two) in
    let its : publisher ≡ other = one_publisher publisher other done dones same in (
      its,
      λ base at. come_to_same publisher done dones base stored (subst (λ (p : Name). Stored p dones) (sym its) stored') (same ∙ ap (λ (p : Name). beginning_behind p dones) (sym its)) at,
    )

-- ---- files

pub stored_front : (publisher : Name) (done left : List Recorded) → Stored publisher (done ++ left) → Stored publisher done
stored_front publisher done left stored = ((stored_from-append (fresh publisher) 0 done left).0 stored).0

stored_parts : (publisher : Name) (es : List Recorded) (base : ℕ) (files : Files) → (s : StandsFor publisher es base files) → Stored publisher (s.done ++ s.left)
stored_parts publisher es base files s = subst (λ (l : List Recorded). Stored publisher l) s.parts s.stored

pub alike_itself : (publisher : Name) (es : List Recorded) (base : ℕ) (files : Files) → StandsFor publisher es base files → AreAlike publisher es es base
alike_itself publisher es base files s =
    record {
      stored = s.stored;
      stored_too = s.stored;
      done = s.done;
      dones = s.done;
      left = s.left;
      es_are = s.parts;
      others_are = s.parts;
      begins = come_itself publisher s.done base s.base_is;
    }

pub alike_back : (publisher : Name) (es others : List Recorded) (base : ℕ) → AreAlike publisher es others base → AreAlike publisher others es base
alike_back publisher es others base a =
    record {
      stored = a.stored_too;
      stored_too = a.stored;
      done = a.dones;
      dones = a.done;
      left = a.left;
      es_are = a.others_are;
      others_are = a.es_are;
      begins = record {
        end = a.begins.end_too;
        end_too = a.begins.end;
        state = sym a.begins.state;
        books = λ user. sym (a.begins.books user);
        snapshots = a.begins.snapshots_too;
        snapshots_too = a.begins.snapshots;
      };
    }

-- behind what comes to the same, the same bodies are of the same entries
same_left : (publisher : Name) (done dones left lefts : List Recorded) (base : ℕ) → ComeToSame publisher done dones base → Stored publisher (done ++ left) → Stored publisher (dones ++ lefts) → bodies left ≡ bodies lefts → left ≡ lefts
same_left publisher done dones left lefts base c stored stored' same =
    let there : stored_from (state_of publisher dones) (end_of dones) lefts = behind publisher dones lefts stored' in
    let end : end_of dones ≡ end_of done = sym c.end_too ∙ c.end in
    bodies_once (state_of publisher done) (end_of done) left lefts (behind publisher done left stored)
    (subst (λ (s : State). stored_from s (end_of done) lefts) (sym c.state) (subst (λ (n : ℕ). stored_from (state_of publisher dones) n lefts) end there)) same

-- the same files, with the generation that both name
record SameFiles (publisher other : Name) (done dones : List Recorded) (base place : ℕ) (left lefts : List Recorded) : Type 0 where
  base_is : base ≡ place
  one : publisher ≡ other
  begins : ComeToSame publisher done dones base
  same : bodies left ≡ bodies lefts

same_files : (publisher other : Name) (es others : List Recorded) (base place : ℕ) (files : Files) → (s : StandsFor publisher es base files) → (t : StandsFor other others place files)
    → SameFiles publisher other s.done t.done base place s.left t.left
same_files publisher other es others base place files s t =
    let g : t.generation ≡ s.generation = one_generation files t.generation s.generation t.root s.root in
    let snapshot : List ℕ = bytes_of files (snapshot_of s.generation) in
    let log : List ℕ = bytes_of files (log_of s.generation) in
    let kept : IsSnapshotAt other t.done snapshot = subst (λ (x : Generation). IsSnapshotAt other t.done (bytes_of files (snapshot_of x))) g t.snapshot in
    let spells : Spells place (bodies t.left) log = subst (λ (x : Generation). Spells place (bodies t.left) (bytes_of files (log_of x))) g t.log in
    let spelled = one_spelling log base place (bodies s.left) (bodies t.left) s.log spells in
    let both = same_snapshot publisher other s.done t.done snapshot (stored_front publisher s.done s.left (stored_parts publisher es base files s)) (stored_front other t.done t.left (stored_parts other others place files t)) s.snapshot kept in
    record { base_is = spelled.0; one = both.0; begins = both.1 base s.base_is; same = spelled.1 }

-- histories for which the same files stand are alike from the log's base on
pub alike : (publisher other : Name) (es others : List Recorded) (base place : ℕ) (files : Files) → StandsFor publisher es base files → StandsFor other others place files
    → (publisher ≡ other) × (base ≡ place) × AreAlike publisher es others base
alike publisher other es others base place files s t =
    let f = same_files publisher other es others base place files s t in
    let stored' : Stored publisher others = subst (λ (p : Name). Stored p others) (sym f.one) t.stored in
    let left_is : s.left ≡ t.left = same_left publisher s.done t.done s.left t.left base f.begins (stored_parts publisher es base files s) (subst (λ (l : List Recorded). Stored publisher l) t.parts stored') f.same in (
      f.one,
      f.base_is,
      record {
        stored = s.stored;
        stored_too = stored';
        done = s.done;
        dones = t.done;
        left = s.left;
        es_are = s.parts;
        others_are = t.parts ∙ ap (λ (l : List Recorded). t.done ++ l) (sym left_is);
        begins = f.begins;
      },
    )

-- files that stand for the one stand for the other, in the same generation
pub record StandsToo (generation : Generation) (publisher : Name) (others : List Recorded) (base : ℕ) (files : Files) : Type 0 where
  pub stands : StandsFor publisher others base files
  pub same : stands.generation ≡ generation

pub stands_too : (publisher : Name) (es others : List Recorded) (base : ℕ) (files : Files) → AreAlike publisher es others base → (s : StandsFor publisher es base files) → StandsToo s.generation publisher others base files
stands_too publisher es others base files a s =
    let parted = one_part 0 s.done s.left a.done a.left (sym s.parts ∙ a.es_are) (sym s.base_is ∙ a.begins.end) in
    let snapshot : List ℕ = bytes_of files (snapshot_of s.generation) in
    record {
      stands = record {
        generation = s.generation;
        root = s.root;
        name = s.name;
        stored = a.stored_too;
        done = a.dones;
        left = a.left;
        parts = a.others_are;
        base_is = a.begins.end_too;
        snapshot = a.begins.snapshots snapshot (subst (λ (ds : List Recorded). IsSnapshotAt publisher ds snapshot) parted.0 s.snapshot);
        log = subst (λ (ls : List Recorded). Spells base (bodies ls) (bytes_of files (log_of s.generation))) parted.1 s.log;
      };
      same = refl;
    }

pub stands_alike : (publisher : Name) (es others : List Recorded) (base : ℕ) (files : Files) → AreAlike publisher es others base → StandsFor publisher es base files → StandsFor publisher others base files
stands_alike publisher es others base files a s = (stands_too publisher es others base files a s).stands

-- ---- where nothing lies before the base

none_before : (ds : List Recorded) → 0 ≡ end_of ds → ds ≡ []
none_before [] end = refl
none_before (r ∷ rs) end = absurd (omega (arith, end, le-end_from (0 + (size r + 5)) rs))

pub alike_first : (publisher : Name) (es others : List Recorded) → AreAlike publisher es others 0 → es ≡ others
alike_first publisher es others a =
    a.es_are ∙ ap (λ (ds : List Recorded). ds ++ a.left) (none_before a.done a.begins.end ∙ sym (none_before a.dones a.begins.end_too)) ∙ sym a.others_are

pub whole : (publisher other : Name) (es others : List Recorded) (place : ℕ) (files : Files) → StandsFor publisher es 0 files → StandsFor other others place files → (publisher ≡ other) × (es ≡ others)
whole publisher other es others place files s t =
    let a = alike publisher other es others 0 place files s t in
    (a.0, alike_first publisher es others a.2)

-- ---- what both come to

module _ (publisher : Name) (es others : List Recorded) (base : ℕ) (a : AreAlike publisher es others base) where
  pub alike_state : state_of publisher es ≡ state_of publisher others
  alike_state =
      ap (state_of publisher) a.es_are ∙ state_from-append (fresh publisher) a.done a.left
      ∙ ap (λ (s : State). state_from s a.left) a.begins.state
      ∙ sym (ap (state_of publisher) a.others_are ∙ state_from-append (fresh publisher) a.dones a.left)

  pub alike_end : end_of es ≡ end_of others
  alike_end =
      ap end_of a.es_are ∙ end_from-append 0 a.done a.left
      ∙ ap (λ (n : ℕ). end_from n a.left) (sym a.begins.end ∙ a.begins.end_too)
      ∙ sym (ap end_of a.others_are ∙ end_from-append 0 a.dones a.left)

  pub alike_books : (user : Name) → books_of user es ≡ books_of user others
  alike_books user =
      ap (books_of user) a.es_are ∙ book_from-append sees user new_book a.done a.left
      ∙ ap (λ (b : Book). book_from sees user b a.left) (a.begins.books user)
      ∙ sym (ap (books_of user) a.others_are ∙ book_from-append sees user new_book a.dones a.left)

-- ---- an entry more

pub alike_more : (publisher : Name) (es others : List Recorded) (r : Recorded) (base : ℕ) → AreAlike publisher es others base → Stored publisher (es ++ r ∷ []) → AreAlike publisher (es ++ r ∷ []) (others ++ r ∷ []) base
alike_more publisher es others r base a stored =
    let parts = (stored_from-more (fresh publisher) 0 es r).0 stored in
    let fits : Fits (state_of publisher others) (end_of others) r
    = subst (λ (s : State). Fits s (end_of others) r) (alike_state publisher es others base a) (subst (λ (n : ℕ). Fits (state_of publisher es) n r) (alike_end publisher es others base a) parts.1) in
    record {
      stored = stored;
      stored_too = (stored_from-more (fresh publisher) 0 others r).1 (a.stored_too, fits);
      done = a.done;
      dones = a.dones;
      left = a.left ++ r ∷ [];
      es_are = ap (λ (l : List Recorded). l ++ r ∷ []) a.es_are ∙ append_assoc a.done a.left (r ∷ []);
      others_are = ap (λ (l : List Recorded). l ++ r ∷ []) a.others_are ∙ append_assoc a.dones a.left (r ∷ []);
      begins = a.begins;
    }

-- a history that is alike to one with an entry behind the base has that entry too, and is alike without it
pub record AlikeBefore (publisher : Name) (es : List Recorded) (r : Recorded) (base : ℕ) (others : List Recorded) : Type 0 where
  pub first : List Recorded
  pub is : others ≡ first ++ r ∷ []
  pub alike : AreAlike publisher es first base

pub alike_before : (publisher : Name) (es : List Recorded) (r : Recorded) (base : ℕ) (others : List Recorded) (done left : List Recorded) → es ≡ done ++ left → base ≡ end_of done
    → AreAlike publisher (es ++ r ∷ []) others base → AlikeBefore publisher es r base others
alike_before publisher es r base others done left parts base_is a =
    let whole : done ++ (left ++ r ∷ []) ≡ a.done ++ a.left = sym (ap (λ (l : List Recorded). l ++ r ∷ []) parts ∙ append_assoc done left (r ∷ [])) ∙ a.es_are in
    let parted = one_part 0 done (left ++ r ∷ []) a.done a.left whole (sym base_is ∙ a.begins.end) in
    let is : others ≡ (a.dones ++ left) ++ r ∷ [] = a.others_are ∙ ap (λ (l : List Recorded). a.dones ++ l) (sym parted.1) ∙ sym (append_assoc a.dones left (r ∷ [])) in
    record {
      first = a.dones ++ left;
      is = is;
      alike = record {
        stored = ((stored_from-more (fresh publisher) 0 es r).0 a.stored).0;
        stored_too = ((stored_from-more (fresh publisher) 0 (a.dones ++ left) r).0 (subst (λ (l : List Recorded). Stored publisher l) is a.stored_too)).0;
        done = a.done;
        dones = a.dones;
        left = left;
        es_are = parts ∙ ap (λ (ds : List Recorded). ds ++ left) parted.0;
        others_are = refl;
        begins = a.begins;
      };
    }
