-- The history behind a commit, without its entry.
use Rattle.std.proofs.Common.{◌≡◌, ℕ, List, [], ◌∷◌, ◌++◌, refl, sym, ◌∙◌, ap, subst, append_assoc}
use Rattle.sr_book.specs.Entries.{Name}
use Rattle.sr_database_history.specs.Fitting.{Fits, Stored}
use Rattle.sr_database_history.specs.Folds.{fresh, state_of, end_of}
use Rattle.sr_database_history.specs.Recorded.{Recorded}
use Rattle.sr_database_history.proofs.Joined.{stored_from-more}
use Rattle.sr_logfile.specs.Inner.Logs.{IsLog}
use Rattle.sr_logfile.specs.Records.{Spells}
use Rattle.sr_logfile.proofs.Uniqueness.{one_spelling}
use Rattle.sr_site.specs.Files.{Files, bytes_of, OthersStay}
use Rattle.sr_site.specs.Seen.{Seen}
use Rattle.sr_site.specs.declared.file.File.{File}
use Rattle.sr_site.specs.declared.file.File.TheVariants.{Root}
use Rattle.sr_database_meaning.specs.Generations.{Generation, snapshot_of, log_of, generation_in}
use Rattle.sr_database_meaning.specs.Standing.{body, bodies, IsSnapshotAt, StandsFor}
use Rattle.sr_database_meaning.proofs.Standing.{bodies_once, one_generation}
use Rattle.sr_database_files.proofs.Images.{stays}
use Rattle.sr_database.specs.Databases.{IsOf, IsDatabase}
use Rattle.sr_database.specs.Inner.Without.{WasWithout}
use Rattle.sr_database.specs.InForce.{HasLogInForce}
use Rattle.sr_database.specs.Views.{View}
use Rattle.sr_database.proofs.Commits.{log_not_root, log_not_snapshot}

-- ---- the last body

record EndsIn (left : List Recorded) (before : List (List ℕ)) (last : List ℕ) : Type 0 where
  first : List Recorded
  r : Recorded
  is : left ≡ first ++ r ∷ []
  first_are : bodies first ≡ before
  last_is : body r ≡ last

ends_in : (left : List Recorded) (before : List (List ℕ)) (last : List ℕ) → bodies left ≡ before ++ last ∷ [] → EndsIn left before last
ends_in [] [] last same = cc
ends_in [] (b ∷ before) last same = cc
ends_in (r ∷ []) [] last same = let heads : body r ≡ last = cc in record { first = []; r = r; is = refl; first_are = refl; last_is = heads }
ends_in (r ∷ q ∷ left) [] last same = cc
ends_in (r ∷ left) (b ∷ before) last same =
    let heads : body r ≡ b = cc in
    let tails : bodies left ≡ before ++ last ∷ [] = cc in
    let on = ends_in left before last tails in
    record { first = r ∷ on.first; r = on.r; is = λ i. r ∷ on.is i; first_are = λ i. heads i ∷ on.first_are i; last_is = on.last_is }

-- entries that fit one place, with one body, are one
same_entry : (publisher : Name) (es : List Recorded) (r q : Recorded) → Fits (state_of publisher es) (end_of es) r → Fits (state_of publisher es) (end_of es) q → body r ≡ body q → r ≡ q
same_entry publisher es r q fit fit' same =
    let both : r ∷ [] ≡ q ∷ [] = bodies_once (state_of publisher es) (end_of es) (r ∷ []) (q ∷ []) (fit, tt) (fit', tt) (ap (λ (b : List ℕ). b ∷ []) same) in
    cc

-- ---- the files before

module _ (old : View) (all : List (List ℕ)) (r : Recorded) (before now : Seen) (has : HasLogInForce old before) (was : IsLog old.log all before.files) (others : OthersStay old.log.file before.files now.files)
    (longer : Spells old.log.base (all ++ body r ∷ []) (bytes_of now.files old.log.file)) (publisher : Name) (es : List Recorded) (base : ℕ) (stands : StandsFor publisher es base now.files) where
  abbrev g : Generation
  g = has.now.generation

  stay : OthersStay (log_of g) before.files now.files
  stay = subst (λ (f : File). OthersStay f before.files now.files) (sym has.now.log_is) others

  one : stands.generation ≡ g
  one = one_generation now.files stands.generation g stands.root (ap generation_in (stays (log_of g) Root before.files now.files (log_not_root g) stay) ∙ has.now.root)

  spells : Spells base (bodies stands.left) (bytes_of now.files old.log.file)
  spells = subst (λ (f : File). Spells base (bodies stands.left) (bytes_of now.files f)) (ap log_of one ∙ has.now.log_is) stands.log

  both : (base ≡ old.log.base) × (bodies stands.left ≡ all ++ body r ∷ [])
  both = one_spelling (bytes_of now.files old.log.file) base old.log.base (bodies stands.left) (all ++ body r ∷ []) spells longer

  ends : EndsIn stands.left all (body r)
  ends = ends_in stands.left all (body r) both.1

  abbrev first : List Recorded
  first = stands.done ++ ends.first

  parts : es ≡ first ++ ends.r ∷ []
  parts = stands.parts ∙ ap (λ (l : List Recorded). stands.done ++ l) ends.is ∙ sym (append_assoc stands.done ends.first (ends.r ∷ []))

  stored : Stored publisher first × Fits (state_of publisher first) (end_of first) ends.r
  stored = (stored_from-more (fresh publisher) 0 first ends.r).0 (subst (λ (l : List Recorded). Stored publisher l) parts stands.stored)

  stood : StandsFor publisher first base before.files
  stood =
      record {
        generation = g;
        root = has.now.root;
        name = stands.name;
        stored = stored.0;
        done = stands.done;
        left = ends.first;
        parts = refl;
        base_is = stands.base_is;
        snapshot = subst (λ (l : List ℕ). IsSnapshotAt publisher stands.done l) (stays (log_of g) (snapshot_of g) before.files now.files (log_not_snapshot g) stay)
            (subst (λ (x : Generation). IsSnapshotAt publisher stands.done (bytes_of now.files (snapshot_of x))) one stands.snapshot);
        log = subst (λ (f : File). Spells base (bodies ends.first) (bytes_of before.files f)) (sym has.now.log_is)
            (subst (λ (b : ℕ). Spells b (bodies ends.first) (bytes_of before.files old.log.file)) (sym both.0)
            (subst (λ (l : List (List ℕ)). Spells old.log.base l (bytes_of before.files old.log.file)) (sym ends.first_are) was.spells));
      }

  -- without its last entry, which is the one that was committed, they stood for it
  pub without : ((publisher : Name) (es : List Recorded) → IsOf old publisher es → Fits (state_of publisher es) (end_of es) r) → WasWithout old publisher es r before
  without fits =
      let database : IsDatabase old publisher first before = has.each publisher first base stood in
      let same : ends.r ≡ r = same_entry publisher first ends.r r stored.1 (fits publisher first database.is) ends.last_is in
      record { first = first; is = parts ∙ ap (λ (q : Recorded). first ++ q ∷ []) same; database = database }
