-- A database of a history is that of each history that is alike to it, and of each for which its files stand.
use Rattle.std.proofs.Common.{◌≡◌, ℕ, List, refl, sym, ◌∙◌, ap, subst}
use Rattle.sr_book.specs.Entries.{Name}
use Rattle.sr_catalog_schema.specs.Catalogs.{Lists}
use Rattle.sr_database_history.specs.Folds.{State, state_of}
use Rattle.sr_database_history.specs.Recorded.{Recorded}
use Rattle.sr_database_meaning.specs.Inner.Alike.{AreAlike}
use Rattle.sr_database_meaning.specs.Generations.{log_of}
use Rattle.sr_database_meaning.specs.Standing.{IsSnapshotAt, StandsFor}
use Rattle.sr_database_meaning.proofs.Alike.{alike, alike_books, alike_end, alike_state, stands_too}
use Rattle.sr_database_meaning.proofs.Standing.{one_part}
use Rattle.sr_site.specs.Files.{Files}
use Rattle.sr_site.specs.Images.{IsImage}
use Rattle.sr_site.specs.Seen.{Seen}
use Rattle.sr_database.specs.Databases.{IsBased, IsDatabase, IsHeld, IsOf}
use Rattle.sr_database.specs.Views.{View}

-- ---- along alike histories

based_alike : (base : ℕ) (catalog : Lists) (publisher : Name) (es others : List Recorded) → AreAlike publisher es others base → IsBased base catalog publisher es → IsBased base catalog publisher others
based_alike base catalog publisher es others a b =
    let parted = one_part 0 b.done b.left a.done a.left (sym b.parts ∙ a.es_are) (sym b.base_is ∙ a.begins.end) in
    record {
      done = a.dones;
      left = a.left;
      parts = a.others_are;
      base_is = a.begins.end_too;
      catalog_is = b.catalog_is ∙ ap (λ (ds : List Recorded). (state_of publisher ds).catalog) parted.0 ∙ ap (λ (s : State). s.catalog) a.begins.state;
      snapshot = b.snapshot;
      is_snapshot = a.begins.snapshots b.snapshot (subst (λ (ds : List Recorded). IsSnapshotAt publisher ds b.snapshot) parted.0 b.is_snapshot);
    }

module _ (view : View) (publisher : Name) (es others : List Recorded) (a : AreAlike publisher es others view.log.base) where
  pub of_alike : IsOf view publisher es → IsOf view publisher others
  of_alike is =
      let state : state_of publisher es ≡ state_of publisher others = alike_state publisher es others view.log.base a in
      record {
        name = is.name;
        stored = a.stored_too;
        catalog = is.catalog ∙ ap (λ (s : State). s.catalog) state;
        marked = is.marked ∙ ap (λ (s : State). s.rows) state;
        pending = is.pending;
        books = λ user. is.books user ∙ alike_books publisher es others view.log.base a user;
        based = based_alike view.log.base view.base_catalog publisher es others a is.based;
        end = is.end ∙ alike_end publisher es others view.log.base a;
      }

  held_alike : (files : Files) → IsHeld view publisher es files → IsHeld view publisher others files
  held_alike files held =
      let too = stands_too publisher es others view.log.base files a held.stands in
      record { stands = too.stands; log_is = ap log_of too.same ∙ held.log_is }

  pub database_alike : (seen : Seen) → IsDatabase view publisher es seen → IsDatabase view publisher others seen
  database_alike seen database =
      record { is = of_alike database.is; held = held_alike seen.files database.held; settled = λ image there. held_alike image (database.settled image there) }

-- ---- to the history for which the files stand

module _ (view : View) (publisher other : Name) (es others : List Recorded) (place : ℕ) (files : Files) (seen : Seen) (database : IsDatabase view publisher es seen) where
  -- files that hold the one history stand for the other
  taken_over : IsHeld view publisher es files → StandsFor other others place files → IsDatabase view other others seen
  taken_over held stands =
      let a = alike publisher other es others view.log.base place files held.stands stands in
      subst (λ (p : Name). IsDatabase view p others seen) a.0 (database_alike view publisher es others a.2 seen database)

  -- what a crash may leave
  pub database_in : IsImage seen files → StandsFor other others place files → IsDatabase view other others seen
  database_in there stands = taken_over (database.settled files there) stands

  -- the files as they are
  pub database_of : seen.files ≡ files → StandsFor other others place files → IsDatabase view other others seen
  database_of same stands = taken_over (subst (λ (f : Files). IsHeld view publisher es f) same database.held) stands

-- two histories of one database are alike
pub databases_alike : (view : View) (publisher other : Name) (es others : List Recorded) (seen : Seen) → IsDatabase view publisher es seen → IsDatabase view other others seen
    → (publisher ≡ other) × AreAlike publisher es others view.log.base
databases_alike view publisher other es others seen one two =
    let a = alike publisher other es others view.log.base view.log.base seen.files one.held.stands two.held.stands in
    (a.0, a.2)

-- ---- as the law says it

pub database_by_image : (view : View) (publisher other : Name) (es others : List Recorded) (place : ℕ) (image : Files) (seen : Seen) → IsDatabase view publisher es seen → IsImage seen image
    → StandsFor other others place image → IsDatabase view other others seen
database_by_image view publisher other es others place image seen database there stands = database_in view publisher other es others place image seen database there stands

pub database_by_files : (view : View) (publisher other : Name) (es others : List Recorded) (place : ℕ) (seen : Seen) → IsDatabase view publisher es seen → StandsFor other others place seen.files
    → IsDatabase view other others seen
database_by_files view publisher other es others place seen database stands = database_of view publisher other es others place seen.files seen database refl stands
