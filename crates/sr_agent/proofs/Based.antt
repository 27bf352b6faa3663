-- The log of a database goes on to begin where it did.
use Rattle.std.proofs.Common.{◌≡◌, ℕ, ◌≤◌, ◌^◌, List, subst, arith}
use Rattle.sr_book.specs.Entries.{Name}
use Rattle.sr_database.specs.Databases.{IsDatabase}
use Rattle.sr_database.specs.Views.{View}
use Rattle.sr_database_history.specs.Recorded.{Recorded}
use Rattle.sr_database_meaning.specs.Bases.{HasBase}
use Rattle.sr_database_meaning.specs.Events.{Event}
use Rattle.sr_database_meaning.specs.Generations.{Generation, log_of}
use Rattle.sr_database_meaning.specs.Standing.{StandsFor, bodies}
use Rattle.sr_database_meaning.specs.Traces.{Went}
use Rattle.sr_database_meaning.proofs.Going.{told_base, told_same}
use Rattle.sr_database_meaning.proofs.Resting.{rests_end}
use Rattle.sr_database_meaning.proofs.Standing.{one_generation}
use Rattle.sr_database_files.proofs.Damaged.{same_base}
use Rattle.sr_logfile.specs.Records.{HasHeader, Spells}
use Rattle.sr_logfile.proofs.Uniqueness.{has_header}
use Rattle.sr_site.specs.Files.{Files, bytes_of}
use Rattle.sr_site.specs.Images.{IsSettled}
use Rattle.sr_site.specs.Seen.{Seen}
use Rattle.sr_agent.proofs.Images.{some_image}

-- what is spelled has a header
headed : (base : ℕ) (all : List (List ℕ)) (bytes : List ℕ) → Spells base all bytes → HasHeader base bytes
headed base all bytes s = has_header base all s.gate bytes s.rest (let le : base ≤ 2 ^ 62 = let limit = s.limit in omega arith in le) s.bytes_are

-- files that stand for a history have the base of its log, and no other
pub stands_based : (publisher : Name) (es : List Recorded) (base : ℕ) (files : Files) → StandsFor publisher es base files → HasBase base files
stands_based publisher es base files s = record {
  generation = s.generation;
  root = s.root;
  header = headed base (bodies s.left) (bytes_of files (log_of s.generation)) s.log;
}

pub one_base : (publisher : Name) (es : List Recorded) (base other : ℕ) (files : Files) → StandsFor publisher es other files → HasBase base files → other ≡ base
one_base publisher es base other files s has =
    let one = one_generation files has.generation s.generation has.root s.root in
    same_base base other (bytes_of files (log_of s.generation)) (subst (λ (g : Generation). HasHeader base (bytes_of files (log_of g))) one has.header)
    (headed other (bodies s.left) (bytes_of files (log_of s.generation)) s.log)

-- every crash leaves it
pub settled_base : (view : View) (publisher : Name) (es : List Recorded) (seen : Seen) → IsDatabase view publisher es seen → IsSettled (HasBase view.log.base) seen
settled_base view publisher es seen database image there = stands_based publisher es view.log.base image (database.settled image there).stands

-- along a trace
pub base_stays : (old new : View) (before now : Seen) (publisher : Name) (es rs : List Recorded) (events : List Event) → IsDatabase old publisher es before → Went before now publisher es events → IsDatabase new publisher rs now
    → new.log.base ≡ old.log.base
base_stays old new before now publisher es rs events database went after =
    let rests = told_base before now publisher es events went old.log.base (settled_base old publisher es before database) in
    let some = some_image now.first now.happened in
    let there = rests_end (HasBase old.log.base) before now (told_same before now publisher es events went).1 rests some.0 some.1 in
    one_base publisher rs old.log.base new.log.base some.0 (after.settled some.0 some.1).stands there
