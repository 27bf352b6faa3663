-- Traces, lines and devices of one step after another.
use Rattle.std.proofs.Common.{◌≡◌, Bool, List, [], ◌∷◌, ◌++◌, map, refl, sym, ap, subst, ◌∙◌, arith}
use Rattle.std.specs.Prelude.{IsTrue}
use Rattle.std.proofs.lemmas.List.{append-nil}
use Rattle.sr_book.specs.Entries.{Name}
use Rattle.sr_database.specs.Databases.{IsDatabase, IsHeld}
use Rattle.sr_database.specs.InForce.{HasLogInForce}
use Rattle.sr_database.proofs.Advancing.{none_advanced}
use Rattle.sr_database.proofs.InForce.{in_force_still}
use Rattle.sr_database.specs.Views.{View}
use Rattle.sr_database_history.specs.Recorded.{Recorded}
use Rattle.sr_receive.specs.Passes.{AreSteady as IsSteady}
use Rattle.sr_site.specs.Causes.{Stays, MailStays}
use Rattle.sr_site.specs.Files.{Files}
use Rattle.sr_site.specs.Happenings.{Happening}
use Rattle.sr_site.specs.Images.{IsSettled}
use Rattle.sr_site.specs.Seen.{Seen}
use Rattle.sr_database_meaning.specs.Events.{Event, commit, put, commits}
use Rattle.sr_database_meaning.specs.Inner.Events.{AreQuiet}
use Rattle.sr_database_meaning.specs.Standing.{StandsAs}
use Rattle.sr_database_meaning.specs.Traces.{Went}
use Rattle.sr_database_meaning.proofs.Going.{quiet, quiet_before}
use Rattle.sr_database_meaning.proofs.Joining.{joined}

-- ---- commits

pub commits_of : (rs : List Recorded) → commits (map commit rs) ≡ rs
commits_of [] = refl
commits_of (r ∷ rs) = ap (λ qs. r ∷ qs) (commits_of rs)

pub map-append : (rs qs : List Recorded) → map commit (rs ++ qs) ≡ map commit rs ++ map commit qs
map-append [] qs = refl
map-append (r ∷ rs) qs = ap (λ events. commit r ∷ events) (map-append rs qs)

pub commits-append : (events more : List Event) → commits (events ++ more) ≡ commits events ++ commits more
commits-append [] more = refl
commits-append (commit r ∷ events) more = ap (λ qs. r ∷ qs) (commits-append events more)
commits-append (put address name bytes ∷ events) more = commits-append events more

-- ---- a site

pub told_then : (before now : Seen) → Stays before now → IsTrue before.observable → IsTrue now.observable
told_then before now stays told = subst (λ (b : Bool). IsTrue b) (sym stays.observable) told

pub of_mail : (before now : Seen) → MailStays before now → Stays before now
of_mail before now stays = record { observable = stays.observable; first = stays.first; grows = stays.grows; disk = omega (arith, stays.disk_faults); mail = stays.later }

pub steady_on : (a b c : Seen) → IsSteady a b → IsSteady b c → IsSteady a c
steady_on a b c one two = record { disk = two.disk ∙ one.disk; mail = two.mail ∙ one.mail }

pub settled_as : (view : View) (publisher : Name) (es : List Recorded) (seen : Seen) → IsDatabase view publisher es seen → IsSettled (StandsAs publisher es) seen
settled_as view publisher es seen database image there = record { base = view.log.base; stands = (database.settled image there).stands }

-- where nothing but listings, fetches and removals happened, the database stands as it did
pub still_there : (view : View) (publisher : Name) (es : List Recorded) (before now : Seen) (more : List Happening) → MailStays before now → now.happened ≡ more ++ before.happened → AreQuiet more
    → IsDatabase view publisher es before → IsDatabase view publisher es now
still_there view publisher es before now more stays happened are database = record {
  is = database.is;
  held = subst (λ (files : Files). IsHeld view publisher es files) (sym stays.files) database.held;
  settled = λ image there. database.settled image (quiet_before before now more image stays.first happened are there);
}

-- and its log is in force as it was
pub in_force_there : (view : View) (before now : Seen) (more : List Happening) → MailStays before now → now.happened ≡ more ++ before.happened → AreQuiet more → HasLogInForce view before → HasLogInForce view now
in_force_there view before now more stays happened are has =
    in_force_still view view before now refl (none_advanced view) stays.files (λ image there. quiet_before before now more image stays.first happened are there) has

pub went_quiet : (view : View) (publisher : Name) (es : List Recorded) (before now : Seen) (more : List Happening) → MailStays before now → now.happened ≡ more ++ before.happened → AreQuiet more
    → IsDatabase view publisher es before → Went before now publisher es []
went_quiet view publisher es before now more stays happened are database =
    quiet before now publisher es more (settled_as view publisher es before database) stays.observable stays.first happened are

-- commits, and then nothing
pub went_still : (before middle now : Seen) (publisher : Name) (es added : List Recorded) → Went before middle publisher es (map commit added) → Went middle now publisher (es ++ added) []
    → Went before now publisher es (map commit added)
went_still before middle now publisher es added one two =
    subst (λ (events : List Event). Went before now publisher es events) (append-nil (map commit added))
    (joined before middle now publisher es (map commit added) []
    one (subst (λ (rs : List Recorded). Went middle now publisher (es ++ rs) []) (sym (commits_of added)) two))

-- commits, and then commits
pub went_more : (before middle now : Seen) (publisher : Name) (es added more : List Recorded) → Went before middle publisher es (map commit added) → Went middle now publisher (es ++ added) (map commit more)
    → Went before now publisher es (map commit (added ++ more))
went_more before middle now publisher es added more one two =
    subst (λ (events : List Event). Went before now publisher es events) (sym (map-append added more))
    (joined before middle now publisher es (map commit added) (map commit more)
    one (subst (λ (rs : List Recorded). Went middle now publisher (es ++ rs) (map commit more)) (sym (commits_of added)) two))
