-- Where no entry was committed: calls of the mail alone, or nothing.
use Rattle.std.proofs.Common.{◌≡◌, true, List, [], ◌∷◌, ◌++◌, refl, sym, ap, subst, ◌∙◌, arith}
use Rattle.std.specs.Prelude.{IsTrue, map}
use Rattle.std.proofs.lemmas.List.{append-nil}
use Rattle.sr_book.specs.Entries.{Name}
use Rattle.sr_database.specs.Broken.{IsBroken}
use Rattle.sr_database.specs.Databases.{IsHeld, IsDatabase}
use Rattle.sr_database.specs.Rooms.{HaveRoom}
use Rattle.sr_database.specs.Advances.{Advances}
use Rattle.sr_database.proofs.Advancing.{none_advanced, advanced_still}
use Rattle.sr_database.proofs.InForce.{in_force_still}
use Rattle.sr_database.specs.Views.{View}
use Rattle.sr_database_history.specs.Recorded.{Recorded}
use Rattle.sr_database_meaning.specs.Events.{Event, commit}
use Rattle.sr_database_meaning.specs.Inner.Events.{AreQuiet}
use Rattle.sr_database_meaning.specs.Standing.{StandsAs}
use Rattle.sr_database_meaning.specs.Traces.{Went}
use Rattle.sr_database_meaning.proofs.Going.{mail_more, quiet, quiet_before}
use Rattle.sr_logfile.specs.Log.{Log}
use Rattle.sr_site.specs.Causes.{MailStays, Rose}
use Rattle.sr_site.specs.Files.{Files}
use Rattle.sr_site.specs.Happenings.{Happening, attached, wrote, cut_to, synced, listed, fetched, sent, removed, handed_over, mail_in}
use Rattle.sr_site.specs.Images.{IsSettled}
use Rattle.sr_site.specs.Seen.{Seen}
use Rattle.sr_database_did.specs.Inner.Did.{PlaceView, HasCause, Did}
use Rattle.sr_database_did.specs.Inner.Effects.{Effect, called, End, whole, failed, short, calls, entries, mail_behind, put_in, puts_of, trace, under_way, broken, begun}
use Rattle.sr_database_did.proofs.Joins.{entries_on, mail_on, trace_on}

-- ---- calls that change no file

mail_quiet : (hs : List Happening) → AreQuiet hs → mail_in hs ≡ hs
mail_quiet [] still = refl
mail_quiet (attached name folder done ∷ hs) still = absurd still
mail_quiet (wrote file place bytes done after ∷ hs) still = absurd still
mail_quiet (cut_to file to done after ∷ hs) still = absurd still
mail_quiet (synced file done after ∷ hs) still = absurd still
mail_quiet (listed address folder listing ∷ hs) still = ap (λ (l : List Happening). listed address folder listing ∷ l) (mail_quiet hs still)
mail_quiet (fetched address name limit found ∷ hs) still = ap (λ (l : List Happening). fetched address name limit found ∷ l) (mail_quiet hs still)
mail_quiet (sent address name bytes done ∷ hs) still = absurd still
mail_quiet (removed address name done ∷ hs) still = ap (λ (l : List Happening). removed address name done ∷ l) (mail_quiet hs still)
mail_quiet (handed_over folders noted ∷ hs) still = absurd still

pub puts_quiet : (hs : List Happening) → AreQuiet hs → puts_of hs ≡ []
puts_quiet [] still = refl
puts_quiet (attached name folder done ∷ hs) still = absurd still
puts_quiet (wrote file place bytes done after ∷ hs) still = absurd still
puts_quiet (cut_to file to done after ∷ hs) still = absurd still
puts_quiet (synced file done after ∷ hs) still = absurd still
puts_quiet (listed address folder listing ∷ hs) still = append-nil (puts_of hs) ∙ puts_quiet hs still
puts_quiet (fetched address name limit found ∷ hs) still = append-nil (puts_of hs) ∙ puts_quiet hs still
puts_quiet (sent address name bytes done ∷ hs) still = absurd still
puts_quiet (removed address name done ∷ hs) still = append-nil (puts_of hs) ∙ puts_quiet hs still
puts_quiet (handed_over folders noted ∷ hs) still = absurd still

pub calls_entries : (hs : List Happening) → entries (calls hs) ≡ []
calls_entries [] = refl
calls_entries (h ∷ hs) = entries_on (calls hs) (called h ∷ []) ∙ append-nil (entries (calls hs)) ∙ calls_entries hs

pub calls_mail : (hs before : List Happening) → mail_behind (calls hs) before ≡ hs ++ before
calls_mail [] before = refl
calls_mail (h ∷ hs) before = mail_on (calls hs) (called h ∷ []) before ∙ ap (λ (l : List Happening). h ∷ l) (calls_mail hs before)

calls_trace : (hs : List Happening) → trace (calls hs) ≡ puts_of hs
calls_trace [] = refl
calls_trace (h ∷ hs) = trace_on (calls hs) (called h ∷ []) ∙ ap (λ (l : List Event). l ++ (put_in h ++ [])) (calls_trace hs) ∙ ap (λ (l : List Event). puts_of hs ++ l) (append-nil (put_in h))

-- they come to no event, as no entry does
pub calls_quiet : (hs : List Happening) → AreQuiet hs → trace (calls hs) ≡ map commit (entries (calls hs))
calls_quiet hs still = calls_trace hs ∙ puts_quiet hs still ∙ ap (λ (rs : List Recorded). map commit rs) (sym (calls_entries hs))

-- ---- a database that stays

-- a value of the same entries, and a site on which this happened, which changed no file
pub record IsStill (a b : PlaceView) (hs : List Happening) : Type 0 where
  pub log : b.db.log ≡ a.db.log
  pub pending : a.db.pending ≡ [] → b.db.pending ≡ []
  pub value : Advances a.db b.db []
  pub usable : a.db.log.usable ≡ true
  pub stays : MailStays a.seen b.seen
  pub quiet : AreQuiet hs
  pub happened : IsTrue a.seen.observable → b.seen.happened ≡ hs ++ a.seen.happened

settled_as : (view : View) (publisher : Name) (es : List Recorded) (seen : Seen) → IsDatabase view publisher es seen → IsSettled (StandsAs publisher es) seen
settled_as view publisher es seen database image there = let held = database.settled image there in record { base = view.log.base; stands = held.stands }

held_still : (old new : View) (publisher : Name) (es : List Recorded) (files : Files) → new.log ≡ old.log → IsHeld old publisher es files → IsHeld new publisher es files
held_still old new publisher es files same held =
    subst (λ (l : Log). IsHeld (record new { log = l }) publisher es files) (sym same) (record { stands = held.stands; log_is = held.log_is })

database_still : (a b : PlaceView) (hs : List Happening) (publisher : Name) (es : List Recorded) → IsStill a b hs → IsTrue a.seen.observable → IsDatabase a.db publisher es a.seen → IsDatabase b.db publisher es b.seen
database_still a b hs publisher es still told database = record {
  is = advanced_still a.db b.db publisher es still.value database.is;
  held = subst (λ (files : Files). IsHeld b.db publisher es files) (sym still.stays.files) (held_still a.db b.db publisher es a.seen.files still.log database.held);
  settled = λ image there. held_still a.db b.db publisher es image still.log (database.settled image (quiet_before a.seen b.seen hs image still.stays.first (still.happened told) still.quiet there));
}

module _ (a b : PlaceView) (hs : List Happening) (still : IsStill a b hs) where
  -- no entry was committed, and the mail did this
  pub still_did : (effects : List Effect) (end : End) → HasCause end b.db a.seen b.seen → broken end ≡ [] → entries effects ≡ [] → trace effects ++ begun end ≡ puts_of hs
      → ((before : List Happening) → under_way end ++ mail_behind effects before ≡ hs ++ before) → Did a b effects end
  still_did effects end cause unbroken none events mail =
      let es_on : (es : List Recorded) → es ≡ es ++ entries effects = λ es. sym (append-nil es) ∙ ap (λ (l : List Recorded). es ++ l) (sym none) in
      record {
        stays = record { observable = still.stays.observable; first = still.stays.first; grows = still.stays.grows; disk = omega (arith, still.stays.disk_faults); mail = still.stays.later };
        state = subst (λ (rs : List Recorded). IsBroken rs b.db a.seen b.seen) (sym unbroken) (ap (λ (l : Log). l.usable) still.log ∙ still.usable, still.stays.disk_faults);
        cause = cause;
        pending = still.pending;
        room = subst (λ (l : List Recorded). HaveRoom a.db.log.base a.db.log.end l) (sym none) tt;
        value = λ yes. subst (λ (l : List Recorded). Advances a.db b.db l) (sym none) still.value;
        in_force = λ told yes has. in_force_still a.db b.db a.seen b.seen still.log still.value still.stays.files (λ image there. quiet_before a.seen b.seen hs image still.stays.first (still.happened told) still.quiet there) has;
        told = λ told publisher es is. record {
          database = λ yes. subst (λ (l : List Recorded). IsDatabase b.db publisher l b.seen) (es_on es) (database_still a b hs publisher es still told is);
          went = subst (λ (l : List Event). Went a.seen b.seen publisher es l) (sym (events ∙ puts_quiet hs still.quiet))
              (quiet a.seen b.seen publisher es hs (settled_as a.db publisher es a.seen is) still.stays.observable still.stays.first (still.happened told) still.quiet);
        };
        mail = λ told. ap mail_in (still.happened told) ∙ mail_more a.seen.happened hs ∙ ap (λ (l : List Happening). l ++ mail_in a.seen.happened) (mail_quiet hs still.quiet) ∙ sym (mail (mail_in a.seen.happened));
      }

  -- each of the calls succeeded
  pub calls_did : b.seen.mail_faults ≡ a.seen.mail_faults → Did a b (calls hs) whole
  calls_did steady = still_did (calls hs) whole steady refl (calls_entries hs) (append-nil (trace (calls hs)) ∙ calls_trace hs) (calls_mail hs)

  -- the last of them failed
  pub failed_did : Rose a.seen.mail_faults b.seen.mail_faults → Did a b [] (failed hs)
  failed_did rose = still_did [] (failed hs) rose refl refl refl (λ before. refl)

  -- there was no memory
  pub short_did : b.seen.mail_faults ≡ a.seen.mail_faults → Did a b [] (short hs)
  short_did steady = still_did [] (short hs) steady refl refl refl (λ before. refl)

stays_still : (seen : Seen) → MailStays seen seen
stays_still seen = record { observable = refl; first = refl; files = refl; grows = λ moment there. there; disk_faults = refl; later = omega arith }

-- nothing happened
pub alike_still : (old new : View) (seen : Seen) → new.log ≡ old.log → (old.pending ≡ [] → new.pending ≡ []) → Advances old new [] → old.log.usable ≡ true
    → IsStill (record { db = old; seen = seen }) (record { db = new; seen = seen }) []
alike_still old new seen log pending value usable = record { log = log; pending = pending; value = value; usable = usable; stays = stays_still seen; quiet = tt; happened = λ told. refl }

pub same_still : (a : PlaceView) → a.db.log.usable ≡ true → IsStill a a []
same_still a usable = alike_still a.db a.db a.seen refl (λ none. none) (none_advanced a.db) usable

pub nothing_did : (a : PlaceView) → a.db.log.usable ≡ true → Did a a [] whole
nothing_did a usable = calls_did a a [] (same_still a usable) refl

pub nothing_short : (a : PlaceView) → a.db.log.usable ≡ true → Did a a [] (short [])
nothing_short a usable = short_did a a [] (same_still a usable) refl

-- this happened to the mail
pub site_still : (db : View) (before now : Seen) (hs : List Happening) → db.log.usable ≡ true → MailStays before now → AreQuiet hs → (IsTrue before.observable → now.happened ≡ hs ++ before.happened)
    → IsStill (record { db = db; seen = before }) (record { db = db; seen = now }) hs
site_still db before now hs usable stays quiet happened =
    record { log = refl; pending = λ none. none; value = none_advanced db; usable = usable; stays = stays; quiet = quiet; happened = happened }
