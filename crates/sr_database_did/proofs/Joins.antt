-- What was done behind what was done.
use Rattle.std.proofs.Common.{◌≡◌, ℕ, Bool, List, [], ◌∷◌, ◌++◌, refl, sym, ap, subst, ◌∙◌, append_assoc}
use Rattle.std.specs.Prelude.{IsTrue, map}
use Rattle.std.proofs.lemmas.List.{append-nil, map-append}
use Rattle.sr_book.specs.Entries.{Name}
use Rattle.sr_database.specs.Broken.{IsBroken}
use Rattle.sr_database.specs.Databases.{IsDatabase}
use Rattle.sr_database.specs.Rooms.{HaveRoom}
use Rattle.sr_database.specs.Advances.{Advances}
use Rattle.sr_database.proofs.Advancing.{advanced_then}
use Rattle.sr_database.specs.Views.{View}
use Rattle.sr_database.proofs.Rooms.{rooms_on}
use Rattle.sr_database_history.specs.Recorded.{Recorded}
use Rattle.sr_database_meaning.specs.Events.{Event, commit, commits}
use Rattle.sr_database_meaning.specs.Traces.{Went}
use Rattle.sr_database_meaning.proofs.Joining.{joined}
use Rattle.sr_site.specs.Causes.{Stays, Rose}
use Rattle.sr_site.specs.Inner.Growing.{stays_on}
use Rattle.sr_site.specs.Happenings.{Happening, attached, wrote, cut_to, synced, listed, fetched, sent, removed, handed_over, mail_in}
use Rattle.sr_site.specs.Seen.{Seen}
use Rattle.sr_database_did.specs.Inner.Did.{PlaceView, HasCause, Did}
use Rattle.sr_database_did.specs.Inner.Effects.{Effect, entered, called, End, whole, refused, failed, full, long, short, entries, mail_behind, put_in, trace, under_way, broken, begun}

-- ---- effects behind effects

pub entries_on : (xs ys : List Effect) → entries (xs ++ ys) ≡ entries xs ++ entries ys
entries_on [] ys = refl
entries_on (entered r ∷ xs) ys = ap (λ (l : List Recorded). r ∷ l) (entries_on xs ys)
entries_on (called h ∷ xs) ys = entries_on xs ys

pub mail_on : (xs ys : List Effect) (before : List Happening) → mail_behind (xs ++ ys) before ≡ mail_behind ys (mail_behind xs before)
mail_on [] ys before = refl
mail_on (entered r ∷ xs) ys before = mail_on xs ys before
mail_on (called h ∷ xs) ys before = mail_on xs ys (h ∷ before)

pub trace_on : (xs ys : List Effect) → trace (xs ++ ys) ≡ trace xs ++ trace ys
trace_on [] ys = refl
trace_on (entered r ∷ xs) ys = ap (λ (l : List Event). commit r ∷ l) (trace_on xs ys)
trace_on (called h ∷ xs) ys = ap (λ (l : List Event). put_in h ++ l) (trace_on xs ys) ∙ sym (append_assoc (put_in h) (trace xs) (trace ys))

-- events that are commits alone
pub trace_then : (xs ys : List Effect) → trace xs ≡ map commit (entries xs) → trace ys ≡ map commit (entries ys) → trace (xs ++ ys) ≡ map commit (entries (xs ++ ys))
trace_then xs ys one two =
    trace_on xs ys ∙ (λ i. one i ++ two i) ∙ sym (map-append commit (entries xs) (entries ys)) ∙ ap (λ (rs : List Recorded). map commit rs) (sym (entries_on xs ys))

commits_put : (h : Happening) (events : List Event) → commits (put_in h ++ events) ≡ commits events
commits_put (attached name folder done) events = refl
commits_put (wrote file place bytes done after) events = refl
commits_put (cut_to file to done after) events = refl
commits_put (synced file done after) events = refl
commits_put (listed address folder listing) events = refl
commits_put (fetched address name limit found) events = refl
commits_put (sent address name bytes done) events = refl
commits_put (removed address name done) events = refl
commits_put (handed_over folders noted) events = refl

commits_trace : (xs : List Effect) → commits (trace xs) ≡ entries xs
commits_trace [] = refl
commits_trace (entered r ∷ xs) = ap (λ (l : List Recorded). r ∷ l) (commits_trace xs)
commits_trace (called h ∷ xs) = commits_put h (trace xs) ∙ commits_trace xs

-- ---- how it ended, from the beginning on

state_on : (rs : List Recorded) (db : View) (a b c : Seen) → b.disk_faults ≡ a.disk_faults → IsBroken rs db b c → IsBroken rs db a c
state_on [] db a b c same is = (is.0, is.1 ∙ same)
state_on (r ∷ []) db a b c same is = (is.0, subst (λ (n : ℕ). Rose n c.disk_faults) same is.1)
state_on (r ∷ other ∷ rs) db a b c same is = is

cause_on : (end : End) (db : View) (a b c : Seen) → b.mail_faults ≡ a.mail_faults → HasCause end db b c → HasCause end db a c
cause_on whole db a b c same is = is ∙ same
cause_on (refused r) db a b c same is = is ∙ same
cause_on (failed hs) db a b c same is = subst (λ (n : ℕ). Rose n c.mail_faults) same is
cause_on (full r end need) db a b c same is = (is.0, is.1 ∙ same)
cause_on (long r size limit) db a b c same is = (is.0, is.1 ∙ same)
cause_on (short hs) db a b c same is = is ∙ same

pub told_on : (a b : Seen) → Stays a b → IsTrue a.observable → IsTrue b.observable
told_on a b stays told = subst (λ (t : Bool). IsTrue t) (sym stays.observable) told

-- ---- the law

went_on : (a b c : Seen) (publisher : Name) (es : List Recorded) (xs ys : List Effect) (end : End) → Went a b publisher es (trace xs ++ []) → Went b c publisher (es ++ entries xs) (trace ys ++ begun end)
    → Went a c publisher es (trace (xs ++ ys) ++ begun end)
went_on a b c publisher es xs ys end one two =
    let first : Went a b publisher es (trace xs) = subst (λ (l : List Event). Went a b publisher es l) (append-nil (trace xs)) one in
    let second : Went b c publisher (es ++ commits (trace xs)) (trace ys ++ begun end) = subst (λ (l : List Recorded). Went b c publisher (es ++ l) (trace ys ++ begun end)) (sym (commits_trace xs)) two in
    subst (λ (l : List Event). Went a c publisher es l) (sym (append_assoc (trace xs) (trace ys) (begun end)) ∙ ap (λ (l : List Event). l ++ begun end) (sym (trace_on xs ys)))
    (joined a b c publisher es (trace xs) (trace ys ++ begun end) first second)

pub did_on : (a b c : PlaceView) (xs ys : List Effect) (end : End) → Did a b xs whole → Did b c ys end → Did a c (xs ++ ys) end
did_on a b c xs ys end one two =
    let on : (es : List Recorded) → (es ++ entries xs) ++ entries ys ≡ es ++ entries (xs ++ ys) = λ es. append_assoc es (entries xs) (entries ys) ∙ ap (λ (l : List Recorded). es ++ l) (sym (entries_on xs ys)) in
    record {
      stays = stays_on a.seen b.seen c.seen one.stays two.stays;
      state = state_on (broken end) c.db a.seen b.seen c.seen one.state.1 two.state;
      cause = cause_on end c.db a.seen b.seen c.seen one.cause two.cause;
      pending = λ none. two.pending (one.pending none);
      room =
          let grown = one.value one.state.0 in
          subst (λ (l : List Recorded). HaveRoom a.db.log.base a.db.log.end l) (sym (entries_on xs ys))
          (rooms_on a.db.log.base b.db.log.base a.db.log.end (entries xs) (entries ys) grown.base one.room (subst (λ (n : ℕ). HaveRoom b.db.log.base n (entries ys)) grown.end two.room));
      value = λ yes. subst (λ (l : List Recorded). Advances a.db c.db l) (sym (entries_on xs ys)) (advanced_then a.db b.db c.db (entries xs) (entries ys) (one.value one.state.0) (two.value yes));
      in_force = λ told yes has. two.in_force (told_on a.seen b.seen one.stays told) yes (one.in_force told one.state.0 has);
      told = λ yes publisher es is.
          let first = one.told yes publisher es is in
          let second = two.told (told_on a.seen b.seen one.stays yes) publisher (es ++ entries xs) (first.database one.state.0) in
          record {
            database = λ usable. subst (λ (l : List Recorded). IsDatabase c.db publisher l c.seen) (on es) (second.database usable);
            went = went_on a.seen b.seen c.seen publisher es xs ys end first.went second.went;
          };
      mail = λ yes. two.mail (told_on a.seen b.seen one.stays yes) ∙ ap (λ (l : List Happening). under_way end ++ l) (ap (mail_behind ys) (one.mail yes) ∙ sym (mail_on xs ys (mail_in a.seen.happened)));
    }
