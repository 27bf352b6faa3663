-- A run rests at each moment on one history of its world, on which the next run can go on.
use Rattle.std.proofs.Common.{◌≡◌, ℕ, List, [], ◌∷◌, ◌++◌, map, refl, sym, ap, subst, ◌∙◌, inl, inr, append_assoc, append-nil}
use Rattle.std.proofs.lemmas.List.{append_cancel_right}
use Rattle.std.specs.Prelude.{◌⊎◌}
use Rattle.std.specs.List.{AllByRecursion}
use Rattle.sr_book.specs.Entries.{Name}
use Rattle.sr_database_history.specs.Fitting.{Stored}
use Rattle.sr_database_history.specs.Folds.{fresh}
use Rattle.sr_database_history.specs.Recorded.{Recorded}
use Rattle.sr_world_model.specs.Steps.{DatabaseStep, append, history_after_all, messages_after_all}
use Rattle.sr_world_model.specs.Steps as database_step
use Rattle.sr_msgform.specs.Messages.{IsMessage, message_spelling}
use Rattle.sr_msgform.specs.declared.message.Message.{Message}
use Rattle.sr_site.specs.Files.{Files}
use Rattle.sr_site.specs.Causes.{DiskStays}
use Rattle.sr_site.specs.Happenings.{Happening, Throughout, mail_in, attached, wrote, cut_to, synced, listed, fetched, sent, removed, handed_over}
use Rattle.sr_site.specs.Images.{IsImage, IsSettled, MayLeave, RestsThroughout}
use Rattle.sr_site.specs.Seen.{Seen}
use Rattle.sr_database_meaning.specs.Bases.{HasBase}
use Rattle.sr_database_meaning.specs.Events.{Event, PutFile, IsBetween, commit, put, commits, puts, puts_in}
use Rattle.sr_database_meaning.specs.Standing.{StandsAs}
use Rattle.sr_database_meaning.specs.Traces.{AtEach, IsOnTrace, MayStandFor, Went}
use Rattle.sr_database_meaning.specs.Traces as event
use Rattle.sr_database_meaning.proofs.Going.{mail_more, none_put, puts_more, step_before}
use Rattle.sr_agent.proofs.Joints.{commits-append}
use Rattle.sr_world_model.proofs.Leave.{database_steps_join}
use Rattle.sr_world.specs.Real.{HasSpelling, LawfulHistory, MayDo, layers}
use Rattle.sr_world_prefix.specs.Good.{AreSaid}
use Rattle.sr_world_prefix.specs.Kept.{StandsKeeping}
use Rattle.sr_world_runs.specs.Worlds.{IsSettledBetween, HasOneMore, IsAhead, IsAtMail, IsNext, IsOne, Rests, on_one, on_two, RestsAt, RestsBehind, WasSettled, put_in}
use Rattle.sr_world_runs.specs.Inner.Worlds.{RestsAtEach}
use Rattle.sr_world_prefix.proofs.Along.{Along, along_last, along_prefix}
use Rattle.sr_world_prefix.proofs.Behind.{none_before}
use Rattle.sr_world_prefix.proofs.Kept.{IsKeeping, stands_at}
use Rattle.sr_world_runs.proofs.Keeping.{at_moments}
use Rattle.sr_database_meaning.proofs.Joining.{trace_puts}
use Rattle.sr_agent.proofs.Images.{some_image}
use Rattle.sr_world_prefix.proofs.Opened.{was_image}
use Rattle.sr_world_runs.proofs.DatabaseSteps.{AreDatabaseSteps, CanStep, database_steps_files, database_steps_history, database_steps_messages, database_steps_spelled, may_do}
use Rattle.sr_world_runs.proofs.Reached.{prefix_of, history_more, is_lawful, lawful_along, put_more, said_prefix}

-- ---- the items before a commit that stands last

abbrev prefix_part : List Event → List Event
prefix_part [] = []
prefix_part (commit r ∷ []) = []
prefix_part (commit r ∷ next ∷ events) = commit r ∷ prefix_part (next ∷ events)
prefix_part (put address name bytes ∷ events) = put address name bytes ∷ prefix_part events

part_is : (others : List Event) (last : Recorded) → prefix_part (others ++ commit last ∷ []) ≡ others
part_is [] last = refl
part_is (commit r ∷ []) last = refl
part_is (commit r ∷ next ∷ others) last = ap (λ (l : List Event). commit r ∷ l) (part_is (next ∷ others) last)
part_is (put address name bytes ∷ others) last = ap (λ (l : List Event). put address name bytes ∷ l) (part_is others last)

-- after it is that commit, or nothing
data HasParts (events : List Event) : Type 0 where
  alone : events ≡ prefix_part events → HasParts events
  one_more : (r : Recorded) → events ≡ prefix_part events ++ commit r ∷ [] → HasParts events

longer : (event : Event) (events : List Event) → prefix_part (event ∷ events) ≡ event ∷ prefix_part events → HasParts events → HasParts (event ∷ events)
longer event events prefix (alone is) = alone (ap (λ (l : List Event). event ∷ l) is ∙ sym prefix)
longer event events prefix (one_more r is) = one_more r (ap (λ (l : List Event). event ∷ l) is ∙ ap (λ (l : List Event). l ++ commit r ∷ []) (sym prefix))

parts_of : (events : List Event) → HasParts events
parts_of [] = alone refl
parts_of (commit r ∷ []) = one_more r refl
parts_of (commit r ∷ next ∷ events) = longer (commit r) (next ∷ events) refl (parts_of (next ∷ events))
parts_of (put address name bytes ∷ events) = longer (put address name bytes) events refl (parts_of events)

-- ---- the steps of a trace in two parts

record InParts (messages : List Message) (owner : Name) (es : List Recorded) (prefix back : List Event) (all : List (DatabaseStep Recorded)) : Type 0 where
  database_steps : List (DatabaseStep Recorded)
  more : List (DatabaseStep Recorded)
  is : all ≡ database_steps ++ more
  are : AreDatabaseSteps messages owner es prefix database_steps
  behind : AreDatabaseSteps (messages ++ put_in database_steps) owner (es ++ commits prefix) back more

in_parts : (messages : List Message) (owner : Name) (es : List Recorded) (prefix back : List Event) (database_steps : List (DatabaseStep Recorded)) → AreDatabaseSteps messages owner es (prefix ++ back) database_steps
    → InParts messages owner es prefix back database_steps
in_parts messages owner es [] back database_steps are = record {
  database_steps = [];
  more = database_steps;
  is = refl;
  are = tt;
  behind =
      subst (λ (ms : List Message). AreDatabaseSteps ms owner (es ++ []) back database_steps) (sym (append-nil messages))
      (subst (λ (rs : List Recorded). AreDatabaseSteps messages owner rs back database_steps) (sym (append-nil es)) are);
}
in_parts messages owner es (commit r ∷ prefix) back (append q ∷ database_steps) are =
    let rest = in_parts messages owner (es ++ r ∷ []) prefix back database_steps are.2 in
    record {
      database_steps = append r ∷ rest.database_steps;
      more = rest.more;
      is = ap (λ (x : Recorded). append x ∷ database_steps) are.0 ∙ ap (λ (l : List (DatabaseStep Recorded)). append r ∷ l) rest.is;
      are = (refl, are.1, rest.are);
      behind = subst (λ (rs : List Recorded). AreDatabaseSteps (messages ++ put_in rest.database_steps) owner rs back rest.more) (append_assoc es (r ∷ []) (commits prefix)) rest.behind;
    }
in_parts messages owner es (put address name bytes ∷ prefix) back (database_step.put m ∷ database_steps) are =
    let rest = in_parts (messages ++ m ∷ []) owner es prefix back database_steps are.2 in
    record {
      database_steps = database_step.put m ∷ rest.database_steps;
      more = rest.more;
      is = ap (λ (l : List (DatabaseStep Recorded)). database_step.put m ∷ l) rest.is;
      are = (are.0, are.1, rest.are);
      behind = subst (λ (ms : List Message). AreDatabaseSteps ms owner (es ++ commits prefix) back rest.more) (append_assoc messages (m ∷ []) (put_in rest.database_steps)) rest.behind;
    }
in_parts messages owner es prefix back database_steps are = absurd are

-- ---- what rests

pub fewer_rest : (messages : List Message) (owner : Name) (es : List Recorded) (Left Fewer : Files → Type 0) → ((image : Files) → Fewer image → Left image) → Rests messages owner es Left
    → Rests messages owner es Fewer
fewer_rest messages owner es Left Fewer f (on_one all) = on_one (λ image there. all image (f image there))
fewer_rest messages owner es Left Fewer f (on_two r each) = on_two r (λ image there. each image (f image there))

fewer_one : (messages : List Message) (owner : Name) (es : List Recorded) (Left Fewer : Files → Type 0) (f : (image : Files) → Fewer image → Left image) (rests : Rests messages owner es Left)
    → IsOne rests → IsOne (fewer_rest messages owner es Left Fewer f rests)
unfolding fewer_rest
fewer_one messages owner es Left Fewer f (on_one all) one = tt
fewer_one messages owner es Left Fewer f (on_two r each) one = absurd one

fewer_next : (messages : List Message) (owner : Name) (es : List Recorded) (Left Fewer : Files → Type 0) (f : (image : Files) → Fewer image → Left image) (rests : Rests messages owner es Left)
    (later : List (DatabaseStep Recorded)) → IsNext rests later → IsNext (fewer_rest messages owner es Left Fewer f rests) later
unfolding fewer_rest
fewer_next messages owner es Left Fewer f (on_one all) later next = tt
fewer_next messages owner es Left Fewer f (on_two r each) [] next = absurd next
fewer_next messages owner es Left Fewer f (on_two r each) (append q ∷ later) next = next
fewer_next messages owner es Left Fewer f (on_two r each) (database_step.put m ∷ later) next = absurd next
fewer_next messages owner es Left Fewer f (on_two r each) (database_step.crash ∷ later) next = absurd next

-- it rests on one history
record RestsOne (messages : List Message) (owner : Name) (es : List Recorded) (Left : Files → Type 0) (later : List (DatabaseStep Recorded)) : Type 0 where
  rests : Rests messages owner es Left
  one : IsOne rests
  next : IsNext rests later

-- and an entry more is the next of these steps
record RestsNext (messages : List Message) (owner : Name) (es : List Recorded) (Left : Files → Type 0) (later : List (DatabaseStep Recorded)) : Type 0 where
  rests : Rests messages owner es Left
  next : IsNext rests later

-- it rests so after the first of these steps
record OnTheWay (messages : List Message) (owner : Name) (es : List Recorded) (all : List (DatabaseStep Recorded)) (put_files : List PutFile) (Left : Files → Type 0) : Type 0 where
  rest : RestsBehind messages owner es put_files Left
  later : List (DatabaseStep Recorded)
  on_the_way : all ≡ rest.database_steps ++ later
  next : IsNext rest.rests later

record BehindOne (messages : List Message) (owner : Name) (es : List Recorded) (all : List (DatabaseStep Recorded)) (put_files : List PutFile) (Left : Files → Type 0) : Type 0 where
  way : OnTheWay messages owner es all put_files Left
  one : IsOne way.rest.rests

-- at another moment, at which a crash may leave no more, and which is a put only where this one is
moved_rest : (messages : List Message) (owner : Name) (es : List Recorded) (all : List (DatabaseStep Recorded)) (since then : List Happening) (Later First Left Fewer : Files → Type 0) → ((image : Files) → Later image → First image) → puts_in then ≡ puts_in since
    → (IsAtMail then → IsAtMail since) → ((image : Files) → Fewer image → Left image) → RestsAt messages owner es all since Later Left → RestsAt messages owner es all then First Fewer
moved_rest messages owner es all since then Later First Left Fewer g same put_there f at = record {
  rest = record {
    database_steps = at.rest.database_steps;
    may = at.rest.may;
    put = ap (map (λ (l : PutFile). l.2)) same ∙ at.rest.put;
    spelled = at.rest.spelled;
    rests = fewer_rest (messages_after_all messages at.rest.database_steps) owner (history_after_all es at.rest.database_steps) Left Fewer f at.rest.rests;
  };
  settled = λ is. fewer_one (messages_after_all messages at.rest.database_steps) owner (history_after_all es at.rest.database_steps) Left Fewer f at.rest.rests (at.settled (put_there is));
  later = at.later;
  on_the_way = at.on_the_way;
  next = elim at.next [
    | inl is ↦ inl (fewer_next (messages_after_all messages at.rest.database_steps) owner (history_after_all es at.rest.database_steps) Left Fewer f at.rest.rests at.later is)
    | inr still ↦ inr (λ image there. g image (still image (f image there)))
  ];
}

no_mail : (since : List Happening) → mail_in since ≡ [] → IsAtMail since → ⊥
no_mail [] none at = at
no_mail (attached name folder done ∷ since) none at = at
no_mail (wrote file place bytes done after ∷ since) none at = at
no_mail (cut_to file to done after ∷ since) none at = at
no_mail (synced file done after ∷ since) none at = at
no_mail (listed address folder listing ∷ since) none at = absurd (cc none)
no_mail (fetched address name limit found ∷ since) none at = absurd (cc none)
no_mail (sent address name bytes done ∷ since) none at = absurd (cc none)
no_mail (removed address name done ∷ since) none at = absurd (cc none)
no_mail (handed_over folders noted ∷ since) none at = absurd (cc none)

mail_on : (step : Happening) (since more : List Happening) → IsAtMail (step ∷ since ++ more) → IsAtMail (step ∷ since)
mail_on (attached name folder done) since more at = at
mail_on (wrote file place bytes done after) since more at = at
mail_on (cut_to file to done after) since more at = at
mail_on (synced file done after) since more at = at
mail_on (listed address folder listing) since more at = at
mail_on (fetched address name limit found) since more at = at
mail_on (sent address name bytes done) since more at = at
mail_on (removed address name done) since more at = at
mail_on (handed_over folders noted) since more at = at

-- the first entry of a trace is allowed
first_can : (messages : List Message) (owner : Name) (es : List Recorded) (r : Recorded) (events : List Event) (database_steps : List (DatabaseStep Recorded)) → AreDatabaseSteps messages owner es (commit r ∷ events) database_steps
    → CanStep messages owner es r
first_can messages owner es r events [] are = absurd are
first_can messages owner es r events (append q ∷ database_steps) are = are.1
first_can messages owner es r events (database_step.put m ∷ database_steps) are = absurd are
first_can messages owner es r events (database_step.crash ∷ database_steps) are = absurd are

-- where it has the first entry of a trace or not, this is the next of the steps that make it
two_next : (messages : List Message) (owner : Name) (es : List Recorded) (Left : Files → Type 0) (r : Recorded) (events : List Event) (later : List (DatabaseStep Recorded))
    → AreDatabaseSteps messages owner es (commit r ∷ events) later → ((image : Files) → Left image → StandsKeeping owner es image ⊎ HasOneMore messages owner es r image)
    → RestsNext messages owner es Left later
two_next messages owner es Left r events [] are each = absurd are
two_next messages owner es Left r events (append q ∷ later) are each = record { rests = on_two r each; next = are.0 }
two_next messages owner es Left r events (database_step.put m ∷ later) are each = absurd are
two_next messages owner es Left r events (database_step.crash ∷ later) are each = absurd are

-- ---- the trace before a step

record SplitAt (messages : List Message) (owner : Name) (es : List Recorded) (trace : List Event) (first : List (DatabaseStep Recorded)) : Type 0 where
  prefix : List Event
  back : List Event
  event : Event
  is : trace ≡ prefix ++ event ∷ back
  are : AreDatabaseSteps messages owner es prefix first

split_at : (messages : List Message) (owner : Name) (es : List Recorded) (trace : List Event) (first back : List (DatabaseStep Recorded)) (next : DatabaseStep Recorded)
    → AreDatabaseSteps messages owner es trace (first ++ next ∷ back) → SplitAt messages owner es trace first
split_at messages owner es [] [] back next are = absurd are
split_at messages owner es [] (step ∷ first) back next are = absurd are
split_at messages owner es (event ∷ events) [] back next are = record { prefix = []; back = events; event = event; is = refl; are = tt }
split_at messages owner es (commit r ∷ events) (append q ∷ first) back next are =
    let rest = split_at messages owner (es ++ r ∷ []) events first back next are.2 in
    record { prefix = commit r ∷ rest.prefix; back = rest.back; event = rest.event; is = ap (λ (l : List Event). commit r ∷ l) rest.is; are = (are.0, are.1, rest.are) }
split_at messages owner es (put address name bytes ∷ events) (database_step.put m ∷ first) back next are =
    let rest = split_at (messages ++ m ∷ []) owner es events first back next are.2 in
    record { prefix = put address name bytes ∷ rest.prefix; back = rest.back; event = rest.event; is = ap (λ (l : List Event). put address name bytes ∷ l) rest.is; are = (are.0, are.1, rest.are) }
split_at messages owner es trace first back next are = absurd are

-- a stretch in which the disk alone was used
pub none_mail : (before now : Seen) (more : List Happening) → now.happened ≡ more ++ before.happened → DiskStays before now → mail_in more ≡ []
none_mail before now more is stays = append_cancel_right (mail_in more) [] (mail_in before.happened) (sym (mail_more before.happened more) ∙ ap mail_in (sym is) ∙ stays.mail)

-- no step comes before none
no_step : (prefix back : List (DatabaseStep Recorded)) (next : DatabaseStep Recorded) → [] ≡ prefix ++ next ∷ back → ⊥
no_step [] back next e = absurd cc
no_step (step ∷ prefix) back next e = absurd cc

-- ---- at each moment of a trace

module _ (messages : List Message) (owner : Name) (first es : List Recorded) (before : List (DatabaseStep Recorded)) (may : MayDo messages owner first before) (none : put_in before ≡ [])
    (there : history_after_all first before ≡ es) (trace : List Event) (database_steps : List (DatabaseStep Recorded)) (are : AreDatabaseSteps messages owner es trace database_steps)
    (said : Along (AreSaid (fresh owner)) es (commits trace)) (base : ℕ) (kept : Along (IsKeeping owner base) es (commits trace)) where
  lawful_prefix : (begun left : List Event) → trace ≡ begun ++ left → Stored owner (es ++ commits begun) → LawfulHistory owner (es ++ commits begun)
  lawful_prefix begun left prefix stored = is_lawful owner (es ++ commits begun) stored (said_prefix messages owner first es before may none there trace database_steps are said begun left prefix)

  -- files that stand for a front of it, and whose log begins at the base, keep what partners need
  keeps_prefix : (begun left : List Event) → trace ≡ begun ++ left → (image : Files) → HasBase base image → StandsAs owner (es ++ commits begun) image → StandsKeeping owner (es ++ commits begun) image
  keeps_prefix begun left prefix image has stands =
      let parts : Along (IsKeeping owner base) es (commits begun ++ commits left)
      = subst (λ (l : List Recorded). Along (IsKeeping owner base) es l) (ap commits prefix ∙ commits-append begun left) kept in
      let keeping : IsKeeping owner base (es ++ commits begun)
      = along_last (IsKeeping owner base) es (commits begun) (along_prefix (IsKeeping owner base) es (commits begun) (commits left) parts) in
      record { base = base; stands = stands_at owner (es ++ commits begun) base image has stands; needs = keeping.needs }

  abbrev all : List (DatabaseStep Recorded)
  all = before ++ database_steps

  -- the steps of a prefix of the trace
  module _ (part back : List Event) (prefix : trace ≡ part ++ back) where
    parted : InParts messages owner es part back database_steps
    parted = in_parts messages owner es part back database_steps (subst (λ (l : List Event). AreDatabaseSteps messages owner es l database_steps) prefix are)

    abbrev then : List Message
    then = messages ++ put_in parted.database_steps

    module _ (Left : Files → Type 0) (lawful : LawfulHistory owner (es ++ commits part)) where
      abbrev on : List (DatabaseStep Recorded)
      on = parted.database_steps

      same : put_in (before ++ on) ≡ put_in on
      same = put_more before on ∙ ap (λ (ms : List Message). ms ++ put_in on) none

      history_is : history_after_all first (before ++ on) ≡ es ++ commits part
      history_is = history_more first before on ∙ ap (λ (rs : List Recorded). history_after_all rs on) there ∙ database_steps_history messages owner es part on parted.are

      messages_are : messages_after_all messages (before ++ on) ≡ then
      messages_are = database_steps_messages messages (before ++ on) ∙ ap (λ (ms : List Message). messages ++ ms) same

      way_is : all ≡ (before ++ on) ++ parted.more
      way_is = ap (λ (l : List (DatabaseStep Recorded)). before ++ l) parted.is ∙ sym (append_assoc before on parted.more)

      can_do : MayDo messages owner first (before ++ on)
      can_do =
          let can : MayDo messages owner es on = may_do messages owner es part on parted.are (lawful_along owner es (commits part) lawful) in
          let still : messages_after_all messages before ≡ messages = database_steps_messages messages before ∙ ap (λ (ms : List Message). messages ++ ms) none ∙ append-nil messages in
          database_steps_join layers HasSpelling LawfulHistory messages owner first before on may
          (subst (λ (ms : List Message). MayDo ms owner (history_after_all first before) on) (sym still)
          (subst (λ (rs : List Recorded). MayDo messages owner rs on) (sym there) can))

      made : Rests (messages_after_all messages (before ++ on)) owner (history_after_all first (before ++ on)) Left → RestsBehind messages owner first (puts part) Left
      made rests = record {
        database_steps = before ++ on;
        may = can_do;
        put = database_steps_files messages owner es part on parted.are ∙ ap (map message_spelling) (sym same);
        spelled = subst (λ (ms : List Message). AllByRecursion IsMessage ms) (sym same) (database_steps_spelled messages owner es part on parted.are);
        rests = rests;
      }

      behind_part : RestsNext then owner (es ++ commits part) Left parted.more → OnTheWay messages owner first all (puts part) Left
      unfolding made
      behind_part rests =
          let moved : RestsNext (messages_after_all messages (before ++ on)) owner (history_after_all first (before ++ on)) Left parted.more
          = subst (λ (ms : List Message). RestsNext ms owner (history_after_all first (before ++ on)) Left parted.more) (sym messages_are)
          (subst (λ (rs : List Recorded). RestsNext then owner rs Left parted.more) (sym history_is) rests) in
          record { rest = made moved.rests; later = parted.more; on_the_way = way_is; next = moved.next }

      behind_one : ((image : Files) → Left image → StandsKeeping owner (es ++ commits part) image) → BehindOne messages owner first all (puts part) Left
      unfolding made
      behind_one stands =
          let moved : RestsOne (messages_after_all messages (before ++ on)) owner (history_after_all first (before ++ on)) Left parted.more
          = subst (λ (ms : List Message). RestsOne ms owner (history_after_all first (before ++ on)) Left parted.more) (sym messages_are)
          (subst (λ (rs : List Recorded). RestsOne then owner rs Left parted.more) (sym history_is) (record { rests = on_one stands; one = tt; next = tt })) in
          record { way = record { rest = made moved.rests; later = parted.more; on_the_way = way_is; next = moved.next }; one = moved.one }

  module _ (Left : Files → Type 0) (some : Files) (left_some : Left some) where
    -- all of it stands for the history with all that has begun
    on_all : (begun left : List Event) → trace ≡ begun ++ left → ((image : Files) → Left image → StandsKeeping owner (es ++ commits begun) image)
        → BehindOne messages owner first all (puts begun) Left
    on_all begun left prefix stands = behind_one begun left prefix Left (lawful_prefix begun left prefix (stands some left_some).stands.stored) stands

    -- it lacks the last commit, or not
    on_last : (begun part left : List Event) (r : Recorded) → trace ≡ begun ++ left → begun ≡ part ++ commit r ∷ []
        → ((image : Files) → Left image → StandsKeeping owner (es ++ commits part) image ⊎ StandsKeeping owner (es ++ commits begun) image) → OnTheWay messages owner first all (puts begun) Left
    on_last begun part left r prefix is stands =
        let prefix_is : trace ≡ part ++ (commit r ∷ left) = prefix ∙ ap (λ (l : List Event). l ++ left) is ∙ append_assoc part (commit r ∷ []) left in
        let longer_is : es ++ commits begun ≡ (es ++ commits part) ++ r ∷ []
        = ap (λ (l : List Event). es ++ commits l) is ∙ ap (λ (l : List Recorded). es ++ l) (commits-append part (commit r ∷ [])) ∙ sym (append_assoc es (commits part) (r ∷ [])) in
        let puts_are : puts begun ≡ puts part = ap puts is ∙ trace_puts part (commit r ∷ []) ∙ append-nil (puts part) in
        let lawful_longer : (image : Files) → StandsKeeping owner (es ++ commits begun) image → LawfulHistory owner ((es ++ commits part) ++ r ∷ [])
        = λ image it. subst (LawfulHistory owner) longer_is (lawful_prefix begun left prefix it.stands.stored) in
        let lawful : LawfulHistory owner (es ++ commits part) = elim (stands some left_some) [
          | inl short ↦ lawful_prefix part (commit r ∷ left) prefix_is short.stands.stored
          | inr long ↦ prefix_of (fresh owner) 0 (es ++ commits part) (r ∷ []) (lawful_longer some long)
        ] in
        let on = parted part (commit r ∷ left) prefix_is in
        subst (λ (ls : List PutFile). OnTheWay messages owner first all ls Left) (sym puts_are)
        (behind_part part (commit r ∷ left) prefix_is Left lawful
        (two_next (messages ++ put_in on.database_steps) owner (es ++ commits part) Left r left on.more on.behind (λ image there. elim (stands image there) [
          | inl short ↦ inl short
          | inr long ↦ inr (record {
            may = ((first_can (messages ++ put_in on.database_steps) owner (es ++ commits part) r left on.more on.behind, lawful_longer image long), tt);
            stands = subst (λ (rs : List Recorded). StandsKeeping owner rs image) longer_is long;
          })
        ])))

    rests_there : (begun left : List Event) → trace ≡ begun ++ left → ((image : Files) → Left image → HasBase base image) → ((image : Files) → Left image → MayStandFor owner es begun image) → HasParts begun
        → OnTheWay messages owner first all (puts begun) Left
    rests_there begun left prefix based images (alone is) =
        (on_all begun left prefix (λ image there. elim (images image there) [
          | inl whole ↦ keeps_prefix begun left prefix image (based image there) whole
          | inr lacks ↦
              let same : lacks.others ≡ begun = sym (part_is lacks.others lacks.last) ∙ ap prefix_part (sym lacks.is) ∙ sym is in
              keeps_prefix begun left prefix image (based image there) (subst (λ (l : List Event). StandsAs owner (es ++ commits l) image) same lacks.stands)
        ])).way
    rests_there begun left prefix based images (one_more r is) =
        let shorter : trace ≡ prefix_part begun ++ (commit r ∷ left) = prefix ∙ ap (λ (l : List Event). l ++ left) is ∙ append_assoc (prefix_part begun) (commit r ∷ []) left in
        on_last begun (prefix_part begun) left r prefix is (λ image there. elim (images image there) [
          | inl whole ↦ inr (keeps_prefix begun left prefix image (based image there) whole)
          | inr lacks ↦
              let same : lacks.others ≡ prefix_part begun = sym (part_is lacks.others lacks.last) ∙ ap prefix_part (sym lacks.is) in
              inl (keeps_prefix (prefix_part begun) (commit r ∷ left) shorter image (based image there) (subst (λ (l : List Event). StandsAs owner (es ++ commits l) image) same lacks.stands))
        ])

  module _ (files : Files) (past : List Happening) (First : Files → Type 0) where
    abbrev There : List Happening → Files → Type 0
    There since image = MayLeave files (since ++ past) image

    abbrev RestsNow : List Happening → Type 0
    RestsNow since = RestsAt messages owner first all since First (There since)

    -- the log of each begins at the base
    abbrev AreBasedAt : List Happening → Type 0
    AreBasedAt since = (image : Files) → There since image → HasBase base image

    at_mail : (since : List Happening) → IsOnTrace files owner es past trace since → AreBasedAt since → IsBetween since → RestsNow since
    at_mail since on based between =
        let some = some_image files (since ++ past) in
        let one : BehindOne messages owner first all (puts_in since) (There since)
        = subst (λ (ls : List PutFile). BehindOne messages owner first all ls (There since)) (sym on.has.put) (on_all (There since) some.0 some.1 on.begun on.left on.prefix
        (λ image there. keeps_prefix on.begun on.left on.prefix image (based image there) (on.has.settled between image there))) in
        record { rest = one.way.rest; settled = λ at. one.one; later = one.way.later; on_the_way = one.way.on_the_way; next = inl one.way.next }

    elsewhere : (since : List Happening) → IsOnTrace files owner es past trace since → AreBasedAt since → (IsAtMail since → ⊥) → RestsNow since
    elsewhere since on based no_call =
        let some = some_image files (since ++ past) in
        let way : OnTheWay messages owner first all (puts_in since) (There since)
        = subst (λ (ls : List PutFile). OnTheWay messages owner first all ls (There since)) (sym on.has.put)
        (rests_there (There since) some.0 some.1 on.begun on.left on.prefix based on.has.images (parts_of on.begun)) in
        record { rest = way.rest; settled = λ at. absurd (no_call at); later = way.later; on_the_way = way.on_the_way; next = inl way.next }

    rests_at : (since : List Happening) → IsOnTrace files owner es past trace since → AreBasedAt since → RestsNow since
    rests_at [] on based = elsewhere [] on based (λ at. at)
    rests_at (attached name folder done ∷ since) on based = elsewhere (attached name folder done ∷ since) on based (λ at. at)
    rests_at (wrote file place bytes done after ∷ since) on based = elsewhere (wrote file place bytes done after ∷ since) on based (λ at. at)
    rests_at (cut_to file to done after ∷ since) on based = elsewhere (cut_to file to done after ∷ since) on based (λ at. at)
    rests_at (synced file done after ∷ since) on based = elsewhere (synced file done after ∷ since) on based (λ at. at)
    rests_at (listed address folder listing ∷ since) on based = at_mail (listed address folder listing ∷ since) on based tt
    rests_at (fetched address name limit found ∷ since) on based = at_mail (fetched address name limit found ∷ since) on based tt
    rests_at (sent address name bytes done ∷ since) on based = at_mail (sent address name bytes done ∷ since) on based tt
    rests_at (removed address name done ∷ since) on based = at_mail (removed address name done ∷ since) on based tt
    rests_at (handed_over folders noted ∷ since) on based = at_mail (handed_over folders noted ∷ since) on based tt

    rests_each : (more : List Happening) → AtEach (IsOnTrace files owner es past trace) more → AtEach AreBasedAt more → AtEach RestsNow more
    rests_each [] on based = rests_at [] on based
    rests_each (step ∷ more) on based = (rests_at (step ∷ more) on.0 based.0, rests_each more on.1 based.1)

    -- nothing was put, and every crash leaves files that stand for the history before the trace, and keep what partners need
    stretch_at : (since : List Happening) → puts_in since ≡ [] → ((image : Files) → There since image → StandsKeeping owner es image) → RestsNow since
    stretch_at since unput stands =
        let some = some_image files (since ++ past) in
        let one : BehindOne messages owner first all (puts_in since) (There since)
        = subst (λ (ls : List PutFile). BehindOne messages owner first all ls (There since)) (sym unput)
        (on_all (There since) some.0 some.1 [] trace refl (λ image there. subst (λ (rs : List Recorded). StandsKeeping owner rs image) (sym (append-nil es)) (stands image there))) in
        record { rest = one.way.rest; settled = λ at. one.one; later = one.way.later; on_the_way = one.way.on_the_way; next = inl one.way.next }

    stretch_each : (more : List Happening) → puts_in more ≡ [] → Throughout (λ moment. (image : Files) → MayLeave files moment image → StandsKeeping owner es image) past more → AtEach RestsNow more
    stretch_each [] unput stands = stretch_at [] unput stands
    stretch_each (step ∷ more) unput stands = (stretch_at (step ∷ more) unput stands.0, stretch_each more (none_before step more unput) stands.1)

  -- ---- before each of the steps

  joint_before : (files : Files) (past more : List Happening) → event.HasJoints files owner es past trace more → (seen : Seen) → seen.first ≡ files → seen.happened ≡ past
      → IsSettledBetween owner (history_after_all first before) database_steps seen more
  joint_before files past more joints seen same is prefix back next e =
      let split = split_at messages owner es trace prefix back next (subst (λ (l : List (DatabaseStep Recorded)). AreDatabaseSteps messages owner es trace l) e are) in
      let joint = joints split.prefix split.back split.event split.is in
      let history_is : history_after_all (history_after_all first before) prefix ≡ es ++ commits split.prefix
      = ap (λ (rs : List Recorded). history_after_all rs prefix) there ∙ database_steps_history messages owner es split.prefix prefix split.are in
      record {
        later = joint.later;
        since = joint.since;
        is = joint.is;
        settled = λ image at.
            subst (λ (rs : List Recorded). StandsAs owner rs image) (sym history_is)
            (joint.settled image (subst (λ (f : Files). MayLeave f (joint.since ++ past) image) same (subst (λ (l : List Happening). MayLeave seen.first (joint.since ++ l) image) is at)));
      }

  -- along the trace, after what could be left first
  along_each : (opened now : Seen) (First : Files → Type 0) → IsSettled (HasBase base) opened → Went opened now owner es trace
      → (more : List Happening) → now.happened ≡ more ++ opened.happened → AtEach (RestsNow opened.first opened.happened First) more
  unfolding Went
  along_each opened now First settled went more more_is =
      let rests = went.base base settled in
      let same : rests.more ≡ went.more = append_cancel_right rests.more went.more opened.happened (sym rests.is ∙ went.is) in
      let based : AtEach (AreBasedAt opened.first opened.happened First) went.more
      = subst (λ (l : List Happening). AtEach (AreBasedAt opened.first opened.happened First) l) same
      (at_moments (λ moment. (image : Files) → MayLeave opened.first moment image → HasBase base image) opened.happened rests.more rests.moments) in
      let all_more : went.more ≡ more = append_cancel_right went.more more opened.happened (sym went.is ∙ more_is) in
      subst (λ (l : List Happening). AtEach (RestsNow opened.first opened.happened First) l) all_more (rests_each opened.first opened.happened First went.more went.moments based)

  pub went_rests : IsAhead before → (opened now : Seen) → IsSettled (HasBase base) opened → Went opened now owner es trace → RestsAtEach messages owner first before database_steps opened now
  unfolding Went
  went_rests ahead opened now settled went = record {
    more = went.more;
    is = went.is;
    ahead = ahead;
    moments = along_each opened now (MayLeave opened.first opened.happened) settled went went.more went.is;
    joints = joint_before opened.first opened.happened went.more went.joints opened refl refl;
  }

  -- ---- behind a stretch in which the mail was left alone and the history stayed

  module _ (opened middle : Seen) (same_first : middle.first ≡ opened.first) (opening : List Happening) (is : middle.happened ≡ opening ++ opened.happened) (unput : puts_in opening ≡ []) where
    since_middle : (since : List Happening) (image : Files) → MayLeave opened.first ((since ++ opening) ++ opened.happened) image → MayLeave middle.first (since ++ middle.happened) image
    since_middle since image left =
        subst (λ (f : Files). MayLeave f (since ++ middle.happened) image) (sym same_first)
        (subst (λ (l : List Happening). MayLeave opened.first (since ++ l) image) (sym is)
        (subst (λ (l : List Happening). MayLeave opened.first l image) (append_assoc since opening opened.happened) left))

    moved_on : (step : Happening) (since : List Happening) → RestsNow middle.first middle.happened (IsImage opened) (step ∷ since) → RestsNow opened.first opened.happened (IsImage opened) (step ∷ since ++ opening)
    moved_on step since at =
        let put_then : puts_in (step ∷ since ++ opening) ≡ puts_in (step ∷ since) = puts_more opening (step ∷ since) ∙ ap (λ (ls : List PutFile). ls ++ puts_in (step ∷ since)) unput in
        moved_rest messages owner first all (step ∷ since) (step ∷ since ++ opening) (IsImage opened) (IsImage opened) _ _ (λ image left. left) put_then (mail_on step since opening)
        (λ image left. since_middle (step ∷ since) image left)
        at

    both_moved : (later : List Happening) → AtEach (RestsNow opened.first opened.happened (IsImage opened)) opening → AtEach (RestsNow middle.first middle.happened (IsImage opened)) later
        → AtEach (RestsNow opened.first opened.happened (IsImage opened)) (later ++ opening)
    both_moved [] sooner rest = sooner
    both_moved (step ∷ later) sooner rest = (moved_on step later rest.0, both_moved later sooner rest.1)

    joint_moved : (rs : List Recorded) (more : List Happening) → WasSettled owner rs middle more → WasSettled owner rs opened (more ++ opening)
    joint_moved rs more was = record {
      later = was.later;
      since = was.since ++ opening;
      is = ap (λ (l : List Happening). l ++ opening) was.is ∙ append_assoc was.later was.since opening;
      settled = λ image left. was.settled image (since_middle was.since image left);
    }

  pub went_behind_stretch : IsAhead before → (opened middle now : Seen) → RestsThroughout (StandsKeeping owner es) opened middle → DiskStays opened middle → IsSettled (HasBase base) middle
      → Went middle now owner es trace → RestsAtEach messages owner first before database_steps opened now
  unfolding Went
  went_behind_stretch ahead opened middle now stretch stays settled went =
      let unput : puts_in stretch.more ≡ [] = none_put stretch.more (none_mail opened middle stretch.more stretch.is stays) in
      let sooner = stretch_each opened.first opened.happened (IsImage opened) stretch.more unput stretch.moments in
      let joints = joint_before middle.first middle.happened went.more went.joints middle refl refl in
      record {
        more = went.more ++ stretch.more;
        is = went.is ∙ ap (λ (l : List Happening). went.more ++ l) stretch.is ∙ sym (append_assoc went.more stretch.more opened.happened);
        ahead = ahead;
        moments = both_moved opened middle stays.first stretch.more stretch.is unput went.more sooner (along_each middle now (IsImage opened) settled went went.more went.is);
        joints = λ prefix back next e.
            joint_moved opened middle stays.first stretch.more stretch.is unput (history_after_all (history_after_all first before) prefix) went.more (joints prefix back next e);
      }

  -- the stretch alone
  pub stretch_rests : IsAhead before → database_steps ≡ [] → (opened now : Seen) → RestsThroughout (StandsKeeping owner es) opened now → DiskStays opened now
      → RestsAtEach messages owner first before database_steps opened now
  stretch_rests ahead no_steps opened now stretch stays =
      let unput : puts_in stretch.more ≡ [] = none_put stretch.more (none_mail opened now stretch.more stretch.is stays) in
      record {
        more = stretch.more;
        is = stretch.is;
        ahead = ahead;
        moments = stretch_each opened.first opened.happened (IsImage opened) stretch.more unput stretch.moments;
        joints = λ prefix back next e. absurd (no_step prefix back next (sym no_steps ∙ e));
      }

-- ---- from a moment at which a crash leaves what rests on the history of the world

module _ (messages : List Message) (owner : Name) (first : List Recorded) (before : Seen) (rested : Rests messages owner first (IsImage before)) where
  -- ---- before the first step

  module _ (all : List (DatabaseStep Recorded)) where
    abbrev RestsSince : List Happening → Type 0
    RestsSince since = RestsAt messages owner first all since (IsImage before) (MayLeave before.first (since ++ before.happened))

    rests_still : (since : List Happening) → mail_in since ≡ [] → ((image : Files) → MayLeave before.first (since ++ before.happened) image → IsImage before image) → RestsSince since
    rests_still since none still = record {
      rest = record { database_steps = []; may = tt; put = ap (map (λ (l : PutFile). l.2)) (none_put since none); spelled = tt; rests = fewer_rest messages owner first (IsImage before) _ still rested };
      settled = λ at. absurd (no_mail since none at);
      later = all;
      on_the_way = refl;
      next = inr still;
    }

    still_each : (more : List Happening) → mail_in more ≡ [] → Throughout (λ moment. (image : Files) → MayLeave before.first moment image → IsImage before image) before.happened more → AtEach RestsSince more
    still_each [] none still = rests_still [] none still
    still_each (step ∷ more) none still = (rests_still (step ∷ more) none still.0, still_each more (step_before step more none).0 still.1)

  pub silent_rests : (now : Seen) → RestsThroughout (IsImage before) before now → DiskStays before now → RestsAtEach messages owner first [] [] before now
  silent_rests now still stays = record {
    more = still.more;
    is = still.is;
    ahead = tt;
    moments = still_each [] still.more (none_mail before now still.more still.is stays) still.moments;
    joints = λ prefix back next e. absurd (no_step prefix back next e);
  }

  -- ---- after an opening

  module _ (all : List (DatabaseStep Recorded)) (opened : Seen) (same : opened.first ≡ before.first) (opening : List Happening) (is : opened.happened ≡ opening ++ before.happened) (none : puts_in opening ≡ [])
      (was : (image : Files) → IsImage opened image → IsImage before image) where
    abbrev RestsOpened : List Happening → Type 0
    RestsOpened since = RestsAt messages owner first all since (IsImage opened) (MayLeave opened.first (since ++ opened.happened))

    left_later : (since : List Happening) (image : Files) → MayLeave before.first ((since ++ opening) ++ before.happened) image → MayLeave opened.first (since ++ opened.happened) image
    left_later since image there =
        subst (λ (f : Files). MayLeave f (since ++ opened.happened) image) (sym same)
        (subst (λ (l : List Happening). MayLeave before.first (since ++ l) image) (sym is)
        (subst (λ (l : List Happening). MayLeave before.first l image) (append_assoc since opening before.happened) there))

    rests_later : (step : Happening) (since : List Happening) → RestsOpened (step ∷ since) → RestsSince all (step ∷ since ++ opening)
    rests_later step since at =
        let put_then : puts_in (step ∷ since ++ opening) ≡ puts_in (step ∷ since) = puts_more opening (step ∷ since) ∙ ap (λ (ls : List PutFile). ls ++ puts_in (step ∷ since)) none in
        moved_rest messages owner first all (step ∷ since) (step ∷ since ++ opening) (IsImage opened) (IsImage before) _ _ was put_then (mail_on step since opening)
        (λ image there. left_later (step ∷ since) image there)
        at

    rests_both : (later : List Happening) → AtEach (RestsSince all) opening → AtEach RestsOpened later → AtEach (RestsSince all) (later ++ opening)
    rests_both [] sooner rest = sooner
    rests_both (step ∷ later) sooner rest = (rests_later step later rest.0, rests_both later sooner rest.1)

    joint_later : (es : List Recorded) (more : List Happening) → WasSettled owner es opened more → WasSettled owner es before (more ++ opening)
    joint_later es more was = record {
      later = was.later;
      since = was.since ++ opening;
      is = ap (λ (l : List Happening). l ++ opening) was.is ∙ append_assoc was.later was.since opening;
      settled = λ image there. was.settled image (left_later was.since image there);
    }

  pub opened_rests : (found made : List (DatabaseStep Recorded)) (opened now : Seen) → opened.first ≡ before.first → RestsThroughout (IsImage before) before opened → DiskStays before opened
      → RestsAtEach messages owner first found made opened now → RestsAtEach messages owner first found made before now
  opened_rests found made opened now same still stays later =
      let none = none_mail before opened still.more still.is stays in
      let all : List (DatabaseStep Recorded) = found ++ made in
      let quiet : puts_in still.more ≡ [] = none_put still.more none in
      record {
        more = later.more ++ still.more;
        is = later.is ∙ ap (λ (l : List Happening). later.more ++ l) still.is ∙ sym (append_assoc later.more still.more before.happened);
        ahead = later.ahead;
        moments = rests_both all opened same still.more still.is quiet (λ image there. was_image before opened image same still there) later.more (still_each all still.more none still.moments) later.moments;
        joints = λ prefix back next e.
            joint_later all opened same still.more still.is quiet (λ image there. was_image before opened image same still there) (history_after_all (history_after_all first found) prefix) later.more (later.joints prefix back next e);
      }
