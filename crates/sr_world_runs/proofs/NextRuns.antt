-- Where the next run finds its database.
use Rattle.std.proofs.Common.{◌≡◌, ◌≢◌, List, [], ◌∷◌, ◌++◌, refl, sym, ap, subst, ◌∙◌, inl, inr}
use Rattle.std.proofs.lemmas.List.{append_cancel_right}
use Rattle.std.proofs.lemmas.List.Elements.{All-contains, All-from_recursion, Contains-append_right, Contains-get_or, recursion_from_All}
use Rattle.std.specs.Prelude.{ℕ, Contains}
use Rattle.std.specs.List.{AllByRecursion}
use Rattle.sr_book.specs.Entries.{Name}
use Rattle.sr_database_history.specs.Recorded.{Recorded}
use Rattle.sr_world_model.specs.Steps.{DatabaseStep, append, history_after, history_after_all, messages_after, messages_after_all}
use Rattle.sr_world_model.specs.Worlds.{World, WorldStep, IsNamed, after_all, acts_by, happens, history}
use Rattle.sr_world_model.specs.Worlds.{AreAmong}
use Rattle.sr_world_model.proofs.Good.{database_step_kept, history_in-histories_after}
use Rattle.sr_world_model.proofs.Leave.{after_among, all_more, do_more, messages_kept, named_kept}
use Rattle.sr_msgform.specs.Messages.{IsMessage, message_spelling}
use Rattle.sr_msgform.specs.declared.message.Message.{Message}
use Rattle.sr_msgform.proofs.Whole.{one_message}
use Rattle.sr_site.specs.Files.{Files}
use Rattle.sr_site.specs.Happenings.{Happening, IsCall}
use Rattle.sr_site.specs.Images.{IsImage, IsSettled, MayLeave}
use Rattle.sr_site.specs.Seen.{Seen}
use Rattle.sr_database_meaning.specs.Events.{PutFile, puts_in}
use Rattle.sr_database_meaning.specs.Standing.{StandsAs}
use Rattle.sr_database_meaning.specs.Traces.{AtEach}
use Rattle.sr_world_untouched.proofs.All.{keys_agree}
use Rattle.sr_world.specs.Real.{HasSpelling, IsGoodWorld, LawfulHistory, MayDo, layers}
use Rattle.sr_world.proofs.Keeping.{real_laws}
use Rattle.sr_world_runs.specs.Worlds.{AreFiles, IsFaithful, IsFaithfulThroughout, IsKnown, IsReturned, PutsComeLast, Rests, on_one, on_two, RestsAt, RestsBehind, put_in}
use Rattle.sr_world_runs.specs.Inner.Worlds.{CallsInOrder, RestsAtEach}
use Rattle.sr_world_runs.proofs.DatabaseSteps.{database_steps_messages}
use Rattle.sr_world_prefix.specs.Kept.{StandsKeeping}
use Rattle.sr_world_runs.proofs.Keeping.{new_keeps}
use Rattle.sr_world_runs.proofs.Ordered.{own_history}

pub named_all : (w : World Recorded) (owner : Name) (database_steps : List (DatabaseStep Recorded)) (d : Name) → IsNamed w d → IsNamed (after_all w (acts_by owner database_steps)) d
named_all w owner [] d named = named
named_all w owner (database_step ∷ database_steps) d named =
    let act : WorldStep Recorded = record { owner = owner; database_step = database_step } in
    named_all (happens w act) owner database_steps d (named_kept w act d named)

pub messages_all : (w : World Recorded) (owner : Name) (database_steps : List (DatabaseStep Recorded)) → (after_all w (acts_by owner database_steps)).messages ≡ messages_after_all w.messages database_steps
messages_all w owner [] = refl
messages_all w owner (database_step ∷ database_steps) = messages_all (happens w (record { owner = owner; database_step = database_step })) owner database_steps

pub history_all : (w : World Recorded) (owner : Name) (database_steps : List (DatabaseStep Recorded)) → IsNamed w owner → history (after_all w (acts_by owner database_steps)) owner ≡ history_after_all (history w owner) database_steps
history_all w owner [] named = refl
history_all w owner (database_step ∷ database_steps) named =
    let act : WorldStep Recorded = record { owner = owner; database_step = database_step } in
    history_all (happens w act) owner database_steps (named_kept w act owner named)
    ∙ ap (λ (rs : List Recorded). history_after_all rs database_steps) (own_history w.histories owner database_step named.0 named.1 named.2)

good_all : (w : World Recorded) (messages : List Message) (owner : Name) (es : List Recorded) (database_steps : List (DatabaseStep Recorded)) → IsGoodWorld w → IsNamed w owner → history w owner ≡ es
    → AreAmong messages w.messages → MayDo messages owner es database_steps → IsGoodWorld (after_all w (acts_by owner database_steps))
good_all w messages owner es [] good named is among may = good
good_all w messages owner es (database_step ∷ database_steps) good named is among may =
    let act : WorldStep Recorded = record { owner = owner; database_step = database_step } in
    good_all (happens w act) (messages_after messages database_step) owner (history_after es database_step) database_steps
    (database_step_kept layers HasSpelling LawfulHistory real_laws w owner database_step good (rw is (do_more messages w.messages among layers HasSpelling LawfulHistory owner es database_step may.0)))
    (named_kept w act owner named)
    (own_history w.histories owner database_step named.0 named.1 named.2 ∙ ap (λ (l : List Recorded). history_after l database_step) is)
    (after_among messages w.messages database_step among) may.1

pub spelled_known : (messages : List Message) (receiver : Name) (m : Message) → Contains messages m → IsMessage m → IsKnown messages receiver (message_spelling m)
spelled_known messages receiver m among is = λ other spelled same to. subst (λ (x : Message). Contains messages x) (one_message m other is spelled same) among

-- what holds of the bytes of each message holds of the files that have them
pub by_files : (P : List ℕ → Type 0) (put_files : List PutFile) (messages : List Message) → AreFiles put_files messages → AllByRecursion (λ m. P (message_spelling m)) messages → AllByRecursion (λ (l : PutFile). P l.2) put_files
by_files P [] messages are all = tt
by_files P (l ∷ put_files) [] are all = absurd cc
by_files P (l ∷ put_files) (m ∷ messages) are all =
    let first : l.2 ≡ message_spelling m = cc in
    let others : AreFiles put_files messages = cc in
    (subst P (sym first) all.0, by_files P put_files messages others all.1)

module _ (w : World Recorded) (owner : Name) (put_files : List PutFile) (first : Files) (moment : List Happening) (rest : RestsBehind w.messages owner (history w owner) put_files (MayLeave first moment)) where
  abbrev there : World Recorded
  there = after_all w (acts_by owner rest.database_steps)

  pub good_there : IsGoodWorld w → IsNamed w owner → IsGoodWorld there
  good_there good named = good_all w w.messages owner (history w owner) rest.database_steps good named refl (λ m has. has) rest.may

  pub named_there : (d : Name) → IsNamed w d → IsNamed there d
  named_there d named = named_all w owner rest.database_steps d named

  pub messages_there : there.messages ≡ w.messages ++ put_in rest.database_steps
  messages_there = messages_all w owner rest.database_steps ∙ database_steps_messages w.messages rest.database_steps

  pub put_known : (receiver : Name) (m : Message) → Contains (put_in rest.database_steps) m → IsKnown there.messages receiver (message_spelling m)
  put_known receiver m has =
      spelled_known there.messages receiver m
      (subst (λ (ms : List Message). Contains ms m) (sym messages_there) (Contains-append_right w.messages (put_in rest.database_steps) m has))
      (All-contains IsMessage (put_in rest.database_steps) m (All-from_recursion IsMessage (put_in rest.database_steps) rest.spelled) has)

  pub files_known : (receiver : Name) → AllByRecursion (λ (l : PutFile). IsKnown there.messages receiver l.2) put_files
  files_known receiver =
      by_files (IsKnown there.messages receiver) put_files (put_in rest.database_steps) rest.put
      (recursion_from_All (λ (m : Message). IsKnown there.messages receiver (message_spelling m)) (put_in rest.database_steps)
      (λ k d lt. put_known receiver _ (Contains-get_or (put_in rest.database_steps) k d lt)))

  pub rests_on : IsNamed w owner → Rests there.messages owner (history there owner) (MayLeave first moment)
  rests_on named =
      subst (λ (ms : List Message). Rests ms owner (history there owner) (MayLeave first moment)) (sym (messages_all w owner rest.database_steps))
      (subst (λ (rs : List Recorded). Rests (messages_after_all w.messages rest.database_steps) owner rs (MayLeave first moment)) (sym (history_all w owner rest.database_steps named)) rest.rests)

-- ---- at each moment the world after is good

module _ (w : World Recorded) (owner : Name) (before : Seen) (good : IsGoodWorld w) (named : IsNamed w owner) where
  module _ (all : List (DatabaseStep Recorded)) where
    one_faithful : (since : List Happening) → RestsAt w.messages owner (history w owner) all since (IsImage before) (MayLeave before.first (since ++ before.happened)) → IsFaithful w owner before all since
    one_faithful since at =
        let there : World Recorded = after_all w (acts_by owner at.rest.database_steps) in
        let good_here : IsGoodWorld there = good_all w w.messages owner (history w owner) at.rest.database_steps good named refl (λ m has. has) at.rest.may in
        record {
          at = at;
          good = good_here;
          keys = keys_agree there good_here;
          longer = λ r may.
              good_all there (messages_after_all w.messages at.rest.database_steps) owner (history_after_all (history w owner) at.rest.database_steps) (append r ∷ []) good_here (named_all w owner at.rest.database_steps owner named)
              (history_all w owner at.rest.database_steps named) (λ m has. subst (λ (ms : List Message). Contains ms m) (sym (messages_all w owner at.rest.database_steps)) has) may;
        }

    each_faithful : (more : List Happening) → AtEach (λ since. RestsAt w.messages owner (history w owner) all since (IsImage before) (MayLeave before.first (since ++ before.happened))) more → AtEach (IsFaithful w owner before all) more
    each_faithful [] at = one_faithful [] at
    each_faithful (step ∷ more) at = (one_faithful (step ∷ more) at.0, each_faithful more at.1)

  pub faithful : (found made : List (DatabaseStep Recorded)) (now : Seen) (run : RestsAtEach w.messages owner (history w owner) found made before now) → CallsInOrder before now
      → IsReturned owner (history_after_all (history w owner) (found ++ made)) before now → IsFaithfulThroughout w owner before now
  faithful found made now run order returned =
      let same : order.more ≡ run.more = append_cancel_right order.more run.more before.happened (sym order.is ∙ run.is) in
      record {
        more = run.more;
        is = run.is;
        found = found;
        ahead = run.ahead;
        made = made;
        moments = each_faithful (found ++ made) run.more run.moments;
        joints = run.joints;
        calls = subst (λ (l : List Happening). AllByRecursion IsCall l) same order.calls;
        puts_come_last = subst PutsComeLast same order.puts_come_last;
        returned = returned;
      }

-- at the last of some moments it is so
pub last_of : (holds : List Happening → Type 0) (more : List Happening) → AtEach holds more → holds more
last_of holds [] at = at
last_of holds (step ∷ more) at = at.0

pub rests_last : (messages : List Message) (owner : Name) (es : List Recorded) (found made : List (DatabaseStep Recorded)) (before now : Seen) (run : RestsAtEach messages owner es found made before now)
    → RestsBehind messages owner es (puts_in run.more) (MayLeave before.first now.happened)
rests_last messages owner es found made before now run =
    subst (λ (moment : List Happening). RestsBehind messages owner es (puts_in run.more) (MayLeave before.first moment)) (sym run.is)
    (last_of (λ since. RestsAt messages owner es (found ++ made) since (IsImage before) (MayLeave before.first (since ++ before.happened))) run.more run.moments).rest

pub more_messages : (fewer messages : List Message) (owner : Name) (es : List Recorded) (Left : Files → Type 0) → AreAmong fewer messages → Rests fewer owner es Left → Rests messages owner es Left
more_messages fewer messages owner es Left among (on_one all) = on_one all
more_messages fewer messages owner es Left among (on_two r each) = on_two r (λ image there. elim (each image there) [
  | inl short ↦ inl short
  | inr long ↦ inr (record { may = all_more layers HasSpelling LawfulHistory fewer messages owner es (append r ∷ []) among long.may; stands = long.stands })
])

pub others_step : (w : World Recorded) (owner : Name) (act : WorldStep Recorded) (Left : Files → Type 0) → act.owner ≢ owner → Rests w.messages owner (history w owner) Left
    → Rests (happens w act).messages owner (history (happens w act) owner) Left
others_step w owner act Left apart rests =
    let same : history (happens w act) owner ≡ history w owner = elim (history_in-histories_after w.histories act.owner act.database_step owner) [ inl is ↦ is | inr own ↦ absurd (apart (sym own.0)) ] in
    subst (λ (rs : List Recorded). Rests (happens w act).messages owner rs Left) (sym same)
    (more_messages w.messages (happens w act).messages owner (history w owner) Left (messages_kept w.messages act.database_step) rests)

pub new_rests : (w : World Recorded) (owner : Name) (seen : Seen) → history w owner ≡ [] → IsSettled (StandsAs owner []) seen → Rests w.messages owner (history w owner) (IsImage seen)
new_rests w owner seen none settled = on_one (λ image there. subst (λ (rs : List Recorded). StandsKeeping owner rs image) (sym none) (new_keeps owner image (settled image there)))
