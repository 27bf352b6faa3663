-- Where a run ended with all that a crash may leave on one history, its steps lead to that history.
use Rattle.std.proofs.Common.{◌≡◌, ◌⊎◌, List, [], ◌∷◌, ◌++◌, sym, subst, ◌∙◌, inl, inr, append-nil, arith}
use Rattle.std.specs.List.{AllByRecursion}
use Rattle.sr_book.specs.Entries.{Name}
use Rattle.sr_database_history.proofs.Joined.{end_from-more}
use Rattle.sr_database_history.specs.Folds.{end_of}
use Rattle.sr_database_history.specs.Recorded.{Recorded}
use Rattle.sr_world_model.specs.Steps.{DatabaseStep, append, history_after_all, messages_after_all}
use Rattle.sr_world_model.specs.Worlds.{World, history}
use Rattle.sr_world_model.proofs.Leave.{database_steps_join}
use Rattle.sr_msgform.specs.Messages.{IsMessage}
use Rattle.sr_msgform.specs.declared.message.Message.{Message}
use Rattle.sr_site.specs.Causes.{Rose}
use Rattle.sr_site.specs.Files.{Files}
use Rattle.sr_site.specs.Happenings.{Happening}
use Rattle.sr_site.specs.Images.{IsSettled, MayLeave}
use Rattle.sr_site.specs.Seen.{Seen}
use Rattle.sr_database_meaning.specs.Events.{PutFile, puts_in}
use Rattle.sr_database_meaning.specs.Standing.{StandsAs}
use Rattle.sr_database_meaning.proofs.Alike.{alike, alike_end}
use Rattle.sr_world.specs.Real.{HasSpelling, LawfulHistory, layers}
use Rattle.sr_agent.proofs.Images.{some_image}
use Rattle.sr_world_prefix.proofs.Opened.{was_image}
use Rattle.sr_world_prefix.specs.Kept.{StandsKeeping}
use Rattle.sr_world_runs.specs.Worlds.{AreFiles, HasOneMore, IsFaithful, IsFaithfulThroughout, IsReturned, Rests, on_one, on_two, RestsBehind, put_in}
use Rattle.sr_world_runs.proofs.NextRuns.{last_of}
use Rattle.sr_world_runs.proofs.Reached.{history_more, put_more}

-- what a crash may leave stands for the one history to which steps lead, and its log keeps what partners need
pub record SettlesBehind (messages : List Message) (owner : Name) (es : List Recorded) (put_files : List PutFile) (Left : Files → Type 0) : Type 0 where
  pub rest : RestsBehind messages owner es put_files Left
  pub all : (image : Files) → Left image → StandsKeeping owner (history_after_all es rest.database_steps) image

-- histories for which the same files stand end at one offset
same_end : (owner : Name) (es others : List Recorded) (image : Files) → StandsKeeping owner es image → StandsAs owner others image → end_of es ≡ end_of others
same_end owner es others image one other =
    let a = alike owner owner es others one.base other.base image one.stands other.stands in
    alike_end owner es others one.base a.2

-- no history ends where it does with an entry more
longer : (es : List Recorded) (r : Recorded) → end_of es ≡ end_of (es ++ r ∷ []) → ⊥
longer es r same = omega (arith, same, end_from-more 0 es r)

module _ (messages : List Message) (owner : Name) (es : List Recorded) (put_files : List PutFile) (Left : Files → Type 0) (rest : RestsBehind messages owner es put_files Left) where
  abbrev there : List Recorded
  there = history_after_all es rest.database_steps

  -- with one entry more that they may take
  with_one : (r : Recorded) (some : Files) → HasOneMore (messages_after_all messages rest.database_steps) owner there r some
      → ((image : Files) → Left image → StandsKeeping owner (there ++ r ∷ []) image) → SettlesBehind messages owner es put_files Left
  with_one r some long stood =
      let steps : List (DatabaseStep Recorded) = rest.database_steps ++ append r ∷ [] in
      let put_same : put_in steps ≡ put_in rest.database_steps = put_more rest.database_steps (append r ∷ []) ∙ append-nil (put_in rest.database_steps) in
      let all : (image : Files) → Left image → StandsKeeping owner (history_after_all es steps) image
      = λ image has. subst (λ (rs : List Recorded). StandsKeeping owner rs image) (sym (history_more es rest.database_steps (append r ∷ []))) (stood image has) in
      record {
        rest = record {
          database_steps = steps;
          may = database_steps_join layers HasSpelling LawfulHistory messages owner es rest.database_steps (append r ∷ []) rest.may long.may;
          put = subst (λ (ms : List Message). AreFiles put_files ms) (sym put_same) rest.put;
          spelled = subst (λ (ms : List Message). AllByRecursion IsMessage ms) (sym put_same) rest.spelled;
          rests = on_one all;
        };
        all = all;
      }

  module _ (others : List Recorded) (stood : (image : Files) → Left image → StandsAs owner others image) (some : Files) (has : Left some) where
    as_it_is : ((image : Files) → Left image → StandsKeeping owner there image) → SettlesBehind messages owner es put_files Left
    as_it_is all = record { rest = rest; all = all }

    -- where one image has the entry more, or not, so it is with each
    without_too : (r : Recorded) → StandsKeeping owner there some → (image : Files) → Left image → StandsKeeping owner there image ⊎ HasOneMore (messages_after_all messages rest.database_steps) owner there r image
        → StandsKeeping owner there image
    without_too r short image left (inl is) = is
    without_too r short image left (inr long) =
        absurd (longer there r (same_end owner there others some short (stood some has) ∙ sym (same_end owner (there ++ r ∷ []) others image long.stands (stood image left))))

    with_too : (r : Recorded) → StandsKeeping owner (there ++ r ∷ []) some → (image : Files) → Left image
        → StandsKeeping owner there image ⊎ HasOneMore (messages_after_all messages rest.database_steps) owner there r image → StandsKeeping owner (there ++ r ∷ []) image
    with_too r long image left (inl short) =
        absurd (longer there r (same_end owner there others image short (stood image left) ∙ sym (same_end owner (there ++ r ∷ []) others some long (stood some has))))
    with_too r long image left (inr is) = is.stands

    settles_by : Rests (messages_after_all messages rest.database_steps) owner there Left → SettlesBehind messages owner es put_files Left
    settles_by (on_one all) = as_it_is all
    settles_by (on_two r each) = elim (each some has) [
      | inl short ↦ as_it_is (λ image left. without_too r short image left (each image left))
      | inr long ↦ with_one r some long (λ image left. with_too r long.stands image left (each image left))
    ]

-- so it is behind a run in which no call of the disk failed, where its database stood for one history before
module _ (w : World Recorded) (owner : Name) (before now : Seen) (first : now.first ≡ before.first) (stood : IsSettled (StandsAs owner (history w owner)) before)
    (went : IsFaithfulThroughout w owner before now) (none : ¬ (Rose before.disk_faults now.disk_faults)) where
  abbrev Left : Files → Type 0
  Left image = MayLeave before.first (went.more ++ before.happened) image

  is_now : (image : Files) → Left image → MayLeave now.first now.happened image
  is_now image left =
      subst (λ (f : Files). MayLeave f now.happened image) (sym first) (subst (λ (h : List Happening). MayLeave before.first h image) (sym went.is) left)

  abbrev all_steps : List (DatabaseStep Recorded)
  all_steps = went.found ++ went.made

  stands_by : IsReturned owner (history_after_all (history w owner) all_steps) before now → (others : List Recorded) × ((image : Files) → Left image → StandsAs owner others image)
  stands_by (inl still) = (history w owner, λ image left. stood image (was_image before now image first still.0 (is_now image left)))
  stands_by (inr settles) = (history_after_all (history w owner) all_steps, λ image left. settles none image (is_now image left))

  pub settled_behind : SettlesBehind w.messages owner (history w owner) (puts_in went.more) Left
  settled_behind =
      let at = (last_of (IsFaithful w owner before all_steps) went.more went.moments).at in
      let others = stands_by went.returned in
      let some = some_image before.first (went.more ++ before.happened) in
      settles_by w.messages owner (history w owner) (puts_in went.more) Left at.rest others.0 others.1 some.0 some.1 at.rest.rests
