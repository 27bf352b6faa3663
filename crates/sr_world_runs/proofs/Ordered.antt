-- What a database of a good world may do leaves its history lawful, and its books in order.
use Rattle.std.proofs.Common.{◌≡◌, ℕ, zero, suc, ◌<◌, List, [], ◌∷◌, length, get_or, map, refl, ap, subst, ◌∙◌, inl, inr, arith, bytes_eq, true}
use Rattle.sr_book.specs.Entries.{Name}
use Rattle.sr_book.proofs.Folds.{name_test, same_name}
use Rattle.sr_database_history.specs.Recorded.{Recorded}
use Rattle.sr_world_model.specs.Steps.{DatabaseStep, history_after, history_after_all, messages_after}
use Rattle.sr_world_model.specs.Worlds.{World, WorldStep, IsNamed, happens, histories_after, history, history_in}
use Rattle.sr_world_model.specs.Worlds.{AreAmong}
use Rattle.sr_world_model.proofs.Good.{database_step_kept}
use Rattle.sr_world_model.proofs.Leave.{after_among, do_more, named_kept}
use Rattle.sr_msgform.specs.declared.message.Message.{Message}
use Rattle.sr_world.specs.Real.{HasSpelling, IsGoodWorld, LawfulHistory, MayDo, layers}
use Rattle.sr_world.proofs.Keeping.{real_laws}
use Rattle.sr_world_prefix.proofs.TruePuts.{AreInOrder}

-- a step of a database that is there leads its history on
pub own_history : (hs : List (Name × List Recorded)) (d : Name) (database_step : DatabaseStep Recorded) (k : ℕ) → k < length (map (λ h. h.0) hs) → get_or (map (λ h. h.0) hs) k d ≡ d
    → history_in d (histories_after hs d database_step) ≡ history_after (history_in d hs) database_step
own_history [] d database_step k within is = absurd (omega arith)
own_history (h ∷ hs) d database_step zero within is = elim (name_test d h.0) [
  | inl t ↦ rw (t.0, t.0) refl
  | inr t ↦ let same : bytes_eq d h.0 ≡ true = rw is (same_name d) in absurd (cc)
]
own_history (h ∷ hs) d database_step (suc k) within is = elim (name_test d h.0) [
  | inl t ↦ rw (t.0, t.0) refl
  | inr t ↦ rw (t, t) (own_history hs d database_step k (omega arith) is)
]

-- a lawful history, in which the book of every user is in order
pub record IsOrdered (owner : Name) (es : List Recorded) : Type 0 where
  pub lawful : LawfulHistory owner es
  pub books : AreInOrder es

pub good_ordered : (w : World Recorded) (owner : Name) → IsGoodWorld w → IsOrdered owner (history w owner)
good_ordered w owner good = record { lawful = good.are_lawful owner; books = λ user. good.books owner user }

-- by the messages of the world, or some of them
pub reached_ordered : (w : World Recorded) (messages : List Message) (owner : Name) (es : List Recorded) (database_steps : List (DatabaseStep Recorded)) → IsGoodWorld w → IsNamed w owner → history w owner ≡ es
    → AreAmong messages w.messages → MayDo messages owner es database_steps → IsOrdered owner (history_after_all es database_steps)
reached_ordered w messages owner es [] good named is among may = subst (λ (l : List Recorded). IsOrdered owner l) is (good_ordered w owner good)
reached_ordered w messages owner es (database_step ∷ database_steps) good named is among may =
    let act : WorldStep Recorded = record { owner = owner; database_step = database_step } in
    reached_ordered (happens w act) (messages_after messages database_step) owner (history_after es database_step) database_steps
    (database_step_kept layers HasSpelling LawfulHistory real_laws w owner database_step good (rw is (do_more messages w.messages among layers HasSpelling LawfulHistory owner es database_step may.0)))
    (named_kept w act owner named)
    (own_history w.histories owner database_step named.0 named.1 named.2 ∙ ap (λ (l : List Recorded). history_after l database_step) is)
    (after_among messages w.messages database_step among) may.1
