-- Where a run leads in a world of databases: at each moment, to its end or to the fault that ended it.
use Rattle.std.proofs.Common.{◌≡◌, ℕ, ◌+◌, List, [], ◌∷◌, ◌++◌, refl, sym, ap, subst, ◌∙◌, append_assoc, append-nil}
use Rattle.sr_book.specs.Entries.{Name}
use Rattle.sr_database_history.specs.Fitting.{Stored, stored_from}
use Rattle.sr_database_history.specs.Folds.{State, fresh, next, size}
use Rattle.sr_database_history.specs.Recorded.{Recorded}
use Rattle.sr_world_model.specs.Machines.{lawful_from}
use Rattle.sr_world_model.specs.Steps.{DatabaseStep, append, put, crash, history_after, history_after_all}
use Rattle.sr_msgform.specs.declared.message.Message.{Message}
use Rattle.sr_database_meaning.specs.Events.{Event, commits}
use Rattle.sr_agent.proofs.Joints.{commits-append}
use Rattle.sr_world.specs.Lawful.{IsLawful}
use Rattle.sr_world.specs.Real.{LawfulHistory, MayDo, machine}
use Rattle.sr_world_prefix.specs.Good.{AreSaid}
use Rattle.sr_world_runs.specs.Worlds.{AreFiles, put_in}
use Rattle.sr_world_prefix.proofs.Along.{Along, along_prefix, along_last}
use Rattle.sr_world_runs.proofs.DatabaseSteps.{AreDatabaseSteps}

-- ---- lawful histories

lawful_of : (s : State) (place : ℕ) (rs : List Recorded) → stored_from s place rs → AreSaid s rs → lawful_from machine IsLawful s place rs
lawful_of s place [] stored said = tt
lawful_of s place (r ∷ rs) stored said = (record { stored = stored.0; says_so = said.0 }, lawful_of (next s r) (place + (size r + 5)) rs stored.1 said.1)

said_of : (s : State) (place : ℕ) (rs : List Recorded) → lawful_from machine IsLawful s place rs → AreSaid s rs
said_of s place [] lawful = tt
said_of s place (r ∷ rs) lawful = (lawful.0.says_so, said_of (next s r) (place + (size r + 5)) rs lawful.1)

pub prefix_of : (s : State) (place : ℕ) (prefix back : List Recorded) → lawful_from machine IsLawful s place (prefix ++ back) → lawful_from machine IsLawful s place prefix
prefix_of s place [] back lawful = tt
prefix_of s place (r ∷ prefix) back lawful = (lawful.0, prefix_of (next s r) (place + (size r + 5)) prefix back lawful.1)

module _ (owner : Name) where
  -- what may stand in a log, of which each entry says what is so
  pub is_lawful : (es : List Recorded) → Stored owner es → AreSaid (fresh owner) es → LawfulHistory owner es
  is_lawful es stored said = lawful_of (fresh owner) 0 es stored said

  pub lawful_says_so : (es : List Recorded) → LawfulHistory owner es → AreSaid (fresh owner) es
  lawful_says_so es lawful = said_of (fresh owner) 0 es lawful

  pub lawful_along : (es rs : List Recorded) → LawfulHistory owner (es ++ rs) → Along (LawfulHistory owner) es rs
  lawful_along es [] lawful = subst (LawfulHistory owner) (append-nil es) lawful
  lawful_along es (r ∷ rs) lawful = (
    prefix_of (fresh owner) 0 es (r ∷ rs) lawful,
    lawful_along (es ++ r ∷ []) rs (subst (LawfulHistory owner) (sym (append_assoc es (r ∷ []) rs)) lawful),
  )

-- ---- steps, one list after another

pub history_more : (es : List Recorded) (database_steps more : List (DatabaseStep Recorded)) → history_after_all es (database_steps ++ more) ≡ history_after_all (history_after_all es database_steps) more
history_more es [] more = refl
history_more es (database_step ∷ database_steps) more = history_more (history_after es database_step) database_steps more

pub put_more : (database_steps more : List (DatabaseStep Recorded)) → put_in (database_steps ++ more) ≡ put_in database_steps ++ put_in more
put_more [] more = refl
put_more (append r ∷ database_steps) more = put_more database_steps more
put_more (put m ∷ database_steps) more = ap (λ (ms : List Message). m ∷ ms) (put_more database_steps more)
put_more (crash ∷ database_steps) more = put_more database_steps more

pub none_put : (messages : List Message) → AreFiles [] messages → messages ≡ []
none_put [] are = refl
none_put (m ∷ messages) are = cc

-- ---- at each moment of a trace

module _ (messages : List Message) (owner : Name) (first es : List Recorded) (before : List (DatabaseStep Recorded)) (may : MayDo messages owner first before) (none : put_in before ≡ [])
    (there : history_after_all first before ≡ es) (trace : List Event) (database_steps : List (DatabaseStep Recorded)) (are : AreDatabaseSteps messages owner es trace database_steps)
    (said : Along (AreSaid (fresh owner)) es (commits trace)) where
  pub said_prefix : (begun left : List Event) → trace ≡ begun ++ left → AreSaid (fresh owner) (es ++ commits begun)
  said_prefix begun left prefix =
      let parts : Along (AreSaid (fresh owner)) es (commits begun ++ commits left)
      = subst (λ (l : List Recorded). Along (AreSaid (fresh owner)) es l) (ap commits prefix ∙ commits-append begun left) said in
      along_last (AreSaid (fresh owner)) es (commits begun) (along_prefix (AreSaid (fresh owner)) es (commits begun) (commits left) parts)
