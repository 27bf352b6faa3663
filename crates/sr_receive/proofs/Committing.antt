-- What is reached of a database that is ready is ready.
use Rattle.std.proofs.Common.{◌≡◌, Bool, true, List, [], sym, subst}
use Rattle.std.specs.Prelude.{IsTrue, IsSome}
use Rattle.sr_book.specs.Entries.{Name}
use Rattle.sr_catalog_schema.specs.Members.{user_name}
use Rattle.sr_catalog_schema.specs.Names.{named}
use Rattle.sr_database.specs.Advances.{Advances}
use Rattle.sr_database.specs.InForce.{HasLogInForce}
use Rattle.sr_database.proofs.Advancing.{advanced_sound}
use Rattle.sr_database.specs.Views.{View, committed}
use Rattle.sr_database_did.specs.Inner.Did.{PlaceView, Did}
use Rattle.sr_database_did.specs.Inner.Effects.{Effect, whole, entries}
use Rattle.sr_database_history.specs.Folds.{State, state_from}
use Rattle.sr_database_history.specs.Recorded.{Recorded}
use Rattle.sr_database_history.proofs.Granted.{known_from}
use Rattle.sr_site.specs.Seen.{Seen}
use Rattle.sr_receive.specs.Entering.{Reached}
use Rattle.sr_receive.specs.Inner.Ready.{IsReady}

ready_by : (old new : View) (before now : Seen) (rs : List Recorded) → IsReady old before → new.log.usable ≡ true → new.pending ≡ [] → now.observable ≡ before.observable
    → Advances old new rs
    → (IsTrue before.observable → HasLogInForce old before → HasLogInForce new now) → IsReady new now
ready_by old new before now rs ready usable idle tells on in_force = record {
  usable = usable;
  idle = idle;
  sound = advanced_sound old new rs on ready.sound;
  stands = λ told.
      let then = subst (λ (b : Bool). IsTrue b) tells told in
      in_force then (ready.stands then);
}

pub ready_then : (old new : View) (before now : Seen) (rs : List Recorded) → IsReady old before → Reached old new before now rs [] → IsReady new now
ready_then old new before now rs ready reached =
    ready_by old new before now rs ready reached.state.0 reached.idle reached.stays.observable (reached.value reached.state.0) (λ told has. reached.in_force told reached.state.0 has)

module _ (a b : PlaceView) (effects : List Effect) (ready : IsReady a.db a.seen) (did : Did a b effects whole) where
  pub ready_did : IsReady b.db b.seen
  ready_did =
      ready_by a.db b.db a.seen b.seen (entries effects) ready did.state.0 (did.pending ready.idle) did.stays.observable (did.value did.state.0) (λ told has. did.in_force told did.state.0 has)

  -- the state after them
  pub state_did : committed b.db ≡ state_from (committed a.db) (entries effects)
  state_did = (did.value did.state.0).state

  -- who is granted stays so
  pub known_did : (user : Name) → IsSome (named user_name user a.db.catalog.users) → IsSome (named user_name user b.db.catalog.users)
  known_did user known = subst (λ (s : State). IsSome (named user_name user s.catalog.users)) (sym state_did) (known_from (committed a.db) (entries effects) user known)
