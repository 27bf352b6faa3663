-- Acts after acts.
use Rattle.std.proofs.Common.{◌≡◌, ℕ, ◌+◌, ◌≤◌, List, [], ◌∷◌, ◌++◌, length, length-append, take, drop, true, Result, Ok, Err, refl, sym, ap, subst, ◌∙◌, append_assoc, inl, arith}
use Rattle.std.specs.Prelude.{IsErrAnd, IsSome}
use Rattle.std.proofs.lemmas.List.{append-nil, length-take, length-drop}
use Rattle.sr_book.specs.Entries.{Name}
use Rattle.sr_catalog_schema.specs.Members.{user_name}
use Rattle.sr_catalog_schema.specs.Names.{named}
use Rattle.sr_database_did.specs.Inner.Did.{PlaceView, Did}
use Rattle.sr_database_did.specs.Inner.Effects.{Effect, End, whole, short}
use Rattle.sr_database_did.proofs.Joins.{did_on}
use Rattle.sr_database_did.proofs.Still.{nothing_did, nothing_short}
use Rattle.sr_mail.specs.Inboxes.{Gathered}
use Rattle.sr_receive.specs.Acts.{ReceiveAct, dropped, torn, begun, took}
use Rattle.sr_receive.specs.Inner.Noting.{fault_of}
use Rattle.sr_receive.specs.Inner.Running.{IsReadyAt}
use Rattle.sr_receive.specs.Inner.Stands.{Stand, Acted, IsStep, IsUnderWay, Ran, Steps, Stopped, effects_in, effects_of, publisher_in, made_of}
use Rattle.sr_receive_gather.specs.declared.fault.ReceiveFault.{ReceiveFault}
use Rattle.sr_receive_gather.specs.declared.fault.ReceiveFault.TheVariants.{Memory}
use Rattle.sr_receive_gather.specs.declared.report.Report.{Report}
use Rattle.sr_receive.proofs.Acted.{dones_publisher}
use Rattle.sr_receive.proofs.Committing.{known_did, ready_did}

-- ---- what acts leave

step_keeps : (s s' : Stand) (act : ReceiveAct) → IsStep s act s' → (s'.user ≡ s.user) × (publisher_in s' ≡ publisher_in s)
step_keeps s s' (dropped w pairs piece found) step = (ap (λ (x : Stand). x.user) step.same, ap publisher_in step.same)
step_keeps s s' (torn w pairs) step = (ap (λ (x : Stand). x.user) step.same, ap publisher_in step.same)
step_keeps s s' (begun w pairs txs) step = (ap (λ (x : Stand). x.user) step.same, ap publisher_in step.same)
step_keeps s s' (took t dones) step = (ap (λ (x : Stand). x.user) step.same, ap publisher_in step.same ∙ dones_publisher dones s.state)

pub steps_keep : (s s' : Stand) (acts : List ReceiveAct) → Steps s acts s' → (s'.user ≡ s.user) × (publisher_in s' ≡ publisher_in s)
steps_keep s s' [] steps = (ap (λ (x : Stand). x.user) steps, ap publisher_in steps)
steps_keep s s' (act ∷ earlier) steps =
    let one = steps_keep s steps.0 earlier steps.1 in
    let two = step_keeps steps.0 s' act steps.2 in
    (two.0 ∙ one.0, two.1 ∙ one.1)

-- the reports of ops end among the reports
told_within : (told : ℕ) (made all : List Report) → told ≤ length all → told + length made ≤ length (take told all ++ (made ++ drop told all))
told_within told made all within =
    omega (arith, within, length-append (take told all) (made ++ drop told all), length-append made (drop told all), length-take told all, length-drop told all)

abbrev IsWithin : Stand → Type 0
IsWithin s = s.told ≤ length s.reports

step_within : (s s' : Stand) (act : ReceiveAct) → IsWithin s → IsStep s act s' → IsWithin s'
step_within s s' (dropped w pairs piece found) within step = subst IsWithin (sym step.same) within
step_within s s' (torn w pairs) within step = subst IsWithin (sym step.same) (omega (arith, within, length-append {A = Report}))
step_within s s' (begun w pairs txs) within step = subst IsWithin (sym step.same) within
step_within s s' (took t dones) within step = subst IsWithin (sym step.same) (told_within s.told (made_of s t dones) s.reports within)

steps_within : (s s' : Stand) (acts : List ReceiveAct) → IsWithin s → Steps s acts s' → IsWithin s'
steps_within s s' [] within steps = subst IsWithin (sym steps) within
steps_within s s' (act ∷ earlier) within steps = step_within steps.0 s' act (steps_within s steps.0 earlier within steps.1) steps.2

pub ready_acted : (s s' : Stand) (a b : PlaceView) → Acted s s' a b whole → IsReadyAt s.user s.told s.reports a → IsReadyAt s'.user s'.told s'.reports b
ready_acted s s' a b acted ready =
    let effects = effects_of (publisher_in s) s.user acted.acts in
    record {
      ready = ready_did a b effects ready.ready acted.did;
      granted = subst (λ (n : Name). IsSome (named user_name n b.db.catalog.users)) (sym (steps_keep s s' acted.acts acted.steps).0) (known_did a b effects ready.ready acted.did s.user ready.granted);
      within = steps_within s s' acted.acts ready.within acted.steps;
    }

-- ---- acts behind acts

steps_on : (s s' s'' : Stand) (more acts : List ReceiveAct) → Steps s acts s' → Steps s' more s'' → Steps s (more ++ acts) s''
steps_on s s' s'' [] acts one two = subst (λ (x : Stand). Steps s acts x) (sym two) one
steps_on s s' s'' (act ∷ more) acts one two = (two.0, steps_on s s' two.0 more acts one two.1, two.2)

effects_on : (publisher user : Name) (more acts : List ReceiveAct) → effects_of publisher user (more ++ acts) ≡ effects_of publisher user acts ++ effects_of publisher user more
effects_on publisher user [] acts = sym (append-nil (effects_of publisher user acts))
effects_on publisher user (act ∷ more) acts =
    ap (λ (l : List Effect). l ++ effects_in publisher user act) (effects_on publisher user more acts) ∙ append_assoc (effects_of publisher user acts) (effects_of publisher user more) (effects_in publisher user act)

pub acted_on : (s s' s'' : Stand) (a b c : PlaceView) (end : End) → Acted s s' a b whole → Acted s' s'' b c end → Acted s s'' a c end
acted_on s s' s'' a b c end one two =
    let keep = steps_keep s s' one.acts one.steps in
    let publisher = publisher_in s in
    record {
      acts = two.acts ++ one.acts;
      steps = steps_on s s' s'' two.acts one.acts one.steps two.steps;
      did = subst (λ (l : List Effect). Did a c l end) (sym (effects_on publisher s.user two.acts one.acts))
          (did_on a b c (effects_of publisher s.user one.acts) (effects_of publisher s.user two.acts) end one.did
          (subst (λ (l : List Effect). Did b c l end) (λ i. effects_of (keep.1 i) (keep.0 i) two.acts) two.did));
    }

pub stopped_on : (s s' : Stand) (inbox : List Gathered) (reports : List Report) (a b c : PlaceView) (fault : ReceiveFault) → Acted s s' a b whole → Stopped s' inbox reports b c fault → Stopped s inbox reports a c fault
stopped_on s s' inbox reports a b c fault one two = record {
  middle = two.middle;
  end = two.end;
  is = two.is;
  acted = acted_on s s' two.middle a b c two.end one two.acted;
  under_way = two.under_way;
  inbox_is = two.inbox_is;
  reports_are = two.reports_are;
}

pub ran_on : (s s' s'' : Stand) (a b c : PlaceView) (result : Result (Unit {0}) ReceiveFault) → Acted s s' a b whole → Ran s' s'' b c result → Ran s s'' a c result
ran_on s s' s'' a b c (Ok done) one two = acted_on s s' s'' a b c whole one two
ran_on s s' s'' a b c (Err fault) one two = stopped_on s s' s''.inbox s''.reports a b c fault one two

-- ---- one act, or none

pub acted_none : (s : Stand) (a : PlaceView) → a.db.log.usable ≡ true → Acted s s a a whole
acted_none s a usable = record { acts = []; steps = refl; did = nothing_did a usable }

pub acted_one : (s s' : Stand) (a b : PlaceView) (act : ReceiveAct) → IsStep s act s' → Did a b (effects_in (publisher_in s) s.user act) whole → Acted s s' a b whole
acted_one s s' a b act step did = record { acts = act ∷ []; steps = (s, refl, step); did = did }

pub stopped_at : (s : Stand) (a b : PlaceView) (end : End) (fault : ReceiveFault) → fault ≡ fault_of end → Did a b [] end → IsUnderWay s end → Stopped s s.inbox s.reports a b fault
stopped_at s a b end fault is did under_way =
    record { middle = s; end = end; is = is; acted = record { acts = []; steps = refl; did = did }; under_way = under_way; inbox_is = refl; reports_are = refl }

pub stopped_short : (s : Stand) (a : PlaceView) → a.db.log.usable ≡ true → Stopped s s.inbox s.reports a a Memory
stopped_short s a usable = stopped_at s a a (short []) Memory refl (nothing_short a usable) (inl refl)

-- what holds of a fault holds of the answer that is it
pub ran_fault : (s s' : Stand) (a b : PlaceView) (fault : ReceiveFault) (result : Result (Unit {0}) ReceiveFault) → IsErrAnd result (λ e. e ≡ fault) → Stopped s s'.inbox s'.reports a b fault → Ran s s' a b result
ran_fault s s' a b fault (Ok done) is stopped = absurd is
ran_fault s s' a b fault (Err e) is stopped = subst (λ (f : ReceiveFault). Stopped s s'.inbox s'.reports a b f) (sym is) stopped
