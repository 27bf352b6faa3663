-- Deliveries in order, each after those before it.
use Rattle.std.proofs.Common.{◌≡◌, ◌+◌, ◌⊎◌, ℕ, List, [], ◌∷◌, ◌++◌, Result, IfErr, refl, sym, ap, subst, inl, inr, ◌∙◌, arith, append_assoc}
use Rattle.std.specs.Prelude.{IsErrAnd}
use Rattle.std.specs.List.{AllByRecursion}
use Rattle.std.proofs.lemmas.List.{append-nil}
use Rattle.sr_book.specs.Entries.{Name}
use Rattle.sr_mail_cut.proofs.Lists.{AllByRecursion-map}
use Rattle.sr_database.specs.Databases.{IsDatabase}
use Rattle.sr_database.specs.Views.{View}
use Rattle.sr_database_history.specs.Recorded.{Recorded}
use Rattle.sr_receive.specs.Inner.Ready.{IsReady}
use Rattle.sr_site.specs.Causes.{Stays}
use Rattle.sr_site.specs.Seen.{Seen}
use Rattle.sr_site.specs.Streams.{Output}
use Rattle.sr_database_meaning.proofs.Going.{nothing}
use Rattle.sr_agent.specs.Deliveries.{after_deliveries}
use Rattle.sr_agent.specs.Lines.{Line, alarms}
use Rattle.sr_agent.specs.Inner.Steps.{BrokeInDeliveries, BrokeInDelivery, DeliveriesBroken, DeliveriesDone, DeliveryBroken, DeliveryDone, KeepsPartners, MaySendTo, TookDeliveries, UntoldDelivery}
use Rattle.sr_agent.specs.declared.fault.AgentFault.{AgentFault}
use Rattle.sr_agent.specs.declared.partner.Partner.{Partner}
use Rattle.sr_agent.proofs.Chaining.{deliveries_more}
use Rattle.sr_agent.proofs.Delivering.{if_fault}
use Rattle.sr_agent.proofs.Joints.{settled_as, steady_on, told_then}
use Rattle.sr_agent.proofs.Written.{alarms_on, ended_behind, told_on}

-- ---- what is told, and then more

pub stays_on : (a b c : Seen) → Stays a b → Stays b c → Stays a c
stays_on a b c one two = record {
  observable = two.observable ∙ one.observable;
  first = two.first ∙ one.first;
  grows = λ moment is. two.grows moment (one.grows moment is);
  disk = omega (arith, one.disk, two.disk);
  mail = omega (arith, one.mail, two.mail);
}

none_of : (all first second : ℕ) → all ≡ first + second → first ≡ 0 → second ≡ 0 → all ≡ 0
none_of all first second is none other = omega (arith, is, none, other)

-- ---- one delivery more

pub done_on : (old middle new : View) (before seen now : Seen) (limit : ℕ) (done : List Partner) (partner : Partner) (a b c : Output) → DeliveriesDone old middle before seen limit done a b
    → DeliveryDone middle new seen now limit partner b c → DeliveriesDone old new before now limit (done ++ partner ∷ []) a c
done_on old middle new before seen now limit done partner a b c first one = record {
  lines = first.lines ++ one.lines;
  told = told_on first.lines one.lines a b c first.told one.told;
  no_alarm = none_of (alarms (first.lines ++ one.lines)) (alarms first.lines) (alarms one.lines) (alarms_on first.lines one.lines) first.no_alarm one.no_alarm;
  steady = steady_on before seen now first.steady one.steady;
  stays = stays_on before seen now first.stays one.stays;
  did = λ tells publisher es database.
      let took = first.did tells publisher es database in
      deliveries_more old.log.base middle new before seen now publisher es limit done partner first.lines one.lines took
      (one.did (told_then before seen first.stays tells) publisher (after_deliveries publisher es took.deliveries) took.database);
}

-- a delivery after others was broken
broke_on : (middle new : View) (old : View) (before seen now : Seen) (publisher : Name) (es : List Recorded) (limit : ℕ) (done : List Partner) (partner : Partner) (others : List Partner) (earlier lines : List Line)
    (fault : AgentFault) (took : TookDeliveries old.log.base middle before seen publisher es limit done earlier)
    → UntoldDelivery middle.log.base new seen now publisher (after_deliveries publisher es took.deliveries) limit partner lines fault ⊎ BrokeInDelivery middle new seen now publisher (after_deliveries publisher es took.deliveries) limit partner lines fault
    → BrokeInDeliveries old new before now publisher es limit (done ++ partner ∷ others) (earlier ++ lines) fault
broke_on middle new old before seen now publisher es limit done partner others earlier lines fault took (inl untold) = record {
  done = done ++ partner ∷ [];
  left = others;
  parts = sym (append_assoc done (partner ∷ []) others);
  db = new;
  seen = now;
  earlier = earlier ++ lines;
  took = deliveries_more old.log.base middle new before seen now publisher es limit done partner earlier lines took untold.took;
  told = [];
  stop = inl (record { last = untold.took.delivery; earlier = took.deliveries; put = refl; same = refl; still = refl; none = refl; why = untold.why });
  lines_are = sym (append-nil (earlier ++ lines));
}
broke_on middle new old before seen now publisher es limit done partner others earlier lines fault took (inr broke) = record {
  done = done;
  left = partner ∷ others;
  parts = refl;
  db = middle;
  seen = seen;
  earlier = earlier;
  took = took;
  told = lines;
  stop = inr (record { partner = partner; others = others; next = refl; broke = broke });
  lines_are = refl;
}

pub broken_on : (old middle new : View) (before seen now : Seen) (limit : ℕ) (done : List Partner) (partner : Partner) (others : List Partner) (a b c : Output) (fault : AgentFault)
    → DeliveriesDone old middle before seen limit done a b → DeliveryBroken middle new seen now limit partner b c fault → DeliveriesBroken old new before now limit (done ++ partner ∷ others) a c fault
broken_on old middle new before seen now limit done partner others a b c fault first broken = record {
  lines = first.lines ++ broken.lines;
  ended = ended_behind new before seen now a b c first.lines broken.lines fault first.told first.steady first.stays broken.ended;
  did = λ tells publisher es database.
      let took = first.did tells publisher es database in
      broke_on middle new old before seen now publisher es limit done partner others first.lines broken.lines fault took
      (broken.did (told_then before seen first.stays tells) publisher (after_deliveries publisher es took.deliveries) took.database);
}

-- ---- the walk along the partners

-- those before these were sent to
pub record IsWalking (old db : View) (before now : Seen) (limit : ℕ) (all left : List Partner) (written written' : Output) : Type 0 where
  pub done : List Partner
  pub parts : all ≡ done ++ left
  pub sent : DeliveriesDone old db before now limit done written written'
  pub ready : IsReady db now
  pub may : AllByRecursion (MaySendTo db) left

same_seen : (seen : Seen) → Stays seen seen
same_seen seen = record { observable = refl; first = refl; grows = λ moment is. is; disk = omega arith; mail = omega arith }

pub walk_begins : (old : View) (before : Seen) (limit : ℕ) (all : List Partner) (written : Output) → IsReady old before → AllByRecursion (MaySendTo old) all → IsWalking old old before before limit all all written written
walk_begins old before limit all written ready may = record {
  done = [];
  parts = refl;
  sent = record {
    lines = [];
    told = record { taken = λ tells. sym (append-nil written.taken); steady = refl; stays = record { observable = refl; later = omega arith } };
    no_alarm = refl;
    steady = record { disk = refl; mail = refl };
    stays = same_seen before;
    did = λ tells publisher es database. record {
      deliveries = [];
      based = tt;
      whom = refl;
      are = tt;
      database = subst (λ (rs : List Recorded). IsDatabase old publisher rs before) (sym (append-nil es)) database;
      base_is = refl;
      steady = record { disk = refl; mail = refl };
      went = nothing before publisher es (settled_as old publisher es before database);
      mail = refl;
      lines_are = refl;
    };
  };
  ready = ready;
  may = may;
}

pub walk_next : (old middle new : View) (before seen now : Seen) (limit : ℕ) (all left : List Partner) (partner : Partner) (rest : List Partner) (a b c : Output) → left ≡ partner ∷ rest → IsWalking old middle before seen limit all left a b
    → IsReady new now → KeepsPartners middle new → DeliveryDone middle new seen now limit partner b c → IsWalking old new before now limit all rest a c
walk_next old middle new before seen now limit all left partner rest a b c is walk ready keeps one = record {
  done = walk.done ++ partner ∷ [];
  parts = walk.parts ∙ ap (λ (ps : List Partner). walk.done ++ ps) is ∙ sym (append_assoc walk.done (partner ∷ []) rest);
  sent = done_on old middle new before seen now limit walk.done partner a b c walk.sent one;
  ready = ready;
  may = AllByRecursion-map (MaySendTo middle) (MaySendTo new) rest (λ p may. keeps.asks p may) (subst (λ (ps : List Partner). AllByRecursion (MaySendTo middle) ps) is walk.may).1;
}

pub walk_breaks : (old middle new : View) (before seen now : Seen) (limit : ℕ) (all left : List Partner) (partner : Partner) (rest : List Partner) (a b c : Output) {T : Type 0} (result : Result T AgentFault) (fault : AgentFault)
    → IsErrAnd result (λ e. e ≡ fault) → left ≡ partner ∷ rest → IsWalking old middle before seen limit all left a b → DeliveryBroken middle new seen now limit partner b c fault → IfErr result (DeliveriesBroken old new before now limit all a c)
walk_breaks old middle new before seen now limit all left partner rest a b c result fault gives is walk broken =
    if_fault (DeliveriesBroken old new before now limit all a c) fault result gives
    (subst (λ (partners : List Partner). DeliveriesBroken old new before now limit partners a c fault) (sym (walk.parts ∙ ap (λ (ps : List Partner). walk.done ++ ps) is))
    (broken_on old middle new before seen now limit walk.done partner rest a b c fault walk.sent broken))
