-- A transaction, judged and taken.
use Rattle.std.proofs.Common.{◌≡◌, ℕ, ◌+◌, ◌-◌, ◌^◌, ◌<◌, ◌≤◌, Bool, true, false, cond, List, [], ◌∷◌, length, refl, sym, ap, subst, ◌∙◌, inl}
use Rattle.std.proofs.lemmas.Bool.{lt-ltb, le-ltb}
use Rattle.std.specs.Prelude.{IsSome, map, min, nat_lt}
use Rattle.sr_base.specs.declared.offset.Offset.{Offset}
use Rattle.sr_book.specs.Entries.{Name}
use Rattle.sr_catalog_schema.specs.Members.{user_name}
use Rattle.sr_catalog_schema.specs.Names.{named}
use Rattle.sr_database.specs.Views.{View, committed}
use Rattle.sr_database_did.specs.Inner.Did.{PlaceView, Did}
use Rattle.sr_database_did.specs.Inner.Effects.{entered, End, whole, refused, failed, full, long, short}
use Rattle.sr_database_did.proofs.Still.{IsStill, alike_still, calls_did, short_did}
use Rattle.sr_database_history.specs.Fitting.{DonesFit, FitsState}
use Rattle.sr_database_history.specs.Folds.{State, after_dones, next}
use Rattle.sr_database_history.specs.Recorded.{Done, taken, done_of}
use Rattle.sr_logform.specs.Inner.Entries.{IsShortEntry}
use Rattle.sr_logform.specs.declared.entry.Entry.{Entry}
use Rattle.sr_logform.specs.declared.entry.Entry.TheVariants.{From}
use Rattle.sr_logform.specs.declared.op.Op.{Op}
use Rattle.sr_logform.specs.declared.op.Transaction.{Transaction}
use Rattle.sr_logform.specs.declared.outcome.Outcome.{Outcome}
use Rattle.sr_resolve.specs.Taking.{is_above}
use Rattle.sr_site.specs.Seen.{Seen}
use Rattle.sr_receive_judged.specs.Judged.{AreDone, IsEntryOf}
use Rattle.sr_receive_judged.specs.Inner.Judged.{IsAlike}
use Rattle.sr_receive_gather.specs.Windows.{past}
use Rattle.sr_receive_gather.specs.declared.fault.ReceiveFault.{ReceiveFault}
use Rattle.sr_receive_gather.specs.declared.fault.ReceiveFault.TheVariants.{Memory}
use Rattle.sr_receive_gather.specs.declared.report.Report.{Report}
use Rattle.sr_receive.specs.Acts.{took}
use Rattle.sr_receive.specs.Inner.Ready.{IsReady}
use Rattle.sr_receive.specs.Inner.Noting.{IsEndOf, NotEntered}
use Rattle.sr_receive.specs.Inner.Running.{IsItsEntry}
use Rattle.sr_receive.specs.Inner.Stands.{Stand, Acted, IsUnderWay, Stopped, made_of, with_reports}
use Rattle.sr_receive.proofs.Acting.{acted_one, stopped_at}
use Rattle.sr_receive.proofs.Committing.{ready_did, state_did}

-- ---- a value of the same history

module _ (old new : View) (seen : Seen) (ready : IsReady old seen) (alike : IsAlike old new) where
  alike_place : IsStill (record { db = old; seen = seen }) (record { db = new; seen = seen }) []
  alike_place = alike_still old new seen alike.log (λ none. alike.idle) alike.value ready.usable

  alike_did : Did (record { db = old; seen = seen }) (record { db = new; seen = seen }) [] whole
  alike_did = calls_did _ _ [] alike_place refl

  pub ready_alike : IsReady new seen
  ready_alike = ready_did _ _ [] ready alike_did

  pub committed_alike : committed new ≡ committed old
  committed_alike = state_did _ _ [] ready alike_did

  -- where a pass stands then
  pub alike_acted : (s : Stand) → s.state ≡ committed old → Acted s (record s { state = committed new }) (record { db = old; seen = seen }) (record { db = new; seen = seen }) whole
  alike_acted s is = record { acts = []; steps = λ i. record s { state = (committed_alike ∙ sym is) i }; did = alike_did }

  -- for want of memory, before anything was done
  pub alike_short : (s : Stand) → Stopped s s.inbox s.reports (record { db = old; seen = seen }) (record { db = new; seen = seen }) Memory
  alike_short s = stopped_at s _ _ (short []) Memory refl (short_did _ _ [] alike_place refl) (inl refl)

-- ---- its entry may be committed

fits_taken : (s : State) (user : Name) (t : Transaction) (dones : List Done) → IsSome (named user_name user s.catalog.users) → DonesFit s dones → FitsState s (taken user t.at dones)
unfolding FitsState
fits_taken s user t dones known fit = (known, fit)

pub its_entry : (old new : View) (seen : Seen) (user : Name) (t : Transaction) (entry : Entry) → IsReady old seen → IsSome (named user_name user old.catalog.users) → IsAlike old new → IsEntryOf (committed old) user t entry → IsItsEntry new user t entry
its_entry old new seen user t entry ready known alike is =
    let judged = is.judged in
    let s : committed old ≡ committed new = sym (committed_alike old new seen ready alike) in
    let of : entry ≡ From user t.at (map done_of judged.dones) = is.is ∙ ap (λ (l : List (Op × Outcome)). From user t.at l) judged.are in
    record {
      dones = judged.dones;
      done = subst (λ (x : State). AreDone x (is_above x user) t.ops judged.dones) s judged.done;
      is = of;
      can = record {
        is = sym of;
        meant = judged.meant;
        short = subst (λ (e : Entry). IsShortEntry e) (sym is.is) (record { items = (is.few.few, judged.short); filled = is.few.filled });
        follows = (alike.idle, subst (λ (x : State). FitsState x (taken user t.at judged.dones)) s (fits_taken (committed old) user t judged.dones known judged.fit));
      };
    }

-- ---- it is committed, or not

next_taken : (s : State) (user : Name) (at : Offset) (dones : List Done) → next s (taken user at dones) ≡ after_dones dones s
unfolding next
next_taken s user at dones = refl

module _ (s : Stand) (a b : PlaceView) (t : Transaction) (dones : List Done) (rest : List Transaction) (left : s.left ≡ t ∷ rest) (done : AreDone s.state (is_above s.state s.user) t.ops dones) where
  pub acted_took : (received took' told : ℕ) (reports made : List Report) → IsReady a.db a.seen → s.state ≡ committed a.db → Did a b (entered (taken s.user t.at dones) ∷ []) whole → received ≡ t.at.0 → took' ≡ min (s.took + 1) (2 ^ 64 - 1)
      → told ≡ s.told + length made → reports ≡ with_reports s.told made s.reports → made ≡ made_of s t dones
      → Acted s (record s { state = committed b.db; received = received; took = took'; told = told; reports = reports; left = rest }) a b whole
  acted_took received took' told reports made ready state did at count next_told shown made_is =
      let after : committed b.db ≡ after_dones dones s.state =
      state_did a b (entered (taken s.user t.at dones) ∷ []) ready did ∙ next_taken (committed a.db) s.user t.at dones ∙ ap (after_dones dones) (sym state) in
      let told_is : told ≡ s.told + length (made_of s t dones) = next_told ∙ ap (λ (l : List Report). s.told + length l) made_is in
      let reports_are : reports ≡ with_reports s.told (made_of s t dones) s.reports = shown ∙ ap (λ (l : List Report). with_reports s.told l s.reports) made_is in
      acted_one s _ a b (took t dones)
      (record { rest = rest; left_are = left; done = done; same = λ i. record s { state = after i; received = at i; took = count i; told = told_is i; reports = reports_are i; left = rest } })
      did

  next_way : (end : End) → IsEndOf (taken s.user t.at dones) end → IsUnderWay s end
  next_way whole of = absurd of
  next_way (refused r) of = record { t = t; dones = dones; rest = rest; is = of; left_are = left; done = done }
  next_way (failed hs) of = absurd of
  next_way (full r end need) of = record { t = t; dones = dones; rest = rest; is = of; left_are = left; done = done }
  next_way (long r size limit) of = record { t = t; dones = dones; rest = rest; is = of; left_are = left; done = done }
  next_way (short hs) of = inl of

  pub not_taken : (fault : ReceiveFault) → NotEntered a b (taken s.user t.at dones) fault → Stopped s s.inbox s.reports a b fault
  not_taken fault not = stopped_at s a b not.end fault not.is not.did (next_way not.end not.of)

-- ---- transactions past an offset

past_by : (b : Bool) (received : ℕ) (t : Transaction) (rest : List Transaction) → nat_lt received t.at.0 ≡ b → past received (t ∷ rest) ≡ cond b (t ∷ past received rest) (past received rest)
past_by b received t rest is = ap (λ (c : Bool). cond c (t ∷ past received rest) (past received rest)) is

pub past_taken : (received : ℕ) (t : Transaction) (rest : List Transaction) → received < t.at.0 → past received (t ∷ rest) ≡ t ∷ past received rest
past_taken received t rest lies = past_by true received t rest (lt-ltb received t.at.0 lies)

pub past_left : (received : ℕ) (t : Transaction) (rest : List Transaction) → t.at.0 ≤ received → past received (t ∷ rest) ≡ past received rest
past_left received t rest lies = past_by false received t rest (le-ltb received t.at.0 lies)
