-- Acts of a pass over an inbox, told of message files.
use Rattle.std.proofs.Common.{◌≡◌, ℕ, ◌+◌, ◌-◌, ◌^◌, List, [], ◌∷◌, ◌++◌, length, length-append, take, drop, refl, sym, ap, subst, ◌∙◌, append_assoc, arith}
use Rattle.std.specs.Prelude.{map, min}
use Rattle.std.specs.List.{AllByRecursion}
use Rattle.std.proofs.lemmas.List.{append-nil, take_at, drop_at}
use Rattle.sr_base.specs.Values.{offset_from}
use Rattle.sr_book.specs.Entries.{Name}
use Rattle.sr_database_did.specs.Inner.Effects.{entries, mail_behind, trace, calls}
use Rattle.sr_database_did.proofs.Joins.{entries_on, mail_on, trace_then}
use Rattle.sr_database_did.proofs.Still.{calls_entries, calls_mail, calls_quiet}
use Rattle.sr_database_history.specs.Folds.{State, after_dones}
use Rattle.sr_database_history.specs.Recorded.{Recorded, taken}
use Rattle.sr_database_meaning.specs.Events.{commit}
use Rattle.sr_mail.specs.Inboxes.{Gathered}
use Rattle.sr_mail.specs.declared.piece.Piece.{Piece}
use Rattle.sr_mail.specs.declared.window.Window.{Window}
use Rattle.sr_resolve.specs.Taking.{is_above}
use Rattle.sr_site.specs.Happenings.{Happening}
use Rattle.sr_receive_gather.specs.Bags.{Holds}
use Rattle.sr_receive_gather.specs.Fetches.{Pairs, refetch, refetches}
use Rattle.sr_receive_gather.specs.MessageFiles.{MessageFile}
use Rattle.sr_receive_gather.specs.Windows.{IsDue, IsRefetched, IsUnlike, past}
use Rattle.sr_receive_gather.specs.declared.report.Report.{Report}
use Rattle.sr_receive_gather.specs.declared.report.Report.TheVariants.{Torn}
use Rattle.sr_receive_judged.specs.Judged.{AreDone}
use Rattle.sr_receive.specs.Acts.{ReceiveAct, dropped, torn, begun, took, PassState, stand_of, AreActs, CameAgain, rest_of, entries_of, mail_after, op_reports, taken_in, torn_reports}
use Rattle.sr_receive.specs.Inner.Stands.{Stand, HasCome, IsDueHere, IsStep, Loses, Steps, effects_in, effects_of, made_of, publisher_in}
use Rattle.sr_receive.proofs.Acted.{dones_publisher}
use Rattle.sr_receive.proofs.Fetched.{refetches_on, refetches_quiet}
use Rattle.sr_receive.proofs.Leading.{due_of, holds_dropped_windows}

-- ---- reports of ops, put before those of torn windows

inserted : (told : ℕ) (reports ops made torns : List Report) → told ≡ length reports + length ops
    → take told (reports ++ (ops ++ torns)) ++ (made ++ drop told (reports ++ (ops ++ torns))) ≡ reports ++ ((ops ++ made) ++ torns)
inserted told reports ops made torns at =
    let is : length (reports ++ ops) ≡ told = length-append reports ops ∙ sym at in
    let P : List Report → Type 0 = λ l. take told l ++ (made ++ drop told l) ≡ reports ++ ((ops ++ made) ++ torns) in
    subst P (append_assoc reports ops torns)
    (ap (λ (l : List Report). l ++ (made ++ drop told ((reports ++ ops) ++ torns))) (take_at (reports ++ ops) torns told is)
    ∙ ap (λ (l : List Report). (reports ++ ops) ++ (made ++ l)) (drop_at (reports ++ ops) torns told is)
    ∙ append_assoc reports ops (made ++ torns) ∙ ap (λ (l : List Report). reports ++ l) (sym (append_assoc ops made torns)))

-- ---- act by act

-- a pass over these message files, which began with these reports, stands where its acts lead, the newest of which comes first
pub record Tells (publisher user : Name) (message_files : List MessageFile) (first : PassState) (reports : List Report) (acts : List ReceiveAct) (s : Stand) : Type 0 where
  pub user_is : s.user ≡ user
  pub publisher_is : publisher_in s ≡ publisher
  pub are : AreActs publisher user message_files first acts
  pub state : s.state ≡ (stand_of first acts).state
  pub received : s.received ≡ (stand_of first acts).received
  pub left : s.left ≡ (stand_of first acts).left
  pub holds : Holds message_files (stand_of first acts).dropped_windows s.inbox
  pub took : s.took ≡ min (taken_in acts) (2 ^ 64 - 1)
  pub told : s.told ≡ length reports + length (op_reports user acts)
  pub reports_are : s.reports ≡ reports ++ (op_reports user acts ++ torn_reports user acts)

module _ (publisher user : Name) (message_files : List MessageFile) (first : PassState) (reports : List Report) where
  pub told_due : (acts : List ReceiveAct) (s : Stand) (w : Window) (pieces : List Piece) → Tells publisher user message_files first reports acts s → IsDueHere s w pieces
      → IsDue message_files (stand_of first acts).dropped_windows (stand_of first acts).received w pieces
  told_due acts s w pieces t due =
      let dropped_windows = (stand_of first acts).dropped_windows in
      subst (λ (n : ℕ). IsDue message_files dropped_windows n w pieces) t.received
      (subst (λ (v : Window). IsDue message_files dropped_windows s.received v pieces) due.window_is (due_of message_files dropped_windows s.inbox s.received pieces t.holds due.next))

  told_come : (acts : List ReceiveAct) (s : Stand) (w : Window) (pairs : Pairs) → Tells publisher user message_files first reports acts s → HasCome s w pairs → CameAgain publisher user message_files (stand_of first acts) w pairs
  told_come acts s w pairs t come = record {
    idle = sym t.left ∙ come.due.idle;
    due = told_due acts s w (map (λ p. p.0) pairs) t come.due;
    still = subst (λ (n : Name). AllByRecursion (IsRefetched n user) pairs) t.publisher_is (subst (λ (n : Name). AllByRecursion (IsRefetched (publisher_in s) n) pairs) t.user_is come.still);
  }

  told_lost : (acts : List ReceiveAct) (s : Stand) (inbox : List Gathered) (w : Window) (pieces : List Piece) → Tells publisher user message_files first reports acts s → IsDueHere s w pieces → Loses s.inbox inbox w
      → Holds message_files (w ∷ (stand_of first acts).dropped_windows) inbox
  told_lost acts s inbox w pieces t due lost =
      holds_dropped_windows message_files (stand_of first acts).dropped_windows s.inbox inbox w t.holds (told_due acts s w pieces t due).whole lost.pieces lost.dropped

  told_step : (acts : List ReceiveAct) (s s' : Stand) (act : ReceiveAct) → Tells publisher user message_files first reports acts s → IsStep s act s' → Tells publisher user message_files first reports (act ∷ acts) s'
  told_step acts s s' (dropped w pairs piece found) t step =
      let pieces = map (λ p. p.0) pairs ++ piece ∷ step.behind in
      subst (λ (x : Stand). Tells publisher user message_files first reports (dropped w pairs piece found ∷ acts) x) (sym step.same) (record {
        user_is = t.user_is;
        publisher_is = t.publisher_is;
        are = (
          t.are,
          record {
            idle = sym t.left ∙ step.due.idle;
            behind = step.behind;
            due = told_due acts s w pieces t step.due;
            still = subst (λ (n : Name). AllByRecursion (IsRefetched n user) pairs) t.publisher_is (subst (λ (n : Name). AllByRecursion (IsRefetched (publisher_in s) n) pairs) t.user_is step.still);
            unlike = subst (λ (n : Name). IsUnlike n user piece found) t.publisher_is (subst (λ (n : Name). IsUnlike (publisher_in s) n piece found) t.user_is step.unlike);
          },
        );
        state = t.state;
        received = t.received;
        left = t.left;
        holds = told_lost acts s s'.inbox w pieces t step.due step.lost;
        took = t.took;
        told = t.told;
        reports_are = t.reports_are;
      })
  told_step acts s s' (torn w pairs) t step =
      let ops = op_reports user acts in
      let torns = torn_reports user acts in
      let one = Torn user (offset_from w.prev) (offset_from w.upto) ∷ [] in
      subst (λ (x : Stand). Tells publisher user message_files first reports (torn w pairs ∷ acts) x) (sym step.same) (record {
        user_is = t.user_is;
        publisher_is = t.publisher_is;
        are = (t.are, (told_come acts s w pairs t step.come, step.unread));
        state = t.state;
        received = t.received;
        left = t.left;
        holds = told_lost acts s s'.inbox w (map (λ p. p.0) pairs) t step.come.due step.lost;
        took = t.took;
        told = t.told;
        reports_are = (λ i. t.reports_are i ++ Torn (t.user_is i) (offset_from w.prev) (offset_from w.upto) ∷ []) ∙ append_assoc reports (ops ++ torns) one ∙ ap (λ (l : List Report). reports ++ l) (append_assoc ops torns one);
      })
  told_step acts s s' (begun w pairs txs) t step = subst (λ (x : Stand). Tells publisher user message_files first reports (begun w pairs txs ∷ acts) x) (sym step.same) (record {
    user_is = t.user_is;
    publisher_is = t.publisher_is;
    are = (t.are, (told_come acts s w pairs t step.come, step.read));
    state = t.state;
    received = t.received;
    left = ap (λ (n : ℕ). past n txs) t.received;
    holds = t.holds;
    took = t.took;
    told = t.told;
    reports_are = t.reports_are;
  })
  told_step acts s s' (took x dones) t step =
      let ops = op_reports user acts in
      let made = made_of s x dones in
      let his : ops ++ made ≡ op_reports user (took x dones ∷ acts) = λ i. ops ++ made_of (record s { user = t.user_is i }) x dones in
      subst (λ (y : Stand). Tells publisher user message_files first reports (took x dones ∷ acts) y) (sym step.same) (record {
        user_is = t.user_is;
        publisher_is = dones_publisher dones s.state ∙ t.publisher_is;
        are = (
          t.are,
          record {
            rest = step.rest;
            left_are = sym t.left ∙ step.left_are;
            done = subst (λ (y : State). AreDone y (is_above y user) x.ops dones) t.state (subst (λ (n : Name). AreDone s.state (is_above s.state n) x.ops dones) t.user_is step.done);
          },
        );
        state = ap (after_dones dones) t.state;
        received = refl;
        left = sym (ap rest_of (sym t.left ∙ step.left_are));
        holds = t.holds;
        took = omega (arith, t.took);
        told = omega (arith, t.told, ap length his, length-append ops made);
        reports_are = ap (λ (l : List Report). take s.told l ++ (made ++ drop s.told l)) t.reports_are ∙ inserted s.told reports ops made (torn_reports user acts) t.told ∙ ap (λ (l : List Report). reports ++ (l ++ torn_reports user acts)) his;
      })

  pub told_steps : (s s' : Stand) (acts : List ReceiveAct) → Tells publisher user message_files first reports [] s → Steps s acts s' → Tells publisher user message_files first reports acts s'
  told_steps s s' [] t steps = subst (λ (x : Stand). Tells publisher user message_files first reports [] x) (sym steps) t
  told_steps s s' (act ∷ earlier) t steps = told_step earlier steps.0 s' act (told_steps s steps.0 earlier t steps.1) steps.2

-- ---- what they come to

module _ (publisher user : Name) where
  no_entries : (rs : List Recorded) (hs : List Happening) → rs ++ entries (calls hs) ≡ rs
  no_entries rs hs = ap (λ (l : List Recorded). rs ++ l) (calls_entries hs) ∙ append-nil rs

  act_entries : (act : ReceiveAct) (earlier : List ReceiveAct) (rs : List Recorded) → rs ≡ entries_of user earlier → rs ++ entries (effects_in publisher user act) ≡ entries_of user (act ∷ earlier)
  act_entries (dropped w pairs piece found) earlier rs is = no_entries rs (refetch publisher piece found ∷ refetches publisher pairs []) ∙ is
  act_entries (torn w pairs) earlier rs is = no_entries rs (refetches publisher pairs []) ∙ is
  act_entries (begun w pairs txs) earlier rs is = no_entries rs (refetches publisher pairs []) ∙ is
  act_entries (took t dones) earlier rs is = ap (λ (l : List Recorded). l ++ taken user t.at dones ∷ []) is

  pub told_entries : (acts : List ReceiveAct) → entries (effects_of publisher user acts) ≡ entries_of user acts
  told_entries [] = refl
  told_entries (act ∷ earlier) =
      entries_on (effects_of publisher user earlier) (effects_in publisher user act) ∙ act_entries act earlier (entries (effects_of publisher user earlier)) (told_entries earlier)

  act_mail : (act : ReceiveAct) (earlier : List ReceiveAct) (before : List Happening) → mail_behind (effects_in publisher user act) (mail_after publisher earlier before) ≡ mail_after publisher (act ∷ earlier) before
  act_mail (dropped w pairs piece found) earlier before =
      let now = mail_after publisher earlier before in
      calls_mail (refetch publisher piece found ∷ refetches publisher pairs []) now ∙ ap (λ (l : List Happening). refetch publisher piece found ∷ l) (sym (refetches_on publisher pairs [] now))
  act_mail (torn w pairs) earlier before = calls_mail (refetches publisher pairs []) (mail_after publisher earlier before) ∙ sym (refetches_on publisher pairs [] (mail_after publisher earlier before))
  act_mail (begun w pairs txs) earlier before = calls_mail (refetches publisher pairs []) (mail_after publisher earlier before) ∙ sym (refetches_on publisher pairs [] (mail_after publisher earlier before))
  act_mail (took t dones) earlier before = refl

  pub told_mail : (acts : List ReceiveAct) (before : List Happening) → mail_behind (effects_of publisher user acts) before ≡ mail_after publisher acts before
  told_mail [] before = refl
  told_mail (act ∷ earlier) before =
      mail_on (effects_of publisher user earlier) (effects_in publisher user act) before
      ∙ ap (mail_behind (effects_in publisher user act)) (told_mail earlier before)
      ∙ act_mail act earlier before

  act_trace : (act : ReceiveAct) → trace (effects_in publisher user act) ≡ map commit (entries (effects_in publisher user act))
  act_trace (dropped w pairs piece found) = calls_quiet (refetch publisher piece found ∷ refetches publisher pairs []) (refetches_quiet publisher pairs [] tt)
  act_trace (torn w pairs) = calls_quiet (refetches publisher pairs []) (refetches_quiet publisher pairs [] tt)
  act_trace (begun w pairs txs) = calls_quiet (refetches publisher pairs []) (refetches_quiet publisher pairs [] tt)
  act_trace (took t dones) = refl

  pub told_trace : (acts : List ReceiveAct) → trace (effects_of publisher user acts) ≡ map commit (entries (effects_of publisher user acts))
  told_trace [] = refl
  told_trace (act ∷ earlier) = trace_then (effects_of publisher user earlier) (effects_in publisher user act) (told_trace earlier) (act_trace act)
