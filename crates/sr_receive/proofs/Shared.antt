-- The partner mail of a user in a bag, after a pass.
use Rattle.std.proofs.Common.{◌≡◌, ℕ, Bool, true, false, cond, List, [], ◌∷◌, ◌++◌, length, get_or, set, Option, Some, None, Result, Ok, Err, refl, sym, ap, subst, ◌∙◌, inl, inr}
use Rattle.std.specs.Prelude.{IfErr, IfOk, bytes_eq}
use Rattle.std.specs.List.{AllByRecursion}
use Rattle.sr_book.specs.Entries.{Name}
use Rattle.sr_database_did.specs.Inner.Did.{PlaceView}
use Rattle.sr_exec_where.proofs.Fixed.{same_name}
use Rattle.sr_mail.specs.declared.window.Window.{Window}
use Rattle.sr_receive.specs.Acts.{ReceiveAct, dropped, torn, begun, took, PassState, stand_of, AreActs, IsAct}
use Rattle.sr_receive_gather.specs.Bags.{Has, IsPlaceOf, IsPartnerMail, IsPartnerMailWhere, partner_mail_of}
use Rattle.sr_receive_gather.specs.Inner.Bags.{OthersStay}
use Rattle.sr_receive_gather.specs.MessageFiles.{MessageFile}
use Rattle.sr_receive.specs.Inner.Passes.{HasPassed, HasReceived, ReceiveCause, ReceivedBag, ReceivedMail}
use Rattle.sr_receive_gather.specs.declared.bag.PartnerMail.{PartnerMail}
use Rattle.sr_receive_gather.specs.declared.fault.ReceiveFault.{ReceiveFault}
use Rattle.sr_receive.specs.declared.receiving.Received.{Received}
use Rattle.sr_receive_gather.specs.declared.fault.ReceiveFault.TheVariants.{Memory}
use Rattle.sr_receive_gather.specs.declared.report.Report.{Report}
use Rattle.sr_receive.specs.Inner.Ready.{IsReady}
use Rattle.sr_receive.proofs.Noted.{none_for_want}
use Rattle.sr_receive.proofs.Passing.{stops_among}

-- ---- shares by their users

partner_mail_there : (prefix behind : List PartnerMail) (s : PartnerMail) (user : Name) → AllByRecursion (λ x. bytes_eq x.user user ≡ false) prefix → bytes_eq s.user user ≡ true → partner_mail_of (prefix ++ s ∷ behind) user ≡ Some s
partner_mail_there [] behind s user others his = ap (λ (b : Bool). cond b (Some s) (partner_mail_of behind user)) his
partner_mail_there (f ∷ prefix) behind s user others his =
    ap (λ (b : Bool). cond b (Some f) (partner_mail_of (prefix ++ s ∷ behind) user)) others.0 ∙ partner_mail_there prefix behind s user others.1 his

partner_mail_beside : (prefix behind : List PartnerMail) (s s' : PartnerMail) (other : Name) → bytes_eq s.user other ≡ false → bytes_eq s'.user other ≡ false → partner_mail_of (prefix ++ s' ∷ behind) other ≡ partner_mail_of (prefix ++ s ∷ behind) other
partner_mail_beside [] behind s s' other one two =
    ap (λ (b : Bool). cond b (Some s') (partner_mail_of behind other)) two ∙ sym (ap (λ (b : Bool). cond b (Some s) (partner_mail_of behind other)) one)
partner_mail_beside (f ∷ prefix) behind s s' other one two = ap (λ (o : Option PartnerMail). cond (bytes_eq f.user other) (Some f) o) (partner_mail_beside prefix behind s s' other one two)

set_there : (prefix behind : List PartnerMail) (s s' : PartnerMail) → set (prefix ++ s ∷ behind) (length prefix) s' ≡ prefix ++ s' ∷ behind
set_there [] behind s s' = refl
set_there (f ∷ prefix) behind s s' = ap (λ (l : List PartnerMail). f ∷ l) (set_there prefix behind s s')

-- ---- a partner mail that is there

module _ (bag bag' : List PartnerMail) (user : Name) (at : ℕ) (partner_mail partner_mail' : PartnerMail) (place : IsPlaceOf bag user at) (is : place.partner_mail ≡ partner_mail) (same : partner_mail'.user ≡ partner_mail.user) (made : bag' ≡ set bag at partner_mail') where
  bag_is : bag' ≡ place.prefix ++ partner_mail' ∷ place.behind
  bag_is =
      let e : set bag at partner_mail' ≡ set (place.prefix ++ place.partner_mail ∷ place.behind) (length place.prefix) partner_mail' = λ i. set (place.parts i) (place.at_is i) partner_mail' in
      made ∙ e ∙ set_there place.prefix place.behind place.partner_mail partner_mail'

  his : bytes_eq partner_mail.user user ≡ true
  his = subst (λ (s : PartnerMail). bytes_eq s.user user ≡ true) is place.his

  partner_mail_was : partner_mail_of bag user ≡ Some partner_mail
  partner_mail_was = ap (λ (l : List PartnerMail). partner_mail_of l user) place.parts ∙ partner_mail_there place.prefix place.behind place.partner_mail user place.others place.his ∙ ap (λ (s : PartnerMail). Some s) is

  partner_mail_is : partner_mail_of bag' user ≡ Some partner_mail'
  partner_mail_is =
      ap (λ (l : List PartnerMail). partner_mail_of l user) bag_is
      ∙ partner_mail_there place.prefix place.behind partner_mail' user place.others (subst (λ (n : Name). bytes_eq n user ≡ true) (sym same) his)

  named : partner_mail.user ≡ user
  named = same_name partner_mail.user user his

  pub others_stay : OthersStay bag bag' user
  others_stay other differs =
      let one : bytes_eq partner_mail.user other ≡ false = subst (λ (n : Name). bytes_eq n other ≡ false) (sym named) differs in
      let two : bytes_eq partner_mail'.user other ≡ false = subst (λ (n : Name). bytes_eq n other ≡ false) (sym same) one in
      ap (λ (l : List PartnerMail). partner_mail_of l other) bag_is
      ∙ partner_mail_beside place.prefix place.behind place.partner_mail partner_mail' other (subst (λ (s : PartnerMail). bytes_eq s.user other ≡ false) (sym is) one) two
      ∙ sym (ap (λ (l : List PartnerMail). partner_mail_of l other) place.parts)

  had : (message_files : List MessageFile) (dropped_windows : List Window) → Has bag user message_files dropped_windows → IsPartnerMail message_files dropped_windows partner_mail
  had message_files dropped_windows has = subst (λ (o : Option PartnerMail). IsPartnerMailWhere message_files dropped_windows o) partner_mail_was has

  has_then : (message_files : List MessageFile) (dropped_windows : List Window) → IsPartnerMail message_files dropped_windows partner_mail' → Has bag' user message_files dropped_windows
  has_then message_files dropped_windows now = subst (λ (o : Option PartnerMail). IsPartnerMailWhere message_files dropped_windows o) (sym partner_mail_is) now

  bag_received : (a b : PlaceView) (reports reports' : List Report) (result : Result Received ReceiveFault) → ReceivedMail a b user partner_mail partner_mail' reports reports' result → ReceivedBag a b user bag bag' reports reports' result
  bag_received a b reports reports' result says = record {
    why = says.why;
    others = others_stay;
    passed = λ message_files dropped_windows has. let p = says.passed message_files dropped_windows (had message_files dropped_windows has) in (p.0, has_then message_files p.0 p.1, p.2);
  }

get_prefix : (prefix behind : List PartnerMail) (s other : PartnerMail) → get_or (prefix ++ s ∷ behind) (length prefix) other ≡ s
get_prefix [] behind s other = refl
get_prefix (f ∷ prefix) behind s other = get_prefix prefix behind s other

there : (items : List PartnerMail) (user : Name) (at : ℕ) (partner_mail : PartnerMail) (place : IsPlaceOf items user at) → partner_mail ≡ get_or items at partner_mail → place.partner_mail ≡ partner_mail
there items user at partner_mail place got =
    let e : get_or items at partner_mail ≡ get_or (place.prefix ++ place.partner_mail ∷ place.behind) (length place.prefix) partner_mail = λ i. get_or (place.parts i) (place.at_is i) partner_mail in
    sym (got ∙ e ∙ get_prefix place.prefix place.behind place.partner_mail partner_mail)

pub received_at : (a b : PlaceView) (user : Name) (bag : List PartnerMail) (at : ℕ) (partner_mail partner_mail' : PartnerMail) (reports reports' : List Report) (result : Result Received ReceiveFault) → IsPlaceOf bag user at → partner_mail ≡ get_or bag at partner_mail
    → partner_mail'.user ≡ partner_mail.user → ReceivedMail a b user partner_mail partner_mail' reports reports' result → ReceivedBag a b user bag (set bag at partner_mail') reports reports' result
received_at a b user bag at partner_mail partner_mail' reports reports' result place got same says =
    bag_received bag (set bag at partner_mail') user at partner_mail partner_mail' place (there bag user at partner_mail place got) same refl a b reports reports' result says

-- what `receive` says of it
pub has_received : (a b : PlaceView) (user : Name) (bag bag' : List PartnerMail) (reports reports' : List Report) (result : Result Received ReceiveFault) → ReceivedBag a b user bag bag' reports reports' result
    → IfOk result (HasReceived a.db b.db a.seen b.seen user bag bag' reports reports')
has_received a b user bag bag' reports reports' (Ok answer) says = record { others = says.others; passed = says.passed }
has_received a b user bag bag' reports reports' (Err fault) says = tt

pub has_cause : (a b : PlaceView) (user : Name) (bag bag' : List PartnerMail) (reports reports' : List Report) (result : Result Received ReceiveFault) → ReceivedBag a b user bag bag' reports reports' result
    → IfErr result (ReceiveCause a.db b.db a.seen b.seen user bag bag' reports reports')
has_cause a b user bag bag' reports reports' (Ok answer) says = tt
has_cause a b user bag bag' reports reports' (Err fault) says = record { why = says.why; others = says.others; passed = says.passed }

-- ---- where there is none

none_may : (publisher user : Name) (s : PassState) (act : ReceiveAct) → s.left ≡ [] → ¬ (IsAct publisher user [] s act)
none_may publisher user s (dropped w pairs piece found) left is = is.due.whole.seen refl
none_may publisher user s (torn w pairs) left is = is.0.due.whole.seen refl
none_may publisher user s (begun w pairs txs) left is = is.0.due.whole.seen refl
none_may publisher user s (took t dones) left is = let e = sym left ∙ is.left_are in absurd cc

-- of no message files no act comes
no_acts : (publisher user : Name) (first : PassState) (acts : List ReceiveAct) → first.left ≡ [] → AreActs publisher user [] first acts → acts ≡ []
no_acts publisher user first [] left are = refl
no_acts publisher user first (act ∷ earlier) left are =
    let none = no_acts publisher user first earlier left are.0 in
    absurd (none_may publisher user (stand_of first earlier) act (ap (λ (l : List ReceiveAct). (stand_of first l).left) none ∙ left) are.1)

none_had : (bag : List PartnerMail) (user : Name) (message_files : List MessageFile) (dropped_windows : List Window) → partner_mail_of bag user ≡ None → Has bag user message_files dropped_windows → (message_files ≡ []) × (dropped_windows ≡ [])
none_had bag user message_files dropped_windows none has = subst (λ (o : Option PartnerMail). IsPartnerMailWhere message_files dropped_windows o) none has

none_has : (bag : List PartnerMail) (user : Name) (message_files : List MessageFile) (dropped_windows : List Window) → partner_mail_of bag user ≡ None → (message_files ≡ []) × (dropped_windows ≡ []) → Has bag user message_files dropped_windows
none_has bag user message_files dropped_windows none are = subst (λ (o : Option PartnerMail). IsPartnerMailWhere message_files dropped_windows o) (sym none) are

-- of none no window is lost
none_lost : (publisher user : Name) (first : PassState) (acts : List ReceiveAct) (dropped_windows' : List Window) → first.left ≡ [] → first.dropped_windows ≡ [] → AreActs publisher user [] first acts → dropped_windows' ≡ (stand_of first acts).dropped_windows → dropped_windows' ≡ []
none_lost publisher user first acts dropped_windows' left none are is = is ∙ ap (λ (l : List ReceiveAct). (stand_of first l).dropped_windows) (no_acts publisher user first acts left are) ∙ none

lost_none : (a b : PlaceView) (user : Name) (dropped_windows' : List Window) (reports reports' : List Report) (result : Result Received ReceiveFault) → HasPassed a b user reports reports' result [] [] dropped_windows' → dropped_windows' ≡ []
lost_none a b user dropped_windows' reports reports' (Ok answer) passed = none_lost a.db.catalog.publisher user _ passed.acts dropped_windows' refl refl passed.are passed.dropped_windows_are
lost_none a b user dropped_windows' reports reports' (Err fault) (inl at) = at.dropped_windows_are
lost_none a b user dropped_windows' reports reports' (Err fault) (inr stopped) = none_lost a.db.catalog.publisher user _ stopped.acts dropped_windows' refl refl stopped.are stopped.dropped_windows_are

pub received_none : (a b : PlaceView) (user : Name) (bag : List PartnerMail) (mail mail' : PartnerMail) (reports reports' : List Report) (result : Result Received ReceiveFault) → partner_mail_of bag user ≡ None → IsPartnerMail [] [] mail
    → ReceivedMail a b user mail mail' reports reports' result → ReceivedBag a b user bag bag reports reports' result
received_none a b user bag mail mail' reports reports' result none empty says = record {
  why = says.why;
  others = λ other differs. refl;
  passed = λ message_files dropped_windows has.
      let are = none_had bag user message_files dropped_windows none has in
      let p = says.passed [] [] empty in
      let P : List MessageFile → List Window → Type 0 = λ ls ws. HasPassed a b user reports reports' result ls ws p.0 in
      (p.0, none_has bag user message_files p.0 none (are.0, lost_none a b user p.0 reports reports' result p.2), subst (λ (ls : List MessageFile). P ls dropped_windows) (sym are.0) (subst (λ (ws : List Window). P [] ws) (sym are.1) p.2));
}

-- for want of memory, before anything was done
pub nothing_received : (a : PlaceView) (user : Name) (bag : List PartnerMail) (reports : List Report) → IsReady a.db a.seen → ReceivedBag a a user bag bag reports reports (Err Memory)
nothing_received a user bag reports ready = record {
  why = record { disk = refl; mail = refl };
  others = λ other differs. refl;
  passed = λ message_files dropped_windows has. (
    dropped_windows,
    has,
    inl (record { stops = stops_among a a _ Memory ready (none_for_want a _ ready.usable); dropped_windows_are = refl; mail = λ told. refl; reports_are = refl }),
  );
}
