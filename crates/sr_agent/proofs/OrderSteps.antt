-- The partners' passes of partners in order: the first, one more, the end, and a fault.
use Rattle.std.proofs.Common.{◌≡◌, ◌+◌, Bool, List, [], ◌∷◌, ◌++◌, refl, sym, ap, subst, ◌∙◌, arith, append_assoc, if◌then◌else◌}
use Rattle.std.specs.Prelude.{IsTrue, count_by}
use Rattle.std.specs.List.{AllByRecursion}
use Rattle.std.proofs.lemmas.List.{append-nil}
use Rattle.std.proofs.lemmas.List.Sums.{sum_by-append}
use Rattle.sr_book.specs.Entries.{Name}
use Rattle.sr_database.specs.Databases.{IsDatabase}
use Rattle.sr_database.specs.Views.{View}
use Rattle.sr_database_history.specs.Recorded.{Recorded}
use Rattle.sr_receive.specs.Inner.Ready.{IsReady}
use Rattle.sr_receive_gather.specs.MessageFiles.{FetchedFile}
use Rattle.sr_receive_gather.specs.declared.bag.PartnerMail.{PartnerMail}
use Rattle.sr_site.specs.Inner.Growing.{stays_on}
use Rattle.sr_site.specs.Seen.{Seen}
use Rattle.sr_site.specs.Streams.{Output}
use Rattle.sr_agent.specs.Lines.{Line, is_alarm_line}
use Rattle.sr_agent.specs.Inner.PartnerMails.{HasSome, HoldsSome}
use Rattle.sr_agent.specs.Inner.Steps.{IsUser, KeepsPartners, TookPartnerPasses, PartnerPassDone, PartnerPassesDone}
use Rattle.sr_agent.specs.declared.partner.Partner.{Partner}
use Rattle.sr_agent.specs.declared.progress.Progress.{Progress}
use Rattle.sr_agent.proofs.Chaining.{partner_passes_more}
use Rattle.sr_agent.proofs.DoneWith.{removes_none}
use Rattle.sr_agent.proofs.Joints.{steady_on, went_quiet}
use Rattle.sr_agent.proofs.Ordering.{IsTurning, all_may, all_users, may_more, others_hold, still_holds, told_on}
use Rattle.sr_agent.proofs.Purged.{stays_same}
use Rattle.sr_agent.proofs.Values.{keeps_same, keeps_twice}

counts_append : (one two : List Line) → count_by is_alarm_line (one ++ two) ≡ count_by is_alarm_line one + count_by is_alarm_line two
counts_append one two = sum_by-append (λ (l : Line). if is_alarm_line l then 1 else 0) one two

none_took : (db : View) (seen : Seen) (publisher : Name) (es : List Recorded) (fetched_files : List FetchedFile) (purge : Bool) → IsDatabase db publisher es seen → TookPartnerPasses db seen seen publisher es fetched_files purge [] [] []
none_took db seen publisher es fetched_files purge database = record {
  partner_passes = [];
  whose = refl;
  are = tt;
  database = subst (λ (rs : List Recorded). IsDatabase db publisher rs seen) (sym (append-nil es)) database;
  steady = record { disk = refl; mail = refl };
  went = went_quiet db publisher es seen seen [] (record { observable = refl; first = refl; files = refl; grows = λ moment there. there; disk_faults = refl; later = omega arith }) refl tt database;
  mail = refl;
  removals = λ begun come. removes_none seen.first publisher begun seen.happened;
  asks_are = refl;
  lines_are = refl;
}

pub turning_start : (db : View) (seen : Seen) (users : List Name) (bag : List PartnerMail) (purge : Bool) (progress : Progress) (written : Output) → IsReady db seen → AllByRecursion (IsUser db) users → HoldsSome bag
    → IsTurning db db seen seen users users bag bag purge progress progress written written
turning_start db seen users bag purge progress written ready are holds = record {
  done = [];
  parts = refl;
  ready = ready;
  keeps = keeps_same db;
  users_are = are;
  holds = holds;
  lines = [];
  asks = [];
  told = record { taken = λ told. sym (append-nil written.taken); steady = refl; stays = record { observable = refl; later = omega arith } };
  alarms_are = omega arith;
  partners_are = sym (append-nil progress.partners.items);
  may = tt;
  steady = record { disk = refl; mail = refl };
  stays = stays_same seen;
  did = λ told publisher es fetched_files database all once. record { took = none_took db seen publisher es fetched_files purge database; holds = all; once = once };
}

pub turning_more : (old db new : View) (before seen now : Seen) (users : List Name) (user : Name) (rest : List Name) (bag bag' bag'' : List PartnerMail) (purge : Bool) (progress progress' progress'' : Progress)
    (written written' written'' : Output) → IsTurning old db before seen users (user ∷ rest) bag bag' purge progress progress' written written' → IsReady new now → KeepsPartners db new → HasSome bag'' user
    → PartnerPassDone db new seen now user bag' bag'' purge progress' progress'' written' written'' → IsTurning old new before now users rest bag bag'' purge progress progress'' written written''
turning_more old db new before seen now users user rest bag bag' bag'' purge progress progress' progress'' written written' written'' so ready keeps his one = record {
  done = so.done ++ user ∷ [];
  parts = so.parts ∙ sym (append_assoc so.done (user ∷ []) rest);
  ready = ready;
  keeps = keeps_twice old db new so.keeps keeps;
  users_are = all_users db new rest keeps so.users_are.1;
  holds = still_holds bag' bag'' user so.holds one.others his;
  lines = so.lines ++ one.lines;
  asks = so.asks ++ record { user = user; ask = one.ask } ∷ [];
  told = told_on so.lines one.lines written written' written'' so.told one.told;
  alarms_are = omega (arith, so.alarms_are, one.alarms_are, counts_append so.lines one.lines);
  partners_are = one.partners_are ∙ ap (λ (ps : List Partner). ps ++ record { user = user; ask = one.ask } ∷ []) so.partners_are ∙ append_assoc progress.partners.items so.asks (record { user = user; ask = one.ask } ∷ []);
  may = may_more new so.asks (record { user = user; ask = one.ask }) (all_may db new so.asks keeps so.may) one.may;
  steady = steady_on before seen now so.steady one.steady;
  stays = stays_on before seen now so.stays one.stays;
  did = λ told publisher es fetched_files database all once.
      let first = so.did told publisher es fetched_files database all once in
      let next = one.did (subst (λ (t : Bool). IsTrue t) (sym so.stays.observable) told) publisher _ fetched_files first.took.database first.holds.0 in
      record {
        took = partner_passes_more db new before seen now publisher es fetched_files purge so.done user so.asks one.ask so.lines one.lines first.took next;
        holds = others_hold bag' bag'' fetched_files user rest one.others first.once.0 first.holds.1;
        once = first.once.1;
      };
}

pub turning_done : (old db : View) (before seen : Seen) (users : List Name) (bag bag' : List PartnerMail) (purge : Bool) (progress progress' : Progress) (written written' : Output)
    → IsTurning old db before seen users [] bag bag' purge progress progress' written written' → PartnerPassesDone old db before seen users bag purge progress progress' written written'
turning_done old db before seen users bag bag' purge progress progress' written written' so = record {
  lines = so.lines;
  asks = so.asks;
  told = so.told;
  alarms_are = so.alarms_are;
  partners_are = so.partners_are;
  may = so.may;
  steady = so.steady;
  stays = so.stays;
  did = λ told publisher es fetched_files database all once.
      subst (λ (names : List Name). TookPartnerPasses db before seen publisher es fetched_files purge names so.asks so.lines) (sym (append-nil so.done) ∙ sym so.parts) (so.did told publisher es fetched_files database all once).took;
}
