-- A fault in one of the partners' passes of partners.
use Rattle.std.proofs.Common.{Bool, List, ◌∷◌, ◌++◌, map, refl, sym, subst}
use Rattle.std.specs.Prelude.{IsTrue}
use Rattle.sr_book.specs.Entries.{Name}
use Rattle.sr_database.specs.Views.{View}
use Rattle.sr_database_history.specs.Recorded.{Recorded}
use Rattle.sr_receive_gather.specs.declared.bag.PartnerMail.{PartnerMail}
use Rattle.sr_site.specs.Seen.{Seen}
use Rattle.sr_site.specs.Streams.{Output}
use Rattle.sr_database_meaning.specs.Events.{commit}
use Rattle.sr_database_meaning.specs.Traces.{Went}
use Rattle.sr_database_meaning.proofs.Joining.{joined}
use Rattle.sr_agent.specs.Ends.{HasTold}
use Rattle.sr_agent.specs.Inner.Steps.{PartnerPassBroken, PartnerPassesBroken}
use Rattle.sr_agent.specs.PartnerPasses.{partner_passes_entries}
use Rattle.sr_agent.specs.declared.fault.AgentFault.{AgentFault}
use Rattle.sr_agent.specs.declared.progress.Progress.{Progress}
use Rattle.sr_agent.proofs.DoneWith.{removes_then}
use Rattle.sr_agent.proofs.Ending.{partner_pass_stopped}
use Rattle.sr_agent.proofs.Joints.{commits_of}
use Rattle.sr_agent.proofs.Ordering.{IsTurning}
use Rattle.sr_agent.proofs.Written.{ended_behind, told_before, told_behind}

pub turning_stop : (old db new : View) (before seen now : Seen) (users : List Name) (user : Name) (rest : List Name) (bag bag' : List PartnerMail) (purge : Bool) (progress progress' : Progress)
    (written written' written'' : Output) (fault : AgentFault) → IsTurning old db before seen users (user ∷ rest) bag bag' purge progress progress' written written'
    → PartnerPassBroken db new seen now user bag' purge written' written'' fault → PartnerPassesBroken old new before now users bag purge written written'' fault
turning_stop old db new before seen now users user rest bag bag' purge progress progress' written written' written'' fault so one = record {
  lines = so.lines ++ one.lines;
  ended = ended_behind new before seen now written written' written'' so.lines one.lines fault so.told so.steady so.stays one.ended;
  did = λ told publisher es fetched_files database all once.
      let first = so.did told publisher es fetched_files database all once in
      let entries = partner_passes_entries publisher es fetched_files first.took.partner_passes in
      let next = one.did (subst (λ (t : Bool). IsTrue t) (sym so.stays.observable) told) publisher (es ++ entries) fetched_files first.took.database first.holds.0 in
      record {
        done = so.done;
        user = user;
        left = rest;
        parts = so.parts;
        db = db;
        seen = seen;
        asks = so.asks;
        earlier = so.lines;
        took = first.took;
        told = one.lines;
        events = next.events;
        stop = partner_pass_stopped publisher (es ++ entries) fetched_files user db new seen now next.events one.lines fault purge (HasTold one.lines written' written'') (HasTold (so.lines ++ one.lines) written written'')
            (told_behind so.lines one.lines written written' written'' so.told) next.stop;
        went = joined before seen now publisher es (map commit entries) next.events first.took.went (subst (λ (rs : List Recorded). Went seen now publisher (es ++ rs) next.events) (sym (commits_of entries)) next.went);
        removals = removes_then before seen now publisher es (map commit entries) fetched_files first.took.went first.took.removals next.removals;
        lines_are = refl;
        earlier_told = told_before so.lines one.lines written written' written'' fault so.told one.ended.wrote;
      };
}
