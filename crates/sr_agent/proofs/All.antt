-- The receive pass as a whole: the mail, and then each partner's pass.
use Rattle.std.proofs.Common.{◌≡◌, ◌+◌, Bool, ℕ, List, [], ◌∷◌, ◌++◌, refl, sym, subst, arith}
use Rattle.std.specs.Prelude.{IsTrue}
use Rattle.std.specs.List.{AllByRecursion}
use Rattle.sr_book.specs.Entries.{Name}
use Rattle.sr_database.specs.Views.{View}
use Rattle.sr_receive_gather.specs.Bags.{Has}
use Rattle.sr_receive.specs.Inner.Ready.{IsReady}
use Rattle.sr_receive_gather.specs.MessageFiles.{FetchedFile, message_files_from}
use Rattle.sr_receive_gather.specs.declared.bag.PartnerMail.{PartnerMail}
use Rattle.sr_site.specs.Inner.Growing.{stays_on}
use Rattle.sr_site.specs.Seen.{Seen}
use Rattle.sr_site.specs.Streams.{Output}
use Rattle.sr_agent.specs.Inner.Steps.{GatheringBroken, GatheringDone, HoldsAll, MaySendTo, ReceivingBroken, ReceivingDone, TookPartnerPasses, PartnerPassesBroken, PartnerPassesDone, in_mail, in_partner_passes}
use Rattle.sr_agent.specs.Lines.{Line, alarms}
use Rattle.sr_agent.specs.declared.fault.AgentFault.{AgentFault}
use Rattle.sr_agent.specs.declared.partner.Partner.{Partner}
use Rattle.sr_agent.specs.declared.progress.Progress.{Progress}
use Rattle.sr_agent.proofs.Joints.{of_mail, steady_on, told_then}
use Rattle.sr_agent.proofs.Written.{alarms_on, ended_behind, told_on}

holds_all : (bag : List PartnerMail) (fetched_files : List FetchedFile) → ((user : Name) → Has bag user (message_files_from user fetched_files) []) → (users : List Name) → HoldsAll bag fetched_files users
holds_all bag fetched_files has [] = tt
holds_all bag fetched_files has (user ∷ users) = (has user, holds_all bag fetched_files has users)

sum_on : (first behind : List Line) (before after count : ℕ) → count ≡ alarms first → before ≡ count → after ≡ before + alarms behind → after ≡ alarms (first ++ behind)
sum_on first behind before after count one same two = omega (arith, one, same, two, alarms_on first behind)

asks_of : (items from asks : List Partner) → from ≡ [] → items ≡ from ++ asks → asks ≡ items
asks_of items from asks none are = sym (subst (λ (l : List Partner). items ≡ l ++ asks) none are)

pub all_done : (old new : View) (before seen now : Seen) (users : List Name) (purge : Bool) (bag : List PartnerMail) (count : ℕ) (progress progress' : Progress) (written between written' : Output)
    → GatheringDone old before seen bag count written between → progress.alarms ≡ count → progress.partners.items ≡ []
    → PartnerPassesDone old new seen now users bag purge progress progress' between written' → ReceivingDone old new before now users purge written written' progress'
all_done old new before seen now users purge bag count progress progress' written between written' gathered count_is none partner_passes =
    let asks_are = asks_of progress'.partners.items progress.partners.items partner_passes.asks none partner_passes.partners_are in
    record {
      lines = gathered.lines ++ partner_passes.lines;
      told = told_on gathered.lines partner_passes.lines written between written' gathered.told partner_passes.told;
      alarms_are = sum_on gathered.lines partner_passes.lines progress.alarms progress'.alarms count gathered.count_is count_is partner_passes.alarms_are;
      may = subst (λ (ps : List Partner). AllByRecursion (MaySendTo new) ps) asks_are partner_passes.may;
      steady = steady_on before seen now (record { disk = gathered.site.disk_faults; mail = gathered.steady }) partner_passes.steady;
      stays = stays_on before seen now (of_mail before seen gathered.site) partner_passes.stays;
      did = λ told publisher es database once.
          let all = gathered.did told publisher es database in
          record {
            bag = bag;
            seen = seen;
            view = old;
            first = gathered.lines;
            gathered = all;
            behind = partner_passes.lines;
            took = subst (λ (ps : List Partner). TookPartnerPasses new seen now publisher es all.gathering.fetched_files purge users ps partner_passes.lines) asks_are
                (partner_passes.did (told_then before seen (of_mail before seen gathered.site) told) publisher es all.gathering.fetched_files all.database (holds_all bag all.gathering.fetched_files all.bag_is users) once);
            lines_are = refl;
          };
    }

pub all_stopped : (old new : View) (before seen now : Seen) (users : List Name) (purge : Bool) (bag : List PartnerMail) (count : ℕ) (written between written' : Output) (fault : AgentFault)
    → GatheringDone old before seen bag count written between → PartnerPassesBroken old new seen now users bag purge between written' fault → ReceivingBroken old new before now users purge written written' fault
all_stopped old new before seen now users purge bag count written between written' fault gathered broken = record {
  lines = gathered.lines ++ broken.lines;
  ended = ended_behind new before seen now written between written' gathered.lines broken.lines fault gathered.told (record { disk = gathered.site.disk_faults; mail = gathered.steady }) (of_mail before seen gathered.site) broken.ended;
  did = λ told publisher es database once.
      let all = gathered.did told publisher es database in
      in_partner_passes bag seen gathered.lines broken.lines between all gathered.told
      (broken.did (told_then before seen (of_mail before seen gathered.site) told) publisher es all.gathering.fetched_files all.database (holds_all bag all.gathering.fetched_files all.bag_is users) once) refl;
}

pub all_broken : (old : View) (before now : Seen) (users : List Name) (purge : Bool) (written written' : Output) (fault : AgentFault) → GatheringBroken old before now written written' fault
    → ReceivingBroken old old before now users purge written written' fault
all_broken old before now users purge written written' fault broken = record {
  lines = broken.lines;
  ended = broken.ended;
  did = λ told publisher es database once. in_mail refl (broken.did told publisher es database);
}

-- the database stands at the site as the mail was gathered
pub ready_then : (old : View) (before seen : Seen) (bag : List PartnerMail) (count : ℕ) (written between : Output) → IsReady old before → GatheringDone old before seen bag count written between → IsReady old seen
ready_then old before seen bag count written between ready gathered = record {
  usable = ready.usable;
  idle = ready.idle;
  sound = ready.sound;
  stands = λ told.
      let told' : IsTrue before.observable = subst (λ (b : Bool). IsTrue b) gathered.site.observable told in
      gathered.in_force told' (ready.stands told');
}
