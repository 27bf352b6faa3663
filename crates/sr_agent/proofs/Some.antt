-- What was gathered is some message files of each user, whether the site tells or not.
use Rattle.std.proofs.Common.{ℕ, List, [], Result, Ok, Err, IfOk, subst}
use Rattle.sr_database.specs.Views.{View}
use Rattle.sr_receive_gather.specs.Inner.Gathers.{HasGathered}
use Rattle.sr_receive_gather.specs.MessageFiles.{message_files_from}
use Rattle.sr_receive_gather.specs.declared.bag.PartnerMail.{PartnerMail}
use Rattle.sr_receive_gather.specs.declared.fault.ReceiveFault.{ReceiveFault}
use Rattle.sr_receive_gather.specs.declared.report.Report.{Report}
use Rattle.sr_site.specs.Seen.{Seen}
use Rattle.sr_site.specs.Streams.{Output}
use Rattle.sr_agent.specs.Inner.PartnerMails.{HoldsSome}
use Rattle.sr_agent.specs.Inner.Steps.{ToldGathering}
use Rattle.sr_agent.specs.declared.fault.AgentFault.{AgentFault}

some_of : (view : View) (before now : Seen) (none reports : List Report) (bag : List PartnerMail) → HasGathered view.catalog view.log.end before now none reports bag → HoldsSome bag
some_of view before now none reports bag gathered user = record { message_files = message_files_from user gathered.fetched_files; dropped_windows = []; has = gathered.bag_is user }

pub gathered_some : (view : View) (before now : Seen) (written written' : Output) (none shown reports : List Report) (outcome : Result (List PartnerMail) ReceiveFault) (result : Result (List PartnerMail × ℕ) AgentFault)
    → IfOk outcome (HasGathered view.catalog view.log.end before now none reports) → IfOk result (λ gathered. ToldGathering outcome gathered.0 gathered.1 shown written written')
    → IfOk result (λ gathered. HoldsSome gathered.0)
gathered_some view before now written written' none shown reports outcome (Err fault) gathered told = tt
gathered_some view before now written written' none shown reports outcome (Ok answer) gathered told =
    let all : IfOk {E = ReceiveFault} (Ok answer.0) (HasGathered view.catalog view.log.end before now none reports) =
    subst (λ (r : Result (List PartnerMail) ReceiveFault). IfOk r (HasGathered view.catalog view.log.end before now none reports)) told.is gathered in
    some_of view before now none reports answer.0 all
