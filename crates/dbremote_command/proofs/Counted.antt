-- What the status of a run tells of the counts of faults.
use Rattle.std.proofs.Common.{◌≡◌, ℕ, List, [], Ok, Err, refl, sym, ap, ◌∙◌, subst, inl, inr}
use Rattle.std.specs.Prelude.{◌⊎◌}
use Rattle.sr_agent.specs.declared.fault.AgentFault.{AgentFault}
use Rattle.sr_agent.specs.declared.fault.AgentFault.TheVariants as agent
use Rattle.sr_agent.specs.declared.options.Options.{Options}
use Rattle.sr_book.specs.Entries.{Name}
use Rattle.sr_database.specs.Views.{View}
use Rattle.sr_database_files.specs.declared.fault.DatabaseFault.{DatabaseFault}
use Rattle.sr_database_files.specs.declared.fault.DatabaseFault.TheVariants.{Missing, Exists, Damaged, Disk, Full, Long, Memory}
use Rattle.sr_database_history.specs.Recorded.{Recorded}
use Rattle.sr_database.specs.Broken.{IsBroken}
use Rattle.sr_session.specs.declared.fault.SessionFault.{SessionFault}
use Rattle.sr_session.specs.declared.fault.SessionFault.TheVariants as session
use Rattle.sr_site.specs.Causes.{DiskStays}
use Rattle.sr_site.specs.Seen.{Seen}
use Rattle.sr_site.specs.Streams.{Output}
use Rattle.dbremote_command.specs.Agents.{AgentRan, AgentStopped, unopened, stopped}
use Rattle.dbremote_command.specs.Counts.{TellsFaults}
use Rattle.dbremote_command.specs.Faults.{fault_of_agent, status_of}
use Rattle.dbremote_command.specs.Making.{MakeCause, StoreCause}
use Rattle.dbremote_command.specs.Outside.{Outside}
use Rattle.dbremote_command.specs.Reports.{HasNumbers}
use Rattle.dbremote_command.specs.Running.{BeginCause, OpenedCause, RanOn, Stopped, fault_of}
use Rattle.dbremote_command.specs.Runs.{Told, RanAgentOrder, RanInit, RanOrder, RanShow, RanSql, before_line}
use Rattle.dbremote_command.specs.Showing.{ShowCause}
use Rattle.dbremote_command.specs.declared.fault.Fault.{Fault}
use Rattle.dbremote_command.specs.declared.fault.Fault.TheVariants.{Words, Database, Source, TooLong, Script, Statement, Sink, Mail}
use Rattle.dbremote_command.specs.declared.order.Order.{Order}
use Rattle.dbremote_command.specs.declared.order.Order.TheVariants.{Init, Sql, Agent, Show}

-- ---- a fault, and its status

abbrev TellsDisk : Outside → Outside → ℕ → Type 0
TellsDisk old new status = (new.site.disk_faults ≡ old.site.disk_faults) ⊎ ((status ≡ 5) ⊎ (status ≡ 7))

abbrev TellsMail : Outside → Outside → ℕ → Type 0
TellsMail old new status = (new.site.mail_faults ≡ old.site.mail_faults) ⊎ ((status ≡ 6) ⊎ (status ≡ 7))

-- the disk's count stays, or this fault tells that it rose, or that the sink failed
abbrev DiskLeft : Seen → Seen → Fault → Type 0
DiskLeft before now fault = (now.disk_faults ≡ before.disk_faults) ⊎ ((fault ≡ Database Disk) ⊎ (fault ≡ Sink))

abbrev MailLeft : Seen → Seen → Fault → Type 0
MailLeft before now fault = (now.mail_faults ≡ before.mail_faults) ⊎ ((fault ≡ Mail) ⊎ (fault ≡ Sink))

-- a fault whose line is the same each time has its own status
plainly : (fault plain : Fault) (between now : Output) (status : ℕ) → Told fault between now status → fault ≡ plain → (HasNumbers plain → ⊥) → status ≡ status_of plain
plainly fault plain between now status told is none = elim told.told_is [
  | inl same ↦ told.status_is ∙ ap status_of (same ∙ is)
  | inr other ↦ absurd (none (subst HasNumbers is other.1))
]

disk_told : (old new : Outside) (fault : Fault) (between now : Output) (status : ℕ) → Told fault between now status → DiskLeft old.site new.site fault → TellsDisk old new status
disk_told old new fault between now status told (inl same) = inl same
disk_told old new fault between now status told (inr (inl is)) = inr (inl (plainly fault (Database Disk) between now status told is (λ none. none)))
disk_told old new fault between now status told (inr (inr is)) = inr (inr (plainly fault Sink between now status told is (λ none. none)))

mail_told : (old new : Outside) (fault : Fault) (between now : Output) (status : ℕ) → Told fault between now status → MailLeft old.site new.site fault → TellsMail old new status
mail_told old new fault between now status told (inl same) = inl same
mail_told old new fault between now status told (inr (inl is)) = inr (inl (plainly fault Mail between now status told is (λ none. none)))
mail_told old new fault between now status told (inr (inr is)) = inr (inr (plainly fault Sink between now status told is (λ none. none)))

-- ---- why a database is not opened, or not made

opened_left : (before now : Seen) (fault : DatabaseFault) → OpenedCause before now fault → DiskLeft before now (Database fault)
opened_left before now Missing cause = inl cause.1
opened_left before now Exists cause = absurd cause
opened_left before now (Damaged file at) cause = inl cause.1
opened_left before now Disk cause = inr (inl refl)
opened_left before now (Full end need) cause = absurd cause
opened_left before now (Long size limit) cause = absurd cause
opened_left before now Memory cause = inl cause

store_left : (name : List ℕ) (before now : Seen) (fault : DatabaseFault) → StoreCause name before now fault → DiskLeft before now (Database fault)
store_left name before now Missing cause = absurd cause
store_left name before now Exists cause = inl cause.1
store_left name before now (Damaged file at) cause = absurd cause
store_left name before now Disk cause = inr (inl refl)
store_left name before now (Full end need) cause = absurd cause
store_left name before now (Long size limit) cause = absurd cause
store_left name before now Memory cause = inl cause.steady

make_left : (name : List ℕ) (user : Name) (before now : Seen) (old new : Output) (fault : Fault) → MakeCause name user before now old new fault → DiskLeft before now fault
make_left name user before now old new Words cause = absurd cause
make_left name user before now old new (Database fault) cause = store_left name before now fault cause.0
make_left name user before now old new Source cause = absurd cause
make_left name user before now old new TooLong cause = absurd cause
make_left name user before now old new (Script at) cause = absurd cause
make_left name user before now old new (Statement number fault) cause = absurd cause
make_left name user before now old new Sink cause = inl cause.0.steady
make_left name user before now old new Mail cause = absurd cause

show_left : (name : List ℕ) (before now : Seen) (old new : Output) (fault : Fault) → ShowCause name before now old new fault → DiskLeft before now fault
show_left name before now old new Words cause = absurd cause
show_left name before now old new (Database fault) cause = opened_left before now fault cause.0
show_left name before now old new Source cause = absurd cause
show_left name before now old new TooLong cause = absurd cause
show_left name before now old new (Script at) cause = absurd cause
show_left name before now old new (Statement number fault) cause = absurd cause
show_left name before now old new Sink cause = inl cause.is.steady
show_left name before now old new Mail cause = absurd cause

-- ---- a script

unbroken : (new : View) (before now : Seen) (broken : List Recorded) → IsBroken broken new before now → broken ≡ [] → now.disk_faults ≡ before.disk_faults
unbroken new before now broken state none = (subst (λ (l : List Recorded). IsBroken l new before now) none state).1

module _ (name : List ℕ) (old new : Outside) where
  ran_left : (count : ℕ) → RanOn name old new (Ok count) → new.site.disk_faults ≡ old.site.disk_faults
  ran_left count on = unbroken on.view' on.opened new.site on.ran.broken on.ran.reached.state on.ran.ends.0.none ∙ on.is.steady

  script_left : (why : SessionFault) → RanOn name old new (Err why) → DiskLeft old.site new.site (fault_of why)
  script_left (session.Statement number fault) on = inl (unbroken on.view' on.opened new.site on.ran.broken on.ran.reached.state on.ran.ends.0.none ∙ on.is.steady)
  script_left (session.Store Missing) on = absurd on.ran.ends
  script_left (session.Store Exists) on = absurd on.ran.ends
  script_left (session.Store (Damaged file at)) on = absurd on.ran.ends
  script_left (session.Store Disk) on = inr (inl refl)
  script_left (session.Store (Full end need)) on = inl (unbroken on.view' on.opened new.site on.ran.broken on.ran.reached.state on.ran.ends.0 ∙ on.is.steady)
  script_left (session.Store (Long size limit)) on = inl (unbroken on.view' on.opened new.site on.ran.broken on.ran.reached.state on.ran.ends.0 ∙ on.is.steady)
  script_left (session.Store Memory) on = absurd on.ran.ends
  script_left session.Sink on = inr (inr refl)
  script_left session.Memory on = inl (unbroken on.view' on.opened new.site on.ran.broken on.ran.reached.state on.ran.ends.0 ∙ on.is.steady)

  begin_left : (fault : Fault) → BeginCause name old new fault → DiskLeft old.site new.site fault
  begin_left Words cause = absurd cause
  begin_left (Database fault) cause = opened_left old.site new.site fault cause.0
  begin_left Source cause = inl cause.1.is.steady
  begin_left TooLong cause = inl cause.2.is.steady
  begin_left (Script at) cause = inl cause.1.is.steady
  begin_left (Statement number fault) cause = absurd cause
  begin_left Sink cause = absurd cause
  begin_left Mail cause = absurd cause

  sql_left : (fault : Fault) → Stopped name old new fault → DiskLeft old.site new.site fault
  sql_left fault (inl before) = begin_left fault before.cause
  sql_left fault (inr after) = subst (λ (f : Fault). DiskLeft old.site new.site f) (sym after.fault_is) (script_left after.why after.ran)

-- ---- the agent

module _ (name mail : List ℕ) (options : Options) (old new : Outside) where
  agent_left : (why : AgentFault) → AgentRan name mail options old new (Err why) → DiskLeft old.site new.site (fault_of_agent why)
  agent_left agent.Disk on = inr (inl refl)
  agent_left agent.Mail on = inl (on.ran.ended.counts.1 ∙ on.is.steady)
  agent_left agent.Sink on = inr (inr refl)
  agent_left (agent.Full end need) on = inl (on.ran.ended.counts.0 ∙ on.is.steady)
  agent_left (agent.Long size limit) on = inl (on.ran.ended.counts.0 ∙ on.is.steady)
  agent_left agent.Memory on = inl (on.ran.ended.counts.0 ∙ on.is.steady)

  agent_mail : (why : AgentFault) → AgentRan name mail options old new (Err why) → MailLeft old.site new.site (fault_of_agent why)
  agent_mail agent.Disk on = inl (on.ran.ended.counts.1 ∙ on.is.no_mail.mail_faults)
  agent_mail agent.Mail on = inr (inl refl)
  agent_mail agent.Sink on = inr (inr refl)
  agent_mail (agent.Full end need) on = inl (on.ran.ended.counts.1 ∙ on.is.no_mail.mail_faults)
  agent_mail (agent.Long size limit) on = inl (on.ran.ended.counts.1 ∙ on.is.no_mail.mail_faults)
  agent_mail agent.Memory on = inl (on.ran.ended.counts.1 ∙ on.is.no_mail.mail_faults)

  stopped_left : (fault : Fault) → AgentStopped name mail options old new fault → DiskLeft old.site new.site fault
  stopped_left fault (unopened why is left) = subst (λ (f : Fault). DiskLeft old.site new.site f) (sym is) (opened_left old.site new.site why left.cause)
  stopped_left fault (stopped why is on) = subst (λ (f : Fault). DiskLeft old.site new.site f) (sym is) (agent_left why on)

  stopped_mail : (fault : Fault) → AgentStopped name mail options old new fault → MailLeft old.site new.site fault
  stopped_mail fault (unopened why is left) = inl left.no_mail.mail_faults
  stopped_mail fault (stopped why is on) = subst (λ (f : Fault). MailLeft old.site new.site f) (sym is) (agent_mail why on)

-- ---- each order

quiet_mail : (old new : Outside) (status : ℕ) → DiskStays old.site new.site → TellsMail old new status
quiet_mail old new status stays = inl stays.mail_faults

init_disk : (name : List ℕ) (user : Name) (old new : Outside) (status : ℕ) → RanInit name user old new status → TellsDisk old new status
init_disk name user old new status ran = elim ran.ended [
  | inl made ↦ inl made.made.steady
  | inr by ↦ disk_told old new by.fault by.between new.output status by.line (make_left name user old.site new.site old.output by.between by.fault by.stopped)
]

sql_disk : (name : List ℕ) (old new : Outside) (status : ℕ) → RanSql name old new status → TellsDisk old new status
sql_disk name old new status ran = elim ran.ended [
  | inl all ↦ inl (ran_left name old new all.ran.count all.ran.ran)
  | inr by ↦ disk_told old new by.fault by.between new.output status by.line (sql_left name old (before_line new by.between) by.fault by.stopped)
]

show_disk : (name : List ℕ) (old new : Outside) (status : ℕ) → RanShow name old new status → TellsDisk old new status
show_disk name old new status ran = elim ran.ended [
  | inl all ↦ inl all.shown.is.steady
  | inr by ↦ disk_told old new by.fault by.between new.output status by.line (show_left name old.site new.site old.output by.between by.fault by.stopped)
]

agent_disk : (name mail : List ℕ) (options : Options) (old new : Outside) (status : ℕ) → RanAgentOrder name mail options old new status → TellsDisk old new status
agent_disk name mail options old new status ran = elim ran.ended [
  | inl done ↦ inl (done.ran.ran.ended.counts.0 ∙ done.ran.is.steady)
  | inr by ↦ disk_told old new by.fault by.between new.output status by.line (stopped_left name mail options old (before_line new by.between) by.fault by.stopped)
]

agent_told : (name mail : List ℕ) (options : Options) (old new : Outside) (status : ℕ) → RanAgentOrder name mail options old new status → TellsMail old new status
agent_told name mail options old new status ran = elim ran.ended [
  | inl done ↦ inl (done.ran.ran.ended.counts.1 ∙ done.ran.is.no_mail.mail_faults)
  | inr by ↦ mail_told old new by.fault by.between new.output status by.line (stopped_mail name mail options old (before_line new by.between) by.fault by.stopped)
]

order_disk : (order : Order) (old new : Outside) (status : ℕ) → RanOrder order old new status → TellsDisk old new status
order_disk (Init name user) old new status ran = init_disk name user old new status ran
order_disk (Sql name) old new status ran = sql_disk name old new status ran
order_disk (Show name) old new status ran = show_disk name old new status ran
order_disk (Agent name mail options) old new status ran = agent_disk name mail options old new status ran

order_mail : (order : Order) (old new : Outside) (status : ℕ) → RanOrder order old new status → TellsMail old new status
order_mail (Init name user) old new status ran = quiet_mail old new status ran.no_mail
order_mail (Sql name) old new status ran = quiet_mail old new status ran.no_mail
order_mail (Show name) old new status ran = quiet_mail old new status ran.no_mail
order_mail (Agent name mail options) old new status ran = agent_told name mail options old new status ran

pub tells : (order : Order) (old new : Outside) (status : ℕ) → RanOrder order old new status → TellsFaults old new status
tells order old new status ran = record { disk = order_disk order old new status ran; mail = order_mail order old new status ran }
