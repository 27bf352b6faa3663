-- What the status of a run tells.
use Rattle.std.proofs.Common.{◌≡◌, ◌≤◌, ℕ, List, [], ◌∷◌, zero, suc, Ok, Err, refl, sym, ap, ◌∙◌, subst, inl, inr, arith}
use Rattle.std.specs.Prelude.{◌≢◌, ◌⊎◌}
use Rattle.sr_agent.specs.declared.fault.AgentFault.{AgentFault}
use Rattle.sr_agent.specs.declared.fault.AgentFault.TheVariants as agent
use Rattle.sr_agent.specs.declared.options.Options.{Options}
use Rattle.sr_book.specs.Entries.{Name}
use Rattle.sr_database_files.specs.declared.fault.DatabaseFault.{DatabaseFault}
use Rattle.sr_database_files.specs.declared.fault.DatabaseFault.TheVariants.{Missing, Exists, Damaged, Disk, Full, Long, Memory}
use Rattle.sr_database.specs.Views.{View}
use Rattle.sr_database_history.specs.Recorded.{Recorded}
use Rattle.sr_catalog_schema.specs.declared.fault.DdlFault.{DdlFault}
use Rattle.sr_catalog_schema.specs.declared.fault.DdlFault.TheVariants as ddl
use Rattle.sr_session_script.specs.declared.refusal.Refusal.{Refusal}
use Rattle.sr_session_script.specs.declared.refusal.Refusal.TheVariants.{Ddl, Dml}
use Rattle.sr_database.specs.Broken.{IsBroken}
use Rattle.sr_session.specs.declared.fault.SessionFault.{SessionFault}
use Rattle.sr_session.specs.declared.fault.SessionFault.TheVariants as session
use Rattle.sr_site.specs.Causes.{Rose}
use Rattle.sr_site.specs.Seen.{Seen}
use Rattle.sr_site.specs.Streams.{Output}
use Rattle.dbremote_command.specs.Agents.{AgentDone, AgentRan, AgentStopped, unopened, stopped}
use Rattle.dbremote_command.specs.Faults.{fault_of_agent, status_of}
use Rattle.dbremote_command.specs.Outside.{Outside}
use Rattle.dbremote_command.specs.Making.{MakeCause}
use Rattle.dbremote_command.specs.Running.{OpenedCause, RanOn, Stopped, fault_of}
use Rattle.dbremote_command.specs.Runs.{Told, HasAlarms, RanAgentOrder, RanInit, RanSql, RanShow, IsRefused, RanOrder, before_line}
use Rattle.dbremote_command.specs.Showing.{ShowCause}
use Rattle.dbremote_command.specs.declared.fault.Fault.{Fault}
use Rattle.dbremote_command.specs.declared.fault.Fault.TheVariants.{Words, Database, Source, TooLong, Script, Statement, Sink, Mail}
use Rattle.dbremote_command.specs.declared.order.Order.{Order}
use Rattle.dbremote_command.specs.declared.order.Order.TheVariants.{Init, Sql, Agent, Show}

-- ---- which faults have a status

-- the faults by their statuses
data Sort (f : Fault) : Type 0 where
  words : f ≡ Words → Sort f
  disk : f ≡ Database Disk → Sort f
  source : f ≡ Source → Sort f
  sink : f ≡ Sink → Sort f
  mail : f ≡ Mail → Sort f
  low : 3 ≤ status_of f → status_of f ≤ 4 → Sort f
  high : 8 ≤ status_of f → Sort f

of_database : (d : DatabaseFault) → Sort (Database d)
of_database Missing = low (omega arith) (omega arith)
of_database Exists = low (omega arith) (omega arith)
of_database (Damaged file at) = low (omega arith) (omega arith)
of_database Disk = disk refl
of_database (Full end need) = high (omega arith)
of_database (Long size limit) = high (omega arith)
of_database Memory = high (omega arith)

of_ddl : (number : ℕ) (d : DdlFault) → Sort (Statement number (Ddl d))
of_ddl number (ddl.Exists name) = low (omega arith) (omega arith)
of_ddl number (ddl.Missing name) = low (omega arith) (omega arith)
of_ddl number (ddl.BadType name) = low (omega arith) (omega arith)
of_ddl number (ddl.NoKey table) = low (omega arith) (omega arith)
of_ddl number (ddl.KeyNotInArticle table column) = low (omega arith) (omega arith)
of_ddl number (ddl.TwiceSubscribed user table) = low (omega arith) (omega arith)
of_ddl number (ddl.InUse name) = low (omega arith) (omega arith)
of_ddl number (ddl.TooMany limit) = high (omega arith)
of_ddl number ddl.Memory = high (omega arith)

of_refusal : (number : ℕ) (r : Refusal) → Sort (Statement number r)
of_refusal number (Ddl d) = of_ddl number d
of_refusal number (Dml d) = low (omega arith) (omega arith)

sort : (f : Fault) → Sort f
sort Words = words refl
sort (Database d) = of_database d
sort Source = source refl
sort TooLong = high (omega arith)
sort (Script at) = low (omega arith) (omega arith)
sort (Statement number r) = of_refusal number r
sort Sink = sink refl
sort Mail = mail refl

status_is : (f g : Fault) → f ≡ g → status_of f ≡ status_of g
status_is f g is = ap status_of is

pub is_words : (f : Fault) → status_of f ≡ 2 → f ≡ Words
is_words f two = elim (sort f) [
  | words is ↦ is
  | disk is ↦ absurd (omega (arith, two, status_is f (Database Disk) is))
  | source is ↦ absurd (omega (arith, two, status_is f Source is))
  | sink is ↦ absurd (omega (arith, two, status_is f Sink is))
  | mail is ↦ absurd (omega (arith, two, status_is f Mail is))
  | low least most ↦ absurd (omega (arith, two, least))
  | high least ↦ absurd (omega (arith, two, least))
]

pub is_disk : (f : Fault) → status_of f ≡ 5 → f ≡ Database Disk
is_disk f five = elim (sort f) [
  | words is ↦ absurd (omega (arith, five, status_is f Words is))
  | disk is ↦ is
  | source is ↦ absurd (omega (arith, five, status_is f Source is))
  | sink is ↦ absurd (omega (arith, five, status_is f Sink is))
  | mail is ↦ absurd (omega (arith, five, status_is f Mail is))
  | low least most ↦ absurd (omega (arith, five, most))
  | high least ↦ absurd (omega (arith, five, least))
]

pub is_stream : (f : Fault) → status_of f ≡ 7 → (f ≡ Source) ⊎ (f ≡ Sink)
is_stream f seven = elim (sort f) [
  | words is ↦ absurd (omega (arith, seven, status_is f Words is))
  | disk is ↦ absurd (omega (arith, seven, status_is f (Database Disk) is))
  | source is ↦ inl is
  | sink is ↦ inr is
  | mail is ↦ absurd (omega (arith, seven, status_is f Mail is))
  | low least most ↦ absurd (omega (arith, seven, most))
  | high least ↦ absurd (omega (arith, seven, least))
]

pub not_one : (f : Fault) → status_of f ≢ 1
not_one f one = elim (sort f) [
  | words is ↦ omega (arith, one, status_is f Words is)
  | disk is ↦ omega (arith, one, status_is f (Database Disk) is)
  | source is ↦ omega (arith, one, status_is f Source is)
  | sink is ↦ omega (arith, one, status_is f Sink is)
  | mail is ↦ omega (arith, one, status_is f Mail is)
  | low least most ↦ omega (arith, one, least)
  | high least ↦ omega (arith, one, least)
]

pub not_zero : (f : Fault) → status_of f ≢ 0
not_zero f zero_is = elim (sort f) [
  | words is ↦ omega (arith, zero_is, status_is f Words is)
  | disk is ↦ omega (arith, zero_is, status_is f (Database Disk) is)
  | source is ↦ omega (arith, zero_is, status_is f Source is)
  | sink is ↦ omega (arith, zero_is, status_is f Sink is)
  | mail is ↦ omega (arith, zero_is, status_is f Mail is)
  | low least most ↦ omega (arith, zero_is, least)
  | high least ↦ omega (arith, zero_is, least)
]

pub is_mail : (f : Fault) → status_of f ≡ 6 → f ≡ Mail
is_mail f six = elim (sort f) [
  | words is ↦ absurd (omega (arith, six, status_is f Words is))
  | disk is ↦ absurd (omega (arith, six, status_is f (Database Disk) is))
  | source is ↦ absurd (omega (arith, six, status_is f Source is))
  | sink is ↦ absurd (omega (arith, six, status_is f Sink is))
  | mail is ↦ is
  | low least most ↦ absurd (omega (arith, six, most))
  | high least ↦ absurd (omega (arith, six, least))
]

-- ---- what ended a run

-- the fault that was told, where its status is not that of want of memory
told_fault : (fault : Fault) (between now : Output) (status : ℕ) (line : Told fault between now status) → status_of line.told ≢ 8 → line.told ≡ fault
told_fault fault between now status line other = elim line.told_is [
  | inl is ↦ is
  | inr want ↦ absurd (other (status_is line.told (Database Memory) want.0))
]

pub told_words : (fault : Fault) (between now : Output) (status : ℕ) → Told fault between now status → status ≡ 2 → fault ≡ Words
told_words fault between now status line two =
    let is = is_words line.told (sym line.status_is ∙ two) in
    sym (told_fault fault between now status line (λ eight. omega (arith, eight, line.status_is, two))) ∙ is

told_disk : (fault : Fault) (between now : Output) (status : ℕ) → Told fault between now status → status ≡ 5 → fault ≡ Database Disk
told_disk fault between now status line five =
    let is = is_disk line.told (sym line.status_is ∙ five) in
    sym (told_fault fault between now status line (λ eight. omega (arith, eight, line.status_is, five))) ∙ is

told_stream : (fault : Fault) (between now : Output) (status : ℕ) → Told fault between now status → status ≡ 7 → (fault ≡ Source) ⊎ (fault ≡ Sink)
told_stream fault between now status line seven =
    let same = sym (told_fault fault between now status line (λ eight. omega (arith, eight, line.status_is, seven))) in
    elim (is_stream line.told (sym line.status_is ∙ seven)) [
      | inl is ↦ inl (same ∙ is)
      | inr is ↦ inr (same ∙ is)
    ]

told_mail : (fault : Fault) (between now : Output) (status : ℕ) → Told fault between now status → status ≡ 6 → fault ≡ Mail
told_mail fault between now status line six =
    let is = is_mail line.told (sym line.status_is ∙ six) in
    sym (told_fault fault between now status line (λ eight. omega (arith, eight, line.status_is, six))) ∙ is

pub told_never_one : (fault : Fault) (between now : Output) (status : ℕ) → Told fault between now status → status ≢ 1
told_never_one fault between now status line one = not_one line.told (sym line.status_is ∙ one)

pub told_never_zero : (fault : Fault) (between now : Output) (status : ℕ) → Told fault between now status → status ≢ 0
told_never_zero fault between now status line zero_is = not_zero line.told (sym line.status_is ∙ zero_is)

rose_on : (before middle after : ℕ) → Rose before middle → middle ≤ after → Rose before after
rose_on before middle after rose later = omega (arith, rose, later)

-- ---- of `init`

module _ (name : List ℕ) (user : Name) (old new : Outside) (status : ℕ) (ran : RanInit name user old new status) where
  init_no_words : status ≢ 2
  init_no_words two = elim ran.ended [
    | inl all ↦ omega (arith, all.status_is, two)
    | inr by ↦ subst (λ (f : Fault). MakeCause name user old.site new.site old.output by.between f) (told_words by.fault by.between new.output status by.line two) by.stopped
  ]

  init_disk : status ≡ 5 → Rose old.site.disk_faults new.site.disk_faults
  init_disk five = elim ran.ended [
    | inl all ↦ absurd (omega (arith, all.status_is, five))
    | inr by ↦ (subst (λ (f : Fault). MakeCause name user old.site new.site old.output by.between f) (told_disk by.fault by.between new.output status by.line five) by.stopped).0
  ]

  init_stream : status ≡ 7 → Rose old.output.faults new.output.faults
  init_stream seven = elim ran.ended [
    | inl all ↦ absurd (omega (arith, all.status_is, seven))
    | inr by ↦ elim (told_stream by.fault by.between new.output status by.line seven) [
      | inl is ↦ absurd (subst (λ (f : Fault). MakeCause name user old.site new.site old.output by.between f) is by.stopped)
      | inr is ↦ rose_on old.output.faults by.between.faults new.output.faults (subst (λ (f : Fault). MakeCause name user old.site new.site old.output by.between f) is by.stopped).1.rose by.line.stays.later
    ]
  ]

  init_no_mail : status ≢ 6
  init_no_mail six = elim ran.ended [
    | inl all ↦ omega (arith, all.status_is, six)
    | inr by ↦ subst (λ (f : Fault). MakeCause name user old.site new.site old.output by.between f) (told_mail by.fault by.between new.output status by.line six) by.stopped
  ]

  init_not_one : status ≢ 1
  init_not_one one = elim ran.ended [
    | inl all ↦ omega (arith, all.status_is, one)
    | inr by ↦ told_never_one by.fault by.between new.output status by.line one
  ]

-- ---- of `sql`

-- the fault of a script's run, where it is that of the disk or of the sink
disk_of : (why : SessionFault) → Database Disk ≡ fault_of why → why ≡ session.Store Disk
disk_of (session.Statement number r) is = cc
disk_of (session.Store d) is = cc
disk_of session.Sink is = cc
disk_of session.Memory is = cc

sink_of : (why : SessionFault) → Sink ≡ fault_of why → why ≡ session.Sink
sink_of (session.Statement number r) is = cc
sink_of (session.Store d) is = cc
sink_of session.Sink is = refl
sink_of session.Memory is = cc

no_words_of : (why : SessionFault) → Words ≡ fault_of why → ⊥
no_words_of (session.Statement number r) is = cc
no_words_of (session.Store d) is = cc
no_words_of session.Sink is = cc
no_words_of session.Memory is = cc

no_source_of : (why : SessionFault) → Source ≡ fault_of why → ⊥
no_source_of (session.Statement number r) is = cc
no_source_of (session.Store d) is = cc
no_source_of session.Sink is = cc
no_source_of session.Memory is = cc

no_mail_of : (why : SessionFault) → Mail ≡ fault_of why → ⊥
no_mail_of (session.Statement number r) is = cc
no_mail_of (session.Store d) is = cc
no_mail_of session.Sink is = cc
no_mail_of session.Memory is = cc

-- the disk's count rose where a commit was refused
rose_of : (broken : List Recorded) (entry : Recorded) (new : View) (before now : Seen) → broken ≡ entry ∷ [] → IsBroken broken new before now → Rose before.disk_faults now.disk_faults
rose_of broken entry new before now is state = (subst (λ (rs : List Recorded). IsBroken rs new before now) is state).1

after_disk : (name : List ℕ) (old new : Outside) → RanOn name old new (Err (session.Store Disk)) → Rose old.site.disk_faults new.site.disk_faults
after_disk name old new on = subst (λ (n : ℕ). Rose n new.site.disk_faults) on.is.steady
    (rose_of on.ran.broken on.ran.ends.entry on.view' on.opened new.site on.ran.ends.why on.ran.reached.state)

stopped_words : (name : List ℕ) (old new : Outside) → Stopped name old new Words → ⊥
stopped_words name old new (inl before) = before.cause
stopped_words name old new (inr after) = no_words_of after.why after.fault_is

stopped_disk : (name : List ℕ) (old new : Outside) → Stopped name old new (Database Disk) → Rose old.site.disk_faults new.site.disk_faults
stopped_disk name old new (inl before) = before.cause.0
stopped_disk name old new (inr after) = after_disk name old new (subst (λ (w : SessionFault). RanOn name old new (Err w)) (disk_of after.why after.fault_is) after.ran)

stopped_source : (name : List ℕ) (old new : Outside) → Stopped name old new Source → Rose old.input.faults new.input.faults
stopped_source name old new (inl before) = before.cause.0
stopped_source name old new (inr after) = absurd (no_source_of after.why after.fault_is)

stopped_sink : (name : List ℕ) (old new : Outside) → Stopped name old new Sink → Rose old.output.faults new.output.faults
stopped_sink name old new (inl before) = absurd before.cause
stopped_sink name old new (inr after) = (subst (λ (w : SessionFault). RanOn name old new (Err w)) (sink_of after.why after.fault_is) after.ran).ran.sink

stopped_mail : (name : List ℕ) (old new : Outside) → Stopped name old new Mail → ⊥
stopped_mail name old new (inl before) = before.cause
stopped_mail name old new (inr after) = no_mail_of after.why after.fault_is

module _ (name : List ℕ) (old new : Outside) (status : ℕ) (ran : RanSql name old new status) where
  sql_no_words : status ≢ 2
  sql_no_words two = elim ran.ended [
    | inl all ↦ omega (arith, all.status_is, two)
    | inr by ↦ stopped_words name old (before_line new by.between) (subst (Stopped name old (before_line new by.between)) (told_words by.fault by.between new.output status by.line two) by.stopped)
  ]

  sql_disk : status ≡ 5 → Rose old.site.disk_faults new.site.disk_faults
  sql_disk five = elim ran.ended [
    | inl all ↦ absurd (omega (arith, all.status_is, five))
    | inr by ↦ stopped_disk name old (before_line new by.between) (subst (Stopped name old (before_line new by.between)) (told_disk by.fault by.between new.output status by.line five) by.stopped)
  ]

  sql_stream : status ≡ 7 → Rose old.input.faults new.input.faults ⊎ Rose old.output.faults new.output.faults
  sql_stream seven = elim ran.ended [
    | inl all ↦ absurd (omega (arith, all.status_is, seven))
    | inr by ↦ elim (told_stream by.fault by.between new.output status by.line seven) [
      | inl is ↦ inl (stopped_source name old (before_line new by.between) (subst (Stopped name old (before_line new by.between)) is by.stopped))
      | inr is ↦ inr (rose_on old.output.faults by.between.faults new.output.faults
          (stopped_sink name old (before_line new by.between) (subst (Stopped name old (before_line new by.between)) is by.stopped)) by.line.stays.later)
    ]
  ]

  sql_no_mail : status ≢ 6
  sql_no_mail six = elim ran.ended [
    | inl all ↦ omega (arith, all.status_is, six)
    | inr by ↦ stopped_mail name old (before_line new by.between) (subst (Stopped name old (before_line new by.between)) (told_mail by.fault by.between new.output status by.line six) by.stopped)
  ]

  sql_not_one : status ≢ 1
  sql_not_one one = elim ran.ended [
    | inl all ↦ omega (arith, all.status_is, one)
    | inr by ↦ told_never_one by.fault by.between new.output status by.line one
  ]

-- ---- of `agent`

zero_or_not : (n : ℕ) → (n ≡ 0) ⊎ (n ≢ 0)
zero_or_not zero = inl refl
zero_or_not (suc n) = inr (λ is. omega (arith, is))

database_disk : (why : DatabaseFault) → Database Disk ≡ Database why → why ≡ Disk
database_disk Missing is = cc
database_disk Exists is = cc
database_disk (Damaged file at) is = cc
database_disk Disk is = refl
database_disk (Full end need) is = cc
database_disk (Long size limit) is = cc
database_disk Memory is = cc

agent_disk_of : (why : AgentFault) → Database Disk ≡ fault_of_agent why → why ≡ agent.Disk
agent_disk_of agent.Disk is = refl
agent_disk_of agent.Mail is = cc
agent_disk_of agent.Sink is = cc
agent_disk_of (agent.Full end need) is = cc
agent_disk_of (agent.Long size limit) is = cc
agent_disk_of agent.Memory is = cc

agent_mail_of : (why : AgentFault) → Mail ≡ fault_of_agent why → why ≡ agent.Mail
agent_mail_of agent.Disk is = cc
agent_mail_of agent.Mail is = refl
agent_mail_of agent.Sink is = cc
agent_mail_of (agent.Full end need) is = cc
agent_mail_of (agent.Long size limit) is = cc
agent_mail_of agent.Memory is = cc

agent_sink_of : (why : AgentFault) → Sink ≡ fault_of_agent why → why ≡ agent.Sink
agent_sink_of agent.Disk is = cc
agent_sink_of agent.Mail is = cc
agent_sink_of agent.Sink is = refl
agent_sink_of (agent.Full end need) is = cc
agent_sink_of (agent.Long size limit) is = cc
agent_sink_of agent.Memory is = cc

no_words_of_agent : (why : AgentFault) → Words ≡ fault_of_agent why → ⊥
no_words_of_agent agent.Disk is = cc
no_words_of_agent agent.Mail is = cc
no_words_of_agent agent.Sink is = cc
no_words_of_agent (agent.Full end need) is = cc
no_words_of_agent (agent.Long size limit) is = cc
no_words_of_agent agent.Memory is = cc

no_source_of_agent : (why : AgentFault) → Source ≡ fault_of_agent why → ⊥
no_source_of_agent agent.Disk is = cc
no_source_of_agent agent.Mail is = cc
no_source_of_agent agent.Sink is = cc
no_source_of_agent (agent.Full end need) is = cc
no_source_of_agent (agent.Long size limit) is = cc
no_source_of_agent agent.Memory is = cc

module _ (name mail : List ℕ) (options : Options) (old new : Outside) where
  agent_stopped_disk : AgentStopped name mail options old new (Database Disk) → Rose old.site.disk_faults new.site.disk_faults
  agent_stopped_disk (unopened why is left) = subst (λ (d : DatabaseFault). OpenedCause old.site new.site d) (database_disk why is) left.cause
  agent_stopped_disk (stopped why is on) =
      let then = subst (λ (w : AgentFault). AgentRan name mail options old new (Err w)) (agent_disk_of why is) on in
      subst (λ (n : ℕ). Rose n new.site.disk_faults) then.is.steady then.ran.ended.counts.0

  agent_stopped_mail : AgentStopped name mail options old new Mail → Rose old.site.mail_faults new.site.mail_faults
  agent_stopped_mail (unopened why is left) = cc
  agent_stopped_mail (stopped why is on) =
      let then = subst (λ (w : AgentFault). AgentRan name mail options old new (Err w)) (agent_mail_of why is) on in
      subst (λ (n : ℕ). Rose n new.site.mail_faults) then.is.no_mail.mail_faults then.ran.ended.counts.0

  agent_stopped_sink : AgentStopped name mail options old new Sink → Rose old.output.faults new.output.faults
  agent_stopped_sink (unopened why is left) = cc
  agent_stopped_sink (stopped why is on) = (subst (λ (w : AgentFault). AgentRan name mail options old new (Err w)) (agent_sink_of why is) on).ran.ended.counts

  agent_stopped_words : AgentStopped name mail options old new Words → ⊥
  agent_stopped_words (unopened why is left) = cc
  agent_stopped_words (stopped why is on) = no_words_of_agent why is

  agent_stopped_source : AgentStopped name mail options old new Source → ⊥
  agent_stopped_source (unopened why is left) = cc
  agent_stopped_source (stopped why is on) = no_source_of_agent why is

  -- a run to its end has the status 0 or 1
  done_least : (status : ℕ) → AgentDone name mail options old new status → (status ≡ 0) ⊎ (status ≡ 1)
  done_least status done = elim (zero_or_not done.count) [
    | inl none ↦ inl (done.none none)
    | inr some ↦ inr (done.some some)
  ]

  done_low : (status : ℕ) → AgentDone name mail options old new status → status ≤ 1
  done_low status done = elim (done_least status done) [
    | inl is ↦ omega (arith, is)
    | inr is ↦ omega (arith, is)
  ]

  done_amiss : (status : ℕ) → AgentDone name mail options old new status → status ≡ 1 → (count : ℕ) × (count ≢ 0) × AgentRan name mail options old new (Ok count)
  done_amiss status done one = (done.count, λ none. omega (arith, done.none none, one), done.ran)

module _ (name mail : List ℕ) (options : Options) (old new : Outside) (status : ℕ) (ran : RanAgentOrder name mail options old new status) where
  agent_no_words : status ≢ 2
  agent_no_words two = elim ran.ended [
    | inl done ↦ omega (arith, done_low name mail options old new status done, two)
    | inr by ↦ agent_stopped_words name mail options old (before_line new by.between)
        (subst (AgentStopped name mail options old (before_line new by.between)) (told_words by.fault by.between new.output status by.line two) by.stopped)
  ]

  agent_disk : status ≡ 5 → Rose old.site.disk_faults new.site.disk_faults
  agent_disk five = elim ran.ended [
    | inl done ↦ absurd (omega (arith, done_low name mail options old new status done, five))
    | inr by ↦ agent_stopped_disk name mail options old (before_line new by.between)
        (subst (AgentStopped name mail options old (before_line new by.between)) (told_disk by.fault by.between new.output status by.line five) by.stopped)
  ]

  agent_mail : status ≡ 6 → Rose old.site.mail_faults new.site.mail_faults
  agent_mail six = elim ran.ended [
    | inl done ↦ absurd (omega (arith, done_low name mail options old new status done, six))
    | inr by ↦ agent_stopped_mail name mail options old (before_line new by.between)
        (subst (AgentStopped name mail options old (before_line new by.between)) (told_mail by.fault by.between new.output status by.line six) by.stopped)
  ]

  agent_stream : status ≡ 7 → Rose old.output.faults new.output.faults
  agent_stream seven = elim ran.ended [
    | inl done ↦ absurd (omega (arith, done_low name mail options old new status done, seven))
    | inr by ↦ elim (told_stream by.fault by.between new.output status by.line seven) [
      | inl is ↦ absurd (agent_stopped_source name mail options old (before_line new by.between) (subst (AgentStopped name mail options old (before_line new by.between)) is by.stopped))
      | inr is ↦ rose_on old.output.faults by.between.faults new.output.faults
          (agent_stopped_sink name mail options old (before_line new by.between) (subst (AgentStopped name mail options old (before_line new by.between)) is by.stopped)) by.line.stays.later
    ]
  ]

  agent_amiss : status ≡ 1 → (count : ℕ) × (count ≢ 0) × AgentRan name mail options old new (Ok count)
  agent_amiss one = elim ran.ended [
    | inl done ↦ done_amiss name mail options old new status done one
    | inr by ↦ absurd (told_never_one by.fault by.between new.output status by.line one)
  ]

-- ---- of `show`

module _ (name : List ℕ) (old new : Outside) (status : ℕ) (ran : RanShow name old new status) where
  show_no_words : status ≢ 2
  show_no_words two = elim ran.ended [
    | inl all ↦ omega (arith, all.status_is, two)
    | inr by ↦ subst (λ (f : Fault). ShowCause name old.site new.site old.output by.between f) (told_words by.fault by.between new.output status by.line two) by.stopped
  ]

  show_disk : status ≡ 5 → Rose old.site.disk_faults new.site.disk_faults
  show_disk five = elim ran.ended [
    | inl all ↦ absurd (omega (arith, all.status_is, five))
    | inr by ↦ (subst (λ (f : Fault). ShowCause name old.site new.site old.output by.between f) (told_disk by.fault by.between new.output status by.line five) by.stopped).0
  ]

  show_stream : status ≡ 7 → Rose old.output.faults new.output.faults
  show_stream seven = elim ran.ended [
    | inl all ↦ absurd (omega (arith, all.status_is, seven))
    | inr by ↦ elim (told_stream by.fault by.between new.output status by.line seven) [
      | inl is ↦ absurd (subst (λ (f : Fault). ShowCause name old.site new.site old.output by.between f) is by.stopped)
      | inr is ↦ rose_on old.output.faults by.between.faults new.output.faults (subst (λ (f : Fault). ShowCause name old.site new.site old.output by.between f) is by.stopped).part.rose by.line.stays.later
    ]
  ]

  show_no_mail : status ≢ 6
  show_no_mail six = elim ran.ended [
    | inl all ↦ omega (arith, all.status_is, six)
    | inr by ↦ subst (λ (f : Fault). ShowCause name old.site new.site old.output by.between f) (told_mail by.fault by.between new.output status by.line six) by.stopped
  ]

  show_not_one : status ≢ 1
  show_not_one one = elim ran.ended [
    | inl all ↦ omega (arith, all.status_is, one)
    | inr by ↦ told_never_one by.fault by.between new.output status by.line one
  ]

-- ---- of runs

pub order_words : (order : Order) (old new : Outside) (status : ℕ) → RanOrder order old new status → status ≢ 2
order_words (Init name user) old new status ran = init_no_words name user old new status ran
order_words (Sql name) old new status ran = sql_no_words name old new status ran
order_words (Show name) old new status ran = show_no_words name old new status ran
order_words (Agent name folder options) old new status ran = agent_no_words name folder options old new status ran

pub order_disk : (order : Order) (old new : Outside) (status : ℕ) → RanOrder order old new status → status ≡ 5 → Rose old.site.disk_faults new.site.disk_faults
order_disk (Init name user) old new status ran = init_disk name user old new status ran
order_disk (Sql name) old new status ran = sql_disk name old new status ran
order_disk (Show name) old new status ran = show_disk name old new status ran
order_disk (Agent name folder options) old new status ran = agent_disk name folder options old new status ran

pub order_stream : (order : Order) (old new : Outside) (status : ℕ) → RanOrder order old new status → status ≡ 7 → Rose old.input.faults new.input.faults ⊎ Rose old.output.faults new.output.faults
order_stream (Init name user) old new status ran seven = inr (init_stream name user old new status ran seven)
order_stream (Sql name) old new status ran seven = sql_stream name old new status ran seven
order_stream (Show name) old new status ran seven = inr (show_stream name old new status ran seven)
order_stream (Agent name folder options) old new status ran seven = inr (agent_stream name folder options old new status ran seven)

pub order_mail : (order : Order) (old new : Outside) (status : ℕ) → RanOrder order old new status → status ≡ 6 → Rose old.site.mail_faults new.site.mail_faults
order_mail (Init name user) old new status ran six = absurd (init_no_mail name user old new status ran six)
order_mail (Sql name) old new status ran six = absurd (sql_no_mail name old new status ran six)
order_mail (Show name) old new status ran six = absurd (show_no_mail name old new status ran six)
order_mail (Agent name folder options) old new status ran six = agent_mail name folder options old new status ran six

pub order_amiss : (order : Order) (old new : Outside) (status : ℕ) → RanOrder order old new status → status ≡ 1 → HasAlarms order old new
order_amiss (Init name user) old new status ran one = init_not_one name user old new status ran one
order_amiss (Sql name) old new status ran one = sql_not_one name old new status ran one
order_amiss (Show name) old new status ran one = show_not_one name old new status ran one
order_amiss (Agent name folder options) old new status ran one = agent_amiss name folder options old new status ran one

-- words that are refused, and want of memory
pub refused_disk : (fault : Fault) (old new : Outside) (status : ℕ) → IsRefused fault old new status → status ≡ 5 → fault ≡ Database Disk
refused_disk fault old new status refused five = told_disk fault old.output new.output status refused.line five

pub refused_stream : (fault : Fault) (old new : Outside) (status : ℕ) → IsRefused fault old new status → status ≡ 7 → (fault ≡ Source) ⊎ (fault ≡ Sink)
refused_stream fault old new status refused seven = told_stream fault old.output new.output status refused.line seven

pub no_disk_words : Words ≡ Database Disk → ⊥
no_disk_words is = cc

pub no_disk_memory : Database Memory ≡ Database Disk → ⊥
no_disk_memory is = cc

pub no_words_memory : Database Memory ≡ Words → ⊥
no_words_memory is = cc

pub no_stream_words : (Words ≡ Source) ⊎ (Words ≡ Sink) → ⊥
no_stream_words (inl is) = cc
no_stream_words (inr is) = cc

pub no_stream_memory : (Database Memory ≡ Source) ⊎ (Database Memory ≡ Sink) → ⊥
no_stream_memory (inl is) = cc
no_stream_memory (inr is) = cc

pub refused_mail : (fault : Fault) (old new : Outside) (status : ℕ) → IsRefused fault old new status → status ≡ 6 → fault ≡ Mail
refused_mail fault old new status refused six = told_mail fault old.output new.output status refused.line six

pub no_mail_words : Words ≡ Mail → ⊥
no_mail_words is = cc

pub no_mail_memory : Database Memory ≡ Mail → ⊥
no_mail_memory is = cc
