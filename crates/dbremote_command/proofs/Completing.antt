-- How a run ends that nothing stands in the way of.
use Rattle.std.proofs.Common.{◌≡◌, ℕ, zero, suc, List, Ok, Err, refl, sym, ap, ◌∙◌, subst, inl, inr, arith}
use Rattle.std.specs.Prelude.{◌≢◌, ◌⊎◌, ⊤, IsTrue}
use Rattle.std.specs.Str.{IsUtf8}
use Rattle.sr_agent.specs.declared.fault.AgentFault.{AgentFault}
use Rattle.sr_agent.specs.declared.fault.AgentFault.TheVariants as agent
use Rattle.sr_agent.specs.declared.options.Options.{Options}
use Rattle.sr_ast.specs.declared.stmt.Stmt.{Stmt}
use Rattle.sr_book.specs.Entries.{Name}
use Rattle.sr_database.proofs.Commits.{committed_is}
use Rattle.sr_database.specs.Views.{committed}
use Rattle.sr_database_files.specs.declared.fault.DatabaseFault.{DatabaseFault}
use Rattle.sr_database_files.specs.declared.fault.DatabaseFault.TheVariants.{Missing, Exists, Damaged, Disk, Full, Long, Memory}
use Rattle.sr_parse_grammar.proofs.Meaning.{written_once}
use Rattle.sr_parse_grammar.specs.Meanings.{IsWritten}
use Rattle.sr_database_history.specs.Folds.{State, state_of}
use Rattle.sr_database_history.specs.Recorded.{Recorded}
use Rattle.sr_session_script.specs.Scripts.{End, ran, finished, refused}
use Rattle.sr_session_script.specs.declared.refusal.Refusal.{Refusal}
use Rattle.sr_session.specs.declared.fault.SessionFault.{SessionFault}
use Rattle.sr_session.specs.declared.fault.SessionFault.TheVariants as session
use Rattle.sr_site.specs.Files.{Files}
use Rattle.sr_site.specs.Seen.{Seen}
use Rattle.sr_site.specs.Streams.{Output}
use Rattle.sr_database_files.proofs.Damaged.{missing_is_none, damaged_is_none}
use Rattle.sr_database_files.specs.Damage.{IsMissing}
use Rattle.sr_database_meaning.specs.Standing.{StandsAs}
use Rattle.dbremote_command.proofs.Spelled.{not_refused}
use Rattle.dbremote_command.proofs.Statuses.{order_words, order_disk, order_stream, order_mail}
use Rattle.dbremote_command.specs.Agents.{AgentDone, AgentRan, AgentStopped, unopened, stopped}
use Rattle.dbremote_command.specs.Complete.{NoneFailed, AreDatabase, HoldsAccepted, IsLimit, HasLimit, EndedWell, whole, amiss, at_limit, no_memory, IsComplete}
use Rattle.dbremote_command.specs.Faults.{fault_of_agent, status_of}
use Rattle.dbremote_command.specs.Making.{MakeCause, StoreCause}
use Rattle.dbremote_command.specs.Outside.{Outside}
use Rattle.dbremote_command.specs.Running.{BeginCause, BreaksAt, OpenedCause, RanOn, Stopped, fault_of}
use Rattle.dbremote_command.specs.Runs.{EndedBy, RanInit, RanSql, RanShow, RanAgentOrder, RanOrder, Told, before_line}
use Rattle.dbremote_command.specs.Showing.{ShowCause}
use Rattle.dbremote_command.specs.declared.fault.Fault.{Fault}
use Rattle.dbremote_command.specs.declared.fault.Fault.TheVariants.{Words, Database, Source, TooLong, Script, Statement, Sink, Mail}
use Rattle.dbremote_command.specs.declared.order.Order.{Order}
use Rattle.dbremote_command.specs.declared.order.Order.TheVariants.{Init, Sql, Agent, Show}

-- ---- kinds of faults

-- the files refuse it
IsStoreRefusal : DatabaseFault → Type 0
IsStoreRefusal Missing = ⊤
IsStoreRefusal Exists = ⊤
IsStoreRefusal (Damaged file at) = ⊤
IsStoreRefusal Disk = ⊥
IsStoreRefusal (Full end need) = ⊥
IsStoreRefusal (Long size limit) = ⊥
IsStoreRefusal Memory = ⊥

-- what is there refuses it: the files, or the script
IsRefusal : Fault → Type 0
IsRefusal Words = ⊥
IsRefusal (Database fault) = IsStoreRefusal fault
IsRefusal Source = ⊥
IsRefusal TooLong = ⊥
IsRefusal (Script at) = ⊤
IsRefusal (Statement number fault) = ⊤
IsRefusal Sink = ⊥
IsRefusal Mail = ⊥

-- what a fault is: of the words or of a device; of what is there; of a limit; or of memory
data Kind (f : Fault) : Type 0 where
  words : status_of f ≡ 2 → Kind f
  disk : status_of f ≡ 5 → Kind f
  post : status_of f ≡ 6 → Kind f
  stream : status_of f ≡ 7 → Kind f
  there : IsRefusal f → Kind f
  capped : status_of f ≡ 9 → IsLimit f → Kind f
  want : status_of f ≡ 8 → Kind f

store_kind : (d : DatabaseFault) → Kind (Database d)
unfolding IsRefusal IsStoreRefusal
store_kind Missing = there tt
store_kind Exists = there tt
store_kind (Damaged file at) = there tt
store_kind Disk = disk refl
store_kind (Full end need) = capped refl tt
store_kind (Long size limit) = capped refl tt
store_kind Memory = want refl

kind : (f : Fault) → Kind f
unfolding IsRefusal
kind Words = words refl
kind (Database d) = store_kind d
kind Source = stream refl
kind TooLong = capped refl tt
kind (Script at) = there tt
kind (Statement number r) = there tt
kind Sink = stream refl
kind Mail = post refl

-- the status is that of the fault, unless there was no memory for its line
pub told_status : (fault : Fault) (between now : Output) (status : ℕ) → Told fault between now status → (status ≡ status_of fault) ⊎ (status ≡ 8)
told_status fault between now status line = elim line.told_is [
  | inl is ↦ inl (line.status_is ∙ ap status_of is)
  | inr none ↦ inr (line.status_is ∙ ap status_of none.0)
]

-- ---- an order that a fault ended

module _ (order : Order) (old new : Outside) (status : ℕ) (ran : RanOrder order old new status) (none : NoneFailed old new) where
  no_stream : status ≡ 7 → ⊥
  no_stream seven = elim (order_stream order old new status ran seven) [
    | inl rose ↦ none.source rose
    | inr rose ↦ none.sink rose
  ]

  by_kind : (fault : Fault) → status ≡ status_of fault → (IsRefusal fault → ⊥) → (IsLimit fault → HasLimit order old new) → Kind fault → EndedWell order old new status
  by_kind fault is may met (words two) = absurd (order_words order old new status ran (is ∙ two))
  by_kind fault is may met (disk five) = absurd (none.disk (order_disk order old new status ran (is ∙ five)))
  by_kind fault is may met (post six) = absurd (none.mail (order_mail order old new status ran (is ∙ six)))
  by_kind fault is may met (stream seven) = absurd (no_stream (is ∙ seven))
  by_kind fault is may met (there refuses) = absurd (may refuses)
  by_kind fault is may met (capped nine which) = at_limit (is ∙ nine) (met which)
  by_kind fault is may met (want eight) = no_memory (is ∙ eight)

  -- where what is there refuses nothing, a limit or want of memory ended it
  ended : (stops : Outside → Fault → Type 0) (by : EndedBy stops new status) → (IsRefusal by.fault → ⊥) → (IsLimit by.fault → HasLimit order old new) → EndedWell order old new status
  ended stops by may met = elim (told_status by.fault by.between new.output status by.line) [
    | inl is ↦ by_kind by.fault is may met (kind by.fault)
    | inr eight ↦ no_memory eight
  ]

-- ---- of files

module _ (before now : Seen) (told : IsTrue before.observable) where
  make_refuses : (name : List ℕ) → IsMissing before.files → (d : DatabaseFault) → StoreCause name before now d → IsStoreRefusal d → ⊥
  unfolding IsStoreRefusal
  make_refuses name missing Missing cause refuses = cause
  make_refuses name missing Exists cause refuses = (cause.0 told).0 missing
  make_refuses name missing (Damaged file at) cause refuses = cause
  make_refuses name missing Disk cause refuses = refuses
  make_refuses name missing (Full end need) cause refuses = refuses
  make_refuses name missing (Long size limit) cause refuses = refuses
  make_refuses name missing Memory cause refuses = refuses

  open_refuses : AreDatabase before.files → (d : DatabaseFault) → OpenedCause before now d → IsStoreRefusal d → ⊥
  unfolding IsStoreRefusal
  open_refuses are Missing cause refuses = missing_is_none are.publisher are.es are.stand.base before.files are.stand.stands (cause.0 told)
  open_refuses are Exists cause refuses = cause
  open_refuses are (Damaged file at) cause refuses = damaged_is_none are.publisher are.es are.stand.base at file before.files are.stand.stands (cause.0 told)
  open_refuses are Disk cause refuses = refuses
  open_refuses are (Full end need) cause refuses = refuses
  open_refuses are (Long size limit) cause refuses = refuses
  open_refuses are Memory cause refuses = refuses

-- ---- of `init`

module _ (name : List ℕ) (user : Name) (before now : Seen) (written written' : Output) (told : IsTrue before.observable) (missing : IsMissing before.files) where
  init_refuses : (f : Fault) → MakeCause name user before now written written' f → IsRefusal f → ⊥
  unfolding IsRefusal
  init_refuses Words cause refuses = cause
  init_refuses (Database d) cause refuses = make_refuses before now told name missing d cause.0 refuses
  init_refuses Source cause refuses = cause
  init_refuses TooLong cause refuses = cause
  init_refuses (Script at) cause refuses = cause
  init_refuses (Statement number r) cause refuses = cause
  init_refuses Sink cause refuses = refuses
  init_refuses Mail cause refuses = cause

  make_bound : (d : DatabaseFault) → StoreCause name before now d → IsLimit (Database d) → ⊥
  make_bound Missing cause bound = bound
  make_bound Exists cause bound = bound
  make_bound (Damaged file at) cause bound = bound
  make_bound Disk cause bound = bound
  make_bound (Full end need) cause bound = cause
  make_bound (Long size limit) cause bound = cause
  make_bound Memory cause bound = bound

  init_bound : (f : Fault) → MakeCause name user before now written written' f → IsLimit f → ⊥
  init_bound Words cause bound = bound
  init_bound (Database d) cause bound = make_bound d cause.0 bound
  init_bound Source cause bound = bound
  init_bound TooLong cause bound = cause
  init_bound (Script at) cause bound = bound
  init_bound (Statement number r) cause bound = bound
  init_bound Sink cause bound = bound
  init_bound Mail cause bound = bound

init_done : (name : List ℕ) (user : Name) (old new : Outside) (status : ℕ) → RanInit name user old new status → IsComplete (Init name user) old new status
init_done name user old new status ran told missing none = elim ran.ended [
  | inl made ↦ whole made.status_is (record { status_is = refl; made = made.made; said = made.said; steady = made.steady })
  | inr by ↦ ended (Init name user) old new status ran none (λ now fault. MakeCause name user old.site now.site old.output now.output fault) by
      (init_refuses name user old.site new.site old.output by.between told missing by.fault by.stopped)
      (λ bound. init_bound name user old.site new.site old.output by.between told missing by.fault by.stopped bound)
]

-- ---- of `show`

module _ (name : List ℕ) (before now : Seen) (written written' : Output) (told : IsTrue before.observable) (are : AreDatabase before.files) where
  show_refuses : (f : Fault) → ShowCause name before now written written' f → IsRefusal f → ⊥
  unfolding IsRefusal
  show_refuses Words cause refuses = cause
  show_refuses (Database d) cause refuses = open_refuses before now told are d cause.0 refuses
  show_refuses Source cause refuses = cause
  show_refuses TooLong cause refuses = cause
  show_refuses (Script at) cause refuses = cause
  show_refuses (Statement number r) cause refuses = cause
  show_refuses Sink cause refuses = refuses
  show_refuses Mail cause refuses = cause

  open_bound : (d : DatabaseFault) → OpenedCause before now d → IsLimit (Database d) → ⊥
  open_bound Missing cause bound = bound
  open_bound Exists cause bound = bound
  open_bound (Damaged file at) cause bound = bound
  open_bound Disk cause bound = bound
  open_bound (Full end need) cause bound = cause
  open_bound (Long size limit) cause bound = cause
  open_bound Memory cause bound = bound

  show_bound : (f : Fault) → ShowCause name before now written written' f → IsLimit f → ⊥
  show_bound Words cause bound = bound
  show_bound (Database d) cause bound = open_bound d cause.0 bound
  show_bound Source cause bound = bound
  show_bound TooLong cause bound = cause
  show_bound (Script at) cause bound = bound
  show_bound (Statement number r) cause bound = bound
  show_bound Sink cause bound = bound
  show_bound Mail cause bound = bound

show_done : (name : List ℕ) (old new : Outside) (status : ℕ) → RanShow name old new status → IsComplete (Show name) old new status
show_done name old new status ran told are none = elim ran.ended [
  | inl shown ↦ whole shown.status_is shown.shown
  | inr by ↦ ended (Show name) old new status ran none (λ now fault. ShowCause name old.site now.site old.output now.output fault) by
      (show_refuses name old.site new.site old.output by.between told are by.fault by.stopped)
      (λ bound. show_bound name old.site new.site old.output by.between told are by.fault by.stopped bound)
]

-- ---- of `sql`

-- a text that spells a script breaks at no byte
unbroken : (text : List ℕ) (statements : List Stmt) (at : ℕ) → IsUtf8 text → IsWritten text statements → BreaksAt text at → ⊥
unbroken text statements at is written (inl no_text) = no_text.0 is
unbroken text statements at is written (inr stuck) = not_refused text at statements written stuck.1

never_both : (number : ℕ) (r : Refusal) (end : End) → end ≡ refused number r → end ≡ finished → ⊥
never_both number r end is done = let clash : refused number r ≡ finished = sym is ∙ done in cc

database_of : (publisher : Name) (es : List Recorded) (files : Files) → StandsAs publisher es files → AreDatabase files
database_of publisher es files stand = record { publisher = publisher; es = es; stand = stand }

module _ (name : List ℕ) (old : Outside) (told : IsTrue old.site.observable) (holds : HoldsAccepted old) where
  begin_refuses : (now : Outside) (f : Fault) → BeginCause name old now f → IsRefusal f → ⊥
  unfolding IsRefusal
  begin_refuses now Words cause refuses = cause
  begin_refuses now (Database d) cause refuses = open_refuses old.site now.site told (database_of holds.publisher holds.es old.site.files holds.stand) d cause.0 refuses
  begin_refuses now Source cause refuses = refuses
  begin_refuses now TooLong cause refuses = refuses
  begin_refuses now (Script at) cause refuses =
      unbroken cause.0.text holds.statements at (subst IsUtf8 (cause.0.read.was holds.script.told) holds.script.text)
      (subst (λ (l : List ℕ). IsWritten l holds.statements) (cause.0.read.was holds.script.told) holds.script.written) cause.0.why
  begin_refuses now (Statement number r) cause refuses = cause
  begin_refuses now Sink cause refuses = cause
  begin_refuses now Mail cause refuses = cause

  -- the script that ran is the one that the source held, and it ran on what the history comes to
  ran_accepted : (now : Outside) (why : SessionFault) (on : RanOn name old now (Err why)) → (ran (committed on.view) on.statements).end ≡ finished
  ran_accepted now why on =
      let database = (on.is.history told).each holds.publisher holds.es holds.stand in
      let state : committed on.view ≡ state_of holds.publisher holds.es = committed_is on.view holds.publisher holds.es database.is in
      let script : on.statements ≡ holds.statements =
      written_once old.input.left on.statements holds.statements (subst (λ (l : List ℕ). IsWritten l on.statements) (sym (on.script.read.was holds.script.told)) on.script.written) holds.script.written in
      ap (λ (s : State). (ran s on.statements).end) state ∙ ap (λ (l : List Stmt). (ran (state_of holds.publisher holds.es) l).end) script ∙ holds.accepted

  after_refuses : (now : Outside) (why : SessionFault) → RanOn name old now (Err why) → IsRefusal (fault_of why) → ⊥
  unfolding IsRefusal IsStoreRefusal
  after_refuses now (session.Statement number r) on refuses = never_both number r (ran (committed on.view) on.statements).end on.ran.ends.1 (ran_accepted now (session.Statement number r) on)
  after_refuses now (session.Store Missing) on refuses = on.ran.ends
  after_refuses now (session.Store Exists) on refuses = on.ran.ends
  after_refuses now (session.Store (Damaged file at)) on refuses = on.ran.ends
  after_refuses now (session.Store Disk) on refuses = refuses
  after_refuses now (session.Store (Full end need)) on refuses = refuses
  after_refuses now (session.Store (Long size limit)) on refuses = refuses
  after_refuses now (session.Store Memory) on refuses = refuses
  after_refuses now session.Sink on refuses = refuses
  after_refuses now session.Memory on refuses = refuses

  sql_refuses : (now : Outside) (f : Fault) → Stopped name old now f → IsRefusal f → ⊥
  sql_refuses now f (inl before) refuses = begin_refuses now f before.cause refuses
  sql_refuses now f (inr after) refuses = after_refuses now after.why after.ran (subst IsRefusal after.fault_is refuses)

sql_done : (name : List ℕ) (old new : Outside) (status : ℕ) → RanSql name old new status → IsComplete (Sql name) old new status
sql_done name old new status ran told holds none = elim ran.ended [
  | inl done ↦ whole done.status_is done.ran
  | inr by ↦ ended (Sql name) old new status ran none (Stopped name old) by (sql_refuses name old told holds (before_line new by.between) by.fault by.stopped)
      (λ bound. record { fault = by.fault; between = by.between; limit = bound; stopped = by.stopped })
]

-- ---- of `agent`

no_agent_refusal : (why : AgentFault) → IsRefusal (fault_of_agent why) → ⊥
unfolding IsRefusal IsStoreRefusal
no_agent_refusal agent.Disk refuses = refuses
no_agent_refusal agent.Mail refuses = refuses
no_agent_refusal agent.Sink refuses = refuses
no_agent_refusal (agent.Full end need) refuses = refuses
no_agent_refusal (agent.Long size limit) refuses = refuses
no_agent_refusal agent.Memory refuses = refuses

store_refusal : (f : Fault) (d : DatabaseFault) → f ≡ Database d → IsRefusal f → IsStoreRefusal d
unfolding IsRefusal
store_refusal f d is refuses = subst IsRefusal is refuses

agent_refuses : (name mail : List ℕ) (options : Options) (old now : Outside) (f : Fault) → IsTrue old.site.observable → AreDatabase old.site.files → AgentStopped name mail options old now f → IsRefusal f → ⊥
agent_refuses name mail options old now f told are (unopened why is left) refuses = open_refuses old.site now.site told are why left.cause (store_refusal f why is refuses)
agent_refuses name mail options old now f told are (stopped why is on) refuses = no_agent_refusal why (subst IsRefusal is refuses)

none_or_some : (n : ℕ) → (n ≡ 0) ⊎ (n ≢ 0)
none_or_some zero = inl refl
none_or_some (suc n) = inr (λ is. omega (arith, is))

agent_went : (name mail : List ℕ) (options : Options) (old new : Outside) (status : ℕ) → AgentDone name mail options old new status → EndedWell (Agent name mail options) old new status
agent_went name mail options old new status done = elim (none_or_some done.count) [
  | inl none ↦ whole (done.none none) (subst (λ (n : ℕ). AgentRan name mail options old new (Ok n)) none done.ran)
  | inr some ↦ amiss (done.some some) (done.count, some, done.ran)
]

agent_is_done : (name mail : List ℕ) (options : Options) (old new : Outside) (status : ℕ) → RanAgentOrder name mail options old new status → IsComplete (Agent name mail options) old new status
agent_is_done name mail options old new status ran told are none = elim ran.ended [
  | inl done ↦ agent_went name mail options old new status done
  | inr by ↦ ended (Agent name mail options) old new status ran none (AgentStopped name mail options old) by
      (agent_refuses name mail options old (before_line new by.between) by.fault told are by.stopped) (λ bound. record { fault = by.fault; between = by.between; limit = bound; stopped = by.stopped })
]

-- ---- of runs

pub is_complete : (order : Order) (old new : Outside) (status : ℕ) → RanOrder order old new status → IsComplete order old new status
is_complete (Init name user) old new status ran told meets none = init_done name user old new status ran told meets none
is_complete (Sql name) old new status ran told meets none = sql_done name old new status ran told meets none
is_complete (Show name) old new status ran told meets none = show_done name old new status ran told meets none
is_complete (Agent name mail options) old new status ran told meets none = agent_is_done name mail options old new status ran told meets none
