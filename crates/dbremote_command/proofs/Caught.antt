-- That a run of the agent which came to its end caught up with each partner.
use Rattle.std.proofs.Common.{◌≡◌, ℕ, ◌≤◌, Bool, true, false, List, Ok, ap, subst, ◌∙◌, inl, inr, arith}
use Rattle.std.specs.Prelude.{IsTrue}
use Rattle.sr_agent.specs.Agents.{DidWhere, RanWhole}
use Rattle.sr_agent.specs.Deliveries.{with_puts}
use Rattle.sr_agent.specs.Lines.{Line}
use Rattle.sr_agent.specs.Runs.{IsRun, Receives, Run, received_mail, sent_events}
use Rattle.sr_agent.specs.PartnerPasses.{partners, users_in}
use Rattle.sr_agent.specs.declared.options.Options.{Options}
use Rattle.sr_book.specs.Entries.{Name}
use Rattle.sr_database.specs.Views.{View}
use Rattle.sr_database_files.specs.declared.fault.DatabaseFault.{DatabaseFault}
use Rattle.sr_database_files.specs.declared.fault.DatabaseFault.TheVariants.{Missing, Exists, Damaged, Disk, Full, Long, Memory}
use Rattle.sr_database_history.specs.Recorded.{Recorded}
use Rattle.sr_catalog_schema.specs.declared.fault.DdlFault.{DdlFault}
use Rattle.sr_catalog_schema.specs.declared.fault.DdlFault.TheVariants as ddl
use Rattle.sr_session_script.specs.declared.refusal.Refusal.{Refusal}
use Rattle.sr_session_script.specs.declared.refusal.Refusal.TheVariants.{Ddl, Dml}
use Rattle.sr_site.specs.Happenings.{Happening, mail_in}
use Rattle.sr_site.specs.Seen.{Seen}
use Rattle.sr_site.specs.Streams.{Output}
use Rattle.sr_database_meaning.specs.Standing.{StandsAs}
use Rattle.dbremote_command.proofs.Catching.{all_caught_up}
use Rattle.dbremote_command.specs.Agents.{AgentRan}
use Rattle.dbremote_command.specs.CaughtUp.{CatchesUp, HasCaughtUp}
use Rattle.dbremote_command.specs.Faults.{database_status, ddl_status, refusal_status, status_of}
use Rattle.dbremote_command.specs.Outside.{Outside}
use Rattle.dbremote_command.specs.Runs.{RanAgentOrder, RanOrder, Told}
use Rattle.dbremote_command.specs.declared.fault.Fault.{Fault}
use Rattle.dbremote_command.specs.declared.fault.Fault.TheVariants.{Words, Database, Source, TooLong, Script, Statement, Sink, Mail}
use Rattle.dbremote_command.specs.declared.order.Order.{Order}
use Rattle.dbremote_command.specs.declared.order.Order.TheVariants.{Init, Sql, Agent, Show}

-- ---- a fault has a status above 1

of_database : (d : DatabaseFault) → 2 ≤ database_status d
of_database Missing = omega arith
of_database Exists = omega arith
of_database (Damaged file at) = omega arith
of_database Disk = omega arith
of_database (Full end need) = omega arith
of_database (Long size limit) = omega arith
of_database Memory = omega arith

of_ddl : (d : DdlFault) → 2 ≤ ddl_status d
of_ddl (ddl.Exists name) = omega arith
of_ddl (ddl.Missing name) = omega arith
of_ddl (ddl.BadType name) = omega arith
of_ddl (ddl.NoKey table) = omega arith
of_ddl (ddl.KeyNotInArticle table column) = omega arith
of_ddl (ddl.TwiceSubscribed user table) = omega arith
of_ddl (ddl.InUse name) = omega arith
of_ddl (ddl.TooMany limit) = omega arith
of_ddl ddl.Memory = omega arith

of_refusal : (r : Refusal) → 2 ≤ refusal_status r
of_refusal (Ddl d) = of_ddl d
of_refusal (Dml d) = omega arith

above_one : (f : Fault) → 2 ≤ status_of f
above_one Words = omega arith
above_one (Database d) = of_database d
above_one Source = omega arith
above_one TooLong = omega arith
above_one (Script at) = omega arith
above_one (Statement number r) = of_refusal r
above_one Sink = omega arith
above_one Mail = omega arith

pub told_above : (fault : Fault) (between now : Output) (status : ℕ) → Told fault between now status → status ≤ 1 → ⊥
told_above fault between now status line low = omega (arith, above_one line.told, line.status_is, low)

-- ---- a run to its end

each_partner : (publisher : Name) (es : List Recorded) (options : Options) (run : Run) → IsRun publisher es options run → IsTrue options.receive → users_in run.partner_passes ≡ partners publisher es
each_partner publisher es options run is receives =
    let done : Receives true publisher es run = subst (λ (b : Bool). Receives b publisher es run) receives is.receives in
    done.whose

whole_caught_up : (base : ℕ) (view : View) (before : Seen) (publisher : Name) (es : List Recorded) (options : Options) (lines : List Line) (old new : Outside) → IsTrue options.receive
    → mail_in before.happened ≡ mail_in old.site.happened → RanWhole base view before new.site publisher es options lines → HasCaughtUp publisher es options old new
whole_caught_up base view before publisher es options lines old new receives no_mail whole = record {
  run = whole.run;
  is = whole.is;
  mail = whole.came.mail ∙ ap (λ (l : List Happening). with_puts (sent_events publisher es whole.run) (received_mail publisher es options.purge whole.run l)) no_mail;
  each = each_partner publisher es options whole.run whole.is receives;
  caught_up = all_caught_up publisher es options whole.run whole.is receives;
  stands = record { base = view.log.base; stands = whole.came.database.held.stands };
}

-- with a restart of the log, or without it
all_caught_up_by : (b : Bool) (view view' : View) (before : Seen) (publisher : Name) (es : List Recorded) (options : Options) (lines : List Line) (old new : Outside) (count : ℕ) → IsTrue options.receive
    → mail_in before.happened ≡ mail_in old.site.happened → DidWhere b view view' before new.site old.output new.output publisher es options lines (Ok count) → HasCaughtUp publisher es options old new
all_caught_up_by false view view' before publisher es options lines old new count receives no_mail whole = whole_caught_up view.log.base view' before publisher es options lines old new receives no_mail whole
all_caught_up_by true view view' before publisher es options lines old new count receives no_mail did =
    whole_caught_up did.between.log.base view' did.middle publisher es options did.rest old new receives (did.restart.stays.mail ∙ no_mail) did.did

ran_caught_up : (name mail : List ℕ) (options : Options) (old new : Outside) (count : ℕ) → IsTrue old.site.observable → IsTrue options.receive → AgentRan name mail options old new (Ok count)
    → (publisher : Name) (es : List Recorded) → StandsAs publisher es old.site.files → HasCaughtUp publisher es options old new
ran_caught_up name mail options old new count told receives on publisher es stood =
    all_caught_up_by options.restart on.view on.view' on.opened publisher es options on.ran.lines old new count receives on.is.no_mail.mail
    (on.ran.did (on.is.no_mail.observable ∙ told) publisher es ((on.is.history told).each publisher es stood))

agent_caught_up : (name mail : List ℕ) (options : Options) (old new : Outside) (status : ℕ) → RanAgentOrder name mail options old new status → CatchesUp (Agent name mail options) old new status
agent_caught_up name mail options old new status ran told receives low publisher es stood = elim ran.ended [
  | inl done ↦ ran_caught_up name mail options old new done.count told receives done.ran publisher es stood
  | inr by ↦ absurd (told_above by.fault by.between new.output status by.line low)
]

pub catches_up : (order : Order) (old new : Outside) (status : ℕ) → RanOrder order old new status → CatchesUp order old new status
catches_up (Init name user) old new status ran = tt
catches_up (Sql name) old new status ran = tt
catches_up (Show name) old new status ran = tt
catches_up (Agent name mail options) old new status ran = agent_caught_up name mail options old new status ran
