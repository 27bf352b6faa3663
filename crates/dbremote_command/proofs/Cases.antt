-- What holds of the site of an order's run, whatever it asks for: it is enough that it does of a run that changes nothing, of the agent, and of a script.
use Rattle.std.proofs.Common.{◌≡◌, ◌⊎◌, ℕ, List, [], ◌∷◌, ◌++◌, Result, refl, sym, subst, inl, inr}
use Rattle.std.specs.List.{AllByRecursion}
use Rattle.std.specs.Prelude.{⊤, IsTrue}
use Rattle.sr_agent.specs.Agents.{RanAgent}
use Rattle.sr_agent.specs.declared.fault.AgentFault.{AgentFault}
use Rattle.sr_agent.specs.declared.options.Options.{Options}
use Rattle.sr_ast.specs.declared.stmt.Stmt.{Stmt}
use Rattle.sr_book.specs.Entries.{Name}
use Rattle.sr_database.specs.Databases.{IsDatabase}
use Rattle.sr_database.specs.Views.{View}
use Rattle.sr_database_files.specs.Fresh.{IsThere}
use Rattle.sr_database_history.specs.Recorded.{Recorded}
use Rattle.sr_session.specs.Runs.{RanScript}
use Rattle.sr_session.specs.declared.fault.SessionFault.{SessionFault}
use Rattle.sr_send.specs.Posting.{PutSucceeded}
use Rattle.sr_site.specs.Causes.{DiskStays, Stays}
use Rattle.sr_site.specs.Happenings.{Happening}
use Rattle.sr_site.specs.Files.{Files}
use Rattle.sr_site.specs.Images.{IsImage, IsSettled, RestsThroughout}
use Rattle.sr_site.specs.Seen.{Seen}
use Rattle.sr_site.specs.Streams.{Output}
use Rattle.sr_database_files.proofs.Damaged.{missing_is_none}
use Rattle.sr_msgform.specs.declared.message.Message.{Message}
use Rattle.sr_world_model.specs.Worlds.{World, history}
use Rattle.sr_world_runs.proofs.AgentSteps.{agent_steps}
use Rattle.sr_world_runs.proofs.PutsLast.{agent_done, agent_order, quiet_done, quiet_order}
use Rattle.sr_world_runs.proofs.WorldSteps.{script_steps, untouched_steps}
use Rattle.sr_world_runs.specs.Inner.Worlds.{CallsInOrder}
use Rattle.sr_world_runs.specs.Worlds.{AllKnown, IsFaithfulThroughout, MakesSteps, Rests, on_one, on_two}
use Rattle.dbremote_command.proofs.Statuses.{told_never_one, told_never_zero}
use Rattle.dbremote_command.specs.Agents.{AgentRan, AgentStopped, unopened, stopped}
use Rattle.dbremote_command.specs.Complete.{AreDatabase}
use Rattle.dbremote_command.specs.Outside.{Outside}
use Rattle.dbremote_command.specs.Running.{IsUntouched, RanOn, Stopped}
use Rattle.dbremote_command.specs.Runs.{RanAgentOrder, RanInit, RanOrder, RanSql}
use Rattle.dbremote_command.specs.declared.fault.Fault.{Fault}
use Rattle.dbremote_command.specs.declared.order.Order.{Order}
use Rattle.dbremote_command.specs.declared.order.Order.TheVariants.{Init, Sql, Agent, Show}

-- it holds of a site that was changed by nothing, by the agent on the database that was opened, and by a script on it
pub record Holds (before : Seen) (P : Seen → Type 0) : Type 0 where
  pub still : (now : Seen) → RestsThroughout (IsImage before) before now → DiskStays before now → P now
  pub agent : (owner : Name) (es : List Recorded) (options : Options) (view new : View) (opened now : Seen) (written written' : Output) (result : Result ℕ AgentFault)
      → Stays before now → RestsThroughout (IsImage before) before opened → DiskStays before opened → IsDatabase view owner es opened
      → RanAgent view new opened now written written' options result → P now
  pub script : (owner : Name) (es : List Recorded) (view new : View) (opened now : Seen) (written written' : Output) (statements : List Stmt) (result : Result ℕ SessionFault)
      → Stays before now → RestsThroughout (IsImage before) before opened → DiskStays before opened → IsDatabase view owner es opened
      → RanScript view new opened now written written' statements result → P now

-- the same, where of the agent it is enough that it holds with such options
pub record HoldsFor (asked : Options → Type 0) (before : Seen) (P : Seen → Type 0) : Type 0 where
  pub still : (now : Seen) → RestsThroughout (IsImage before) before now → DiskStays before now → P now
  pub agent : (owner : Name) (es : List Recorded) (options : Options) (view new : View) (opened now : Seen) (written written' : Output) (result : Result ℕ AgentFault) → asked options
      → Stays before now → RestsThroughout (IsImage before) before opened → DiskStays before opened → IsDatabase view owner es opened
      → RanAgent view new opened now written written' options result → P now
  pub script : (owner : Name) (es : List Recorded) (view new : View) (opened now : Seen) (written written' : Output) (statements : List Stmt) (result : Result ℕ SessionFault)
      → Stays before now → RestsThroughout (IsImage before) before opened → DiskStays before opened → IsDatabase view owner es opened
      → RanScript view new opened now written written' statements result → P now

-- an order of the agent has such options
abbrev pub AsksFor : (Options → Type 0) → Order → Type 0
AsksFor asked (Init name owner) = ⊤
AsksFor asked (Sql name) = ⊤
AsksFor asked (Show name) = ⊤
AsksFor asked (Agent name mail options) = asked options

-- files that are a database are there
are_there : (files : Files) → AreDatabase files → IsThere files
are_there files are = missing_is_none are.publisher are.es are.stand.base files are.stand.stands

-- what every crash leaves is a database, and so is what a read gives
module _ (old new : Outside) (told : IsTrue old.site.observable) (stays : Stays old.site new.site) (read : IsImage old.site old.site.files) (stood : IsSettled AreDatabase old.site) (P : Seen → Type 0) (asked : Options → Type 0) (holds : HoldsFor asked old.site P) where
  are : AreDatabase old.site.files
  are = stood old.site.files read

  untouched_holds : (now : Seen) → now ≡ new.site → IsUntouched old.site now → DiskStays old.site now → P new.site
  untouched_holds now same untouched quiet = subst P same (holds.still now (untouched.moments told) quiet)

  -- a database that is there stays
  init_holds : (name : List ℕ) (owner : Name) (status : ℕ) → RanInit name owner old new status → P new.site
  init_holds name owner status ran = holds.still new.site (ran.guarded.there told (λ image left. are_there image (stood image left))) ran.no_mail

  script_holds : (name : List ℕ) (now : Outside) (result : Result ℕ SessionFault) → now.site ≡ new.site → RanOn name old now result → P new.site
  script_holds name now result same ran =
      subst P same
      (holds.script are.publisher are.es ran.view ran.view' ran.opened now.site old.output now.output ran.statements result (subst (λ (s : Seen). Stays old.site s) (sym same) stays)
      (ran.is.untouched.moments told) ran.is.no_mail ((ran.is.history told).each are.publisher are.es are.stand) ran.ran)

  sql_stopped : (name : List ℕ) (now : Outside) (fault : Fault) → now.site ≡ new.site → DiskStays old.site new.site → Stopped name old now fault → P new.site
  sql_stopped name now fault same quiet (inl before) = untouched_holds now.site same before.untouched (subst (λ (s : Seen). DiskStays old.site s) (sym same) quiet)
  sql_stopped name now fault same quiet (inr after) = script_holds name now _ same after.ran

  sql_holds : (name : List ℕ) (status : ℕ) → RanSql name old new status → P new.site
  sql_holds name status ran = elim ran.ended [
    | inl all ↦ script_holds name new _ refl all.ran.ran
    | inr by ↦ sql_stopped name _ by.fault refl ran.no_mail by.stopped
  ]

  agent_holds : (name mail : List ℕ) (options : Options) (now : Outside) (result : Result ℕ AgentFault) → asked options → now.site ≡ new.site → AgentRan name mail options old now result → P new.site
  agent_holds name mail options now result asks same ran =
      subst P same
      (holds.agent are.publisher are.es options ran.view ran.view' ran.opened now.site old.output now.output result asks (subst (λ (s : Seen). Stays old.site s) (sym same) stays)
      (ran.is.untouched.moments told) ran.is.no_mail ((ran.is.history told).each are.publisher are.es are.stand) ran.ran)

  agent_stopped : (name mail : List ℕ) (options : Options) (now : Outside) (fault : Fault) → asked options → now.site ≡ new.site → AgentStopped name mail options old now fault → P new.site
  agent_stopped name mail options now fault asks same (unopened why is none) = untouched_holds now.site same none.untouched none.no_mail
  agent_stopped name mail options now fault asks same (stopped why is ran) = agent_holds name mail options now _ asks same ran

  agent_order_holds : (name mail : List ℕ) (options : Options) (status : ℕ) → asked options → RanAgentOrder name mail options old new status → P new.site
  agent_order_holds name mail options status asks ran = elim ran.ended [
    | inl done ↦ agent_holds name mail options new _ asks refl done.ran
    | inr by ↦ agent_stopped name mail options _ by.fault asks refl by.stopped
  ]

  pub order_holds_for : (order : Order) (status : ℕ) → AsksFor asked order → RanOrder order old new status → P new.site
  order_holds_for (Init name owner) status asks ran = init_holds name owner status ran
  order_holds_for (Sql name) status asks ran = sql_holds name status ran
  order_holds_for (Show name) status asks ran = untouched_holds new.site refl ran.untouched ran.no_mail
  order_holds_for (Agent name mail options) status asks ran = agent_order_holds name mail options status asks ran

-- whatever the options are
asks_any : (order : Order) → AsksFor (λ options. ⊤) order
asks_any (Init name owner) = tt
asks_any (Sql name) = tt
asks_any (Show name) = tt
asks_any (Agent name mail options) = tt

pub order_holds : (old new : Outside) (told : IsTrue old.site.observable) (stays : Stays old.site new.site) (read : IsImage old.site old.site.files) (stood : IsSettled AreDatabase old.site) (P : Seen → Type 0)
    → Holds old.site P → (order : Order) (status : ℕ) → RanOrder order old new status → P new.site
order_holds old new told stays read stood P holds order status ran =
    order_holds_for old new told stays read stood P (λ options. ⊤)
    (record {
      still = holds.still;
      agent = λ owner es options view view' opened now written written' result asks. holds.agent owner es options view view' opened now written written' result;
      script = holds.script;
    })
    order status (asks_any order) ran

-- ---- all that happened are calls, and puts come last among those of the mail

-- where the agent is asked for, the files are a database
abbrev pub AgentFinds : Order → Files → Type 0
AgentFinds (Init name owner) files = ⊤
AgentFinds (Sql name) files = ⊤
AgentFinds (Show name) files = ⊤
AgentFinds (Agent name mail options) files = AreDatabase files

-- where the files are a database, it is so whatever is asked for
pub agent_finds : (order : Order) (files : Files) → AreDatabase files → AgentFinds order files
agent_finds (Init name owner) files are = tt
agent_finds (Sql name) files are = tt
agent_finds (Show name) files are = tt
agent_finds (Agent name mail options) files are = are

module _ (old new : Outside) (told : IsTrue old.site.observable) where
  ran_calls : (name mail : List ℕ) (options : Options) (now : Outside) (result : Result ℕ AgentFault) → now.site ≡ new.site → AgentRan name mail options old now result
      → AreDatabase old.site.files → CallsInOrder old.site new.site
  ran_calls name mail options now result same ran are =
      subst (λ (s : Seen). CallsInOrder old.site s) same
      (agent_order are.publisher are.es options ran.view ran.view' old.site ran.opened now.site old.output now.output result told ran.is.no_mail ((ran.is.history told).each are.publisher are.es are.stand) ran.ran)

  stopped_calls : (name mail : List ℕ) (options : Options) (now : Outside) (fault : Fault) → now.site ≡ new.site → AgentStopped name mail options old now fault → AreDatabase old.site.files → CallsInOrder old.site new.site
  stopped_calls name mail options now fault same (unopened why is none) are = subst (λ (s : Seen). CallsInOrder old.site s) same (quiet_order old.site now.site none.no_mail)
  stopped_calls name mail options now fault same (stopped why is ran) are = ran_calls name mail options now _ same ran are

  pub order_calls : (order : Order) (status : ℕ) → RanOrder order old new status → AgentFinds order old.site.files → CallsInOrder old.site new.site
  order_calls (Init name owner) status ran finds = quiet_order old.site new.site ran.no_mail
  order_calls (Sql name) status ran finds = quiet_order old.site new.site ran.no_mail
  order_calls (Show name) status ran finds = quiet_order old.site new.site ran.no_mail
  order_calls (Agent name mail options) status ran finds = elim ran.ended [
    | inl done ↦ ran_calls name mail options new _ refl done.ran finds
    | inr by ↦ stopped_calls name mail options _ by.fault refl by.stopped finds
  ]

  -- of a run that no fault ended each put succeeded
  pub order_done : (order : Order) (status : ℕ) → RanOrder order old new status → AgentFinds order old.site.files → (status ≡ 0) ⊎ (status ≡ 1) → (more : List Happening) → new.site.happened ≡ more ++ old.site.happened
      → AllByRecursion PutSucceeded more
  order_done (Init name owner) status ran finds well = quiet_done old.site new.site ran.no_mail
  order_done (Sql name) status ran finds well = quiet_done old.site new.site ran.no_mail
  order_done (Show name) status ran finds well = quiet_done old.site new.site ran.no_mail
  order_done (Agent name mail options) status ran finds well = elim ran.ended [
    | inl done ↦
        agent_done finds.publisher finds.es options done.ran.view done.ran.view' old.site done.ran.opened new.site old.output new.output done.count told done.ran.is.no_mail
        ((done.ran.is.history told).each finds.publisher finds.es finds.stand) done.ran.ran
    | inr by ↦ elim well [
      | inl zero_is ↦ absurd (told_never_zero by.fault by.between new.output status by.line zero_is)
      | inr one_is ↦ absurd (told_never_one by.fault by.between new.output status by.line one_is)
    ]
  ]

-- ---- steps of a world

-- what rests on a history is a database
pub rested_database : (messages : List Message) (publisher : Name) (es : List Recorded) (seen : Seen) → Rests messages publisher es (IsImage seen) → IsSettled AreDatabase seen
rested_database messages publisher es seen (on_one all) image there =
    let stood = all image there in
    record { publisher = publisher; es = es; stand = record { base = stood.base; stands = stood.stands } }
rested_database messages publisher es seen (on_two r each) image there = elim (each image there) [
  | inl short ↦ record { publisher = publisher; es = es; stand = record { base = short.base; stands = short.stands } }
  | inr long ↦ record { publisher = publisher; es = es ++ r ∷ []; stand = record { base = long.stands.base; stands = long.stands.stands } }
]

pub order_steps : (order : Order) (old new : Outside) (status : ℕ) → RanOrder order old new status → Stays old.site new.site → IsImage old.site old.site.files → (w : World Recorded) (publisher : Name) → IsTrue old.site.observable
    → MakesSteps w publisher old.site new.site
order_steps order old new status ran stays read w publisher told good named rested =
    order_holds old new told stays read (rested_database w.messages publisher (history w publisher) old.site rested)
    (λ (s : Seen). AllKnown w.messages publisher old.site s → IsFaithfulThroughout w publisher old.site s)
    (record {
      still = λ now still quiet. untouched_steps w publisher old.site now still quiet good named rested;
      agent = λ owner es options view view' opened now written written' result on still quiet database did.
          agent_steps w publisher owner es options view view' old.site opened now written written' result told on still quiet database did good named rested;
      script = λ owner es view view' opened now written written' statements result on still quiet database did.
          script_steps w publisher owner es view view' old.site opened now written written' statements result told on still quiet database did good named rested;
    }) order status ran
