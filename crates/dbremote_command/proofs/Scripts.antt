-- How `sql` ends, from how its steps do.
use Rattle.std.proofs.Common.{◌≡◌, ℕ, List, [], refl, sym, subst, inl, inr}
use Rattle.std.specs.Prelude.{Result, Ok, Err, OnOk, IfErr}
use Rattle.std.specs.List.{AllByRecursion}
use Rattle.sr_ast.specs.declared.stmt.Stmt.{Stmt}
use Rattle.sr_database.specs.Views.{View}
use Rattle.sr_database_files.specs.declared.fault.DatabaseFault.{DatabaseFault}
use Rattle.sr_database_files.specs.declared.fault.DatabaseFault.TheVariants as store
use Rattle.sr_ast.specs.NormalForms.{IsNormal}
use Rattle.sr_parse_grammar.proofs.Closed.{written-normal}
use Rattle.sr_site.specs.Seen.{Seen}
use Rattle.sr_site.specs.Streams.{Input, Output}
use Rattle.dbremote_command.specs.Outside.{outside}
use Rattle.dbremote_command.specs.Running.{IsUntouched, IsOpened, IsScript, IsUnread, OpenedCause, BeginCause, RanWhole, Stopped}
use Rattle.dbremote_command.specs.Inner.Running.{ReadCause}
use Rattle.dbremote_command.specs.Inner.Steps.{RanToEnd, RanToFault}
use Rattle.dbremote_command.specs.declared.fault.Fault.{Fault}
use Rattle.dbremote_command.specs.declared.fault.Fault.TheVariants.{Words, Database, Source, TooLong, Script, Statement, Sink, Mail}

pub on_ok : {T E P Q : Type 0} (r : Result T E) → (P → Q) → OnOk r P → OnOk r Q
on_ok (Ok x) follows p = follows p
on_ok (Err e) follows p = tt

pub if_err : {T E : Type 0} (P Q : E → Type 0) (r : Result T E) → ((e : E) → P e → Q e) → IfErr r P → IfErr r Q
if_err P Q (Ok x) follows p = tt
if_err P Q (Err e) follows p = follows e p

unread : (input : Input) (fault : DatabaseFault) → IsUnread input input fault
unread input store.Missing = refl
unread input store.Exists = refl
unread input (store.Damaged file at) = refl
unread input store.Disk = refl
unread input (store.Full end need) = refl
unread input (store.Long size limit) = refl
unread input store.Memory = refl

pub stopped_open : (name : List ℕ) (before now : Seen) (input : Input) (output : Output) (fault : DatabaseFault) → IsUntouched before now → OpenedCause before now fault
    → Stopped name (outside before input output) (outside now input output) (Database fault)
stopped_open name before now input output fault untouched cause = inl (record { untouched = untouched; silent = refl; cause = (cause, unread input fault) })

wanting : (name : List ℕ) (before now : Seen) (input left : Input) (output : Output) (fault : DatabaseFault) → now.disk_faults ≡ before.disk_faults → fault ≡ store.Memory → left.faults ≡ input.faults
    → BeginCause name (outside before input output) (outside now left output) (Database fault)
wanting name before now input left output fault still is steady = subst (λ (f : DatabaseFault). BeginCause name (outside before input output) (outside now left output) (Database f)) (sym is) (still, steady)

begin_cause : (name : List ℕ) (before now : Seen) (input left : Input) (output : Output) (view : View) (fault : Fault) → IsOpened name [] view before now → ReadCause input left fault
    → BeginCause name (outside before input output) (outside now left output) fault
begin_cause name before now input left output view Words opened cause = cause
begin_cause name before now input left output view (Database fault) opened cause = wanting name before now input left output fault opened.steady cause.0 cause.1
begin_cause name before now input left output view Source opened cause = (cause, record { view = view; is = opened })
begin_cause name before now input left output view TooLong opened cause = (cause.0, cause.1, record { view = view; is = opened })
begin_cause name before now input left output view (Script at) opened cause = (cause, record { view = view; is = opened })
begin_cause name before now input left output view (Statement number fault) opened cause = cause
begin_cause name before now input left output view Sink opened cause = cause
begin_cause name before now input left output view Mail opened cause = cause

pub stopped_read : (name : List ℕ) (before now : Seen) (input left : Input) (output : Output) (view : View) (fault : Fault) → IsOpened name [] view before now → ReadCause input left fault
    → Stopped name (outside before input output) (outside now left output) fault
stopped_read name before now input left output view fault opened cause =
    inl (record { untouched = opened.untouched; silent = refl; cause = begin_cause name before now input left output view fault opened cause })

pub ran_whole : (name : List ℕ) (before middle now : Seen) (input left : Input) (output said : Output) (view after : View) (statements : List Stmt) → IsOpened name [] view before middle
    → IsScript input left statements → RanToEnd view after middle now output said statements → RanWhole name (outside before input output) (outside now left said)
ran_whole name before middle now input left output said view after statements opened script ran = record {
  count = ran.count;
  ran = record { opened = middle; view = view; view' = after; statements = statements; is = opened; script = script; ran = ran.ran };
}

pub stopped_after : (name : List ℕ) (before middle now : Seen) (input left : Input) (output said : Output) (view after : View) (statements : List Stmt) (fault : Fault) → IsOpened name [] view before middle
    → IsScript input left statements → RanToFault view after middle now output said statements fault → Stopped name (outside before input output) (outside now left said) fault
stopped_after name before middle now input left output said view after statements fault opened script ran = inr (record {
  why = ran.why;
  fault_is = ran.fault_is;
  ran = record { opened = middle; view = view; view' = after; statements = statements; is = opened; script = script; ran = ran.ran };
})

-- each statement of a script that was read is in normal form
pub script_normal : (old new : Input) (statements : List Stmt) → IsScript old new statements → AllByRecursion IsNormal statements
script_normal old new statements script = written-normal script.text statements script.written
