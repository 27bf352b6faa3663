-- What has a spelling can be written.
use Rattle.std.proofs.Common.{ℕ, List, [], ◌∷◌, Option, Some, None}
use Rattle.std.specs.List.{AllByRecursion}
use Rattle.std.specs.Prelude.{IfSome}
use Rattle.sr_base.specs.declared.value.Value.{Value}
use Rattle.sr_base.specs.declared.value.Value.TheVariants.{Null, Int, Big, Str, Date}
use Rattle.sr_base.specs.Fields.{IsListOf}
use Rattle.sr_base.specs.Values.{IsValue, IsShort}
use Rattle.sr_logform.specs.declared.change.Change.{Change}
use Rattle.sr_logform.specs.declared.entry.Entry.{Entry}
use Rattle.sr_logform.specs.declared.entry.Entry.TheVariants.{Own, From, Ddl, Sync, Pass, Note}
use Rattle.sr_logform.specs.declared.op.Op.{Op}
use Rattle.sr_logform.specs.declared.op.Op.TheVariants.{Insert, Remove, Set, Clear, Exec}
use Rattle.sr_logform.specs.declared.op.Transaction.{Transaction}
use Rattle.sr_logform.specs.declared.outcome.Outcome.{Outcome}
use Rattle.sr_logform.specs.declared.outcome.Outcome.TheVariants as outcomes
use Rattle.sr_logform.specs.Entries.{IsEntry}
use Rattle.sr_logform.specs.Inner.Entries.{IsShortEntry}
use Rattle.sr_logform.specs.Ops.{OpHas, IsOp, IsShortOp, IsTransaction}
use Rattle.sr_logform.specs.Inner.Ops.{IsShortTransaction}
use Rattle.sr_logform.specs.Outcomes.{IsChange, IsShortChange, OutcomeHas, IsOutcome, IsShortOutcome}
use Rattle.sr_logform.specs.Rules.{IsFilledListOf, AreColumns}

each : {A : Type 0} {P Q : A → Type 0} → ((x : A) → P x → Q x) → (xs : List A) → AllByRecursion P xs → AllByRecursion Q xs
each f [] h = tt
each f (x ∷ xs) h = (f x h.0, each f xs h.1)

list : {A : Type 0} {P Q : A → Type 0} → ((x : A) → P x → Q x) → (xs : List A) → IsListOf P xs → IsListOf Q xs
list f xs h = (h.0, each f xs h.1)

filled : {A : Type 0} {P Q : A → Type 0} → ((x : A) → P x → Q x) → (xs : List A) → IsFilledListOf P xs → IsFilledListOf Q xs
filled f xs h = record { items = list f xs h.items; filled = h.filled }

columns : {A : Type 0} {name : A → List ℕ} {P Q : A → Type 0} → ((x : A) → P x → Q x) → (xs : List A) → AreColumns name P xs → AreColumns name Q xs
columns f xs h = record { items = list f xs h.items; filled = h.filled; distinct = h.distinct }

value : (v : Value) → IsValue v → IsShort v
unfolding IsValue
value Null h = tt
value (Int number) h = tt
value (Big number) h = tt
value (Str text) h = h.short
value (Date days) h = tt

row : (values : List Value) → IsListOf IsValue values → IsListOf IsShort values
row = list value

image : (o : Option (List Value)) → IfSome o (IsListOf IsValue) → IfSome o (IsListOf IsShort)
image None h = tt
image (Some values) h = row values h

change : (c : Change) → IsChange c → IsShortChange c
change c h = record { table = tt; before = image c.before h.before; after = image c.after h.after; differ = h.differ }

pub short_op : (op : Op) → IsOp op → IsShortOp op
unfolding OpHas
short_op (Insert table values) h = (tt, columns (λ c k. (tt, (value c.1 k.1.0, k.1.1))) values h.1)
short_op (Remove table key) h = (tt, columns (λ c k. (tt, value c.1 k.1)) key h.1)
short_op (Set table key updates) h = (tt, columns (λ c k. (tt, value c.1 k.1)) key h.1, columns (λ c k. (tt, value c.1 k.1, value c.2 k.2)) updates h.2)
short_op (Clear table) h = tt
short_op (Exec text) h = h.short

outcome : (o : Outcome) → IsOutcome o → IsShortOutcome o
unfolding OutcomeHas
outcome (outcomes.Plain changes) h = list change changes h
outcome (outcomes.Conflict inserts before after) h = (list change inserts h.0, row before h.1, row after h.2)
outcome (outcomes.Clash clash) h = tt

pub short_transaction : (t : Transaction) → IsTransaction t → IsShortTransaction t
short_transaction t h = filled short_op t.ops h.ops

pub short_entry : (entry : Entry) → IsEntry entry → IsShortEntry entry
unfolding IsEntry
short_entry (Own changes) h = filled change changes h
short_entry (From user at ops) h = filled (λ p k. (short_op p.0 k.0, outcome p.1 k.1)) ops h.2
short_entry (Ddl text) h = h.short
short_entry (Sync user tables) h = list (λ p k. (tt, list row p.1 k.1)) tables h.1
short_entry (Pass users only text changes) h =
    (record { items = list (λ name k. tt) users h.0.0.items; distinct = h.0.0.distinct }, h.0.2.short, list change changes h.1)
short_entry (Note user note) h = tt
