-- An entry has at least as many bytes as ops that it holds or can give.
use Rattle.std.proofs.Common.{◌≡◌, ℕ, ◌+◌, ◌≤◌, List, [], ◌∷◌, ◌++◌, length, refl, arith}
use Rattle.std.proofs.lemmas.List.{length-append}
use Rattle.std.specs.Int.{w32, to_be_bytes}
use Rattle.std.specs.List.{flat_map}
use Rattle.sr_base.specs.declared.value.Value.{Value}
use Rattle.sr_base.specs.Fields.{name_spelling, list_spelling, bytes_spelling}
use Rattle.sr_base.specs.Values.{row_spelling, offset_spelling}
use Rattle.sr_logform.specs.declared.change.Change.{Change}
use Rattle.sr_logform.specs.declared.entry.Entry.{Entry}
use Rattle.sr_logform.specs.declared.entry.Entry.TheVariants.{Own, From, Ddl, Sync, Pass, Note}
use Rattle.sr_logform.specs.declared.op.Op.{Op}
use Rattle.sr_logform.specs.declared.op.Op.TheVariants.{Insert, Remove, Set, Clear, Exec}
use Rattle.sr_logform.specs.declared.outcome.Outcome.{Outcome}
use Rattle.sr_logform.specs.declared.outcome.Outcome.TheVariants as outcomes
use Rattle.sr_logform.specs.Entries.{entry_spelling, judged_spelling, table_spelling, flag_spelling}
use Rattle.sr_logform.specs.Inner.Limits.{total, outcome_ops, judged_ops, table_ops, op_count}
use Rattle.sr_logform.specs.Ops.{op_spelling}
use Rattle.sr_logform.specs.Outcomes.{change_spelling, outcome_spelling}

items_long : {A : Type 0} (f : A → ℕ) (spelling : A → List ℕ) → ((x : A) → f x ≤ length (spelling x)) → (xs : List A)
    → total f xs ≤ length (flat_map spelling xs)
items_long f spelling each [] = omega arith
items_long f spelling each (x ∷ xs) = omega (arith, each x, items_long f spelling each xs, length-append (spelling x) (flat_map spelling xs))

-- a list whose items have each as many bytes as their number
list_long : {A : Type 0} (f : A → ℕ) (spelling : A → List ℕ) → ((x : A) → f x ≤ length (spelling x)) → (xs : List A)
    → 4 + total f xs ≤ length (list_spelling spelling xs)
list_long f spelling each xs =
    let count : length (to_be_bytes w32 (length xs)) ≡ 4 = refl in
    omega (arith, count, items_long f spelling each xs, length-append (to_be_bytes w32 (length xs)) (flat_map spelling xs))

ones : {A : Type 0} (xs : List A) → total (λ (x : A). 1) xs ≡ length xs
ones [] = refl
ones (x ∷ xs) = omega (arith, ones xs)

-- a list whose items have a byte at least
list_filled : {A : Type 0} (spelling : A → List ℕ) → ((x : A) → 1 ≤ length (spelling x)) → (xs : List A) → 4 + length xs ≤ length (list_spelling spelling xs)
list_filled spelling each xs = omega (arith, ones xs, list_long (λ x. 1) spelling each xs)

change_long : (change : Change) → 1 ≤ length (change_spelling change)
change_long change = omega arith

row_long : (row : List Value) → 1 ≤ length (row_spelling row)
row_long row = omega arith

op_long : (op : Op) → 1 ≤ length (op_spelling op)
unfolding op_spelling
op_long (Insert table values) = omega arith
op_long (Remove table key) = omega arith
op_long (Set table key columns) = omega arith
op_long (Clear table) = omega arith
op_long (Exec text) = omega arith

outcome_long : (outcome : Outcome) → outcome_ops outcome ≤ length (outcome_spelling outcome)
unfolding outcome_spelling
outcome_long (outcomes.Plain changes) = omega (arith, list_filled change_spelling change_long changes)
outcome_long (outcomes.Conflict inserts before after) =
    let prefix = list_spelling change_spelling inserts in
    omega (arith, list_filled change_spelling change_long inserts, length-append (prefix ++ row_spelling before) (row_spelling after), length-append prefix (row_spelling before))
outcome_long (outcomes.Clash clash) = omega arith

judged_long : (p : Op × Outcome) → judged_ops p ≤ length (judged_spelling p)
judged_long p = omega (arith, op_long p.0, outcome_long p.1, length-append (op_spelling p.0) (outcome_spelling p.1))

table_long : (p : List ℕ × List (List Value)) → table_ops p ≤ length (table_spelling p)
table_long p = omega (arith, list_filled row_spelling row_long p.1, length-append (name_spelling p.0) (list_spelling row_spelling p.1))

pub entry_long : (entry : Entry) → op_count entry ≤ length (entry_spelling entry)
unfolding entry_spelling
entry_long (Own changes) = omega (arith, list_filled change_spelling change_long changes)
entry_long (From user at ops) =
    let prefix = name_spelling user ++ offset_spelling at in
    omega (arith, list_long judged_ops judged_spelling judged_long ops, length-append prefix (list_spelling judged_spelling ops))
entry_long (Ddl text) = omega arith
entry_long (Sync user tables) =
    omega (arith, list_long table_ops table_spelling table_long tables, length-append (name_spelling user) (list_spelling table_spelling tables))
entry_long (Pass users only text changes) =
    let prefix = list_spelling name_spelling users ++ flag_spelling only ++ bytes_spelling text in
    omega (arith, list_filled change_spelling change_long changes, length-append prefix (list_spelling change_spelling changes))
entry_long (Note user note) = omega arith
