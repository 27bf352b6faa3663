-- Ops and transactions: what is read is spelled so, and what is spelled is read again.
use Rattle.std.proofs.Common.{◌≡◌, ℕ, List, ◌++◌, Ok, refl}
use Rattle.sr_base.specs.declared.value.Value.TheVariants.{Null}
use Rattle.sr_base.specs.Fields.{IsName, list_spelling}
use Rattle.sr_base.specs.Inner.PartLaws.{IsTable, tag_table, no_table, variant, mapped_format, respelled_format, pair_format, triple_format}
use Rattle.sr_base.specs.Inner.Reading.{IsFormat}
use Rattle.sr_base.specs.Inner.TextLaws.{name_format, text_format}
use Rattle.sr_base.specs.Inner.ValueLaws.{value_format, offset_format}
use Rattle.sr_base.specs.Values.{value_spelling, IsValue}
use Rattle.sr_logform.specs.declared.op.Op.{Op}
use Rattle.sr_logform.specs.declared.op.Op.TheVariants.{Insert, Remove, Set, Clear, Exec}
use Rattle.sr_logform.specs.Ops.{op_spelling, OpHas, IsOp, column_spelling, update_spelling, AreValues, AreKeyColumns, AreUpdates, transaction_spelling, IsTransaction}
use Rattle.sr_logform.specs.Inner.Ops.{op_at, present_at, values_at, key_at, updates_at, transaction_at, transaction_of}
use Rattle.sr_logform.specs.Inner.RuleLaws.{checked_format, present_tells, columns_format, filled_format}
use Rattle.sr_logform.specs.Rules.{is_present}

pub present_format : IsFormat present_at value_spelling (λ value. IsValue value × ¬ (value ≡ Null))
unfolding present_at
present_format = checked_format is_present present_tells (λ value h r. (h, r)) (λ value h. h) value_format

pub values_format : IsFormat values_at (list_spelling column_spelling) (AreValues IsName IsValue)
unfolding values_at
values_format = columns_format (pair_format name_format present_format) (λ c. c.0)

pub key_format : IsFormat key_at (list_spelling column_spelling) (AreKeyColumns IsName IsValue)
key_format = columns_format (pair_format name_format value_format) (λ c. c.0)

pub updates_format : IsFormat updates_at (list_spelling update_spelling) (AreUpdates IsName IsValue)
updates_format = columns_format (triple_format name_format value_format value_format) (λ c. c.0)

op_table : IsTable op_at op_spelling IsOp
unfolding op_at op_spelling OpHas
op_table =
    tag_table (variant (pair_format name_format values_format) (λ p. Insert p.0 p.1) (λ x. refl) (λ x h. h))
    (tag_table (variant (pair_format name_format key_format) (λ p. Remove p.0 p.1) (λ x. refl) (λ x h. h))
    (tag_table (variant (triple_format name_format key_format updates_format) (λ p. Set p.0 p.1 p.2) (λ x. refl) (λ x h. h))
    (tag_table (variant name_format (λ table. Clear table) (λ x. refl) (λ x h. h))
    (tag_table (variant text_format (λ text. Exec text) (λ x. refl) (λ x h. h)) no_table))))

op_again : (op : Op) (rest : List ℕ) → IsOp op → op_at (op_spelling op ++ rest) ≡ Ok (op, rest)
unfolding op_at op_spelling OpHas
op_again (Insert table values) rest h = rw ((pair_format name_format values_format).again (table, values) rest h) refl
op_again (Remove table key) rest h = rw ((pair_format name_format key_format).again (table, key) rest h) refl
op_again (Set table key columns) rest h = rw ((triple_format name_format key_format updates_format).again (table, key, columns) rest h) refl
op_again (Clear table) rest h = rw (name_format.again table rest h) refl
op_again (Exec text) rest h = rw (text_format.again text rest h) refl

pub op_format : IsFormat op_at op_spelling IsOp
op_format = record { takes = op_table.takes; again = op_again; within = op_table.within }

pub transaction_format : IsFormat transaction_at transaction_spelling IsTransaction
unfolding transaction_at
transaction_format =
    respelled_format (λ t. refl) (λ t h. record { at = h.0; ops = h.1 }) (λ t h. (h.at, h.ops))
    (mapped_format transaction_of (λ t. (t.at, t.ops)) (λ p. refl) (λ t. refl) (pair_format offset_format (filled_format op_format)))
