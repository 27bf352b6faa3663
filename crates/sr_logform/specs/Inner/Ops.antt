-- Ops and transactions, their bytes, and how they are read.
-- Here is what no contract of the program says by itself.
use Rattle.std.specs.Prelude.{ℕ, List}
use Rattle.sr_base.specs.declared.offset.Offset.{Offset}
use Rattle.sr_base.specs.declared.value.Value.{Value}
use Rattle.sr_base.specs.Fields.{name_at}
use Rattle.sr_base.specs.Inner.Fields.{pair_at, triple_at}
use Rattle.sr_base.specs.Reading.{Read, text_at, mapped_at, tag_at, untagged_at, value_at}
use Rattle.sr_base.specs.Inner.Values.{offset_at}
use Rattle.sr_logform.specs.declared.op.Op.{Op}
use Rattle.sr_logform.specs.declared.op.Op.TheVariants.{Insert, Remove, Set, Clear, Exec}
use Rattle.sr_logform.specs.declared.op.Transaction.{Transaction}
use Rattle.sr_logform.specs.Rules.{is_present, IsFilledListOf}
use Rattle.sr_logform.specs.Inner.Rules.{checked_at, columns_at, filled_at}
use Rattle.sr_logform.specs.Ops.{IsShortOp}

-- a value that is not NULL breaks at its tag
unfoldable pub present_at : List ℕ → Read Value
present_at = checked_at is_present value_at

-- a list of columns breaks at its count where it is empty or names a column twice
unfoldable pub values_at : List ℕ → Read (List (List ℕ × Value))
values_at = columns_at (λ c. c.0) (pair_at name_at present_at)

abbrev pub key_at : List ℕ → Read (List (List ℕ × Value))
key_at = columns_at (λ c. c.0) (pair_at name_at value_at)

abbrev pub updates_at : List ℕ → Read (List (List ℕ × Value × Value))
updates_at = columns_at (λ c. c.0) (triple_at name_at value_at value_at)

unfoldable pub op_at : List ℕ → Read Op
op_at =
    tag_at 1 (mapped_at (λ p. Insert p.0 p.1) (pair_at name_at values_at))
    (tag_at 2 (mapped_at (λ p. Remove p.0 p.1) (pair_at name_at key_at))
    (tag_at 3 (mapped_at (λ p. Set p.0 p.1 p.2) (triple_at name_at key_at updates_at))
    (tag_at 4 (mapped_at (λ table. Clear table) name_at)
    (tag_at 5 (mapped_at (λ text. Exec text) text_at) untagged_at))))

-- what has to be known of a transaction to write it
abbrev pub IsShortTransaction : Transaction → Type 0
IsShortTransaction t = IsFilledListOf IsShortOp t.ops

-- the transaction of an offset and ops
abbrev pub transaction_of : Offset × List Op → Transaction
transaction_of p = record { at = p.0; ops = p.1 }

unfoldable pub transaction_at : List ℕ → Read Transaction
transaction_at = mapped_at transaction_of (pair_at offset_at (filled_at op_at))
