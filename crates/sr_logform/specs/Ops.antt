-- Ops and transactions, their bytes, and how they are read.
use Rattle.std.specs.Prelude.{◌≡◌, ℕ, ◌<◌, ◌^◌, ⊤, List, ◌∷◌, ◌++◌, length}
use Rattle.sr_base.specs.declared.value.Value.{Value}
use Rattle.sr_base.specs.declared.value.Value.TheVariants.{Null}
use Rattle.sr_base.specs.Fields.{name_spelling, IsName, bytes_spelling, IsText, list_spelling, pair_spelling, triple_spelling}
use Rattle.sr_base.specs.Values.{value_spelling, IsValue, IsShort, offset_spelling, IsOffset}
use Rattle.sr_logform.specs.declared.op.Op.{Op}
use Rattle.sr_logform.specs.declared.op.Op.TheVariants.{Insert, Remove, Set, Clear, Exec}
use Rattle.sr_logform.specs.declared.op.Transaction.{Transaction}
use Rattle.sr_logform.specs.Rules.{AreColumns, IsFilledListOf}

-- ---- columns: a name and a value; of a Set a name, the old value and the new one

abbrev pub column_spelling : List ℕ × Value → List ℕ
column_spelling = pair_spelling name_spelling value_spelling

abbrev pub update_spelling : List ℕ × Value × Value → List ℕ
update_spelling = triple_spelling name_spelling value_spelling value_spelling

-- columns whose names and values are such: of an Insert, where none is NULL, of a key, and of a Set
abbrev pub AreValues : (List ℕ → Type 0) → (Value → Type 0) → List (List ℕ × Value) → Type 0
AreValues names values = AreColumns (λ c. c.0) (λ c. names c.0 × (values c.1 × ¬ (c.1 ≡ Null)))

abbrev pub AreKeyColumns : (List ℕ → Type 0) → (Value → Type 0) → List (List ℕ × Value) → Type 0
AreKeyColumns names values = AreColumns (λ c. c.0) (λ c. names c.0 × values c.1)

abbrev pub AreUpdates : (List ℕ → Type 0) → (Value → Type 0) → List (List ℕ × Value × Value) → Type 0
AreUpdates names values = AreColumns (λ c. c.0) (λ c. names c.0 × values c.1 × values c.2)

-- ---- ops: a tag byte, and what stands behind it

unfoldable pub op_spelling : Op → List ℕ
op_spelling (Insert table values) = 1 ∷ (name_spelling table ++ list_spelling column_spelling values)
op_spelling (Remove table key) = 2 ∷ (name_spelling table ++ list_spelling column_spelling key)
op_spelling (Set table key columns) = 3 ∷ (name_spelling table ++ list_spelling column_spelling key ++ list_spelling update_spelling columns)
op_spelling (Clear table) = 4 ∷ name_spelling table
op_spelling (Exec text) = 5 ∷ bytes_spelling text

-- the rules of an op whose names, texts and values are such: no list of columns is empty or names one twice, and no value of an
-- Insert is NULL
unfoldable pub OpHas : (List ℕ → Type 0) → (List ℕ → Type 0) → (Value → Type 0) → Op → Type 0
OpHas names texts values (Insert table columns) = names table × AreValues names values columns
OpHas names texts values (Remove table key) = names table × AreKeyColumns names values key
OpHas names texts values (Set table key columns) = names table × AreKeyColumns names values key × AreUpdates names values columns
OpHas names texts values (Clear table) = names table
OpHas names texts values (Exec text) = texts text

-- what has a spelling
abbrev pub IsOp : Op → Type 0
IsOp = OpHas IsName IsText IsValue

-- what has to be known of an op to write it: it keeps its rules, and each text has fewer than 2 ^ 32 bytes
abbrev pub IsShortOp : Op → Type 0
IsShortOp = OpHas (λ name. ⊤) (λ text. length text < 2 ^ 32) IsShort

-- ---- transactions: an offset, and ops, at least one

abbrev pub transaction_spelling : Transaction → List ℕ
transaction_spelling t = offset_spelling t.at ++ list_spelling op_spelling t.ops

-- what has a spelling
pub record IsTransaction (t : Transaction) : Type 0 where
  pub at : IsOffset t.at
  pub ops : IsFilledListOf IsOp t.ops
