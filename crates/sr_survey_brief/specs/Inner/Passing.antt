-- Fields that are passed over.
use Rattle.std.specs.Prelude.{◌≡◌, ℕ, List, ◌++◌}
use Rattle.sr_base.specs.declared.value.Value.{Value}
use Rattle.sr_base.specs.Fields.{IsName}
use Rattle.sr_base.specs.Values.{IsValue}

-- what follows a field at the front of bytes, whatever it is
abbrev pub IsPast : {A : Type 0} → (A → Type 0) → (A → List ℕ) → List ℕ → List ℕ → Type 0
IsPast fits spelling bytes left = (value : _) (rest : List ℕ) → fits value → bytes ≡ spelling value ++ rest → left ≡ rest

-- a name and a value
abbrev pub IsColumn : List ℕ × Value → Type 0
IsColumn column = IsName column.0 × IsValue column.1
