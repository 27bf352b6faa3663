-- A file that lies in a folder in memory.
use Rattle.std.specs.Prelude.{ℕ, Bool, List}

-- a message file: its bytes, and whether it is held back
pub record StoredFile : Type 0 where
  pub bytes : List ℕ
  pub held : Bool
