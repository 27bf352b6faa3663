-- A log, as contracts see it.
use Rattle.std.specs.Prelude.{ℕ, Bool}
use Rattle.sr_site.specs.declared.file.File.{File}

-- a log file that was opened: which of the five, the stream positions of its first gate and of its first closed gate, and whether it can
-- still be used
pub record Log : Type 0 where
  pub file : File
  pub base : ℕ
  pub end : ℕ
  pub usable : Bool
