-- Calls of a site, and the device on which each is made.
use Rattle.std.specs.Prelude.{◌≡◌, ℕ, List}
use Rattle.sr_site.specs.declared.file.File.{File}

-- what may be asked of a file: to put bytes at a place, to cut it to a length, to make it durable
pub data Call : Type 0 where
  write : File → ℕ → List ℕ → Call
  cut : File → ℕ → Call
  sync : File → Call

-- it is asked of this file
abbrev pub IsCallOn : File → Call → Type 0
IsCallOn file (write other place bytes) = other ≡ file
IsCallOn file (cut other to) = other ≡ file
IsCallOn file (sync other) = other ≡ file
