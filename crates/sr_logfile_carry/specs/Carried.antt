-- A log that goes on in another file from a position on.
use Rattle.std.specs.Prelude.{ℕ, true}
use Rattle.sr_logfile.specs.Log.{Log}
use Rattle.sr_site.specs.declared.file.File.{File}

-- the log that begins at a position of another one and goes on as that does, in a file of its own
abbrev pub carried : Log → ℕ → File → Log
carried log keep into = record { file = into; base = keep; end = log.end; usable = true }
