-- What comes in and goes out in pieces.
-- Here is what no contract of the program says by itself.
use Rattle.std.specs.Prelude.{◌≡◌, ℕ}
use Rattle.sr_site.specs.Causes.{Rose}
use Rattle.dbremote_command.specs.declared.stream.InputFault.{InputFault}
use Rattle.dbremote_command.specs.declared.stream.InputFault.TheVariants.{Source, TooLong, Memory}

-- why no script was read: the source's count rose, or it stays
abbrev pub InputCause : ℕ → ℕ → InputFault → Type 0
InputCause before now Source = Rose before now
InputCause before now TooLong = now ≡ before
InputCause before now Memory = now ≡ before
