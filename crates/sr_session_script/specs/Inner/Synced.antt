-- What SYNCHRONIZE records.
-- Here is what no contract of the program says by itself.
use Rattle.std.specs.Prelude.{⊤}
use Rattle.sr_base.specs.Fields.{IsListOf}
use Rattle.sr_base.specs.Values.{IsShort}
use Rattle.sr_session_script.specs.Synced.{TableRows}

-- each row can be spelled in an entry
abbrev pub IsShortView : TableRows → Type 0
IsShortView view = ⊤ × IsListOf (IsListOf IsShort) view.1
