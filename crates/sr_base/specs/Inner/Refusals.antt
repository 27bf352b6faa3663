-- Which bytes are no text, and which are no name.
-- Here is what no contract of the program says by itself.
use Rattle.std.specs.Prelude.{ℕ, IsTrue, List}
use Rattle.sr_base.specs.declared.refusals.BadName.{BadName}
use Rattle.sr_base.specs.declared.refusals.BadName.TheVariants as bad_name
use Rattle.sr_base.specs.Names.{is_name}

-- the bytes are no name in any case
abbrev pub IsBadName : List ℕ → BadName → Type 0
IsBadName bytes bad_name.NotAName = ¬ (IsTrue (is_name bytes))
IsBadName bytes bad_name.Memory = Unit {0}
