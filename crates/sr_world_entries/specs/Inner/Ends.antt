-- Whether an entry may stand in a log by its bytes alone, and where it ends.
use Rattle.std.specs.Prelude.{◌≡◌, ⊤, ℕ, ◌+◌, ◌≤◌, ◌^◌, List, length, Option, Some, None}
use Rattle.sr_base.specs.Fields.{IsListOf}
use Rattle.sr_base.specs.Values.{IsShort}
use Rattle.sr_base.specs.declared.value.Value.{Value as Cell}
use Rattle.sr_book.specs.Entries.{Name}
use Rattle.sr_logform.specs.Entries.{entry_spelling, IsEntry}
use Rattle.sr_logform.specs.Limits.{longest_body}
use Rattle.sr_logform.specs.declared.entry.Entry.{Entry}
use Rattle.sr_logform.specs.declared.entry.Entry.TheVariants.{Own, From, Ddl, Sync, Pass, Note}

-- it has a spelling, which is no longer than that of its kind may be, and ends at 2^62 at most
pub record HasRoom (place : ℕ) (entry : Entry) : Type 0 where
  pub spelled : IsEntry entry
  pub short : length (entry_spelling entry) ≤ longest_body entry
  pub ends : place + (length (entry_spelling entry) + 5) ≤ 2 ^ 62

-- where it ends; nothing where it may not stand
unfoldable pub IsEndOf : ℕ → Entry → Option ℕ → Type 0
IsEndOf place entry None = ¬ (HasRoom place entry)
IsEndOf place entry (Some end) = HasRoom place entry × (end ≡ place + (length (entry_spelling entry) + 5))

-- what a database does by itself: nothing that it takes from a partner or notes of one
abbrev pub IsLocal : Entry → Type 0
IsLocal (Own changes) = ⊤
IsLocal (From user at ops) = ⊥
IsLocal (Ddl text) = ⊤
IsLocal (Sync user tables) = ⊤
IsLocal (Pass users only text changes) = ⊤
IsLocal (Note user note) = ⊥

-- a table of a Sync, each of whose rows can be spelled
abbrev pub IsShortTable : Name × List (List Cell) → Type 0
IsShortTable table = ⊤ × IsListOf (IsListOf IsShort) table.1
