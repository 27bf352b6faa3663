-- What a script does, one act after the other: entries that it commits, and lines that it prints.
use Rattle.std.specs.Prelude.{ℕ, ◌+◌, List, [], ◌∷◌, ◌++◌, codes}
use Rattle.std.specs.Fmt.{decimal}
use Rattle.sr_base.specs.declared.value.Value.{Value as Cell}
use Rattle.sr_base_dates.specs.Literals.{literal}
use Rattle.sr_database_history.specs.Folds.{size}
use Rattle.sr_database_history.specs.Recorded.{Recorded}

pub data ScriptAct : Type 0 where
  -- an entry is committed, and its line says where it ends
  commits : Recorded → ScriptAct
  -- there is nothing to commit
  nothing : ScriptAct
  -- the open transaction is rolled back
  rolled_back : ScriptAct
  -- a row of a SELECT
  row : List Cell → ScriptAct
  -- so many rows were selected, inserted, updated or deleted
  rows : ℕ → ScriptAct
  -- a passthrough region begins, and ends
  region_begins : ScriptAct
  region_ends : ScriptAct

-- ---- lines

-- a line ends with a line feed
abbrev pub line : List ℕ → List ℕ
line text = text ++ 10 ∷ []

-- values as literals, each behind a bar
abbrev pub barred : List Cell → List ℕ
barred [] = []
barred (v ∷ values) = 124 ∷ literal v ++ barred values

-- the values of a row as literals, with bars between them
abbrev pub row_text : List Cell → List ℕ
row_text [] = []
row_text (v ∷ values) = literal v ++ barred values

-- where the log ends after an act, if it ended at an offset before: an entry takes its bytes and five more
abbrev pub end_after : ℕ → ScriptAct → ℕ
end_after place (commits r) = place + (size r + 5)
end_after place nothing = place
end_after place rolled_back = place
end_after place (row values) = place
end_after place (rows count) = place
end_after place region_begins = place
end_after place region_ends = place

-- the line of an act
abbrev pub line_of : ℕ → ScriptAct → List ℕ
line_of place (commits r) = line (codes "committed " ++ decimal (place + (size r + 5)))
line_of place nothing = line (codes "nothing to commit")
line_of place rolled_back = line (codes "rolled back")
line_of place (row values) = line (row_text values)
line_of place (rows count) = line (decimal count ++ codes " rows")
line_of place region_begins = line (codes "passthrough on")
line_of place region_ends = line (codes "passthrough off")

-- where the log ends after acts
abbrev pub end_behind : ℕ → List ScriptAct → ℕ
end_behind place [] = place
end_behind place (a ∷ acts) = end_behind (end_after place a) acts

-- the lines of acts, the first of which finds the log's end at an offset
abbrev pub text_from : ℕ → List ScriptAct → List ℕ
text_from place [] = []
text_from place (a ∷ acts) = line_of place a ++ text_from (end_after place a) acts

-- ---- entries

-- the entry of an act, if it commits one
abbrev pub entry_in : ScriptAct → List Recorded
entry_in (commits r) = r ∷ []
entry_in nothing = []
entry_in rolled_back = []
entry_in (row values) = []
entry_in (rows count) = []
entry_in region_begins = []
entry_in region_ends = []

-- the entries that acts commit
abbrev pub entries_of : List ScriptAct → List Recorded
entries_of [] = []
entries_of (a ∷ acts) = entry_in a ++ entries_of acts
