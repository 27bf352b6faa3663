-- A table of key words.
use Rattle.std.specs.Prelude.{◌≡◌, ℕ, ◌-◌, Bool, true, List, [], get_or}
use Rattle.std.specs.List.{list_all, list_any}
use Rattle.std.specs.Str.{bytes_eq}
use Rattle.sr_ast.specs.declared.keyword.Keyword.{Keyword}
use Rattle.sr_ast.specs.Keywords.{lower, spelling}

-- key words with their spellings
abbrev pub Entries : Type 0
Entries = List (Keyword × List ℕ)

-- the letter that a key word begins with, in lower case
abbrev pub begins : Keyword → ℕ
begins k = get_or (lower (spelling k)) 0 0

-- each entry is a key word and its spelling
abbrev pub are_spelled : Entries → Bool
are_spelled entries = list_all (λ (entry : Keyword × List ℕ). bytes_eq entry.1 (spelling entry.0)) entries

-- the spelling of a key word is among them
abbrev pub has : Entries → Keyword → Bool
has entries k = list_any (λ (entry : Keyword × List ℕ). bytes_eq entry.1 (spelling k)) entries

-- A table has a row for each letter: the key words that begin with it, each with its spelling.
pub record IsTable (table : List Entries) : Type 0 where
  pub spelled : list_all are_spelled table ≡ true
  pub listed : (k : Keyword) → has (get_or table (begins k - 97) []) k ≡ true
