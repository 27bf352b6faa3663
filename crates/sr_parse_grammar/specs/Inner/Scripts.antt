-- Scripts and statements, as they are written.
-- Here is what no contract of the program says by itself.
use Rattle.std.specs.Prelude.{◌≡◌, List, [], ◌∷◌, ◌++◌, ◌⊎◌}
use Rattle.sr_ast.specs.declared.stmt.Stmt.{Stmt}
use Rattle.sr_ast.specs.declared.keyword.Keyword.{Keyword}
use Rattle.sr_parse_grammar.specs.Symbols.{Symbols, word}
use Rattle.sr_parse_grammar.specs.Scripts.{IsStatement}

-- two words, and then a production
abbrev pub IsBehindTwo : {A : Type 0} → Keyword → Keyword → (Symbols → A → Symbols → Type 0) → Symbols → A → Symbols → Type 0
IsBehindTwo k l X before x after = (next : Symbols) × (before ≡ word k ∷ word l ∷ next) × X next x after

-- one statement more, or nothing
abbrev pub IsPiece : Symbols → List Stmt → List Stmt → Symbols → Type 0
IsPiece before old new after = ((new ≡ old) × (before ≡ after)) ⊎ ((s : Stmt) × (new ≡ old ++ s ∷ []) × IsStatement before s after)
