-- Productions made of parts.
use Rattle.sr_ast.specs.declared.keyword.Keyword.{Keyword}
use Rattle.sr_parse_grammar.specs.declared.symbol.Sign.{Sign}
use Rattle.sr_parse_grammar.specs.Symbols.{Symbols, IsWord, IsSign}

-- a word, and then a production
abbrev pub IsBehind : {A : Type 0} → Keyword → (Symbols → A → Symbols → Type 0) → Symbols → A → Symbols → Type 0
IsBehind k X before x after = (next : Symbols) × IsWord before k next × X next x after

-- a sign, and then a production
abbrev pub IsBehindSign : {A : Type 0} → Sign → (Symbols → A → Symbols → Type 0) → Symbols → A → Symbols → Type 0
IsBehindSign m X before x after = (next : Symbols) × IsSign before m next × X next x after

-- one production behind the other: the values of both
abbrev pub Seq : {A B : Type 0} → (Symbols → A → Symbols → Type 0) → (Symbols → B → Symbols → Type 0) → Symbols → A × B → Symbols → Type 0
Seq X Y before p after = (middle : Symbols) × X before p.0 middle × Y middle p.1 after

-- a production of the parts that a value has
abbrev pub Of : {A B : Type 0} → (B → A) → (Symbols → A → Symbols → Type 0) → Symbols → B → Symbols → Type 0
Of parts X before y after = X before (parts y) after
