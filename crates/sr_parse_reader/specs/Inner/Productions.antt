-- Productions as their readers answer them: the parts in one value, with what a reader may not pass.
use Rattle.std.specs.Prelude.{◌≡◌, ℕ, ◌≤◌, Bool, true, List, [], ◌∷◌, length, Option, Result}
use Rattle.sr_ast.specs.Terms.{Term, depth}
use Rattle.sr_ast.specs.Terms.Term.{column}
use Rattle.sr_ast.specs.Exprs.{term_of}
use Rattle.sr_ast.specs.declared.action.Action.{Action}
use Rattle.sr_ast.specs.declared.expr.Expr.{Expr}
use Rattle.sr_ast.specs.declared.create.ColumnRule.{ColumnRule}
use Rattle.sr_ast.specs.declared.query.Join.{Join}
use Rattle.sr_ast.specs.declared.keyword.Keyword.{Keyword}
use Rattle.sr_parse_grammar.specs.declared.symbol.Sign.{Sign}
use Rattle.sr_ast.specs.declared.keyword.Keyword.TheVariants as key
use Rattle.sr_parse_grammar.specs.declared.symbol.Sign.TheVariants as mark
use Rattle.sr_parse_reader.specs.declared.reader.Broken.{Broken}
use Rattle.sr_parse_reader.specs.declared.exprs.Room.{Room}
use Rattle.sr_parse_reader.specs.declared.exprs.Sized.{Sized}
use Rattle.sr_parse_grammar.specs.Symbols.{Symbols, word, sign, IsWord, IsSign}
use Rattle.sr_parse_grammar.specs.Listing.{Row}
use Rattle.sr_parse_grammar.specs.Expressions.{Tightness, Reads, IsColumn}
use Rattle.sr_parse_grammar.specs.Writing.{IsJoin, IsJoinWord}
use Rattle.sr_parse_grammar.specs.Triggers.{Acts, IsAssigned, IsInserted}
use Rattle.sr_parse_grammar.specs.Triggers.Amount.{one}
use Rattle.sr_parse_grammar.specs.Tables.{IsKeyed, IsColumnRule, IsRules}
use Rattle.sr_parse_grammar.specs.Scripts.{IsWork}
use Rattle.sr_parse_grammar.specs.Inner.Going.{Stop, goes_on}
use Rattle.sr_parse_reader.specs.Inner.Reading.{Reading, mapped}

-- a key word, two of them, and a sign
abbrev pub Word : Keyword → Symbols → Unit {0} → Symbols → Type 0
Word k before x after = IsWord before k after

abbrev pub TwoWords : Keyword → Keyword → Symbols → Unit {0} → Symbols → Type 0
TwoWords k l before x after = before ≡ word k ∷ word l ∷ after

abbrev pub Mark : Sign → Symbols → Unit {0} → Symbols → Type 0
Mark s before x after = IsSign before s after

-- a name, or two with a dot between them
abbrev pub Reference : Symbols → Option (List ℕ) × List ℕ → Symbols → Type 0
Reference before r after = IsColumn before r.0 r.1 after

-- a column as a term
abbrev pub Named : Symbols → Term → Symbols → Type 0
Named before t after = (table : Option (List ℕ)) × (name : List ℕ) × IsColumn before table name after × (t ≡ column table name)

-- an expression of a level that the room holds
abbrev pub Fits : Tightness → Room → Symbols → Term → Symbols → Type 0
Fits level room before t after = Reads level room.parentheses before t after × (depth t ≤ room.depth)

-- what a reader of a level owes
abbrev pub ReadsLevel : Tightness → Room → Symbols → Symbols → Result Sized Broken → Type 0
ReadsLevel level room before here result = Reading (Fits level room) (Stop (goes_on level)) before here (mapped (λ sized. term_of sized.expr) result)

-- one action
abbrev pub OneAction : ℕ → Symbols → Action → Symbols → Type 0
OneAction ifs before x after = Acts one ifs before (x ∷ []) after

-- what stands behind SET, and behind INSERT, of an action
abbrev pub Assigned : Symbols → Option (List ℕ) × List ℕ × Expr → Symbols → Type 0
Assigned before set after = IsAssigned before set.0 set.1 set.2 after

abbrev pub Inserted : Symbols → List ℕ × List (List ℕ) × List Expr → Symbols → Type 0
Inserted before insert after = IsInserted before insert.0 insert.1 insert.2 after

-- ( * )
abbrev pub Counted : Symbols → Unit {0} → Symbols → Type 0
Counted before x after = before ≡ sign mark.Open ∷ sign mark.Times ∷ sign mark.Close ∷ after

-- [INNER] JOIN, and at most seven joins
abbrev pub Joining : Symbols → Unit {0} → Symbols → Type 0
Joining before x after = IsJoinWord before after

abbrev pub FewJoins : Symbols → List Join → Symbols → Type 0
FewJoins before joins after = Row IsJoin before joins after × (length joins ≤ 7)

-- columns with the key; a column with the key, where there is one or none; the rules of a column
abbrev pub Keyed : Symbols → List ColumnRule × List (List ℕ) → Symbols → Type 0
Keyed before read after = IsKeyed before read.0 read.1 after

abbrev pub Ruled : List (List ℕ) → Symbols → ColumnRule × List (List ℕ) → Symbols → Type 0
Ruled held before read after = IsColumnRule before read.0 held read.1 after

abbrev pub Rules : Bool → Symbols → Bool × Bool × Bool → Symbols → Type 0
Rules may_be_key before rules after = IsRules before rules.0 rules.1 rules.2 after × (rules.2 ≡ true → may_be_key ≡ true)

-- FOR EACH ROW BEGIN
abbrev pub EachRow : Symbols → Unit {0} → Symbols → Type 0
EachRow before x after = before ≡ word key.For ∷ word key.Each ∷ word key.Row ∷ word key.Begin ∷ after

-- [WORK]
abbrev pub Work : Symbols → Unit {0} → Symbols → Type 0
Work before x after = IsWork before after
