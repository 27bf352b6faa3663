-- Where a production may end.
use Rattle.std.specs.Prelude.{◌≡◌, Bool, true, false, ◌||◌, [], ◌∷◌, Option, Some, None, ◌⊎◌}
use Rattle.sr_ast.specs.declared.keyword.Keyword.TheVariants as key
use Rattle.sr_parse_grammar.specs.declared.symbol.Sign.TheVariants as sign
use Rattle.sr_parse_grammar.specs.declared.symbol.Symbol.{Symbol}
use Rattle.sr_parse_grammar.specs.declared.symbol.Symbol.TheVariants as symbol
use Rattle.sr_parse_grammar.specs.Symbols.{Symbols, IsSign}
use Rattle.sr_parse_grammar.specs.Expressions.{Tightness, joins, compares}
use Rattle.sr_parse_grammar.specs.Expressions.Tightness.{disjunction, conjunction, negation, comparison, sum, product, signed, operand}

-- the symbols do not begin with one that passes the test
abbrev pub Stop : (Symbol → Bool) → Symbols → Type 0
Stop test [] = Unit {0}
Stop test (s ∷ after) = test s ≡ false

-- they begin with one that passes it
abbrev pub Begins : (Symbol → Bool) → Symbols → Type 0
Begins test [] = ⊥
Begins test (s ∷ after) = test s ≡ true

abbrev pub is_there : {A : Type 0} → Option A → Bool
is_there None = false
is_there (Some x) = true

abbrev pub is_dot : Symbol → Bool
is_dot (symbol.Sign sign.Dot) = true
is_dot s = false

abbrev pub is_is : Symbol → Bool
is_is (symbol.Keyword key.Is) = true
is_is s = false

abbrev pub is_comma : Symbol → Bool
is_comma (symbol.Sign sign.Comma) = true
is_comma s = false

abbrev pub is_open : Symbol → Bool
is_open (symbol.Sign sign.Open) = true
is_open s = false

-- the symbols with which an expression of a level goes on
abbrev pub factor_goes : Symbol → Bool
factor_goes s = is_there (joins product s) || is_dot s

abbrev pub sum_goes : Symbol → Bool
sum_goes s = is_there (joins sum s) || factor_goes s

abbrev pub compare_goes : Symbol → Bool
compare_goes s = is_there (compares s) || is_is s

abbrev pub relation_goes : Symbol → Bool
relation_goes s = compare_goes s || sum_goes s

abbrev pub and_goes : Symbol → Bool
and_goes s = is_there (joins conjunction s) || relation_goes s

abbrev pub expression_goes : Symbol → Bool
expression_goes s = is_there (joins disjunction s) || and_goes s

abbrev pub is_where : Symbol → Bool
is_where (symbol.Keyword key.Where) = true
is_where s = false

abbrev pub is_as : Symbol → Bool
is_as (symbol.Keyword key.As) = true
is_as s = false

abbrev pub is_join : Symbol → Bool
is_join (symbol.Keyword key.Join) = true
is_join (symbol.Keyword key.Inner) = true
is_join s = false

abbrev pub is_order : Symbol → Bool
is_order (symbol.Keyword key.Order) = true
is_order s = false

-- with what a column that orders goes on
abbrev pub is_direction : Symbol → Bool
is_direction (symbol.Sign sign.Dot) = true
is_direction (symbol.Keyword key.Asc) = true
is_direction (symbol.Keyword key.Desc) = true
is_direction s = false

-- the symbols with which a condition goes on, or that begin one
abbrev pub condition_goes : Symbol → Bool
condition_goes s = is_where s || expression_goes s

-- the end of a statement: the end of the symbols, or a `;`
abbrev pub Ends : Symbols → Type 0
Ends after = (after ≡ []) ⊎ ((next : Symbols) × IsSign after sign.Semicolon next)

-- the symbols with which an expression of each level goes on
abbrev pub goes_on : Tightness → Symbol → Bool
goes_on disjunction = expression_goes
goes_on conjunction = and_goes
goes_on negation = relation_goes
goes_on comparison = relation_goes
goes_on sum = sum_goes
goes_on product = factor_goes
goes_on signed = is_dot
goes_on operand = is_dot

-- the symbols with which an action begins
abbrev pub action_starts : Symbol → Bool
action_starts (symbol.Keyword key.Set) = true
action_starts (symbol.Keyword key.Insert) = true
action_starts (symbol.Keyword key.If) = true
action_starts s = false

-- a comma, or the end of the parentheses
abbrev pub Closes : Symbols → Type 0
Closes after = ((next : Symbols) × IsSign after sign.Comma next) ⊎ ((next : Symbols) × IsSign after sign.Close next)

-- the symbols with which an alias begins
abbrev pub is_image : Symbol → Bool
is_image (symbol.Keyword key.Old) = true
is_image (symbol.Keyword key.New) = true
is_image (symbol.Keyword key.Remote) = true
is_image s = false

-- the symbol with which a variable begins
abbrev pub is_declare : Symbol → Bool
is_declare (symbol.Keyword key.Declare) = true
is_declare s = false

-- the key words with which a rule of a column begins
abbrev pub rule_starts : Symbol → Bool
rule_starts (symbol.Keyword key.Not) = true
rule_starts (symbol.Keyword key.Null) = true
rule_starts (symbol.Keyword key.Primary) = true
rule_starts s = false
