-- Symbols that spell a value of a production.
use Rattle.std.proofs.Common.{arith, false, [], ◌∷◌, ◌++◌, None, refl, inl}
use Rattle.sr_ast.specs.declared.keyword.Keyword.TheVariants as key
use Rattle.sr_parse_grammar.specs.declared.symbol.Sign.TheVariants as mark
use Rattle.sr_parse_grammar.specs.Symbols.{Symbols, IsName}
use Rattle.sr_parse_grammar.specs.Listing.{Listed, IsNames}
use Rattle.sr_parse_grammar.specs.Listing.Listed.{one}
use Rattle.sr_parse_grammar.specs.Listing.Row.{none}
use Rattle.sr_parse_grammar.specs.Expressions.{IsExpr}
use Rattle.sr_parse_grammar.specs.Writing.{IsSource, IsSet, IsDirection, IsOrder, IsCondition, IsOrdering}
use Rattle.sr_parse_reader.specs.Inner.Productions.{Mark, FewJoins}
use Rattle.sr_parse_reader.proofs.Parts.{Seq, Sample, goes_first}
pub use Rattle.sr_parse_grammar.proofs.Parts.{led_sample}
use Rattle.sr_parse_reader.proofs.Starts.{sign_sample, name_sample, expr_sample}
use Rattle.sr_parse_reader.proofs.Sets.{SetParts, set_of, set_to}

-- another production of the same symbols
pub sample_as : {A B : Type 0} (X : Symbols → A → Symbols → Type 0) (Y : Symbols → B → Symbols → Type 0) (f : A → B) → ((b : Symbols) (x : A) (a : Symbols) → X b x a → Y b (f x) a) → Sample X → Sample Y
sample_as X Y f to s = record { more = s.more; meant = s.meant; value = f s.value; spells = λ after. to (s.more ++ after) s.value after (s.spells after) }

-- two parts
pub sample_both : {A B : Type 0} (X : Symbols → A → Symbols → Type 0) (Y : Symbols → B → Symbols → Type 0) → Sample X → Sample Y → Sample (Seq X Y)
sample_both X Y s t = goes_first X Y [] s t

-- a list of one item
pub sample_listed : {A : Type 0} (X : Symbols → A → Symbols → Type 0) → Sample X → Sample (Listed X)
sample_listed X s = sample_as X (Listed X) (λ x. x ∷ []) (λ b x a h. one h) s

pub optional_names_sample : Sample IsNames
optional_names_sample = record { more = []; meant = tt; value = []; spells = λ after. inl (refl, refl) }

pub few_joins_sample : Sample FewJoins
few_joins_sample = record { more = []; meant = tt; value = []; spells = λ after. (none, omega arith) }

pub direction_sample : Sample IsDirection
direction_sample = record { more = []; meant = tt; value = false; spells = λ after. inl refl }

pub ordering_sample : Sample IsOrdering
ordering_sample = record { more = []; meant = tt; value = []; spells = λ after. inl (refl, refl) }

pub condition_sample : Sample IsCondition
condition_sample = led_sample key.Where IsExpr

-- `old`, a name, as a table and as a column that orders
pub source_sample : Sample IsSource
source_sample = sample_as IsName IsSource (λ n. record { table = n; alias = None }) (λ b x a h. record { named = a; table = h; alias = refl }) name_sample

pub order_sample : Sample IsOrder
order_sample = sample_as IsName IsOrder (λ n. record { table = None; column = n; descending = false }) (λ b x a h. record { directed = a; column = h; direction = inl refl }) name_sample

pub set_sample : Sample IsSet
set_sample = sample_as SetParts IsSet set_of set_to (sample_both IsName (Seq (Mark mark.Equal) IsExpr) name_sample (sample_both (Mark mark.Equal) IsExpr (sign_sample mark.Equal) expr_sample))
