-- Readers of triggers: the parts that are no actions.
use Rattle.std.proofs.Common.{◌≡◌, ℕ, List, [], ◌∷◌, Ok, refl, sym, ap, ◌∙◌, inl, inr, arith}
use Rattle.sr_base.specs.declared.value.Kind.{Kind}
use Rattle.sr_ast.specs.Chains.{Chain}
use Rattle.sr_ast.specs.Actions.{chain_of}
use Rattle.sr_ast.specs.declared.create.CreateTrigger.{CreateTrigger}
use Rattle.sr_ast.specs.declared.create.Image.{Image}
use Rattle.sr_ast.specs.declared.keyword.Keyword.{Keyword}
use Rattle.sr_ast.specs.declared.keyword.Keyword.TheVariants as key
use Rattle.sr_parse_grammar.specs.declared.symbol.Sign.TheVariants as mark
use Rattle.sr_parse_grammar.specs.declared.symbol.Symbol.{Symbol}
use Rattle.sr_parse_grammar.specs.Symbols.{Symbols, first, word, IsName, IsWord}
use Rattle.sr_parse_grammar.specs.Listing.{Listed, Row}
use Rattle.sr_parse_grammar.specs.Listing.Row.{none as no_item}
use Rattle.sr_parse_grammar.specs.Catalog.{IsKind}
use Rattle.sr_parse_grammar.specs.Triggers.{IsOf, AreAliases, IsVariable, IsActions, IsTrigger}
use Rattle.sr_parse_grammar.specs.Triggers.Acts.{none as no_act}
use Rattle.sr_parse_grammar.specs.Inner.Going.{Stop, is_comma, is_image, is_declare, action_starts}
use Rattle.sr_parse_reader.specs.Inner.Reading.{Alike, Reading, Anywhere, BeforeWord}
use Rattle.sr_parse_reader.specs.Inner.Productions.{Word, TwoWords, Mark, EachRow}
use Rattle.sr_parse_grammar.proofs.Steps.{Stop-at, Stop-begins}
use Rattle.sr_parse_grammar.proofs.Triggering.{acts_no_declare}
use Rattle.sr_parse.proofs.Rulings.{kind_sample}
use Rattle.sr_parse_reader.proofs.Loops.{Goes-on}
use Rattle.sr_parse_reader.proofs.Parts.{Seq, Leads, Sample, Casts, goes_first}
use Rattle.sr_parse_reader.proofs.Starts.{nothing_read, standing, lacks, meant_word, word_sample, sign_sample, name_sample}

-- ---- words

abbrev pub TwoParts : Keyword → Keyword → Symbols → Unit {0} × Unit {0} → Symbols → Type 0
TwoParts k l = Seq (Word k) (Word l)

pub two_to : (k l : Keyword) (b : Symbols) (x : Unit {0} × Unit {0}) (a : Symbols) → TwoParts k l b x a → TwoWords k l b tt a
two_to k l b x a (middle, h, m) = cc

pub two_back : (k l : Keyword) (b : Symbols) (y : Unit {0}) (a : Symbols) → TwoWords k l b y a → (x : Unit {0} × Unit {0}) × TwoParts k l b x a × (tt ≡ y)
two_back k l b y a h = ((tt, tt), (word l ∷ a, h, refl), refl)

abbrev pub EachParts : Symbols → Unit {0} × (Unit {0} × (Unit {0} × Unit {0})) → Symbols → Type 0
EachParts = Seq (Word key.For) (Seq (Word key.Each) (Seq (Word key.Row) (Word key.Begin)))

pub each_to : (b : Symbols) (x : Unit {0} × (Unit {0} × (Unit {0} × Unit {0}))) (a : Symbols) → EachParts b x a → EachRow b tt a
each_to b x a (m, h, (n, i, (o, j, k))) = cc

pub each_back : (b : Symbols) (y : Unit {0}) (a : Symbols) → EachRow b y a → (x : Unit {0} × (Unit {0} × (Unit {0} × Unit {0}))) × EachParts b x a × (tt ≡ y)
each_back b y a h = ((tt, (tt, (tt, tt))), (_, h, (_, refl, (_, refl, refl))), refl)

-- EACH ROW BEGIN, and ROW BEGIN
pub begin_sample : Sample (Seq (Word key.Row) (Word key.Begin))
begin_sample = goes_first _ _ [] (word_sample key.Row) (word_sample key.Begin)

pub each_sample : Sample (Seq (Word key.Each) (Seq (Word key.Row) (Word key.Begin)))
each_sample = goes_first _ _ [] (word_sample key.Each) begin_sample

-- ---- what may be absent

-- the symbol that is next where it looks alike
pub begins_as : {before there next rest : Symbols} {s t : Symbol} → Alike before there → before ≡ s ∷ next → there ≡ t ∷ rest → s ≡ t
begins_as alike e f = let a = ap first e in let b = ap first f in cc

-- OF, and columns
abbrev pub OfParts : Symbols → Unit {0} × List (List ℕ) → Symbols → Type 0
OfParts = Seq (Word key.Of) (Listed IsName)

pub of_cast : {before next : Symbols} → IsWord before key.Of next → Casts OfParts IsOf (Stop is_comma) (BeforeWord key.On) (λ p. p.1) before
of_cast w = record {
  to = λ b x a h. inr (record { next = h.0; of = h.1; listed = h.2 });
  back = back w;
}
  where
    back : {before next : Symbols} → IsWord before key.Of next → (b : Symbols) (y : List (List ℕ)) (a : Symbols) → Alike before b → IsOf b y a → BeforeWord key.On a → (x : Unit {0} × List (List ℕ)) × OfParts b x a × Stop is_comma a × (x.1 ≡ y)
    back w b y a alike (inl (n, e)) (next, v) = let s = begins_as alike w (e ∙ v) in absurd (cc)
    back w b y a alike (inr h) (next, v) = ((tt, y), (h.next, h.of, h.listed), Stop-at is_comma v refl, refl)

pub of_absent : {before here : Symbols} {x : List (List ℕ)} → here ≡ before → ((rest : Symbols) → IsWord before key.Of rest → ⊥) → x ≡ [] → Reading IsOf (BeforeWord key.On) before here (Ok x)
of_absent {before = before} {x = x} e absent none = nothing_read IsOf (BeforeWord key.On) x e (λ after. inl (none, refl)) only
  where
    only : (there : Symbols) → Alike before there → (y : List (List ℕ)) (rest : Symbols) → IsOf there y rest → BeforeWord key.On rest → (x ≡ y) × (there ≡ rest)
    only there alike y rest (inl (n, f)) q = (none ∙ sym n, f)
    only there alike y rest (inr h) q = absurd (lacks alike absent h.of)

-- ---- variables

abbrev pub VariableParts : Symbols → Unit {0} × (List ℕ × (Kind × Unit {0})) → Symbols → Type 0
VariableParts = Seq (Word key.Declare) (Seq IsName (Seq IsKind (Mark mark.Semicolon)))

abbrev pub variable_of : Unit {0} × (List ℕ × (Kind × Unit {0})) → List ℕ × Kind
variable_of p = (p.1.0, p.1.1.0)

pub variable_to : (b : Symbols) (x : Unit {0} × (List ℕ × (Kind × Unit {0}))) (a : Symbols) → VariableParts b x a → IsVariable b (variable_of x) a
variable_to b x a (named, d, (typed, n, (ended, k, s))) = record { named = named; typed = typed; ended = ended; declare = d; name = n; kind = k; semicolon = s }

pub variable_back : (b : Symbols) (y : List ℕ × Kind) (a : Symbols) → IsVariable b y a → (x : Unit {0} × (List ℕ × (Kind × Unit {0}))) × VariableParts b x a × (variable_of x ≡ y)
variable_back b (n, k) a h = ((tt, (n, (k, tt))), (h.named, h.declare, (h.typed, h.name, (h.ended, h.kind, h.semicolon))), refl)

-- what stands behind the parts of a variable
pub typed_sample : Sample (Seq IsKind (Mark mark.Semicolon))
typed_sample = goes_first IsKind (Mark mark.Semicolon) [] kind_sample (sign_sample mark.Semicolon)

pub named_sample : Sample (Seq IsName (Seq IsKind (Mark mark.Semicolon)))
named_sample = goes_first IsName (Seq IsKind (Mark mark.Semicolon)) [] name_sample typed_sample

-- DECLARE is next: variables do not end here
pub declare_goes : {here next : Symbols} → IsWord here key.Declare next → Goes-on (Stop is_declare) here
declare_goes w there alike s = Stop-begins is_declare (standing there (sym alike ∙ ap first w)) refl s

-- it is not: there is no variable
pub no_variable : {here : Symbols} → ((rest : Symbols) → IsWord here key.Declare rest → ⊥) → (there : Symbols) → Alike here there → (x : List ℕ × Kind) (next : Symbols) → IsVariable there x next → ⊥
no_variable absent there alike x next h = lacks alike absent h.declare

-- ---- triggers

abbrev pub TriggerValue : Type 0
TriggerValue = List ℕ × (Unit {0} × (List (List ℕ) × (Unit {0} × (List ℕ × (Unit {0} × (List (Image × List ℕ) × (Unit {0} × (List (List ℕ × Kind) × (Chain × Unit {0})))))))))

abbrev pub TriggerParts : Symbols → TriggerValue → Symbols → Type 0
TriggerParts = Seq IsName (Seq (TwoWords key.Resolve key.Update) (Seq IsOf (Seq (Word key.On) (Seq IsName (Seq (Word key.Referencing) (Seq AreAliases (Seq EachRow (Seq (Row IsVariable) (Seq (IsActions 200) (Word key.End))))))))))

abbrev pub trigger_of : TriggerValue → CreateTrigger
trigger_of p = record {
  name = p.0;
  columns = p.1.1.0;
  table = p.1.1.1.1.0;
  aliases = p.1.1.1.1.1.1.0;
  variables = p.1.1.1.1.1.1.1.1.0;
  actions = p.1.1.1.1.1.1.1.1.1.0;
}

pub trigger_to : (b : Symbols) (x : TriggerValue) (a : Symbols) → TriggerParts b x a → IsTrigger b (trigger_of x) a
trigger_to b x a (resolve_, name, (of_, resolve, (on_, columns, (table_, on, (referencing_, table, (aliases_, referencing, (for_, aliases, (variables_, each, (actions_, variables, (end_, actions, end)))))))))) = record {
  resolve_ = resolve_;
  of_ = of_;
  on_ = on_;
  table_ = table_;
  referencing_ = referencing_;
  aliases_ = aliases_;
  for_ = for_;
  variables_ = variables_;
  actions_ = actions_;
  end_ = end_;
  name = name;
  resolve = resolve;
  columns = columns;
  on = on;
  table = table;
  referencing = referencing;
  aliases = aliases;
  each = each;
  variables = variables;
  actions = actions;
  end = end;
}

pub trigger_back : (b : Symbols) (y : CreateTrigger) (a : Symbols) → IsTrigger b y a → (x : TriggerValue) × TriggerParts b x a × (trigger_of x ≡ y)
trigger_back b y a h = (
  (y.name, (tt, (y.columns, (tt, (y.table, (tt, (y.aliases, (tt, (y.variables, (y.actions, tt)))))))))),
  (h.resolve_, h.name, (h.of_, h.resolve, (h.on_, h.columns, (h.table_, h.on, (h.referencing_, h.table, (h.aliases_, h.referencing, (h.for_, h.aliases, (h.variables_, h.each, (h.actions_, h.variables, (h.end_, h.actions, h.end)))))))))),
  refl,
)

-- the parts that may be empty, and those of more words than one
resolve_sample : Sample (TwoWords key.Resolve key.Update)
resolve_sample = record { more = word key.Resolve ∷ word key.Update ∷ []; meant = (meant_word key.Resolve, (meant_word key.Update, tt)); value = tt; spells = λ after. refl }

of_sample : Sample IsOf
of_sample = record { more = []; meant = tt; value = []; spells = λ after. inl (refl, refl) }

no_alias_sample : Sample AreAliases
no_alias_sample = record { more = []; meant = tt; value = []; spells = λ after. record { listed = no_item; apart = λ k l d less more. absurd (omega (arith, more)) } }

row_sample : Sample EachRow
row_sample = record {
  more = word key.For ∷ word key.Each ∷ word key.Row ∷ word key.Begin ∷ [];
  meant = (meant_word key.For, (meant_word key.Each, (meant_word key.Row, (meant_word key.Begin, tt))));
  value = tt;
  spells = λ after. refl;
}

no_variable_sample : Sample (Row IsVariable)
no_variable_sample = record { more = []; meant = tt; value = []; spells = λ after. no_item }

no_action_sample : Sample (IsActions 200)
no_action_sample = record { more = []; meant = tt; value = chain_of []; spells = λ after. record { actions = []; is = refl; acts = no_act } }

-- what stands behind each part of a trigger
pub from_actions : Sample (Seq (IsActions 200) (Word key.End))
from_actions = goes_first (IsActions 200) (Word key.End) [] no_action_sample (word_sample key.End)

pub from_variables : Sample (Seq (Row IsVariable) (Seq (IsActions 200) (Word key.End)))
from_variables = goes_first (Row IsVariable) (Seq (IsActions 200) (Word key.End)) [] no_variable_sample from_actions

pub from_each : Sample (Seq EachRow (Seq (Row IsVariable) (Seq (IsActions 200) (Word key.End))))
from_each = goes_first EachRow (Seq (Row IsVariable) (Seq (IsActions 200) (Word key.End))) [] row_sample from_variables

pub from_aliases : Sample (Seq AreAliases (Seq EachRow (Seq (Row IsVariable) (Seq (IsActions 200) (Word key.End)))))
from_aliases = goes_first AreAliases (Seq EachRow (Seq (Row IsVariable) (Seq (IsActions 200) (Word key.End)))) [] no_alias_sample from_each

pub from_referencing : Sample (Seq (Word key.Referencing) (Seq AreAliases (Seq EachRow (Seq (Row IsVariable) (Seq (IsActions 200) (Word key.End))))))
from_referencing = goes_first (Word key.Referencing) (Seq AreAliases (Seq EachRow (Seq (Row IsVariable) (Seq (IsActions 200) (Word key.End))))) [] (word_sample key.Referencing) from_aliases

pub from_table : Sample (Seq IsName (Seq (Word key.Referencing) (Seq AreAliases (Seq EachRow (Seq (Row IsVariable) (Seq (IsActions 200) (Word key.End)))))))
from_table = goes_first IsName (Seq (Word key.Referencing) (Seq AreAliases (Seq EachRow (Seq (Row IsVariable) (Seq (IsActions 200) (Word key.End)))))) [] name_sample from_referencing

pub from_on : Sample (Seq (Word key.On) (Seq IsName (Seq (Word key.Referencing) (Seq AreAliases (Seq EachRow (Seq (Row IsVariable) (Seq (IsActions 200) (Word key.End))))))))
from_on = goes_first (Word key.On) (Seq IsName (Seq (Word key.Referencing) (Seq AreAliases (Seq EachRow (Seq (Row IsVariable) (Seq (IsActions 200) (Word key.End))))))) [] (word_sample key.On) from_table

pub from_columns : Sample (Seq IsOf (Seq (Word key.On) (Seq IsName (Seq (Word key.Referencing) (Seq AreAliases (Seq EachRow (Seq (Row IsVariable) (Seq (IsActions 200) (Word key.End)))))))))
from_columns = goes_first IsOf (Seq (Word key.On) (Seq IsName (Seq (Word key.Referencing) (Seq AreAliases (Seq EachRow (Seq (Row IsVariable) (Seq (IsActions 200) (Word key.End)))))))) [] of_sample from_on

pub from_resolve : Sample (Seq (TwoWords key.Resolve key.Update) (Seq IsOf (Seq (Word key.On) (Seq IsName (Seq (Word key.Referencing) (Seq AreAliases (Seq EachRow (Seq (Row IsVariable) (Seq (IsActions 200) (Word key.End))))))))))
from_resolve = goes_first (TwoWords key.Resolve key.Update) (Seq IsOf (Seq (Word key.On) (Seq IsName (Seq (Word key.Referencing) (Seq AreAliases (Seq EachRow (Seq (Row IsVariable) (Seq (IsActions 200) (Word key.End))))))))) [] resolve_sample from_columns

-- where a part of a trigger may end
pub columns_end : {A : Type 0} (Y : Symbols → A → Symbols → Type 0) → Leads (BeforeWord key.On) (Seq (Word key.On) Y) Anywhere
columns_end Y b y a h q = (h.0, h.1)

pub aliases_end : {A : Type 0} (Y : Symbols → A → Symbols → Type 0) → Leads (Stop is_image) (Seq EachRow Y) Anywhere
aliases_end Y b y a h q = Stop-at is_image h.1 refl

pub variables_end : Leads (Stop is_declare) (Seq (IsActions 200) (Word key.End)) Anywhere
variables_end b y a h q = acts_no_declare h.1 (Stop-at is_declare h.2 refl)

pub actions_end : Leads (Stop action_starts) (Word key.End) Anywhere
actions_end b y a h q = Stop-at action_starts h refl
