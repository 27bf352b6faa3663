-- Readers of INSERT, UPDATE and DELETE, and of rows.
use Rattle.std.proofs.Common.{◌≡◌, ℕ, List, Option, refl}
use Rattle.sr_ast.specs.declared.expr.Expr.{Expr}
use Rattle.sr_ast.specs.declared.query.Insert.{Insert}
use Rattle.sr_ast.specs.declared.query.Update.{Update}
use Rattle.sr_ast.specs.declared.query.Delete.{Delete}
use Rattle.sr_ast.specs.declared.keyword.Keyword.TheVariants as key
use Rattle.sr_parse_grammar.specs.declared.symbol.Sign.TheVariants as mark
use Rattle.sr_parse_grammar.specs.Symbols.{Symbols, IsName}
use Rattle.sr_parse_grammar.specs.Listing.{Listed, IsNames}
use Rattle.sr_parse_grammar.specs.Expressions.{IsExpr}
use Rattle.sr_parse_grammar.specs.Writing.{IsRow, IsInsert, IsSet, IsUpdate, IsDelete, IsCondition}
use Rattle.sr_parse_grammar.specs.Inner.Going.{Stop, Ends, expression_goes, is_comma}
use Rattle.sr_parse_reader.specs.Inner.Reading.{Both}
use Rattle.sr_parse_reader.specs.Inner.Productions.{Word, Mark}
use Rattle.sr_parse_grammar.proofs.Steps.{Stop-at}
use Rattle.sr_parse_grammar.proofs.Lists.{Ends-stop}
use Rattle.sr_parse_grammar.proofs.Selecting.{led_stops}
use Rattle.sr_parse_reader.proofs.Parts.{Seq, Sample}
use Rattle.sr_parse_reader.proofs.Starts.{word_sample, sign_sample, name_sample, expr_sample}
use Rattle.sr_parse_reader.proofs.Samples.{sample_as, sample_both, sample_listed, optional_names_sample, condition_sample, set_sample}

-- ---- ( expr {, expr} )

abbrev pub RowParts : Symbols → Unit {0} × (List Expr × Unit {0}) → Symbols → Type 0
RowParts = Seq (Mark mark.Open) (Seq (Listed IsExpr) (Mark mark.Close))

abbrev pub row_of : Unit {0} × (List Expr × Unit {0}) → List Expr
row_of p = p.1.0

pub row_to : (b : Symbols) (x : Unit {0} × (List Expr × Unit {0})) (a : Symbols) → RowParts b x a → IsRow b (row_of x) a
row_to b x a h = record { inside = h.0; close = h.2.0; opened = h.1; values = h.2.1; closed = h.2.2 }

pub row_back : (b : Symbols) (y : List Expr) (a : Symbols) → IsRow b y a → (x : Unit {0} × (List Expr × Unit {0})) × RowParts b x a × (row_of x ≡ y)
row_back b y a h = ((tt, (y, tt)), (h.inside, h.opened, (h.close, h.values, h.closed)), refl)

-- values end before the sign that closes them
pub values_close : (b : Symbols) (y : Unit {0}) (a : Symbols) → Mark mark.Close b y a → Both (Stop expression_goes) (Stop is_comma) b
values_close b y a h = (Stop-at expression_goes h refl, Stop-at is_comma h refl)

pub values_sample : Sample (Seq (Listed IsExpr) (Mark mark.Close))
values_sample = sample_both (Listed IsExpr) (Mark mark.Close) (sample_listed IsExpr expr_sample) (sign_sample mark.Close)

pub row_sample : Sample IsRow
row_sample = sample_as RowParts IsRow row_of row_to (sample_both (Mark mark.Open) (Seq (Listed IsExpr) (Mark mark.Close)) (sign_sample mark.Open) values_sample)

-- ---- INSERT

abbrev pub RowsParts : Symbols → Unit {0} × List (List Expr) → Symbols → Type 0
RowsParts = Seq (Word key.Values) (Listed IsRow)

abbrev pub ColumnsParts : Symbols → List (List ℕ) × (Unit {0} × List (List Expr)) → Symbols → Type 0
ColumnsParts = Seq IsNames RowsParts

abbrev pub InsertValues : Type 0
InsertValues = Unit {0} × (List ℕ × (List (List ℕ) × (Unit {0} × List (List Expr))))

abbrev pub InsertParts : Symbols → InsertValues → Symbols → Type 0
InsertParts = Seq (Word key.Into) (Seq IsName ColumnsParts)

abbrev pub insert_of : InsertValues → Insert
insert_of p = record { table = p.1.0; columns = p.1.1.0; rows = p.1.1.1.1 }

pub insert_to : (b : Symbols) (x : InsertValues) (a : Symbols) → InsertParts b x a → IsInsert b (insert_of x) a
insert_to b x a h = record { named = h.0; columned = h.2.0; valued = h.2.2.0; rowed = h.2.2.2.0; into = h.1; table = h.2.1; columns = h.2.2.1; values = h.2.2.2.1; rows = h.2.2.2.2 }

pub insert_back : (b : Symbols) (y : Insert) (a : Symbols) → IsInsert b y a → (x : InsertValues) × InsertParts b x a × (insert_of x ≡ y)
insert_back b y a h = ((tt, (y.table, (y.columns, (tt, y.rows)))), (h.named, h.into, (h.columned, h.table, (h.valued, h.columns, (h.rowed, h.values, h.rows)))), refl)

pub rows_sample : Sample (Listed IsRow)
rows_sample = sample_listed IsRow row_sample

pub valued_sample : Sample RowsParts
valued_sample = sample_both (Word key.Values) (Listed IsRow) (word_sample key.Values) rows_sample

pub columns_sample : Sample ColumnsParts
columns_sample = sample_both IsNames RowsParts optional_names_sample valued_sample

pub into_sample : Sample (Seq IsName ColumnsParts)
into_sample = sample_both IsName ColumnsParts name_sample columns_sample

-- ---- UPDATE

abbrev pub SetsParts : Symbols → List (List ℕ × Expr) × Option Expr → Symbols → Type 0
SetsParts = Seq (Listed IsSet) IsCondition

abbrev pub UpdateValues : Type 0
UpdateValues = List ℕ × (Unit {0} × (List (List ℕ × Expr) × Option Expr))

abbrev pub UpdateParts : Symbols → UpdateValues → Symbols → Type 0
UpdateParts = Seq IsName (Seq (Word key.Set) SetsParts)

abbrev pub update_of : UpdateValues → Update
update_of p = record { table = p.0; sets = p.1.1.0; condition = p.1.1.1 }

pub update_to : (b : Symbols) (x : UpdateValues) (a : Symbols) → UpdateParts b x a → IsUpdate b (update_of x) a
update_to b x a h = record { named = h.0; sets = h.2.0; where_ = h.2.2.0; table = h.1; set = h.2.1; values = h.2.2.1; condition = h.2.2.2 }

pub update_back : (b : Symbols) (y : Update) (a : Symbols) → IsUpdate b y a → (x : UpdateValues) × UpdateParts b x a × (update_of x ≡ y)
update_back b y a h = ((y.table, (tt, (y.sets, y.condition))), (h.named, h.table, (h.sets, h.set, (h.where_, h.values, h.condition))), refl)

-- what is set ends before the condition
pub sets_end : (b : Symbols) (y : Option Expr) (a : Symbols) → IsCondition b y a → Ends a → Both (Stop expression_goes) (Stop is_comma) b
sets_end b y a h q = (led_stops key.Where IsExpr expression_goes b y a refl h (Ends-stop expression_goes a refl q), led_stops key.Where IsExpr is_comma b y a refl h (Ends-stop is_comma a refl q))

pub sets_sample : Sample SetsParts
sets_sample = sample_both (Listed IsSet) IsCondition (sample_listed IsSet set_sample) condition_sample

pub update_sample : Sample (Seq (Word key.Set) SetsParts)
update_sample = sample_both (Word key.Set) SetsParts (word_sample key.Set) sets_sample

-- ---- DELETE

abbrev pub DeleteParts : Symbols → Unit {0} × (List ℕ × Option Expr) → Symbols → Type 0
DeleteParts = Seq (Word key.From) (Seq IsName IsCondition)

abbrev pub delete_of : Unit {0} × (List ℕ × Option Expr) → Delete
delete_of p = record { table = p.1.0; condition = p.1.1 }

pub delete_to : (b : Symbols) (x : Unit {0} × (List ℕ × Option Expr)) (a : Symbols) → DeleteParts b x a → IsDelete b (delete_of x) a
delete_to b x a h = record { named = h.0; where_ = h.2.0; from = h.1; table = h.2.1; condition = h.2.2 }

pub delete_back : (b : Symbols) (y : Delete) (a : Symbols) → IsDelete b y a → (x : Unit {0} × (List ℕ × Option Expr)) × DeleteParts b x a × (delete_of x ≡ y)
delete_back b y a h = ((tt, (y.table, y.condition)), (h.named, h.from, (h.where_, h.table, h.condition)), refl)

pub delete_sample : Sample (Seq IsName IsCondition)
delete_sample = sample_both IsName IsCondition name_sample condition_sample
