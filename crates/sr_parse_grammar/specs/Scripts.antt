-- Scripts and statements, as they are written.
use Rattle.std.specs.Prelude.{◌≡◌, Bool, true, false, List, [], ◌∷◌, ◌++◌, ◌⊎◌}
use Rattle.sr_ast.specs.declared.stmt.Stmt.{Stmt}
use Rattle.sr_ast.specs.declared.stmt.Stmt.TheVariants as stmt
use Rattle.sr_ast.specs.declared.stmt.Passthrough.{Passthrough}
use Rattle.sr_ast.specs.declared.query.Dml.TheVariants as dml
use Rattle.sr_ast.specs.declared.form.Form.{Form}
use Rattle.sr_ast.specs.declared.form.Form.TheVariants as form
use Rattle.sr_ast.specs.declared.keyword.Keyword.TheVariants as key
use Rattle.sr_parse_grammar.specs.declared.symbol.Sign.TheVariants as mark
use Rattle.sr_parse_grammar.specs.Symbols.{Symbols, word, IsName, IsWord, IsSign}
pub use Rattle.sr_parse_grammar.specs.Parts.{IsBehind}
use Rattle.sr_parse_grammar.specs.Forms.{words, led}
use Rattle.sr_parse_grammar.specs.Listing.{Listed}
use Rattle.sr_parse_grammar.specs.Writing.{IsInsert, IsUpdate, IsDelete, IsSelect}
use Rattle.sr_parse_grammar.specs.Catalog.{IsPublication, IsGrant, IsSubscription, IsOptionRule}
use Rattle.sr_parse_grammar.specs.Tables.{IsTable}
use Rattle.sr_parse_grammar.specs.Triggers.{IsTrigger}

-- [WORK]
abbrev pub IsWork : Symbols → Symbols → Type 0
IsWork before after = (before ≡ after) ⊎ IsWord before key.Work after

-- [ONLY]
abbrev pub IsOnly : Symbols → Bool → Symbols → Type 0
IsOnly before true after = IsWord before key.Only after
IsOnly before false after = before ≡ after

-- [ONLY] FOR n {, n}
pub record IsPassthrough (before : Symbols) (p : Passthrough) (after : Symbols) : Type 0 where
  pub for_ : Symbols
  pub users_ : Symbols
  pub only : IsOnly before p.only for_
  pub for : IsWord for_ key.For users_
  pub users : Listed IsName users_ p.users after

-- a statement that is made of what a production reads
abbrev pub Made : {A : Type 0} → (A → Stmt) → (Symbols → A → Symbols → Type 0) → Symbols → Stmt → Symbols → Type 0
Made {A = A} make X before s after = (x : A) × (s ≡ make x) × X before x after

-- what stands behind the words of a statement
abbrev pub IsRest : Form → Symbols → Stmt → Symbols → Type 0
IsRest form.CreateTable = Made stmt.CreateTable IsTable
IsRest form.DropTable = Made stmt.DropTable IsName
IsRest form.CreatePublication = Made stmt.CreatePublication IsPublication
IsRest form.DropPublication = Made stmt.DropPublication IsName
IsRest form.GrantRemote = Made stmt.GrantRemote IsGrant
IsRest form.GrantConsolidate = Made stmt.GrantConsolidate (IsBehind key.Consolidate IsGrant)
IsRest form.CreateSubscription = Made stmt.CreateSubscription IsSubscription
IsRest form.StartSubscription = Made stmt.StartSubscription IsSubscription
IsRest form.StopSubscription = Made stmt.StopSubscription IsSubscription
IsRest form.Synchronize = Made stmt.Synchronize IsSubscription
IsRest form.DropSubscription = Made stmt.DropSubscription IsSubscription
IsRest form.CreateTrigger = Made stmt.CreateTrigger IsTrigger
IsRest form.DropTrigger = Made stmt.DropTrigger IsName
IsRest form.SetOption = Made stmt.SetOption IsOptionRule
IsRest form.Insert = Made (λ i. stmt.Dml (dml.Insert i)) IsInsert
IsRest form.Update = Made (λ u. stmt.Dml (dml.Update u)) IsUpdate
IsRest form.Delete = Made (λ d. stmt.Dml (dml.Delete d)) IsDelete
IsRest form.Select = Made stmt.Select IsSelect
IsRest form.Commit = Made (λ (u : Unit {0}). stmt.Commit) (λ before u after. IsWork before after)
IsRest form.Rollback = Made (λ (u : Unit {0}). stmt.Rollback) (λ before u after. IsWork before after)
IsRest form.Passthrough = Made stmt.Passthrough IsPassthrough
IsRest form.PassthroughStop = Made (λ (u : Unit {0}). stmt.PassthroughStop) (λ before u after. before ≡ after)

-- a statement of a form: its words, and what stands behind them
abbrev pub IsFormed : Form → Symbols → Stmt → Symbols → Type 0
IsFormed f before s after = (next : Symbols) × (before ≡ word (words f).0 ∷ led (words f).1 next) × IsRest f next s after

-- a statement
abbrev pub IsStatement : Symbols → Stmt → Symbols → Type 0
IsStatement before s after = (f : Form) × IsFormed f before s after

-- what a script has read: at the begin or behind a `;` a statement may follow, elsewhere a `;`
pub data Stage : Type 0 where
  opened : Stage
  closed : Stage

-- Statements with `;` between them; an empty one is left out.
pub data Pieces : Stage → Symbols → List Stmt → Symbols → Type 0 where
  start : {before : Symbols} → Pieces opened before [] before
  again : {before middle after : Symbols} {xs : List Stmt} → Pieces closed before xs middle → IsSign middle mark.Semicolon after → Pieces opened before xs after
  empty : {before after : Symbols} {xs : List Stmt} → Pieces opened before xs after → Pieces closed before xs after
  stated : {before middle after : Symbols} {xs : List Stmt} (s : Stmt) → Pieces opened before xs middle → IsStatement middle s after → Pieces closed before (xs ++ s ∷ []) after

-- the script that symbols spell
abbrev pub IsScript : Symbols → List Stmt → Type 0
IsScript symbols script = Pieces closed symbols script []
