-- The statements that the texts of an entry are, and what an entry gives by them.
use Rattle.std.specs.Prelude.{◌≡◌, ⊤, ℕ, true, false, List, [], ◌∷◌, map, Option, Some, None}
use Rattle.sr_ast.specs.declared.stmt.Stmt.{Stmt}
use Rattle.sr_book.specs.Entries.{Name}
use Rattle.sr_database_history.specs.Recorded.{Done, plain, ran, conflict, clash}
use Rattle.sr_database_history.specs.Recorded.{Recorded, own, taken, ddl, sync, pass, note}
use Rattle.sr_logform.specs.declared.entry.Entry.{Entry}
use Rattle.sr_logform.specs.declared.entry.Entry.TheVariants as entries
use Rattle.sr_logform.specs.declared.op.Op.{Op}
use Rattle.sr_logform.specs.declared.op.Op.TheVariants as ops
use Rattle.sr_logform.specs.declared.outcome.Outcome.{Outcome}
use Rattle.sr_logform.specs.declared.outcome.Outcome.TheVariants as outcomes
use Rattle.sr_parse.specs.Prints.{Prints}
use Rattle.sr_catalog_schema.specs.Catalogs.{Lists}
use Rattle.sr_scan.specs.Inner.Images.{told}

-- ---- the texts

-- the text of a statement that ran: that of an Exec that was done
abbrev pub text_done : Op → Outcome → Option (List ℕ)
text_done (ops.Insert table values) outcome = None
text_done (ops.Remove table key) outcome = None
text_done (ops.Set table key columns) outcome = None
text_done (ops.Clear table) outcome = None
text_done (ops.Exec text) (outcomes.Plain changes) = Some text
text_done (ops.Exec text) (outcomes.Conflict inserts before after) = None
text_done (ops.Exec text) (outcomes.Clash why) = None

-- the texts that ran here, with a place for each op of a From
abbrev pub texts_of : Entry → List (Option (List ℕ))
texts_of (entries.Own changes) = []
texts_of (entries.From user at judged) = map (λ p. text_done p.0 p.1) judged
texts_of (entries.Ddl text) = Some text ∷ []
texts_of (entries.Sync user tables) = []
texts_of (entries.Pass users true text changes) = []
texts_of (entries.Pass users false text changes) = Some text ∷ []
texts_of (entries.Note user what) = []

-- ---- the statements

-- the statement that a text prints, or none where no statement in normal form does
abbrev pub IsMeant : Option (List ℕ) → Option Stmt → Type 0
IsMeant None meant = meant ≡ None
IsMeant (Some text) None = (s : Stmt) → ¬ (Prints s text)
IsMeant (Some text) (Some statement) = Prints statement text

abbrev pub AreMeant : List (Option (List ℕ)) → List (Option Stmt) → Type 0
AreMeant [] [] = ⊤
AreMeant [] (m ∷ meant) = ⊥
AreMeant (t ∷ texts) [] = ⊥
AreMeant (t ∷ texts) (m ∷ meant) = IsMeant t m × AreMeant texts meant

-- what an entry gives a user, by the catalog before it
pub record IsGiven (c : Lists) (e : Entry) (user : Name) (ops : List Op) : Type 0 where
  pub meant : List (Option Stmt)
  pub are : AreMeant (texts_of e) meant
  pub gives : ops ≡ told c e meant user

-- ---- of recorded entries

abbrev pub meant_done : Done → Option Stmt
meant_done (plain op changes) = None
meant_done (ran statement changes) = Some statement
meant_done (conflict op inserts before after) = None
meant_done (clash op why) = None

-- the statements of a recorded entry that ran here
abbrev pub meant_by : Recorded → List (Option Stmt)
meant_by (own changes) = []
meant_by (taken user at dones) = map meant_done dones
meant_by (ddl statement) = Some statement ∷ []
meant_by (sync user tables) = []
meant_by (pass users true statement changes) = []
meant_by (pass users false statement changes) = Some statement ∷ []
meant_by (note user what) = []
