-- What statements write: the table of a CREATE TABLE, and the text of each statement of a catalog's script.
use Rattle.std.proofs.Common.{◌≡◌, List, [], ◌∷◌, None, ap}
use Rattle.std.specs.List.{AllByRecursion}
use Rattle.sr_ast.specs.Layout.{printed}
use Rattle.sr_ast.specs.declared.create.CreateTable.{CreateTable}
use Rattle.sr_ast.specs.declared.stmt.Stmt.TheVariants as stmt
use Rattle.sr_catalog_change.specs.Changes.{refusal}
use Rattle.sr_catalog_ddl.specs.Tables.{table_of}
use Rattle.sr_parse_grammar.proofs.Stated.{printed-is_written}
use Rattle.sr_parse_grammar.specs.Meanings.{IsWritten}
use Rattle.sr_catalog_laws.specs.Inner.Making.{IsTableOf}
use Rattle.sr_catalog_script_laws.proofs.Normals.{table_again}
use Rattle.sr_catalog_script_laws.proofs.ReplayLists.{AllByRecursion-step}
use Rattle.sr_catalog_script_laws.proofs.Spelled.{script_normal}
use Rattle.sr_catalog_script_laws.specs.Scripts.{statements, IsSpellable}
use Rattle.sr_catalog_schema.specs.Catalogs.{Lists}

-- an accepted CREATE TABLE makes what it writes
pub table_written : (c : Lists) (t : CreateTable) → refusal c (stmt.CreateTable t) ≡ None → IsTableOf t (table_of t)
table_written c t h =
    let again = table_again c t h in
    record { name = ap (λ (r : CreateTable). r.name) again; columns = ap (λ (r : CreateTable). r.columns) again; key = ap (λ (r : CreateTable). r.key) again }

-- each statement of a script is written in its text
pub script_written : (c : Lists) → IsSpellable c → AllByRecursion (λ s. IsWritten (printed s) (s ∷ [])) (statements c)
script_written c spelled = AllByRecursion-step _ _ printed-is_written (statements c) (script_normal c spelled)
