-- What no subscription holds gives nothing.
use Rattle.std.proofs.Common.{◌≡◌, Bool, true, false, ◌&&◌, cond, List, [], Option, Some, None, is_some, refl, ap, ap₂, ◌∙◌}
use Rattle.sr_base.specs.declared.value.Value.{Value as Cell}
use Rattle.sr_book.specs.Entries.{Name}
use Rattle.sr_exec_dml.specs.Statements.{table_named}
use Rattle.sr_exec_fits.specs.Rows.{is_row}
use Rattle.sr_logform.specs.declared.change.Change.{Change}
use Rattle.sr_logform.specs.declared.op.Op.{Op}
use Rattle.sr_publish.specs.SubscribedTables.{SubscribedTable, subscribed_table_of}
use Rattle.sr_publish.specs.Views.{seen, shown_row}
use Rattle.sr_publish.proofs.Held.{seen_so}
use Rattle.sr_catalog_script_laws.specs.Scripts.{IsMadeByStatements}
use Rattle.sr_catalog_schema.specs.Catalogs.{Lists}
use Rattle.sr_catalog_schema.specs.declared.table.Table.{Table}
use Rattle.sr_scan.specs.Inner.Images.{fits_if, change_told}
use Rattle.sr_scan.specs.Ops.{told_of, key_of_rows}
use Rattle.sr_survey.specs.Inner.Quiet.{IsUnheld}

pub and_false : (a : Bool) → (a && false) ≡ false
and_false true = refl
and_false false = refl

pub none_if : {A : Type 0} (o : Option A) → is_some o ≡ false → o ≡ None
none_if None e = refl
none_if (Some x) e = cc

pub nothing_both : (b : Bool) → cond {A = List Op} b [] [] ≡ []
nothing_both true = refl
nothing_both false = refl

not_shown : (c : Lists) (user table : Name) (t : Table) → IsMadeByStatements c → table_named c table ≡ Some t → (o : Option (List Cell)) → IsUnheld c user table t o → shown_row (subscribed_table_of c user table) o ≡ None
not_shown c user table t made is None unheld = refl
not_shown c user table t made is (Some row) unheld =
    none_if (seen c user table row) (seen_so c user table t row made is ∙ ap (λ b. is_row t.columns row && b) unheld ∙ and_false (is_row t.columns row))

-- a change of rows of which neither is shown gives nothing
pub hidden_gives_nothing : (s : Option SubscribedTable) (ch : Change) → shown_row s ch.before ≡ None → shown_row s ch.after ≡ None → change_told s ch ≡ []
hidden_gives_nothing None ch b a = refl
hidden_gives_nothing (Some s) ch b a =
    ap₂ (λ (x y : Option (List Cell)). cond (fits_if s.table ch.before && fits_if s.table ch.after) (told_of s (key_of_rows s.table ch.before ch.after) x y) []) b a
    ∙ nothing_both (fits_if s.table ch.before && fits_if s.table ch.after)

pub change_unheld : (c : Lists) (user : Name) (t : Table) (ch : Change) → IsMadeByStatements c → table_named c ch.table ≡ Some t → IsUnheld c user ch.table t ch.before → IsUnheld c user ch.table t ch.after
    → change_told (subscribed_table_of c user ch.table) ch ≡ []
change_unheld c user t ch made is before after =
    hidden_gives_nothing (subscribed_table_of c user ch.table) ch (not_shown c user ch.table t made is ch.before before) (not_shown c user ch.table t made is ch.after after)
