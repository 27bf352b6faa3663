-- What a catalog keeps that accepted statements have made: the names of its tables are each another, and CREATE TRIGGER made its triggers.
use Rattle.std.proofs.Common.{◌≡◌, false, List, [], ◌∷◌, ◌++◌, map, sym, ◌∙◌}
use Rattle.std.proofs.lemmas.Bool.{or_parts, true≢false}
use Rattle.std.proofs.lemmas.List.Folds.{list_any-append}
use Rattle.std.proofs.lemmas.Slice.Eq.{bytes_eq-Decides}
use Rattle.std.specs.List.{AllByRecursion}
use Rattle.std.specs.Prelude.{bytes_eq}
use Rattle.sr_catalog_schema.specs.Catalogs.{Lists}
use Rattle.sr_catalog_schema.specs.Members.{table_name}
use Rattle.sr_catalog_schema.specs.Names.{taken}
use Rattle.sr_catalog_schema.specs.declared.table.Table.{Table}
use Rattle.sr_catalog_script_laws.proofs.ReplayNexts.{made_stands}
use Rattle.sr_catalog_script_laws.proofs.Standing.{HasRoom, InOrder, TriggerStands}
use Rattle.sr_catalog_script_laws.specs.Scripts.{IsMadeByStatements}
use Rattle.sr_logform.specs.Rules.{AreDistinct}

abbrev IsNew : List Table → Table → Type 0
IsNew before t = taken table_name t.name before ≡ false

are_new : (before ts : List Table) → InOrder (HasRoom table_name 256) before ts → InOrder IsNew before ts
are_new before [] all = tt
are_new before (t ∷ ts) all = (all.0.is_new, are_new (before ++ t ∷ []) ts all.1)

-- what is new behind one more is new before it, and has another name
split_new : (before : List Table) (x : Table) (ys : List Table) → AllByRecursion (IsNew (before ++ x ∷ [])) ys → AllByRecursion (IsNew before) ys × AllByRecursion (λ (y : Table). bytes_eq y.name x.name ≡ false) ys
split_new before x [] all = (tt, tt)
split_new before x (y ∷ ys) all =
    let apart = or_parts (taken table_name y.name before) (taken table_name y.name (x ∷ [])) (sym (list_any-append (λ t. bytes_eq y.name (table_name t)) before (x ∷ [])) ∙ all.0) in
    let rest = split_new before x ys all.1 in
    ((apart.0, rest.0), ((or_parts (bytes_eq y.name x.name) false apart.1).0, rest.1))

other_names : (x : Table) (ys : List Table) → AllByRecursion (λ (y : Table). bytes_eq y.name x.name ≡ false) ys → AllByRecursion (λ n. ¬ (x.name ≡ n)) (map table_name ys)
other_names x [] all = tt
other_names x (y ∷ ys) all = (λ e. true≢false (sym ((bytes_eq-Decides y.name x.name).1 (sym e)) ∙ all.0), other_names x ys all.1)

distinct_names : (before xs : List Table) → InOrder IsNew before xs → AllByRecursion (IsNew before) xs × AreDistinct (map table_name xs)
distinct_names before [] all = (tt, tt)
distinct_names before (x ∷ xs) all =
    let rest = distinct_names (before ++ x ∷ []) xs all.1 in
    let split = split_new before x xs rest.0 in
    ((all.0, split.0), (other_names x xs split.1, rest.1))

pub distinct_tables : (c : Lists) → IsMadeByStatements c → AreDistinct (map table_name c.tables)
distinct_tables c made = (distinct_names [] c.tables (are_new [] c.tables (made_stands c made).tables)).1

pub triggers_stand : (c : Lists) → IsMadeByStatements c → AllByRecursion (TriggerStands c.tables) c.triggers
triggers_stand c made = (made_stands c made).each_trigger
