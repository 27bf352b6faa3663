use Rattle.std.proofs.Common.{List, map, subst}
use Rattle.sr_catalog_schema.specs.Members.{table_name}
use Rattle.sr_catalog_schema.specs.declared.table.Table.{Table}
use Rattle.sr_receive_judged.specs.Inner.Copies.{IsCopyOf}
use Rattle.sr_receive_judged.proofs.Copying.{copied_whole}
use Rattle.sr_receive_judged.proofs.scratch.copied.Goals as goal

pub returns-in-Ok-clause-rows : goal.returns-in-Ok-clause-rows
returns-in-Ok-clause-rows c =
    copied_whole c.args.catalog.now c.args.rows.now.rows c.in_ok-copy.copy c.requires.rows c.in_ok-copy.ensures.fresh
    (subst (λ (l : List Table). IsCopyOf c.args.rows.now.rows (map table_name l) c.in_ok-copy.copy.rows) c.tables.ensures.tables c.in_ok-copy.ensures.rows)
