use Rattle.std.proofs.Common.{ap, length, ◌∙◌}
use Rattle.std.specs.BTreeMap as tree
use Rattle.sr_base.specs.Order.{name_cmp}
use Rattle.sr_database_fold.proofs.Named.{key_named_in}
use Rattle.sr_database_fold.proofs.naming.named_key.Goals as goal

pub returns : goal.returns
returns c = record {
  key = key_named_in c.args.table.now c.args.columns.now (tree.get name_cmp c.in_ok-named.named) c.in_ok-found.found c.as_slice-2.result.now c.as_slice-3.result.now
      (c.if-columns-as_slice.false ∙ ap length c.as_slice.ensures.items) c.in_ok-named.ensures.first c.as_slice-2.ensures.items c.as_slice-3.ensures.items
      c.in_ok-found.ensures.key;
}
