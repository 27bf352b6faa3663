use Rattle.std.proofs.Common.{◌≡◌, [], ◌∷◌, ◌++◌, sym, ap, subst, append_assoc, ◌∙◌, map}
use Rattle.std.specs.BTreeMap as tree
use Rattle.sr_base.specs.Order.{key_cmp}
use Rattle.sr_exec_dml.specs.Inner.Edits.{AreEdits}
use Rattle.sr_exec_where.specs.Keys.{key_of}
use Rattle.sr_exec_dml.specs.Statements.{entry_of}
use Rattle.sr_exec_dml.proofs.Folding.{Key}
use Rattle.sr_exec_dml.proofs.Putting.{put-AreEdits}
use Rattle.sr_exec_dml.proofs.edits.edits_of_rows.Goals as goal

pub rows-preserved : goal.rows-preserved
rows-preserved c =
    let done = c.rows.invariant.edits.0 in
    let row = c.in-Some.row in
    let key : c.in_ok-key.key ≡ key_of c.args.table.now.key row = c.in_ok-key.ensures.key ∙ (λ i. key_of (c.as_slice.ensures.items i) (c.values.ensures.values i)) in
    let put = put-AreEdits (tree.get key_cmp c.rows.edits) (tree.get key_cmp c.put.new.edits) [] (map (entry_of c.args.table.now) done) c.in_ok-key.key c.rows.invariant.edits.2 row c.in_ok-put.ensures.put in
    record {
      ordered = c.in_ok-put.ensures.ordered;
      edits = (
        row ∷ done,
        sym (append_assoc c.pop.new.self.items (row ∷ []) done) ∙ ap (λ xs. xs ++ done) (sym c.in-Some.ensures.items) ∙ c.rows.invariant.edits.1,
        subst (λ (k : Key). AreEdits (tree.get key_cmp c.put.new.edits) [] ((k, row) ∷ map (entry_of c.args.table.now) done)) key put,
      );
    }
