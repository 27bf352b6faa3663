use Rattle.std.proofs.Common.{◌≡◌, [], ◌∷◌, ◌++◌, Option, sym, ap, subst, append_assoc, ◌∙◌}
use Rattle.std.specs.BTreeMap as tree
use Rattle.sr_base.specs.Order.{key_cmp}
use Rattle.sr_exec_dml.specs.Inner.Edits.{AreEdits, taken_of, put_of, with_entry}
use Rattle.sr_exec_where.specs.Keys.{key_of}
use Rattle.sr_exec_dml.proofs.Folding.{Key}
use Rattle.sr_exec_dml.proofs.Putting.{put-AreEdits, taken-AreEdits}
use Rattle.sr_exec_dml.proofs.edits.edits_of_picks.Goals as goal

pub picks-preserved-in-Continue-branch-3 : goal.picks-preserved-in-Continue-branch-3
picks-preserved-in-Continue-branch-3 c =
    let done = c.picks.invariant.edits.0 in
    let taken = c.in-Some.key in
    let row = c.in-Some-row.row in
    let table = c.args.table.now in
    let key : c.in_ok-key.key ≡ key_of table.key row = c.in_ok-key.ensures.key ∙ (λ i. key_of (c.as_slice.ensures.items i) (c.values.ensures.values i)) in
    let took = taken-AreEdits (tree.get key_cmp c.picks.edits) (tree.get key_cmp c.take.new.edits) (taken_of done) (put_of table done) taken c.picks.invariant.edits.2 c.in_ok-take.ensures.taken in
    let put = put-AreEdits (tree.get key_cmp c.take.new.edits) (tree.get key_cmp c.put.new.edits) (taken ∷ taken_of done) (put_of table done) c.in_ok-key.key took row c.in_ok-put.ensures.put in
    let items : c.picks.left.items ≡ c.pop.new.self.items ++ (taken, c.in-Some.row) ∷ [] = c.in-Some.ensures.items in
    record {
      ordered = c.in_ok-put.ensures.ordered;
      edits = (
        (taken, c.in-Some.row) ∷ done,
        sym (append_assoc c.pop.new.self.items ((taken, c.in-Some.row) ∷ []) done) ∙ ap (λ xs. xs ++ done) (sym items) ∙ c.picks.invariant.edits.1,
        subst (λ (o : Option Key). AreEdits (tree.get key_cmp c.put.new.edits) (taken ∷ taken_of done) (with_entry table o (put_of table done))) (sym c.in-Some-row.is)
            (subst (λ (k : Key). AreEdits (tree.get key_cmp c.put.new.edits) (taken ∷ taken_of done) ((k, row) ∷ put_of table done)) key put),
      );
    }

pub picks-preserved : goal.picks-preserved
picks-preserved c =
    let done = c.picks.invariant.edits.0 in
    let taken = c.in-Some.key in
    let table = c.args.table.now in
    let took = taken-AreEdits (tree.get key_cmp c.picks.edits) (tree.get key_cmp c.take.new.edits) (taken_of done) (put_of table done) taken c.picks.invariant.edits.2 c.in_ok-take.ensures.taken in
    let items : c.picks.left.items ≡ c.pop.new.self.items ++ (taken, c.in-Some.row) ∷ [] = c.in-Some.ensures.items in
    record {
      ordered = c.in_ok-take.ensures.ordered;
      edits = (
        (taken, c.in-Some.row) ∷ done,
        sym (append_assoc c.pop.new.self.items ((taken, c.in-Some.row) ∷ []) done) ∙ ap (λ xs. xs ++ done) (sym items) ∙ c.picks.invariant.edits.1,
        subst (λ (o : Option Key). AreEdits (tree.get key_cmp c.take.new.edits) (taken ∷ taken_of done) (with_entry table o (put_of table done))) (sym c.in_default-row.is) took,
      );
    }
