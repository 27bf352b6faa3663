use Rattle.std.proofs.Common.{sym, ap, ◌∙◌}
use Rattle.sr_rows.proofs.Searching.{with_entries, with_entries-snoc, with_entries-all}
use Rattle.sr_rows.proofs.rising.Rising.tree.Goals as goal

pub places-init : goal.places-init
places-init c =
    (λ j. with_entries (c.as_slice-rest.ensures.value j) (c.new-tree.ensures.empty j)) ∙ with_entries-all c.self.inside.places.items ∙ c.self.view_is

pub places-preserved : goal.places-preserved
places-preserved c =
    ap (with_entries c.in-Some.before.now) c.in_ok-insert_copy.ensures.ok
    ∙ sym (with_entries-snoc c.in-Some.before.now c.in-Some.last.now c.places.tree)
    ∙ ap (λ xs. with_entries xs c.places.tree) (sym c.in-Some.ensures.cases.0) ∙ c.places.invariant
