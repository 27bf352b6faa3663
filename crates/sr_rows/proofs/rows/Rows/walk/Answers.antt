use Rattle.std.proofs.Common.{◌≡◌, sym, ap, List, None, ◌∙◌}
use Rattle.std.specs.FinMap as map
use Rattle.sr_base.specs.declared.value.Value.{Value}
use Rattle.sr_rows.specs.Inner.Gathered.{gathered, row_of, filled_rows}
use Rattle.sr_rows.specs.Marks.{Marked, rows_of_table}
use Rattle.sr_rows.proofs.Cursors.{filled_none, filled_table}
use Rattle.sr_rows.proofs.Gathering.{get-held, get-gone}
use Rattle.sr_rows.proofs.Keeping.{get-filled}
use Rattle.sr_rows.proofs.rows.Rows.walk.Goals as goal

pub returns-in-None : goal.returns-in-None
returns-in-None c =
    let ts = c.self.inside.tables.entries in
    let t = c.args.table.now in
    let gone : (k : List Value) → None ≡ rows_of_table c.args.self.now.rows t k = λ k.
    ap row_of (sym (get-gone ts t k c.in-None.ensures.value)) ∙ sym (get-filled (gathered ts) (t, k)) ∙ ap (λ (v : Marked). map.get v.rows (t, k)) c.self.view_is in
    record { rows = c.new.ensures.left ∙ filled_none c.args.self.now.rows t gone }

pub returns-in-Some : goal.returns-in-Some
returns-in-Some c =
    let ts = c.self.inside.tables.entries in
    let t = c.args.table.now in
    let held = c.in-Some.held.now in
    let same : (k : List Value) → row_of (map.get held k) ≡ rows_of_table c.args.self.now.rows t k = λ k.
    ap row_of (sym (get-held ts t held k c.in-Some.ensures.value)) ∙ sym (get-filled (gathered ts) (t, k)) ∙ ap (λ (v : Marked). map.get v.rows (t, k)) c.self.view_is in
    record { rows = c.new-in-Some.ensures.left ∙ ap filled_rows c.all.ensures.all ∙ filled_table c.args.self.now.rows t held same }
