use Rattle.std.proofs.Common.{sym, ap, ◌∙◌}
use Rattle.std.specs.Option.{option_copied}
use Rattle.std.specs.FinMap as map
use Rattle.sr_rows.specs.Marks.{Place, Marked}
use Rattle.sr_rows.specs.Inner.Gathered.{gathered, row_of}
use Rattle.sr_rows.proofs.Keeping.{get-filled}
use Rattle.sr_rows.proofs.rows.Rows.get.Goals as goal

pub returns-in_err-place : goal.returns-in_err-place
returns-in_err-place c =
    let m = gathered c.self.inside.tables.entries in
    let p : Place = (c.args.table.now, c.args.key.now) in
    record { row = ap option_copied c.from_residual.ensures ∙ ap row_of c.in_err-place.ensures.place ∙ sym (get-filled m p) ∙ ap (λ (v : Marked). map.get v.rows p) c.self.view_is }

pub returns : goal.returns
returns c =
    let m = gathered c.self.inside.tables.entries in
    let p : Place = (c.args.table.now, c.args.key.now) in
    record { row = c.as_ref.ensures.value ∙ ap row_of c.in_ok-place.ensures.place ∙ sym (get-filled m p) ∙ ap (λ (v : Marked). map.get v.rows p) c.self.view_is }
