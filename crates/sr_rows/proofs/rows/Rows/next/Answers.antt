use Rattle.std.proofs.Common.{◌≡◌, sym, ap, subst, MatchOption, List, Option, None, ◌∙◌}
use Rattle.std.specs.Option.{option_copied}
use Rattle.std.specs.FinMap as map
use Rattle.sr_base.specs.declared.value.Value.{Value}
use Rattle.sr_rows.specs.Inner.Gathered.{gathered, row_of}
use Rattle.sr_rows.specs.Marks.{Marked, rows_of_table}
use Rattle.sr_rows.specs.Inner.Marks.{IsNext, IsLast}
use Rattle.sr_rows.proofs.Gathering.{get-held, get-gone}
use Rattle.sr_rows.proofs.Keeping.{get-filled}
use Rattle.sr_rows.proofs.Listing.{goes_along}
use Rattle.sr_rows.proofs.rows.Rows.next.Goals as goal

pub returns-in_err-held : goal.returns-in_err-held
returns-in_err-held c =
    let ts = c.self.inside.tables.entries in
    let t = c.args.table.now in
    let row_at : List Value → Option (List Value) = rows_of_table c.args.self.now.rows t in
    let after = option_copied c.args.after in
    let gone : (k : List Value) → None ≡ row_at k = λ k.
    ap row_of (sym (get-gone ts t k c.in_err-held.ensures.value)) ∙ sym (get-filled (gathered ts) (t, k)) ∙ ap (λ (v : Marked). map.get v.rows (t, k)) c.self.view_is in
    let next = subst (λ r. MatchOption r (IsLast row_at after) (λ x. IsNext row_at after x.0.now x.1.now)) (sym c.from_residual.ensures) (λ k row held past. let e = gone k ∙ held in cc) in
    record { next = next; walk = goes_along c.args.self.now.rows t after c.from_residual.result next }

pub returns : goal.returns
returns c =
    let ts = c.self.inside.tables.entries in
    let t = c.args.table.now in
    let after = option_copied c.args.after in
    let same : (k : List Value) → row_of (map.get c.in_ok-held.held.now k) ≡ rows_of_table c.args.self.now.rows t k = λ k.
    ap row_of (sym (get-held ts t c.in_ok-held.held.now k c.in_ok-held.ensures.value)) ∙ sym (get-filled (gathered ts) (t, k)) ∙ ap (λ (v : Marked). map.get v.rows (t, k)) c.self.view_is in
    let next = subst (λ (row_at : List Value → Option (List Value)). MatchOption c.next.result (IsLast row_at after) (λ x. IsNext row_at after x.0.now x.1.now)) (λ i k. same k i) c.next.ensures.next in
    record { next = next; walk = goes_along c.args.self.now.rows t after c.next.result next }
