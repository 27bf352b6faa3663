use Rattle.std.proofs.Common.{◌≡◌, sym, subst}
use Rattle.sr_exec_fits.specs.Rows.{IsRow}
use Rattle.sr_resolve.specs.Named.{with_news}
use Rattle.sr_resolve.proofs.Rows.{taken_fit}
use Rattle.sr_resolve.proofs.setting.resolve.Goals as goal

-- src/setting.rt:218:17
pub fire-requires-clause-row : goal.fire-requires-clause-row
fire-requires-clause-row c =
    let fit : IsRow c.args.table.now.columns (with_news c.args.news.now c.args.stored.now) = taken_fit c.args.table.now.columns c.args.updates.now c.args.stored.now c.args.news.now c.requires.taken in
    let row = c.in_ok-new.ensures.row in
    let values = c.values.ensures.values in
    let is : c.in_ok-new.new.items ≡ with_news c.args.news.now c.args.stored.now = cc in
    subst (λ xs. IsRow c.args.table.now.columns xs) (sym is) fit
