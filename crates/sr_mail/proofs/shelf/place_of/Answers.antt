use Rattle.std.proofs.Common.{◌≡◌, ◌∷◌, true, drop, sym, ap, ◌∙◌, arith}
use Rattle.sr_mail.specs.Inner.Shelves.{is_before}
use Rattle.sr_mail.proofs.Shelved.{drop_parts, before_more}
use Rattle.sr_mail.proofs.shelf.place_of.Goals as goal

pub windows-preserved : goal.windows-preserved
windows-preserved c =
    let gs = c.args.windows.now in
    let g = c.in-Some.held.now in
    let at : drop c.windows.place gs ≡ g ∷ c.in-Some.behind.now = sym c.windows.invariant.left ∙ c.in-Some.ensures.cases.0 in
    let parts = drop_parts gs c.windows.place g c.in-Some.behind.now at in
    let before : is_before g.window c.args.window ≡ true = ap (λ w. is_before w c.args.window) (sym c.window.ensures) ∙ sym c.is_before.ensures ∙ c.if-not-is_before.false in
    record {
      within = omega (arith, parts.0);
      left = parts.2;
      before = before_more gs c.windows.place g c.args.window parts.0 parts.1 c.windows.invariant.before before;
    }
