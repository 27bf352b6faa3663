use Rattle.std.proofs.Common.{ℕ, ◌++◌, ◌∙◌, ap}
use Rattle.std.specs.Fmt.{decimal}
use Rattle.std.specs.Prelude.{codes}
use Rattle.dbremote_demo_draws.specs.Names.{text_of}
use Rattle.dbremote_demo_draws.proofs.Texts.{one, two, last}
use Rattle.dbremote_demo_draws.proofs.statements.push_delete.Goals as goal

pub returns : goal.returns
returns c =
    let words = codes "DELETE FROM cust WHERE id = " in
    let pushed = c.in_ok-push_counted.ensures.ok ∙ ap (λ (n : ℕ). c.args.script.now.items ++ words ++ decimal n) c.from.ensures in
    record { ok = one c.args.script.now.items c.push_counted.new.out.items words (decimal c.args.id) pushed }
