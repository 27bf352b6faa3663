use Rattle.std.proofs.Common.{ℕ, ◌++◌, ◌∙◌, ap}
use Rattle.std.specs.Fmt.{decimal}
use Rattle.std.specs.Prelude.{codes}
use Rattle.dbremote_demo_draws.specs.Names.{text_of}
use Rattle.dbremote_demo_draws.proofs.Texts.{one, two, last}
use Rattle.dbremote_demo_draws.proofs.statements.push_move.Goals as goal

pub returns : goal.returns
returns c =
    let words = codes "UPDATE cust SET rep = '" in
    let more = codes "' WHERE id = " in
    let pushed = c.in_ok-push_counted.ensures.ok ∙ ap (λ (n : ℕ). c.push_named.new.out.items ++ more ++ decimal n) c.from.ensures in
    record {
      ok = two c.args.script.now.items c.push_named.new.out.items c.push_counted.new.out.items words (text_of c.args.rep) more (decimal c.args.id) c.in_ok-push_named.ensures.ok pushed;
    }
