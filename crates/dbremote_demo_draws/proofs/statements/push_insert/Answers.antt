use Rattle.std.proofs.Common.{ℕ, ◌++◌, ◌∙◌, ap}
use Rattle.std.specs.Fmt.{decimal}
use Rattle.std.specs.Prelude.{codes}
use Rattle.dbremote_demo_draws.specs.Names.{text_of}
use Rattle.dbremote_demo_draws.proofs.Texts.{one, two, last}
use Rattle.dbremote_demo_draws.proofs.statements.push_insert.Goals as goal

pub returns : goal.returns
returns c =
    let words = codes "INSERT INTO cust VALUES (" in
    let more = codes ", '" in
    let pushed = c.in_ok-push_counted.ensures.ok ∙ ap (λ (n : ℕ). c.args.script.now.items ++ words ++ decimal n) c.from.ensures in
    let both = two c.args.script.now.items c.push_counted.new.out.items c.push_named.new.out.items words (decimal c.args.id) more (text_of c.args.rep) pushed c.in_ok-push_named.ensures.ok in
    record {
      ok = last c.args.script.now.items c.push_named.new.out.items c.push_words.new.out.items (words ++ decimal c.args.id ++ more ++ text_of c.args.rep) (codes "', 0)") both
          c.in_ok-push_words.ensures.ok;
    }
