use Rattle.std.proofs.Common.{◌≡◌, ◌++◌, ◌∙◌, ap, sym, take, drop, rules}
use Rattle.std.proofs.lemmas.List.{take-append-drop, drop-drop}
use Rattle.sr_memsite.proofs.source.MemorySourceSource.read.Goals as goal

-- what was given, and what is behind it
pub returns-clause-given : goal.returns-clause-given
returns-clause-given c =
    let count = c.fill-count.result in
    let left = drop c.args.self.now.given c.args.self.now.bytes.items in
    let given : take count c.fill-count.new.buffer ≡ take count left = search rules in
    sym (take-append-drop count left) ∙ ap (λ prefix. prefix ++ drop count left) (sym given)
    ∙ ap (λ rest. take count c.fill-count.new.buffer ++ rest) (drop-drop count c.args.self.now.given c.args.self.now.bytes.items)
