use Rattle.std.proofs.Common.{◌≡◌, ℕ, List, sym, subst, IsUtf8, arith}
use Rattle.std.proofs.lemmas.Grind.{common_steps}
use Rattle.sr_ast.specs.Printing.{quoted}
use Rattle.sr_ast.proofs.Utf8.{quoted_utf8}
use Rattle.sr_ast_print.proofs.print_expr.quoted_bytes.Goals as goal

pub returns-clause-utf8 : goal.returns-clause-utf8
returns-clause-utf8 c =
    let text : IsUtf8 c.args.text.now = subst (λ (t : List ℕ). IsUtf8 t) c.bytes-rest.ensures.bytes c.bytes-rest.ensures.utf8 in
    let e : c.push-2.new.self.items ≡ quoted c.args.text.now = grind (arith, common_steps) in
    subst (λ (t : List ℕ). IsUtf8 t) (sym e) (quoted_utf8 c.args.text.now text)
