use Rattle.std.proofs.Common.{rules, ◌≡◌, ◌+◌, suc, refl, arith, subst, drop, []}
use Rattle.sr_ast.specs.declared.keyword.Keyword.TheVariants as key
use Rattle.sr_parse_grammar.proofs.Keywords.{Left, found_here, left_behind}
use Rattle.sr_parse_grammar.proofs.keyword.found_among.Goals as goal

pub returns-then-eq_ignore_ascii_case-clause-found : goal.returns-then-eq_ignore_ascii_case-clause-found
returns-then-eq_ignore_ascii_case-clause-found c =
    found_here c.args.word.now c.args.entries.now c.entries.entry-index _ c.entries-test.true c.entries.invariant.spelled
    (c.if-eq_ignore_ascii_case.ensures.test.0 refl)

pub entries-preserved : goal.entries-preserved
entries-preserved c =
    let next : suc c.entries.entry-index ≡ c.entries.entry-index + 1 = omega arith in
    subst (λ n. Left c.args.word.now c.args.entries.now (drop n c.args.entries.now)) next
    (left_behind c.args.word.now c.args.entries.now c.entries.entry-index (key.Create, record { ref_ptr = (0, 0); now = [] })
    c.entries-test.true c.entries.invariant (λ e. absurd (search rules)))
