use Rattle.std.proofs.Common.{rules}
use Rattle.sr_parse_reader.proofs.Parts.{then, cast, handed, valued}
use Rattle.sr_parse_reader.proofs.Starts.{word_read}
use Rattle.sr_parse_reader.proofs.Constants.{stayed, denied_test, plain_test}
use Rattle.sr_parse_reader.proofs.exprs.null_test.Goals as goal
use Rattle.sr_parse_reader.proofs.exprs.null_test.Goals.{then-takes, else-takes}

pub returns-in_err-keyword-clause-reads : goal.returns-in_err-keyword-clause-reads
returns-in_err-keyword-clause-reads c = elim c.if-takes.branch [
  | then-takes w ↦ let found = c.takes.ensures.found (search rules) in handed _ (cast (denied_test found) (then (λ b y a h q. tt) (word_read found) c.in_err-keyword.ensures.reads)) (search rules)
  | else-takes w ↦ handed _ (cast (plain_test (c.takes.ensures.absent (search rules))) (stayed (c.takes.ensures.kept (search rules)) c.in_err-keyword.ensures.reads)) (search rules)
]

pub returns-clause-reads : goal.returns-clause-reads
returns-clause-reads c = elim c.if-takes.branch [
  | then-takes w ↦ let found = c.takes.ensures.found (search rules) in
      valued w.operator-is (cast (denied_test found) (then (λ b y a h q. tt) (word_read found) c.in_ok-keyword.ensures.reads))
  | else-takes w ↦
      valued w.operator-is (cast (plain_test (c.takes.ensures.absent (search rules))) (stayed (c.takes.ensures.kept (search rules)) c.in_ok-keyword.ensures.reads))
]
