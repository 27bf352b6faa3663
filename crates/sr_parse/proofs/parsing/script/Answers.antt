use Rattle.std.proofs.Common.{rules, arith}
use Rattle.sr_parse_reader.proofs.Parts.{handed, valued}
use Rattle.sr_parse.proofs.Pieces.{told_begun, told_piece, told_sign, told_missed, told_over, told_left}
use Rattle.sr_parse.proofs.parsing.script.Goals as goal

pub statements-init : goal.statements-init
statements-init c = record {
  reads = told_begun (search rules);
  less = search rules;
}

pub statements-preserved : goal.statements-preserved
statements-preserved c = record {
  reads = told_sign (told_piece c.statements.invariant.reads c.in_ok-piece.ensures.reads) (c.takes_sign.ensures.found (search rules));
  less = search rules;
}

pub returns-in_err-piece-clause-reads : goal.returns-in_err-piece-clause-reads
returns-in_err-piece-clause-reads c = handed _ (told_missed c.statements.invariant.reads c.in_err-piece.ensures.reads) (search rules)

pub returns-then-left-gt0-clause-reads : goal.returns-then-left-gt0-clause-reads
returns-then-left-gt0-clause-reads c = told_left (told_piece c.statements.invariant.reads c.in_ok-piece.ensures.reads) (c.takes_sign.ensures.absent (search rules)) (c.takes_sign.ensures.kept (search rules)) (omega arith)

pub returns-then-not-takes_sign-clause-reads : goal.returns-then-not-takes_sign-clause-reads
returns-then-not-takes_sign-clause-reads c = valued c.from_vec.ensures.items (told_over (told_piece c.statements.invariant.reads c.in_ok-piece.ensures.reads) (c.takes_sign.ensures.absent (search rules)) (c.takes_sign.ensures.kept (search rules)))
