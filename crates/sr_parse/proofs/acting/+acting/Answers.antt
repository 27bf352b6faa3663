use Rattle.std.proofs.Common.{rules, arith, refl}
use Rattle.sr_parse_grammar.specs.Inner.Going.{action_starts}
use Rattle.sr_parse_grammar.specs.Triggers.{IsActions}
use Rattle.sr_ast.specs.Actions.{chain_of}
use Rattle.sr_parse_reader.proofs.Parts.{then, cast, recast, handed, no_memory, valued}
use Rattle.sr_parse_reader.proofs.Constants.{stayed}
use Rattle.sr_parse_reader.proofs.Starts.{word_read}
use Rattle.sr_parse_reader.proofs.Loops.{filed_begun, filed_on, filed_missed, filed_done}
use Rattle.sr_parse.proofs.Acted.{set_reads, insert_reads, act_full, if_read, if_missed, test_missed, then_missed, if_rest, taken_missed, other_missed, other_ended, taken_ended, ended_missed, semicolon_missed, ended_read, actions_to, actions_back, begins_on, no_act}
use Rattle.sr_parse.proofs.acting.+acting.Goals as goal

pub actions-more-init : goal.actions-more-init
actions-more-init t c = record { reads = filed_begun (search rules); less = search rules }

pub actions-more-preserved : goal.actions-more-preserved
actions-more-preserved t c = record {
  reads = filed_on (λ b x a h. tt) (λ a q. tt) c.more.invariant.reads (begins_on action_starts c.more.reader (search rules)) (ended_read c.args.ifs c.in_ok-item.ensures.reads c.in_ok-sign.ensures.reads) c.in_ok-push.ensures.items;
  less = search rules;
}

pub actions-returns-in_err-item-clause-reads : goal.actions-returns-in_err-item-clause-reads
actions-returns-in_err-item-clause-reads t c = handed _ (recast (IsActions c.args.ifs) chain_of (actions_to c.args.ifs) (actions_back c.args.ifs) (filed_missed (λ b x a h. tt) (λ a q. tt) c.more.invariant.reads (begins_on action_starts c.more.reader (search rules)) (ended_missed c.args.ifs c.in_err-item.ensures.reads))) (search rules)

pub actions-returns-in_err-sign-clause-reads : goal.actions-returns-in_err-sign-clause-reads
actions-returns-in_err-sign-clause-reads t c = handed _ (recast (IsActions c.args.ifs) chain_of (actions_to c.args.ifs) (actions_back c.args.ifs) (filed_missed (λ b x a h. tt) (λ a q. tt) c.more.invariant.reads (begins_on action_starts c.more.reader (search rules)) (semicolon_missed c.args.ifs c.in_ok-item.ensures.reads c.in_err-sign.ensures.reads))) (search rules)

pub actions-returns-in_err-push-clause-reads : goal.actions-returns-in_err-push-clause-reads
actions-returns-in_err-push-clause-reads t c = no_memory _ (search rules)

pub actions-returns-clause-reads : goal.actions-returns-clause-reads
actions-returns-clause-reads t c = valued c.from_vec.ensures.chain (recast (IsActions c.args.ifs) chain_of (actions_to c.args.ifs) (actions_back c.args.ifs) (filed_done c.more.invariant.reads (no_act c.args.ifs c.more.reader (search rules)) refl))

pub action-returns-in_err-alias-clause-reads : goal.action-returns-in_err-alias-clause-reads
action-returns-in_err-alias-clause-reads t c = handed _ (cast (set_reads (c.if-takes.ensures.found refl)) (then (λ b y a h q. tt) (word_read (c.if-takes.ensures.found refl)) c.in_err-alias.ensures.reads)) (search rules)

pub action-returns-then-takes-clause-reads : goal.action-returns-then-takes-clause-reads
action-returns-then-takes-clause-reads t c = cast (set_reads (c.if-takes.ensures.found refl)) (then (λ b y a h q. tt) (word_read (c.if-takes.ensures.found refl)) c.in_ok-alias.ensures.reads)

pub action-returns-in_err-table-clause-reads : goal.action-returns-in_err-table-clause-reads
action-returns-in_err-table-clause-reads t c = handed _ (stayed (c.if-takes.ensures.kept refl) (cast (insert_reads (c.if-takes-2.ensures.found refl)) (then (λ b y a h q. tt) (word_read (c.if-takes-2.ensures.found refl)) c.in_err-table.ensures.reads))) (search rules)

pub action-returns-then-takes-2-clause-reads : goal.action-returns-then-takes-2-clause-reads
action-returns-then-takes-2-clause-reads t c = stayed (c.if-takes.ensures.kept refl) (cast (insert_reads (c.if-takes-2.ensures.found refl)) (then (λ b y a h q. tt) (word_read (c.if-takes-2.ensures.found refl)) c.in_ok-table.ensures.reads))

pub action-returns-then-ifs-eq0-clause-reads : goal.action-returns-then-ifs-eq0-clause-reads
action-returns-then-ifs-eq0-clause-reads t c = act_full (c.if-takes.ensures.kept refl) (c.if-takes-2.ensures.kept refl) (c.if-takes.ensures.absent refl) (c.if-takes-2.ensures.absent refl) c.if-ifs-eq0.true

pub action-returns-in_err-keyword-clause-reads : goal.action-returns-in_err-keyword-clause-reads
action-returns-in_err-keyword-clause-reads t c = handed _ (if_read (omega arith) (c.if-takes.ensures.kept refl) (c.if-takes-2.ensures.kept refl) (c.if-takes.ensures.absent refl) (c.if-takes-2.ensures.absent refl) (if_missed c.args.ifs c.in_err-keyword.ensures.reads)) (search rules)

pub action-returns-in_err-condition-clause-reads : goal.action-returns-in_err-condition-clause-reads
action-returns-in_err-condition-clause-reads t c = handed _ (if_read (omega arith) (c.if-takes.ensures.kept refl) (c.if-takes-2.ensures.kept refl) (c.if-takes.ensures.absent refl) (c.if-takes-2.ensures.absent refl) (test_missed c.args.ifs c.in_ok-keyword.ensures.reads c.in_err-condition.ensures.reads)) (search rules)

pub action-returns-in_err-keyword-2-clause-reads : goal.action-returns-in_err-keyword-2-clause-reads
action-returns-in_err-keyword-2-clause-reads t c = handed _ (if_read (omega arith) (c.if-takes.ensures.kept refl) (c.if-takes-2.ensures.kept refl) (c.if-takes.ensures.absent refl) (c.if-takes-2.ensures.absent refl) (then_missed c.args.ifs c.in_ok-keyword.ensures.reads c.in_ok-condition.ensures.reads c.in_err-keyword-2.ensures.reads)) (search rules)

pub action-returns-in_err-taken-clause-reads : goal.action-returns-in_err-taken-clause-reads
action-returns-in_err-taken-clause-reads t c = handed _ (if_read (omega arith) (c.if-takes.ensures.kept refl) (c.if-takes-2.ensures.kept refl) (c.if-takes.ensures.absent refl) (c.if-takes-2.ensures.absent refl) (if_rest c.args.ifs c.in_ok-keyword.ensures.reads c.in_ok-condition.ensures.reads c.in_ok-keyword-2.ensures.reads (taken_missed c.args.ifs c.in_err-taken.ensures.reads))) (search rules)

pub action-returns-in_err-other-clause-reads : goal.action-returns-in_err-other-clause-reads
action-returns-in_err-other-clause-reads t c = handed _ (if_read (omega arith) (c.if-takes.ensures.kept refl) (c.if-takes-2.ensures.kept refl) (c.if-takes.ensures.absent refl) (c.if-takes-2.ensures.absent refl) (if_rest c.args.ifs c.in_ok-keyword.ensures.reads c.in_ok-condition.ensures.reads c.in_ok-keyword-2.ensures.reads (other_missed c.args.ifs c.in_ok-taken.ensures.reads (c.if-takes-3.ensures.found refl) c.in_err-other.ensures.reads))) (search rules)

pub action-returns-in_err-end_if-clause-reads : goal.action-returns-in_err-end_if-clause-reads
action-returns-in_err-end_if-clause-reads t c = handed _ (if_read (omega arith) (c.if-takes.ensures.kept refl) (c.if-takes-2.ensures.kept refl) (c.if-takes.ensures.absent refl) (c.if-takes-2.ensures.absent refl) (if_rest c.args.ifs c.in_ok-keyword.ensures.reads c.in_ok-condition.ensures.reads c.in_ok-keyword-2.ensures.reads (other_ended c.args.ifs c.in_ok-taken.ensures.reads (c.if-takes-3.ensures.found refl) c.in_ok-other.ensures.reads c.in_err-end_if.ensures.reads))) (search rules)

pub action-returns-then-takes-3-clause-reads : goal.action-returns-then-takes-3-clause-reads
action-returns-then-takes-3-clause-reads t c = if_read (omega arith) (c.if-takes.ensures.kept refl) (c.if-takes-2.ensures.kept refl) (c.if-takes.ensures.absent refl) (c.if-takes-2.ensures.absent refl) (if_rest c.args.ifs c.in_ok-keyword.ensures.reads c.in_ok-condition.ensures.reads c.in_ok-keyword-2.ensures.reads (other_ended c.args.ifs c.in_ok-taken.ensures.reads (c.if-takes-3.ensures.found refl) c.in_ok-other.ensures.reads c.in_ok-end_if.ensures.reads))

pub action-returns-in_err-end_if-2-clause-reads : goal.action-returns-in_err-end_if-2-clause-reads
action-returns-in_err-end_if-2-clause-reads t c = handed _ (if_read (omega arith) (c.if-takes.ensures.kept refl) (c.if-takes-2.ensures.kept refl) (c.if-takes.ensures.absent refl) (c.if-takes-2.ensures.absent refl) (if_rest c.args.ifs c.in_ok-keyword.ensures.reads c.in_ok-condition.ensures.reads c.in_ok-keyword-2.ensures.reads (taken_ended c.args.ifs c.in_ok-taken.ensures.reads (c.if-takes-3.ensures.absent refl) (stayed (c.if-takes-3.ensures.kept refl) c.in_err-end_if-2.ensures.reads)))) (search rules)

pub action-returns-clause-reads : goal.action-returns-clause-reads
action-returns-clause-reads t c = if_read (omega arith) (c.if-takes.ensures.kept refl) (c.if-takes-2.ensures.kept refl) (c.if-takes.ensures.absent refl) (c.if-takes-2.ensures.absent refl) (if_rest c.args.ifs c.in_ok-keyword.ensures.reads c.in_ok-condition.ensures.reads c.in_ok-keyword-2.ensures.reads (taken_ended c.args.ifs c.in_ok-taken.ensures.reads (c.if-takes-3.ensures.absent refl) (stayed (c.if-takes-3.ensures.kept refl) c.in_ok-end_if-2.ensures.reads)))
