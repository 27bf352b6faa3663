use Rattle.std.proofs.Common.{◌≡◌, ◌≤◌, length, ap, ◌∙◌, arith}
use Rattle.sr_logform.specs.Entries.{entry_spelling}
use Rattle.sr_logform.specs.Limits.{longest_body}
use Rattle.sr_database.proofs.Added.{short_is_body}
use Rattle.sr_database.proofs.committing.framed_record.Goals as goal

pub frame-requires : goal.frame-requires
frame-requires c =
    let entry = c.args.entry.now in
    let first : c.as_slice.result.now ≡ entry_spelling entry = c.as_slice.ensures.value ∙ c.in_ok-body.ensures.spelling in
    let body : c.as_slice-2.result.now ≡ entry_spelling entry = c.as_slice-2.ensures.value ∙ c.in_ok-body.ensures.spelling in
    let short : length c.as_slice-2.result.now ≤ longest_body entry = omega (arith, ap length first, ap length body, c.longest_body-limit.ensures, c.if-length-limit.false) in
    record { body = short_is_body entry c.as_slice-2.result.now body short }
