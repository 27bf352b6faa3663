use Rattle.std.proofs.Common.{take, ◌∙◌, ap}
use Rattle.std.proofs.lemmas.Result.{err_from_is_err_and}
use Rattle.sr_database.proofs.Behind.{ends_behind, brief_behind, spelling_behind}
use Rattle.sr_database.proofs.reading.brief_behind.Goals as goal

pub returns-in-Ok-None-clause-brief : goal.returns-in-Ok-None-clause-brief
returns-in-Ok-None-clause-brief g c told =
    let seen = g.S.Held.seen in
    ends_behind c.args.log.now c.args.after.0 (seen c.args.site.now) (seen c.record_after.new.site) (seen c.record_after.new.site).files c.record_after.new.buffer.items c.in-Ok-None.field-0 c.in-Ok-None.field-0-is (c.in-Ok-None.ensures.step told)

pub returns-in_err-entry-in-Ok-Some-clause-cause : goal.returns-in_err-entry-in-Ok-Some-clause-cause
returns-in_err-entry-in-Ok-Some-clause-cause g c =
    let seen = g.S.Held.seen in
    let p = err_from_is_err_and c.from_residual.result c.from_residual.ensures.1 in
    rw (p.1, p.2) (spelling_behind c.args.log.now c.args.after.0 (seen c.args.site.now) (seen c.record_after.new.site) (seen c.record_after.new.site).files c.record_after.new.buffer.items c.split_at.result.0.now
    c.in-Ok-Some.field-0 c.in-Ok-Some.end c.in-Ok-Some.length c.in-Ok-Some.field-0-is (c.split_at.ensures.front ∙ ap (take c.in-Ok-Some.length) c.as_slice.ensures.value) c.in-Ok-Some.ensures.step c.in-Ok-Some.ensures.steady
    c.file.result c.place_of.result c.in_err-entry-in-Ok-Some.field-0.0 c.in_err-entry-in-Ok-Some.ensures.cause)

pub returns-in_ok-entry-in-Ok-Some-clause-brief : goal.returns-in_ok-entry-in-Ok-Some-clause-brief
returns-in_ok-entry-in-Ok-Some-clause-brief g c told =
    let seen = g.S.Held.seen in
    brief_behind c.args.log.now c.args.after.0 (seen c.args.site.now) (seen c.record_after.new.site) (seen c.record_after.new.site).files c.record_after.new.buffer.items c.split_at.result.0.now
    c.in-Ok-Some.field-0 c.in-Ok-Some.end c.in-Ok-Some.length c.in-Ok-Some.field-0-is (c.split_at.ensures.front ∙ ap (take c.in-Ok-Some.length) c.as_slice.ensures.value) (c.in-Ok-Some.ensures.step told)
    c.in_ok-entry-in-Ok-Some.entry c.in_ok-entry-in-Ok-Some.ensures.brief
