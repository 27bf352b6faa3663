use Rattle.std.proofs.Common.{take, ◌∙◌, ap}
use Rattle.std.proofs.lemmas.Result.{err_from_is_err_and}
use Rattle.sr_database.proofs.Behind.{ends_behind, kind_read, unkind_behind}
use Rattle.sr_database.proofs.reading.kind_behind.Goals as goal

pub returns-in-Ok-None-clause-kind : goal.returns-in-Ok-None-clause-kind
returns-in-Ok-None-clause-kind g c told =
    let seen = g.S.Held.seen in
    ends_behind c.args.log.now c.args.after.0 (seen c.args.site.now) (seen c.record_after.new.site) (seen c.record_after.new.site).files c.record_after.new.buffer.items c.in-Ok-None.field-0 c.in-Ok-None.field-0-is (c.in-Ok-None.ensures.step told)

pub returns-in_err-kind-in-Ok-Some-clause-cause : goal.returns-in_err-kind-in-Ok-Some-clause-cause
returns-in_err-kind-in-Ok-Some-clause-cause g c =
    let seen = g.S.Held.seen in
    let p = err_from_is_err_and c.from_residual.result c.from_residual.ensures.1 in
    rw (p.1, p.2) (unkind_behind c.args.log.now c.args.after.0 (seen c.args.site.now) (seen c.record_after.new.site) (seen c.record_after.new.site).files c.record_after.new.buffer.items c.split_at.result.0.now
    c.in-Ok-Some.field-0 c.in-Ok-Some.end c.in-Ok-Some.length c.in-Ok-Some.field-0-is (c.split_at.ensures.front ∙ ap (take c.in-Ok-Some.length) c.as_slice.ensures.value) c.in-Ok-Some.ensures.step c.in-Ok-Some.ensures.steady
    c.file.result c.place_of.result c.in_err-kind-in-Ok-Some.field-0.0 c.in_err-kind-in-Ok-Some.ensures.cause)

pub returns-in_ok-kind-in-Ok-Some-clause-kind : goal.returns-in_ok-kind-in-Ok-Some-clause-kind
returns-in_ok-kind-in-Ok-Some-clause-kind g c told =
    let seen = g.S.Held.seen in
    kind_read c.args.log.now c.args.after.0 (seen c.args.site.now) (seen c.record_after.new.site) (seen c.record_after.new.site).files c.record_after.new.buffer.items c.split_at.result.0.now
    c.in-Ok-Some.field-0 c.in-Ok-Some.end c.in-Ok-Some.length c.in-Ok-Some.field-0-is (c.split_at.ensures.front ∙ ap (take c.in-Ok-Some.length) c.as_slice.ensures.value) (c.in-Ok-Some.ensures.step told)
    c.in_ok-kind-in-Ok-Some.kind c.in_ok-kind-in-Ok-Some.ensures.kind
