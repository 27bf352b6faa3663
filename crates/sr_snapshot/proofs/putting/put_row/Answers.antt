use Rattle.std.proofs.lemmas.Result.{err_from_is_err_and}
use Rattle.sr_snapshot.proofs.Puts.{put_field, cause_memory}
use Rattle.sr_snapshot.proofs.Shorts.{row_short}
use Rattle.sr_snapshot.proofs.putting.put_row.Goals as goal

pub write_row-requires : goal.write_row-requires
write_row-requires g c = row_short _ c.requires.short

pub returns-in_err-write_row-clause-cause : goal.returns-in_err-write_row-clause-cause
returns-in_err-write_row-clause-cause g c =
    let p = err_from_is_err_and c.from_residual.result c.from_residual.ensures.1 in
    rw (p.1, p.2) (cause_memory c.args.file (g.S.Held.seen c.args.site.now))

pub returns-clause-put : goal.returns-clause-put
returns-clause-put g c =
    put_field c.args.file _ (g.S.Held.seen c.args.site.now) (g.S.Held.seen c.flush_full.new.site) c.args.out.now.buffer.items _ _ c.args.out.now.place _ c.requires.at c.in_ok-write_row.ensures.ok c.in_ok-flush_full.ensures.put
