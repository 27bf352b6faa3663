use Rattle.std.proofs.Common.{◌≡◌, ℕ, List, ap, ◌∙◌, arith}
use Rattle.std.proofs.lemmas.Result.{err_from_is_err_and}
use Rattle.std.specs.Prelude.{IsTrue}
use Rattle.sr_site.specs.Files.{bytes_of, with_bytes, overwritten}
use Rattle.sr_site.specs.Seen.{Seen}
use Rattle.sr_snapshot.proofs.Puts.{only_wrote, flushed}
use Rattle.sr_snapshot.proofs.pieces.flush.Goals as goal

pub returns-in_err-write_at-clause-cause : goal.returns-in_err-write_at-clause-cause
returns-in_err-write_at-clause-cause g c =
    let p = err_from_is_err_and c.from_residual.result c.from_residual.ensures.1 in
    let only = only_wrote c.args.file _ _ _ _ (g.S.Held.seen c.args.site.now) (g.S.Held.seen c.write_at.new.self) c.write_at.ensures.stays c.write_at.ensures.happened in
    rw (p.1, p.2) (only, c.in_err-write_at.ensures.cause)

pub returns-in_default-clause-cause : goal.returns-in_default-clause-cause
returns-in_default-clause-cause g c =
    (only_wrote c.args.file _ _ _ _ (g.S.Held.seen c.args.site.now) (g.S.Held.seen c.write_at.new.self) c.write_at.ensures.stays c.write_at.ensures.happened, c.in_ok-write_at.ensures.steady)

pub returns-clause-put : goal.returns-clause-put
returns-clause-put g c =
    let before : Seen = g.S.Held.seen c.args.site.now in
    let now : Seen = g.S.Held.seen c.write_at.new.self in
    let waited : List ℕ = c.args.out.now.buffer.items in
    let same : c.as_slice.result.now ≡ waited = c.as_slice.ensures.value in
    let only = only_wrote c.args.file _ _ _ _ before now c.write_at.ensures.stays c.write_at.ensures.happened in
    let written : IsTrue before.observable → now.files ≡ with_bytes before.files c.args.file (overwritten (bytes_of before.files c.args.file) c.args.out.now.place waited) =
    λ told. c.in_ok-write_at.ensures.written told ∙ ap (λ (l : List ℕ). with_bytes before.files c.args.file (overwritten (bytes_of before.files c.args.file) c.args.out.now.place l)) same in
    flushed c.args.file before now waited c.clear.new.self.items c.args.out.now.place c.in-Some.place only c.in_ok-write_at.ensures.steady c.requires.at written c.in_ok-write_at.ensures.others c.clear.ensures.items (omega arith)
