use Rattle.std.proofs.Common.{◌≡◌, ◌<◌, ℕ, length, sym, ◌∙◌, ap, subst, arith, inl, inr}
use Rattle.std.specs.Prelude.{IsTrue}
use Rattle.sr_site.specs.Files.{Files}
use Rattle.sr_logfile.specs.Log.{Log}
use Rattle.sr_logfile.specs.Records.{place_in}
use Rattle.sr_logfile.proofs.Nexts.{at_end, not_before, has_next, never_damaged, length_read, record_step}
use Rattle.sr_logfile.proofs.log.LogFile.next.Goals as goal
use Rattle.sr_logfile.proofs.log.LogFile.next.Goals.{then-length-eq0-via-then-length-eq0, then-length-eq0-via-else-length-eq0+then-length-gt-LONGEST_BODY, then-length-eq0-via-else-length-eq0+else-length-gt-LONGEST_BODY+then-after-length}

pub returns-then-after-base-clause-step : goal.returns-then-after-base-clause-step
returns-then-after-base-clause-step g c told done left at =
    let log : Log = c.args.self.now in
    let base_is = c.base-base.ensures.base in
    let end_is = c.end-end.ensures.end in
    elim c.then-after-base.either [
      | inl early ↦ absurd (not_before log c.args.after.0 done _ left at (omega arith))
      | inr past ↦ at_end log c.args.after.0 done _ left at (omega arith)
    ]

pub returns-in_default-clause-cause : goal.returns-in_default-clause-cause
returns-in_default-clause-cause g c = (
  λ told done left at.
      let log : Log = c.args.self.now in
      let files : Files = (g.S.Held.seen c.args.site.now).files in
      let end_is = c.end-end.ensures.end in
      let before : c.args.after.0 < log.end = omega arith in
      let place_is : c.place_in-place.result ≡ place_in log.base c.args.after.0 = c.place_in-place.ensures.place ∙ ap (λ (b : ℕ). place_in b c.args.after.0) c.base-base.ensures.base in
      let next = has_next log c.args.after.0 done files left at before in
      never_damaged log c.args.after.0 c.place_in-place.result done left files c.file.result place_is c.file.ensures.file next c.in_ok-length.field-0 (c.in_ok-length.ensures.head told) c.in_default.not-Open,
  c.in_ok-length.ensures.steady,
)

pub returns-then-length-eq0-clause-cause : goal.returns-then-length-eq0-clause-cause
returns-then-length-eq0-clause-cause g c = (
  λ told done left at.
      let log : Log = c.args.self.now in
      let files : Files = (g.S.Held.seen c.args.site.now).files in
      let end_is = c.end-end.ensures.end in
      let before : c.args.after.0 < log.end = omega arith in
      let place_is : c.place_in-place.result ≡ place_in log.base c.args.after.0 = c.place_in-place.ensures.place ∙ ap (λ (b : ℕ). place_in b c.args.after.0) c.base-base.ensures.base in
      let next = has_next log c.args.after.0 done files left at before in
      let is = length_read log c.args.after.0 c.place_in-place.result done left files c.file.result place_is c.file.ensures.file next c.in_ok-length.field-0 c.in-Open.length (c.in_ok-length.ensures.head told) c.in-Open.is in
      let is_body = next.is_body in
      let room = next.room in
      elim c.then-length-eq0.branch [
        | then-length-eq0-via-then-length-eq0 w ↦ omega (arith, is)
        | then-length-eq0-via-else-length-eq0+then-length-gt-LONGEST_BODY w ↦ omega (arith, is)
        | then-length-eq0-via-else-length-eq0+else-length-gt-LONGEST_BODY+then-after-length w ↦ omega (arith, is)
      ],
  c.in_ok-length.ensures.steady,
)

pub returns-then-buffer-need-clause-step : goal.returns-then-buffer-need-clause-step
returns-then-buffer-need-clause-step g c told done left at =
    let log : Log = c.args.self.now in
    let files : Files = (g.S.Held.seen c.args.site.now).files in
    let end_is = c.end-end.ensures.end in
    let before : c.args.after.0 < log.end = omega arith in
    let place_is : c.place_in-place.result ≡ place_in log.base c.args.after.0 = c.place_in-place.ensures.place ∙ ap (λ (b : ℕ). place_in b c.args.after.0) c.base-base.ensures.base in
    let next = has_next log c.args.after.0 done files left at before in
    let is = length_read log c.args.after.0 c.place_in-place.result done left files c.file.result place_is c.file.ensures.file next c.in_ok-length.field-0 c.in-Open.length (c.in_ok-length.ensures.head told) c.in-Open.is in
    record { body = next.body; rest = next.rest; left_is = next.left_is; need_is = is; longer = c.if-buffer-need.true }

pub returns-clause-step : goal.returns-clause-step
returns-clause-step g c told done left at =
    let log : Log = c.args.self.now in
    let files : Files = (g.S.Held.seen c.args.site.now).files in
    let end_is = c.end-end.ensures.end in
    let before : c.args.after.0 < log.end = omega arith in
    let place_is : c.place_in-place.result ≡ place_in log.base c.args.after.0 = c.place_in-place.ensures.place ∙ ap (λ (b : ℕ). place_in b c.args.after.0) c.base-base.ensures.base in
    let next = has_next log c.args.after.0 done files left at before in
    let is = length_read log c.args.after.0 c.place_in-place.result done left files c.file.result place_is c.file.ensures.file next c.in_ok-length.field-0 c.in-Open.length (c.in_ok-length.ensures.head told) c.in-Open.is in
    let now = subst IsTrue (sym c.head_at.ensures.stays.observable) told in
    let wants : length c.split_at_mut-prefix.result.0.now ≡ c.in-Open.length = omega arith in
    let long : length c.read_at.new.buffer ≡ length c.split_at_mut-prefix.result.0.now = omega arith in
    let prior = c.head_at.ensures.files told in
    let stands = c.read_at.ensures.files now ∙ prior in
    record_step log c.args.after.0 c.place_in-place.result done left files c.file-2.result place_is c.file-2.ensures.file next (g.S.Held.seen c.head_at.new.site).files (g.S.Held.seen c.read_at.new.self).files c.in-Open.length (length c.split_at_mut-prefix.result.0.now) c.in_ok-count.count c.read_at.new.buffer c.split_at_mut-prefix.result.1.now prior stands is wants long (c.in_ok-count.ensures.read now)
