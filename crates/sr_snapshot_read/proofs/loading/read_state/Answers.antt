use Rattle.std.proofs.Common.{length, refl, ◌∙◌, arith}
use Rattle.sr_snapshot.proofs.Puts.{if_fault}
use Rattle.sr_snapshot.specs.Inner.Beginnings.{beginning_in}
use Rattle.sr_snapshot.specs.Parts.{longest}
use Rattle.sr_snapshot.specs.declared.fault.SnapFault.TheVariants.{Damaged}
use Rattle.sr_snapshot_read.proofs.FileRead.{cause_read, first_over, long_cause, state_cause, whole_file}
use Rattle.sr_snapshot_read.proofs.Windows.{over_then, read_on}
use Rattle.sr_snapshot_read.specs.Damages.{StateBreaks}
use Rattle.sr_snapshot_read.specs.Inner.Reading.{ReadAlone}
use Rattle.sr_snapshot_read.specs.Inner.StateRead.{ReadCause}
use Rattle.sr_snapshot_read.proofs.loading.read_state.Goals as goal

pub returns-then-length-gt-LONGEST_SNAPSHOT-clause-cause : goal.returns-then-length-gt-LONGEST_SNAPSHOT-clause-cause
returns-then-length-gt-LONGEST_SNAPSHOT-clause-cause g c =
    long_cause c.args.file (g.S.Held.seen c.args.site.now) (g.S.Held.seen c.length.new.self) longest c.in_ok-length.length (Damaged longest) c.in_ok-length.ensures.steady refl refl (omega (arith, c.if-length-gt-LONGEST_SNAPSHOT.true))
    c.in_ok-length.ensures.length

pub read_all-requires : goal.read_all-requires
read_all-requires g c =
    let before = g.S.Held.seen c.args.site.now in
    let middle = g.S.Held.seen c.length.new.self in
    let read : ReadAlone before middle = record { stays = c.length.ensures.stays; files = c.length.ensures.files; happened = c.length.ensures.happened } in
    record {
      over = over_then c.args.file before middle c.new-window.result read
          (λ told. first_over c.new-window.result _ c.new-window.ensures.held c.new-window.ensures.place (c.new-window.ensures.size ∙ c.in_ok-length.ensures.length told));
    }

pub returns-in_err-state-clause-cause : goal.returns-in_err-state-clause-cause
returns-in_err-state-clause-cause g c =
    let before = g.S.Held.seen c.args.site.now in
    let middle = g.S.Held.seen c.length.new.self in
    let now = g.S.Held.seen c.read_all.new.site in
    let fault = c.in_err-state.field-0.0 in
    let read : ReadAlone before middle = record { stays = c.length.ensures.stays; files = c.length.ensures.files; happened = c.length.ensures.happened } in
    if_fault (ReadCause c.args.file before now) fault c.from_residual-in_err-state.result c.from_residual-in_err-state.ensures.1
    (state_cause c.args.file before middle now c.new-window.result fault read c.in_ok-length.ensures.steady c.new-window.ensures.place (λ told. omega (arith, c.if-length-gt-LONGEST_SNAPSHOT.false, c.in_ok-length.ensures.length told)) c.in_err-state.ensures.cause)

pub returns-in_err-state-clause-read : goal.returns-in_err-state-clause-read
returns-in_err-state-clause-read g c =
    let before = g.S.Held.seen c.args.site.now in
    let middle = g.S.Held.seen c.length.new.self in
    let now = g.S.Held.seen c.read_all.new.site in
    let read : ReadAlone before middle = record { stays = c.length.ensures.stays; files = c.length.ensures.files; happened = c.length.ensures.happened } in
    read_on before middle now read (cause_read c.args.file StateBreaks middle now c.new-window.result c.in_err-state.field-0.0 c.in_err-state.ensures.cause)

pub returns-clause-read : goal.returns-clause-read
returns-clause-read g c =
    let before = g.S.Held.seen c.args.site.now in
    let middle = g.S.Held.seen c.length.new.self in
    let read : ReadAlone before middle = record { stays = c.length.ensures.stays; files = c.length.ensures.files; happened = c.length.ensures.happened } in
    read_on before middle (g.S.Held.seen c.read_all.new.site) read c.in_ok-state.ensures.taken.read

pub returns-clause-steady : goal.returns-clause-steady
returns-clause-steady g c = c.in_ok-state.ensures.taken.steady ∙ c.in_ok-length.ensures.steady

pub returns-clause-snapshot : goal.returns-clause-snapshot
returns-clause-snapshot g c told =
    let before = g.S.Held.seen c.args.site.now in
    let middle = g.S.Held.seen c.length.new.self in
    let read : ReadAlone before middle = record { stays = c.length.ensures.stays; files = c.length.ensures.files; happened = c.length.ensures.happened } in
    whole_file c.args.file (beginning_in c.in_ok-state.state) before middle (g.S.Held.seen c.read_all.new.site) c.new-window.result c.read_all.new.window c.in_ok-state.ensures.beginning read c.new-window.ensures.place
    (λ told. omega (arith, c.if-length-gt-LONGEST_SNAPSHOT.false, c.in_ok-length.ensures.length told)) c.in_ok-state.ensures.taken c.in_ok-state.ensures.ends told
