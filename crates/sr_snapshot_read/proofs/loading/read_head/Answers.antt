use Rattle.sr_snapshot.proofs.Puts.{if_fault}
use Rattle.sr_snapshot_read.proofs.StateRead.{head_magic, head_name, head_offset, head_taken}
use Rattle.sr_snapshot_read.proofs.Windows.{taken_over}
use Rattle.sr_snapshot_read.specs.Damages.{StateBreaks}
use Rattle.sr_snapshot_read.specs.Inner.Reading.{TakeCause}
use Rattle.sr_snapshot_read.proofs.loading.read_head.Goals as goal

pub returns-in_err-read_magic-clause-cause : goal.returns-in_err-read_magic-clause-cause
returns-in_err-read_magic-clause-cause g c =
    let before = g.S.Held.seen c.args.site.now in
    let now = g.S.Held.seen c.read_magic.new.site in
    let fault = c.in_err-read_magic.field-0.0 in
    if_fault (TakeCause c.args.file StateBreaks before now c.args.window.now) fault c.from_residual.result c.from_residual.ensures.1
    (head_magic c.args.file before now c.args.window.now fault c.in_err-read_magic.ensures.cause)

pub read_offset-requires : goal.read_offset-requires
read_offset-requires g c = record { over = taken_over c.args.file _ (g.S.Held.seen c.args.site.now) (g.S.Held.seen c.read_magic.new.site) c.args.window.now c.read_magic.new.window c.in_ok-read_magic.ensures.taken }

pub returns-in_err-offset-clause-cause : goal.returns-in_err-offset-clause-cause
returns-in_err-offset-clause-cause g c =
    let before = g.S.Held.seen c.args.site.now in
    let middle = g.S.Held.seen c.read_magic.new.site in
    let now = g.S.Held.seen c.read_offset.new.site in
    let fault = c.in_err-offset.field-0.0 in
    if_fault (TakeCause c.args.file StateBreaks before now c.args.window.now) fault c.from_residual-in_err-offset.result c.from_residual-in_err-offset.ensures.1
    (head_offset c.args.file before middle now c.args.window.now c.read_magic.new.window fault c.in_ok-read_magic.ensures.taken c.in_err-offset.ensures.cause)

pub read_name-requires : goal.read_name-requires
read_name-requires g c = record { over = taken_over c.args.file _ (g.S.Held.seen c.read_magic.new.site) (g.S.Held.seen c.read_offset.new.site) c.read_magic.new.window c.read_offset.new.window c.in_ok-offset.ensures.taken }

pub returns-in_err-publisher-clause-cause : goal.returns-in_err-publisher-clause-cause
returns-in_err-publisher-clause-cause g c =
    let before = g.S.Held.seen c.args.site.now in
    let middle = g.S.Held.seen c.read_magic.new.site in
    let later = g.S.Held.seen c.read_offset.new.site in
    let now = g.S.Held.seen c.read_name.new.site in
    let fault = c.in_err-publisher.field-0.0 in
    if_fault (TakeCause c.args.file StateBreaks before now c.args.window.now) fault c.from_residual-in_err-publisher.result c.from_residual-in_err-publisher.ensures.1
    (head_name c.args.file c.in_ok-offset.offset.0 before middle later now c.args.window.now c.read_magic.new.window c.read_offset.new.window fault c.in_ok-offset.ensures.near c.in_ok-read_magic.ensures.taken c.in_ok-offset.ensures.taken
    c.in_err-publisher.ensures.cause)

pub returns-clause-taken : goal.returns-clause-taken
returns-clause-taken g c =
    head_taken c.args.file c.in_ok-offset.offset.0 c.in_ok-publisher.publisher (g.S.Held.seen c.args.site.now) (g.S.Held.seen c.read_magic.new.site) (g.S.Held.seen c.read_offset.new.site) (g.S.Held.seen c.read_name.new.site)
    c.args.window.now c.read_magic.new.window c.read_offset.new.window c.read_name.new.window c.in_ok-read_magic.ensures.taken c.in_ok-offset.ensures.taken c.in_ok-publisher.ensures.taken
