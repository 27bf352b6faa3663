use Rattle.std.proofs.Common.{arith}
use Rattle.sr_catalog_schema.specs.Catalogs.{nothing_but}
use Rattle.sr_snapshot.proofs.Puts.{if_fault}
use Rattle.sr_snapshot_read.proofs.ScriptRead.{texts_begin, texts_cause, texts_end, texts_more}
use Rattle.sr_snapshot_read.proofs.Windows.{taken_over}
use Rattle.sr_snapshot_read.specs.Damages.{TextsBreak}
use Rattle.sr_snapshot_read.specs.Inner.Reading.{TakeCause}
use Rattle.sr_snapshot_read.proofs.script.read_texts.Goals as goal

pub texts-init : goal.texts-init
texts-init g c = texts_begin c.args.file (nothing_but c.args.publisher) c.new-catalog.result c.args.count (g.S.Held.seen c.args.site.now) c.args.window.now c.requires.over c.new-catalog.ensures.new

pub read_next-requires : goal.read_next-requires
read_next-requires g c = record { over = taken_over c.args.file _ (g.S.Held.seen c.args.site.now) (g.S.Held.seen c.texts.site) c.args.window.now c.texts.window c.texts.invariant.taken }

pub texts-preserved : goal.texts-preserved
texts-preserved g c =
    texts_more c.args.file (nothing_but c.args.publisher) c.args.count c.texts.left _ (g.S.Held.seen c.args.site.now) (g.S.Held.seen c.texts.site) (g.S.Held.seen c.read_next.new.site) c.args.window.now c.texts.window c.read_next.new.window c.texts.catalog
    c.read_next.new.catalog (omega arith) c.texts.invariant c.in_ok-read_next.ensures.taken

pub returns-in_err-read_next-clause-cause : goal.returns-in_err-read_next-clause-cause
returns-in_err-read_next-clause-cause g c =
    let first = g.S.Held.seen c.args.site.now in
    let now = g.S.Held.seen c.read_next.new.site in
    let fault = c.in_err-read_next.field-0.0 in
    if_fault (TakeCause c.args.file (TextsBreak (nothing_but c.args.publisher) c.args.count) first now c.args.window.now) fault c.from_residual.result c.from_residual.ensures.1
    (texts_cause c.args.file (nothing_but c.args.publisher) c.args.count c.texts.left first (g.S.Held.seen c.texts.site) now c.args.window.now c.texts.window c.texts.catalog fault (omega arith) c.texts.invariant c.in_err-read_next.ensures.cause)

pub returns-clause-taken : goal.returns-clause-taken
returns-clause-taken g c = texts_end c.args.file (nothing_but c.args.publisher) c.args.count c.texts.left (g.S.Held.seen c.args.site.now) (g.S.Held.seen c.texts.site) c.args.window.now c.texts.window c.texts.catalog (omega arith) c.texts.invariant
