use Rattle.std.proofs.Common.{Option, ◌∙◌, arith, subst}
use Rattle.sr_base.specs.declared.offset.Offset.{Offset}
use Rattle.sr_send_needs.specs.Inner.Reading.{SearchCause}
use Rattle.sr_send_needs.specs.Inner.Searching.{IsStep}
use Rattle.sr_send_needs.proofs.Followed.{if_fault, read_on, search_of}
use Rattle.sr_send_needs.proofs.Searches.{search_end, search_ends, search_on, search_start, stops_at}
use Rattle.sr_send_needs.proofs.searching.search.Goals as goal

pub entries-init : goal.entries-init
entries-init g c = search_start c.args.db.now c.args.sent.0 c.args.scanner.now c.args.from (g.S.Held.seen c.args.site.now) c.requires.from c.requires.passed

pub returns-in_err-end-clause-read : goal.returns-in_err-end-clause-read
returns-in_err-end-clause-read g c = read_on (g.S.Held.seen c.args.site.now) (g.S.Held.seen c.entries.site) (g.S.Held.seen c.step.new.site) c.entries.invariant.read c.step.ensures.read

pub returns-in_err-end-clause-cause : goal.returns-in_err-end-clause-cause
returns-in_err-end-clause-cause g c =
    let first = g.S.Held.seen c.args.site.now in
    let before = g.S.Held.seen c.entries.site in
    let now = g.S.Held.seen c.step.new.site in
    if_fault (SearchCause c.args.db.now first now) c.in_err-end.field-0.0 c.from_residual.result c.from_residual.ensures.1
    (search_of c.args.db.now c.entries.at first before now c.in_err-end.field-0.0 c.entries.invariant.read c.entries.invariant.steady
    (search_ends c.args.db.now c.args.sent.0 c.args.scanner.now.user c.entries.scanner c.entries.at first before c.entries.invariant) c.in_err-end.ensures.cause)

pub entries-preserved : goal.entries-preserved
entries-preserved g c =
    let first = g.S.Held.seen c.args.site.now in
    let before = g.S.Held.seen c.entries.site in
    let now = g.S.Held.seen c.step.new.site in
    let step = subst (λ (found : Option Offset). IsStep c.args.db.now c.args.sent.0 c.args.limit.0 c.entries.scanner c.step.new.scanner c.entries.at before found) c.in-Some.is c.in_ok-end.ensures.step in
    search_on c.args.db.now c.args.sent.0 c.args.scanner.now.user c.entries.scanner c.step.new.scanner c.entries.at c.in-Some.end first before now c.entries.invariant step c.step.ensures.read c.in_ok-end.ensures.steady

pub returns-clause-least : goal.returns-clause-least
returns-clause-least g c = λ told publisher es database.
    let first = g.S.Held.seen c.args.site.now in
    let before = g.S.Held.seen c.entries.site in
    let stops = stops_at c.args.db.now c.args.sent.0 c.args.limit.0 c.entries.scanner c.step.new.scanner c.entries.at before c.in_ok-end.field-0 c.in_default.not-Some c.in_ok-end.ensures.step in
    c.lesser.ensures ∙ search_end c.args.db.now c.args.sent.0 c.args.limit.0 c.args.scanner.now.user c.entries.scanner c.entries.at first before c.entries.invariant stops told publisher es database

pub returns-clause-within : goal.returns-clause-within
returns-clause-within g c =
    let low = c.requires.limit in
    let here = c.entries.invariant.from_base in
    let is = c.lesser.ensures in
    (omega (arith, low, here, is), omega (arith, is))

pub returns-clause-read : goal.returns-clause-read
returns-clause-read g c = read_on (g.S.Held.seen c.args.site.now) (g.S.Held.seen c.entries.site) (g.S.Held.seen c.step.new.site) c.entries.invariant.read c.step.ensures.read
