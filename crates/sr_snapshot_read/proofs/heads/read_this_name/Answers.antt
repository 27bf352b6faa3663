use Rattle.std.proofs.Common.{ℕ, List, inl, subst}
use Rattle.sr_base.specs.Fields.{name_spelling, IsName}
use Rattle.sr_snapshot.proofs.Puts.{if_fault}
use Rattle.sr_snapshot_read.specs.Damages.{NameBreaks, FieldBreaks}
use Rattle.sr_snapshot_read.proofs.Heres.{here_cause, other_name}
use Rattle.sr_snapshot_read.proofs.Windows.{cause_as}
use Rattle.sr_snapshot_read.specs.Places.{name_in}
use Rattle.sr_snapshot_read.specs.Inner.Reading.{HasTaken, TakeCause}
use Rattle.sr_snapshot_read.proofs.heads.read_this_name.Goals as goal

pub returns-in_err-found-clause-cause : goal.returns-in_err-found-clause-cause
returns-in_err-found-clause-cause g c =
    let before = g.S.Held.seen c.args.site.now in
    let now = g.S.Held.seen c.read_name.new.site in
    let fault = c.in_err-found.field-0.0 in
    if_fault (TakeCause c.args.file (NameBreaks c.args.name.now) before now c.args.window.now) fault c.from_residual.result c.from_residual.ensures.1
    (cause_as c.args.file (FieldBreaks name_in) (NameBreaks c.args.name.now) before now c.args.window.now fault (λ bytes left broken. inl broken) c.in_err-found.ensures.cause)

pub returns-in_err-as_named-clause-cause : goal.returns-in_err-as_named-clause-cause
returns-in_err-as_named-clause-cause g c =
    let before = g.S.Held.seen c.args.site.now in
    let now = g.S.Held.seen c.read_name.new.site in
    let fault = c.in_err-as_named.field-0.0 in
    if_fault (TakeCause c.args.file (NameBreaks c.args.name.now) before now c.args.window.now) fault c.from_residual-in_err-as_named.result c.from_residual-in_err-as_named.ensures.1
    (here_cause c.args.file (NameBreaks c.args.name.now) (name_spelling c.in_ok-found.found) before now c.args.window.now c.read_name.new.window c.place-place.result fault c.in_err-as_named.ensures.place c.place-place.ensures.place c.place-place.ensures.within c.requires.over
    c.in_ok-found.ensures.taken (other_name c.args.name.now c.in_ok-found.found c.in_ok-found.ensures.name c.in_err-as_named.ensures.other))

pub returns-clause-taken : goal.returns-clause-taken
returns-clause-taken g c =
    subst (λ (x : List ℕ). HasTaken c.args.file (name_spelling x) (g.S.Held.seen c.args.site.now) (g.S.Held.seen c.read_name.new.site) c.args.window.now c.read_name.new.window) c.in_ok-as_named.ensures.same c.in_ok-found.ensures.taken

pub returns-clause-is : goal.returns-clause-is
returns-clause-is g c = subst (λ (x : List ℕ). IsName x) c.in_ok-as_named.ensures.same c.in_ok-found.ensures.name
