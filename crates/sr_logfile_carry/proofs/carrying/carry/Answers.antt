use Rattle.std.proofs.Common.{◌≡◌, ℕ, true, [], ◌∷◌, ◌++◌, sym, ◌∙◌, ap, subst}
use Rattle.sr_logfile.specs.Inner.Logs.{IsLog}
use Rattle.sr_logfile.specs.Log.{Log}
use Rattle.sr_logfile.specs.Records.{header}
use Rattle.sr_logfile_carry.proofs.Carried.{is_kept, is_replaced}
use Rattle.sr_logfile_carry.specs.Carried.{carried}
use Rattle.sr_logfile_carry.specs.Inner.Carrying.{HasSettled, bytes_in}
use Rattle.sr_logfile_carry.specs.declared.copying.Part.{Part}
use Rattle.sr_logfile_carry.proofs.carrying.carry.Goals as goal

pub returns-clause-replaced : goal.returns-clause-replaced
returns-clause-replaced g c told done left at =
    let before = g.S.Held.seen c.args.site.now in
    let now = g.S.Held.seen c.replace.new.site in
    let settled = subst (λ (part : Part). HasSettled c.args.into ((header c.args.keep.0 ++ bytes_in before.files part) ++ 0 ∷ []) before now) c.part_behind-part.ensures.part c.in_ok-replace.ensures.replaced in
    is_replaced c.args.log.now c.args.keep.0 c.args.into before now settled told done left at

pub returns-clause-kept : goal.returns-clause-kept
returns-clause-kept g c told done left at =
    let before = g.S.Held.seen c.args.site.now in
    let now = g.S.Held.seen c.replace.new.site in
    let log : Log = c.args.log.now in
    let settled = subst (λ (part : Part). HasSettled c.args.into ((header c.args.keep.0 ++ bytes_in before.files part) ++ 0 ∷ []) before now) c.part_behind-part.ensures.part c.in_ok-replace.ensures.replaced in
    let is : c.at.result ≡ carried log c.args.keep.0 c.args.into = c.at.ensures ∙ ap (λ (end : ℕ). record { file = c.args.into; base = c.args.keep.0; end = end; usable = true }) c.end.ensures.end in
    subst (λ (l : Log). IsLog l left now.files) (sym is) (is_kept log c.args.keep.0 c.args.into before now settled told done left at)
