use Rattle.std.proofs.Common.{◌≡◌, ◌≤◌, ℕ, List, [], ◌++◌, length, refl, ap, subst}
use Rattle.std.specs.List.{flat_map}
use Rattle.sr_base.specs.Fields.{bytes_spelling}
use Rattle.sr_snapshot.proofs.Puts.{if_fault, no_length, none_there, putting_at, putting_begin, putting_cause, putting_end, putting_more}
use Rattle.sr_snapshot.proofs.Shorts.{first_short, later_short}
use Rattle.sr_snapshot.specs.Parts.{longest}
use Rattle.sr_snapshot.specs.Inner.Writing.{PutCause}
use Rattle.sr_snapshot.proofs.putting.put_texts.Goals as goal

pub texts-init : goal.texts-init
texts-init g c = record { putting = putting_begin c.args.file _ (g.S.Held.seen c.args.site.now) _ _ _ refl c.requires.at; short = c.requires.short }

pub put_text-requires : goal.put_text-requires
put_text-requires g c =
    let parts : flat_map bytes_spelling c.texts.left.now ≡ bytes_spelling c.in-Some.text.now ++ flat_map bytes_spelling c.in-Some.rest.now = ap (flat_map bytes_spelling) c.in-Some.ensures.cases.0 in
    record {
      short = first_short (bytes_spelling c.in-Some.text.now) (flat_map bytes_spelling c.in-Some.rest.now) (subst (λ (b : List ℕ). length b ≤ longest) parts c.texts.invariant.short);
      at = putting_at c.args.file _ _ (g.S.Held.seen c.args.site.now) (g.S.Held.seen c.texts.site) _ _ _ c.texts.invariant.putting;
    }

pub texts-preserved : goal.texts-preserved
texts-preserved g c =
    let parts : flat_map bytes_spelling c.texts.left.now ≡ bytes_spelling c.in-Some.text.now ++ flat_map bytes_spelling c.in-Some.rest.now = ap (flat_map bytes_spelling) c.in-Some.ensures.cases.0 in
    record {
      putting = putting_more c.args.file _ _ _ _ (g.S.Held.seen c.args.site.now) (g.S.Held.seen c.texts.site) (g.S.Held.seen c.put_text.new.site) _ _ _ _ _ parts c.texts.invariant.putting c.in_ok-put_text.ensures.put;
      short = later_short (bytes_spelling c.in-Some.text.now) _ (subst (λ (b : List ℕ). length b ≤ longest) parts c.texts.invariant.short);
    }

pub returns-in_err-put_text-clause-cause : goal.returns-in_err-put_text-clause-cause
returns-in_err-put_text-clause-cause g c =
    let first = g.S.Held.seen c.args.site.now in
    let now = g.S.Held.seen c.put_text.new.site in
    if_fault (PutCause c.args.file first now) c.in_err-put_text.field-0.0 c.from_residual.result c.from_residual.ensures.1
    (putting_cause c.args.file _ _ first (g.S.Held.seen c.texts.site) now _ _ _ c.in_err-put_text.field-0.0 c.texts.invariant.putting c.in_err-put_text.ensures.cause)

pub returns-clause-put : goal.returns-clause-put
returns-clause-put g c =
    let none : c.texts.left.now ≡ [] = no_length _ (none_there c.split_first.result _ _ c.in_default.not-Some c.split_first.ensures.cases) in
    putting_end c.args.file _ _ (g.S.Held.seen c.args.site.now) (g.S.Held.seen c.texts.site) _ _ _ (ap (flat_map bytes_spelling) none) c.texts.invariant.putting
