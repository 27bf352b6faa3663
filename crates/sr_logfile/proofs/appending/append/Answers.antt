-- What each exit leaves of the file, from what the write that it comes after left.
use Rattle.std.proofs.Common.{true, ℕ, List, [], ◌∷◌, rules, sym, ap, ◌∙◌, subst}
use Rattle.std.specs.Prelude.{IsTrue}
use Rattle.sr_site.specs.Files.{Files, bytes_of, overwritten}
use Rattle.sr_logfile.proofs.Appends.{first_torn, first_written, second_torn, second_part, second_written, OnErr-always}
use Rattle.sr_site.proofs.Images.{bytes_of-with_bytes}
use Rattle.sr_logfile.proofs.Makings.{commit_stops_1, commit_stops_2, commit_stops_3, commit_made}
use Rattle.sr_logfile.proofs.Moments.{moments_1, moments_2, moments_3, moments_4}
use Rattle.sr_logfile.proofs.appending.append.Goals as goal

pub returns-in_err-write_at-clause-part : goal.returns-in_err-write_at-clause-part
returns-in_err-write_at-clause-part g c told =
    OnErr-always _ (first_torn _ _ _ _ (c.in_err-write_at.ensures.torn told))

pub returns-in_err-sync-clause-part : goal.returns-in_err-sync-clause-part
returns-in_err-sync-clause-part g c told =
    let at = subst IsTrue (sym c.write_at.ensures.stays.observable) told in
    let wrote = ap (λ (files : Files). bytes_of files c.args.file) (c.in_ok-write_at.ensures.written told) ∙ bytes_of-with_bytes _ c.args.file _ in
    let stood = ap (λ (files : Files). bytes_of files c.args.file) (c.sync.ensures.files at) in
    OnErr-always _ (first_written _ _ _ _ (stood ∙ wrote))

pub returns-in_err-write_at-2-clause-part : goal.returns-in_err-write_at-2-clause-part
returns-in_err-write_at-2-clause-part g c told =
    let at = subst IsTrue (sym c.write_at.ensures.stays.observable) told in
    let then = subst IsTrue (sym c.sync.ensures.stays.observable) at in
    let wrote = ap (λ (files : Files). bytes_of files c.args.file) (c.in_ok-write_at.ensures.written told) ∙ bytes_of-with_bytes _ c.args.file _ in
    let stood = ap (λ (files : Files). bytes_of files c.args.file) (c.sync.ensures.files at) in
    OnErr-always _ (second_torn _ _ _ _ _ (stood ∙ wrote) (c.in_err-write_at-2.ensures.torn then))

pub returns-in_err-sync-2-clause-part : goal.returns-in_err-sync-2-clause-part
returns-in_err-sync-2-clause-part g c told =
    let at = subst IsTrue (sym c.write_at.ensures.stays.observable) told in
    let then = subst IsTrue (sym c.sync.ensures.stays.observable) at in
    let last = subst IsTrue (sym c.write_at-2.ensures.stays.observable) then in
    let wrote = ap (λ (files : Files). bytes_of files c.args.file) (c.in_ok-write_at.ensures.written told) ∙ bytes_of-with_bytes _ c.args.file _ in
    let stood = ap (λ (files : Files). bytes_of files c.args.file) (c.sync.ensures.files at) in
    let opened = ap (λ (files : Files). bytes_of files c.args.file) (c.in_ok-write_at-2.ensures.written then) ∙ bytes_of-with_bytes _ c.args.file _ in
    let stands = ap (λ (files : Files). bytes_of files c.args.file) (c.sync-2.ensures.files last) in
    OnErr-always _ (second_part _ _ _ _ _ (stood ∙ wrote) (stands ∙ opened))

pub returns-clause-bytes : goal.returns-clause-bytes
returns-clause-bytes g c told =
    let at = subst IsTrue (sym c.write_at.ensures.stays.observable) told in
    let then = subst IsTrue (sym c.sync.ensures.stays.observable) at in
    let last = subst IsTrue (sym c.write_at-2.ensures.stays.observable) then in
    let wrote = ap (λ (files : Files). bytes_of files c.args.file) (c.in_ok-write_at.ensures.written told) ∙ bytes_of-with_bytes _ c.args.file _ in
    let stood = ap (λ (files : Files). bytes_of files c.args.file) (c.sync.ensures.files at) in
    let opened = ap (λ (files : Files). bytes_of files c.args.file) (c.in_ok-write_at-2.ensures.written then) ∙ bytes_of-with_bytes _ c.args.file _ in
    let stands = ap (λ (files : Files). bytes_of files c.args.file) (c.sync-2.ensures.files last) in
    second_written _ _ _ _ _ (stood ∙ wrote) (stands ∙ opened)

pub returns-in_err-write_at-clause-happened : goal.returns-in_err-write_at-clause-happened
returns-in_err-write_at-clause-happened g c told = commit_stops_1 c.args.file c.args.gate c.args.framed.now _ _ [] [] [] _ [] [] [] _ true true true _ (c.write_at.ensures.happened told) (search rules) (search rules)

pub returns-in_err-sync-clause-happened : goal.returns-in_err-sync-clause-happened
returns-in_err-sync-clause-happened g c told =
    let at = subst IsTrue (sym c.write_at.ensures.stays.observable) told in
    commit_stops_2 c.args.file c.args.gate c.args.framed.now _ _ _ [] [] _ _ [] [] _ _ true true _ (c.write_at.ensures.happened told) (search rules) (c.sync.ensures.happened at) (search rules) (search rules)

pub returns-in_err-write_at-2-clause-happened : goal.returns-in_err-write_at-2-clause-happened
returns-in_err-write_at-2-clause-happened g c told =
    let at = subst IsTrue (sym c.write_at.ensures.stays.observable) told in
    let then = subst IsTrue (sym c.sync.ensures.stays.observable) at in
    commit_stops_3 c.args.file c.args.gate c.args.framed.now _ _ _ _ [] _ _ _ [] _ _ _ true _ (c.write_at.ensures.happened told) (search rules) (c.sync.ensures.happened at) (search rules) (c.write_at-2.ensures.happened then) (search rules) (search rules)

pub returns-in_err-sync-2-clause-happened : goal.returns-in_err-sync-2-clause-happened
returns-in_err-sync-2-clause-happened g c told =
    let at = subst IsTrue (sym c.write_at.ensures.stays.observable) told in
    let then = subst IsTrue (sym c.sync.ensures.stays.observable) at in
    let last = subst IsTrue (sym c.write_at-2.ensures.stays.observable) then in
    commit_made c.args.file c.args.gate c.args.framed.now _ _ _ _ _ _ _ _ _ _ _ _ _ _ (c.write_at.ensures.happened told) (search rules) (c.sync.ensures.happened at) (search rules) (c.write_at-2.ensures.happened then) (search rules) (c.sync-2.ensures.happened last) (search rules)

pub returns-clause-happened : goal.returns-clause-happened
returns-clause-happened g c told =
    let at = subst IsTrue (sym c.write_at.ensures.stays.observable) told in
    let then = subst IsTrue (sym c.sync.ensures.stays.observable) at in
    let last = subst IsTrue (sym c.write_at-2.ensures.stays.observable) then in
    commit_made c.args.file c.args.gate c.args.framed.now _ _ _ _ _ _ _ _ _ _ _ _ _ _ (c.write_at.ensures.happened told) (search rules) (c.sync.ensures.happened at) (search rules) (c.write_at-2.ensures.happened then) (search rules) (c.sync-2.ensures.happened last) (search rules)

pub returns-in_err-write_at-clause-moments : goal.returns-in_err-write_at-clause-moments
returns-in_err-write_at-clause-moments g c told = moments_1 c.args.gate c.args.framed.now c.args.file (g.S.Held.seen c.args.site.now) (g.S.Held.seen c.write_at.new.self) _ _ (c.write_at.ensures.happened told)

pub returns-in_err-sync-clause-moments : goal.returns-in_err-sync-clause-moments
returns-in_err-sync-clause-moments g c told =
    let at = subst IsTrue (sym c.write_at.ensures.stays.observable) told in
    moments_2 c.args.gate c.args.framed.now c.args.file (g.S.Held.seen c.args.site.now) (g.S.Held.seen c.sync.new.self) _ _ _ _ _ (c.write_at.ensures.happened told) (c.sync.ensures.happened at) (search rules)

pub returns-in_err-write_at-2-clause-moments : goal.returns-in_err-write_at-2-clause-moments
returns-in_err-write_at-2-clause-moments g c told =
    let at = subst IsTrue (sym c.write_at.ensures.stays.observable) told in
    let then = subst IsTrue (sym c.sync.ensures.stays.observable) at in
    let wrote = ap (λ (files : Files). bytes_of files c.args.file) (c.in_ok-write_at.ensures.written told) ∙ bytes_of-with_bytes _ c.args.file _ in
    moments_3 c.args.gate c.args.framed.now c.args.file (g.S.Held.seen c.args.site.now) (g.S.Held.seen c.write_at-2.new.self) _ _ _ _ _ _ _ _ (c.write_at.ensures.happened told) (c.sync.ensures.happened at) (search rules) (c.write_at-2.ensures.happened then) wrote

pub returns-in_err-sync-2-clause-moments : goal.returns-in_err-sync-2-clause-moments
returns-in_err-sync-2-clause-moments g c told =
    let at = subst IsTrue (sym c.write_at.ensures.stays.observable) told in
    let then = subst IsTrue (sym c.sync.ensures.stays.observable) at in
    let last = subst IsTrue (sym c.write_at-2.ensures.stays.observable) then in
    let wrote = ap (λ (files : Files). bytes_of files c.args.file) (c.in_ok-write_at.ensures.written told) ∙ bytes_of-with_bytes _ c.args.file _ in
    let stood = ap (λ (files : Files). bytes_of files c.args.file) (c.sync.ensures.files at) in
    let opened = ap (λ (files : Files). bytes_of files c.args.file) (c.in_ok-write_at-2.ensures.written then) ∙ bytes_of-with_bytes _ c.args.file _ in
    let read4 = opened ∙ ap (λ (bytes : List ℕ). overwritten bytes c.args.gate (1 ∷ [])) stood in
    moments_4 c.args.gate c.args.framed.now c.args.file (g.S.Held.seen c.args.site.now) (g.S.Held.seen c.sync-2.new.self) _ _ _ _ _ _ _ _ _ _ _ (c.write_at.ensures.happened told) (c.sync.ensures.happened at) (search rules) (c.write_at-2.ensures.happened then) (c.sync-2.ensures.happened last) wrote read4

pub returns-clause-moments : goal.returns-clause-moments
returns-clause-moments g c told =
    let at = subst IsTrue (sym c.write_at.ensures.stays.observable) told in
    let then = subst IsTrue (sym c.sync.ensures.stays.observable) at in
    let last = subst IsTrue (sym c.write_at-2.ensures.stays.observable) then in
    let wrote = ap (λ (files : Files). bytes_of files c.args.file) (c.in_ok-write_at.ensures.written told) ∙ bytes_of-with_bytes _ c.args.file _ in
    let stood = ap (λ (files : Files). bytes_of files c.args.file) (c.sync.ensures.files at) in
    let opened = ap (λ (files : Files). bytes_of files c.args.file) (c.in_ok-write_at-2.ensures.written then) ∙ bytes_of-with_bytes _ c.args.file _ in
    let read4 = opened ∙ ap (λ (bytes : List ℕ). overwritten bytes c.args.gate (1 ∷ [])) stood in
    moments_4 c.args.gate c.args.framed.now c.args.file (g.S.Held.seen c.args.site.now) (g.S.Held.seen c.sync-2.new.self) _ _ _ _ _ _ _ _ _ _ _ (c.write_at.ensures.happened told) (c.sync.ensures.happened at) (search rules) (c.write_at-2.ensures.happened then) (c.sync-2.ensures.happened last) wrote read4
