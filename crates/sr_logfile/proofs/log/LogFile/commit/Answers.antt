-- The record counts, seen through the fields of the log.
use Rattle.std.proofs.Common.{refl, inl, ◌≡◌, ◌⊎◌, ◌+◌, [], ◌∷◌, ◌++◌, List, ℕ, Bool, true, length, sym, ap, ◌∙◌, subst, arith, rules}
use Rattle.std.specs.Prelude.{is_ok}
use Rattle.sr_site.specs.Happenings.{Happening}
use Rattle.sr_site.specs.Inner.Happenings.{Made}
use Rattle.sr_logfile.specs.Inner.Appends.{LeavesPart, LeavesRecord}
use Rattle.sr_logfile.specs.Inner.Calls.{commit_calls}
use Rattle.sr_site.specs.Files.{bytes_of}
use Rattle.sr_logfile.specs.Log.{Log}
use Rattle.sr_logfile.specs.Logs.{gate_of}
use Rattle.sr_logfile.specs.Inner.Logs.{IsLog}
use Rattle.sr_logfile.specs.Records.{Spells, body_of}
use Rattle.sr_logfile.proofs.Appends.{OnErr-always}
use Rattle.sr_logfile.proofs.Commits.{part_committed, record_committed}
use Rattle.sr_site.specs.Images.{IsSettled, KeepsOthers, RestsThroughout}
use Rattle.sr_site.proofs.Others.{rests}
use Rattle.sr_site.proofs.Images.{with_same}
use Rattle.sr_logfile.specs.Inner.Moments.{HasOrLacks, IsPartPut}
use Rattle.sr_logfile.proofs.Moments.{has_or_lacks}
use Rattle.sr_logfile.proofs.log.LogFile.commit.Goals as goal

pub returns-in_err-append-clause-stands : goal.returns-in_err-append-clause-stands
returns-in_err-append-clause-stands g c told =
    let log : Log = record { file = c.self.inside.file; base = c.self.inside.base; end = c.self.inside.end; usable = c.self.inside.usable } in
    let left = part_committed log (g.S.Held.seen c.args.site.now).files (g.S.Held.seen c.append.new.site).files c.args.framed.now c.requires.framed (omega arith)
    (subst (λ (n : ℕ). LeavesPart n c.args.framed.now (bytes_of (g.S.Held.seen c.args.site.now).files log.file) (bytes_of (g.S.Held.seen c.append.new.site).files log.file)) c.place_in-gate.ensures.place (c.in_err-append.ensures.part told)) in
    let view_is : log ≡ c.args.self.now = c.self.view_is in
    OnErr-always _ (subst (λ (l : Log). (bodies : List (List ℕ)) → IsLog l bodies (g.S.Held.seen c.args.site.now).files → Spells l.base bodies (bytes_of (g.S.Held.seen c.append.new.site).files l.file) ⊎ Spells l.base (bodies ++ body_of c.args.framed.now ∷ []) (bytes_of (g.S.Held.seen c.append.new.site).files l.file)) view_is left)

pub returns-clause-record : goal.returns-clause-record
returns-clause-record g c told bodies is_log =
    let log : Log = record { file = c.self.inside.file; base = c.self.inside.base; end = c.self.inside.end; usable = c.self.inside.usable } in
    let view_is : log ≡ c.args.self.now = c.self.view_is in
    let before = subst (λ (l : Log). IsLog l bodies (g.S.Held.seen c.args.site.now).files) (sym view_is) is_log in
    let usable : c.self.inside.usable ≡ true = ap (λ (l : Log). l.usable) view_is ∙ c.requires.usable in
    let made = record_committed log (g.S.Held.seen c.args.site.now).files (g.S.Held.seen c.append.new.site).files c.args.framed.now c.requires.framed (omega arith)
    (subst (λ (n : ℕ). LeavesRecord n c.args.framed.now (bytes_of (g.S.Held.seen c.args.site.now).files log.file) (bytes_of (g.S.Held.seen c.append.new.site).files log.file)) c.place_in-gate.ensures.place (c.in_ok-append.ensures.bytes told)) bodies before in
    subst (λ (b : Bool). IsLog (record { file = c.self.inside.file; base = c.self.inside.base; end = c.self.inside.end + length c.args.framed.now; usable = b }) (bodies ++ body_of c.args.framed.now ∷ []) (g.S.Held.seen c.append.new.site).files) usable made

pub returns-clause-has_log : goal.returns-clause-has_log
returns-clause-has_log g c told =
    let has = c.requires.log told in
    record { bodies = has.bodies ++ body_of c.args.framed.now ∷ []; is_log = returns-clause-record g c told has.bodies has.is_log }

-- the calls, seen through the fields of the log
abbrev made : Log → List Happening → List Happening → List ℕ → Bool → Type 0
made log before now framed done = Made (commit_calls log.file (gate_of log) framed) before now done

pub returns-in_err-append-clause-happened : goal.returns-in_err-append-clause-happened
returns-in_err-append-clause-happened g c told room =
    let log : Log = record { file = c.self.inside.file; base = c.self.inside.base; end = c.self.inside.end; usable = c.self.inside.usable } in
    let before = (g.S.Held.seen c.args.site.now).happened in
    let now = (g.S.Held.seen c.append.new.site).happened in
    let view_is : log ≡ c.args.self.now = c.self.view_is in
    let there = subst (λ (l : Log). made l before now c.args.framed.now (is_ok c.append.result)) view_is
    (subst (λ (n : ℕ). Made (commit_calls log.file n c.args.framed.now) before now (is_ok c.append.result)) c.place_in-gate.ensures.place (c.append.ensures.happened told)) in
    subst (λ (b : Bool). made c.args.self.now before now c.args.framed.now b) (search rules) there

pub returns-clause-happened : goal.returns-clause-happened
returns-clause-happened g c told room =
    let log : Log = record { file = c.self.inside.file; base = c.self.inside.base; end = c.self.inside.end; usable = c.self.inside.usable } in
    let before = (g.S.Held.seen c.args.site.now).happened in
    let now = (g.S.Held.seen c.append.new.site).happened in
    let view_is : log ≡ c.args.self.now = c.self.view_is in
    let there = subst (λ (l : Log). made l before now c.args.framed.now (is_ok c.append.result)) view_is
    (subst (λ (n : ℕ). Made (commit_calls log.file n c.args.framed.now) before now (is_ok c.append.result)) c.place_in-gate.ensures.place (c.append.ensures.happened told)) in
    subst (λ (b : Bool). made c.args.self.now before now c.args.framed.now b) (search rules) there

-- the moments, seen through the fields of the log
pub returns-in_err-append-clause-moments : goal.returns-in_err-append-clause-moments
returns-in_err-append-clause-moments g c told bodies is settled =
    let log : Log = record { file = c.self.inside.file; base = c.self.inside.base; end = c.self.inside.end; usable = c.self.inside.usable } in
    let before = g.S.Held.seen c.args.site.now in
    let now = g.S.Held.seen c.append.new.site in
    let view_is : log ≡ c.args.self.now = c.self.view_is in
    let is' = subst (λ (l : Log). IsLog l bodies before.files) (sym view_is) is in
    let settled' = subst (λ (l : Log). IsSettled (IsLog l bodies) before) (sym view_is) settled in
    subst (λ (l : Log). RestsThroughout (HasOrLacks l bodies c.args.framed.now) before now) view_is
    (has_or_lacks log bodies c.args.framed.now before now c.requires.framed (omega arith) is' settled'
    (subst (λ (n : ℕ). RestsThroughout (IsPartPut n c.args.framed.now log.file before) before now) c.place_in-gate.ensures.place (c.append.ensures.moments told)))

pub returns-clause-moments : goal.returns-clause-moments
returns-clause-moments g c told bodies is settled =
    let log : Log = record { file = c.self.inside.file; base = c.self.inside.base; end = c.self.inside.end; usable = c.self.inside.usable } in
    let before = g.S.Held.seen c.args.site.now in
    let now = g.S.Held.seen c.append.new.site in
    let view_is : log ≡ c.args.self.now = c.self.view_is in
    let is' = subst (λ (l : Log). IsLog l bodies before.files) (sym view_is) is in
    let settled' = subst (λ (l : Log). IsSettled (IsLog l bodies) before) (sym view_is) settled in
    subst (λ (l : Log). RestsThroughout (HasOrLacks l bodies c.args.framed.now) before now) view_is
    (has_or_lacks log bodies c.args.framed.now before now c.requires.framed (omega arith) is' settled'
    (subst (λ (n : ℕ). RestsThroughout (IsPartPut n c.args.framed.now log.file before) before now) c.place_in-gate.ensures.place (c.append.ensures.moments told)))

pub returns-then-need-gt-FARTHEST_OFFSET-clause-moments : goal.returns-then-need-gt-FARTHEST_OFFSET-clause-moments
returns-then-need-gt-FARTHEST_OFFSET-clause-moments g c told bodies is settled = record { more = []; is = refl; moments = λ image there. inl (settled image there) }

-- the other files, seen through the fields of the log
pub returns-in_err-append-clause-beside : goal.returns-in_err-append-clause-beside
returns-in_err-append-clause-beside g c told =
    let log : Log = record { file = c.self.inside.file; base = c.self.inside.base; end = c.self.inside.end; usable = c.self.inside.usable } in
    let before = g.S.Held.seen c.args.site.now in
    let now = g.S.Held.seen c.append.new.site in
    let view_is : log ≡ c.args.self.now = c.self.view_is in
    subst (λ (l : Log). RestsThroughout (KeepsOthers l.file before) before now) view_is
    (rests log.file before (commit_calls log.file c.place_in-gate.result c.args.framed.now) now _ (refl, (refl, (refl, (refl, tt)))) (c.append.ensures.happened told))

pub returns-clause-beside : goal.returns-clause-beside
returns-clause-beside g c told =
    let log : Log = record { file = c.self.inside.file; base = c.self.inside.base; end = c.self.inside.end; usable = c.self.inside.usable } in
    let before = g.S.Held.seen c.args.site.now in
    let now = g.S.Held.seen c.append.new.site in
    let view_is : log ≡ c.args.self.now = c.self.view_is in
    subst (λ (l : Log). RestsThroughout (KeepsOthers l.file before) before now) view_is
    (rests log.file before (commit_calls log.file c.place_in-gate.result c.args.framed.now) now _ (refl, (refl, (refl, (refl, tt)))) (c.append.ensures.happened told))

pub returns-then-need-gt-FARTHEST_OFFSET-clause-beside : goal.returns-then-need-gt-FARTHEST_OFFSET-clause-beside
returns-then-need-gt-FARTHEST_OFFSET-clause-beside g c told =
    record { more = []; is = refl; moments = λ image there. record { old = image; stood = there; others = with_same image c.args.self.now.file } }
