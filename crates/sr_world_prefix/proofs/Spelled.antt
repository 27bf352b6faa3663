-- What a stored history gives: it has a spelling, its offsets rise, and what a window has of it past what was taken comes next.
use Rattle.std.proofs.Common.{◌≡◌, ℕ, ◌+◌, ◌<◌, ◌≤◌, List, [], ◌∷◌, ◌++◌, All, refl, sym, ap, subst, ◌∙◌, inl, inr, arith, le_refl}
use Rattle.std.proofs.lemmas.List.Elements.{All-nil, All-append, filter-append}
use Rattle.sr_book.specs.Entries.{Name}
use Rattle.sr_book.specs.Rising.{Rises, top, offsets}
use Rattle.sr_book.proofs.Offsets.{Rises-prefix, Rises-back, offsets-append}
use Rattle.sr_database_history.specs.Fitting.{Stored, stored_from}
use Rattle.sr_database_history.specs.Folds.{State, fresh, next, size}
use Rattle.sr_database_history.specs.Inner.Laws.{Holds}
use Rattle.sr_database_history.specs.Recorded.{Recorded}
use Rattle.sr_database_history.proofs.Kept.{fresh_holds, stays_held}
use Rattle.sr_world_model.specs.Layers.{transaction}
use Rattle.sr_world_model.specs.Machines.{given_from}
use Rattle.sr_world_model.specs.Windows.{past, window}
use Rattle.sr_world_model.proofs.Longer.{given_in}
use Rattle.sr_world_model.proofs.Offsets.{le_or_lt, past-window, window_above, window_below, within_test}
use Rattle.sr_catalog_script_laws.proofs.Made.{new_made}
use Rattle.sr_scan.proofs.Agreeing.{told_same}
use Rattle.sr_scan.proofs.Spelling.{spelled_told}
use Rattle.sr_scan.proofs.Strict.{IsGood, entry_good}
use Rattle.sr_scan.specs.Given.{gives}
use Rattle.sr_scan.specs.Inner.Laws.{HaveSpellings}
use Rattle.sr_world.specs.Real.{some_ops, machine, layers, HasSpelling, LawfulHistory}
use Rattle.sr_world.proofs.Bodies.{one_fits}
use Rattle.sr_world.proofs.Keeping.{real_laws}

-- what is given from a state on has a spelling
fits_on : (s : State) (place : ℕ) (user : Name) (rs : List Recorded) → Holds s → IsGood s.catalog → stored_from s place rs
    → All HasSpelling (given_from machine s place user rs)
fits_on s place user [] h g l = All-nil HasSpelling
fits_on s place user (r ∷ rs) h g l =
    let spelled : HaveSpellings (gives s r user) = subst HaveSpellings (told_same s place r user h l.0) (spelled_told s place r user g l.0) in
    All-append HasSpelling (transaction (place + (size r + 5)) (some_ops (gives s r user))) (given_from machine (next s r) (place + (size r + 5)) user rs)
    (one_fits (place + (size r + 5)) (gives s r user) l.0.ends spelled)
    (fits_on (next s r) (place + (size r + 5)) user rs (stays_held s place r h l.0) (entry_good s r l.0.meant l.0.state g) l.1)

pub given_spelled : (user publisher : Name) (us : List Recorded) → Stored user us → All HasSpelling (layers.given user publisher us)
given_spelled user publisher us stored = fits_on (fresh user) 0 publisher us (fresh_holds user) (record { made = new_made user; strict = tt }) stored

pub given_rises : (user publisher : Name) (us : List Recorded) → Rises 0 (offsets (layers.given user publisher us))
given_rises user publisher us = (given_in layers HasSpelling LawfulHistory real_laws user publisher us).0

-- of what rises past an offset a window from there has the first
window_prefix : {Ops : Type 0} (r low upto : ℕ) (txs : List (ℕ × Ops)) → r ≤ low → Rises low (offsets txs) → (more : List (ℕ × Ops)) × (txs ≡ window r upto txs ++ more)
window_prefix r low upto [] le rises = ([], refl)
window_prefix r low upto (tx ∷ txs) le rises = elim (le_or_lt tx.0 upto) [
  | inl within ↦
      let above : r < tx.0 = omega (arith, le, rises.0) in
      let later : r ≤ tx.0 = omega (arith, above) in
      let rest = window_prefix r tx.0 upto txs later rises.1 in
      (rest.0, rw (within_test r upto tx.0 above within) (ap (λ l. tx ∷ l) rest.1))
  | inr beyond ↦ (tx ∷ txs, ap (λ l. l ++ tx ∷ txs) (sym (window_above r upto upto (tx ∷ txs) (le_refl upto) (beyond, rises.1))))
]

-- what rises is what is done and then the rest: of a window that begins no later than the done ones end, what lies past their end is the first of the rest
pub past_in : {Ops : Type 0} (done rest : List (ℕ × Ops)) (prev upto : ℕ) → Rises 0 (offsets (done ++ rest)) → prev ≤ top 0 (offsets done)
    → (more : List (ℕ × Ops)) × (rest ≡ past (top 0 (offsets done)) (window prev upto (done ++ rest)) ++ more)
past_in done rest prev upto rises reached =
    let both : Rises 0 (offsets done ++ offsets rest) = subst (λ (l : List ℕ). Rises 0 l) (offsets-append done rest) rises in
    let prefix : Rises 0 (offsets done) = Rises-prefix 0 (offsets done) (offsets rest) both in
    let back : Rises (top 0 (offsets done)) (offsets rest) = Rises-back 0 (offsets done) (offsets rest) both in
    let none : window (top 0 (offsets done)) upto done ≡ []
    = window_below (top 0 (offsets done)) upto 0 done prefix (le_refl (top 0 (offsets done))) in
    let joined : window (top 0 (offsets done)) upto (done ++ rest) ≡ window (top 0 (offsets done)) upto done ++ window (top 0 (offsets done)) upto rest
    = filter-append _ done rest in
    let at_rest : past (top 0 (offsets done)) (window prev upto (done ++ rest)) ≡ window (top 0 (offsets done)) upto rest
    = past-window (top 0 (offsets done)) prev upto (done ++ rest) reached ∙ joined
    ∙ ap (λ txs. txs ++ window (top 0 (offsets done)) upto rest) none in
    let found = window_prefix (top 0 (offsets done)) (top 0 (offsets done)) upto rest (le_refl (top 0 (offsets done))) back in
    (found.0, found.1 ∙ ap (λ txs. txs ++ found.0) (sym at_rest))
