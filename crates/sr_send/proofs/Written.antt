-- What a stored history gives can be written.
use Rattle.std.proofs.Common.{◌≡◌, List, [], ◌∷◌, ◌++◌, Some, refl, sym, subst}
use Rattle.std.specs.List.{AllByRecursion}
use Rattle.sr_base.specs.declared.offset.Offset.{Offset}
use Rattle.sr_book.specs.Entries.{Name}
use Rattle.sr_database_history.specs.Fitting.{Stored}
use Rattle.sr_database_history.specs.Folds.{state_of, end_of}
use Rattle.sr_database_history.specs.Recorded.{Recorded, entry_of}
use Rattle.sr_database_history.proofs.Kept.{stored_holds}
use Rattle.sr_logform.specs.Ops.{IsOp, IsShortOp}
use Rattle.sr_logform.specs.Inner.Ops.{IsShortTransaction}
use Rattle.sr_logform.specs.declared.op.Op.{Op}
use Rattle.sr_logform.specs.declared.op.Transaction.{Transaction}
use Rattle.sr_logform.proofs.Shorter.{short_op}
use Rattle.sr_scan.specs.Given.{gives}
use Rattle.sr_scan.specs.Inner.Laws.{HaveSpellings}
use Rattle.sr_scan.specs.Inner.Scanners.{Scan, IsFed, transaction_of}
use Rattle.sr_scan.proofs.Agreeing.{fed_same}
use Rattle.sr_scan.proofs.Spelling.{spelled}
use Rattle.sr_send.proofs.Histories.{fits_next}

ops_short : (ops : List Op) → AllByRecursion IsOp ops → AllByRecursion IsShortOp ops
ops_short [] all = tt
ops_short (op ∷ ops) all = (short_op op all.0, ops_short ops all.1)

given_short : (at : Offset) (ops : List Op) (t : Transaction) → HaveSpellings ops → Some t ≡ transaction_of at ops → IsShortTransaction t
given_short at [] t have found = absurd cc
given_short at (op ∷ ops) t have found =
    let is : t ≡ record { at = at; ops = op ∷ ops } = cc in
    subst (λ (x : Transaction). IsShortTransaction x) (sym is) (record { items = (have.few, ops_short (op ∷ ops) have.each); filled = λ none. absurd cc })

pub can_be_written : (publisher : Name) (done : List Recorded) (r : Recorded) (old new : Scan) (at : Offset) (t : Transaction) → Stored publisher (done ++ r ∷ []) → old.catalog ≡ (state_of publisher done).catalog
    → IsFed old at (entry_of r) (Some t) new → IsShortTransaction t
can_be_written publisher done r old new at t stored catalog fed =
    let s = state_of publisher done in
    let fits = fits_next publisher (done ++ r ∷ []) done [] r stored refl in
    let same = fed_same s (end_of done) r old new at (Some t) (stored_holds publisher done fits.0) fits.1 catalog fed in
    given_short at (gives s r old.user) t (spelled publisher old.user done r stored) same.0
