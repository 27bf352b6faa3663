-- Scanning a log for a user, entry by entry.
use Rattle.std.proofs.Common.{◌≡◌, ℕ, ◌+◌, Bool, true, false, cond, List, [], ◌∷◌, ◌++◌, map, filter, Option, refl, sym, ap, subst, ◌∙◌, append_assoc, append-nil}
use Rattle.sr_base.specs.declared.offset.Offset.{Offset}
use Rattle.sr_base.specs.Values.{offset_from}
use Rattle.sr_book.specs.Entries.{Name}
use Rattle.sr_catalog_schema.specs.Catalogs.{Lists, nothing_but}
use Rattle.sr_database_history.specs.Folds.{State, fresh, next, size}
use Rattle.sr_database_history.specs.Inner.Laws.{Holds}
use Rattle.sr_database_history.specs.Recorded.{Recorded}
use Rattle.sr_database_history.proofs.Kept.{fresh_holds, stays_held}
use Rattle.sr_logform.specs.declared.entry.Entry.{Entry}
use Rattle.sr_logform.specs.declared.op.Op.{Op}
use Rattle.sr_logform.specs.declared.op.Transaction.{Transaction}
use Rattle.sr_scan.specs.Given.{gives, with_transaction, given_from, given_of}
use Rattle.sr_scan.specs.Inner.Scanners.{Scan, IsFed, transaction_of}
use Rattle.sr_scan.proofs.Agreeing.{fed_same}
use Rattle.sr_world_steps.specs.Inner.Logs.{GoesOn, IsLog}
use Rattle.sr_world_steps.specs.Inner.Places.{Log}
use Rattle.sr_world_steps.specs.Inner.Scanned.{AreGiven, in_window, is_within, kept, transaction_in}
use Rattle.sr_world_steps.proofs.Following.{First, first_of, none_of}

-- what is kept of the ops of an entry stands before the rest of the window
kept_by : (b : Bool) (t : Transaction) (rest : List Transaction) → cond b (t ∷ []) [] ++ rest ≡ cond b (t ∷ rest) rest
kept_by true t rest = refl
kept_by false t rest = refl

window_by : (b : Bool) (tx : ℕ × List Op) (txs : List (ℕ × List Op)) → cond b (transaction_in tx ∷ map transaction_in txs)
    (map transaction_in txs) ≡ map transaction_in (cond b (tx ∷ txs) txs)
window_by true tx txs = refl
window_by false tx txs = refl

kept_is : (prev upto end : ℕ) (ops : List Op) (rest : List (ℕ × List Op))
    → kept prev upto (transaction_of (offset_from end) ops) ++ in_window prev upto rest ≡ in_window prev upto (with_transaction end ops rest)
kept_is prev upto end [] rest = refl
kept_is prev upto end (op ∷ ops) rest =
    kept_by (is_within prev upto end) (transaction_in (end, op ∷ ops)) (in_window prev upto rest)
    ∙ window_by (is_within prev upto end) (end, op ∷ ops) (filter (λ tx. is_within prev upto tx.0) rest)

-- what is still to be scanned
pub record ToScan (d user : Name) (prev upto : ℕ) (rs : List Recorded) (left : Log) (found : List Transaction) (catalog : Lists) : Type 0 where
  pub s : State
  pub place : ℕ
  pub rest : List Recorded
  pub on : GoesOn s place rest left
  pub holds : Holds s
  pub catalog_is : catalog ≡ s.catalog
  pub all : found ++ in_window prev upto (given_from s place rest user) ≡ in_window prev upto (given_of d rs user)

-- scanning has come so far
pub record Scans (d user : Name) (prev upto : ℕ) (log left : Log) (found : List Transaction) (scan : Scan) : Type 0 where
  pub user_is : scan.user ≡ user
  pub ahead : (rs : List Recorded) → IsLog d rs log → ToScan d user prev upto rs left found scan.catalog

pub scan_begun : (d user : Name) (prev upto : ℕ) (log : Log) (found : List Transaction) (scan : Scan) → found ≡ [] → scan.catalog ≡ nothing_but d → scan.user ≡ user
    → Scans d user prev upto log log found scan
scan_begun d user prev upto log found scan empty catalog is = record {
  user_is = is;
  ahead = λ rs g. record {
    s = fresh d;
    place = 0;
    rest = rs;
    on = g;
    holds = fresh_holds d;
    catalog_is = catalog;
    all = ap (λ (l : List Transaction). l ++ in_window prev upto (given_from (fresh d) 0 rs user)) empty;
  };
}

next_scan : (d user : Name) (prev upto : ℕ) (rs : List Recorded) (left rest : Log) (found now : List Transaction) (old new : Scan) (x : Offset × Entry) (got : Option Transaction)
    → old.user ≡ user → left ≡ x ∷ rest → IsFed old x.0 x.1 got new → now ≡ found ++ kept prev upto got
    → ToScan d user prev upto rs left found old.catalog → ToScan d user prev upto rs rest now new.catalog
next_scan d user prev upto rs left rest found now old new x got is split fed more l =
    let one : First l.s l.place l.rest x rest = first_of l.s l.place l.rest x rest (subst (GoesOn l.s l.place l.rest) split l.on) in
    let same = fed_same l.s l.place one.entry old new x.0 got l.holds one.fits l.catalog_is (subst (λ (e : Entry). IsFed old x.0 e got new) (sym one.is) fed) in
    let end : ℕ = l.place + (size one.entry + 5) in
    let ops : List Op = gives l.s one.entry user in
    let behind : List (ℕ × List Op) = given_from (next l.s one.entry) end one.behind user in
    let at_is : x.0 ≡ offset_from end = λ i. record { 0 = one.ends i } in
    let got_is : got ≡ transaction_of (offset_from end) ops =
    same.0 ∙ ap (λ (u : Name). transaction_of x.0 (gives l.s one.entry u)) is ∙ ap (λ (o : Offset). transaction_of o ops) at_is in
    let here : kept prev upto got ++ in_window prev upto behind ≡ in_window prev upto (with_transaction end ops behind) =
    ap (λ (t : Option Transaction). kept prev upto t ++ in_window prev upto behind) got_is ∙ kept_is prev upto end ops behind in
    record {
      s = next l.s one.entry;
      place = end;
      rest = one.behind;
      on = one.on;
      holds = stays_held l.s l.place one.entry l.holds one.fits;
      catalog_is = same.1;
      all =
          ap (λ (t : List Transaction). t ++ in_window prev upto behind) more
          ∙ append_assoc found (kept prev upto got) (in_window prev upto behind)
          ∙ ap (λ (t : List Transaction). found ++ t) here
          ∙ ap (λ (t : List Recorded). found ++ in_window prev upto (given_from l.s l.place t user)) (sym one.all)
          ∙ l.all;
    }

pub scan_goes_on : (d user : Name) (prev upto : ℕ) (log left rest : Log) (found now : List Transaction) (old new : Scan) (x : Offset × Entry) (got : Option Transaction)
    → Scans d user prev upto log left found old → left ≡ x ∷ rest → IsFed old x.0 x.1 got new → now ≡ found ++ kept prev upto got
    → Scans d user prev upto log rest now new
scan_goes_on d user prev upto log left rest found now old new x got f split fed more = record {
  user_is = fed.user ∙ f.user_is;
  ahead = λ rs g. next_scan d user prev upto rs left rest found now old new x got f.user_is split fed more (f.ahead rs g);
}

pub scan_ended : (d user : Name) (prev upto : ℕ) (log left : Log) (found : List Transaction) (scan : Scan) → Scans d user prev upto log left found scan → left ≡ []
    → AreGiven d user prev upto log found
unfolding AreGiven
scan_ended d user prev upto log left found scan f none = λ rs g.
    let l = f.ahead rs g in
    let empty : l.rest ≡ [] = none_of l.s l.place l.rest (subst (GoesOn l.s l.place l.rest) none l.on) in
    sym (append-nil found) ∙ ap (λ (t : List Recorded). found ++ in_window prev upto (given_from l.s l.place t user)) (sym empty) ∙ l.all
