-- What the entries of a history give a user, one after the other.
use Rattle.std.proofs.Common.{◌≡◌, ℕ, ◌+◌, ◌≤◌, ◌<◌, List, [], ◌∷◌, ◌++◌, inl, inr, refl, sym, ap, subst, ◌∙◌, arith, append_assoc, le-ltb, lt-ltb}
use Rattle.std.specs.Prelude.{Bool, true, false, cond, max, map, filter, nat_lt}
use Rattle.std.proofs.lemmas.List.{append-nil, map-append}
use Rattle.std.proofs.lemmas.List.Elements.{filter-append}
use Rattle.sr_base.specs.Values.{offset_from}
use Rattle.sr_base.specs.declared.offset.Offset.{Offset}
use Rattle.sr_book.proofs.Folds.{ask_test}
use Rattle.sr_book.specs.Entries.{Name}
use Rattle.sr_database.specs.Databases.{IsOf}
use Rattle.sr_database.specs.Inner.Entries.{IsNext}
use Rattle.sr_database.specs.Views.{View}
use Rattle.sr_database_history.specs.Fitting.{Fits, Stored}
use Rattle.sr_database_history.specs.Folds.{State, fresh, next, size, state_of, end_of, end_from}
use Rattle.sr_database_history.specs.Recorded.{Recorded, entry_of}
use Rattle.sr_database_history.proofs.Joined.{state_from-more, end_from-more, le-end_from, stored_from-append}
use Rattle.sr_database_history.proofs.Kept.{stored_holds}
use Rattle.sr_logform.specs.declared.entry.Entry.{Entry}
use Rattle.sr_logform.specs.declared.op.Op.{Op}
use Rattle.sr_logform.specs.declared.op.Transaction.{Transaction}
use Rattle.sr_scan.specs.Given.{given_of, given_from, gives, with_transaction}
use Rattle.sr_scan.specs.Inner.Scanners.{Scan, IsFed, transaction_of}
use Rattle.sr_scan.proofs.Agreeing.{fed_same}
use Rattle.sr_scan.proofs.Growing.{joined, one_more}
use Rattle.sr_send.specs.Inner.Steps.{newer, HasRead, IsScanned}
use Rattle.sr_send.specs.Inner.Stops.{IsPrefixOf, IsNextFound}
use Rattle.sr_send.specs.Unsent.{as_transaction, past, unsent}

-- ---- those past an offset

pub past-append : (sent : ℕ) (xs ys : List (ℕ × List Op)) → past sent (xs ++ ys) ≡ past sent xs ++ past sent ys
past-append sent xs ys =
    ap (map as_transaction) (filter-append (λ tx. nat_lt sent tx.0) xs ys)
    ∙ map-append as_transaction (filter (λ tx. nat_lt sent tx.0) xs) (filter (λ tx. nat_lt sent tx.0) ys)

one_past : (b : Bool) (tx : ℕ × List Op) → map as_transaction (cond b (tx ∷ []) []) ≡ cond b (as_transaction tx ∷ []) []
one_past true tx = refl
one_past false tx = refl

-- that of an entry is what a scanner finds
past_found : (sent place : ℕ) (at : Offset) (ops : List Op) → at.0 ≡ place → past sent (with_transaction place ops []) ≡ newer sent (transaction_of at ops)
past_found sent place at [] is = refl
past_found sent place at (op ∷ ops) is =
    one_past (nat_lt sent place) (place, op ∷ ops)
    ∙ ap (λ (n : ℕ). cond (nat_lt sent n) (record { at = offset_from n; ops = op ∷ ops } ∷ []) []) (sym is)

-- with one entry more
pub unsent_more : (publisher user : Name) (rs : List Recorded) (r : Recorded) (sent : ℕ) (at : Offset) → at.0 ≡ end_of (rs ++ r ∷ [])
    → unsent publisher (rs ++ r ∷ []) user sent ≡ unsent publisher rs user sent ++ newer sent (transaction_of at (gives (state_of publisher rs) r user))
unsent_more publisher user rs r sent at is =
    let place : at.0 ≡ end_of rs + (size r + 5) = is ∙ end_from-more 0 rs r in
    let ops = gives (state_of publisher rs) r user in
    ap (past sent) (one_more publisher user rs r)
    ∙ past-append sent (given_of publisher rs user) (with_transaction (end_of rs + (size r + 5)) ops [])
    ∙ ap (λ (ts : List Transaction). unsent publisher rs user sent ++ ts) (past_found sent (end_of rs + (size r + 5)) at ops place)

-- those of a prefix are the first
pub unsent_prefix : (publisher user : Name) (rs qs : List Recorded) (sent : ℕ) → IsPrefixOf (unsent publisher rs user sent) (unsent publisher (rs ++ qs) user sent)
unsent_prefix publisher user rs qs sent = record {
  rest = past sent (given_from (state_of publisher rs) (end_of rs) qs user);
  parts = ap (past sent) (joined publisher user rs qs) ∙ past-append sent (given_of publisher rs user) (given_from (state_of publisher rs) (end_of rs) qs user);
}

-- ---- what ends before

first_past : (sent end : ℕ) (ops : List Op) (rest : List (ℕ × List Op)) → end ≤ sent → past sent rest ≡ [] → past sent (with_transaction end ops rest) ≡ []
first_past sent end [] rest before none = none
first_past sent end (op ∷ ops) rest before none =
    let not_past : nat_lt sent end ≡ false = le-ltb sent end before in
    rw not_past none

none_past : (sent : ℕ) (s : State) (place : ℕ) (rs : List Recorded) (user : Name) → end_from place rs ≤ sent → past sent (given_from s place rs user) ≡ []
none_past sent s place [] user before = refl
none_past sent s place (r ∷ rs) user before =
    let end = place + (size r + 5) in
    first_past sent end (gives s r user) (given_from (next s r) end rs user) (omega (arith, le-end_from end rs, before)) (none_past sent (next s r) end rs user before)

-- of entries that end no later than what was sent nothing is to be sent
pub none_unsent : (publisher user : Name) (done : List Recorded) (sent : ℕ) → end_of done ≤ sent → unsent publisher done user sent ≡ []
none_unsent publisher user done sent before = none_past sent (fresh publisher) 0 done user before

-- ---- past a base

-- an offset past it lies past what was sent as it lies past both
past_base : (base sent n : ℕ) → base < n → nat_lt sent n ≡ nat_lt (max base sent) n
past_base base sent n later = elim (ask_test sent n) [
  | inl t ↦ t.0 ∙ sym (lt-ltb (max base sent) n (omega (arith, t.1, later)))
  | inr t ↦ t.0 ∙ sym (le-ltb (max base sent) n (omega (arith, t.1)))
]

newer_past : (base sent : ℕ) (at : Offset) (ops : List Op) → base < at.0 → newer sent (transaction_of at ops) ≡ newer (max base sent) (transaction_of at ops)
newer_past base sent at [] later = refl
newer_past base sent at (op ∷ ops) later = ap (λ (b : Bool). cond b (record { at = at; ops = op ∷ ops } ∷ []) []) (past_base base sent at.0 later)

-- ---- a log that is being read

-- where it begins
pub read_none : (db : View) (publisher : Name) (es : List Recorded) (user : Name) (sent : ℕ) (after : Offset) (scan : Scan) → IsOf db publisher es → after.0 ≡ db.log.base → scan.catalog ≡ db.base_catalog → scan.user ≡ user
    → HasRead db.log.base publisher es user sent after scan []
read_none db publisher es user sent after scan is at catalog user_is =
    let based = is.based in
    record {
      done = based.done;
      left = based.left;
      parts = based.parts;
      after_is = at ∙ based.base_is;
      catalog = catalog ∙ based.catalog_is;
      user_is = user_is;
      from_base = omega (arith, at);
      pushed_are = sym (none_unsent publisher user based.done (max db.log.base sent) (omega (arith, based.base_is)));
    }

-- the next entry fits after those that were read
pub fits_next : (publisher : Name) (es done rest : List Recorded) (r : Recorded) → Stored publisher es → es ≡ done ++ r ∷ rest → Stored publisher done × Fits (state_of publisher done) (end_of done) r
fits_next publisher es done rest r stored parts =
    let both = (stored_from-append (fresh publisher) 0 done (r ∷ rest)).0 (subst (λ (rs : List Recorded). Stored publisher rs) parts stored) in
    (both.0, both.1.0)

-- what a scanner finds in it is what it gives
pub found_next : (base : ℕ) (publisher : Name) (es done left : List Recorded) (user : Name) (sent : ℕ) (scan scan' : Scan) (end : Offset) (entry : Entry) (added : List Transaction) → Stored publisher es → es ≡ done ++ left → base ≤ end_of done
    → (next_is : IsNext done left end entry) → scan.catalog ≡ (state_of publisher done).catalog → scan.user ≡ user → IsScanned scan end entry sent added scan'
    → (unsent publisher (done ++ next_is.r ∷ []) user (max base sent) ≡ unsent publisher done user (max base sent) ++ added) × (scan'.catalog ≡ (state_of publisher (done ++ next_is.r ∷ [])).catalog) × (scan'.user ≡ user)
found_next base publisher es done left user sent scan scan' end entry added stored parts from_base next_is catalog user_is scanned =
    let r = next_is.r in
    let s = state_of publisher done in
    let fits = fits_next publisher es done next_is.rest r stored (parts ∙ ap (λ (rs : List Recorded). done ++ rs) next_is.left_is) in
    let fed : IsFed scan end (entry_of r) scanned.found scan' = subst (λ (e : Entry). IsFed scan end e scanned.found scan') next_is.entry_is scanned.fed in
    let same = fed_same s (end_of done) r scan scan' end scanned.found (stored_holds publisher done fits.0) fits.1 catalog fed in
    let later : base < end.0 = omega (arith, from_base, next_is.end_is, end_from-more 0 done r) in
    let given : added ≡ newer (max base sent) (transaction_of end (gives s r user)) =
    scanned.added_is ∙ ap (newer sent) same.0 ∙ ap (λ (u : Name). newer sent (transaction_of end (gives s r u))) user_is ∙ newer_past base sent end (gives s r user) later in (
      unsent_more publisher user done r (max base sent) end next_is.end_is ∙ ap (λ (ts : List Transaction). unsent publisher done user (max base sent) ++ ts) (sym given),
      same.1 ∙ ap (λ (x : State). x.catalog) (sym (state_from-more (fresh publisher) done r)),
      same.2 ∙ user_is,
    )

pub read_more : (base : ℕ) (publisher : Name) (es : List Recorded) (user : Name) (sent : ℕ) (after end : Offset) (scan scan' : Scan) (pushed added : List Transaction) (entry : Entry) → Stored publisher es → (read : HasRead base publisher es user sent after scan pushed)
    → IsNext read.done read.left end entry → IsScanned scan end entry sent added scan' → HasRead base publisher es user sent end scan' (pushed ++ added)
read_more base publisher es user sent after end scan scan' pushed added entry stored read next_is scanned =
    let found = found_next base publisher es read.done read.left user sent scan scan' end entry added stored read.parts (omega (arith, read.from_base, read.after_is)) next_is read.catalog read.user_is scanned in
    record {
      done = read.done ++ next_is.r ∷ [];
      left = next_is.rest;
      parts = read.parts ∙ ap (λ (rs : List Recorded). read.done ++ rs) next_is.left_is ∙ sym (append_assoc read.done (next_is.r ∷ []) next_is.rest);
      after_is = next_is.end_is;
      catalog = found.1;
      user_is = found.2;
      from_base = omega (arith, read.from_base, read.after_is, next_is.end_is, end_from-more 0 read.done next_is.r);
      pushed_are = ap (λ (ts : List Transaction). ts ++ added) read.pushed_are ∙ sym found.0;
    }

-- nothing is left
pub read_all : (base : ℕ) (publisher : Name) (es : List Recorded) (user : Name) (sent : ℕ) (after : Offset) (scan : Scan) (pushed : List Transaction) → (read : HasRead base publisher es user sent after scan pushed) → read.left ≡ []
    → pushed ≡ unsent publisher es user (max base sent)
read_all base publisher es user sent after scan pushed read none =
    read.pushed_are ∙ ap (λ (rs : List Recorded). unsent publisher rs user (max base sent)) (sym (read.parts ∙ ap (λ (rs : List Recorded). read.done ++ rs) none ∙ append-nil read.done))

-- what was pushed is the first of what is unsent
pub read_prefix : (base : ℕ) (publisher : Name) (es : List Recorded) (user : Name) (sent : ℕ) (after : Offset) (scan : Scan) (pushed : List Transaction) → HasRead base publisher es user sent after scan pushed
    → IsPrefixOf pushed (unsent publisher es user (max base sent))
read_prefix base publisher es user sent after scan pushed read =
    let prefix = unsent_prefix publisher user read.done read.left (max base sent) in
    record {
      rest = prefix.rest;
      parts = ap (λ (rs : List Recorded). unsent publisher rs user (max base sent)) read.parts ∙ prefix.parts ∙ ap (λ (ts : List Transaction). ts ++ prefix.rest) (sym read.pushed_are);
    }

-- with what the next entry gives
pub next_prefix : (base : ℕ) (publisher : Name) (es : List Recorded) (user : Name) (sent : ℕ) (after : Offset) (scan : Scan) (pushed added : List Transaction) → Stored publisher es → (read : HasRead base publisher es user sent after scan pushed)
    → IsNextFound scan sent read.done read.left added → IsPrefixOf (pushed ++ added) (unsent publisher es user (max base sent))
next_prefix base publisher es user sent after scan pushed added stored read found =
    read_prefix base publisher es user sent found.end found.found.behind (pushed ++ added)
    (read_more base publisher es user sent after found.end scan found.found.behind pushed added found.entry stored read found.next found.found.scanned)
