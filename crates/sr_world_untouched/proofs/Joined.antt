-- What was taken below from the beginning on is what the entries above from there on give.
use Rattle.std.proofs.Common.{◌≡◌, ◌≤◌, ◌<◌, inl, inr, ℕ, suc, ◌+◌, Bool, map, List, [], ◌∷◌, ◌++◌, refl, sym, ap, ap₂, subst, ◌∙◌, arith, if◌then◌else◌, append_assoc, le_refl}
use Rattle.std.specs.List.{AllByRecursion}
use Rattle.sr_base.specs.declared.value.Value.{Value as Cell}
use Rattle.sr_book.proofs.Folds.{taken-append}
use Rattle.sr_book.proofs.Offsets.{top-append, le-top, offsets-append, Rises-back, Rises-prefix, Rises-from_lower}
use Rattle.sr_book.specs.Entries.{Name}
use Rattle.sr_book.specs.Histories.{taken as taken_from}
use Rattle.sr_book.specs.Rising.{Rises, top, offsets}
use Rattle.sr_exec_where.proofs.Fixed.{bytes_itself}
use Rattle.sr_database_history.proofs.Joined.{end_from-append, le-end_from}
use Rattle.sr_database_history.specs.Folds.{State, fresh, next, sees, size, state_from, state_of, end_from, end_of}
use Rattle.sr_database_history.specs.Recorded.{Recorded, taken, sync, done_of, Done}
use Rattle.sr_logform.specs.declared.op.Op.{Op}
use Rattle.sr_world_model.specs.Worlds.{World, history}
use Rattle.sr_publish.specs.SubscribedTables.{SubscribedTable}
use Rattle.sr_scan.specs.Given.{gives, with_transaction, given_from}
use Rattle.sr_scan.proofs.Growing.{from_joined}
use Rattle.sr_catalog_schema.specs.declared.table.Table.{Table}
use Rattle.sr_world_untouched.specs.Untouched.{BeginsTaking, BySync, ByStart, IsUntouched}
use Rattle.sr_world.proofs.Keeping.{given_same}
use Rattle.sr_world.specs.Real.{IsGoodWorld}

abbrev Txs : Type 0
Txs = List (ℕ × List Op)

-- ---- below a bound, and from it on

abbrev Low : ℕ → Txs → Type 0
Low n txs = AllByRecursion (λ tx. tx.0 < n) txs

abbrev High : ℕ → Txs → Type 0
High n txs = AllByRecursion (λ tx. n ≤ tx.0) txs

both_sides : {A : Type 0} (x n : ℕ) → x < n → n ≤ x → A
both_sides x n low high = absurd (omega (arith, low, high))

-- a list is cut at a bound in one way
cut : (n : ℕ) (a b c d : Txs) → Low n a → High n b → Low n c → High n d → a ++ b ≡ c ++ d → (a ≡ c) × (b ≡ d)
cut n [] b [] d la hb lc hd e = (refl, e)
cut n [] [] (y ∷ c) d la hb lc hd e = absurd (cc)
cut n [] (x ∷ b) (y ∷ c) d la hb lc hd e =
    let same : x ≡ y = cc in
    both_sides x.0 n (subst (λ (z : ℕ × List Op). z.0 < n) (sym same) lc.0) hb.0
cut n (x ∷ a) b [] [] la hb lc hd e = absurd (cc)
cut n (x ∷ a) b [] (y ∷ d) la hb lc hd e =
    let same : x ≡ y = cc in
    both_sides x.0 n la.0 (subst (λ (z : ℕ × List Op). n ≤ z.0) (sym same) hd.0)
cut n (x ∷ a) b (y ∷ c) d la hb lc hd e =
    let same : x ≡ y = cc in
    let tails : a ++ b ≡ c ++ d = cc in
    let rest = cut n a b c d la.1 hb lc.1 hd tails in
    (ap₂ (λ (z : ℕ × List Op) (zs : Txs). z ∷ zs) same rest.0, rest.1)

all_of : (P Q : ℕ × List Op → Type 0) → ((x : ℕ × List Op) → P x → Q x) → (xs : Txs) → AllByRecursion P xs → AllByRecursion Q xs
all_of P Q f [] h = tt
all_of P Q f (x ∷ xs) h = (f x h.0, all_of P Q f xs h.1)

joined_all : (P : ℕ × List Op → Type 0) (xs ys : Txs) → AllByRecursion P xs → AllByRecursion P ys → AllByRecursion P (xs ++ ys)
joined_all P [] ys h k = k
joined_all P (x ∷ xs) ys h k = (h.0, joined_all P xs ys h.1 k)

-- what rises from a number lies above it, and at its top at most
above_low : (low : ℕ) (txs : Txs) → Rises low (offsets txs) → High (suc low) txs
above_low low [] rises = tt
above_low low (x ∷ txs) rises =
    (rises.0, all_of (λ y. suc x.0 ≤ y.0) (λ y. suc low ≤ y.0) (λ y h. omega (arith, h, rises.0)) txs (above_low x.0 txs rises.1))

below_top : (low : ℕ) (txs : Txs) → Rises low (offsets txs) → Low (suc (top low (offsets txs))) txs
below_top low [] rises = tt
below_top low (x ∷ txs) rises = (let on : x.0 ≤ top x.0 (offsets txs) = le-top x.0 (offsets txs) rises.1 in omega (arith, on), below_top x.0 txs rises.1)

-- ---- what entries give

given_after : (s : State) (place : ℕ) (rs : List Recorded) (user : Name) → Rises place (offsets (given_from s place rs user))
given_after s place [] user = tt
given_after s place (r ∷ rs) user = go (gives s r user) (given_after (next s r) (place + (size r + 5)) rs user)
  where
    go : (ops : List Op) → Rises (place + (size r + 5)) (offsets (given_from (next s r) (place + (size r + 5)) rs user))
        → Rises place (offsets (with_transaction (place + (size r + 5)) ops (given_from (next s r) (place + (size r + 5)) rs user)))
    go [] rises = Rises-from_lower place (place + (size r + 5)) (offsets (given_from (next s r) (place + (size r + 5)) rs user)) (omega arith) rises
    go (op ∷ ops) rises = (omega arith, rises)

given_before : (s : State) (place : ℕ) (rs : List Recorded) (user : Name) → Low (suc (end_from place rs)) (given_from s place rs user)
given_before s place [] user = tt
given_before s place (r ∷ rs) user = go (gives s r user) (given_before (next s r) (place + (size r + 5)) rs user)
  where
    go : (ops : List Op) → Low (suc (end_from (place + (size r + 5)) rs)) (given_from (next s r) (place + (size r + 5)) rs user)
        → Low (suc (end_from (place + (size r + 5)) rs)) (with_transaction (place + (size r + 5)) ops (given_from (next s r) (place + (size r + 5)) rs user))
    go [] low = low
    go (op ∷ ops) low = (let on : place + (size r + 5) ≤ end_from (place + (size r + 5)) rs = le-end_from (place + (size r + 5)) rs in omega (arith, on), low)

-- the first entry gives at its end, and the others behind it
given_first : (s : State) (place : ℕ) (r : Recorded) (rs : List Recorded) (user : Name) → High (place + (size r + 5)) (given_from s place (r ∷ rs) user)
given_first s place r rs user = go (gives s r user)
    (all_of (λ y. suc (place + (size r + 5)) ≤ y.0) (λ y. place + (size r + 5) ≤ y.0) (λ y h. omega (arith, h)) (given_from (next s r) (place + (size r + 5)) rs user)
    (above_low (place + (size r + 5)) (given_from (next s r) (place + (size r + 5)) rs user) (given_after (next s r) (place + (size r + 5)) rs user)))
  where
    go : (ops : List Op) → High (place + (size r + 5)) (given_from (next s r) (place + (size r + 5)) rs user)
        → High (place + (size r + 5)) (with_transaction (place + (size r + 5)) ops (given_from (next s r) (place + (size r + 5)) rs user))
    go [] high = high
    go (op ∷ ops) high = (le_refl (place + (size r + 5)), high)

before_more : (end : ℕ) (ops : List Op) (xs ys : Txs) → with_transaction end ops (xs ++ ys) ≡ with_transaction end ops xs ++ ys
before_more end [] xs ys = refl
before_more end (op ∷ ops) xs ys = refl

-- ---- the cuts

module _ (w : World Recorded) (user above : Name) (key : List Cell) (subscribed_table : SubscribedTable) (below : Table) (u : IsUntouched w user above key subscribed_table below) (good : IsGoodWorld w) where
  abbrev s : State
  s = state_of above u.before

  abbrev place : ℕ
  place = end_of u.before

  abbrev prefix : Txs
  prefix = given_from (fresh above) 0 u.before user

  abbrev given_since : Txs
  given_since = given_from s place u.since user

  abbrev given_later : Txs
  given_later = given_from (state_from s u.since) (end_from place u.since) u.later user

  abbrev taken_old : Txs
  taken_old = taken_from sees above u.old

  abbrev taken_new : Txs
  taken_new = taken_from sees above u.new

  abbrev rest : Txs
  rest = (good.in_step user above).rest

  -- one list, in two ways
  taken_all : taken_from sees above (history w user) ≡ taken_old ++ taken_new
  taken_all = ap (taken_from sees above) u.parts_below ∙ taken-append sees above u.old u.new

  given_all : given_from (fresh above) 0 (history w above) user ≡ prefix ++ (given_since ++ given_later)
  given_all =
      ap (λ (rs : List Recorded). given_from (fresh above) 0 rs user) u.parts
      ∙ from_joined (fresh above) 0 u.before (u.since ++ u.later) user
      ∙ ap (λ (txs : Txs). prefix ++ txs) (from_joined s place u.since u.later user)

  in_step : given_from (fresh above) 0 (history w above) user ≡ taken_from sees above (history w user) ++ rest
  in_step = sym (given_same above user (history w above)) ∙ (good.in_step user above).taken_first

  one_list : taken_old ++ (taken_new ++ rest) ≡ prefix ++ (given_since ++ given_later)
  one_list = sym (append_assoc taken_old taken_new rest) ∙ ap (λ (txs : Txs). txs ++ rest) (sym taken_all) ∙ sym in_step ∙ given_all

  -- it rises
  taken_rises : Rises 0 (offsets (taken_old ++ (taken_new ++ rest)))
  taken_rises = subst (λ (txs : Txs). Rises 0 (offsets txs)) (ap (λ (txs : Txs). txs) (given_all ∙ sym one_list)) (given_after (fresh above) 0 (history w above) user)

  old_rises : Rises 0 (offsets taken_old)
  old_rises = Rises-prefix 0 (offsets taken_old) (offsets (taken_new ++ rest)) (subst (Rises 0) (offsets-append taken_old (taken_new ++ rest)) taken_rises)

  new_rises : Rises (top 0 (offsets taken_old)) (offsets (taken_new ++ rest))
  new_rises = Rises-back 0 (offsets taken_old) (offsets (taken_new ++ rest)) (subst (Rises 0) (offsets-append taken_old (taken_new ++ rest)) taken_rises)

  -- where the beginning's take is at an offset, its transaction comes first
  module _ (at : ℕ) (begins : BeginsTaking above at u.new) where
    first_taken : (more : Txs) × (ops : List Op) × (taken_new ≡ (at, ops) ∷ more)
    first_taken =
        let ops : List Op = map (λ (d : Done). (done_of d).0) begins.dones in
        let of_new : taken_new ≡ taken_from sees above (taken above begins.offset begins.dones ∷ begins.more) = ap (taken_from sees above) begins.is in
        let this : taken_from sees above (taken above begins.offset begins.dones ∷ begins.more) ≡ (begins.offset.0, ops) ∷ taken_from sees above begins.more
        = ap (λ (b : Bool). (if b then (begins.offset.0, ops) ∷ [] else []) ++ taken_from sees above begins.more) (bytes_itself above) in
        (taken_from sees above begins.more, ops, of_new ∙ this ∙ ap (λ (n : ℕ). (n, ops) ∷ taken_from sees above begins.more) begins.at_is)

    from_at : (top 0 (offsets taken_old) < at) × High at (taken_new ++ rest)
    from_at =
        let first = first_taken in
        let rises : Rises (top 0 (offsets taken_old)) (offsets (((at, first.1) ∷ first.0) ++ rest)) = subst (λ (txs : Txs). Rises (top 0 (offsets taken_old)) (offsets (txs ++ rest))) first.2 new_rises in (
          rises.0,
          subst (λ (txs : Txs). High at (txs ++ rest)) (sym first.2)
              (le_refl at, all_of (λ y. suc at ≤ y.0) (λ y. at ≤ y.0) (λ y h. omega (arith, h)) (first.0 ++ rest) (above_low at (first.0 ++ rest) rises.1)),
        )

    -- a bound between the beginning and all before it
    module _ (bound : ℕ) (past : place < bound) (till : bound ≤ at) (old_low : top 0 (offsets taken_old) < bound) (high : High bound (given_since ++ given_later)) where
      halves : (taken_old ≡ prefix) × (taken_new ++ rest ≡ given_since ++ given_later)
      halves = cut bound taken_old (taken_new ++ rest) prefix (given_since ++ given_later)
          (all_of (λ y. y.0 < suc (top 0 (offsets taken_old))) (λ y. y.0 < bound) (λ y h. omega (arith, h, old_low)) taken_old (below_top 0 taken_old old_rises))
          (all_of (λ y. at ≤ y.0) (λ y. bound ≤ y.0) (λ y h. omega (arith, h, till)) (taken_new ++ rest) from_at.1)
          (all_of (λ y. y.0 < suc place) (λ y. y.0 < bound) (λ y h. omega (arith, h, past)) prefix (given_before (fresh above) 0 u.before user))
          high one_list

      end_is : end_from place u.since ≡ end_of (u.before ++ u.since)
      end_is = sym (end_from-append 0 u.before u.since)

      top_is : top (top 0 (offsets taken_old)) (offsets taken_new) ≡ end_of (u.before ++ u.since)
      top_is =
          sym (top-append 0 (offsets taken_old) (offsets taken_new)) ∙ ap (top 0) (sym (offsets-append taken_old taken_new)) ∙ ap (λ (txs : Txs). top 0 (offsets txs)) (sym taken_all)
          ∙ sym u.ends

      pub taken_is_given : taken_new ≡ given_since
      taken_is_given =
          let end = end_of (u.before ++ u.since) in
          let new_prefix : Rises (top 0 (offsets taken_old)) (offsets taken_new)
          = Rises-prefix (top 0 (offsets taken_old)) (offsets taken_new) (offsets rest) (subst (Rises (top 0 (offsets taken_old))) (offsets-append taken_new rest) new_rises) in
          let rest_rises : Rises end (offsets rest)
          = subst (λ (n : ℕ). Rises n (offsets rest)) top_is
          (Rises-back (top 0 (offsets taken_old)) (offsets taken_new) (offsets rest) (subst (Rises (top 0 (offsets taken_old))) (offsets-append taken_new rest) new_rises)) in
          (cut (suc end) taken_new rest given_since given_later
          (subst (λ (n : ℕ). Low (suc n) taken_new) top_is (below_top (top 0 (offsets taken_old)) taken_new new_prefix))
          (above_low end rest rest_rises)
          (subst (λ (n : ℕ). Low (suc n) given_since) end_is (given_before s place u.since user))
          (subst (λ (n : ℕ). High (suc n) given_later) end_is (above_low (end_from place u.since) given_later (given_after (state_from s u.since) (end_from place u.since) u.later user)))
          halves.1).0

  by_start : ByStart user above subscribed_table.table.name key u.before u.since u.old u.new → taken_new ≡ given_since
  by_start b =
      let high : High (suc place) (given_since ++ given_later)
      = subst (High (suc place)) (from_joined s place u.since u.later user) (above_low place (given_from s place (u.since ++ u.later) user) (given_after s place (u.since ++ u.later) user)) in
      taken_is_given b.at b.takes (suc place) (le_refl (suc place)) b.past (omega (arith, b.until)) high

  by_sync : BySync user above subscribed_table.table.name u.before u.since u.old u.new → taken_new ≡ given_since
  by_sync b =
      let at = end_of (u.before ++ sync user b.tables ∷ []) in
      let at_is : at ≡ place + (size (sync user b.tables) + 5) = end_from-append 0 u.before (sync user b.tables ∷ []) in
      let high : High at (given_since ++ given_later)
      = subst (High at) (from_joined s place u.since u.later user)
      (subst (λ (rs : List Recorded). High at (given_from s place (rs ++ u.later) user)) (sym b.is)
      (subst (λ (n : ℕ). High n (given_from s place (sync user b.tables ∷ (b.rest ++ u.later)) user)) (sym at_is) (given_first s place (sync user b.tables) (b.rest ++ u.later) user))) in
      taken_is_given at b.takes at (omega (arith, at_is)) (le_refl at) (from_at at b.takes).0 high

  pub joined : taken_new ≡ given_since
  joined = elim u.begins as (λ _. taken_new ≡ given_since) [
    | inl b ↦ by_sync b
    | inr b ↦ by_start b
  ]

  -- there is a first take
  pub some_new : (at : ℕ) → BeginsTaking above at u.new → ¬ (u.since ≡ [])
  some_new at begins none =
      let first = first_taken at begins in
      let empty : taken_new ≡ [] = joined ∙ ap (λ (rs : List Recorded). given_from s place rs user) none in
      let no : (at, first.1) ∷ first.0 ≡ [] = sym first.2 ∙ empty in
      absurd (cc)
