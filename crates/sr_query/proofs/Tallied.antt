-- Aggregates along rows: a row more, and all of them.
use Rattle.std.proofs.Common.{◌≡◌, ℕ, ◌+◌, pos, cond, Bool, true, false, ℤ, List, [], ◌∷◌, length, map, Option, Some, None, Result, Ok, Err, arith, refl, sym, ap, ◌∙◌}
use Rattle.sr_base.specs.declared.value.Value.{Value as Cell}
use Rattle.sr_base.specs.declared.value.Value.TheVariants.{Null}
use Rattle.sr_ast.specs.Exprs.{term_of}
use Rattle.sr_ast.specs.declared.expr.Expr.{Expr}
use Rattle.sr_ast.specs.declared.query.Item.{Item}
use Rattle.sr_ast.specs.declared.query.Item.TheVariants as item
use Rattle.sr_eval.specs.Meanings.{Meaning, meaning}
use Rattle.sr_eval.specs.Inner.Resolutions.{Resolution, meaning_at}
use Rattle.sr_eval.specs.Numbers.{big_of}
use Rattle.sr_catalog_schema.specs.declared.fault.DmlFault.{DmlFault}
use Rattle.sr_catalog_schema.specs.declared.fault.DmlFault.TheVariants.{Overflow}
use Rattle.sr_exec_where.specs.Checks.{Scope}
use Rattle.sr_exec_dml.specs.Sequences.{front, each, followed}
use Rattle.sr_exec_dml.specs.Statements.{tested}
use Rattle.sr_query.specs.Combinations.{kept, meets, and_then, with_kept}
use Rattle.sr_query.specs.Inner.Preparing.{value_by}
use Rattle.sr_query.specs.Inner.Tallies.{Told, started, with_row, count_from, told_over, each_over, tallied}
use Rattle.sr_query.specs.Inner.Tallies.Told.{nothing, count, sum, least, greatest}
use Rattle.sr_query.specs.Rows.{aggregate, alone, as_big, as_sum, best_from, bounded, is_better, is_greater, is_less, number_in, plus, sum_from, valued}
use Rattle.sr_query.proofs.Readied.{values_same}

abbrev Row : Type 0
Row = List Cell

abbrev Rows : Type 0
Rows = List Row

-- before the first row, what is told of the items over all rows is their aggregates
counted : (n : ℕ) (rows : Rows) → count_from n rows ≡ n + length rows
counted n [] = omega arith
counted n (row ∷ rows) = let later = counted (n + 1) rows in omega arith

started_over : (scope : Scope) (rows : Rows) (i : Item) → told_over (started scope i) rows ≡ aggregate scope rows i
started_over scope rows (item.Value e) = refl
started_over scope rows item.Count =
    let all = counted 0 rows in
    let is : count_from 0 rows ≡ length rows = omega arith in
    ap (λ (n : ℕ). as_big (pos n)) is
started_over scope rows (item.Sum e) =
    ap (λ (vs : Result Row DmlFault). followed vs (λ values. as_sum (sum_from None values))) (values_same scope e rows)
started_over scope rows (item.Min e) =
    ap (λ (vs : Result Row DmlFault). followed vs (λ values. Ok (best_from is_less Null values))) (values_same scope e rows)
started_over scope rows (item.Max e) =
    ap (λ (vs : Result Row DmlFault). followed vs (λ values. Ok (best_from is_greater Null values))) (values_same scope e rows)

all_started : (scope : Scope) (rows : Rows) (items : List Item) → each_over (map (started scope) items) rows ≡ each (aggregate scope rows) items
all_started scope rows [] = refl
all_started scope rows (i ∷ items) =
    ap (λ (v : Result Cell DmlFault). front v (each_over (map (started scope) items) rows)) (started_over scope rows i)
    ∙ ap (front (aggregate scope rows i)) (all_started scope rows items)

pub begun : (scope : Scope) (conditions : List Expr) (tolds : List Told) (items : List Item) (rows : Rows) → tolds ≡ map (started scope) items
    → tallied scope conditions tolds rows ≡ followed (kept scope conditions rows) (λ rows_kept. each (aggregate scope rows_kept) items)
begun scope conditions tolds items rows e = ap (λ (ts : List Told). tallied scope conditions ts rows) e ∙ go (kept scope conditions rows) where
  go : (k : Result Rows DmlFault) → followed k (each_over (map (started scope) items)) ≡ followed k (λ rows_kept. each (aggregate scope rows_kept) items)
  go (Err f) = refl
  go (Ok rows_kept) = all_started scope rows_kept items

-- a row more, and then the rest
followed_front : {A B E : Type 0} (x : A) (xs : Result (List A) E) (f : List A → Result B E) → followed (front (Ok x) xs) f ≡ followed xs (λ ys. f (x ∷ ys))
followed_front x (Ok xs) f = refl
followed_front x (Err e) f = refl

with_value : (next : Cell → Told) (o : Result Cell DmlFault) (values : Result Row DmlFault) (f : Row → Result Cell DmlFault) (told : Told) (rest : Rows)
    → ((v : Cell) → followed values (λ vs. f (v ∷ vs)) ≡ told_over (next v) rest) → followed o (λ v. Ok (next v)) ≡ Ok told
    → followed (front o values) f ≡ told_over told rest
with_value next (Err e) values f told rest goes h = cc
with_value next (Ok v) values f told rest goes h =
    let is : next v ≡ told = cc in
    followed_front v values f ∙ goes v ∙ ap (λ (t : Told). told_over t rest) is

one_step : (row : Row) (t u : Told) (rest : Rows) → with_row row t ≡ Ok u → told_over t (row ∷ rest) ≡ told_over u rest
one_step row nothing u rest h = let is : nothing ≡ u = cc in ap (λ (t : Told). told_over t rest) is
one_step row (count n) u rest h = let is : count (n + 1) ≡ u = cc in ap (λ (t : Told). told_over t rest) is
one_step row (sum r total) u rest h =
    with_value (λ v. sum r (plus total (number_in v))) (value_by r row) (each (value_by r) rest) (λ values. as_sum (sum_from total values)) u rest (λ v. refl) h
one_step row (least r best) u rest h =
    with_value (λ v. least r (cond (is_better is_less v best) v best)) (value_by r row) (each (value_by r) rest) (λ values. Ok (best_from is_less best values)) u rest
    (λ v. refl) h
one_step row (greatest r best) u rest h =
    with_value (λ v. greatest r (cond (is_better is_greater v best) v best)) (value_by r row) (each (value_by r) rest)
    (λ values. Ok (best_from is_greater best values)) u rest (λ v. refl) h

all_step : (row : Row) (ts us : List Told) (rest : Rows) → each (with_row row) ts ≡ Ok us → each_over ts (row ∷ rest) ≡ each_over us rest
all_step row [] us rest h = let is : ◌≡◌ {A = List Told} [] us = cc in ap (λ (ts : List Told). each_over ts rest) is
all_step row (t ∷ ts) us rest h = go (with_row row t) refl (each (with_row row) ts) refl h (λ vs. all_step row ts vs rest) where
  go : (o : Result Told DmlFault) → with_row row t ≡ o → (r : Result (List Told) DmlFault) → each (with_row row) ts ≡ r → front o r ≡ Ok us
      → ((vs : List Told) → each (with_row row) ts ≡ Ok vs → each_over ts (row ∷ rest) ≡ each_over vs rest)
      → front (told_over t (row ∷ rest)) (each_over ts (row ∷ rest)) ≡ each_over us rest
  go (Err e) i r j g later = cc
  go (Ok u) i (Err e) j g later = cc
  go (Ok u) i (Ok vs) j g later =
      let is : u ∷ vs ≡ us = cc in
      ap (λ (v : Result Cell DmlFault). front v (each_over ts (row ∷ rest))) (one_step row t u rest i)
      ∙ ap (front (told_over u rest)) (later vs j) ∙ ap (λ (xs : List Told). each_over xs rest) is

-- whatever is refused, it is Overflow
valued_fault : (m : Option Meaning) (e : DmlFault) → valued m ≡ Err e → e ≡ Overflow
valued_fault None e h = cc
valued_fault (Some m) e h = cc

bounded_fault : (o : Option Cell) (e : DmlFault) → bounded o ≡ Err e → e ≡ Overflow
bounded_fault None e h = cc
bounded_fault (Some v) e h = cc

sum_fault : (o : Option ℤ) (e : DmlFault) → as_sum o ≡ Err e → e ≡ Overflow
sum_fault None e h = cc
sum_fault (Some n) e h = bounded_fault (big_of n) e h

tested_fault : (m : Option Meaning) (e : DmlFault) → tested m ≡ Err e → e ≡ Overflow
tested_fault None e h = cc
tested_fault (Some m) e h = cc

followed_fault : {A B : Type 0} (o : Result A DmlFault) (f : A → Result B DmlFault) (e : DmlFault) → ((a : DmlFault) → o ≡ Err a → a ≡ Overflow)
    → ((x : A) → f x ≡ Err e → e ≡ Overflow) → followed o f ≡ Err e → e ≡ Overflow
followed_fault (Err a) f e first then h = let is : a ≡ e = cc in sym is ∙ first a refl
followed_fault (Ok x) f e first then h = then x h

each_fault : {A B : Type 0} (f : A → Result B DmlFault) → ((x : A) (e : DmlFault) → f x ≡ Err e → e ≡ Overflow) → (xs : List A) (e : DmlFault)
    → each f xs ≡ Err e → e ≡ Overflow
each_fault f one [] e h = cc
each_fault {A} {B} f one (x ∷ xs) e h = go (f x) (each f xs) h (one x e) (each_fault f one xs e) where
  go : (o : Result B DmlFault) (r : Result (List B) DmlFault) → front o r ≡ Err e → (o ≡ Err e → e ≡ Overflow) → (r ≡ Err e → e ≡ Overflow) → e ≡ Overflow
  go (Err a) r g first later = let is : a ≡ e = cc in first (ap Err is)
  go (Ok v) (Err b) g first later = later g
  go (Ok v) (Ok vs) g first later = cc

value_fault : (r : Resolution) (row : Row) (e : DmlFault) → value_by r row ≡ Err e → e ≡ Overflow
value_fault r row e h = valued_fault (meaning_at row r) e h

told_fault : (t : Told) (rows : Rows) (e : DmlFault) → told_over t rows ≡ Err e → e ≡ Overflow
told_fault nothing rows e h = cc
told_fault (count n) rows e h = bounded_fault (big_of (pos (count_from n rows))) e h
told_fault (sum r total) rows e h =
    followed_fault (each (value_by r) rows) (λ values. as_sum (sum_from total values)) e (each_fault (value_by r) (value_fault r) rows)
    (λ values. sum_fault (sum_from total values) e) h
told_fault (least r best) rows e h =
    followed_fault (each (value_by r) rows) (λ values. Ok (best_from is_less best values)) e (each_fault (value_by r) (value_fault r) rows) (λ values g. cc) h
told_fault (greatest r best) rows e h =
    followed_fault (each (value_by r) rows) (λ values. Ok (best_from is_greater best values)) e (each_fault (value_by r) (value_fault r) rows) (λ values g. cc) h

row_fault : (row : Row) (t : Told) (e : DmlFault) → with_row row t ≡ Err e → e ≡ Overflow
row_fault row nothing e h = cc
row_fault row (count n) e h = cc
row_fault row (sum r total) e h =
    followed_fault (value_by r row) (λ v. Ok (sum r (plus total (number_in v)))) e (value_fault r row) (λ v g. cc) h
row_fault row (least r best) e h =
    followed_fault (value_by r row) (λ v. Ok (least r (cond (is_better is_less v best) v best))) e (value_fault r row) (λ v g. cc) h
row_fault row (greatest r best) e h =
    followed_fault (value_by r row) (λ v. Ok (greatest r (cond (is_better is_greater v best) v best))) e (value_fault r row) (λ v g. cc) h

meets_fault : (scope : Scope) (conditions : List Expr) (values : Row) (e : DmlFault) → meets scope conditions values ≡ Err e → e ≡ Overflow
meets_fault scope [] values e h = cc
meets_fault scope (c ∷ conditions) values e h =
    go (tested (meaning scope values (term_of c))) h (tested_fault (meaning scope values (term_of c)) e) (meets_fault scope conditions values e) where
      go : (o : Result Bool DmlFault) → and_then o (meets scope conditions values) ≡ Err e → (o ≡ Err e → e ≡ Overflow)
          → (meets scope conditions values ≡ Err e → e ≡ Overflow) → e ≡ Overflow
      go (Err a) g first later = first g
      go (Ok true) g first later = later g
      go (Ok false) g first later = cc

kept_fault : (scope : Scope) (conditions : List Expr) (rows : Rows) (e : DmlFault) → kept scope conditions rows ≡ Err e → e ≡ Overflow
kept_fault scope conditions [] e h = cc
kept_fault scope conditions (row ∷ rows) e h =
    go (meets scope conditions row) (kept scope conditions rows) h (meets_fault scope conditions row e) (kept_fault scope conditions rows e) where
      go : (o : Result Bool DmlFault) (k : Result Rows DmlFault) → with_kept row o k ≡ Err e → (o ≡ Err e → e ≡ Overflow) → (k ≡ Err e → e ≡ Overflow) → e ≡ Overflow
      go (Err a) k g first later = let is : a ≡ e = cc in first (ap Err is)
      go (Ok true) (Err b) g first later = later g
      go (Ok true) (Ok ks) g first later = cc
      go (Ok false) k g first later = later g

-- a row on which an item has no value
with_none : (next : Cell → Told) (o : Result Cell DmlFault) (values : Result Row DmlFault) (f : Row → Result Cell DmlFault) (e : DmlFault)
    → followed o (λ v. Ok (next v)) ≡ Err e → followed (front o values) f ≡ Err e
with_none next (Err a) values f e h = let is : a ≡ e = cc in ap Err is
with_none next (Ok v) values f e h = cc

one_refused : (row : Row) (t : Told) (e : DmlFault) (rest : Rows) → with_row row t ≡ Err e → told_over t (row ∷ rest) ≡ Err e
one_refused row nothing e rest h = cc
one_refused row (count n) e rest h = cc
one_refused row (sum r total) e rest h =
    with_none (λ v. sum r (plus total (number_in v))) (value_by r row) (each (value_by r) rest) (λ values. as_sum (sum_from total values)) e h
one_refused row (least r best) e rest h =
    with_none (λ v. least r (cond (is_better is_less v best) v best)) (value_by r row) (each (value_by r) rest) (λ values. Ok (best_from is_less best values)) e h
one_refused row (greatest r best) e rest h =
    with_none (λ v. greatest r (cond (is_better is_greater v best) v best)) (value_by r row) (each (value_by r) rest)
    (λ values. Ok (best_from is_greater best values)) e h

refused_behind : (o : Result Cell DmlFault) (r : Result Row DmlFault) (e : DmlFault) → r ≡ Err e → ((a : DmlFault) → o ≡ Err a → a ≡ e) → front o r ≡ Err e
refused_behind (Err a) r e h same = ap Err (same a refl)
refused_behind (Ok v) r e h same = ap (front (Ok v)) h

all_refused : (row : Row) (ts : List Told) (e : DmlFault) (rest : Rows) → each (with_row row) ts ≡ Err e → each_over ts (row ∷ rest) ≡ Err e
all_refused row [] e rest h = cc
all_refused row (t ∷ ts) e rest h = go (with_row row t) refl (each (with_row row) ts) refl h (all_refused row ts e rest) where
  go : (o : Result Told DmlFault) → with_row row t ≡ o → (r : Result (List Told) DmlFault) → each (with_row row) ts ≡ r → front o r ≡ Err e
      → (each (with_row row) ts ≡ Err e → each_over ts (row ∷ rest) ≡ Err e) → front (told_over t (row ∷ rest)) (each_over ts (row ∷ rest)) ≡ Err e
  go (Err a) i r j g later =
      let is : a ≡ e = cc in
      ap (λ (v : Result Cell DmlFault). front v (each_over ts (row ∷ rest))) (one_refused row t a rest i) ∙ ap Err is
  go (Ok u) i (Err b) j g later =
      let is : b ≡ e = cc in
      let none : each (with_row row) ts ≡ Err e = j ∙ ap Err is in
      refused_behind (told_over t (row ∷ rest)) (each_over ts (row ∷ rest)) e (later none)
      (λ a k. told_fault t (row ∷ rest) a k ∙ sym (each_fault (with_row row) (row_fault row) ts e none))
  go (Ok u) i (Ok us) j g later = cc

-- so of the rows that meet the conditions: one that does not, one that is not tested, one that is taken in, and one that is refused
module _ (scope : Scope) (conditions : List Expr) (tolds : List Told) (row : Row) (rest : Rows) where
  by_test : (o : Result Bool DmlFault) → meets scope conditions row ≡ o
      → tallied scope conditions tolds (row ∷ rest) ≡ followed (with_kept row o (kept scope conditions rest)) (each_over tolds)
  by_test o h = ap (λ (m : Result Bool DmlFault). followed (with_kept row m (kept scope conditions rest)) (each_over tolds)) h

  pub passed_over : meets scope conditions row ≡ Ok false → tallied scope conditions tolds (row ∷ rest) ≡ tallied scope conditions tolds rest
  passed_over h = by_test (Ok false) h

  pub not_tested : (e : DmlFault) → meets scope conditions row ≡ Err e → tallied scope conditions tolds (row ∷ rest) ≡ Err e
  not_tested e h = by_test (Err e) h

  pub taken_in : (now : List Told) → meets scope conditions row ≡ Ok true → each (with_row row) tolds ≡ Ok now
      → tallied scope conditions tolds (row ∷ rest) ≡ tallied scope conditions now rest
  taken_in now h j = by_test (Ok true) h ∙ go (kept scope conditions rest) where
    go : (k : Result Rows DmlFault) → followed (front (Ok row) k) (each_over tolds) ≡ followed k (each_over now)
    go (Err e) = refl
    go (Ok rows_kept) = all_step row tolds now rows_kept j

  pub refused : (e : DmlFault) → meets scope conditions row ≡ Ok true → each (with_row row) tolds ≡ Err e
      → tallied scope conditions tolds (row ∷ rest) ≡ Err e
  refused e h j = by_test (Ok true) h ∙ go (kept scope conditions rest) (kept_fault scope conditions rest) where
    go : (k : Result Rows DmlFault) → ((a : DmlFault) → k ≡ Err a → a ≡ Overflow) → followed (front (Ok row) k) (each_over tolds) ≡ Err e
    go (Err a) faults = ap Err (faults a refl ∙ sym (each_fault (with_row row) (row_fault row) tolds e j))
    go (Ok rows_kept) faults = all_refused row tolds e rows_kept j

pub ruleset taking = (passed_over, not_tested, taken_in, refused)

-- the row that stands alone
pub one_alone : (k : Result Rows DmlFault) (f : Rows → Result Row DmlFault)
    → followed k (λ rows_kept. alone (f rows_kept)) ≡ alone (followed k f)
one_alone (Ok rows_kept) f = refl
one_alone (Err e) f = refl
