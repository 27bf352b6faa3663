-- How the rows of places change, and how changes are taken back.
use Rattle.std.proofs.Common.{◌≡◌, ℕ, Bool, true, false, not, cond, List, [], ◌∷◌, ◌++◌, Option, Some, None, IsSome, is_some, length, suc, refl, sym, ap, subst, ◌∙◌}
use Rattle.std.specs.Ordering.{eq_by_cmp, is_eq}
use Rattle.std.specs.Cmp.{Equal-is, tied_itself}
use Rattle.std.specs.FinMap.{FinMap, empty, entries, get, insert, remove, find, same_map, get-entries, get-empty, get-insert, get-remove, get-retain_keys}
use Rattle.sr_base.specs.declared.value.Value.{Value}
use Rattle.sr_rows.specs.declared.undo.Undo.{Undo}
use Rattle.sr_rows.specs.Marks.{Place, place_cmp, RowMap, Marked}
use Rattle.sr_rows.specs.Inner.Marks.{place_cmp_total}
use Rattle.std.specs.Option.{option_and_then}
use Rattle.std.specs.BTreeMap.{is_at}
use Rattle.sr_base.specs.Order.{name_cmp, key_cmp}
use Rattle.sr_rows.specs.Inner.Gathered.{gathered, with_row, filled_entries, filled, row_of}
use Rattle.sr_rows.specs.Steps.{without_table}
use Rattle.sr_rows.specs.Inner.Steps.{at_mark, with_step}
use Rattle.sr_rows.specs.Inner.Undoing.{PlaceMap, with_place, put_back, undone, trail_of, seen, Undoable}
use Rattle.sr_rows.proofs.Gathering.{exact_places, table_at, place_at, get-gathered}

get-with_row : (m : RowMap) (p : Place) (o : Option (List Value)) (q : Place) → get (with_row m p o) q ≡ cond (eq_by_cmp place_cmp q p) o (get m q)
get-with_row m p None q = get-remove place_cmp_total m p q
get-with_row m p (Some row) q = get-insert place_cmp_total m p row q

get-with_place : (m : PlaceMap) (p : Place) (o : Option (Option (List Value))) (q : Place) → get (with_place m p o) q ≡ cond (eq_by_cmp place_cmp q p) o (get m q)
get-with_place m p None q = get-remove place_cmp_total m p q
get-with_place m p (Some place) q = get-insert place_cmp_total m p place q

get-filled_entries : (es : List (Place × Option (List Value))) (q : Place) → get (filled_entries es) q ≡ row_of (find place_cmp q es)
get-filled_entries [] q = get-empty place_cmp q
get-filled_entries (e ∷ es) q = get-with_row (filled_entries es) e.0 e.1 q ∙ ap (cond (eq_by_cmp place_cmp q e.0) e.1) (get-filled_entries es q) ∙ pushed (eq_by_cmp place_cmp q e.0) where
  pushed : (b : Bool) → cond b e.1 (row_of (find place_cmp q es)) ≡ row_of (cond b (Some e.1) (find place_cmp q es))
  pushed true = refl
  pushed false = refl

-- the row at a place
pub get-filled : (m : PlaceMap) (q : Place) → get (filled m) q ≡ row_of (get m q)
get-filled m q = get-filled_entries (entries m) q ∙ ap row_of (sym (get-entries m q))

same_place : (p q : Place) → eq_by_cmp place_cmp p q ≡ true → p ≡ q
same_place p q e = exact_places p q ((Equal-is (place_cmp p q)).0 e)

-- a row or nothing put at a place
pub filled-insert : (m : PlaceMap) (p : Place) (o : Option (List Value)) → filled (insert m p o) ≡ with_row (filled m) p o
filled-insert m p o = same_map place_cmp_total exact_places _ _ (λ q.
    get-filled (insert m p o) q ∙ ap row_of (get-insert place_cmp_total m p o q) ∙ pushed (eq_by_cmp place_cmp q p) (get m q)
    ∙ sym (get-with_row (filled m) p o q ∙ ap (cond (eq_by_cmp place_cmp q p) o) (get-filled m q))) where
      pushed : (b : Bool) (x : Option (Option (List Value))) → row_of (cond b (Some o) x) ≡ cond b o (row_of x)
      pushed true x = refl
      pushed false x = refl

-- a place removed
pub filled-removed : (m : PlaceMap) (p : Place) → filled (remove m p) ≡ remove (filled m) p
filled-removed m p = same_map place_cmp_total exact_places _ _ (λ q.
    get-filled (remove m p) q ∙ ap row_of (get-remove place_cmp_total m p q) ∙ pushed (eq_by_cmp place_cmp q p) (get m q)
    ∙ sym (get-remove place_cmp_total (filled m) p q ∙ ap (cond (eq_by_cmp place_cmp q p) None) (get-filled m q))) where
      pushed : (b : Bool) (x : Option (Option (List Value))) → row_of (cond b None x) ≡ cond b None (row_of x)
      pushed true x = refl
      pushed false x = refl

-- an empty place removed
pub filled-swept : (m : PlaceMap) (p : Place) → get m p ≡ Some None → filled (remove m p) ≡ filled m
filled-swept m p e = same_map place_cmp_total exact_places _ _ (λ q.
    get-filled (remove m p) q ∙ ap row_of (get-remove place_cmp_total m p q) ∙ go q (eq_by_cmp place_cmp q p) refl ∙ sym (get-filled m q)) where
      go : (q : Place) (b : Bool) → eq_by_cmp place_cmp q p ≡ b → row_of (cond b None (get m q)) ≡ row_of (get m q)
      go q false h = refl
      go q true h = sym (ap row_of (ap (get m) (same_place q p h) ∙ e))

-- what is put back where a place was changed
pub back : (m n : PlaceMap) (p : Place) (w o : Option (Option (List Value))) → n ≡ with_place m p w → o ≡ get m p → with_place n p o ≡ m
back m n p w o e was = same_map place_cmp_total exact_places _ _ (λ q.
    get-with_place n p o q ∙ ap (λ k. cond (eq_by_cmp place_cmp q p) o (get k q)) e ∙ ap (cond (eq_by_cmp place_cmp q p) o) (get-with_place m p w q)
    ∙ go q (eq_by_cmp place_cmp q p) refl) where
      go : (q : Place) (b : Bool) → eq_by_cmp place_cmp q p ≡ b → cond b o (cond b w (get m q)) ≡ get m q
      go q false h = refl
      go q true h = was ∙ sym (ap (get m) (same_place q p h))

-- a change after the others is taken back first
pub undone-snoc : (us : List Undo) (u : Undo) (m : PlaceMap) → undone (us ++ u ∷ []) m ≡ undone us (put_back m u)
undone-snoc [] u m = refl
undone-snoc (x ∷ us) u m = ap (λ n. put_back n x) (undone-snoc us u m)

pub trail-snoc : (us : List Undo) (u : Undo) (m : PlaceMap) → trail_of (us ++ u ∷ []) m ≡ trail_of us (put_back m u) ++ filled (put_back m u) ∷ []
trail-snoc [] u m = refl
trail-snoc (x ∷ us) u m = λ i. filled (undone-snoc (x ∷ us) u m i) ∷ trail-snoc us u m i

pub seen-snoc : (us : List Undo) (u : Undo) (m : PlaceMap) → seen (us ++ u ∷ []) m ≡ with_step (seen us (put_back m u)) (filled m)
seen-snoc us u m = λ i. record { rows = filled m; marked = filled (undone-snoc us u m i); trail = trail-snoc us u m i }

pub length-trail : (us : List Undo) (m : PlaceMap) → length (trail_of us m) ≡ length us
length-trail [] m = refl
length-trail (x ∷ us) m = ap suc (length-trail us m)

pub Undoable-snoc : (us : List Undo) (u : Undo) (m : PlaceMap) → Undoable us (put_back m u) → IsSome (get m (u.table.value, u.key)) → Undoable (us ++ u ∷ []) m
Undoable-snoc [] u m h there = (tt, there)
Undoable-snoc (x ∷ us) u m h there = (Undoable-snoc us u m h.0 there, subst (λ n. IsSome (get n (x.table.value, x.key))) (sym (undone-snoc us u m)) h.1)

-- and leaves the others
pub Undoable-before : (us : List Undo) (u : Undo) (m : PlaceMap) → Undoable (us ++ u ∷ []) m → Undoable us (put_back m u) × IsSome (get m (u.table.value, u.key))
Undoable-before [] u m h = (tt, h.1)
Undoable-before (x ∷ us) u m h =
    let rest = Undoable-before us u m h.0 in
    ((rest.0, subst (λ n. IsSome (get n (x.table.value, x.key))) (undone-snoc us u m) h.1), rest.1)

-- a change of one place, as it is noted: what stood there before it
module _ (us : List Undo) (u : Undo) (m n : PlaceMap) (p : Place) (w : Option (List Value)) (table : u.table.value ≡ p.0) (key : u.key ≡ p.1) (was : u.place ≡ get m p) (changed : n ≡ insert m p w) where
  at_place : ◌≡◌ {A = Place} (u.table.value, u.key) p
  at_place = λ i. (table i, key i)

  pub noted-there : IsSome (get n (u.table.value, u.key))
  noted-there =
      ap (λ q. is_some (get n q)) at_place ∙ ap (λ k. is_some (get k p)) changed
      ∙ ap is_some (get-insert place_cmp_total m p w p) ∙ ap (λ b. is_some (cond b (Some w) (get m p))) (ap is_eq (tied_itself place_cmp_total p))

  pub noted-back : put_back n u ≡ m
  noted-back = ap (λ q. with_place n q u.place) at_place ∙ back m n p (Some w) u.place changed was

  module _ (vs : List Undo) (k : PlaceMap) where
    pub undoable-ok : Undoable us m → vs ≡ us ++ u ∷ [] → k ≡ n → Undoable vs k
    undoable-ok undoable list map =
        subst (λ (x : List Undo × PlaceMap). Undoable x.0 x.1) (λ i. (sym list i, sym map i))
        (Undoable-snoc us u n (subst (Undoable us) (sym noted-back) undoable) noted-there)

    pub undoable-err : Undoable us m → vs ≡ us → k ≡ put_back n u → Undoable vs k
    undoable-err undoable list map = subst (λ (x : List Undo × PlaceMap). Undoable x.0 x.1) (λ i. (sym list i, sym (map ∙ noted-back) i)) undoable

    -- a step was made
    pub step-ok : (old : Marked) → seen us m ≡ old → vs ≡ us ++ u ∷ [] → k ≡ n → seen vs k ≡ with_step old (with_row old.rows p w)
    step-ok old is list map =
        (λ i. seen (list i) (map i))
        ∙ (λ i. record {
          rows = (ap filled changed ∙ filled-insert m p w) i;
          marked = ap filled (undone-snoc us u n ∙ ap (undone us) noted-back) i;
          trail = (trail-snoc us u n ∙ ap (λ x. trail_of us x ++ filled x ∷ []) noted-back) i;
        })
        ∙ ap (λ (v : Marked). with_step v (with_row v.rows p w)) is

    -- and taken back
    pub step-err : (old : Marked) → seen us m ≡ old → vs ≡ us → k ≡ put_back n u → seen vs k ≡ old
    step-err old is list map = (λ i. seen (list i) ((map ∙ noted-back) i)) ∙ is

-- nothing is removed where there is nothing
pub remove-none : (m : RowMap) (p : Place) → get m p ≡ None → remove m p ≡ m
remove-none m p e = same_map place_cmp_total exact_places _ _ (λ q. get-remove place_cmp_total m p q ∙ go q (eq_by_cmp place_cmp q p) refl) where
  go : (q : Place) (b : Bool) → eq_by_cmp place_cmp q p ≡ b → cond b None (get m q) ≡ get m q
  go q false h = refl
  go q true h = sym (ap (get m) (same_place q p h) ∙ e)

-- no tables, no rows
pub filled-none : (ts : List (List ℕ × FinMap key_cmp (Option (List Value)))) → ts ≡ [] → filled (gathered ts) ≡ empty
filled-none ts e = ap (λ xs. filled (gathered xs)) e ∙ same_map place_cmp_total exact_places _ _ (λ q. get-filled empty q ∙ ap row_of (get-empty place_cmp q) ∙ sym (get-empty place_cmp q))

-- where no step was made there is nothing to take back
no_undo : (us : List Undo) → length us ≡ 0 → us ≡ []
no_undo [] h = refl
no_undo (u ∷ us) h = cc

pub no_changes : (us : List Undo) (m : PlaceMap) (old : Marked) → seen us m ≡ old → old.trail ≡ [] → us ≡ []
no_changes us m old is none = no_undo us (sym (length-trail us m) ∙ ap (λ (v : Marked). length v.trail) is ∙ ap length none)

-- rows that change where no step was made: at the mark too
module _ (us : List Undo) (m : PlaceMap) (old : Marked) (is : seen us m ≡ old) (fresh : old.trail ≡ []) where
  pub undoable-fresh : (n : PlaceMap) → Undoable us n
  undoable-fresh n = subst (λ vs. Undoable vs n) (sym (no_changes us m old is fresh)) tt

  pub seen-fresh : (n : PlaceMap) (rows : RowMap) → filled n ≡ rows → seen us n ≡ at_mark rows
  seen-fresh n rows e = ap (λ vs. seen vs n) (no_changes us m old is fresh) ∙ (λ i. at_mark (e i))

-- the table of a name goes, with its rows
pub filled-without : (es fs : List (List ℕ × FinMap key_cmp (Option (List Value)))) (t : List ℕ) → ((q : List ℕ) → table_at fs q ≡ cond (is_at (name_cmp t) q) None (table_at es q)) → filled (gathered fs) ≡ without_table (filled (gathered es)) t
filled-without es fs t gone = same_map place_cmp_total exact_places _ _ (λ p.
    get-filled (gathered fs) p ∙ ap row_of (get-gathered fs p ∙ ap (option_and_then (λ m. get m p.1)) (gone p.0)) ∙ pushed p (eq_by_cmp name_cmp t p.0)
    ∙ sym (get-retain_keys (filled (gathered es)) (λ q. not (eq_by_cmp name_cmp t q.0)) p (λ q e. ap (λ (n : Place). not (eq_by_cmp name_cmp t n.0)) (sym (exact_places p q e)))
    ∙ ap (λ o. cond (not (eq_by_cmp name_cmp t p.0)) o None) (get-filled (gathered es) p ∙ ap row_of (get-gathered es p)))) where
      pushed : (p : Place) (b : Bool) → row_of (option_and_then (λ m. get m p.1) (cond b None (table_at es p.0))) ≡ cond (not b) (row_of (place_at es p)) None
      pushed p true = refl
      pushed p false = refl
