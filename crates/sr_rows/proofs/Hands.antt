-- What the places are while one table is at hand: when it is taken, when a row is replaced in it, and when it is given back.
use Rattle.std.proofs.Common.{◌≡◌, ℕ, Bool, true, false, cond, List, [], ◌∷◌, ◌++◌, Option, Some, None, refl, sym, ap, subst, ◌∙◌}
use Rattle.std.specs.declared.cmp.Ordering.{Ordering}
use Rattle.std.specs.declared.cmp.Ordering.TheVariants.{Less, Equal, Greater}
use Rattle.std.specs.Option.{option_and_then}
use Rattle.std.specs.Cmp.{eq_by_cmp_equiv, tied_itself}
use Rattle.std.specs.Ordering.{is_eq}
use Rattle.std.specs.BTreeMap.{is_at}
use Rattle.std.proofs.lemmas.Map.Lookups.{exact_bytes}
use Rattle.std.specs.FinMap.{get, insert, same_map}
use Rattle.sr_base.specs.declared.value.Value.{Value}
use Rattle.sr_base.specs.Order.{name_cmp}
use Rattle.sr_base.specs.Inner.Order.{name_cmp_total}
use Rattle.sr_rows.specs.declared.undo.Undo.{Undo}
use Rattle.sr_rows.specs.Inner.Gathered.{gathered, filled, row_of}
use Rattle.sr_rows.specs.Inner.Hands.{TableMap, with_hand, seen_at_hand, Replaces}
use Rattle.sr_rows.specs.Marks.{Marked, OneAtHand}
use Rattle.sr_rows.specs.Inner.Marks.{place_cmp_total}
use Rattle.sr_rows.specs.Inner.Steps.{with_step, GoesOn}
use Rattle.sr_rows.specs.Inner.Undoing.{with_place, put_back, seen, Undoable}
use Rattle.sr_rows.proofs.Filling.{Tables}
use Rattle.sr_rows.proofs.Gathering.{exact_places, table_at, place_at, get-gathered, ChangesTable, gathered-inserted}
use Rattle.sr_rows.proofs.Going.{GoesOn-step}
use Rattle.sr_rows.proofs.Keeping.{get-filled, undoable-ok, undoable-err, step-ok, step-err}

-- lists that have the same table at each name have the same places
same_tables : (es fs : Tables) → ((q : List ℕ) → table_at es q ≡ table_at fs q) → gathered es ≡ gathered fs
same_tables es fs same = same_map place_cmp_total exact_places _ _ (λ p. get-gathered es p ∙ ap (option_and_then (λ m. get m p.1)) (same p.0) ∙ sym (get-gathered fs p))

swapped : (q t : List ℕ) → is_at (name_cmp q) t ≡ is_at (name_cmp t) q
swapped q t = (eq_by_cmp_equiv name_cmp_total).symm q t

-- a table that is taken out, with any other one left at its place
pub hand_taken : (es fs : Tables) (t : List ℕ) (table left : TableMap) → Some table ≡ table_at es t → ChangesTable es fs t left → with_hand t table fs ≡ gathered es
hand_taken es fs t table left is u = same_tables ((t, table) ∷ fs) es (λ q. go q (name_cmp q t) refl) where
  other : (q : List ℕ) (r : Ordering) → name_cmp q t ≡ r → is_eq r ≡ false → table_at ((t, table) ∷ fs) q ≡ table_at es q
  other q r e apart =
      ap (λ b. cond b (Some table) (table_at fs q)) (ap is_eq e ∙ apart) ∙ u q
      ∙ ap (λ b. cond b (Some left) (table_at es q)) (sym (swapped q t) ∙ ap is_eq e ∙ apart)

  go : (q : List ℕ) (r : Ordering) → name_cmp q t ≡ r → table_at ((t, table) ∷ fs) q ≡ table_at es q
  go q Less e = other q Less e refl
  go q Greater e = other q Greater e refl
  go q Equal e = ap (λ r. cond (is_eq r) (Some table) (table_at fs q)) e ∙ is ∙ ap (table_at es) (sym (exact_bytes q t e))

-- and given back
pub hand_given : (es fs : Tables) (t : List ℕ) (table : TableMap) → ChangesTable fs es t table → gathered es ≡ with_hand t table fs
hand_given es fs t table u = same_tables es ((t, table) ∷ fs) (λ q. u q ∙ ap (λ b. cond b (Some table) (table_at fs q)) (sym (swapped q t)))

-- the table at hand in another form
in_hand : (fs : Tables) (t : List ℕ) (a b : TableMap) → ChangesTable ((t, a) ∷ fs) ((t, b) ∷ fs) t b
in_hand fs t a b q = twice (is_at (name_cmp q) t) ∙ ap (λ s. cond s (Some b) (table_at ((t, a) ∷ fs) q)) (swapped q t) where
  twice : (s : Bool) → cond s (Some b) (table_at fs q) ≡ cond s (Some b) (cond s (Some a) (table_at fs q))
  twice true = refl
  twice false = refl

place_in_hand : (fs : Tables) (t : List ℕ) (a : TableMap) (k : List Value) → place_at ((t, a) ∷ fs) (t, k) ≡ get a k
place_in_hand fs t a k = ap (λ r. option_and_then (λ m. get m k) (cond (is_eq r) (Some a) (table_at fs t))) (tied_itself name_cmp_total t)

hand_inserted : (fs : Tables) (t : List ℕ) (a b : TableMap) (k : List Value) (v : Option (List Value)) → b ≡ insert a k v → with_hand t b fs ≡ insert (with_hand t a fs) (t, k) v
hand_inserted fs t a b k v e = gathered-inserted ((t, a) ∷ fs) ((t, b) ∷ fs) t a b k v (in_hand fs t a b) (place_in_hand fs t a) e

-- where a key has no place in the table at hand, no row stands under it
pub hand_missing : (us : List Undo) (fs : Tables) (t : List ℕ) (a : TableMap) (k : List Value) (old : OneAtHand) → seen_at_hand us t a fs ≡ old → get a k ≡ None → get old.rows.rows (old.table, k) ≡ None
hand_missing us fs t a k old is none =
    subst (λ (h : OneAtHand). get h.rows.rows (h.table, k) ≡ None) is
    (get-filled (with_hand t a fs) (t, k) ∙ ap row_of (get-gathered ((t, a) ∷ fs) (t, k) ∙ place_in_hand fs t a k ∙ none))

-- a row that is replaced in the table at hand, and the change that is noted
module _ (us : List Undo) (u : Undo) (fs : Tables) (t : List ℕ) (a b : TableMap) (k row : List Value) (place : Option (List Value))
    (name : u.table.value ≡ t) (key : u.key ≡ k) (stood : u.place ≡ Some place) (before : get a k ≡ Some place) (set : b ≡ insert a k (Some row)) where
  changed : with_hand t b fs ≡ insert (with_hand t a fs) (t, k) (Some row)
  changed = hand_inserted fs t a b k (Some row) set

  was : u.place ≡ get (with_hand t a fs) (t, k)
  was = stood ∙ sym (get-gathered ((t, a) ∷ fs) (t, k) ∙ place_in_hand fs t a k ∙ before)

  module _ (vs : List Undo) where
    pub hand_undoable : Undoable us (with_hand t a fs) → vs ≡ us ++ u ∷ [] → Undoable vs (with_hand t b fs)
    hand_undoable undoable list = undoable-ok us u (with_hand t a fs) (with_hand t b fs) (t, k) (Some row) name key was changed vs (with_hand t b fs) undoable list refl

    pub hand_replaced : (old : OneAtHand) → seen_at_hand us t a fs ≡ old → vs ≡ us ++ u ∷ [] → Replaces old k row (seen_at_hand vs t b fs) true × GoesOn old.rows (seen vs (with_hand t b fs))
    hand_replaced old is list = subst (λ (h : OneAtHand). Replaces h k row (seen_at_hand vs t b fs) true × GoesOn h.rows (seen vs (with_hand t b fs))) is (ap (λ (v : Marked). v.rows) step, GoesOn-step _ _ _ step) where
      step : seen vs (with_hand t b fs) ≡ with_step (seen us (with_hand t a fs)) (insert (filled (with_hand t a fs)) (t, k) row)
      step = step-ok us u (with_hand t a fs) (with_hand t b fs) (t, k) (Some row) name key was changed vs (with_hand t b fs) (seen us (with_hand t a fs)) refl list refl

    -- and taken back for want of memory
    module _ (c : TableMap) (again : c ≡ insert b k place) (list : vs ≡ us) where
      back_again : with_hand t c fs ≡ put_back (with_hand t b fs) u
      back_again = hand_inserted fs t b c k place again ∙ (λ i. with_place (with_hand t b fs) (sym name i, sym key i) (sym stood i))

      pub hand_undoable_again : Undoable us (with_hand t a fs) → Undoable vs (with_hand t c fs)
      hand_undoable_again undoable = undoable-err us u (with_hand t a fs) (with_hand t b fs) (t, k) (Some row) name key was changed vs (with_hand t c fs) undoable list back_again

      pub hand_again : (old : OneAtHand) → seen_at_hand us t a fs ≡ old → seen_at_hand vs t c fs ≡ old
      hand_again old is =
          (λ i. record {
            table = t;
            rows = step-err us u (with_hand t a fs) (with_hand t b fs) (t, k) (Some row) name key was changed vs (with_hand t c fs) (seen us (with_hand t a fs)) refl list back_again i;
          })
          ∙ is
