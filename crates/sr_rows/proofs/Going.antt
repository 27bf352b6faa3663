-- The way from a mark, and back.
use Rattle.std.proofs.Common.{◌≡◌, ℕ, ◌≤◌, List, [], ◌∷◌, ◌++◌, length, drop, arith, refl, sym, ap, subst, ◌∙◌}
use Rattle.std.proofs.lemmas.List.{length-append, length-drop, take-append-le, drop-append-le, take_all}
use Rattle.sr_rows.specs.Marks.{RowMap, Marked}
use Rattle.sr_rows.specs.Inner.Steps.{with_step, first_or, back, GoesOn}

first_or-snoc : (rows : List RowMap) (row other : RowMap) → first_or (rows ++ row ∷ []) other ≡ first_or rows row
first_or-snoc [] row other = refl
first_or-snoc (x ∷ rows) row other = refl

-- a step further leads back through the rows before
pub back-step : (steps : ℕ) (v : Marked) (rows : RowMap) → steps ≤ length v.trail → back steps (with_step v rows) ≡ back steps v
back-step steps v rows h = λ i. record {
  rows = (ap (λ l. first_or l rows) (drop-append-le steps v.trail (v.rows ∷ []) h) ∙ first_or-snoc (drop steps v.trail) v.rows rows) i;
  marked = v.marked;
  trail = take-append-le steps v.trail (v.rows ∷ []) h i;
}

none_left : (rows : List RowMap) → length rows ≡ 0 → rows ≡ []
none_left [] h = refl
none_left (x ∷ rows) h = cc

-- after all the steps the rows are these
pub back-all : (steps : ℕ) (v : Marked) → length v.trail ≤ steps → back steps v ≡ v
back-all steps v h =
    let none : length (drop steps v.trail) ≡ 0 = length-drop steps v.trail ∙ omega arith in
    λ i. record { rows = ap (λ l. first_or l v.rows) (none_left (drop steps v.trail) none) i; marked = v.marked; trail = take_all steps v.trail h i }

pub GoesOn-step : (old new : Marked) (rows : RowMap) → new ≡ with_step old rows → GoesOn old new
GoesOn-step old new rows e = subst (GoesOn old) (sym e) record {
  marked = refl;
  longer = let more = length-append old.trail (old.rows ∷ []) in omega (arith, more);
  same = λ steps h. back-step steps old rows h;
}

pub GoesOn-same : (old new : Marked) → new ≡ old → GoesOn old new
GoesOn-same old new e = subst (GoesOn old) (sym e) record { marked = refl; longer = omega arith; same = λ steps h. refl }

pub GoesOn-then : (old mid new : Marked) → GoesOn old mid → GoesOn mid new → GoesOn old new
GoesOn-then old mid new on further = record {
  marked = further.marked ∙ on.marked;
  longer = let a = on.longer in let b = further.longer in omega (arith, a, b);
  same = λ steps h. let a = on.longer in further.same steps (omega (arith, h, a)) ∙ on.same steps h;
}

-- going back as far as the old rows had come gives them
pub back-old : (old new : Marked) → GoesOn old new → back (length old.trail) new ≡ old
back-old old new on = on.same (length old.trail) (omega arith) ∙ back-all (length old.trail) old (omega arith)
