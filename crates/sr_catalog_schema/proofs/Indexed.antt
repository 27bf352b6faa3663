-- The first thing of each name among some of the things.
use Rattle.std.proofs.Common.{◌≡◌, ℕ, Bool, true, false, cond, List, [], ◌∷◌, ◌++◌, Some, refl, ap, sym, ◌∙◌, find, append_assoc}
use Rattle.std.specs.Prelude.{bytes_eq}
use Rattle.std.specs.List.{list_any}
use Rattle.std.specs.Option.{is_some}
use Rattle.std.proofs.lemmas.Slice.Eq.{bytes_eq-Decides}
use Rattle.sr_catalog_schema.specs.Names.{named, taken, HasFirsts}
use Rattle.sr_catalog_schema.proofs.Places.{found_as_taken, find_more}

module _ {T : Type 0} where
  -- what is found among the first things is found whatever stands behind them
  found_before : (p : T → Bool) (xs ys zs : List T) → list_any p xs ≡ true → find p (xs ++ ys) ≡ find p (xs ++ zs)
  found_before p xs ys zs h = find_more p xs ys h ∙ sym (find_more p xs zs h)

  -- what does not fit is passed over
  passed_over : (p : T → Bool) (xs : List T) (x : T) (ys : List T) → p x ≡ false → find p (xs ++ ys) ≡ find p (xs ++ x ∷ ys)
  passed_over p [] x ys e = rw e refl
  passed_over p (z ∷ xs) x ys e = ap (cond (p z) (Some z)) (passed_over p xs x ys e)

module _ {T : Type 0} (name_of : T → List ℕ) (found : List T) (x : T) (after : List T) where
  -- a thing whose name is taken is the first of no name
  second : taken name_of (name_of x) found ≡ true → HasFirsts name_of (found ++ after) (found ++ x ∷ after)
  second h name = by (bytes_eq name (name_of x)) refl
    where
      here : T → Bool
      here t = bytes_eq name (name_of t)

      by : (b : Bool) → bytes_eq name (name_of x) ≡ b → named name_of name (found ++ after) ≡ named name_of name (found ++ x ∷ after)
      by false e = passed_over here found x after e
      by true e = found_before here found after (x ∷ after) (ap (λ n. taken name_of n found) ((bytes_eq-Decides name (name_of x)).0 e) ∙ h)

  -- and one whose name is not taken is added
  pub added : HasFirsts name_of (cond (taken name_of (name_of x) found) found (found ++ x ∷ []) ++ after) (found ++ x ∷ after)
  added = by (taken name_of (name_of x) found) refl
    where
      by : (b : Bool) → taken name_of (name_of x) found ≡ b → HasFirsts name_of (cond b found (found ++ x ∷ []) ++ after) (found ++ x ∷ after)
      by true h = second h
      by false h = λ name. ap (named name_of name) (append_assoc found (x ∷ []) after)

-- a name is taken among the first things where it is among all
pub taken_alike : {T : Type 0} (name_of : T → List ℕ) (some all : List T) → HasFirsts name_of some all → (name : List ℕ) → taken name_of name some ≡ taken name_of name all
taken_alike name_of some all firsts name = found_as_taken _ some ∙ (ap is_some (firsts name) ∙ sym (found_as_taken _ all))
