-- Looking for a database by its name.
use Rattle.std.proofs.Common.{◌≡◌, ℕ, zero, suc, ◌+◌, ◌<◌, List, [], ◌∷◌, ◌++◌, length, set, get_or, refl, sym, ap, subst, ◌∙◌, append_assoc, arith}
use Rattle.std.proofs.lemmas.List.{length-append}
use Rattle.sr_base.specs.declared.offset.Offset.{Offset}
use Rattle.sr_book.specs.Entries.{Name}
use Rattle.sr_logform.specs.declared.entry.Entry.{Entry}
use Rattle.sr_world_steps.specs.Inner.Places.{Log, History, NoneIs, StandsAt, with_entry}

-- these were passed without finding the name
pub record Passed (d : Name) (histories left : List History) (place : ℕ) : Type 0 where
  pub before : List History
  pub parts : histories ≡ before ++ left
  pub count : length before ≡ place
  pub others : NoneIs d before
  pub all : place + length left ≡ length histories

none_more : (d : Name) (before : List History) (h : History) → NoneIs d before → ¬ (h.0 ≡ d) → NoneIs d (before ++ h ∷ [])
none_more d [] h others other = (other, tt)
none_more d (x ∷ before) h others other = (others.0, none_more d before h others.1 other)

pub passed_none : (d : Name) (histories : List History) → Passed d histories histories 0
passed_none d histories = record { before = []; parts = refl; count = refl; others = tt; all = omega arith }

pub passed_more : (d : Name) (histories left rest : List History) (place : ℕ) (h : History) → Passed d histories left place → left ≡ h ∷ rest → ¬ (h.0 ≡ d)
    → Passed d histories rest (place + 1)
passed_more d histories left rest place h passed split other = record {
  before = passed.before ++ h ∷ [];
  parts = passed.parts ∙ ap (λ (l : List History). passed.before ++ l) split ∙ sym (append_assoc passed.before (h ∷ []) rest);
  count = length-append passed.before (h ∷ []) ∙ ap (λ (n : ℕ). n + 1) passed.count;
  others = none_more d passed.before h passed.others other;
  all =
      let long : length left ≡ length (h ∷ rest) = ap length split in
      let was : place + length left ≡ length histories = passed.all in
      omega (arith, long, was);
}

pub passed_here : (d : Name) (histories left rest : List History) (place : ℕ) (h : History) (log : Log) → Passed d histories left place → left ≡ h ∷ rest
    → h.0 ≡ d → h.1 ≡ log → StandsAt d histories place log
passed_here d histories left rest place h log passed split name is = record {
  before = passed.before;
  behind = rest;
  parts = passed.parts ∙ ap (λ (l : List History). passed.before ++ l) (split ∙ (λ i. (name i, is i) ∷ rest));
  count = passed.count;
  others = passed.others;
}

nothing_behind : (xs : List History) → xs ++ [] ≡ xs
nothing_behind [] = refl
nothing_behind (x ∷ xs) = ap (λ (l : List History). x ∷ l) (nothing_behind xs)

pub passed_all : (d : Name) (histories left : List History) (place : ℕ) → Passed d histories left place → left ≡ [] → NoneIs d histories
passed_all d histories left place passed none =
    let all : histories ≡ passed.before ++ [] = passed.parts ∙ ap (λ (l : List History). passed.before ++ l) none in
    subst (NoneIs d) (sym (all ∙ nothing_behind passed.before)) passed.others

-- the log at a place has an entry more
pub set_entry : (histories : List History) (place : ℕ) (item : Offset × Entry) (h now : History) → place < length histories → h ≡ get_or histories place h
    → now ≡ (h.0, h.1 ++ item ∷ []) → set histories place now ≡ with_entry place item histories
set_entry [] place item h now within is new = absurd (omega (arith, within))
set_entry (x ∷ histories) zero item h now within is new = ap (λ (y : History). y ∷ histories) (new ∙ ap (λ (y : History). (y.0, y.1 ++ item ∷ [])) is)
set_entry (x ∷ histories) (suc place) item h now within is new = ap (λ (l : List History). x ∷ l) (set_entry histories place item h now (omega (arith, within)) is new)
