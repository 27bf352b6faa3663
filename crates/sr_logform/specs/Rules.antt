-- Fields that keep a rule besides, and the rules.
use Rattle.std.specs.Prelude.{◌≡◌, ℕ, Bool, true, false, ⊤, List, [], ◌∷◌, map}
use Rattle.std.specs.List.{AllByRecursion}
use Rattle.sr_base.specs.declared.value.Value.{Value}
use Rattle.sr_base.specs.declared.value.Value.TheVariants.{Null, Int, Big, Str, Date}
use Rattle.sr_base.specs.Fields.{IsListOf}

-- ---- a value that is not NULL

abbrev pub is_present : Value → Bool
is_present Null = false
is_present (Int number) = true
is_present (Big number) = true
is_present (Str text) = true
is_present (Date days) = true

pub record IsFilledListOf {A : Type 0} (fits : A → Type 0) (xs : List A) : Type 0 where
  pub items : IsListOf fits xs
  pub filled : ¬ (xs ≡ [])

abbrev pub AreDistinct : List (List ℕ) → Type 0
AreDistinct [] = ⊤
AreDistinct (name ∷ names) = AllByRecursion (λ other. ¬ (name ≡ other)) names × AreDistinct names

pub record AreColumns {A : Type 0} (name : A → List ℕ) (fits : A → Type 0) (xs : List A) : Type 0 where
  pub items : IsListOf fits xs
  pub filled : ¬ (xs ≡ [])
  pub distinct : AreDistinct (map name xs)
