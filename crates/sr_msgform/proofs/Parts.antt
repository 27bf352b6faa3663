-- Three fields one after the other, seen as one value, as a reader meets them.
use Rattle.std.proofs.Common.{◌≡◌, ℕ, List, Ok, Err, refl}
use Rattle.sr_base.specs.declared.broken.Broken.{Broken}
use Rattle.sr_base.specs.declared.broken.Broken.TheVariants as broken
use Rattle.sr_base.specs.Inner.Fields.{triple_at}
use Rattle.sr_base.specs.Reading.{Read, mapped_at}
use Rattle.sr_base.specs.Inner.Reading.{Fails}

module _ {A B C D : Type 0} (first : List ℕ → Read A) (second : List ℕ → Read B) (third : List ℕ → Read C) (to : A × B × C → D) where
  pub all_read : (bytes : List ℕ) (one : A × List ℕ) (two : B × List ℕ) (three : C × List ℕ) → first bytes ≡ Ok one → second one.1 ≡ Ok two → third two.1 ≡ Ok three → mapped_at to (triple_at first second third) bytes ≡ Ok (to (one.0, two.0, three.0), three.1)
  unfolding triple_at
  all_read bytes one two three e f g = rw (e, f, g) refl

  pub first_fails : (fault : Broken) (bytes : List ℕ) → Fails fault (first bytes) → Fails fault (mapped_at to (triple_at first second third) bytes)
  unfolding triple_at
  first_fails broken.Memory bytes e = tt
  first_fails (broken.Left left) bytes e = rw e refl

  pub second_fails : (fault : Broken) (bytes : List ℕ) (one : A × List ℕ) → first bytes ≡ Ok one → Fails fault (second one.1) → Fails fault (mapped_at to (triple_at first second third) bytes)
  unfolding triple_at
  second_fails broken.Memory bytes one e f = tt
  second_fails (broken.Left left) bytes one e f = rw (e, f) refl

  pub third_fails : (fault : Broken) (bytes : List ℕ) (one : A × List ℕ) (two : B × List ℕ) → first bytes ≡ Ok one → second one.1 ≡ Ok two → Fails fault (third two.1) → Fails fault (mapped_at to (triple_at first second third) bytes)
  unfolding triple_at
  third_fails broken.Memory bytes one two e f g = tt
  third_fails (broken.Left left) bytes one two e f g = rw (e, f, g) refl
