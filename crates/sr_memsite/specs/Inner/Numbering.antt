-- Calls that are counted, and those among them that fail.
use Rattle.std.specs.Prelude.{◌≡◌, ℕ, ◌+◌, ◌-◌, ◌^◌, ◌==◌, min, List, Bool, ◌||◌, nat_lt}
use Rattle.std.specs.List.{list_any}
use Rattle.std.specs.Ordering.{nat_cmp}
use Rattle.std.specs.BTreeSet.{BTreeSet, contains}

-- the calls of a device since some moment: how many, the numbers of those that are to fail, and how many may be made before all others fail
pub record Numbering : Type 0 where
  pub made : ℕ
  pub failing : List ℕ
  pub stop : ℕ

-- no call so far; these are to fail
abbrev pub failing_at : List ℕ → Numbering
failing_at numbers = record { made = 0; failing = numbers; stop = 2 ^ 64 - 1 }

-- the number of the next call: the first one has number 1, and the count stops at 2^64 - 1
abbrev pub next_number : Numbering → ℕ
next_number calls = min (calls.made + 1) (2 ^ 64 - 1)

-- the next call is one of those that are to fail, or no more may be made
abbrev pub fails : Numbering → Bool
fails calls = list_any (λ number. number == next_number calls) calls.failing || nat_lt calls.stop (next_number calls)

-- after the next call
abbrev pub counted : Numbering → Numbering
counted calls = record calls { made = next_number calls }

-- the set has the numbers of the list
abbrev pub IsSetOf : BTreeSet ℕ → List ℕ → Type 0
IsSetOf set numbers = (n : ℕ) → contains nat_cmp set n ≡ list_any (λ number. number == n) numbers
