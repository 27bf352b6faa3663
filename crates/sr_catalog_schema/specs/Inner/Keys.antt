-- The bytes under which subscriptions are found, and counts under such bytes.
use Rattle.std.specs.Prelude.{◌≡◌, ◌+◌, ℕ, Bool, ◌&&◌, cond, ⊤, FitsSigned, List, [], ◌∷◌, ◌++◌, map, Option, Some, None, IfSome, bytes_eq}
use Rattle.std.specs.Int.{w32, w64}
use Rattle.std.specs.List.{AllByRecursion, count_by}
use Rattle.std.specs.Map.{lookup}
use Rattle.std.specs.Option.{unwrap_or}
use Rattle.sr_base.specs.Days.{IsDay}
use Rattle.sr_base.specs.Fields.{name_spelling, signed_spelling}
use Rattle.sr_base.specs.declared.value.Value.{Value}
use Rattle.sr_base.specs.declared.value.Value.TheVariants.{Null, Int, Big, Str, Date}
use Rattle.sr_catalog_schema.specs.declared.subscription.Subscription.{Subscription}

-- a user and a publication, each with its length before it
unfoldable pub pair_key : List ℕ → List ℕ → List ℕ
pair_key user publication = name_spelling user ++ name_spelling publication

-- a value: its tag, then its number, or its text to the end; no byte where there is no value
unfoldable pub value_tail : Option Value → List ℕ
value_tail None = []
value_tail (Some Null) = 0 ∷ []
value_tail (Some (Int number)) = 1 ∷ signed_spelling w32 number
value_tail (Some (Big number)) = 2 ∷ signed_spelling w64 number
value_tail (Some (Str text)) = 3 ∷ text
value_tail (Some (Date days)) = 4 ∷ signed_spelling w32 days

abbrev pub rule_key : List ℕ → List ℕ → Option Value → List ℕ
rule_key user publication value = pair_key user publication ++ value_tail value

abbrev pub key_of : Subscription → List ℕ
key_of s = rule_key s.user s.publication s.value

-- what a value's type says of its number
unfoldable pub HasRange : Value → Type 0
HasRange Null = ⊤
HasRange (Int number) = FitsSigned w32 number
HasRange (Big number) = FitsSigned w64 number
HasRange (Str text) = ⊤
HasRange (Date days) = IsDay days

abbrev pub IsRanged : Subscription → Type 0
IsRanged s = IfSome s.value HasRange

-- subscriptions stand under their keys
pub record IsListed (keys : List (List ℕ)) (items : List Subscription) : Type 0 where
  pub keys_are : keys ≡ map key_of items
  pub ranged : AllByRecursion IsRanged items

-- whether a subscription is a started one of a user and a publication
abbrev pub starts_under : List ℕ → Subscription → Bool
starts_under key s = s.started && bytes_eq key (pair_key s.user s.publication)

-- the count under a key; 0 where there is none
abbrev pub count_under : {K : Type 0} → (K → List ℕ) → List (K × ℕ) → List ℕ → ℕ
count_under bytes entries key = unwrap_or (lookup (λ k. bytes_eq key (bytes k)) entries) 0

-- started subscriptions are counted under their users and publications
pub record IsCounted {K : Type 0} (bytes : K → List ℕ) (entries : List (K × ℕ)) (items : List Subscription) : Type 0 where
  pub counts : (key : List ℕ) → count_under bytes entries key ≡ count_by (starts_under key) items

-- under this key one more is counted where it now counts, and one less where it did; all else is as it was
pub record IsChanged {K : Type 0} (bytes : K → List ℕ) (old new : List (K × ℕ)) (key : List ℕ) (was now : Bool) : Type 0 where
  pub counts : (q : List ℕ) → count_under bytes new q + cond (bytes_eq q key) (cond was 1 0) 0 ≡ count_under bytes old q + cond (bytes_eq q key) (cond now 1 0) 0
