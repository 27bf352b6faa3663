-- The snapshot of a database without an entry.
use Rattle.std.proofs.Common.{◌≡◌, ◌≤◌, ◌+◌, ℕ, List, [], ◌∷◌, ◌++◌, length, Some, None, refl, sym, ap, ◌∙◌, length-append, arith}
use Rattle.std.proofs.lemmas.Bool.{and_parts}
use Rattle.std.proofs.lemmas.Bool.Decides.{nat_tests}
use Rattle.std.specs.FinMap.{get-empty}
use Rattle.std.specs.List.{list_all}
use Rattle.std.specs.Prelude.{◌&&◌, nat_le}
use Rattle.sr_base.specs.Fields.{IsName, name_spelling}
use Rattle.sr_base.specs.Names.{is_first, is_later}
use Rattle.sr_base.specs.declared.value.Value.{Value}
use Rattle.sr_catalog_script_laws.proofs.Spelled.{new_spelled}
use Rattle.sr_rows.specs.Marks.{place_cmp, rows_of_table}
use Rattle.sr_snapshot.specs.Inner.Beginnings.{first_of}
use Rattle.sr_snapshot.specs.Parts.{magic}
use Rattle.sr_snapshot.specs.Snapshots.{snapshot_spelling, IsSnapshot}

zeros8 : List ℕ
zeros8 = 0 ∷ 0 ∷ 0 ∷ 0 ∷ 0 ∷ 0 ∷ 0 ∷ 0 ∷ []

pub first_bytes : (publisher : List ℕ) → snapshot_spelling (first_of publisher) ≡ magic ++ (0 ∷ 0 ∷ 0 ∷ 0 ∷ 0 ∷ 0 ∷ 0 ∷ 0 ∷ (name_spelling publisher ++ (0 ∷ 0 ∷ 0 ∷ 0 ∷ 0 ∷ 0 ∷ 0 ∷ 0 ∷ 0 ∷ 0 ∷ 0 ∷ 0 ∷ [])))
first_bytes publisher = refl

pub first_length : (publisher : List ℕ) → length (snapshot_spelling (first_of publisher)) ≡ 29 + length publisher
first_length publisher = ap (λ (l : List ℕ). length l) (first_bytes publisher) ∙ omega (arith, length-append publisher (0 ∷ 0 ∷ 0 ∷ 0 ∷ 0 ∷ 0 ∷ 0 ∷ 0 ∷ 0 ∷ 0 ∷ 0 ∷ 0 ∷ []))

apart : {A : Type 0} (x : A) → None ≡ Some x → ⊥
apart x is = cc

no_row : (publisher name : List ℕ) (key row : List Value) → ¬ (rows_of_table (first_of publisher).state.rows name key ≡ Some row)
no_row publisher name key row is = apart row (sym (get-empty place_cmp (name, key)) ∙ is)

short_name : (name : List ℕ) → IsName name → length name ≤ 64
short_name [] is = absurd (cc)
short_name (b ∷ bytes) is = let all = and_parts (is_first b && list_all is_later bytes) (nat_le (length bytes) 63) is in grind (arith, nat_tests)

pub first_is : (publisher : List ℕ) → IsName publisher → IsSnapshot (first_of publisher) (snapshot_spelling (first_of publisher))
first_is publisher name = record {
  is = record {
    place = omega arith;
    publisher = name;
    catalog = new_spelled publisher;
    texts = tt;
    rows = record { each = λ name_ table found. absurd (cc); there = λ name_ key row is. absurd (no_row publisher name_ key row is) };
    values = λ name_ key row is. absurd (no_row publisher name_ key row is);
    users = refl;
    numbers = tt;
  };
  bytes_are = refl;
  short = omega (arith, first_length publisher, short_name publisher name);
}

pub ruleset firsts = (first_is, first_bytes, first_length)
