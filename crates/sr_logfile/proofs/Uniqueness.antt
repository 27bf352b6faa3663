-- One file has one spelling or one damage.
use Rattle.std.proofs.Common.{◌≡◌, ◌⊎◌, inl, inr, ℕ, ◌+◌, ◌^◌, ◌≤◌, List, [], ◌∷◌, ◌++◌, length, take, drop, refl, sym, ◌∙◌, ap, subst, arith, append_assoc, length-append}
use Rattle.std.specs.Int.{w32, w64, to_be_bytes, from_be_bytes}
use Rattle.std.specs.List.{AllByRecursion}
use Rattle.std.proofs.lemmas.List.{take_at, drop_at}
use Rattle.std.proofs.lemmas.Nat.{from_be_bytes-to_be_bytes_8}
use Rattle.sr_logfile.specs.Damage.{BeginsRecord, IsDamaged}
use Rattle.sr_logfile.specs.Records.{header, record_of, open_records, IsBody, HasHeader, Spells}
use Rattle.sr_logfile.proofs.Records.{length-record}
use Rattle.sr_logfile.proofs.Commits.{length-prefix}
use Rattle.sr_logfile.proofs.Ends.{length_is}

-- two headers in one place are one
pub same_header : (b c : ℕ) (prefix other : List ℕ) → b ≤ 2 ^ 62 → c ≤ 2 ^ 62 → header b ++ prefix ≡ header c ++ other → (b ≡ c) × (prefix ≡ other)
same_header b c prefix other b_fits c_fits same =
    let sixteen : header b ≡ header c = sym (take_at (header b) prefix 16 refl) ∙ ap (take 16) same ∙ take_at (header c) other 16 refl in
    let eight : to_be_bytes w64 b ≡ to_be_bytes w64 c = ap (drop 8) sixteen in (
      sym (from_be_bytes-to_be_bytes_8 b (omega arith)) ∙ ap (from_be_bytes w64) eight ∙ from_be_bytes-to_be_bytes_8 c (omega arith),
      sym (drop_at (header b) prefix 16 refl) ∙ ap (drop 16) same ∙ drop_at (header c) other 16 refl,
    )

-- two records in one place are one
pub same_record : (x y prefix other : List ℕ) → IsBody x → IsBody y → record_of x ++ prefix ≡ record_of y ++ other → (x ≡ y) × (prefix ≡ other)
same_record x y prefix other x_is y_is same =
    let apart : to_be_bytes w32 (length x) ++ (x ++ prefix) ≡ to_be_bytes w32 (length y) ++ (y ++ other) = sym (append_assoc (to_be_bytes w32 (length x)) x prefix) ∙ same ∙ append_assoc (to_be_bytes w32 (length y)) y other in
    let long : length x ≡ length y = length_is (length x) (length y) (x ++ prefix) (y ++ other) (omega arith) (omega arith) apart in
    let rest : x ++ prefix ≡ y ++ other = ap (drop 4) apart in (
      sym (take_at x prefix (length y) long) ∙ ap (take (length y)) rest ∙ take_at y other (length y) refl,
      sym (drop_at x prefix (length y) long) ∙ ap (drop (length y)) rest ∙ drop_at y other (length y) refl,
    )

-- the second records go on where the first end
pub record Extends (xs ys : List (List ℕ)) (gate : ℕ) (rest : List ℕ) (other : ℕ) (tail : List ℕ) : Type 0 where
  pub body : List ℕ
  pub more : List (List ℕ)
  pub is : ys ≡ xs ++ body ∷ more
  pub open_gate : gate ≡ 1
  pub rest_is : rest ≡ record_of body ++ (open_records more ++ other ∷ tail)

-- one is the front of the other
compare : (xs ys : List (List ℕ)) (g h : ℕ) (r t : List ℕ) → AllByRecursion IsBody xs → AllByRecursion IsBody ys → open_records xs ++ g ∷ r ≡ open_records ys ++ h ∷ t
    → ((xs ≡ ys) × (g ≡ h)) ⊎ (Extends xs ys g r h t ⊎ Extends ys xs h t g r)
compare [] [] g h r t xs_are ys_are e = inl (refl, cc)
compare [] (y ∷ ys) g h r t xs_are ys_are e =
    let tails : r ≡ (record_of y ++ open_records ys) ++ h ∷ t = ap (drop 1) e in
    inr (inl (record { body = y; more = ys; is = refl; open_gate = cc; rest_is = tails ∙ append_assoc (record_of y) (open_records ys) (h ∷ t) }))
compare (x ∷ xs) [] g h r t xs_are ys_are e =
    let tails : t ≡ (record_of x ++ open_records xs) ++ g ∷ r = ap (drop 1) (sym e) in
    inr (inr (record { body = x; more = xs; is = refl; open_gate = cc; rest_is = tails ∙ append_assoc (record_of x) (open_records xs) (g ∷ r) }))
compare (x ∷ xs) (y ∷ ys) g h r t xs_are ys_are e =
    let tails : (record_of x ++ open_records xs) ++ g ∷ r ≡ (record_of y ++ open_records ys) ++ h ∷ t = ap (drop 1) e in
    let both = same_record x y (open_records xs ++ g ∷ r) (open_records ys ++ h ∷ t) xs_are.0 ys_are.0 (sym (append_assoc (record_of x) (open_records xs) (g ∷ r)) ∙ tails ∙ append_assoc (record_of y) (open_records ys) (h ∷ t)) in
    elim (compare xs ys g h r t xs_are.1 ys_are.1 both.1) [
      | inl same ↦ inl (λ i. both.0 i ∷ same.0 i, same.1)
      | inr (inl longer) ↦ inr (inl (record { body = longer.body; more = longer.more; is = λ i. sym both.0 i ∷ longer.is i; open_gate = longer.open_gate; rest_is = longer.rest_is }))
      | inr (inr longer) ↦ inr (inr (record { body = longer.body; more = longer.more; is = λ i. both.0 i ∷ longer.is i; open_gate = longer.open_gate; rest_is = longer.rest_is }))
    ]

-- two readings of one file
pub compared : (b c : ℕ) (xs ys : List (List ℕ)) (g h : ℕ) (r t bytes : List ℕ) → AllByRecursion IsBody xs → AllByRecursion IsBody ys → b ≤ 2 ^ 62 → c ≤ 2 ^ 62
    → bytes ≡ (header b ++ open_records xs) ++ g ∷ r → bytes ≡ (header c ++ open_records ys) ++ h ∷ t → (b ≡ c) × (((xs ≡ ys) × (g ≡ h)) ⊎ (Extends xs ys g r h t ⊎ Extends ys xs h t g r))
compared b c xs ys g h r t bytes xs_are ys_are b_fits c_fits first second =
    let apart = sym (append_assoc (header b) (open_records xs) (g ∷ r)) ∙ sym first ∙ second ∙ append_assoc (header c) (open_records ys) (h ∷ t) in
    let both = same_header b c (open_records xs ++ g ∷ r) (open_records ys ++ h ∷ t) b_fits c_fits apart in
    (both.0, compare xs ys g h r t xs_are ys_are both.1)

-- a list that goes on, and what holds of its parts
length-onward : (xs : List (List ℕ)) (body : List ℕ) (more : List (List ℕ)) → length (open_records (xs ++ body ∷ more)) ≡ length (open_records xs) + 5 + length body + length (open_records more)
length-onward [] body more = omega (arith, length-append (1 ∷ record_of body) (open_records more), length-record body)
length-onward (x ∷ xs) body more = omega (arith, length-onward xs body more, length-append (1 ∷ record_of x) (open_records (xs ++ body ∷ more)), length-append (1 ∷ record_of x) (open_records xs))

is_body_onward : (xs : List (List ℕ)) (body : List ℕ) (more : List (List ℕ)) → AllByRecursion IsBody (xs ++ body ∷ more) → IsBody body
is_body_onward [] body more all = all.0
is_body_onward (x ∷ xs) body more all = is_body_onward xs body more all.1

-- records that go on begin with a whole one
begins_onward : (base : ℕ) (xs ys : List (List ℕ)) (g h : ℕ) (r t : List ℕ) → AllByRecursion IsBody ys → base + length (open_records ys) ≤ 2 ^ 62 → (longer : Extends xs ys g r h t) → BeginsRecord longer.body (base + length (open_records xs)) r
begins_onward base xs ys g h r t all limit longer = begins longer.more longer.rest_is
  where
    is_body : IsBody longer.body
    is_body = is_body_onward xs longer.body longer.more (subst (λ (l : List (List ℕ)). AllByRecursion IsBody l) longer.is all)

    room : base + length (open_records xs) + 5 + length longer.body ≤ 2 ^ 62
    room = omega (arith, ap (λ (l : List (List ℕ)). length (open_records l)) longer.is, length-onward xs longer.body longer.more)

    begins : (more : List (List ℕ)) → r ≡ record_of longer.body ++ (open_records more ++ h ∷ t) → BeginsRecord longer.body (base + length (open_records xs)) r
    begins [] e = record { gate = h; more = t; rest_is = e; is_body = is_body; limit = room }
    begins (y ∷ more) e = record { gate = 1; more = (record_of y ++ open_records more) ++ h ∷ t; rest_is = e; is_body = is_body; limit = room }

pub one_spelling : (bytes : List ℕ) (base other : ℕ) (bodies others : List (List ℕ)) → Spells base bodies bytes → Spells other others bytes → (base ≡ other) × (bodies ≡ others)
one_spelling bytes base other bodies others p q =
    let both = compared base other bodies others p.gate q.gate p.rest q.rest bytes p.all_bodies q.all_bodies (omega (arith, p.limit)) (omega (arith, q.limit)) p.bytes_are q.bytes_are in
    elim both.1 [
      | inl same ↦ (both.0, same.0)
      | inr (inl longer) ↦ absurd (p.closed longer.open_gate)
      | inr (inr longer) ↦ absurd (q.closed longer.open_gate)
    ]

-- a spelling has a header
pub has_header : (base : ℕ) (bodies : List (List ℕ)) (gate : ℕ) (bytes rest : List ℕ) → base ≤ 2 ^ 62 → bytes ≡ (header base ++ open_records bodies) ++ gate ∷ rest → HasHeader base bytes
has_header base [] gate bytes rest limit e = record { gate = gate; rest = rest; bytes_are = e ∙ append_assoc (header base) [] (gate ∷ rest); limit = limit }
has_header base (x ∷ xs) gate bytes rest limit e = record { gate = 1; rest = (record_of x ++ open_records xs) ++ gate ∷ rest; bytes_are = e ∙ append_assoc (header base) (open_records (x ∷ xs)) (gate ∷ rest); limit = limit }

pub never_both : (bytes : List ℕ) (base place : ℕ) (bodies : List (List ℕ)) → Spells base bodies bytes → IsDamaged bytes place → ⊥
never_both bytes base place bodies p (inl lacks) = lacks.0 base (has_header base bodies p.gate bytes p.rest (omega (arith, p.limit)) p.bytes_are)
never_both bytes base place bodies p (inr d) =
    let both = compared base d.base bodies d.bodies p.gate 1 p.rest d.rest bytes p.all_bodies d.all_bodies (omega (arith, p.limit)) (omega (arith, d.limit)) p.bytes_are d.bytes_are in
    elim both.1 [
      | inl same ↦ p.closed same.1
      | inr (inl longer) ↦ p.closed longer.open_gate
      | inr (inr longer) ↦ d.broken longer.body (begins_onward d.base d.bodies bodies 1 p.gate d.rest p.rest p.all_bodies (omega (arith, p.limit, both.0)) longer)
    ]

pub one_damage : (bytes : List ℕ) (place other : ℕ) → IsDamaged bytes place → IsDamaged bytes other → place ≡ other
one_damage bytes place other (inl p) (inl q) = p.1 ∙ sym q.1
one_damage bytes place other (inl p) (inr q) = absurd (p.0 q.base (has_header q.base q.bodies 1 bytes q.rest (omega (arith, q.limit)) q.bytes_are))
one_damage bytes place other (inr p) (inl q) = absurd (q.0 p.base (has_header p.base p.bodies 1 bytes p.rest (omega (arith, p.limit)) p.bytes_are))
one_damage bytes place other (inr p) (inr q) =
    let both = compared p.base q.base p.bodies q.bodies 1 1 p.rest q.rest bytes p.all_bodies q.all_bodies (omega (arith, p.limit)) (omega (arith, q.limit)) p.bytes_are q.bytes_are in
    elim both.1 [
      | inl same ↦ omega (arith, p.place_is, q.place_is, length-prefix p.base p.bodies, length-prefix q.base q.bodies, ap (λ (l : List (List ℕ)). length (open_records l)) same.0)
      | inr (inl longer) ↦ absurd (p.broken longer.body (begins_onward p.base p.bodies q.bodies 1 1 p.rest q.rest q.all_bodies (omega (arith, q.limit, both.0)) longer))
      | inr (inr longer) ↦ absurd (q.broken longer.body (begins_onward q.base q.bodies p.bodies 1 1 q.rest p.rest p.all_bodies (omega (arith, p.limit, both.0)) longer))
    ]
