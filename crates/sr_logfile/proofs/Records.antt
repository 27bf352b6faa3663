-- How the spelling of a log's records grows, and that one file has one spelling.
use Rattle.std.proofs.Common.{◌≡◌, ◌≢◌, ℕ, ◌+◌, ◌^◌, ◌≤◌, List, [], ◌∷◌, ◌++◌, length, sym, ◌∙◌, ap, subst, arith, append_assoc, length-append, ◌⊎◌, inl, inr}
use Rattle.std.specs.Int.{w32, to_be_bytes}
use Rattle.std.specs.List.{AllByRecursion}
use Rattle.std.proofs.lemmas.List.{append-nil}
use Rattle.std.proofs.lemmas.Bool.{cases_eq}
use Rattle.sr_logfile.specs.Inner.Appends.{GoesOn, HasRecord, HasPart}
use Rattle.sr_logfile.specs.Records.{header, record_of, framed_of, open_records, IsBody, Spells}
use Rattle.sr_logfile.specs.Inner.Records.{fresh_bytes}

-- one more record behind the others
pub open_records-push : (bodies : List (List ℕ)) (body tail : List ℕ) → open_records (bodies ++ body ∷ []) ++ tail ≡ open_records bodies ++ 1 ∷ (record_of body ++ tail)
open_records-push [] body tail = ap (λ (l : List ℕ). l ++ tail) (append-nil (1 ∷ record_of body))
open_records-push (x ∷ xs) body tail =
    append_assoc (1 ∷ record_of x) (open_records (xs ++ body ∷ [])) tail
    ∙ ap (λ (l : List ℕ). (1 ∷ record_of x) ++ l) (open_records-push xs body tail)
    ∙ sym (append_assoc (1 ∷ record_of x) (open_records xs) (1 ∷ (record_of body ++ tail)))

pub length-record : (body : List ℕ) → length (record_of body) ≡ 4 + length body
length-record body = length-append (to_be_bytes w32 (length body)) body

pub length-push : (bodies : List (List ℕ)) (body : List ℕ) → length (open_records (bodies ++ body ∷ [])) ≡ length (open_records bodies) + 5 + length body
length-push bodies body =
    let e = ap length (sym (append-nil (open_records (bodies ++ body ∷ []))) ∙ open_records-push bodies body []) in
    omega (arith, e, length-append (open_records bodies) (1 ∷ (record_of body ++ [])), length-append (record_of body) [], length-record body)

pub all_bodies-push : (bodies : List (List ℕ)) (body : List ℕ) → AllByRecursion IsBody bodies → IsBody body → AllByRecursion IsBody (bodies ++ body ∷ [])
all_bodies-push [] body all is = (is, tt)
all_bodies-push (x ∷ xs) body all is = (all.0, all_bodies-push xs body all.1 is)

-- the header and one more record
pub prefix-push : (base : ℕ) (bodies : List (List ℕ)) (body tail : List ℕ) → (header base ++ open_records bodies) ++ 1 ∷ (record_of body ++ tail) ≡ (header base ++ open_records (bodies ++ body ∷ [])) ++ tail
prefix-push base bodies body tail =
    append_assoc (header base) (open_records bodies) (1 ∷ (record_of body ++ tail))
    ∙ ap (λ (l : List ℕ). header base ++ l) (sym (open_records-push bodies body tail))
    ∙ sym (append_assoc (header base) (open_records (bodies ++ body ∷ [])) tail)

-- a whole record behind an open gate counts
pub spells_opened : (base : ℕ) (bodies : List (List ℕ)) (body bytes : List ℕ) → AllByRecursion IsBody bodies → IsBody body → base + length (open_records bodies) + 5 + length body ≤ 2 ^ 62
    → HasRecord (header base ++ open_records bodies) 1 (framed_of body) bytes → Spells base (bodies ++ body ∷ []) bytes
spells_opened base bodies body bytes all is limit has =
    record {
      gate = 0;
      rest = has.rest;
      bytes_are = has.bytes_are ∙ ap (λ (l : List ℕ). (header base ++ open_records bodies) ++ 1 ∷ l) (append_assoc (record_of body) (0 ∷ []) has.rest) ∙ prefix-push base bodies body (0 ∷ has.rest);
      closed = omega arith;
      all_bodies = all_bodies-push bodies body all is;
      limit = omega (arith, length-push bodies body);
    }

-- a closed gate ends them
pub spells_closed : (base : ℕ) (bodies : List (List ℕ)) (gate : ℕ) (bytes : List ℕ) → AllByRecursion IsBody bodies → base + length (open_records bodies) ≤ 2 ^ 62 → gate ≢ 1
    → GoesOn (header base ++ open_records bodies) gate bytes → Spells base bodies bytes
spells_closed base bodies gate bytes all limit closed goes =
    record {
      gate = gate;
      rest = goes.rest;
      bytes_are = goes.bytes_are;
      closed = closed;
      all_bodies = all;
      limit = limit;
    }

-- what a refused commit leaves spells the bodies before it, or those and the new one
pub spells_part : (base : ℕ) (bodies : List (List ℕ)) (gate : ℕ) (body bytes : List ℕ) → AllByRecursion IsBody bodies → IsBody body → base + length (open_records bodies) + 5 + length body ≤ 2 ^ 62 → gate ≢ 1
    → HasPart (header base ++ open_records bodies) gate (framed_of body) bytes → Spells base bodies bytes ⊎ Spells base (bodies ++ body ∷ []) bytes
spells_part base bodies gate body bytes all is limit closed (inl goes) = inl (spells_closed base bodies gate bytes all (omega arith) closed goes)
spells_part base bodies gate body bytes all is limit closed (inr has) =
    elim (cases_eq has.gate 1) [
      | inl open_gate ↦ inr (spells_opened base bodies body bytes all is limit (subst (λ (g : ℕ). HasRecord (header base ++ open_records bodies) g (framed_of body) bytes) open_gate has.holds))
      | inr shut ↦ inl (spells_closed base bodies has.gate bytes all (omega arith) shut (record { rest = framed_of body ++ has.holds.rest; bytes_are = has.holds.bytes_are }))
    ]

-- a header and a closed gate
pub spells_fresh : (base : ℕ) (bytes : List ℕ) → base ≤ 2 ^ 62 → bytes ≡ fresh_bytes base → Spells base [] bytes
spells_fresh base bytes limit is =
    record {
      gate = 0;
      rest = [];
      bytes_are = is ∙ ap (λ (l : List ℕ). l ++ 0 ∷ []) (sym (append-nil (header base)));
      closed = omega arith;
      all_bodies = tt;
      limit = omega arith;
    }
