-- Fields that are all of the bytes, and whole messages.
use Rattle.std.proofs.Common.{◌≡◌, ℕ, ◌+◌, ◌≤◌, List, [], ◌∷◌, ◌++◌, length, Result, Ok, Err, Option, Some, None, refl, sym, ap, ◌∙◌, arith}
use Rattle.std.proofs.lemmas.List.{append-nil, nil_from_length, length-append}
use Rattle.std.specs.Prelude.{IfOk, IfSome}
use Rattle.std.specs.declared.alloc.AllocError.{AllocError}
use Rattle.sr_base.specs.Reading.{Read}
use Rattle.sr_base.specs.Inner.Reading.{IsBytes}
use Rattle.sr_msgform.specs.declared.message.Message.{Message}
use Rattle.sr_msgform.specs.Inner.MessageLaws.{fields_format}
use Rattle.sr_msgform.specs.Messages.{heading, fields, sealed, message_spelling, message_length, IsInRange, KeepsRules, IsMessage}
use Rattle.sr_msgform.specs.Inner.Messages.{fields_at}
use Rattle.sr_msgform.proofs.Sealing.{length-sealed, sealed_same}

pub fields_whole : (m : Message) (bytes : List ℕ) → IsInRange m → bytes ≡ fields m → fields_at bytes ≡ Ok (m, [])
fields_whole m bytes h e = ap fields_at (e ∙ sym (append-nil (fields m))) ∙ fields_format.again m [] h

pub fields_found : (bytes : List ℕ) (m : Message) (rest : List ℕ) → IsBytes bytes → length rest ≡ 0 → fields_at bytes ≡ Ok (m, rest) → IsInRange m × (bytes ≡ fields m)
fields_found bytes m rest h none e =
    let t = fields_format.takes bytes m rest h e in
    (t.1, t.0.parts ∙ ap (λ (x : List ℕ). fields m ++ x) (nil_from_length rest none) ∙ append-nil (fields m))

abbrev done : {A : Type 0} → A → Result A ℕ
done x = Ok x

ok_is : {A : Type 0} (x y : A) → done x ≡ done y → x ≡ y
ok_is x y e = cc

-- what was read of bytes that are all a message's fields
pub read_is : (m found : Message) (bytes rest : List ℕ) → IsInRange m → bytes ≡ fields m → fields_at bytes ≡ Ok (found, rest) → (found ≡ m) × (rest ≡ [])
read_is m found bytes rest h e r =
    let both = ok_is (found, rest) (m, []) (sym r ∙ fields_whole m bytes h e) in
    (ap (λ (x : Message × List ℕ). x.0) both, ap (λ (x : Message × List ℕ). x.1) both)

-- reading does not break there
pub reads_whole : (m : Message) (bytes : List ℕ) (left : ℕ) → IsInRange m → bytes ≡ fields m → fields_at bytes ≡ Err left → ⊥
reads_whole m bytes left h e r = let both = sym r ∙ fields_whole m bytes h e in cc

behind : (a b : List ℕ) → heading ++ a ≡ heading ++ b → a ≡ b
behind a b e = cc

pub inside_is : (bytes rest : List ℕ) (m : Message) → bytes ≡ sealed (heading ++ rest) → bytes ≡ message_spelling m → rest ≡ fields m
inside_is bytes rest m e f = behind rest (fields m) (sealed_same (heading ++ rest) (heading ++ fields m) (sym e ∙ f))

pub length-message : (m : Message) → length (message_spelling m) ≡ message_length m
unfolding fields
length-message m = rw length-sealed (simp length-append (omega arith))

pub one_message : (m other : Message) → IsMessage m → IsMessage other → message_spelling m ≡ message_spelling other → m ≡ other
one_message m other h k e =
    let same : fields m ≡ fields other = behind (fields m) (fields other) (sealed_same (heading ++ fields m) (heading ++ fields other) e) in
    (read_is other m (fields m) [] k.ranges same (fields_whole m (fields m) h.ranges refl)).0

-- a message that was found inside a file is the file's
pub found_message : (result : Result (Option Message) AllocError) (bytes rest : List ℕ) → length bytes ≤ 2097152 → bytes ≡ sealed (heading ++ rest) → IfOk result (λ found. IfSome found (λ m. IsInRange m × KeepsRules m × (rest ≡ fields m))) → IfOk result (λ found. IfSome found (λ m. IsMessage m × (bytes ≡ message_spelling m)))
found_message (Err refused) bytes rest short e f = tt
found_message (Ok None) bytes rest short e f = tt
found_message (Ok (Some m)) bytes rest short e f =
    let whole : bytes ≡ message_spelling m = e ∙ ap (λ (x : List ℕ). sealed (heading ++ x)) f.2 in
    let size : length bytes ≡ message_length m = ap length whole ∙ length-message m in
    (record { ranges = f.0; rules = f.1; file = omega arith }, whole)
