-- The bytes of a message are those of no other message, nor the first of them.
use Rattle.std.proofs.Common.{◌≡◌, ℕ, List, ◌++◌, Result, Ok, sym, ap, ◌∙◌, append_assoc}
use Rattle.sr_msgform.specs.Inner.MessageLaws.{fields_format}
use Rattle.sr_msgform.specs.Inner.Messages.{fields_at}
use Rattle.sr_msgform.specs.Messages.{IsInRange, IsMessage, fields, heading, message_spelling, sealed}
use Rattle.sr_msgform.specs.declared.message.Message.{Message}

behind : (a b : List ℕ) → heading ++ a ≡ heading ++ b → a ≡ b
behind a b e = cc

abbrev read : {A : Type 0} → A → Result A ℕ
read x = Ok x

read_same : {A : Type 0} (x y : A) → read x ≡ read y → x ≡ y
read_same x y e = cc

first_fields : (m other : Message) (seal other_seal rest : List ℕ) → IsInRange m → IsInRange other → ((heading ++ fields m) ++ seal) ++ rest ≡ (heading ++ fields other) ++ other_seal → m ≡ other
first_fields m other seal other_seal rest h k e =
    let same : fields m ++ (seal ++ rest) ≡ fields other ++ other_seal
    = sym (append_assoc (fields m) seal rest) ∙ behind ((fields m ++ seal) ++ rest) (fields other ++ other_seal) e in
    ap (λ (x : Message × List ℕ). x.0)
    (read_same (m, seal ++ rest) (other, other_seal) (sym (fields_format.again m (seal ++ rest) h) ∙ ap fields_at same ∙ fields_format.again other other_seal k))

pub prefix_message : (m other : Message) (rest : List ℕ) → IsMessage m → IsMessage other → message_spelling m ++ rest ≡ message_spelling other → m ≡ other
unfolding sealed
prefix_message m other rest h k e = first_fields m other _ _ rest h.ranges k.ranges e
