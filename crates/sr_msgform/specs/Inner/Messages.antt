-- Messages and their bytes.
-- Here is what no contract of the program says by itself.
use Rattle.std.specs.Prelude.{ℕ, List}
use Rattle.std.specs.Int.{w32, w64}
use Rattle.sr_base.specs.declared.offset.Offset.{Offset}
use Rattle.sr_base.specs.Fields.{name_at}
use Rattle.sr_base.specs.Inner.Fields.{bytes_at, triple_at}
use Rattle.sr_base.specs.Reading.{Read, number_at, mapped_at}
use Rattle.sr_base.specs.Inner.Values.{offset_at}
use Rattle.sr_msgform.specs.declared.message.Message.{Message}

-- ---- reading the fields, which breaks at the first field from the left

abbrev pub Head : Type 0
Head = (List ℕ × List ℕ × ℕ) × (Offset × Offset × ℕ) × ℕ

abbrev pub Tail : Type 0
Tail = Offset × ℕ × Offset

abbrev pub head_at : List ℕ → Read Head
head_at = triple_at (triple_at name_at name_at (number_at w64)) (triple_at offset_at offset_at (number_at w32)) (number_at w32)

abbrev pub tail_at : List ℕ → Read Tail
tail_at = triple_at offset_at (number_at w64) offset_at

abbrev pub message_of : Head × List ℕ × Tail → Message
message_of parts = record {
  from = parts.0.0.0;
  to = parts.0.0.1;
  resend_count = parts.0.0.2;
  prev = parts.0.1.0;
  upto = parts.0.1.1;
  total = parts.0.1.2;
  start = parts.0.2;
  fragment = parts.1;
  confirm = parts.2.0;
  ask_count = parts.2.1;
  ask_offset = parts.2.2;
}

unfoldable pub fields_at : List ℕ → Read Message
fields_at = mapped_at message_of (triple_at head_at bytes_at tail_at)
