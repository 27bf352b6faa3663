-- The fields of a message: what is read is spelled so, and what is spelled is read again.
use Rattle.std.proofs.Common.{◌≡◌, ℕ, ◌<◌, ◌^◌, List, ◌++◌, length, refl, sym, ap, subst, ◌∙◌, append_assoc}
use Rattle.std.specs.Int.{w32, w64, to_be_bytes}
use Rattle.sr_base.specs.Fields.{bytes_spelling, name_spelling, triple_spelling}
use Rattle.sr_base.specs.Inner.Fields.{bytes_at, triple_at}
use Rattle.sr_base.specs.Reading.{mapped_at}
use Rattle.sr_base.specs.Inner.NumberLaws.{format32, format64}
use Rattle.sr_base.specs.Inner.PartLaws.{triple_format, mapped_format}
use Rattle.sr_base.specs.Inner.Reading.{IsFormat}
use Rattle.sr_base.specs.Inner.TextLaws.{bytes_format, name_format}
use Rattle.sr_base.specs.Inner.ValueLaws.{offset_format}
use Rattle.sr_base.specs.Values.{offset_spelling}
use Rattle.sr_msgform.specs.declared.message.Message.{Message}
use Rattle.sr_msgform.specs.Messages.{fields, IsInRange}
use Rattle.sr_msgform.specs.Inner.Messages.{fields_at, Head, Tail, head_at, tail_at, message_of}

abbrev parts_of : Message → Head × List ℕ × Tail
parts_of m = (((m.from, m.to, m.resend_count), (m.prev, m.upto, m.total), m.start), m.fragment, (m.confirm, m.ask_count, m.ask_offset))

fields_format_of : IsFormat (mapped_at message_of (triple_at head_at bytes_at tail_at)) fields IsInRange
unfolding fields
fields_format_of =
    mapped_format message_of parts_of (λ x. refl) (λ m. refl)
    (triple_format
    (triple_format (triple_format name_format name_format format64) (triple_format offset_format offset_format format32) format32)
    bytes_format
    (triple_format offset_format format64 offset_format))

pub fields_format : IsFormat fields_at fields IsInRange
unfolding fields_at
fields_format = fields_format_of
