-- The parts of a snapshot as formats: what is spelled is read again.
use Rattle.std.proofs.Common.{◌<◌, ◌^◌, ℕ, List, refl}
use Rattle.std.specs.Int.{w64, to_be_bytes}
use Rattle.sr_base.specs.Fields.{bytes_spelling, list_spelling, name_at, name_spelling, pair_spelling, IsListOf, IsName, IsText}
use Rattle.sr_base.specs.Inner.Fields.{pair_at}
use Rattle.sr_base.specs.Inner.ListLaws.{list_format}
use Rattle.sr_base.specs.Inner.NumberLaws.{format64}
use Rattle.sr_base.specs.Inner.PartLaws.{mapped_format, pair_format}
use Rattle.sr_base.specs.Inner.Reading.{IsFormat}
use Rattle.sr_base.specs.Inner.TextLaws.{name_format, text_format}
use Rattle.sr_base.specs.Inner.ValueLaws.{value_format}
use Rattle.sr_base.specs.Reading.{Read, list_at, mapped_at, number_at, text_at, value_at}
use Rattle.sr_base.specs.Values.{IsValue, row_spelling}
use Rattle.sr_base.specs.declared.value.Value.{Value}
use Rattle.sr_book.specs.declared.book.Book.{Book}
use Rattle.sr_logform.specs.Entries.{table_spelling}
use Rattle.sr_snapshot.specs.Parts.{book_line, book_spelling}

abbrev pub Four : Type 0
Four = ℕ × (ℕ × (ℕ × ℕ))

abbrev pub book_from : Four × Four → Book
book_from p = record {
  log_sent = p.0.0;
  confirm_sent = p.0.1.0;
  send_count = p.0.1.1.0;
  resend_count = p.0.1.1.1;
  log_received = p.1.0;
  confirm_received = p.1.1.0;
  receive_count = p.1.1.1.0;
  rereceive_count = p.1.1.1.1;
}

abbrev pub numbers_of : Book → Four × Four
numbers_of b = ((b.log_sent, (b.confirm_sent, (b.send_count, b.resend_count))), (b.log_received, (b.confirm_received, (b.receive_count, b.rereceive_count))))

abbrev pub Short : ℕ → Type 0
Short n = n < 2 ^ 64

abbrev pub number64_at : List ℕ → Read ℕ
number64_at = number_at w64

abbrev pub four_at : List ℕ → Read Four
four_at = pair_at number64_at (pair_at number64_at (pair_at number64_at number64_at))

abbrev pub spelled64 : ℕ → List ℕ
spelled64 = to_be_bytes w64

abbrev pub four_spelled : Four → List ℕ
four_spelled = pair_spelling spelled64 (pair_spelling spelled64 (pair_spelling spelled64 spelled64))

abbrev pub AreFour : Four → Type 0
AreFour p = Short p.0 × (Short p.1.0 × (Short p.1.1.0 × Short p.1.1.1))

pub four_format : IsFormat four_at four_spelled AreFour
four_format = pair_format format64 (pair_format format64 (pair_format format64 format64))

abbrev pub book_at : List ℕ → Read Book
book_at = mapped_at book_from (pair_at four_at four_at)

abbrev pub AreBook : Book → Type 0
AreBook b = AreFour (numbers_of b).0 × AreFour (numbers_of b).1

pub book_format : IsFormat book_at book_spelling AreBook
book_format = mapped_format book_from numbers_of (λ x. refl) (λ y. refl) (pair_format four_format four_format)

abbrev pub line_at : List ℕ → Read (List ℕ × Book)
line_at = pair_at name_at book_at

abbrev pub IsLine : List ℕ × Book → Type 0
IsLine p = IsName p.0 × AreBook p.1

pub line_format : IsFormat line_at book_line IsLine
line_format = pair_format name_format book_format

abbrev pub row_at : List ℕ → Read (List Value)
row_at = list_at value_at

pub row_format : IsFormat row_at row_spelling (IsListOf IsValue)
row_format = list_format value_format

abbrev pub table_at : List ℕ → Read (List ℕ × List (List Value))
table_at = pair_at name_at (list_at row_at)

abbrev pub IsTableOf : List ℕ × List (List Value) → Type 0
IsTableOf p = IsName p.0 × IsListOf (IsListOf IsValue) p.1

pub table_format : IsFormat table_at table_spelling IsTableOf
table_format = pair_format name_format (list_format row_format)

abbrev pub Body : Type 0
Body = ℕ × (List ℕ × (List (List ℕ) × (List (List ℕ × List (List Value)) × List (List ℕ × Book))))

abbrev pub body_at : List ℕ → Read Body
body_at = pair_at number64_at (pair_at name_at (pair_at (list_at text_at) (pair_at (list_at table_at) (list_at line_at))))

abbrev pub body_spelling : Body → List ℕ
body_spelling = pair_spelling spelled64 (pair_spelling name_spelling (pair_spelling (list_spelling bytes_spelling) (pair_spelling (list_spelling table_spelling) (list_spelling book_line))))

abbrev pub IsBody : Body → Type 0
IsBody b = Short b.0 × (IsName b.1.0 × (IsListOf IsText b.1.1.0 × (IsListOf IsTableOf b.1.1.1.0 × IsListOf IsLine b.1.1.1.1)))

pub body_format : IsFormat body_at body_spelling IsBody
body_format = pair_format format64 (pair_format name_format (pair_format (list_format text_format) (pair_format (list_format table_format) (list_format line_format))))
