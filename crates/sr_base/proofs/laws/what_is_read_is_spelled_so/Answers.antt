use Rattle.sr_base.specs.Inner.ListLaws.{list_format}
use Rattle.sr_base.specs.Inner.NumberLaws.{format32, format64}
use Rattle.sr_base.specs.Inner.TextLaws.{name_format, text_format}
use Rattle.sr_base.specs.Inner.ValueLaws.{value_format}
use Rattle.sr_base.proofs.Formats.{reads_spellings}
use Rattle.sr_base.proofs.laws.what_is_read_is_spelled_so.Goals as goal

pub returns : goal.returns
returns c = record {
  values = reads_spellings value_format;
  rows = reads_spellings (list_format value_format);
  names = reads_spellings name_format;
  texts = reads_spellings text_format;
  numbers32 = reads_spellings format32;
  numbers64 = reads_spellings format64;
}
