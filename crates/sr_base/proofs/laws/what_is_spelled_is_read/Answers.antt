use Rattle.sr_base.specs.Inner.ListLaws.{list_format}
use Rattle.sr_base.specs.Inner.NumberLaws.{format32, format64}
use Rattle.sr_base.specs.Inner.TextLaws.{name_format, text_format}
use Rattle.sr_base.specs.Inner.ValueLaws.{value_format}
use Rattle.sr_base.proofs.Formats.{reads_again}
use Rattle.sr_base.proofs.laws.what_is_spelled_is_read.Goals as goal

pub returns : goal.returns
returns c = record {
  values = reads_again value_format;
  rows = reads_again (list_format value_format);
  names = reads_again name_format;
  texts = reads_again text_format;
  numbers32 = reads_again format32;
  numbers64 = reads_again format64;
}
