use Rattle.sr_base.specs.Inner.ListLaws.{list_format}
use Rattle.sr_base.specs.Inner.NumberLaws.{format32, format64}
use Rattle.sr_base.specs.Inner.TextLaws.{name_format, text_format}
use Rattle.sr_base.specs.Inner.ValueLaws.{value_format}
use Rattle.sr_base.proofs.Formats.{begins_no_other}
use Rattle.sr_base.proofs.laws.no_spelling_begins_another.Goals as goal

pub returns : goal.returns
returns c = record {
  values = begins_no_other value_format;
  rows = begins_no_other (list_format value_format);
  names = begins_no_other name_format;
  texts = begins_no_other text_format;
  numbers32 = begins_no_other format32;
  numbers64 = begins_no_other format64;
}
