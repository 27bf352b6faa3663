-- Values as they are compared: an INTEGER as the BIGINT of its number.
use Rattle.sr_base.specs.declared.value.Value.{Value as Cell}
use Rattle.sr_base.specs.declared.value.Value.TheVariants.{Null, Int, Big, Str, Date}

abbrev pub widened : Cell → Cell
widened Null = Null
widened (Int n) = Big n
widened (Big n) = Big n
widened (Str text) = Str text
widened (Date day) = Date day
