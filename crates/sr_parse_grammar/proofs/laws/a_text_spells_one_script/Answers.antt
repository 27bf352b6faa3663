use Rattle.sr_parse_grammar.proofs.Statements.{script_once}
use Rattle.sr_parse_grammar.proofs.Meaning.{written_once}
use Rattle.sr_parse_grammar.proofs.laws.a_text_spells_one_script.Goals as goal

pub returns : goal.returns
returns c = record { once = written_once; symbols = script_once }
