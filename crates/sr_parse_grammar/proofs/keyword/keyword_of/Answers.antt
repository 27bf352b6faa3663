use Rattle.std.proofs.Common.{refl}
use Rattle.sr_ast.specs.declared.keyword.Keyword.TheVariants as key
use Rattle.sr_parse_grammar.proofs.keyword.keyword_of.Goals as goal

pub found_in-requires : goal.found_in-requires
found_in-requires c = record { spelled = refl; listed = elim [ key.Create ↦ refl | _ ↦ refl ] }
