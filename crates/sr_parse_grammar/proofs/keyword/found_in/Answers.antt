use Rattle.sr_parse_grammar.proofs.Keywords.{row_is_spelled}
use Rattle.sr_parse_grammar.proofs.keyword.found_in.Goals as goal

pub found_among-requires : goal.found_among-requires
found_among-requires c =
    let s = c.in_ok-row.ensures.lookup in row_is_spelled c.args.table.now c.in_ok-place.place c.in_ok-row.row.now s.3.0 s.1 c.requires.spelled
