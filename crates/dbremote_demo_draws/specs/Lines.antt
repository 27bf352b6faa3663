-- The lines of what the demonstration came to.
use Rattle.std.specs.Prelude.{ℕ, ◌+◌, List, ◌++◌, codes}
use Rattle.std.specs.Fmt.{decimal}
use Rattle.sr_session_script.specs.Acts.{line}
use Rattle.dbremote_demo_draws.specs.declared.summary.Summary.{Summary}

unfoldable pub messages_text : Summary → List ℕ
messages_text s = codes "messages " ++ decimal s.put ++ codes " lost " ++ decimal s.lost

unfoldable pub rows_text : Summary → List ℕ
rows_text s =
    codes "rows " ++ decimal s.parts.cons.rows ++ codes " " ++ decimal s.parts.r1.rows ++ codes " " ++ decimal s.parts.r2.rows ++ codes " " ++ decimal s.parts.r3.rows

unfoldable pub outcomes_text : Summary → List ℕ
outcomes_text s =
    codes "conflicts " ++ decimal (s.parts.cons.conflicts + s.parts.r1.conflicts + s.parts.r2.conflicts + s.parts.r3.conflicts)
    ++ codes " clashes " ++ decimal (s.parts.cons.clashes + s.parts.r1.clashes + s.parts.r2.clashes + s.parts.r3.clashes)

unfoldable pub differ_text : Summary → List ℕ
differ_text s = codes "differ " ++ decimal (s.parts.cons.differ + s.parts.r1.differ + s.parts.r2.differ + s.parts.r3.differ)

abbrev pub summary_lines : Summary → List ℕ
summary_lines s =
    line (codes "statements " ++ decimal s.statements) ++ line (messages_text s) ++ line (rows_text s) ++ line (outcomes_text s) ++ line (differ_text s)
