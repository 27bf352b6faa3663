-- The lines of a run: what each says, and which tell of something amiss.
use Rattle.std.specs.Prelude.{ℕ, Bool, true, false, ◌||◌, ◌==◌, nat_lt, count_by, List, ◌∷◌, ◌++◌, map, codes, if◌then◌else◌}
use Rattle.std.specs.Fmt.{decimal}
use Rattle.std.specs.List.{flat_map}
use Rattle.sr_book.specs.Entries.{Name}
use Rattle.sr_logform.specs.declared.outcome.Clash.{Clash as Skipped}
use Rattle.sr_logform.specs.declared.outcome.Clash.TheVariants.{Duplicate, NoRow, NoTable, NoColumn, BadValue, Null, Trigger, Statement}
use Rattle.sr_receive_gather.specs.declared.report.Report.{Report}
use Rattle.sr_receive_gather.specs.declared.report.Report.TheVariants.{More, Junk, Stranger, Conflict, Clash, Torn, Gap}
use Rattle.sr_session_script.specs.Acts.{line}

pub data Line : Type 0 where
  -- the log was begun anew: it begins at this offset
  restarted : ℕ → Line
  -- what a pass reports
  report : Report → Line
  -- so many transactions were taken from a partner, and up to this offset of his log all is taken
  received : Name → ℕ → ℕ → Line
  -- so many messages were put for a partner, and up to this offset the log is sent to him
  sent : Name → ℕ → ℕ → Line

-- ---- texts

-- a byte of a file's name in a line: a question mark for each that could end the line or drive a terminal
abbrev pub shown_byte : ℕ → ℕ
shown_byte byte = if nat_lt byte 32 || byte == 127 then 63 else byte

abbrev pub shown : List ℕ → List ℕ
shown name = map shown_byte name

-- why an op was skipped
abbrev pub clash_name : Skipped → List ℕ
clash_name Duplicate = codes "Duplicate"
clash_name NoRow = codes "NoRow"
clash_name NoTable = codes "NoTable"
clash_name NoColumn = codes "NoColumn"
clash_name BadValue = codes "BadValue"
clash_name Null = codes "Null"
clash_name Trigger = codes "Trigger"
clash_name Statement = codes "Statement"

-- two numbers after a name, each after a blank
abbrev pub numbers_behind : Name → ℕ → ℕ → List ℕ
numbers_behind user first second = user ++ 32 ∷ decimal first ++ 32 ∷ decimal second

abbrev pub report_text : Report → List ℕ
report_text More = codes "more"
report_text (Junk name) = codes "junk " ++ shown name
report_text (Stranger name) = codes "stranger " ++ shown name
report_text (Conflict user at op) = codes "conflict " ++ numbers_behind user at.0 op
report_text (Clash user at op why) = codes "clash " ++ numbers_behind user at.0 op ++ 32 ∷ clash_name why
report_text (Torn user prev upto) = codes "torn " ++ numbers_behind user prev.0 upto.0
report_text (Gap user from upto) = codes "gap " ++ numbers_behind user from.0 upto.0

abbrev pub line_text : Line → List ℕ
line_text (restarted base) = line (codes "restarted " ++ decimal base)
line_text (report r) = line (report_text r)
line_text (received user took end) = line (codes "from " ++ user ++ codes " took " ++ decimal took ++ codes " up to " ++ decimal end)
line_text (sent user put end) = line (codes "to " ++ user ++ codes " put " ++ decimal put ++ codes " up to " ++ decimal end)

abbrev pub lines_text : List Line → List ℕ
lines_text lines = flat_map line_text lines

abbrev pub report_lines : List Report → List Line
report_lines rs = map report rs

-- ---- what is amiss

-- all that is reported but a conflict, which the triggers of this database decided
abbrev pub is_alarm : Report → Bool
is_alarm More = true
is_alarm (Junk name) = true
is_alarm (Stranger name) = true
is_alarm (Conflict user at op) = false
is_alarm (Clash user at op why) = true
is_alarm (Torn user prev upto) = true
is_alarm (Gap user from upto) = true

abbrev pub is_alarm_line : Line → Bool
is_alarm_line (restarted base) = false
is_alarm_line (report r) = is_alarm r
is_alarm_line (received user took end) = false
is_alarm_line (sent user put end) = false

-- how many lines tell of something amiss
abbrev pub alarms : List Line → ℕ
alarms lines = count_by is_alarm_line lines
