-- What has room behind a log, and what has it behind that.
use Rattle.std.proofs.Common.{◌≡◌, inl, inr, ℕ, ◌+◌, ◌^◌, ◌<◌, ◌≤◌, length, List, [], ◌∷◌, ◌++◌, sym, subst, arith}
use Rattle.std.proofs.lemmas.Bool.{cases_order}
use Rattle.sr_database_history.specs.Folds.{size, end_from}
use Rattle.sr_database_history.specs.Recorded.{Recorded, entry_of}
use Rattle.sr_logfile.specs.Log.{Log}
use Rattle.sr_logfile.specs.Logs.{gate_of}
use Rattle.sr_logform.specs.Entries.{entry_spelling}
use Rattle.sr_logform.specs.Limits.{farthest_end, longest_body}
use Rattle.sr_logform.specs.declared.entry.Entry.{Entry}
use Rattle.sr_database.specs.Commits.{HasRoom, framed_size}
use Rattle.sr_database.specs.Rooms.{HasRoomAt, HaveRoom}

not_more : (m n : ℕ) → ¬ (n < m) → m ≤ n
not_more m n none = elim (cases_order m n) [ inl same ↦ omega (arith, same) | inr other ↦ elim other [ inl less ↦ omega (arith, less) | inr more ↦ absurd (none more) ] ]

room_here : (log : Log) (entry : Entry) → HasRoom log entry → HasRoomAt log.base log.end entry
room_here log entry has = record {
  short = not_more (length (entry_spelling entry)) (longest_body entry) has.short;
  file = not_more (gate_of log + 1 + framed_size entry) (farthest_end entry) (λ more. has.room (inl more));
  offset = not_more (log.end + framed_size entry) (2 ^ 62) (λ more. has.room (inr more));
}

-- what has room behind a log has it behind its end
pub room_at : (log : Log) (entry : Entry) (r : Recorded) (place : ℕ) → entry_of r ≡ entry → log.end ≡ place → HasRoom log entry → HasRoomAt log.base place (entry_of r)
room_at log entry r place is at has =
    subst (λ (e : Entry). HasRoomAt log.base place e) (sym is) (subst (λ (n : ℕ). HasRoomAt log.base n entry) at (room_here log entry has))

-- some entries have room, and some behind them
pub rooms_on : (base base' place : ℕ) (first more : List Recorded) → base' ≡ base → HaveRoom base place first → HaveRoom base' (end_from place first) more → HaveRoom base place (first ++ more)
rooms_on base base' place [] more same one two = subst (λ (b : ℕ). HaveRoom b place more) same two
rooms_on base base' place (r ∷ first) more same one two = (one.0, rooms_on base base' (place + (size r + 5)) first more same one.1 two)
