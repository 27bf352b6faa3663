-- Which lines of a script are written before its next statement is begun.
use Rattle.std.specs.Prelude.{ℕ, ◌+◌, Bool, true, false, cond, ◌||◌, nat_le, List, [], ◌∷◌, ◌++◌, length, take}
use Rattle.sr_ast.specs.declared.stmt.Stmt.{Stmt}
use Rattle.sr_ast.specs.declared.stmt.Stmt.TheVariants as stmt
use Rattle.sr_database_history.specs.Folds.{State}
use Rattle.sr_session_script.specs.Acts.{ScriptAct, text_from, end_behind}
use Rattle.sr_session_script.specs.Meaning.{Stepped, goes, stops, done_by}
use Rattle.sr_session_script.specs.Scripts.{ran}
use Rattle.sr_session_script.specs.Works.{Work, at_beginning}
use Rattle.sr_session.specs.Said.{IsPrefix}

-- ---- what each statement says

abbrev pub said_by : Stmt → ℕ → (ℕ → Work → List (Stmt × List ℕ)) → Stepped → List (Stmt × List ℕ)
said_by s place rest (goes acts w) = (s, text_from place acts) ∷ rest (end_behind place acts) w
said_by s place rest (stops acts fault) = []

-- the statements that go on, each with its lines; the first finds the log's end at an offset
abbrev pub said_from : ℕ → Work → List Stmt → List (Stmt × List ℕ)
said_from place w [] = []
said_from place w (s ∷ statements) = said_by s place (λ end after. said_from end after statements) (done_by w s)

-- ---- when it is due

abbrev pub is_commit : Stmt → Bool
is_commit stmt.Commit = true
is_commit s = false

-- how many bytes of lines are kept at most behind a statement: 64 KiB
abbrev pub kept_lines : ℕ
kept_lines = 65536

-- lines that are kept behind a statement are to be written: behind each COMMIT, and where they are so many
abbrev pub is_due : Stmt → List ℕ → Bool
is_due s lines = is_commit s || nat_le kept_lines (length lines)

-- the lines that are to be written behind statements: those that are kept and their own, up to the last statement behind which they are due
abbrev pub due : List ℕ → List (Stmt × List ℕ) → List ℕ
due kept [] = []
due kept (said ∷ others) = cond (is_due said.0 (kept ++ said.1)) ((kept ++ said.1) ++ due [] others) (due (kept ++ said.1) others)

-- the lines of a script were written in time: all that was done is of the first so many statements and of one more, and before that one was
-- begun, the lines that were due behind the others were written. So behind a write that fails no statement is begun
pub record WroteInTime (s : State) (place : ℕ) (statements : List Stmt) (acts : List ScriptAct) (before now : List ℕ) : Type 0 where
  pub done : ℕ
  pub begun : IsPrefix acts (ran s (take (done + 1) statements)).acts
  pub wrote : IsPrefix (before ++ due [] (said_from place (at_beginning s) (take done statements))) now
