-- A small world, by which the laws of worlds are shown to hold of something.
use Rattle.std.specs.Prelude.{◌≡◌, ◌≢◌, ℕ, ◌+◌, ◌&&◌, nat_le, List, [], ◌∷◌, ◌++◌, length, map, if◌then◌else◌, Option, Some, None}
use Rattle.std.specs.Str.{bytes_eq}
use Rattle.sr_book.specs.declared.note.Note.{Note}
use Rattle.sr_book.specs.declared.note.Note.TheVariants.{Confirmed, Asked, Raised, Sent}
use Rattle.sr_book.specs.Entries.{Name, Sight, local, from_user, noted}
use Rattle.sr_msgform.specs.declared.message.Message.{Message}
use Rattle.sr_world_model.specs.Machines.{Machine}
use Rattle.sr_world_model.specs.Steps.{append, put, crash}
use Rattle.sr_world_model.specs.Runs.{WorldRun}
use Rattle.sr_world_model.specs.Inner.Runs.{acts_of_runs}
use Rattle.sr_world_model.specs.Worlds.{World, WorldStep}
use Rattle.sr_world_model.specs.Worlds.{fresh_world}

-- the names `cons`, `r1` and `r2`
abbrev pub cons : Name
cons = 99 ∷ 111 ∷ 110 ∷ 115 ∷ []

abbrev pub r1 : Name
r1 = 114 ∷ 49 ∷ []

abbrev pub r2 : Name
r2 = 114 ∷ 50 ∷ []

-- what became of an op that was taken
pub data Verdict : Type 0 where
  plain : Verdict
  conflict : Verdict

-- an entry of a small world: ops that were committed for one user, a transaction taken with its verdicts, or a note
pub data SmallEntry : Type 0 where
  wrote : Name → List ℕ → SmallEntry
  took : Name → ℕ → List ℕ → List Verdict → SmallEntry
  said : Name → Note → SmallEntry

-- what the world sees of it
abbrev pub small_sees : SmallEntry → Sight (List ℕ)
small_sees (wrote user ops) = local
small_sees (took user at ops verdicts) = from_user user at ops
small_sees (said user note) = noted user note

-- the verdict on an op: at `cons`, and nowhere else, an op of 7 or more conflicts
abbrev pub verdict_on : Name → ℕ → Verdict
verdict_on d op = if bytes_eq d cons && nat_le 7 op then conflict else plain

-- what conflicts give back to their origin: of each the op and 100
abbrev pub returned : List ℕ → List Verdict → List ℕ
returned [] verdicts = []
returned (op ∷ ops) [] = []
returned (op ∷ ops) (plain ∷ verdicts) = returned ops verdicts
returned (op ∷ ops) (conflict ∷ verdicts) = (op + 100) ∷ returned ops verdicts

-- ops, where there are some
abbrev pub some_ops : List ℕ → Option (List ℕ)
some_ops [] = None
some_ops (op ∷ ops) = Some (op ∷ ops)

-- what an entry gives a user: what was committed for it, or what its own conflicts give back
abbrev pub small_gives : SmallEntry → Name → Option (List ℕ)
small_gives (wrote other ops) user = if bytes_eq user other then some_ops ops else None
small_gives (took other at ops verdicts) user = if bytes_eq user other then some_ops (returned ops verdicts) else None
small_gives (said other note) user = None

-- a body: of each transaction its offset, the number of its ops, and these
abbrev pub small_body : List (ℕ × List ℕ) → List ℕ
small_body [] = []
small_body (tx ∷ txs) = tx.0 ∷ length tx.1 ∷ (tx.1 ++ small_body txs)

-- a machine of such entries, each of ten bytes; its state is the name of the database
abbrev pub small : Machine Name SmallEntry (List ℕ)
small = record {
  fresh = λ d. d;
  next = λ d e. d;
  sees = small_sees;
  size = λ e. 10;
  gives = λ d e user. small_gives e user;
  encode = small_body;
}

-- every transaction has a spelling
abbrev pub SmallHasSpelling : (ℕ × List ℕ) → Type 0
SmallHasSpelling tx = Unit {0}

-- a database knows every other as a user, and not itself
abbrev pub SmallKnows : Name → Name → Type 0
SmallKnows d user = user ≢ d

-- an entry keeps every rule: it is of a user that is known, and what was taken has the verdicts on its ops
abbrev pub SmallFits : Name → ℕ → SmallEntry → Type 0
SmallFits d place (wrote user ops) = Unit {0}
SmallFits d place (took user at ops verdicts) = SmallKnows d user × (verdicts ≡ map (verdict_on d) ops)
SmallFits d place (said user note) = SmallKnows d user

-- of every state on the way nothing is asked
abbrev pub SmallHolds : Name → Type 0
SmallHolds d = Unit {0}

-- a message that confirms nothing, asks for nothing and answers no ask
abbrev pub piece : Name → Name → ℕ → ℕ → ℕ → ℕ → List ℕ → Message
piece sender receiver prev upto total start fragment = record {
  from = sender;
  to = receiver;
  resend_count = 0;
  prev = record { 0 = prev };
  upto = record { 0 = upto };
  total = total;
  start = start;
  fragment = fragment;
  confirm = record { 0 = 0 };
  ask_count = 0;
  ask_offset = record { 0 = 0 };
}

-- two fragments of one window for r1, a window for r2, and the next window for r1
abbrev pub prefix_piece : Message
prefix_piece = piece cons r1 0 15 5 0 (15 ∷ 3 ∷ 1 ∷ [])

abbrev pub back_piece : Message
back_piece = piece cons r1 0 15 5 3 (2 ∷ 3 ∷ [])

abbrev pub for_r2 : Message
for_r2 = piece cons r2 0 30 3 0 (30 ∷ 1 ∷ 6 ∷ [])

abbrev pub second_window : Message
second_window = piece cons r1 15 75 3 0 (75 ∷ 1 ∷ 4 ∷ [])

-- r1 asks for what lies past 0
abbrev pub ask : Message
ask = record (piece r1 cons 0 0 0 0 []) { ask_count = 1 }

-- both windows sent again, as one
abbrev pub resend : Message
resend = record (piece cons r1 0 75 8 0 (15 ∷ 3 ∷ 1 ∷ 2 ∷ 3 ∷ 75 ∷ 1 ∷ 4 ∷ [])) { resend_count = 1 }

-- what r1 committed, which confirms what r1 took
abbrev pub answer : Message
answer = record (piece r1 cons 0 75 3 0 (75 ∷ 1 ∷ 7 ∷ [])) { confirm = record { 0 = 75 } }

-- what the conflict gives back
abbrev pub return : Message
return = record (piece cons r1 75 150 3 0 (150 ∷ 1 ∷ 107 ∷ [])) { resend_count = 1; confirm = record { 0 = 75 } }

-- a note of messages sent
abbrev pub sent_of : Name → ℕ → ℕ → ℕ → SmallEntry
sent_of user end messages confirm = said user (Sent (record { 0 = end }) messages (record { 0 = confirm }))

-- cons commits for r1 and for r2, and sends both: to r1 two fragments of one window
abbrev pub first_run : WorldRun SmallEntry
first_run = record {
  owner = cons;
  known = [];
  database_steps = append (wrote r1 (1 ∷ 2 ∷ 3 ∷ []))
      ∷ append (wrote r2 (6 ∷ []))
      ∷ put prefix_piece
      ∷ put back_piece
      ∷ append (sent_of r1 15 2 0)
      ∷ put for_r2
      ∷ append (sent_of r2 30 1 0)
      ∷ [];
}

-- r2 takes what is for it
abbrev pub run_of_r2 : WorldRun SmallEntry
run_of_r2 = record { owner = r2; known = for_r2 ∷ []; database_steps = append (took cons 30 (6 ∷ []) (plain ∷ [])) ∷ [] }

-- cons commits for r1 and sends the next window
abbrev pub second_run : WorldRun SmallEntry
second_run = record {
  owner = cons;
  known = [];
  database_steps = append (wrote r1 (4 ∷ [])) ∷ put second_window ∷ append (sent_of r1 75 1 0) ∷ [];
}

-- r1 finds the second window alone: it raises an ask and sends it
abbrev pub asking_run : WorldRun SmallEntry
asking_run = record {
  owner = r1;
  known = second_window ∷ [];
  database_steps = append (said cons Raised) ∷ put ask ∷ append (sent_of cons 0 1 0) ∷ [];
}

-- cons notes the ask, and sends both windows again as one
abbrev pub resending_run : WorldRun SmallEntry
resending_run = record {
  owner = cons;
  known = ask ∷ [];
  database_steps = append (said r1 (Asked 1 (record { 0 = 0 }))) ∷ put resend ∷ append (sent_of r1 75 1 0) ∷ [];
}

-- r1 takes the first transaction from the two fragments, which came late, and the second from the window that was sent again; it stops
-- in a crash, commits for cons, and answers
abbrev pub taking_run : WorldRun SmallEntry
taking_run = record {
  owner = r1;
  known = second_window ∷ prefix_piece ∷ back_piece ∷ resend ∷ [];
  database_steps = append (took cons 15 (1 ∷ 2 ∷ 3 ∷ []) (plain ∷ plain ∷ plain ∷ []))
      ∷ append (took cons 75 (4 ∷ []) (plain ∷ []))
      ∷ crash
      ∷ append (wrote cons (7 ∷ []))
      ∷ put answer
      ∷ append (sent_of cons 75 1 75)
      ∷ [];
}

-- cons notes what was confirmed, takes what r1 committed, which conflicts, and sends what the conflict gives back
abbrev pub returning_run : WorldRun SmallEntry
returning_run = record {
  owner = cons;
  known = ask ∷ answer ∷ [];
  database_steps = append (said r1 (Confirmed (record { 0 = 75 })))
      ∷ append (took r1 75 (7 ∷ []) (conflict ∷ []))
      ∷ put return
      ∷ append (sent_of r1 150 1 75)
      ∷ [];
}

-- r1 takes that
abbrev pub last_run : WorldRun SmallEntry
last_run = record { owner = r1; known = return ∷ []; database_steps = append (took cons 150 (107 ∷ []) (plain ∷ [])) ∷ [] }

-- the runs of the small world, and their steps
abbrev pub small_runs : List (WorldRun SmallEntry)
small_runs = first_run ∷ run_of_r2 ∷ second_run ∷ asking_run ∷ resending_run ∷ taking_run ∷ returning_run ∷ last_run ∷ []

abbrev pub small_acts : List (WorldStep SmallEntry)
small_acts = acts_of_runs small_runs

-- three databases, and nothing else
abbrev pub small_world : World SmallEntry
small_world = fresh_world (cons ∷ r1 ∷ r2 ∷ [])
