-- Which messages are lost.
use Rattle.std.specs.Prelude.{ℕ, ◌+◌, ◌%◌, ◌==◌, Bool, List, [], ◌∷◌, if◌then◌else◌}
use Rattle.sr_memsite_mail.specs.Folders.{Folders, place, without_file}
use Rattle.dbremote_demo_draws.specs.Draws.{next_state, number_of}

-- a message is lost where a multiple of 8 is drawn
abbrev pub is_lost : ℕ → Bool
is_lost x = number_of x % 8 == 0

-- what comes of messages that were put: the state behind the draws, the mail, and how many were lost
pub record Lost : Type 0 where
  pub state : ℕ
  pub mail : Folders
  pub count : ℕ

-- so many more were lost before
abbrev pub and_more : ℕ → Lost → Lost
and_more count lost = record lost { count = count + lost.count }

-- the mail without the message of a put
abbrev pub without : List ℕ × List ℕ → Folders → Folders
without put mail = without_file mail (place put.0 put.1)

-- one draw for each message, in order
abbrev pub some_lost : ℕ → List (List ℕ × List ℕ) → Folders → Lost
some_lost x [] mail = record { state = x; mail = mail; count = 0 }
some_lost x (put ∷ puts) mail =
    if is_lost (next_state x) then and_more 1 (some_lost (next_state x) puts (without put mail)) else some_lost (next_state x) puts mail
