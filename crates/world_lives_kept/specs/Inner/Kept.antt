-- What is kept of what a site was asked to put and of what was fetched from it.
-- Here is what no contract of the program says by itself.
use Rattle.std.specs.Prelude.{◌≡◌, ℕ, List, [], ◌∷◌, map, Option, Some, None, Result, Ok, Err, Contains, Vec}
use Rattle.std.specs.List.{AllByRecursion}
use Rattle.std.proofs.Common.{Global}
use Rattle.sr_site.specs.Happenings.{Happening}
use Rattle.sr_site.specs.declared.mail.MailFault.{MailFault}
use Rattle.sr_database_meaning.specs.Events.{PutFile, puts_in}
use Rattle.sr_world_runs.specs.Lives.{CameOf}

-- the bytes of files
abbrev pub bytes_of_all : List PutFile → List (List ℕ)
bytes_of_all files = map (λ (l : PutFile). l.2) files

-- each of them is one of these
abbrev pub AreOf : List (List ℕ) → List (List ℕ) → Type 0
AreOf others files = AllByRecursion (Contains others) files

-- the bytes that a fetch gave
abbrev pub came_in : Result (Option (Vec ℕ Global)) MailFault → List (List ℕ)
came_in (Ok (Some bytes)) = bytes.items ∷ []
came_in (Ok None) = []
came_in (Err fault) = []

-- of what happened these were put, and each that was fetched is kept: it came of any files that have all of these
pub record AreKept (put fetched : List (List ℕ)) (happened : List Happening) : Type 0 where
  pub put_are : bytes_of_all (puts_in happened) ≡ put
  pub came : (files : List PutFile) → AreOf (bytes_of_all files) fetched → AllByRecursion (CameOf files) happened
