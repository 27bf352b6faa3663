-- What a run of the agent that came to its end has left undone for no partner.
use Rattle.std.specs.Prelude.{◌≡◌, ⊤, ℕ, ◌≤◌, List, [], ◌∷◌, ◌++◌, IsTrue}
use Rattle.std.specs.List.{AllByRecursion}
use Rattle.sr_agent.specs.Agents.{MailDone}
use Rattle.sr_agent.specs.Runs.{Run, IsRun, after_run, fetched_files_of}
use Rattle.sr_agent.specs.PartnerPasses.{PartnerPass, after_partner_passes, ending, message_files_of, partners, partner_pass_entries, users_in}
use Rattle.sr_agent.specs.declared.options.Options.{Options}
use Rattle.sr_book.specs.Entries.{Name}
use Rattle.sr_book.specs.declared.book.Book.{Book}
use Rattle.sr_database_history.specs.Folds.{books_of}
use Rattle.sr_database_history.specs.Recorded.{Recorded}
use Rattle.sr_mail.specs.Reaching.{IsFar}
use Rattle.sr_receive_gather.specs.MessageFiles.{FetchedFile, MessageFile}
use Rattle.sr_receive_gather.specs.Windows.{IsWholeOf}
use Rattle.sr_database_meaning.specs.Standing.{StandsAs}
use Rattle.dbremote_command.specs.Outside.{Outside}
use Rattle.dbremote_command.specs.declared.order.Order.{Order}
use Rattle.dbremote_command.specs.declared.order.Order.TheVariants.{Init, Sql, Agent, Show}

-- what a message file confirms is in the book, and the count of its ask
pub record IsNoted (book : Book) (l : MessageFile) : Type 0 where
  pub confirm : l.1.confirm.0 ≤ book.confirm_sent
  pub ask : l.1.ask_count ≤ book.resend_count

-- the book of a partner after his pass
abbrev pub book_behind : Name → List Recorded → List FetchedFile → PartnerPass → Book
book_behind publisher es fetched_files t = books_of t.user (es ++ partner_pass_entries publisher es fetched_files t)

-- all was taken that the whole windows of his message files reach, but for those that were torn or dropped; and each message file is noted
pub record IsCaughtUp (publisher : Name) (es : List Recorded) (fetched_files : List FetchedFile) (t : PartnerPass) : Type 0 where
  pub far : IsFar (IsWholeOf (message_files_of fetched_files t) (ending publisher es t).dropped_windows) (books_of t.user es).log_received (book_behind publisher es fetched_files t).log_received
  pub noted : AllByRecursion (IsNoted (book_behind publisher es fetched_files t)) (message_files_of fetched_files t)

-- so after each partner's pass
abbrev pub AreCaughtUp : Name → List Recorded → List FetchedFile → List PartnerPass → Type 0
AreCaughtUp publisher es fetched_files [] = ⊤
AreCaughtUp publisher es fetched_files (t ∷ earlier) = AreCaughtUp publisher es fetched_files earlier × IsCaughtUp publisher (after_partner_passes publisher es fetched_files earlier) fetched_files t

-- the files stand for a history with what a run added, in which each partner had his pass and is caught up; just what the run did happened to the mail
pub record HasCaughtUp (publisher : Name) (es : List Recorded) (options : Options) (old new : Outside) : Type 0 where
  pub run : Run
  pub is : IsRun publisher es options run
  pub mail : MailDone publisher es options run old.site new.site
  pub each : users_in run.partner_passes ≡ partners publisher es
  pub caught_up : AreCaughtUp publisher es (fetched_files_of run.gathered) run.partner_passes
  pub stands : StandsAs publisher (after_run publisher es run) new.site.files

-- so it is where the agent received, and no fault ended it, of each history for which the files stood
abbrev pub CatchesUp : Order → Outside → Outside → ℕ → Type 0
CatchesUp (Init name user) old new status = ⊤
CatchesUp (Sql name) old new status = ⊤
CatchesUp (Show name) old new status = ⊤
CatchesUp (Agent name mail options) old new status =
    IsTrue old.site.observable → IsTrue options.receive → status ≤ 1 → (publisher : Name) (es : List Recorded) → StandsAs publisher es old.site.files → HasCaughtUp publisher es options old new
