-- What a bag holds of users, and a partner's pass before its dead files are removed.
use Rattle.std.specs.Prelude.{◌≡◌, ℕ, Bool, List, [], ◌++◌, map, IsTrue}
use Rattle.sr_book.specs.Entries.{Name}
use Rattle.sr_database.specs.Databases.{IsDatabase}
use Rattle.sr_database.specs.Views.{View}
use Rattle.sr_database_history.specs.Recorded.{Recorded}
use Rattle.sr_mail.specs.declared.window.Window.{Window}
use Rattle.sr_receive.specs.Acts.{mail_after}
use Rattle.sr_receive_gather.specs.Bags.{Has, partner_mail_of}
use Rattle.sr_receive_gather.specs.Inner.Bags.{OthersStay}
use Rattle.sr_receive.specs.Inner.Ready.{IsReady}
use Rattle.sr_receive_gather.specs.MessageFiles.{FetchedFile, MessageFile, message_files_from}
use Rattle.sr_receive.specs.Passes.{AreSteady as IsSteady}
use Rattle.sr_receive_gather.specs.Inner.Purges.{files_in}
use Rattle.sr_receive_gather.specs.declared.bag.PartnerMail.{PartnerMail}
use Rattle.sr_receive.specs.declared.receiving.Received.{Received}
use Rattle.sr_site.specs.Causes.{Stays}
use Rattle.sr_site.specs.Happenings.{mail_in}
use Rattle.sr_site.specs.Seen.{Seen}
use Rattle.sr_site.specs.Streams.{Output}
use Rattle.sr_database_meaning.specs.Events.{commit}
use Rattle.sr_database_meaning.specs.Traces.{Went}
use Rattle.sr_agent.specs.Lines.{Line, alarms, lines_text}
use Rattle.sr_agent.specs.Inner.Steps.{KeepsPartners, MaySendTo, Told}
use Rattle.sr_agent.specs.PartnerPasses.{PartnerPass, IsPartnerPass, asks_in, files_of, partner_pass_entries, partner_pass_lines}

-- some message files are a user's in the bag, and some windows of them were lost
pub record HasSome (bag : List PartnerMail) (user : Name) : Type 0 where
  pub message_files : List MessageFile
  pub dropped_windows : List Window
  pub has : Has bag user message_files dropped_windows

-- so for each
abbrev pub HoldsSome : List PartnerMail → Type 0
HoldsSome bag = (user : Name) → HasSome bag user

-- what a partner's pass has done before its dead files are removed
pub record Behind (new : View) (before middle : Seen) (publisher : Name) (es : List Recorded) (fetched_files : List FetchedFile) (t : PartnerPass) : Type 0 where
  pub is : IsPartnerPass publisher es fetched_files t
  pub database : IsDatabase new publisher (es ++ partner_pass_entries publisher es fetched_files t) middle
  pub went : Went before middle publisher es (map commit (partner_pass_entries publisher es fetched_files t))
  pub mail : mail_in middle.happened ≡ mail_after publisher t.acts (mail_in before.happened)
  pub steady : IsSteady before middle

-- a partner had his pass, which its lines tell
pub record Turned (new : View) (before middle : Seen) (publisher : Name) (es : List Recorded) (fetched_files : List FetchedFile) (user : Name) (bag' : List PartnerMail) (ask : Bool) (lines : List Line) : Type 0 where
  pub partner_pass : PartnerPass
  pub user_is : partner_pass.user ≡ user
  pub behind : Behind new before middle publisher es fetched_files partner_pass
  pub ask_is : ask ≡ asks_in publisher es fetched_files partner_pass
  pub lines_are : lines ≡ partner_pass_lines publisher es fetched_files partner_pass
  pub files_are : files_in (partner_mail_of bag' user) ≡ files_of fetched_files partner_pass

-- the same, of all that the bag may hold of him
pub record TookMessageFiles (old new : View) (before middle : Seen) (user : Name) (bag bag' : List PartnerMail) (ask : Bool) (lines : List Line) : Type 0 where
  pub ready : IsReady new middle
  pub keeps : KeepsPartners old new
  pub may : MaySendTo new (record { user = user; ask = ask })
  pub others : OthersStay bag bag' user
  pub holds : HasSome bag' user
  pub steady : IsSteady before middle
  pub stays : Stays before middle
  pub did : IsTrue before.observable → (publisher : Name) (es : List Recorded) (fetched_files : List FetchedFile) → IsDatabase old publisher es before → Has bag user (message_files_from user fetched_files) []
      → Turned new before middle publisher es fetched_files user bag' ask lines

-- his message files were taken, and it was told
pub record ToldMessageFiles (old new : View) (before middle : Seen) (user : Name) (bag bag' : List PartnerMail) (answer : Received) (count : ℕ) (written written' : Output) : Type 0 where
  pub lines : List Line
  pub told : Told (lines_text lines) written written'
  pub count_is : count ≡ alarms lines
  pub took : TookMessageFiles old new before middle user bag bag' answer.ask lines
