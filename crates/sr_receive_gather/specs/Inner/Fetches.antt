-- The files of a window's pieces, fetched again.
-- Here is what no contract of the program says by itself.
use Rattle.std.specs.Prelude.{◌≡◌, ℕ, List, ◌∷◌, Option, Some, None, Result, IsTrue}
use Rattle.sr_book.specs.Entries.{Name}
use Rattle.sr_mail.specs.declared.piece.Piece.{Piece}
use Rattle.sr_msgform.specs.Messages.{message_spelling}
use Rattle.sr_msgform.specs.declared.message.Message.{Message}
use Rattle.sr_site.specs.Causes.{MailStays}
use Rattle.sr_site.specs.Happenings.{fetched}
use Rattle.sr_site.specs.Seen.{Seen}
use Rattle.sr_site.specs.declared.mail.MailFault.{MailFault}
use Rattle.sr_receive_gather.specs.Gathers.{IsMailFault}
use Rattle.sr_receive_gather.specs.MessageFiles.{longest_fetch}
use Rattle.sr_receive_gather.specs.Windows.{IsRefetched, IsUnlike}
use Rattle.sr_receive_gather.specs.Fetches.{Pairs, refetch, LostAmong, FoundPairs}
use Rattle.sr_receive_gather.specs.declared.fault.ReceiveFault.{ReceiveFault}

-- what the second fetch of a piece comes to. Where the site does not tell, only what it gave is known
pub record FoundLost (publisher user : Name) (piece : Piece) (before now : Seen) : Type 0 where
  pub found : Option (List ℕ)
  pub happened : IsTrue before.observable → now.happened ≡ refetch publisher piece found ∷ before.happened
  pub unlike : IsUnlike publisher user piece found
  pub stays : MailStays before now
  pub steady : now.mail_faults ≡ before.mail_faults

pub record FoundStill (publisher user : Name) (piece : Piece) (before now : Seen) (m : Message) : Type 0 where
  pub happened : IsTrue before.observable → now.happened ≡ refetch publisher piece (Some (message_spelling m)) ∷ before.happened
  pub still : IsRefetched publisher user (piece, m)
  pub stays : MailStays before now
  pub steady : now.mail_faults ≡ before.mail_faults

abbrev pub FoundOne : Name → Name → Piece → Seen → Seen → Option Message → Type 0
FoundOne publisher user piece before now None = FoundLost publisher user piece before now
FoundOne publisher user piece before now (Some m) = FoundStill publisher user piece before now m

-- what the second fetches come to: a window that is dropped, or the pieces with their messages
abbrev pub FoundAll : Name → Name → List Piece → Seen → Seen → Option Pairs → Type 0
FoundAll publisher user pieces before now None = LostAmong publisher user pieces before now
FoundAll publisher user pieces before now (Some pairs) = FoundPairs publisher user pieces before now pairs

-- why the second fetch of a piece comes to nothing: it was begun, and the mail refused, or there was no memory
pub record FetchOneStop (publisher : Name) (piece : Piece) (before now : Seen) (fault : ReceiveFault) : Type 0 where
  pub why : IsMailFault before now fault
  pub stays : MailStays before now
  pub found : Result (Option (List ℕ)) MailFault
  pub happened : IsTrue before.observable → now.happened ≡ fetched publisher piece.name longest_fetch found ∷ before.happened
