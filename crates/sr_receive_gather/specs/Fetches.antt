-- The files of a window's pieces, fetched again.
use Rattle.std.specs.Prelude.{◌≡◌, ℕ, List, [], ◌∷◌, ◌++◌, map, Option, Some, Ok, IsTrue}
use Rattle.std.specs.List.{AllByRecursion}
use Rattle.sr_book.specs.Entries.{Name}
use Rattle.sr_mail.specs.declared.piece.Piece.{Piece}
use Rattle.sr_msgform.specs.Messages.{message_spelling}
use Rattle.sr_msgform.specs.declared.message.Message.{Message}
use Rattle.sr_site.specs.Causes.{MailStays}
use Rattle.sr_site.specs.Happenings.{Happening, fetched}
use Rattle.sr_site.specs.Seen.{Seen}
use Rattle.sr_receive_gather.specs.Gathers.{IsLastFetch, IsMailFault}
use Rattle.sr_receive_gather.specs.MessageFiles.{longest_fetch}
use Rattle.sr_receive_gather.specs.Windows.{IsRefetched, IsUnlike}
use Rattle.sr_receive_gather.specs.declared.fault.ReceiveFault.{ReceiveFault}

-- the pieces of the window that was tried, with the messages that their second fetches gave
abbrev pub Pairs : Type 0
Pairs = List (Piece × Message)

-- the second fetch of a piece, from the folder of this address
abbrev pub refetch : Name → Piece → Option (List ℕ) → Happening
refetch address piece found = fetched address piece.name longest_fetch (Ok found)

-- second fetches that gave messages, the newest first
abbrev pub refetches : Name → Pairs → List Happening → List Happening
refetches address [] before = before
refetches address (p ∷ pairs) before = refetches address pairs (refetch address p.0 (Some (message_spelling p.1)) ∷ before)

-- pieces came again up to one that did not
pub record LostAmong (publisher user : Name) (pieces : List Piece) (before now : Seen) : Type 0 where
  pub pairs : Pairs
  pub piece : Piece
  pub behind : List Piece
  pub found : Option (List ℕ)
  pub parts : pieces ≡ map (λ p. p.0) pairs ++ piece ∷ behind
  pub still : AllByRecursion (IsRefetched publisher user) pairs
  pub unlike : IsUnlike publisher user piece found
  pub happened : IsTrue before.observable → now.happened ≡ refetch publisher piece found ∷ refetches publisher pairs before.happened
  pub stays : MailStays before now
  pub steady : now.mail_faults ≡ before.mail_faults

-- all pieces came again
pub record FoundPairs (publisher user : Name) (pieces : List Piece) (before now : Seen) (pairs : Pairs) : Type 0 where
  pub parts : map (λ p. p.0) pairs ≡ pieces
  pub still : AllByRecursion (IsRefetched publisher user) pairs
  pub happened : IsTrue before.observable → now.happened ≡ refetches publisher pairs before.happened
  pub stays : MailStays before now
  pub steady : now.mail_faults ≡ before.mail_faults

-- of these pieces the first came again, and one more at most was begun: the next
pub record RefetchedInPart (publisher user : Name) (pieces : List Piece) (before now : List Happening) : Type 0 where
  pub pairs : Pairs
  pub left : List Piece
  pub parts : pieces ≡ map (λ p. p.0) pairs ++ left
  pub still : AllByRecursion (IsRefetched publisher user) pairs
  pub last : List Happening
  pub one : IsLastFetch publisher (map (λ (p : Piece). p.name) left) last
  pub happened : now ≡ last ++ refetches publisher pairs before

-- why pieces are not fetched again to their end: the mail refused, or there was no memory
pub record FetchStop (publisher user : Name) (pieces : List Piece) (before now : Seen) (fault : ReceiveFault) : Type 0 where
  pub why : IsMailFault before now fault
  pub stays : MailStays before now
  pub happened : IsTrue before.observable → RefetchedInPart publisher user pieces before.happened now.happened
