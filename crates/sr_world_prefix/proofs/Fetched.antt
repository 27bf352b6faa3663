-- What is so of all that was fetched is so of message files, and of the pieces of windows that came again.
use Rattle.std.proofs.Common.{ℕ, List, [], ◌∷◌, Some}
use Rattle.std.specs.Prelude.{⊤}
use Rattle.std.specs.List.{AllByRecursion}
use Rattle.sr_book.specs.Entries.{Name}
use Rattle.sr_mail.specs.declared.piece.Piece.{Piece}
use Rattle.sr_msgform.specs.Messages.{message_spelling}
use Rattle.sr_msgform.specs.declared.message.Message.{Message}
use Rattle.sr_receive.specs.Acts.{ReceiveAct, dropped, torn, begun, took, PassState, AreActs, mail_after}
use Rattle.sr_receive_gather.specs.Fetches.{Pairs, refetch, refetches}
use Rattle.sr_receive_gather.specs.Gathers.{fetches}
use Rattle.sr_receive_gather.specs.MessageFiles.{FetchedFile, IsFetchedFile, MessageFile, fetch_of}
use Rattle.sr_receive_gather.specs.Windows.{IsRefetched}
use Rattle.sr_catalog_schema.specs.Catalogs.{Lists}
use Rattle.sr_site.specs.Happenings.{Happening}

-- it is so of the pieces of a window that was begun
abbrev pub IsSoOfAct : (Piece × Message → Type 0) → ReceiveAct → Type 0
IsSoOfAct K (dropped w pairs piece found) = ⊤
IsSoOfAct K (torn w pairs) = ⊤
IsSoOfAct K (begun w pairs txs) = AllByRecursion K pairs
IsSoOfAct K (took t dones) = ⊤

-- ---- second fetches

module _ (P : Happening → Type 0) (K : Piece × Message → Type 0) (publisher whose : Name)
    (gives : (pair : Piece × Message) → IsRefetched publisher whose pair → P (refetch publisher pair.0 (Some (message_spelling pair.1))) → K pair) where
  refetched : (pairs : Pairs) (before : List Happening) → AllByRecursion (IsRefetched publisher whose) pairs → AllByRecursion P (refetches publisher pairs before)
      → AllByRecursion K pairs × AllByRecursion P before
  refetched [] before still all = (tt, all)
  refetched (p ∷ pairs) before still all =
      let later = refetched pairs (refetch publisher p.0 (Some (message_spelling p.1)) ∷ before) still.1 all in
      ((gives p still.0 later.1.0, later.0), later.1.1)

  pub so_of_acts : (message_files : List MessageFile) (first : PassState) (acts : List ReceiveAct) (before : List Happening) → AreActs publisher whose message_files first acts
      → AllByRecursion P (mail_after publisher acts before) → AllByRecursion (IsSoOfAct K) acts × AllByRecursion P before
  so_of_acts message_files first [] before are all = (tt, all)
  so_of_acts message_files first (dropped w pairs piece found ∷ earlier) before are all =
      let these = refetched pairs (mail_after publisher earlier before) are.1.still all.1 in
      let others = so_of_acts message_files first earlier before are.0 these.1 in
      ((tt, others.0), others.1)
  so_of_acts message_files first (torn w pairs ∷ earlier) before are all =
      let these = refetched pairs (mail_after publisher earlier before) are.1.0.still all in
      let others = so_of_acts message_files first earlier before are.0 these.1 in
      ((tt, others.0), others.1)
  so_of_acts message_files first (begun w pairs txs ∷ earlier) before are all =
      let these = refetched pairs (mail_after publisher earlier before) are.1.0.still all in
      let others = so_of_acts message_files first earlier before are.0 these.1 in
      ((these.0, others.0), others.1)
  so_of_acts message_files first (took t dones ∷ earlier) before are all =
      let others = so_of_acts message_files first earlier before are.0 all in
      ((tt, others.0), others.1)

-- ---- first fetches

module _ (P : Happening → Type 0) (K : FetchedFile → Type 0) (publisher : Name) (catalog : Lists) (end : ℕ)
    (gives : (came : FetchedFile) → IsFetchedFile catalog end came → P (fetch_of publisher came) → K came) where
  pub so_of_fetched_files : (fetched_files : List FetchedFile) (before : List Happening) → AllByRecursion (IsFetchedFile catalog end) fetched_files → AllByRecursion P (fetches publisher fetched_files before)
      → AllByRecursion K fetched_files × AllByRecursion P before
  so_of_fetched_files [] before are all = (tt, all)
  so_of_fetched_files (came ∷ fetched_files) before are all =
      let later = so_of_fetched_files fetched_files (fetch_of publisher came ∷ before) are.1 all in
      ((gives came are.0 later.1.0, later.0), later.1.1)
