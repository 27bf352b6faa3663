-- Where no message file was removed, by what happened to the mail.
use Rattle.std.proofs.Common.{◌≡◌, ℕ, List, [], ◌∷◌, ◌++◌, map, refl, sym, ap, inl, inr, ◌∙◌}
use Rattle.std.proofs.lemmas.List.{append_cancel_right}
use Rattle.std.specs.Prelude.{IsTrue, Bool, true, Some, Ok}
use Rattle.sr_book.specs.Entries.{Name}
use Rattle.sr_database.specs.Views.{View}
use Rattle.sr_database_history.specs.Recorded.{Recorded}
use Rattle.sr_mail.specs.declared.piece.Piece.{Piece}
use Rattle.sr_mail.specs.declared.window.Window.{Window}
use Rattle.sr_receive.specs.Acts.{ReceiveAct, PassState, dropped, torn, begun as began, took, mail_after}
use Rattle.sr_receive.specs.Passes.{IsMailAt, PassedInPart}
use Rattle.sr_receive_gather.specs.Fetches.{Pairs, RefetchedInPart, refetch, refetches}
use Rattle.sr_receive_gather.specs.Gathers.{HappenedInPart, IsLastFetch, fetches}
use Rattle.sr_receive_gather.specs.MessageFiles.{FetchedFile, MessageFile, fetch_of}
use Rattle.sr_receive_gather.specs.declared.fault.ReceiveFault.{ReceiveFault}
use Rattle.sr_receive_gather.specs.declared.fault.ReceiveFault.TheVariants as receives
use Rattle.sr_receive_gather.specs.declared.report.Report.{Report}
use Rattle.sr_msgform.specs.Messages.{message_spelling}
use Rattle.sr_send.specs.Posting.{PutAlone}
use Rattle.sr_site.specs.Files.{Files}
use Rattle.sr_site.specs.Happenings.{Happening, listed, removed, sent, mail_in}
use Rattle.sr_site.specs.Seen.{Seen}
use Rattle.sr_database_meaning.specs.Events.{Event, commit, put}
use Rattle.sr_database_meaning.specs.Traces.{Went}
use Rattle.sr_agent.specs.Deliveries.{with_puts}
use Rattle.sr_agent.specs.Removals.{AreDoneWith, RemovesBehind}

-- an address and a name
abbrev Removal : Type 0
Removal = List ℕ × List ℕ

-- the removals that were begun, the newest first
abbrev pub removals_in : List Happening → List Removal
removals_in [] = []
removals_in (removed address name done ∷ before) = (address, name) ∷ removals_in before
removals_in (step ∷ before) = removals_in before

removals_of_mail : (happened : List Happening) → removals_in (mail_in happened) ≡ removals_in happened
removals_of_mail [] = refl
removals_of_mail (removed address name done ∷ before) = ap (λ (l : List Removal). (address, name) ∷ l) (removals_of_mail before)
removals_of_mail (step ∷ before) = removals_of_mail before

removals_more : (more before : List Happening) → removals_in (more ++ before) ≡ removals_in more ++ removals_in before
removals_more [] before = refl
removals_more (removed address name done ∷ more) before = ap (λ (l : List Removal). (address, name) ∷ l) (removals_more more before)
removals_more (step ∷ more) before = removals_more more before

none_of : (first : Files) (publisher : Name) (begun before more : List Happening) → removals_in more ≡ [] → AreDoneWith first publisher begun before more
none_of first publisher begun before [] none = tt
none_of first publisher begun before (removed address name done ∷ more) none = absurd (cc)
none_of first publisher begun before (step ∷ more) none = none_of first publisher begun before more none

-- what happened since
went_since : (before now : Seen) (publisher : Name) (es : List Recorded) (events : List Event) → Went before now publisher es events → (more : List Happening) × (now.happened ≡ more ++ before.happened)
unfolding Went
went_since before now publisher es events went = (went.more, went.is)

pub none_removed : (first : Files) (begun : List Happening) (before now : Seen) (publisher : Name) (es : List Recorded) (events : List Event) → Went before now publisher es events
    → removals_in (mail_in now.happened) ≡ removals_in (mail_in before.happened) → RemovesBehind first publisher begun before.happened now.happened
none_removed first begun before now publisher es events went same =
    let since = went_since before now publisher es events went in
    let none : removals_in since.0 ≡ [] = append_cancel_right (removals_in since.0) [] (removals_in before.happened)
    (sym (removals_more since.0 before.happened) ∙ ap removals_in (sym since.1) ∙ sym (removals_of_mail now.happened) ∙ same ∙ removals_of_mail before.happened) in
    record { more = since.0; is = since.1; are = none_of first publisher begun before.happened since.0 none }

pub mail_same : (before now : List Happening) → removals_in now ≡ removals_in before → removals_in (mail_in now) ≡ removals_in (mail_in before)
mail_same before now same = removals_of_mail now ∙ same ∙ sym (removals_of_mail before)

-- ---- fetches

pub fetches_same : (address : List ℕ) (fetched_files : List FetchedFile) (before : List Happening) → removals_in (fetches address fetched_files before) ≡ removals_in before
fetches_same address [] before = refl
fetches_same address (came ∷ fetched_files) before = fetches_same address fetched_files (fetch_of address came ∷ before)

refetches_same : (address : Name) (pairs : Pairs) (before : List Happening) → removals_in (refetches address pairs before) ≡ removals_in before
refetches_same address [] before = refl
refetches_same address (p ∷ pairs) before = refetches_same address pairs (refetch address p.0 (Some (message_spelling p.1)) ∷ before)

pub after_same : (address : Name) (acts : List ReceiveAct) (before : List Happening) → removals_in (mail_after address acts before) ≡ removals_in before
after_same address [] before = refl
after_same address (dropped w pairs piece found ∷ earlier) before = refetches_same address pairs (mail_after address earlier before) ∙ after_same address earlier before
after_same address (torn w pairs ∷ earlier) before = refetches_same address pairs (mail_after address earlier before) ∙ after_same address earlier before
after_same address (began w pairs txs ∷ earlier) before = refetches_same address pairs (mail_after address earlier before) ∙ after_same address earlier before
after_same address (took t dones ∷ earlier) before = after_same address earlier before

last_same : (address : List ℕ) (left : List (List ℕ)) (last before : List Happening) → IsLastFetch address left last → removals_in (last ++ before) ≡ removals_in before
last_same address left [] before one = refl
last_same address left (step ∷ more) before one =
    ap (λ (l : List Happening). removals_in (step ∷ l ++ before)) one.0 ∙ ap (λ (s : Happening). removals_in (s ∷ before)) one.1.4

refetched_same : (publisher user : Name) (pieces : List Piece) (before now : List Happening) → RefetchedInPart publisher user pieces before now → removals_in now ≡ removals_in before
refetched_same publisher user pieces before now part =
    ap removals_in part.happened
    ∙ last_same publisher (map (λ (p : Piece). p.name) part.left) part.last (refetches publisher part.pairs before) part.one
    ∙ refetches_same publisher part.pairs before

mail_at_same : (fault : ReceiveFault) (publisher user : Name) (message_files : List MessageFile) (s : PassState) (before now : List Happening) → IsMailAt fault publisher user message_files s before now → removals_in now ≡ removals_in before
mail_at_same receives.Disk publisher user message_files s before now is = ap removals_in is
mail_at_same receives.Mail publisher user message_files s before now has = refetched_same publisher user has.pieces before now has.part
mail_at_same (receives.Full end need) publisher user message_files s before now is = ap removals_in is
mail_at_same (receives.Long size limit) publisher user message_files s before now is = ap removals_in is
mail_at_same receives.Memory publisher user message_files s before now (inl is) = ap removals_in is
mail_at_same receives.Memory publisher user message_files s before now (inr has) = refetched_same publisher user has.pieces before now has.part

-- a pass over a partner's message files that a fault ended
pub passed_same : (old new : View) (before now : Seen) (user : Name) (message_files : List MessageFile) (dropped_windows dropped_windows' : List Window) (reports reports' : List Report) (fault : ReceiveFault) → IsTrue before.observable
    → PassedInPart old new before now user message_files dropped_windows dropped_windows' reports reports' fault → removals_in (mail_in now.happened) ≡ removals_in (mail_in before.happened)
passed_same old new before now user message_files dropped_windows dropped_windows' reports reports' fault told (inl notes) = ap removals_in (notes.mail told)
passed_same old new before now user message_files dropped_windows dropped_windows' reports reports' fault told (inr from) =
    let after = after_same old.catalog.publisher from.acts (mail_in before.happened) in
    elim from.stopped [
      | inl windows ↦ mail_at_same fault old.catalog.publisher user message_files _ (mail_after old.catalog.publisher from.acts (mail_in before.happened)) (mail_in now.happened) (windows.mail told) ∙ after
      | inr end ↦ ap removals_in (end.mail told) ∙ after
    ]

-- a gathering that a fault ended
pub gathered_same : (address : List ℕ) (before now : List Happening) (more : Bool) (fetched_files : List FetchedFile) → HappenedInPart address before now more fetched_files → removals_in now ≡ removals_in before
gathered_same address before now more fetched_files (inl none) = elim none.happened [
  | inl same ↦ ap removals_in same
  | inr one ↦ ap removals_in one.2
]
gathered_same address before now more fetched_files (inr some) =
    let first = listed address some.folder (Ok some.listing) ∷ before in
    ap removals_in some.part.happened ∙ last_same address some.part.left some.part.last (fetches address fetched_files first) some.part.one ∙ fetches_same address fetched_files first

-- ---- puts

pub puts_same : (events : List Event) (before : List Happening) → removals_in (with_puts events before) ≡ removals_in before
puts_same [] before = refl
puts_same (commit r ∷ events) before = puts_same events before
puts_same (put address name bytes ∷ events) before = puts_same events (sent address name bytes true ∷ before)

pub alone_same : (events : List Event) (before now : List Happening) → PutAlone events before now → removals_in now ≡ removals_in before
alone_same [] before now alone = ap removals_in alone
alone_same (commit r ∷ events) before now alone = alone_same events before now alone
alone_same (put address name bytes ∷ events) before now alone = alone_same events (sent address name bytes alone.0 ∷ before) now alone.1
