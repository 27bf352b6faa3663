-- Files fetched again, piece by piece.
use Rattle.std.proofs.Common.{◌≡◌, ℕ, Bool, List, [], ◌∷◌, ◌++◌, map, Option, Some, None, Result, Ok, Err, refl, sym, ap, subst, ◌∙◌, append_assoc}
use Rattle.std.specs.Prelude.{IsTrue, IsErrOf, IfSome, IfNone, option_map}
use Rattle.std.specs.List.{AllByRecursion}
use Rattle.std.proofs.lemmas.List.{map-append}
use Rattle.sr_book.specs.Entries.{Name}
use Rattle.sr_mail_cut.proofs.Lists.{AllByRecursion-append}
use Rattle.sr_mail.specs.declared.piece.Piece.{Piece}
use Rattle.sr_msgform.specs.Messages.{IsMessage, message_spelling}
use Rattle.sr_msgform.specs.declared.message.Message.{Message}
use Rattle.sr_site.specs.Causes.{MailStays, Rose}
use Rattle.sr_site.specs.Inner.Growing.{mail_stays_on}
use Rattle.sr_site.specs.Happenings.{Happening, fetched}
use Rattle.sr_site.specs.Seen.{Seen}
use Rattle.sr_site.specs.declared.mail.MailFault.{MailFault}
use Rattle.sr_site.specs.declared.mail.MailFault.TheVariants as mail
use Rattle.sr_receive_gather.specs.Fetches.{Pairs, refetch, refetches, FetchStop, LostAmong}
use Rattle.sr_receive_gather.specs.Inner.Fetches.{FetchOneStop, FoundOne}
use Rattle.sr_receive_gather.specs.Inner.Faults.{fault_of_mail}
use Rattle.sr_receive_gather.specs.MessageFiles.{longest_fetch}
use Rattle.sr_receive_gather.specs.Windows.{IsRefetched, IsStill}
use Rattle.sr_receive_gather.specs.declared.fault.ReceiveFault.{ReceiveFault}
use Rattle.sr_receive_gather.specs.declared.fault.ReceiveFault.TheVariants.{Memory}
use Rattle.sr_receive_gather.proofs.MailEnds.{mail_why, mail_then}

told_then : (before now : Seen) → MailStays before now → IsTrue before.observable → IsTrue now.observable
told_then before now stays told = subst (λ (b : Bool). IsTrue b) (sym stays.observable) told

-- ---- one piece

-- it is gone
pub found_none : {B : Type 0} (items : B → List ℕ) (publisher user : Name) (piece : Piece) (before now : Seen) (found : Option B) → found ≡ None
    → (IsTrue before.observable → now.happened ≡ fetched publisher piece.name longest_fetch (Ok (option_map items found)) ∷ before.happened) → MailStays before now → now.mail_faults ≡ before.mail_faults
    → FoundOne publisher user piece before now None
found_none {B} items publisher user piece before now found none happened stays steady = record {
  found = None;
  happened = λ told. happened told ∙ ap (λ (f : Option B). refetch publisher piece (option_map items f) ∷ before.happened) none;
  unlike = λ m is e. absurd cc;
  stays = stays;
  steady = steady;
}

-- it is there: its own message, or another one, or none
pub found_some : {B : Type 0} (items : B → List ℕ) (publisher user : Name) (piece : Piece) (before now : Seen) (bytes : B) (slice : List ℕ) (found : Option B) (read answer : Option Message) → found ≡ Some bytes
    → slice ≡ items bytes → (IsTrue before.observable → now.happened ≡ fetched publisher piece.name longest_fetch (Ok (option_map items found)) ∷ before.happened) → MailStays before now
    → now.mail_faults ≡ before.mail_faults → IfSome read (λ m. IsMessage m × (slice ≡ message_spelling m)) → ((m : Message) → IsMessage m → slice ≡ message_spelling m → read ≡ Some m)
    → IfSome answer (λ m. (read ≡ Some m) × IsStill publisher user (piece, m)) → IfNone answer ((m : Message) → read ≡ Some m → ¬ (IsStill publisher user (piece, m)))
    → FoundOne publisher user piece before now answer
found_some {B} items publisher user piece before now bytes slice found read None some all happened stays steady is only his none = record {
  found = Some slice;
  happened = λ told. happened told ∙ ap (λ (f : Option B). refetch publisher piece (option_map items f) ∷ before.happened) some
      ∙ ap (λ (l : List ℕ). refetch publisher piece (Some l) ∷ before.happened) (sym all);
  unlike = λ m message e. let spelled : slice ≡ message_spelling m = cc in none m (only m message spelled);
  stays = stays;
  steady = steady;
}
found_some {B} items publisher user piece before now bytes slice found read (Some m) some all happened stays steady is only his none =
    let it = subst (λ (r : Option Message). IfSome r (λ x. IsMessage x × (slice ≡ message_spelling x))) his.0 is in
    record {
      happened = λ told. happened told ∙ ap (λ (f : Option B). refetch publisher piece (option_map items f) ∷ before.happened) some
          ∙ ap (λ (l : List ℕ). refetch publisher piece (Some l) ∷ before.happened) (sym all ∙ it.1);
      still = (it.0, his.1);
      stays = stays;
      steady = steady;
    }

-- it could not be fetched
pub fetch_failed : {T : Type 0} (publisher : Name) (piece : Piece) (before now : Seen) (fault : MailFault) (result : Result T MailFault) → result ≡ Err fault
    → (IsTrue before.observable → now.happened ≡ fetched publisher piece.name longest_fetch (Err fault) ∷ before.happened) → MailStays before now
    → (IsErrOf result mail.Failed → Rose before.mail_faults now.mail_faults) → (IsErrOf result mail.Memory → now.mail_faults ≡ before.mail_faults)
    → FetchOneStop publisher piece before now (fault_of_mail fault)
fetch_failed publisher piece before now fault result is happened stays cause short = record {
  why = mail_why before now fault result is cause short;
  stays = stays;
  found = Err fault;
  happened = happened;
}

-- there was no memory to read it
pub fetch_unread : (publisher : Name) (piece : Piece) (before now : Seen) (found : Option (List ℕ))
    → (IsTrue before.observable → now.happened ≡ fetched publisher piece.name longest_fetch (Ok found) ∷ before.happened) → MailStays before now → now.mail_faults ≡ before.mail_faults
    → FetchOneStop publisher piece before now Memory
fetch_unread publisher piece before now found happened stays steady = record { why = steady; stays = stays; found = Ok found; happened = happened }

-- ---- all pieces

-- the pieces before those that are left came again
pub record IsFetching (publisher user : Name) (pieces left : List Piece) (before now : Seen) (pairs : Pairs) : Type 0 where
  pub parts : pieces ≡ map (λ p. p.0) pairs ++ left
  pub still : AllByRecursion (IsRefetched publisher user) pairs
  pub happened : IsTrue before.observable → now.happened ≡ refetches publisher pairs before.happened
  pub stays : MailStays before now
  pub steady : now.mail_faults ≡ before.mail_faults

refetches_more : (publisher : Name) (pairs : Pairs) (pair : Piece × Message) (before : List Happening)
    → refetches publisher (pairs ++ pair ∷ []) before ≡ refetch publisher pair.0 (Some (message_spelling pair.1)) ∷ refetches publisher pairs before
refetches_more publisher [] pair before = refl
refetches_more publisher (p ∷ pairs) pair before = refetches_more publisher pairs pair (refetch publisher p.0 (Some (message_spelling p.1)) ∷ before)

came_again : (publisher user : Name) (pieces : List Piece) (piece : Piece) (m : Message) (left : List Piece) (before middle now : Seen) (pairs : Pairs) → IsFetching publisher user pieces (piece ∷ left) before middle pairs
    → FoundOne publisher user piece middle now (Some m) → IsFetching publisher user pieces left before now (pairs ++ (piece, m) ∷ [])
came_again publisher user pieces piece m left before middle now pairs f one = record {
  parts = f.parts ∙ sym (append_assoc (map (λ (p : Piece × Message). p.0) pairs) (piece ∷ []) left)
      ∙ ap (λ (l : List Piece). l ++ left) (sym (map-append (λ (p : Piece × Message). p.0) pairs ((piece, m) ∷ [])));
  still = AllByRecursion-append (IsRefetched publisher user) pairs ((piece, m) ∷ []) f.still (one.still, tt);
  happened = λ told. one.happened (told_then before middle f.stays told)
      ∙ ap (λ (h : List Happening). refetch publisher piece (Some (message_spelling m)) ∷ h) (f.happened told) ∙ sym (refetches_more publisher pairs (piece, m) before.happened);
  stays = mail_stays_on before middle now f.stays one.stays;
  steady = one.steady ∙ f.steady;
}

-- the next came again
pub fetching_more : (publisher user : Name) (pieces : List Piece) (piece : Piece) (m : Message) (left rest : List Piece) (before middle now : Seen) (pairs pairs' : Pairs) (found : Option Message) → left ≡ piece ∷ rest
    → found ≡ Some m → pairs' ≡ pairs ++ (piece, m) ∷ [] → IsFetching publisher user pieces left before middle pairs → FoundOne publisher user piece middle now found
    → IsFetching publisher user pieces rest before now pairs'
fetching_more publisher user pieces piece m left rest before middle now pairs pairs' found next some more f one =
    subst (λ (l : Pairs). IsFetching publisher user pieces rest before now l) (sym more)
    (came_again publisher user pieces piece m rest before middle now pairs (subst (λ (l : List Piece). IsFetching publisher user pieces l before middle pairs) next f)
    (subst (λ (o : Option Message). FoundOne publisher user piece middle now o) some one))

not_again : (publisher user : Name) (pieces : List Piece) (piece : Piece) (left : List Piece) (before middle now : Seen) (pairs : Pairs) → IsFetching publisher user pieces (piece ∷ left) before middle pairs
    → FoundOne publisher user piece middle now None → LostAmong publisher user pieces before now
not_again publisher user pieces piece left before middle now pairs f one = record {
  pairs = pairs;
  piece = piece;
  behind = left;
  found = one.found;
  parts = f.parts;
  still = f.still;
  unlike = one.unlike;
  happened = λ told. one.happened (told_then before middle f.stays told) ∙ ap (λ (h : List Happening). refetch publisher piece one.found ∷ h) (f.happened told);
  stays = mail_stays_on before middle now f.stays one.stays;
  steady = one.steady ∙ f.steady;
}

-- it did not
pub fetching_dropped_windows : (publisher user : Name) (pieces : List Piece) (piece : Piece) (left rest : List Piece) (before middle now : Seen) (pairs : Pairs) (found : Option Message) → left ≡ piece ∷ rest → found ≡ None
    → IsFetching publisher user pieces left before middle pairs → FoundOne publisher user piece middle now found → LostAmong publisher user pieces before now
fetching_dropped_windows publisher user pieces piece left rest before middle now pairs found next none f one =
    not_again publisher user pieces piece rest before middle now pairs (subst (λ (l : List Piece). IsFetching publisher user pieces l before middle pairs) next f)
    (subst (λ (o : Option Message). FoundOne publisher user piece middle now o) none one)

-- a fault came with the next
pub fetching_stop : (publisher user : Name) (pieces : List Piece) (piece : Piece) (left rest : List Piece) (before middle now : Seen) (pairs : Pairs) (fault : ReceiveFault) → left ≡ piece ∷ rest
    → IsFetching publisher user pieces left before middle pairs → FetchOneStop publisher piece middle now fault → FetchStop publisher user pieces before now fault
fetching_stop publisher user pieces piece left rest before middle now pairs fault next f stop = record {
  why = mail_then before middle now fault f.steady stop.why;
  stays = mail_stays_on before middle now f.stays stop.stays;
  happened = λ told. record {
    pairs = pairs;
    left = left;
    parts = f.parts;
    still = f.still;
    last = fetched publisher piece.name longest_fetch stop.found ∷ [];
    one = (refl, (piece.name, map (λ (p : Piece). p.name) rest, stop.found, ap (map (λ (p : Piece). p.name)) next, refl));
    happened = stop.happened (told_then before middle f.stays told) ∙ ap (λ (h : List Happening). fetched publisher piece.name longest_fetch stop.found ∷ h) (f.happened told);
  };
}

-- there was no memory to keep its message
pub fetching_short : (publisher user : Name) (pieces : List Piece) (piece : Piece) (left rest : List Piece) (m : Message) (before middle now : Seen) (pairs : Pairs) → left ≡ piece ∷ rest
    → IsFetching publisher user pieces left before middle pairs → FoundOne publisher user piece middle now (Some m) → FetchStop publisher user pieces before now Memory
fetching_short publisher user pieces piece left rest m before middle now pairs next f one =
    fetching_stop publisher user pieces piece left rest before middle now pairs Memory next f (record { why = one.steady; stays = one.stays; found = Ok (Some (message_spelling m)); happened = one.happened })
