use Rattle.std.proofs.Common.{◌≡◌, ℕ, zero, suc, ◌<◌, ◌≢◌, List, [], ◌∷◌, ◌++◌, length, get_or, map, refl, ap, ◌∙◌, subst, inl, inr, arith, Contains}
use Rattle.std.proofs.Common.{bytes_eq, true}
use Rattle.std.proofs.lemmas.List.Elements.{Contains-push_cases, Contains-append_left, Contains-append_right}
use Rattle.sr_book.specs.declared.note.Note.{Note}
use Rattle.sr_book.specs.declared.note.Note.TheVariants.{Confirmed, Asked, Raised, Sent}
use Rattle.sr_book.specs.Entries.{Name, Sight, local, from_user, noted}
use Rattle.sr_book.proofs.Folds.{name_test, same_name}
use Rattle.sr_msgform.specs.declared.message.Message.{Message}
use Rattle.sr_world_model.specs.Layers.{Layers}
use Rattle.sr_world_model.specs.Steps.{Comes, HasPiece, HasAllFragments, Chain, CanNote, CanAppend, DatabaseStep, append, put, crash, CanDo, CanDoAll, history_after}
use Rattle.sr_world_model.specs.Steps.{messages_after, history_after_all, messages_after_all}
use Rattle.sr_world_model.specs.Worlds.{World, WorldStep, history_in, history, histories_after, happens, IsNamed, acts_by}
use Rattle.sr_world_model.specs.Worlds.{AreAmong}
use Rattle.sr_world_model.specs.Inner.Worlds.{IsAllowed, AreAllowed}
use Rattle.sr_world_model.proofs.Good.{history_in-histories_after}

module _ (fewer messages : List Message) (among : AreAmong fewer messages) where
  abbrev comes_more : (sender receiver : Name) → Comes fewer sender receiver → Comes messages sender receiver
  comes_more sender receiver came = record {
    message = came.message;
    among = among came.message came.among;
    sent_by = came.sent_by;
    sent_to = came.sent_to;
  }

  abbrev piece_more : (sender receiver : Name) (prev upto total : ℕ) → HasPiece fewer sender receiver prev upto total →
      HasPiece messages sender receiver prev upto total
  piece_more sender receiver prev upto total piece = record { comes = comes_more sender receiver piece.comes; of_window = piece.of_window }

  whole_more : (sender receiver : Name) (prev upto : ℕ) (body : List ℕ) → HasAllFragments fewer sender receiver prev upto body →
      HasAllFragments messages sender receiver prev upto body
  whole_more sender receiver prev upto body whole = record {
    some_piece = piece_more sender receiver prev upto (length body) whole.some_piece;
    covered = λ place below.
        let has = whole.covered place below in
        record {
          piece = piece_more sender receiver prev upto (length body) has.piece;
          from_start = has.from_start;
          to_end = has.to_end;
          is_byte = has.is_byte;
        };
  }

  chain_more : (sender receiver : Name) (prev upto : ℕ) (windows : List (ℕ × List ℕ)) →
      Chain fewer sender receiver prev upto windows → Chain messages sender receiver prev upto windows
  chain_more sender receiver prev upto [] chain = chain
  chain_more sender receiver prev upto (next ∷ windows) chain =
      (whole_more sender receiver prev next.0 next.1 chain.0, chain_more sender receiver next.0 upto windows chain.1)

  module _ {Entry Ops : Type 0} (p : Layers Entry Ops) where
    note_more : (d : Name) (es : List Entry) (user : Name) (note : Note) → CanNote p fewer d es user note → CanNote p messages d es user note
    note_more d es user (Confirmed place) can = (comes_more user d can.0, can.1, can.2)
    note_more d es user (Asked count place) can = (comes_more user d can.0, can.1, can.2, can.3)
    note_more d es user Raised can = (comes_more user d can.0, can.1)
    note_more d es user (Sent end count confirm) can = record {
      windows = can.windows;
      chain = chain_more d user _ end.0 can.windows can.chain;
      given_there = can.given_there;
      some_message = can.some_message;
      confirms = can.confirms;
    }

    append_more : (HasSpelling : (ℕ × Ops) → Type 0) (d : Name) (es : List Entry) (s : Sight Ops) → CanAppend p HasSpelling fewer d es s →
        CanAppend p HasSpelling messages d es s
    append_more HasSpelling d es local can = tt
    append_more HasSpelling d es (from_user user place ops) can = record {
      prev = can.prev;
      upto = can.upto;
      transactions = can.transactions;
      rest = can.rest;
      is_whole = whole_more user d can.prev can.upto (p.encode can.transactions) can.is_whole;
      have_spellings = can.have_spellings;
      reached = can.reached;
      ahead = can.ahead;
      first = can.first;
    }
    append_more HasSpelling d es (noted user note) can = note_more d es user note can

    -- what may be done may be done with more messages
    pub do_more : (HasSpelling : (ℕ × Ops) → Type 0) (lawful : Name → List Entry → Type 0) (d : Name)
        (es : List Entry) (database_step : DatabaseStep Entry) → CanDo p HasSpelling lawful fewer d es database_step →
        CanDo p HasSpelling lawful messages d es database_step
    do_more HasSpelling lawful d es (append e) can = (append_more HasSpelling d es (p.sees e) can.0, can.1)
    do_more HasSpelling lawful d es (put m) can = can
    do_more HasSpelling lawful d es crash can = tt

-- a step leaves the messages and may add one
pub messages_kept : {Entry : Type 0} (messages : List Message) (database_step : DatabaseStep Entry) → AreAmong messages (messages_after messages database_step)
messages_kept messages (append e) m is = is
messages_kept messages (put new) m is = Contains-append_left messages (new ∷ []) m is
messages_kept messages crash m is = is

-- more messages before a step are more after it
pub after_among : {Entry : Type 0} (fewer messages : List Message) (database_step : DatabaseStep Entry) → AreAmong fewer messages →
    AreAmong (messages_after fewer database_step) (messages_after messages database_step)
after_among fewer messages (append e) among = among
after_among fewer messages (put new) among = λ m is. elim (Contains-push_cases fewer new m is) [
  | inl before ↦ Contains-append_left messages (new ∷ []) m (among m before)
  | inr same ↦ Contains-append_right messages (new ∷ []) m (subst (λ x. Contains (new ∷ []) x) same (0, omega arith, refl))
]
after_among fewer messages crash among = among

-- a step leaves the names of the databases
names_kept : {Entry : Type 0} (hs : List (Name × List Entry)) (d : Name) (database_step : DatabaseStep Entry) →
    map (λ h. h.0) (histories_after hs d database_step) ≡ map (λ h. h.0) hs
names_kept [] d database_step = refl
names_kept (h ∷ hs) d database_step = elim (name_test d h.0) [
  | inl t ↦ rw t.0 refl
  | inr t ↦ rw t (ap (λ names. h.0 ∷ names) (names_kept hs d database_step))
]

pub named_kept : {Entry : Type 0} (w : World Entry) (act : WorldStep Entry) (d : Name) → IsNamed w d → IsNamed (happens w act) d
named_kept w act d named = rw (names_kept w.histories act.owner act.database_step) named

-- a step of a database that is there makes its history longer
own_history : {Entry : Type 0} (hs : List (Name × List Entry)) (d : Name) (database_step : DatabaseStep Entry) (k : ℕ) → k < length (map (λ h. h.0) hs) →
    get_or (map (λ h. h.0) hs) k d ≡ d → history_in d (histories_after hs d database_step) ≡ history_after (history_in d hs) database_step
own_history [] d database_step k within is = absurd (omega arith)
own_history (h ∷ hs) d database_step zero within is = elim (name_test d h.0) [
  | inl t ↦ rw (t.0, t.0) refl
  | inr t ↦ let same : bytes_eq d h.0 ≡ true = rw is (same_name d) in absurd (cc)
]
own_history (h ∷ hs) d database_step (suc k) within is = elim (name_test d h.0) [
  | inl t ↦ rw (t.0, t.0) refl
  | inr t ↦ rw (t, t) (own_history hs d database_step k (omega arith) is)
]

-- another's step leaves a history
other_history : {Entry : Type 0} (hs : List (Name × List Entry)) (d : Name) (database_step : DatabaseStep Entry) (x : Name) → x ≢ d →
    history_in x (histories_after hs d database_step) ≡ history_in x hs
other_history hs d database_step x other = elim (history_in-histories_after hs d database_step x) [ inl same ↦ same | inr more ↦ absurd (other more.0) ]

module _ {Entry Ops : Type 0} (p : Layers Entry Ops) (HasSpelling : (ℕ × Ops) → Type 0) (lawful : Name → List Entry → Type 0) where
  -- a step stays allowed when others step
  pub still : (w : World Entry) (other act : WorldStep Entry) → act.owner ≢ other.owner → IsAllowed p HasSpelling lawful w act →
      IsAllowed p HasSpelling lawful (happens w other) act
  still w other act apart allowed =
      let same : history (happens w other) act.owner ≡ history w act.owner
      = other_history w.histories other.owner other.database_step act.owner apart in (
        named_kept w other act.owner allowed.0,
        rw same (do_more w.messages (messages_after w.messages other.database_step) (messages_kept w.messages other.database_step) p HasSpelling lawful act.owner
            (history w act.owner) act.database_step allowed.1),
      )

  own_step : (w : World Entry) (d : Name) (act : WorldStep Entry) → act.owner ≡ d → IsNamed w d →
      history (happens w act) d ≡ history_after (history w d) act.database_step
  own_step w d act owner named =
      ap (λ name. history_in d (histories_after w.histories name act.database_step)) owner
      ∙ own_history w.histories d act.database_step named.0 named.1 named.2

  -- what a database may do by its history and some messages are steps of each world that has these
  pub in_world : (messages : List Message) (d : Name) (es : List Entry) (database_steps : List (DatabaseStep Entry)) (w : World Entry) → IsNamed w d →
      history w d ≡ es → AreAmong messages w.messages → CanDoAll p HasSpelling lawful messages d es database_steps →
      AreAllowed p HasSpelling lawful w (acts_by d database_steps)
  in_world messages d es [] w named is among can = tt
  in_world messages d es (database_step ∷ database_steps) w named is among can =
      let act : WorldStep Entry = record { owner = d; database_step = database_step } in (
        (named, rw is (do_more messages w.messages among p HasSpelling lawful d es database_step can.0)),
        in_world (messages_after messages database_step) d (history_after es database_step) database_steps (happens w act) (named_kept w act d named)
            (own_step w d act refl named ∙ ap (λ es. history_after es database_step) is)
            (after_among messages w.messages database_step among) can.1,
      )

  -- steps that are allowed one after the other join
  pub database_steps_join : (messages : List Message) (d : Name) (es : List Entry) (database_steps more : List (DatabaseStep Entry)) →
      CanDoAll p HasSpelling lawful messages d es database_steps →
      CanDoAll p HasSpelling lawful (messages_after_all messages database_steps) d (history_after_all es database_steps) more →
      CanDoAll p HasSpelling lawful messages d es (database_steps ++ more)
  database_steps_join messages d es [] more can later = later
  database_steps_join messages d es (database_step ∷ database_steps) more can later =
      (can.0, database_steps_join (messages_after messages database_step) d (history_after es database_step) database_steps more can.1 later)

  pub database_steps_begin : (messages : List Message) (d : Name) (es : List Entry) (database_steps more : List (DatabaseStep Entry)) →
      CanDoAll p HasSpelling lawful messages d es (database_steps ++ more) → CanDoAll p HasSpelling lawful messages d es database_steps
  database_steps_begin messages d es [] more can = tt
  database_steps_begin messages d es (database_step ∷ database_steps) more can =
      (can.0, database_steps_begin (messages_after messages database_step) d (history_after es database_step) database_steps more can.1)

  -- what is allowed is allowed with more messages
  pub all_more : (fewer messages : List Message) (d : Name) (es : List Entry) (database_steps : List (DatabaseStep Entry)) → AreAmong fewer messages →
      CanDoAll p HasSpelling lawful fewer d es database_steps → CanDoAll p HasSpelling lawful messages d es database_steps
  all_more fewer messages d es [] among can = tt
  all_more fewer messages d es (database_step ∷ database_steps) among can = (
    do_more fewer messages among p HasSpelling lawful d es database_step can.0,
    all_more (messages_after fewer database_step) (messages_after messages database_step) d (history_after es database_step) database_steps
        (after_among fewer messages database_step among) can.1,
  )
