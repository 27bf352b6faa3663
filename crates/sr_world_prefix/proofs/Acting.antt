-- What a pass over a partner's windows adds to the history: each transaction is a step, and the pass stands where the history does.
use Rattle.std.proofs.Common.{◌≡◌, ℕ, ◌<◌, ◌≤◌, List, [], ◌∷◌, ◌++◌, sym, ap, subst, ◌∙◌, inl, inr, arith, append_assoc, append-nil}
use Rattle.sr_base.specs.declared.offset.Offset.{Offset}
use Rattle.sr_book.specs.Entries.{Name}
use Rattle.sr_book.specs.Histories.{taken as taken_from, taken_end}
use Rattle.sr_book.specs.Rising.{offsets, top}
use Rattle.sr_book.specs.declared.book.Book.{Book}
use Rattle.sr_book.specs.declared.note.Note.{Note}
use Rattle.sr_book.proofs.Folds.{book_received, taken-append}
use Rattle.sr_mail_cut.specs.Bodies.{RisesPast}
use Rattle.sr_database_history.specs.Folds.{State, after_dones, books_of, fresh, next, sees, state_of}
use Rattle.sr_database_history.specs.Recorded.{Recorded, Done, note, taken}
use Rattle.sr_database_history.proofs.Joined.{state_from-more}
use Rattle.sr_logform.specs.declared.op.Op.{Op}
use Rattle.sr_logform.specs.declared.op.Transaction.{Transaction}
use Rattle.sr_world_model.proofs.Offsets.{le_or_lt, not_past_test, past_test}
use Rattle.sr_receive.specs.Acts.{ReceiveAct, dropped, torn, begun, took, PassState, stand_of, AreActs, entries_of, rest_of}
use Rattle.sr_receive.specs.Passes.{first_notes, note_entries}
use Rattle.sr_receive_gather.specs.Greatest.{asks, confirms}
use Rattle.sr_receive_gather.specs.MessageFiles.{MessageFile}
use Rattle.sr_receive_gather.specs.Windows.{past}
use Rattle.sr_receive_gather.specs.declared.bag.Filed.{Filed}
use Rattle.sr_resolve.specs.Taking.{AreJudged, is_above}
use Rattle.sr_agent.specs.PartnerPasses.{beginning}
use Rattle.sr_world_prefix.proofs.Along.{Steps, steps_more}
use Rattle.sr_world_prefix.proofs.Steps.{IsRunStep, book_taken}
use Rattle.sr_world_prefix.proofs.Taking.{notes_take_none}

-- ---- offsets that rise

lower : (low n : ℕ) (ts : List Transaction) → n ≤ low → RisesPast low ts → RisesPast n ts
lower low n [] before rises = tt
lower low n (t ∷ ts) before rises = (omega (arith, before, rises.0), rises.1)

-- what lies past an offset rises past that, and past what all of them do
past_rises : (received low : ℕ) (ts : List Transaction) → RisesPast low ts → RisesPast low (past received ts) × RisesPast received (past received ts)
past_rises received low [] rises = (tt, tt)
past_rises received low (t ∷ ts) rises =
    let later = past_rises received t.at.0 ts rises.1 in
    let below : low ≤ t.at.0 = omega (arith, rises.0) in
    elim (le_or_lt t.at.0 received) [
      | inl seen ↦ rw (not_past_test received t.at.0 seen) (lower t.at.0 low (past received ts) below later.0, later.1)
      | inr ahead ↦ rw (past_test received t.at.0 ahead) ((rises.0, later.0), (ahead, later.0))
    ]

module _ (publisher : Name) where
  abbrev AreSteps : List Recorded → List Recorded → Type 0
  AreSteps es rs = Steps (IsRunStep publisher) es rs

  -- ---- notes leave the state as it is, and what was received

  note_state : (es : List Recorded) (whose : Name) (what : Note) → state_of publisher (es ++ note whose what ∷ []) ≡ state_of publisher es
  unfolding next
  note_state es whose what = state_from-more (fresh publisher) es (note whose what)

  notes_state : (es : List Recorded) (whose : Name) (notes : List Note) → state_of publisher (es ++ note_entries whose notes) ≡ state_of publisher es
  notes_state es whose [] = ap (state_of publisher) (append-nil es)
  notes_state es whose (what ∷ notes) =
      ap (state_of publisher) (sym (append_assoc es (note whose what ∷ []) (note_entries whose notes)))
      ∙ notes_state (es ++ note whose what ∷ []) whose notes ∙ note_state es whose what

  first_state : (es : List Recorded) (whose : Name) (book : Book) (files : List Filed) → state_of publisher (es ++ first_notes whose book files) ≡ state_of publisher es
  first_state es whose book files =
      let confirmed : List Recorded = note_entries whose (confirms book files) in
      ap (state_of publisher) (sym (append_assoc es confirmed (note_entries whose (asks book files))))
      ∙ notes_state (es ++ confirmed) whose (asks book files) ∙ notes_state es whose (confirms book files)

  -- the first notes take nothing
  first_take_none : (es : List Recorded) (whose : Name) (book : Book) (files : List Filed) → taken_end sees whose (es ++ first_notes whose book files) ≡ taken_end sees whose es
  first_take_none es whose book files =
      let confirmed : List Recorded = note_entries whose (confirms book files) in
      let asked : List Recorded = note_entries whose (asks book files) in
      let none : taken_from sees whose (confirmed ++ asked) ≡ []
      = taken-append sees whose confirmed asked
      ∙ ap (λ (txs : List (ℕ × List Op)). txs ++ taken_from sees whose asked) (notes_take_none whose whose (confirms book files))
      ∙ notes_take_none whose whose (asks book files) in
      let same : taken_from sees whose (es ++ (confirmed ++ asked)) ≡ taken_from sees whose es
      = taken-append sees whose es (confirmed ++ asked) ∙ ap (λ (txs : List (ℕ × List Op)). taken_from sees whose es ++ txs) none ∙ append-nil (taken_from sees whose es) in
      ap (λ (txs : List (ℕ × List Op)). top 0 (offsets txs)) same

  first_received : (es : List Recorded) (whose : Name) (book : Book) (files : List Filed) → (books_of whose (es ++ first_notes whose book files)).log_received ≡ (books_of whose es).log_received
  first_received es whose book files =
      book_received sees whose (es ++ first_notes whose book files) ∙ first_take_none es whose book files ∙ sym (book_received sees whose es)

  -- ---- transactions

  taken_state : (es : List Recorded) (whose : Name) (at : Offset) (dones : List Done) → after_dones dones (state_of publisher es) ≡ state_of publisher (es ++ taken whose at dones ∷ [])
  unfolding next
  taken_state es whose at dones = sym (state_from-more (fresh publisher) es (taken whose at dones))

  -- a pass stands where the history does: by its state, and by what was received; and what is to be taken lies past that
  pub record StandsAt (es : List Recorded) (whose : Name) (s : PassState) : Type 0 where
    pub state : s.state ≡ state_of publisher es
    pub received : s.received ≡ (books_of whose es).log_received
    pub rises : RisesPast s.received s.left

  -- acts add steps, and the pass stands behind them
  pub record ActsOn (es : List Recorded) (whose : Name) (first : PassState) (acts : List ReceiveAct) : Type 0 where
    pub steps : AreSteps es (entries_of whose acts)
    pub stands : StandsAt (es ++ entries_of whose acts) whose (stand_of first acts)

  took_on : (es : List Recorded) (whose : Name) (first : PassState) (earlier : List ReceiveAct) (t : Transaction) (rest : List Transaction) (dones : List Done) → ActsOn es whose first earlier
      → (stand_of first earlier).left ≡ t ∷ rest → AreJudged (stand_of first earlier).state (is_above (stand_of first earlier).state whose) dones → ActsOn es whose first (took t dones ∷ earlier)
  took_on es whose first earlier t rest dones before left_are judged =
      let s : PassState = stand_of first earlier in
      let added : List Recorded = entries_of whose earlier in
      let there : List Recorded = es ++ added in
      let one : List Recorded = taken whose t.at dones ∷ [] in
      let rises : RisesPast s.received (t ∷ rest) = subst (λ (l : List Transaction). RisesPast s.received l) left_are before.stands.rises in
      let joined_are : there ++ one ≡ es ++ (added ++ one) = append_assoc es added one in
      record {
        steps = steps_more (IsRunStep publisher) es added one before.steps (
          (
            subst (λ (x : State). AreJudged x (is_above x whose) dones) before.stands.state judged,
            subst (λ (n : ℕ). n < t.at.0) before.stands.received rises.0,
          ),
          tt,
        );
        stands = record {
          state = ap (after_dones dones) before.stands.state ∙ taken_state there whose t.at dones ∙ ap (state_of publisher) joined_are;
          received = sym (ap (λ (b : Book). b.log_received) (ap (books_of whose) (sym joined_are) ∙ book_taken there whose t.at dones));
          rises = subst (λ (l : List Transaction). RisesPast t.at.0 l) (sym (ap rest_of left_are)) rises.1;
        };
      }

  pub acts_on : (es : List Recorded) (whose : Name) (message_files : List MessageFile) (first : PassState) (acts : List ReceiveAct) → StandsAt es whose first → AreActs publisher whose message_files first acts
      → ActsOn es whose first acts
  acts_on es whose message_files first [] stands are = record { steps = tt; stands = subst (λ (l : List Recorded). StandsAt l whose first) (sym (append-nil es)) stands }
  acts_on es whose message_files first (dropped w pairs piece found ∷ earlier) stands are =
      let before = acts_on es whose message_files first earlier stands are.0 in
      record { steps = before.steps; stands = record { state = before.stands.state; received = before.stands.received; rises = before.stands.rises } }
  acts_on es whose message_files first (torn w pairs ∷ earlier) stands are =
      let before = acts_on es whose message_files first earlier stands are.0 in
      record { steps = before.steps; stands = record { state = before.stands.state; received = before.stands.received; rises = before.stands.rises } }
  acts_on es whose message_files first (begun w pairs txs ∷ earlier) stands are =
      let before = acts_on es whose message_files first earlier stands are.0 in
      record {
        steps = before.steps;
        stands = record {
          state = before.stands.state;
          received = before.stands.received;
          rises = (past_rises (stand_of first earlier).received w.prev txs are.1.1.spell.0.past).1;
        };
      }
  acts_on es whose message_files first (took t dones ∷ earlier) stands are =
      took_on es whose first earlier t are.1.rest dones (acts_on es whose message_files first earlier stands are.0) are.1.left_are are.1.done.judged

  -- where a pass begins, behind the notes that come first
  pub begins_at : (es : List Recorded) (whose : Name) (files : List Filed) → StandsAt (es ++ first_notes whose (books_of whose es) files) whose (beginning publisher es whose)
  begins_at es whose files = record {
    state = sym (first_state es whose (books_of whose es) files);
    received = sym (first_received es whose (books_of whose es) files);
    rises = tt;
  }
