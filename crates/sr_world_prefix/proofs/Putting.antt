-- Messages that a run puts, and the histories that stand behind them: behind the first put nothing is committed but notes, which take nothing and give
-- nothing.
use Rattle.std.proofs.Common.{◌≡◌, ℕ, ◌+◌, List, [], ◌∷◌, ◌++◌, map, refl, sym, ap, subst, ◌∙◌, append_assoc, append-nil, le_refl}
use Rattle.std.specs.Prelude.{Bool, ◌≤◌, length}
use Rattle.std.specs.List.{AllByRecursion}
use Rattle.sr_base.specs.Values.{offset_from}
use Rattle.sr_base.specs.declared.offset.Offset.{Offset}
use Rattle.sr_book.specs.Entries.{Name}
use Rattle.sr_book.specs.Histories.{taken as taken_from, taken_end}
use Rattle.sr_book.specs.Rising.{top, offsets}
use Rattle.sr_book.specs.declared.book.Book.{Book}
use Rattle.sr_book.specs.declared.note.Note.{Note}
use Rattle.sr_book.specs.declared.note.Note.TheVariants.{Sent}
use Rattle.sr_book.proofs.Folds.{book_received, taken_more}
use Rattle.sr_mail_cut.specs.Truths.{IsTrueOf}
use Rattle.sr_mail_cut.proofs.Lists.{AllByRecursion-append, AllByRecursion-map}
use Rattle.sr_database_history.specs.Folds.{books_of, sees}
use Rattle.sr_database_history.specs.Recorded.{Recorded, note}
use Rattle.sr_logform.specs.declared.op.Op.{Op}
use Rattle.sr_msgform.specs.Messages.{IsMessage}
use Rattle.sr_msgform.specs.declared.message.Message.{Message}
use Rattle.sr_scan.specs.Given.{gives, given_of}
use Rattle.sr_scan.proofs.Growing.{one_more}
use Rattle.sr_send.specs.PutFiles.{put_files, noted_put_files, sent_note}
use Rattle.sr_send.specs.Passes.{AreAll, sent_end}
use Rattle.sr_send.specs.TrueSentMessages.{all_given}
use Rattle.sr_send.specs.Inner.TrueSentMessages.{IsTrueSentMessage}
use Rattle.sr_send.specs.Unsent.{as_transaction}
use Rattle.sr_send.proofs.TrueSentMessages.{all_true}
use Rattle.sr_database_meaning.specs.Events.{Event, commit, put, commits, PutFile, puts}
use Rattle.sr_agent.specs.Deliveries.{AreBased, AreDeliveries, Delivery, after_deliveries, deliveries_events, delivery_events, folder_of}
use Rattle.sr_world_prefix.specs.Puts.{AreFilesOf, IsFileOf}
use Rattle.sr_world_prefix.specs.Truths.{IsTrueInPart}
use Rattle.sr_world_prefix.proofs.Along.{Steps, along_last, steps_along}
use Rattle.sr_world_prefix.proofs.Kept.{KeepsSent, same_waiting, sent_more}
use Rattle.sr_world_prefix.proofs.RunSteps.{deliveries_steps}
use Rattle.sr_world_prefix.proofs.Steps.{IsRunStep}

-- ---- a note changes nothing of what is true

pub given_noted : (publisher user : Name) (es : List Recorded) (whose : Name) (what : Note) → given_of publisher (es ++ note whose what ∷ []) user ≡ given_of publisher es user
unfolding gives
given_noted publisher user es whose what = one_more publisher user es (note whose what) ∙ append-nil (given_of publisher es user)

pub taken_noted : (user : Name) (es : List Recorded) (whose : Name) (what : Note) → taken_end sees user (es ++ note whose what ∷ []) ≡ taken_end sees user es
taken_noted user es whose what = ap (λ (txs : List (ℕ × List Op)). top 0 (offsets txs)) (taken_more sees user es (note whose what) ∙ append-nil (taken_from sees user es))

part_noted : (publisher : Name) (es : List Recorded) (whose : Name) (what : Note) (m : Message) → IsTrueInPart publisher es m → IsTrueInPart publisher (es ++ note whose what ∷ []) m
part_noted publisher es whose what m t = record {
  sent_by = t.sent_by;
  carries = subst (λ (txs : List (ℕ × List Op)). IsTrueOf (map as_transaction txs) m) (sym (given_noted publisher m.to es whose what)) t.carries;
  confirms = subst (λ (n : ℕ). m.confirm.0 ≤ n) (sym (taken_noted m.to es whose what)) t.confirms;
}

-- ---- what is kept stays so along a run

pub sent_along : (publisher : Name) (base : ℕ) (es rs : List Recorded) → KeepsSent publisher base es → Steps (IsRunStep publisher) es rs → KeepsSent publisher base (es ++ rs)
sent_along publisher base es rs keeps steps =
    along_last (KeepsSent publisher base) es rs (steps_along (IsRunStep publisher) (KeepsSent publisher base) (sent_more publisher base) es rs keeps steps)

-- ---- what holds of messages by a history

-- on a history that is fine it holds of all that a pass says, where the log begins at a base; it goes on to hold behind a note of what was sent; and the steps of a run leave a history fine
pub record Truth (base : ℕ) (publisher : Name) (Holds : List Recorded → Message → Type 0) (Fine : List Recorded → Type 0) : Type 0 where
  pub said : (es : List Recorded) (whose : Name) (ask : Bool) (limit : ℕ) (messages : List Message) → Fine es → AreAll base publisher es whose (books_of whose es) ask limit messages
      → AllByRecursion (Holds es) messages
  pub noted : (es : List Recorded) (whose : Name) (end : Offset) (count : ℕ) (confirm : Offset) (m : Message) → Holds es m → Holds (es ++ note whose (Sent end count confirm) ∷ []) m
  pub stepped : (es rs : List Recorded) → Fine es → Steps (IsRunStep publisher) es rs → Fine (es ++ rs)

-- ---- along a trace, behind what was put before

module _ (Holds : List Recorded → Message → Type 0) where
  -- it holds of all that was put
  abbrev pub AreSo : List Recorded → List PutFile → Type 0
  AreSo es done = AreFilesOf (Holds es) done

  -- so it is at each moment of the trace
  abbrev pub Backs : List Recorded → List PutFile → List Event → Type 0
  Backs es done [] = AreSo es done
  Backs es done (commit r ∷ events) = AreSo es done × Backs (es ++ r ∷ []) done events
  Backs es done (put address name bytes ∷ events) = AreSo es done × Backs es (done ++ (address, name, bytes) ∷ []) events

  pub backs_first : (es : List Recorded) (done : List PutFile) (events : List Event) → Backs es done events → AreSo es done
  backs_first es done [] backs = backs
  backs_first es done (commit r ∷ events) backs = backs.0
  backs_first es done (put address name bytes ∷ events) backs = backs.0

  pub backs_last : (es : List Recorded) (done : List PutFile) (events : List Event) → Backs es done events → AreSo (es ++ commits events) (done ++ puts events)
  backs_last es done [] backs =
      subst (λ (rs : List Recorded). AreSo rs (done ++ [])) (sym (append-nil es)) (subst (λ (ls : List PutFile). AreSo es ls) (sym (append-nil done)) backs)
  backs_last es done (commit r ∷ events) backs =
      subst (λ (rs : List Recorded). AreSo rs (done ++ puts events)) (append_assoc es (r ∷ []) (commits events)) (backs_last (es ++ r ∷ []) done events backs.1)
  backs_last es done (put address name bytes ∷ events) backs =
      subst (λ (ls : List PutFile). AreSo (es ++ commits events) ls) (append_assoc done ((address, name, bytes) ∷ []) (puts events))
      (backs_last es (done ++ (address, name, bytes) ∷ []) events backs.1)

  pub backs_prefix : (es : List Recorded) (done : List PutFile) (prefix back : List Event) → Backs es done (prefix ++ back) → Backs es done prefix
  backs_prefix es done [] back backs = backs_first es done back backs
  backs_prefix es done (commit r ∷ prefix) back backs = (backs.0, backs_prefix (es ++ r ∷ []) done prefix back backs.1)
  backs_prefix es done (put address name bytes ∷ prefix) back backs = (backs.0, backs_prefix es (done ++ (address, name, bytes) ∷ []) prefix back backs.1)

  pub backs_more : (es : List Recorded) (done : List PutFile) (prefix back : List Event) → Backs es done prefix → Backs (es ++ commits prefix) (done ++ puts prefix) back → Backs es done (prefix ++ back)
  backs_more es done [] back one two =
      subst (λ (rs : List Recorded). Backs rs done back) (append-nil es) (subst (λ (ls : List PutFile). Backs (es ++ []) ls back) (append-nil done) two)
  backs_more es done (commit r ∷ prefix) back one two = (
    one.0,
    backs_more (es ++ r ∷ []) done prefix back one.1
        (subst (λ (rs : List Recorded). Backs rs (done ++ puts prefix) back) (sym (append_assoc es (r ∷ []) (commits prefix))) two),
  )
  backs_more es done (put address name bytes ∷ prefix) back one two = (
    one.0,
    backs_more es (done ++ (address, name, bytes) ∷ []) prefix back one.1
        (subst (λ (ls : List PutFile). Backs (es ++ commits prefix) ls back) (sym (append_assoc done ((address, name, bytes) ∷ []) (puts prefix))) two),
  )

  -- ---- nothing was put

  pub backs_commits : (es rs : List Recorded) → Backs es [] (map commit rs)
  backs_commits es [] = tt
  backs_commits es (r ∷ rs) = (tt, backs_commits (es ++ r ∷ []) rs)

-- ---- what is sent

module _ (base : ℕ) (publisher : Name) (Holds : List Recorded → Message → Type 0) (Fine : List Recorded → Type 0) (truth : Truth base publisher Holds Fine) where
  file_noted : (es : List Recorded) (whose : Name) (end : Offset) (count : ℕ) (confirm : Offset) (bytes : List ℕ) → IsFileOf (Holds es) bytes → IsFileOf (Holds (es ++ note whose (Sent end count confirm) ∷ [])) bytes
  file_noted es whose end count confirm bytes t =
      record { message = t.message; is_message = t.is_message; bytes_are = t.bytes_are; is = truth.noted es whose end count confirm t.message t.is }

  all_noted : (es : List Recorded) (whose : Name) (end : Offset) (count : ℕ) (confirm : Offset) (done : List PutFile) → AreSo Holds es done → AreSo Holds (es ++ note whose (Sent end count confirm) ∷ []) done
  all_noted es whose end count confirm done are =
      AllByRecursion-map (λ (l : PutFile). IsFileOf (Holds es) l.2) (λ (l : PutFile). IsFileOf (Holds (es ++ note whose (Sent end count confirm) ∷ [])) l.2) done
      (λ l t. file_noted es whose end count confirm l.2 t) are

  -- ---- to one partner

  pub backs_put_files : (es : List Recorded) (done : List PutFile) (address : Name) (count : ℕ) (messages : List Message) → AreSo Holds es done → AllByRecursion (Holds es) messages
      → AllByRecursion IsMessage messages → Backs Holds es done (put_files address count messages)
  backs_put_files es done address count [] are hold spelled = are
  backs_put_files es done address count (m ∷ messages) are hold spelled = (
    are,
    backs_put_files es (done ++ (address, _, _) ∷ []) address (count + 1) messages
        (AllByRecursion-append (λ (l : PutFile). IsFileOf (Holds es) l.2) done ((address, _, _) ∷ []) are (record { message = m; is_message = spelled.0; bytes_are = refl; is = hold.0 }, tt)) hold.1 spelled.1,
  )

  pub backs_note : (es : List Recorded) (done : List PutFile) (whose : Name) (end : Offset) (count : ℕ) (confirm : Offset) → AreSo Holds es done
      → Backs Holds es done (commit (note whose (Sent end count confirm)) ∷ [])
  backs_note es done whose end count confirm are = (are, all_noted es whose end count confirm done are)

  noted_back : (es : List Recorded) (done : List PutFile) (address whose : Name) (book : Book) (end : Offset) (messages : List Message) → AreSo Holds es done
      → AllByRecursion (Holds es) messages → AllByRecursion IsMessage messages → Backs Holds es done (noted_put_files address whose book end messages)
  noted_back es done address whose book end [] are hold spelled = are
  noted_back es done address whose book end (m ∷ messages) are hold spelled =
      let files : List Event = put_files address book.send_count (m ∷ messages) in
      let prefix : Backs Holds es done files = backs_put_files es done address book.send_count (m ∷ messages) are hold spelled in
      let last : AreSo Holds (es ++ commits files) (done ++ puts files) = backs_last Holds es done files prefix in
      backs_more Holds es done files (commit (sent_note whose book end (length (m ∷ messages))) ∷ []) prefix
      (backs_note (es ++ commits files) (done ++ puts files) whose end (length (m ∷ messages)) (offset_from book.log_received) last)

  -- ---- to all

  pub deliveries_back : (es : List Recorded) (limit : ℕ) (deliveries : List Delivery) → Fine es → AreBased base deliveries → AreDeliveries publisher es limit deliveries → Backs Holds es [] (deliveries_events publisher es deliveries)
  deliveries_back es limit [] fine based are = tt
  deliveries_back es limit (d ∷ earlier) fine based are =
      let added : List Event = deliveries_events publisher es earlier in
      let there : List Recorded = after_deliveries publisher es earlier in
      let whose : Name = d.partner.user in
      let first = deliveries_back es limit earlier fine based.0 are.0 in
      let all : AreAll base publisher there whose (books_of whose there) d.partner.ask limit d.messages
      = subst (λ (n : ℕ). AreAll n publisher there whose (books_of whose there) d.partner.ask limit d.messages) based.1 are.1.are in
      let fine_there : Fine there = truth.stepped es (commits added) fine (deliveries_steps publisher es earlier) in
      backs_more Holds es [] added (delivery_events publisher there d) first
      (noted_back there (puts added) (folder_of publisher there whose) whose (books_of whose there) (sent_end d.base publisher there whose (books_of whose there)) d.messages
      (backs_last Holds es [] added first) (truth.said there whose d.partner.ask limit d.messages fine_there all) are.1.spelled)

-- ---- what is true in part

module _ (base : ℕ) (publisher : Name) where
  true_put_files : (es : List Recorded) (whose : Name) (ask : Bool) (messages : List Message) → AllByRecursion (IsTrueSentMessage publisher es whose (books_of whose es) ask) messages
      → AllByRecursion (IsTrueInPart publisher es) messages
  true_put_files es whose ask [] hold = tt
  true_put_files es whose ask (m ∷ messages) hold = (
    record {
      sent_by = hold.0.from_is;
      carries = subst (λ (n : Name). IsTrueOf (all_given publisher es n) m) (sym hold.0.to_is) hold.0.carries;
      confirms =
          subst (λ (n : Name). m.confirm.0 ≤ taken_end sees n es) (sym hold.0.to_is)
          (subst (λ (n : ℕ). m.confirm.0 ≤ n) (hold.0.confirms ∙ book_received sees whose es) (le_refl m.confirm.0));
    },
    true_put_files es whose ask messages hold.1,
  )

  all_put_files : (es : List Recorded) (whose : Name) (ask : Bool) (limit : ℕ) (messages : List Message) → KeepsSent publisher base es → AreAll base publisher es whose (books_of whose es) ask limit messages
      → AllByRecursion (IsTrueInPart publisher es) messages
  all_put_files es whose ask limit messages keeps are =
      true_put_files es whose ask messages (all_true base publisher es whose (books_of whose es) ask limit messages (same_waiting publisher base es whose keeps) are)

  -- on histories of which the log keeps what was not sent
  pub part_truth : Truth base publisher (IsTrueInPart publisher) (KeepsSent publisher base)
  part_truth = record {
    said = λ es whose ask limit messages fine are. all_put_files es whose ask limit messages fine are;
    noted = λ es whose end count confirm m t. part_noted publisher es whose (Sent end count confirm) m t;
    stepped = λ es rs fine steps. sent_along publisher base es rs fine steps;
  }
