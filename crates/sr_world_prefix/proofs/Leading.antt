-- What a pass takes of a partner's windows: what comes next of what his history gives, transaction by transaction.
use Rattle.std.proofs.Common.{◌≡◌, ℕ, ◌≤◌, List, [], ◌∷◌, ◌++◌, map, bytes_eq, false, refl, sym, ap, subst, ◌∙◌, inl, inr, append_assoc, append-nil}
use Rattle.std.specs.List.{AllByRecursion}
use Rattle.sr_book.specs.Entries.{Name}
use Rattle.sr_book.specs.Histories.{taken as taken_from, taken_end}
use Rattle.sr_book.specs.Rising.{Rises, top, offsets}
use Rattle.sr_book.proofs.Folds.{name_test}
use Rattle.sr_book.proofs.Offsets.{top-append, offsets-append}
use Rattle.sr_database_history.specs.Fitting.{Stored}
use Rattle.sr_database_history.specs.Folds.{sees}
use Rattle.sr_database_history.specs.Recorded.{Done}
use Rattle.sr_database_history.specs.Recorded.{Recorded, taken}
use Rattle.sr_logform.specs.declared.op.Op.{Op}
use Rattle.sr_logform.specs.declared.op.Transaction.{Transaction}
use Rattle.sr_world_model.specs.Windows.{past, window}
use Rattle.sr_world_model.proofs.Offsets.{le_or_lt, not_past_test, past_test}
use Rattle.sr_receive.specs.Acts.{ReceiveAct, dropped, torn, begun, took, PassState, stand_of, AreActs, IsNextTaken, entries_of, rest_of}
use Rattle.sr_receive_gather.specs.MessageFiles.{MessageFile}
use Rattle.sr_receive_gather.specs.Windows.{past as past_of}
use Rattle.sr_world.specs.Real.{transaction_at, layers}
use Rattle.sr_world_prefix.proofs.Along.{Along, along_last, along_more}
use Rattle.sr_world_prefix.proofs.Bodies.{IsTruePair, given_in, read_given}
use Rattle.sr_world_prefix.proofs.Fetched.{IsSoOfAct}
use Rattle.sr_world_prefix.proofs.Spelled.{given_rises, past_in}
use Rattle.sr_world_prefix.proofs.Taking.{IsOn, ops_of, other_on, take_on, taken_one}

-- what is behind and before a pass: this was taken of what is given, and this is to be taken next
record IsAhead (given done : List (ℕ × List Op)) (left : List Transaction) (received : ℕ) : Type 0 where
  next : List (ℕ × List Op)
  rest : List (ℕ × List Op)
  split : given ≡ done ++ (next ++ rest)
  left_are : left ≡ map transaction_at next
  received_is : received ≡ top 0 (offsets done)

past_at : (r : ℕ) (txs : List (ℕ × List Op)) → past_of r (map transaction_at txs) ≡ map transaction_at (past r txs)
past_at r [] = refl
past_at r (tx ∷ txs) = elim (le_or_lt tx.0 r) [
  | inl seen ↦ rw (not_past_test r tx.0 seen) (past_at r txs)
  | inr ahead ↦ rw (past_test r tx.0 ahead) (ap (λ (l : List Transaction). transaction_at tx ∷ l) (past_at r txs))
]

-- a window is begun that has what is given there
ahead_begun : (given done : List (ℕ × List Op)) (left txs : List Transaction) (received prev upto : ℕ) → Rises 0 (offsets given) → IsAhead given done left received → prev ≤ received
    → txs ≡ map transaction_at (window prev upto given) → IsAhead given done (past_of received txs) received
ahead_begun given done left txs received prev upto rises a reached is =
    let behind : List (ℕ × List Op) = a.next ++ a.rest in
    let end : ℕ = top 0 (offsets done) in
    let both : Rises 0 (offsets (done ++ behind)) = subst (λ (l : List (ℕ × List Op)). Rises 0 (offsets l)) a.split rises in
    let found = past_in done behind prev upto both (subst (λ (n : ℕ). prev ≤ n) a.received_is reached) in
    record {
      next = past end (window prev upto (done ++ behind));
      rest = found.0;
      split = a.split ∙ ap (λ (l : List (ℕ × List Op)). done ++ l) found.1;
      left_are =
          ap (λ (n : ℕ). past_of n txs) a.received_is ∙ ap (past_of end) is ∙ past_at end (window prev upto given)
          ∙ ap (λ (l : List (ℕ × List Op)). map transaction_at (past end (window prev upto l))) a.split;
      received_is = a.received_is;
    }

-- the first of what is to be taken
record IsFirst (next : List (ℕ × List Op)) (t : Transaction) (rest : List Transaction) : Type 0 where
  more : List (ℕ × List Op)
  next_is : next ≡ (t.at.0, t.ops) ∷ more
  rest_is : rest ≡ map transaction_at more

first_of : (next : List (ℕ × List Op)) (t : Transaction) (rest : List Transaction) → map transaction_at next ≡ t ∷ rest → IsFirst next t rest
first_of [] t rest e = let no : [] ≡ t ∷ rest = e in absurd (cc)
first_of (tx ∷ more) t rest e =
    let cons : transaction_at tx ∷ map transaction_at more ≡ t ∷ rest = e in
    let first : transaction_at tx ≡ t = cc in
    let others : map transaction_at more ≡ rest = cc in
    let same : tx ≡ (t.at.0, t.ops) = ap (λ (x : Transaction). (x.at.0, x.ops)) first in
    record { more = more; next_is = ap (λ (x : ℕ × List Op). x ∷ more) same; rest_is = sym others }

-- and it is taken
record IsBehind (given done : List (ℕ × List Op)) (at : ℕ) (ops : List Op) (left : List Transaction) : Type 0 where
  more : List (ℕ × List Op)
  next : given ≡ done ++ (at, ops) ∷ more
  ahead : IsAhead given (done ++ (at, ops) ∷ []) (rest_of left) at

ahead_taken : (given done : List (ℕ × List Op)) (user : Name) (s : PassState) (t : Transaction) (dones : List Done) → IsAhead given done s.left s.received → IsNextTaken user s t dones
    → IsBehind given done t.at.0 (ops_of dones) s.left
ahead_taken given done user s t dones a n =
    let first = first_of a.next t n.rest (sym a.left_are ∙ n.left_are) in
    let tx : ℕ × List Op = (t.at.0, ops_of dones) in
    let same : (t.at.0, t.ops) ≡ tx = ap (λ (ops : List Op). (t.at.0, ops)) (sym n.done.ops_are) in
    let next_is : a.next ≡ tx ∷ first.more = first.next_is ∙ ap (λ (x : ℕ × List Op). x ∷ first.more) same in
    let split : given ≡ done ++ tx ∷ (first.more ++ a.rest) = a.split ∙ ap (λ (l : List (ℕ × List Op)). done ++ (l ++ a.rest)) next_is in
    record {
      more = first.more ++ a.rest;
      next = split;
      ahead = record {
        next = first.more;
        rest = a.rest;
        split = split ∙ sym (append_assoc done (tx ∷ []) (first.more ++ a.rest));
        left_are = ap rest_of n.left_are ∙ first.rest_is;
        received_is = sym (ap (top 0) (offsets-append done (tx ∷ [])) ∙ top-append 0 (offsets done) (t.at.0 ∷ []));
      };
    }

module _ (publisher user : Name) (us : List Recorded) where
  -- the messages of the windows that were begun are true
  abbrev pub IsTrueAct : ReceiveAct → Type 0
  IsTrueAct act = IsSoOfAct (IsTruePair publisher user us) act

  -- each history on the way is in step
  record Leads (es new : List Recorded) (left : List Transaction) (received : ℕ) : Type 0 where
    along : Along (IsOn publisher user us) es new
    ahead : IsAhead (layers.given user publisher us) (taken_from sees user (es ++ new)) left received

  leads_start : (es : List Recorded) (left : List Transaction) (received : ℕ) → IsOn publisher user us es → left ≡ [] → received ≡ taken_end sees user es → Leads es [] left received
  leads_start es left received on idle received_is = record {
    along = on;
    ahead = record {
      next = [];
      rest = on.rest;
      split = on.taken_first ∙ ap (λ (rs : List Recorded). taken_from sees user rs ++ on.rest) (sym (append-nil es));
      left_are = idle;
      received_is = received_is ∙ ap (λ (rs : List Recorded). taken_end sees user rs) (sym (append-nil es));
    };
  }

  leads_taken : (es new : List Recorded) (s : PassState) (t : Transaction) (dones : List Done) → Leads es new s.left s.received → IsNextTaken user s t dones
      → Leads es (new ++ taken user t.at dones ∷ []) (rest_of s.left) t.at.0
  leads_taken es new s t dones before n =
      let r : Recorded = taken user t.at dones in
      let behind = ahead_taken (layers.given user publisher us) (taken_from sees user (es ++ new)) user s t dones before.ahead n in
      let last : IsOn publisher user us (es ++ new) = along_last (IsOn publisher user us) es new before.along in
      let done : taken_from sees user (es ++ (new ++ r ∷ [])) ≡ taken_from sees user (es ++ new) ++ (t.at.0, ops_of dones) ∷ []
      = ap (taken_from sees user) (sym (append_assoc es new (r ∷ []))) ∙ taken_one publisher user us (es ++ new) t.at dones in
      record {
        along = along_more (IsOn publisher user us) es new (r ∷ []) before.along (last, take_on publisher user us (es ++ new) t.at dones behind.more last behind.next);
        ahead = subst (λ (l : List (ℕ × List Op)). IsAhead (layers.given user publisher us) l (rest_of s.left) t.at.0) (sym done) behind.ahead;
      }

  own_acts : (es : List Recorded) (message_files : List MessageFile) (first : PassState) (acts : List ReceiveAct) → Stored user us → IsOn publisher user us es → first.left ≡ [] → first.received ≡ taken_end sees user es
      → AreActs publisher user message_files first acts → AllByRecursion IsTrueAct acts → Leads es (entries_of user acts) (stand_of first acts).left (stand_of first acts).received
  own_acts es message_files first [] stored on idle received_is are hold = leads_start es first.left first.received on idle received_is
  own_acts es message_files first (dropped w pairs piece found ∷ earlier) stored on idle received_is are hold =
      own_acts es message_files first earlier stored on idle received_is are.0 hold.1
  own_acts es message_files first (torn w pairs ∷ earlier) stored on idle received_is are hold =
      own_acts es message_files first earlier stored on idle received_is are.0 hold.1
  own_acts es message_files first (begun w pairs txs ∷ earlier) stored on idle received_is are hold =
      let before = own_acts es message_files first earlier stored on idle received_is are.0 hold.1 in
      let s : PassState = stand_of first earlier in
      let is : txs ≡ map transaction_at (given_in publisher user us w.prev w.upto) = read_given publisher user us message_files s w pairs txs stored are.1.0 are.1.1 hold.0 in
      record {
        along = before.along;
        ahead = ahead_begun (layers.given user publisher us) (taken_from sees user (es ++ entries_of user earlier)) s.left txs s.received w.prev w.upto (given_rises user publisher us)
            before.ahead are.1.0.due.leads.begins is;
      }
  own_acts es message_files first (took t dones ∷ earlier) stored on idle received_is are hold =
      leads_taken es (entries_of user earlier) (stand_of first earlier) t dones (own_acts es message_files first earlier stored on idle received_is are.0 hold.1) are.1

  other_acts : (es : List Recorded) (whose : Name) (acts : List ReceiveAct) → bytes_eq user whose ≡ false → IsOn publisher user us es → Along (IsOn publisher user us) es (entries_of whose acts)
  other_acts es whose [] differ on = on
  other_acts es whose (dropped w pairs piece found ∷ earlier) differ on = other_acts es whose earlier differ on
  other_acts es whose (torn w pairs ∷ earlier) differ on = other_acts es whose earlier differ on
  other_acts es whose (begun w pairs txs ∷ earlier) differ on = other_acts es whose earlier differ on
  other_acts es whose (took t dones ∷ earlier) differ on =
      let before = other_acts es whose earlier differ on in
      let last : IsOn publisher user us (es ++ entries_of whose earlier) = along_last (IsOn publisher user us) es (entries_of whose earlier) before in
      along_more (IsOn publisher user us) es (entries_of whose earlier) (taken whose t.at dones ∷ []) before
      (last, other_on publisher user us (es ++ entries_of whose earlier) whose t.at dones differ last)

  -- what acts on some user's windows add to the history
  pub acts_on : (es : List Recorded) (whose : Name) (message_files : List MessageFile) (first : PassState) (acts : List ReceiveAct) → Stored user us → IsOn publisher user us es → first.left ≡ []
      → (user ≡ whose → first.received ≡ taken_end sees user es) → AreActs publisher whose message_files first acts → AllByRecursion IsTrueAct acts
      → Along (IsOn publisher user us) es (entries_of whose acts)
  acts_on es whose message_files first acts stored on idle received_is are hold = elim (name_test user whose) [
    | inl same ↦
        let own : AreActs publisher user message_files first acts = subst (λ (n : Name). AreActs publisher n message_files first acts) (sym same.1) are in
        subst (λ (n : Name). Along (IsOn publisher user us) es (entries_of n acts)) same.1
        (own_acts es message_files first acts stored on idle (received_is same.1) own hold).along
    | inr differ ↦ other_acts es whose acts differ on
  ]
