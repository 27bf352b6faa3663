-- Takes that a world allows, by what is shown of it.
use Rattle.std.proofs.Common.{◌≡◌, ℕ, ◌<◌, ◌≤◌, true, false, List, [], ◌∷◌, ◌++◌, map, Some, None, inl, inr, refl, sym, ap, subst, ◌∙◌, arith, le_refl}
use Rattle.std.proofs.lemmas.List.Elements.{filter-append}
use Rattle.sr_base.specs.Values.{offset_from}
use Rattle.sr_book.specs.Entries.{Name, from_user}
use Rattle.sr_book.specs.Histories.{book_of, taken, taken_end}
use Rattle.sr_book.specs.Rising.{Rises, offsets, top}
use Rattle.sr_book.proofs.Folds.{book_received, name_test}
use Rattle.sr_book.proofs.Offsets.{le-top, offsets-append, Rises-back, Rises-prefix, top-append}
use Rattle.sr_database_history.specs.Folds.{sees, end_of}
use Rattle.sr_database_history.specs.Recorded.{Recorded}
use Rattle.sr_logform.specs.declared.entry.Entry.{Entry}
use Rattle.sr_logform.specs.declared.op.Op.{Op}
use Rattle.sr_logform.specs.declared.op.Transaction.{Transaction}
use Rattle.sr_msgform.specs.declared.message.Message.{Message}
use Rattle.sr_scan.specs.Given.{given_of}
use Rattle.sr_world.specs.Inner.Real.{IsStep}
use Rattle.sr_world.specs.Real.{layers, HasSpelling, IsGoodWorld, LawfulHistory}
use Rattle.sr_world.proofs.Keeping.{end_same, given_same, real_laws}
use Rattle.sr_world_model.specs.Layers.{end_of as end_in_world}
use Rattle.sr_world_model.specs.Steps.{append, CanAppend, CanTake}
use Rattle.sr_world_model.specs.Windows.{window}
use Rattle.sr_world_model.specs.Worlds.{World, history, history_in}
use Rattle.sr_world_model.proofs.Bodies.{whole_taken}
use Rattle.sr_world_model.proofs.Longer.{given_in}
use Rattle.sr_world_model.proofs.Offsets.{window_below, within_test}
use Rattle.sr_world_model.proofs.Sound.{AreGood, take_sound}
use Rattle.sr_world_steps.specs.declared.step.WorldStep.TheVariants as asked
use Rattle.sr_world_steps.specs.Inner.Acts.{by}
use Rattle.sr_world_steps.specs.Inner.Due.{IsDue, IsFoundIn, IsMadeIn, IsTookIn}
use Rattle.sr_world_steps.specs.Inner.Leading.{IsNext}
use Rattle.sr_world_steps.specs.Inner.Past.{SomePast}
use Rattle.sr_world_steps.specs.Inner.Places.{Log, NoneIs, StandsAt, with_entry}
use Rattle.sr_world_steps.specs.Inner.Scanned.{in_window, transaction_in}
use Rattle.sr_world_steps.specs.Inner.Shown.{Shown, IsShown, logged}
use Rattle.sr_world_steps.specs.Inner.Taking.{TakeEnds, TakesFirst}
use Rattle.sr_world_steps.proofs.Chained.{all_next, next_all}
use Rattle.sr_world_steps.proofs.Deciding.{entry_made, is_allowed, its_lawful, not_there, some_due}
use Rattle.sr_world_steps.proofs.Stepping.{log_of}

-- ---- the first transaction past what was taken

first_at : (t end : ℕ) (x : ℕ × List Op) (more : List (ℕ × List Op)) → t < x.0 → x.0 ≤ end → window t end (x ∷ more) ≡ x ∷ window t end more
first_at t end x more ahead inside = rw (within_test t end x.0 ahead inside) refl

-- behind what was done the first of the others lies in a window that ends no earlier than all of them
first_in : (done more : List (ℕ × List Op)) (x : ℕ × List Op) (end : ℕ) → Rises 0 (offsets (done ++ x ∷ more)) → top 0 (offsets (done ++ x ∷ more)) ≤ end
    → window (top 0 (offsets done)) end (done ++ x ∷ more) ≡ x ∷ window (top 0 (offsets done)) end more
first_in done more x end rises within =
    let t : ℕ = top 0 (offsets done) in
    let split : offsets (done ++ x ∷ more) ≡ offsets done ++ offsets (x ∷ more) = offsets-append done (x ∷ more) in
    let all : Rises 0 (offsets done ++ offsets (x ∷ more)) = subst (Rises 0) split rises in
    let back : Rises t (offsets (x ∷ more)) = Rises-back 0 (offsets done) (offsets (x ∷ more)) all in
    let none : window t end done ≡ [] = window_below t end 0 done (Rises-prefix 0 (offsets done) (offsets (x ∷ more)) all) (le_refl t) in
    let last : x.0 ≤ top x.0 (offsets more) = le-top x.0 (offsets more) back.1 in
    let ends : top 0 (offsets (done ++ x ∷ more)) ≡ top x.0 (offsets more) = ap (top 0) split ∙ top-append 0 (offsets done) (offsets (x ∷ more)) in
    let inside : x.0 ≤ end = omega (arith, last, ends, within) in
    let joined : window t end (done ++ x ∷ more) ≡ window t end done ++ window t end (x ∷ more) = filter-append _ done (x ∷ more) in
    let first : window t end (x ∷ more) ≡ x ∷ window t end more = first_at t end x more back.0 inside in
    joined ∙ ap (λ (txs : List (ℕ × List Op)). txs ++ window t end (x ∷ more)) none ∙ first

good_of : (w : World Recorded) → IsGoodWorld w → AreGood layers LawfulHistory (history w) w.messages
good_of w good = record { are_lawful = good.are_lawful; in_step = good.in_step; books = good.books; are_true = good.messages }

-- what may be taken of a user is the first that he gives past it
take_first : (w : World Recorded) (d user : Name) (place : ℕ) (ops : List Op) → IsGoodWorld w → CanTake layers HasSpelling w.messages d (history w d) user place ops
    → (rest : List Transaction)
    × (in_window (book_of sees user (history w d)).log_received (end_of (history w user)) (given_of user (history w user) d) ≡ transaction_in (place, ops) ∷ rest)
take_first w d user place ops good can =
    let rs : List Recorded = history w d in
    let us : List Recorded = history w user in
    let t : ℕ = taken_end layers.sees user rs in
    let e : ℕ = end_in_world layers us in
    let sound = take_sound layers HasSpelling LawfulHistory real_laws (history w) w.messages (good_of w good) d user place ops can in
    let all : layers.given user d us ≡ taken layers.sees user rs ++ (place, ops) ∷ sound.0 = sound.1 in
    let gives = given_in layers HasSpelling LawfulHistory real_laws user d us in
    let first : window t e (taken layers.sees user rs ++ (place, ops) ∷ sound.0) ≡ (place, ops) ∷ window t e sound.0 =
    first_in (taken layers.sees user rs) sound.0 (place, ops) e (subst (λ (g : List (ℕ × List Op)). Rises 0 (offsets g)) all gives.0)
    (subst (λ (g : List (ℕ × List Op)). top 0 (offsets g) ≤ e) all gives.1) in
    let shown : in_window t e (layers.given user d us) ≡ transaction_in (place, ops) ∷ in_window t e sound.0 =
    ap (map transaction_in) (ap (window t e) all ∙ first) in
    let received : (book_of layers.sees user rs).log_received ≡ t = book_received layers.sees user rs in (
      in_window t e sound.0,
      ap (λ (n : ℕ). in_window n (end_of us) (given_of user us d)) received
          ∙ ap (λ (n : ℕ). in_window t n (given_of user us d)) (sym (end_same us))
          ∙ ap (in_window t e) (sym (given_same user d us))
          ∙ shown,
    )

-- where a transaction may be taken, a whole window goes on past what was
some_past : (messages : List Message) (d user : Name) (rs : List Recorded) (place : ℕ) (ops : List Op) → CanTake layers HasSpelling messages d rs user place ops
    → SomePast messages messages user d (book_of sees user rs).log_received
some_past messages d user rs place ops can =
    let m = all_next messages user d can.prev can.upto (layers.encode can.transactions) can.is_whole in
    let next : IsNext messages user d can.prev m.0 = m.2 in
    let received : (book_of layers.sees user rs).log_received ≡ taken_end layers.sees user rs = book_received layers.sees user rs in
    let from : m.0.prev.0 ≤ taken_end layers.sees user rs = subst (λ (n : ℕ). n ≤ taken_end layers.sees user rs) (sym next.begins) can.reached in
    let to : taken_end layers.sees user rs < m.0.upto.0 = subst (λ (n : ℕ). taken_end layers.sees user rs < n) (sym m.3) can.ahead in
    record {
      message = m.0;
      among = m.1;
      goes = record {
        sent_by = next.sent_by;
        sent_to = next.sent_to;
        begins = subst (λ (n : ℕ). m.0.prev.0 ≤ n) (sym received) from;
        ends = subst (λ (n : ℕ). n < m.0.upto.0) (sym received) to;
        whole = next.whole;
      };
    }

-- and where one does, some transaction may be taken
can_take : (w : World Recorded) (d user : Name) → IsGoodWorld w → SomePast w.messages w.messages user d (book_of sees user (history w d)).log_received
    → (place : ℕ) × (ops : List Op) × CanTake layers HasSpelling w.messages d (history w d) user place ops
can_take w d user good past =
    let m : Message = past.message in
    let rs : List Recorded = history w d in
    let next : IsNext w.messages user d m.prev.0 m =
    record { sent_by = past.goes.sent_by; sent_to = past.goes.sent_to; begins = refl; whole = past.goes.whole } in
    let whole = next_all w.messages user d m.prev.0 m past.among next in
    let received : (book_of layers.sees user rs).log_received ≡ taken_end layers.sees user rs = book_received layers.sees user rs in
    whole_taken layers HasSpelling LawfulHistory w d user m.prev.0 m.upto.0 whole.0 good whole.1 real_laws
    (subst (λ (n : ℕ). m.prev.0 ≤ n) received past.goes.begins) (subst (λ (n : ℕ). n < m.upto.0) received past.goes.ends)

-- ---- a database that is not there

pub took_not_there : (shown : Shown) (d user : Name) → NoneIs d shown.histories → IsTookIn shown d user None
unfolding IsTookIn
took_not_there shown d user none = not_there shown (asked.Take d user) none

none_history : (hs : List (Name × List Recorded)) (d : Name) → NoneIs d (map logged hs) → history_in d hs ≡ []
none_history [] d none = refl
none_history (h ∷ hs) d none = elim (name_test d h.0) [
  | inl t ↦ absurd (none.0 (sym t.1))
  | inr t ↦ rw t (none_history hs d none.1)
]

nothing_joined : (xs ys : List (ℕ × List Op)) (x : ℕ × List Op) → [] ≡ xs ++ x ∷ ys → ⊥
nothing_joined [] ys x e = let never : [] ≡ x ∷ ys = e in absurd (cc)
nothing_joined (y ∷ xs) ys x e = let never : [] ≡ y ∷ (xs ++ x ∷ ys) = e in absurd (cc)

-- of what a step takes, that it can be taken
can_be_taken : (w : World Recorded) (d user : Name) (r : Recorded) (place : ℕ) (ops : List Op) → IsStep w (by d (append r)) → layers.sees r ≡ from_user user place ops
    → CanTake layers HasSpelling w.messages d (history w d) user place ops
can_be_taken w d user r place ops step is = subst (CanAppend layers HasSpelling w.messages d (history w d)) is step.1.0

pub took_of_nobody : (shown : Shown) (d user : Name) → NoneIs user shown.histories → IsTookIn shown d user None
unfolding IsTookIn
took_of_nobody shown d user none = λ w shows. record {
  none = λ act a allowed.
      let step : IsStep w (by d (append a.0)) = subst (IsStep w) a.3 allowed in
      let can = can_be_taken w d user a.0 a.1 a.2 step a.4 in
      let empty : history w user ≡ [] = none_history w.histories user (subst (NoneIs user) (sym shows.histories) none) in
      let sound = take_sound layers HasSpelling LawfulHistory real_laws (history w) w.messages (good_of w shows.good) d user a.1 a.2 can in
      let nothing : [] ≡ taken layers.sees user (history w d) ++ (a.1, a.2) ∷ sound.0 = ap (layers.given user d) (sym empty) ∙ sound.1 in
      nothing_joined (taken layers.sees user (history w d)) sound.0 (a.1, a.2) nothing;
}

-- ---- both are there

pub took_none : (shown : Shown) (messages : List Message) (d user : Name) (place place' : ℕ) (log theirs : Log) → messages ≡ shown.messages
    → StandsAt d shown.histories place log → StandsAt user shown.histories place' theirs → TakeEnds messages d log user theirs None → IsTookIn shown d user None
unfolding TakeEnds IsTookIn
took_none shown messages d user place place' log theirs all at from h = λ w shows. record {
  none = λ act a allowed.
      let rs : List Recorded = history w d in
      let step : IsStep w (by d (append a.0)) = subst (IsStep w) a.3 allowed in
      let can = can_be_taken w d user a.0 a.1 a.2 step a.4 in
      let first = take_first w d user a.1 a.2 shows.good can in
      h rs (history w user) (log_of w shown d place log shows at) (log_of w shown user place' theirs shows from) a.0 (record {
        past = subst (λ (ms : List Message). SomePast ms ms user d (book_of sees user rs).log_received) (shows.messages ∙ sym all)
            (some_past w.messages d user rs a.1 a.2 can);
        transaction = transaction_in (a.1, a.2);
        rest = first.0;
        first = first.1;
        may = record { taken = a.4; lawful = its_lawful w d a.0 step };
      });
}

pub took_some : (shown : Shown) (messages : List Message) (d user : Name) (place place' end : ℕ) (log theirs : Log) (entry : Entry) → messages ≡ shown.messages
    → StandsAt d shown.histories place log → StandsAt user shown.histories place' theirs → TakeEnds messages d log user theirs (Some (end, entry))
    → IsTookIn shown d user (Some (place, end, entry))
unfolding TakeEnds IsTookIn
took_some shown messages d user place place' end log theirs entry all at from h = λ w shows.
    let rs : List Recorded = history w d in
    let us : List Recorded = history w user in
    let one = h rs us (log_of w shown d place log shows at) (log_of w shown user place' theirs shows from) in
    let r : Recorded = one.0 in
    let f : TakesFirst messages d rs user us r = one.1 in
    let past : SomePast w.messages w.messages user d (book_of sees user rs).log_received =
    subst (λ (ms : List Message). SomePast ms ms user d (book_of sees user rs).log_received) (all ∙ sym shows.messages) f.past in
    let can = can_take w d user shows.good past in
    let first = take_first w d user can.0 can.1 shows.good can.2 in
    let both : f.transaction ∷ f.rest ≡ transaction_in (can.0, can.1) ∷ first.0 = sym f.first ∙ first.1 in
    let same : f.transaction ≡ transaction_in (can.0, can.1) = cc in
    let sight : sees r ≡ from_user user can.0 can.1 = f.may.taken ∙ ap (λ (t : Transaction). from_user user t.at.0 t.ops) same in
    let may : CanAppend layers HasSpelling w.messages d rs (sees r) = subst (CanAppend layers HasSpelling w.messages d rs) (sym sight) can.2 in
    record {
      recorded = r;
      asked = (r, can.0, can.1, refl, sight);
      appends = record { log = log; stands = at; allowed = is_allowed w shown d place log r shows at may f.may.lawful; is = one.2; ends = one.3 };
    }

-- ---- what was made

-- as of each other entry that is found
found_so : (shown : Shown) (d user : Name) (place end : ℕ) (entry : Entry) → IsTookIn shown d user (Some (place, end, entry))
    → IsFoundIn shown (asked.Take d user) d entry (Some (place, end))
unfolding IsTookIn IsFoundIn
found_so shown d user place end entry h = h

pub took_due : (shown : Shown) (d user : Name) (place end : ℕ) (entry : Entry) → IsShown shown → IsTookIn shown d user (Some (place, end, entry))
    → IsDue shown entry place end
took_due shown d user place end entry s h = some_due shown (asked.Take d user) d entry entry place end s (found_so shown d user place end entry h) refl

pub none_took : (shown now : Shown) (d user : Name) → IsTookIn shown d user None → IsMadeIn shown (asked.Take d user) now false
unfolding IsTookIn IsMadeIn
none_took shown now d user h = h

pub take_made : (shown now : Shown) (d user : Name) (place end : ℕ) (entry : Entry) → IsTookIn shown d user (Some (place, end, entry))
    → now ≡ record shown { histories = with_entry place (offset_from end, entry) shown.histories } → IsMadeIn shown (asked.Take d user) now true
take_made shown now d user place end entry h is =
    entry_made shown now (asked.Take d user) d entry entry place end (found_so shown d user place end entry h) refl is
