-- The entry that takes a transaction of a partner.
use Rattle.std.proofs.Common.{◌≡◌, ◌↔◌, ℕ, ◌+◌, ◌<◌, ◌^◌, Bool, true, false, List, [], ◌∷◌, map, length, Option, Some, None, IsTrue, refl, sym, ap, subst, ◌∙◌}
use Rattle.std.specs.List.{AllByRecursion}
use Rattle.std.proofs.lemmas.List.{length-map}
use Rattle.sr_book.specs.Entries.{Name, from_user}
use Rattle.sr_database_history.specs.Fitting.{FitsState, Knows}
use Rattle.sr_database_history.specs.Folds.{State, size, sees}
use Rattle.sr_database_history.specs.Recorded.{Done, Recorded, taken, done_of, entry_of}
use Rattle.sr_logform.specs.Entries.{entry_spelling, IsEntry}
use Rattle.sr_logform.specs.Inner.Entries.{IsShortEntry}
use Rattle.sr_logform.specs.Inner.Ops.{IsShortTransaction}
use Rattle.sr_logform.specs.Ops.{IsShortOp}
use Rattle.sr_logform.specs.Outcomes.{IsShortOutcome}
use Rattle.sr_logform.specs.declared.entry.Entry.{Entry}
use Rattle.sr_logform.specs.declared.entry.Entry.TheVariants.{From}
use Rattle.sr_logform.specs.declared.op.Op.{Op}
use Rattle.sr_logform.specs.declared.op.Transaction.{Transaction}
use Rattle.sr_logform.specs.declared.outcome.Outcome.{Outcome}
use Rattle.sr_logform.proofs.Shorter.{short_entry}
use Rattle.sr_resolve.specs.Taking.{is_above, op_of}
use Rattle.sr_world.proofs.Judging.{same_taken}
use Rattle.sr_world.proofs.Keeping.{real_grants}
use Rattle.sr_world_entries.specs.Inner.Ends.{HasRoom, IsEndOf}
use Rattle.sr_world_entries.specs.Inner.Judging.{AreJudgedAs}
use Rattle.sr_world_entries.specs.Inner.Taking.{IsEndWith, MayTake, TakeEndsIn}
use Rattle.sr_world_entries.proofs.Roomy.{has_room}

-- ---- the only entry

-- the ops as an entry has them were judged, of a transaction of a user
abbrev pub Judged : State → State → Name → Transaction → List (Op × Outcome) → Type 0
Judged s after user t ops = AreJudgedAs s after (is_above s user) t.ops ops

sees_it : (user : Name) (t : Transaction) (dones : List Done) → map op_of dones ≡ t.ops → sees (taken user t.at dones) ≡ from_user user t.at.0 t.ops
sees_it user t dones are = ap (λ (l : List Op). from_user user t.at.0 l) are

stands_as : (user : Name) (t : Transaction) (dones : List Done) (ops : List (Op × Outcome)) (entry : Entry) → ops ≡ map done_of dones → entry ≡ From user t.at ops
    → entry_of (taken user t.at dones) ≡ entry
stands_as user t dones ops entry are is = ap (λ (l : List (Op × Outcome)). From user t.at l) (sym are) ∙ sym is

-- whatever takes the transaction is the entry of the ops that were judged
only_it : (s after : State) (place : ℕ) (user : Name) (t : Transaction) (ops : List (Op × Outcome)) (entry : Entry) (r : Recorded) → Judged s after user t ops
    → entry ≡ From user t.at ops → MayTake s place user t r → entry_of r ≡ entry
only_it s after place user t ops entry r are is may =
    let one : Recorded = taken user t.at are.dones in
    let same : one ≡ r = same_taken s one r user t.at.0 t.ops (sees_it user t are.dones are.ops_are) may.taken are.judged may.lawful.says_so in
    ap entry_of (sym same) ∙ stands_as user t are.dones ops entry are.are is

-- ---- what can be written

outcomes_short : (ops : List (Op × Outcome)) → AllByRecursion (λ (p : Op × Outcome). IsShortOp p.0 × IsShortOutcome p.1) ops → AllByRecursion (λ (p : Op × Outcome). IsShortOutcome p.1) ops
outcomes_short [] all = tt
outcomes_short (p ∷ ops) all = (all.0.1, outcomes_short ops all.1)

both_short : (ops : List (Op × Outcome)) → AllByRecursion IsShortOp (map (λ (p : Op × Outcome). p.0) ops) → AllByRecursion (λ (p : Op × Outcome). IsShortOutcome p.1) ops
    → AllByRecursion (λ (p : Op × Outcome). IsShortOp p.0 × IsShortOutcome p.1) ops
both_short [] a b = tt
both_short (p ∷ ops) a b = ((a.0, b.0), both_short ops a.1 b.1)

firsts : (dones : List Done) → map (λ (p : Op × Outcome). p.0) (map done_of dones) ≡ map op_of dones
firsts [] = refl
firsts (d ∷ dones) = ap (λ (l : List Op). op_of d ∷ l) (firsts dones)

pub short_taken : (s after : State) (user : Name) (t : Transaction) (ops : List (Op × Outcome)) (entry : Entry) → Judged s after user t ops → IsShortTransaction t
    → AllByRecursion (λ (p : Op × Outcome). IsShortOutcome p.1) ops → entry ≡ From user t.at ops → IsShortEntry entry
short_taken s after user t ops entry are short each is =
    let names : map (λ (p : Op × Outcome). p.0) ops ≡ t.ops = ap (map (λ (p : Op × Outcome). p.0)) are.are ∙ firsts are.dones ∙ are.ops_are in
    let long : length ops ≡ length t.ops = sym (length-map ops (λ (p : Op × Outcome). p.0)) ∙ ap length names in
    subst IsShortEntry (sym is) (record {
      items = (
        subst (λ (n : ℕ). n < 2 ^ 32) (sym long) short.items.0,
        both_short ops (subst (AllByRecursion IsShortOp) (sym names) short.items.1) each,
      );
      filled = λ none. short.filled (sym names ∙ ap (map (λ (p : Op × Outcome). p.0)) none);
    })

-- ---- why none may take it

pub not_known : (s : State) (place : ℕ) (user : Name) (t : Transaction) → ¬ (Knows s user) → TakeEndsIn s place user t None
unfolding TakeEndsIn
not_known s place user t not = λ r may. not (real_grants.taken_behind s place r user t.at.0 t.ops may.lawful may.taken)

pub not_short : (s after : State) (place : ℕ) (user : Name) (t : Transaction) (ops : List (Op × Outcome)) (short : Bool) → Judged s after user t ops
    → (IsTrue short ↔ AllByRecursion (λ (p : Op × Outcome). IsShortOutcome p.1) ops) → short ≡ false → TakeEndsIn s place user t None
unfolding TakeEndsIn
not_short s after place user t ops short are h never = λ r may.
    let is : entry_of r ≡ From user t.at ops = only_it s after place user t ops (From user t.at ops) r are refl may in
    let each : IsShortEntry (From user t.at ops) = short_entry (From user t.at ops) (subst IsEntry is may.lawful.stored.spelled) in
    let surely : short ≡ true = h.1 (outcomes_short ops each.items.1) in
    absurd (cc)

no_room : (s after : State) (place : ℕ) (user : Name) (t : Transaction) (ops : List (Op × Outcome)) (entry : Entry) → Judged s after user t ops
    → entry ≡ From user t.at ops → IsEndOf place entry None → TakeEndsIn s place user t None
unfolding TakeEndsIn IsEndOf
no_room s after place user t ops entry are is never = λ r may.
    never (has_room s place r entry may.lawful.stored (only_it s after place user t ops entry r are is may))

-- ---- and that it may be taken

room : (s after : State) (place end : ℕ) (user : Name) (t : Transaction) (ops : List (Op × Outcome)) (entry : Entry) → Knows s user → Judged s after user t ops
    → entry ≡ From user t.at ops → IsEndOf place entry (Some end) → TakeEndsIn s place user t (Some (end, entry))
unfolding size FitsState TakeEndsIn IsEndOf
room s after place end user t ops entry known are is has =
    let one : Recorded = taken user t.at are.dones in
    let its : entry_of one ≡ entry = stands_as user t are.dones ops entry are.are is in
    let here : HasRoom place (entry_of one) = subst (HasRoom place) (sym its) has.0 in (
      one,
      record {
        taken = sees_it user t are.dones are.ops_are;
        lawful = record {
          stored = record { meant = are.meant; spelled = here.spelled; short = here.short; ends = here.ends; state = (known, are.fit) };
          says_so = are.judged;
        };
      },
      its,
      has.1 ∙ ap (λ (e : Entry). place + (length (entry_spelling e) + 5)) (sym its),
    )

pub take_ends : (s after : State) (place : ℕ) (user : Name) (t : Transaction) (ops : List (Op × Outcome)) (entry : Entry) (found : Option (ℕ × Entry)) → Knows s user
    → Judged s after user t ops → entry ≡ From user t.at ops → IsEndWith place entry found → TakeEndsIn s place user t found
take_ends s after place user t ops entry None known are is none = no_room s after place user t ops entry are is none
take_ends s after place user t ops entry (Some found) known are is has =
    subst (λ (e : Entry). TakeEndsIn s place user t (Some (found.0, e))) (sym has.0) (room s after place found.0 user t ops entry known are is has.1)
