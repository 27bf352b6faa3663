-- One op more, judged on the state that those before it leave.
use Rattle.std.proofs.Common.{◌≡◌, ℕ, ◌<◌, ◌^◌, Bool, List, [], ◌∷◌, ◌++◌, length, map, refl, sym, ap, subst, ◌∙◌}
use Rattle.std.proofs.lemmas.List.{length-map, map-append}
use Rattle.sr_book.specs.Entries.{Name}
use Rattle.sr_mail_cut.proofs.Lists.{AllByRecursion-append}
use Rattle.sr_exec_dml.specs.Fitting.{RowsFit}
use Rattle.sr_database_history.specs.Fitting.{DoneFits, DonesFit}
use Rattle.sr_database_history.specs.Folds.{State, after_done, after_dones}
use Rattle.sr_database_history.specs.Recorded.{Done, done_of, IsLawfulDone}
use Rattle.sr_logform.specs.Ops.{IsShortOp}
use Rattle.sr_logform.specs.Inner.Ops.{IsShortTransaction}
use Rattle.sr_logform.specs.Outcomes.{IsShortOutcome}
use Rattle.sr_logform.specs.declared.entry.Entry.{Entry}
use Rattle.sr_logform.specs.declared.entry.Entry.TheVariants.{From}
use Rattle.sr_logform.specs.declared.op.Op.{Op}
use Rattle.sr_logform.specs.declared.op.Transaction.{Transaction}
use Rattle.sr_logform.specs.declared.outcome.Outcome.{Outcome}
use Rattle.sr_resolve.specs.Judging.{judged, IsStatementOf}
use Rattle.sr_resolve.specs.Taking.{IsDoneJudged, done_judged, is_above, op_of}
use Rattle.sr_resolve.proofs.Fold.{one_more}
use Rattle.sr_resolve.proofs.Sound.{judged_fits, judged_meant, judged_stands}
use Rattle.sr_receive_judged.specs.Judged.{AreJudgedAs, IsCount, IsEntryOf, IsJudgedShort}
use Rattle.sr_receive_judged.specs.Inner.OneOp.{IsBehind, IsOne, IsPairOf}

-- ---- lists with one more

after_more : (dones : List Done) (d : Done) (s : State) → after_dones (dones ++ d ∷ []) s ≡ after_done d (after_dones dones s)
after_more [] d s = refl
after_more (e ∷ dones) d s = after_more dones d (after_done e s)

fit_more : (s : State) (dones : List Done) (d : Done) → DonesFit s dones → DoneFits (after_dones dones s) d → DonesFit s (dones ++ d ∷ [])
fit_more s [] d fit one = (one, tt)
fit_more s (e ∷ dones) d fit one = (fit.0, fit_more (after_done e s) dones d fit.1 one)

-- ---- one op

pub one_done : (s : State) (above : Bool) (op : Op) (outcome : Outcome) → RowsFit s.catalog s.rows → IsJudgedShort s above op outcome
    → (d : Done) × IsOne s above op outcome d
one_done s above op outcome fit is =
    let statement = is.judged.statement in
    let carried = is.judged.carried in
    let stands : done_of (done_judged s above op statement) ≡ (op, outcome) =
    judged_stands s above op statement carried ∙ ap (λ (o : Outcome). (op, o)) (sym is.judged.outcome_is) in
    let same : op_of (done_judged s above op statement) ≡ op = ap (λ (p : Op × Outcome). p.0) stands in (
      done_judged s above op statement,
      record {
        is = stands;
        meant = judged_meant s above op statement carried;
        fits = judged_fits s above op statement fit carried;
        judging = record {
          statement = statement;
          carried = subst (λ (o : Op). IsStatementOf statement o) (sym same) carried;
          done_is = ap (λ (o : Op). done_judged s above o statement) (sym same);
        };
      },
    )

-- ---- ops one after the other

pub none_judged : (s : State) (above : Bool) → AreJudgedAs s s above [] []
none_judged s above = record { dones = []; are = refl; done = record { judged = tt; ops_are = refl }; after = refl; meant = tt; fit = tt; short = tt }

pub one_judged_more : (s mid : State) (above : Bool) (asked : List Op) (ops : List (Op × Outcome)) (op : Op) (outcome : Outcome) (d : Done) → AreJudgedAs s mid above asked ops
    → IsOne mid above op outcome d → IsShortOp op → IsShortOutcome outcome → AreJudgedAs s (after_done d mid) above (asked ++ op ∷ []) (ops ++ (op, outcome) ∷ [])
one_judged_more s mid above asked ops op outcome d are one short_op short_outcome =
    let dones = are.dones in
    let fits : DoneFits (after_dones dones s) d = subst (λ (m : State). DoneFits m d) are.after one.fits in
    let judging : IsDoneJudged (after_dones dones s) above d = subst (λ (m : State). IsDoneJudged m above d) are.after one.judging in
    let same : op_of d ≡ op = ap (λ (p : Op × Outcome). p.0) one.is in
    record {
      dones = dones ++ d ∷ [];
      are = ap (λ (l : List (Op × Outcome)). l ++ (op, outcome) ∷ []) are.are ∙ ap (λ (p : Op × Outcome). map done_of dones ++ p ∷ []) (sym one.is) ∙ sym (map-append done_of dones (d ∷ []));
      done = record {
        judged = (one_more s above dones d).1 (are.done.judged, judging);
        ops_are = map-append op_of dones (d ∷ []) ∙ ap (λ (o : Op). map op_of dones ++ o ∷ []) same ∙ ap (λ (l : List Op). l ++ op ∷ []) are.done.ops_are;
      };
      after = ap (after_done d) are.after ∙ sym (after_more dones d s);
      meant = AllByRecursion-append IsLawfulDone dones (d ∷ []) are.meant (one.meant, tt);
      fit = fit_more s dones d are.fit fits;
      short = AllByRecursion-append (λ (p : Op × Outcome). IsShortOp p.0 × IsShortOutcome p.1) ops ((op, outcome) ∷ []) are.short ((short_op, short_outcome), tt);
    }

-- there are as many as were asked for
pub as_many : (s after : State) (above : Bool) (asked : List Op) (ops : List (Op × Outcome)) → AreJudgedAs s after above asked ops → length ops ≡ length asked
as_many s after above asked ops are =
    ap length are.are ∙ length-map are.dones done_of ∙ sym (length-map are.dones op_of) ∙ ap length are.done.ops_are

filled_count : {A B : Type 0} (xs : List A) (ys : List B) → length ys ≡ length xs → length xs < 2 ^ 32 → ¬ (xs ≡ []) → IsCount ys
filled_count [] ys same few filled = absurd (filled refl)
filled_count (x ∷ xs) [] same few filled = cc
filled_count (x ∷ xs) (y ∷ ys) same few filled = record { few = subst (λ (n : ℕ). n < 2 ^ 32) (sym same) few; filled = λ none. cc }

-- the entry of a transaction whose ops were judged
pub entry_judged : (s after : State) (user : Name) (t : Transaction) (ops : List (Op × Outcome)) (entry : Entry) → IsShortTransaction t → AreJudgedAs s after (is_above s user) t.ops ops
    → entry ≡ From user t.at ops → IsEntryOf s user t entry
entry_judged s after user t ops entry short are is = record {
  ops = ops;
  is = is;
  after = after;
  judged = are;
  few = filled_count t.ops ops (as_many s after (is_above s user) t.ops ops are) short.items.0 short.filled;
}

-- ---- one op behind others

-- what was done with a pair that was judged
pub pair_done : (s : State) (above : Bool) (op : Op) (pair : Op × Outcome) → RowsFit s.catalog s.rows → IsPairOf s above op pair
    → (d : Done) × IsOne s above op pair.1 d × (done_of d ≡ pair)
pair_done s above op pair fit is =
    let found = one_done s above op pair.1 fit is.judged in
    (found.0, found.1, found.1.is ∙ ap (λ (o : Op). (o, pair.1)) (sym is.op_is))

pub pair_behind : (s : State) (above : Bool) (op : Op) (pair : Op × Outcome) (judged judged' : List (Op × Outcome)) (d : Done) → IsPairOf s above op pair → IsOne s above op pair.1 d
    → judged' ≡ judged ++ pair ∷ [] → IsBehind s above op judged judged' d
pair_behind s above op pair judged judged' d is one pushed = record {
  outcome = pair.1;
  is = pushed ∙ ap (λ (o : Op). judged ++ (o, pair.1) ∷ []) is.op_is;
  one = one;
  short = is.judged.short;
}

-- one op more was judged
pub behind_more : (s mid : State) (above : Bool) (asked : List Op) (op : Op) (judged judged' : List (Op × Outcome)) (d : Done) → AreJudgedAs s mid above asked judged → IsShortOp op
    → IsBehind mid above op judged judged' d → AreJudgedAs s (after_done d mid) above (asked ++ op ∷ []) judged'
behind_more s mid above asked op judged judged' d are short b =
    subst (λ (l : List (Op × Outcome)). AreJudgedAs s (after_done d mid) above (asked ++ op ∷ []) l) (sym b.is)
    (one_judged_more s mid above asked judged op b.outcome d are b.one short b.short)
