-- Ops that are judged one after the other, each on the state that those before it leave.
use Rattle.std.proofs.Common.{◌≡◌, Bool, true, List, [], ◌∷◌, ◌++◌, map, Result, Ok, Err, OnOk, refl, sym, ap, subst, ◌∙◌, append_assoc, append-nil}
use Rattle.std.specs.Prelude.{is_ok}
use Rattle.sr_base.specs.Values.{offset_from}
use Rattle.sr_book.specs.Entries.{Name}
use Rattle.sr_database_fold.specs.Inner.Readings.{FitsAs}
use Rattle.sr_database_fold.proofs.Taking.{done_keeps}
use Rattle.sr_database_history.specs.Fitting.{DoneFits, FitsState, Knows}
use Rattle.sr_database_history.specs.Folds.{State, after_done, next}
use Rattle.sr_database_history.specs.Recorded.{Done, taken, done_of, IsLawfulDone}
use Rattle.sr_database_history.proofs.Granted.{stays_known}
use Rattle.sr_exec_dml.specs.Fitting.{RowsFit}
use Rattle.sr_logform.specs.declared.entry.Entry.{Entry}
use Rattle.sr_logform.specs.declared.entry.Entry.TheVariants.{From}
use Rattle.sr_logform.specs.declared.op.Op.{Op}
use Rattle.sr_logform.specs.declared.outcome.Outcome.{Outcome}
use Rattle.sr_resolve.specs.Judging.{IsStatementOf}
use Rattle.sr_resolve.specs.Taking.{done_judged, op_of}
use Rattle.sr_resolve.proofs.Sound.{judged_fits, judged_meant, judged_stands}
use Rattle.sr_world_entries.specs.Inner.Judging.{AreJudgedAs, IsOne, IsOneMore, IsPairOf}

-- ---- answers

pub on_ok : {A E : Type 0} {P : Type 0} (r : Result A E) → (is_ok r ≡ true → P) → OnOk r P
on_ok (Ok x) f = f refl
on_ok (Err e) f = tt

pub ok_here : {A E : Type 0} {P : Type 0} (r : Result A E) → OnOk r P → is_ok r ≡ true → P
ok_here (Ok x) h fine = h
ok_here (Err e) h fine = cc

pub ok_map : {A E : Type 0} {P Q : Type 0} (r : Result A E) → (P → Q) → OnOk r P → OnOk r Q
ok_map (Ok x) f h = f h
ok_map (Err e) f h = tt

-- ---- one op as an entry

pub one_comes : (s : State) (user : Name) (d : Done) → next s (taken user (offset_from 0) (d ∷ [])) ≡ after_done d s
unfolding next
one_comes s user d = refl

pub one_fits : (s : State) (user : Name) (pair : Op × Outcome) (d : Done) (entry : Entry) → Knows s user → done_of d ≡ pair → IsLawfulDone d → DoneFits s d
    → entry ≡ From user (offset_from 0) (pair ∷ []) → FitsAs s entry (taken user (offset_from 0) (d ∷ []))
unfolding FitsState
one_fits s user pair d entry known same meant fits is = record {
  is = ap (λ (p : Op × Outcome). From user (offset_from 0) (p ∷ [])) same ∙ sym is;
  meant = (meant, tt);
  fits = (known, (fits, tt));
}

-- who is granted stays so
still_known : (s : State) (user : Name) (d : Done) → Knows s user → Knows (after_done d s) user
still_known s user d known = subst (λ (q : State). Knows q user) (one_comes s user d) (stays_known s (taken user (offset_from 0) (d ∷ [])) user known)

-- ---- one op

-- what was done with an op that was judged
one_done : (s : State) (above : Bool) (op : Op) (pair : Op × Outcome) → RowsFit s.catalog s.rows → IsPairOf s above op pair → (d : Done) × IsOne s above op pair d
one_done s above op pair fit is =
    let statement = is.judged.statement in
    let carried = is.judged.carried in
    let d : Done = done_judged s above op statement in
    let stands : done_of d ≡ (op, pair.1) =
    judged_stands s above op statement carried ∙ ap (λ (o : Outcome). (op, o)) (sym is.judged.outcome_is) in
    let same : op_of d ≡ op = ap (λ (p : Op × Outcome). p.0) stands in (
      d,
      record {
        is = stands ∙ ap (λ (o : Op). (o, pair.1)) (sym is.op_is);
        op_is = same;
        meant = judged_meant s above op statement carried;
        fits = judged_fits s above op statement fit carried;
        judging = record {
          statement = statement;
          carried = subst (λ (o : Op). IsStatementOf statement o) (sym same) carried;
          done_is = ap (λ (o : Op). done_judged s above o statement) (sym same);
        };
      },
    )

-- it can be done
pub pair_taken : (s : State) (above : Bool) (op : Op) (pair : Op × Outcome) → RowsFit s.catalog s.rows → IsPairOf s above op pair
    → (d : Done) × (done_of d ≡ pair) × IsLawfulDone d × DoneFits s d
pair_taken s above op pair fit is = let found = one_done s above op pair fit is in (found.0, found.1.is, found.1.meant, found.1.fits)

pub one_more : (s s' : State) (above : Bool) (op : Op) (pair : Op × Outcome) (judged judged' : List (Op × Outcome)) → RowsFit s.catalog s.rows → IsPairOf s above op pair
    → ((d : Done) → done_of d ≡ pair → IsLawfulDone d → DoneFits s d → s' ≡ after_done d s) → judged' ≡ judged ++ pair ∷ [] → IsOneMore s s' above op judged judged'
one_more s s' above op pair judged judged' fit is after pushed =
    let found = one_done s above op pair fit is in
    record {
      pair = pair;
      is = pushed;
      done = found.0;
      one = found.1;
      after = after found.0 found.1.is found.1.meant found.1.fits;
    }

-- ---- ops one after the other

none_judged : (s : State) (above : Bool) → AreJudgedAs s s above [] []
none_judged s above = record { dones = []; are = refl; ops_are = refl; judged = tt; after = refl; meant = tt; fit = tt }

first_judged : (s mid s' : State) (above : Bool) (op : Op) (pair : Op × Outcome) (rest : List Op) (ops : List (Op × Outcome)) (d : Done) → IsOne s above op pair d
    → mid ≡ after_done d s → AreJudgedAs mid s' above rest ops → AreJudgedAs s s' above (op ∷ rest) (pair ∷ ops)
first_judged s mid s' above op pair rest ops d one after are =
    let behind : AreJudgedAs (after_done d s) s' above rest ops = subst (λ (m : State). AreJudgedAs m s' above rest ops) after are in
    record {
      dones = d ∷ behind.dones;
      are = ap (λ (l : List (Op × Outcome)). pair ∷ l) behind.are ∙ ap (λ (p : Op × Outcome). p ∷ map done_of behind.dones) (sym one.is);
      ops_are = ap (λ (o : Op). o ∷ map op_of behind.dones) one.op_is ∙ ap (λ (l : List Op). op ∷ l) behind.ops_are;
      judged = (one.judging, behind.judged);
      after = behind.after;
      meant = (one.meant, behind.meant);
      fit = (one.fits, behind.fit);
    }

-- the ops before those that are left were judged: with those that are left, all are
pub record JudgedSoFar (start now : State) (user : Name) (above : Bool) (asked left : List Op) (judged : List (Op × Outcome)) : Type 0 where
  pub onward : (last : State) (more : List (Op × Outcome)) → AreJudgedAs now last above left more → AreJudgedAs start last above asked (judged ++ more)
  pub fits : RowsFit now.catalog now.rows
  pub known : Knows now user

pub judged_none : (s : State) (user : Name) (above : Bool) (asked : List Op) (judged : List (Op × Outcome)) → RowsFit s.catalog s.rows → Knows s user → judged ≡ []
    → JudgedSoFar s s user above asked asked judged
judged_none s user above asked judged fits known none = record {
  onward = λ last more are. subst (λ (l : List (Op × Outcome)). AreJudgedAs s last above asked (l ++ more)) (sym none) are;
  fits = fits;
  known = known;
}

pub judged_on : (start now new : State) (user : Name) (above : Bool) (asked left rest : List Op) (op : Op) (judged judged' : List (Op × Outcome))
    → JudgedSoFar start now user above asked left judged → left ≡ op ∷ rest → IsOneMore now new above op judged judged'
    → JudgedSoFar start new user above asked rest judged'
judged_on start now new user above asked left rest op judged judged' so split more = record {
  onward = λ last behind are.
      let here : AreJudgedAs now last above (op ∷ rest) (more.pair ∷ behind) = first_judged now new last above op more.pair rest behind more.done more.one more.after are in
      let all : AreJudgedAs start last above asked (judged ++ more.pair ∷ behind) =
      so.onward last (more.pair ∷ behind) (subst (λ (l : List Op). AreJudgedAs now last above l (more.pair ∷ behind)) (sym split) here) in
      let is : judged' ++ behind ≡ judged ++ more.pair ∷ behind =
      ap (λ (l : List (Op × Outcome)). l ++ behind) more.is ∙ append_assoc judged (more.pair ∷ []) behind in
      subst (AreJudgedAs start last above asked) (sym is) all;
  fits = subst (λ (s : State). RowsFit s.catalog s.rows) (sym more.after) (done_keeps now more.done so.fits more.one.fits);
  known = subst (λ (s : State). Knows s user) (sym more.after) (still_known now user more.done so.known);
}

pub judged_all : (start now : State) (user : Name) (above : Bool) (asked left : List Op) (judged : List (Op × Outcome)) → JudgedSoFar start now user above asked left judged
    → left ≡ [] → AreJudgedAs start now above asked judged
judged_all start now user above asked left judged so none =
    subst (AreJudgedAs start now above asked) (append-nil judged)
    (so.onward now [] (subst (λ (l : List Op). AreJudgedAs now now above l []) (sym none) (none_judged now above)))
