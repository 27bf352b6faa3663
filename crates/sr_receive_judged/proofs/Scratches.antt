-- Ops that are judged apart, each on the state that those before it leave.
use Rattle.std.proofs.Common.{◌≡◌, Bool, List, [], ◌∷◌, ◌++◌, refl, sym, ap, subst, ◌∙◌, append_assoc}
use Rattle.std.proofs.lemmas.List.{append-nil}
use Rattle.std.specs.List.{AllByRecursion}
use Rattle.sr_base.specs.Values.{offset_from}
use Rattle.sr_book.specs.Entries.{Name}
use Rattle.sr_mail_cut.proofs.Lists.{AllByRecursion-back}
use Rattle.sr_exec_dml.specs.Fitting.{RowsFit}
use Rattle.sr_database_fold.specs.Inner.Readings.{FitsAs}
use Rattle.sr_database_fold.proofs.Taking.{done_keeps}
use Rattle.sr_database_history.specs.Fitting.{DoneFits, FitsState, Knows}
use Rattle.sr_database_history.specs.Folds.{State, after_done, next}
use Rattle.sr_database_history.specs.Recorded.{Done, taken, done_of, IsLawfulDone}
use Rattle.sr_database_history.proofs.Granted.{stays_known}
use Rattle.sr_logform.specs.Ops.{IsShortOp}
use Rattle.sr_logform.specs.declared.entry.Entry.{Entry}
use Rattle.sr_logform.specs.declared.entry.Entry.TheVariants.{From}
use Rattle.sr_logform.specs.declared.op.Op.{Op}
use Rattle.sr_logform.specs.declared.outcome.Outcome.{Outcome}
use Rattle.sr_rows.specs.Marks.{Marked, RowMap}
use Rattle.sr_rows.specs.Inner.Steps.{at_mark}
use Rattle.sr_catalog_schema.specs.Catalogs.{Lists}
use Rattle.sr_receive_judged.specs.Judged.{AreJudgedAs}
use Rattle.sr_receive_judged.specs.Inner.Judged.{state_in}
use Rattle.sr_receive_judged.specs.Inner.OneOp.{ScratchMore, IsPairOf}
use Rattle.sr_receive_judged.proofs.Judgements.{behind_more, none_judged, pair_behind, pair_done}

-- ---- one op as an entry

pub one_comes : (s : State) (user : Name) (d : Done) → next s (taken user (offset_from 0) (d ∷ [])) ≡ after_done d s
unfolding next
one_comes s user d = refl

pub one_fits : (s : State) (user : Name) (pair : Op × Outcome) (d : Done) (entry : Entry) → Knows s user → done_of d ≡ pair → IsLawfulDone d → DoneFits s d
    → entry ≡ From user (offset_from 0) (pair ∷ []) → FitsAs s entry (taken user (offset_from 0) (d ∷ []))
unfolding FitsState
one_fits s user pair d entry known same meant fits is = record {
  is = ap (λ (p : Op × Outcome). From user (offset_from 0) (p ∷ [])) same ∙ sym is;
  meant = (meant, tt);
  fits = (known, (fits, tt));
}

-- who is granted stays so
still_known : (s : State) (user : Name) (d : Done) → Knows s user → Knows (after_done d s) user
still_known s user d known = subst (λ (q : State). Knows q user) (one_comes s user d) (stays_known s (taken user (offset_from 0) (d ∷ [])) user known)

-- ---- one op more

pub scratch_more : (s s' : State) (above : Bool) (op : Op) (pair : Op × Outcome) (judged judged' : List (Op × Outcome)) → RowsFit s.catalog s.rows → IsPairOf s above op pair
    → ((d : Done) → done_of d ≡ pair → IsLawfulDone d → DoneFits s d → s' ≡ after_done d s) → judged' ≡ judged ++ pair ∷ [] → ScratchMore s s' above op judged judged'
scratch_more s s' above op pair judged judged' fit is after pushed =
    let found = pair_done s above op pair fit is in
    record {
      done = found.0;
      behind = pair_behind s above op pair judged judged' found.0 is found.1 pushed;
      leaves = after found.0 found.2 found.1.meant found.1.fits;
    }

-- what can be done with a pair that was judged
pub pair_taken : (s : State) (above : Bool) (op : Op) (pair : Op × Outcome) → RowsFit s.catalog s.rows → IsPairOf s above op pair
    → (d : Done) × (done_of d ≡ pair) × IsLawfulDone d × DoneFits s d
pair_taken s above op pair fit is = let found = pair_done s above op pair fit is in (found.0, found.2, found.1.meant, found.1.fits)

-- the ops before those that are left were judged
pub record ScratchSoFar (start now : State) (user : Name) (above : Bool) (asked left : List Op) (judged : List (Op × Outcome)) : Type 0 where
  pub passed : List Op
  pub parts : asked ≡ passed ++ left
  pub are : AreJudgedAs start now above passed judged
  pub fits : RowsFit now.catalog now.rows
  pub known : Knows now user

pub scratch_start : (s : State) (user : Name) (above : Bool) (asked : List Op) (judged : List (Op × Outcome)) → RowsFit s.catalog s.rows → Knows s user → judged ≡ []
    → ScratchSoFar s s user above asked asked judged
scratch_start s user above asked judged fits known none = record {
  passed = [];
  parts = refl;
  are = subst (λ (l : List (Op × Outcome)). AreJudgedAs s s above [] l) (sym none) (none_judged s above);
  fits = fits;
  known = known;
}

pub scratch_on : (start now new : State) (user : Name) (above : Bool) (asked left rest : List Op) (op : Op) (judged judged' : List (Op × Outcome))
    → ScratchSoFar start now user above asked left judged → left ≡ op ∷ rest → AllByRecursion IsShortOp asked → ScratchMore now new above op judged judged'
    → ScratchSoFar start new user above asked rest judged'
scratch_on start now new user above asked left rest op judged judged' so split short more =
    let parts : asked ≡ so.passed ++ op ∷ rest = so.parts ∙ ap (λ (l : List Op). so.passed ++ l) split in
    let d = more.done in
    let short_op : IsShortOp op = (AllByRecursion-back IsShortOp so.passed (op ∷ rest) (subst (λ (l : List Op). AllByRecursion IsShortOp l) parts short)).0 in
    let are : AreJudgedAs start (after_done d now) above (so.passed ++ op ∷ []) judged' = behind_more start now above so.passed op judged judged' d so.are short_op more.behind in
    record {
      passed = so.passed ++ op ∷ [];
      parts = parts ∙ sym (append_assoc so.passed (op ∷ []) rest);
      are = subst (λ (s : State). AreJudgedAs start s above (so.passed ++ op ∷ []) judged') (sym more.leaves) are;
      fits = subst (λ (s : State). RowsFit s.catalog s.rows) (sym more.leaves) (done_keeps now d so.fits more.behind.one.fits);
      known = subst (λ (s : State). Knows s user) (sym more.leaves) (still_known now user d so.known);
    }

pub scratch_end : (start now : State) (user : Name) (above : Bool) (asked left : List Op) (judged : List (Op × Outcome)) → ScratchSoFar start now user above asked left judged → left ≡ []
    → AreJudgedAs start now above asked judged
scratch_end start now user above asked left judged so none =
    let all : so.passed ≡ asked = sym (append-nil so.passed) ∙ ap (λ (l : List Op). so.passed ++ l) (sym none) ∙ sym so.parts in
    subst (λ (l : List Op). AreJudgedAs start now above l judged) all so.are

-- copies are the same state
pub same_scratch : (catalog copied : Lists) (rows : RowMap) (copy : Marked) → copied ≡ catalog → copy ≡ at_mark rows → state_in copied copy.rows ≡ state_in catalog rows
same_scratch catalog copied rows copy same at = λ i. state_in (same i) (at i).rows
