-- Entries with their lengths, what they leave and what they give, as far as a history of them goes.
use Rattle.std.proofs.Common.{◌≡◌, ℕ, zero, suc, ◌+◌, ◌≤◌, ◌^◌, List, [], ◌∷◌, ◌++◌, map, take, None, refl, sym, ap, subst, ◌∙◌, arith, IsTrue}
use Rattle.sr_ast.specs.Layout.{printed}
use Rattle.sr_ast.specs.Statements.{is_ddl}
use Rattle.sr_ast.specs.declared.stmt.Stmt.{Stmt}
use Rattle.sr_base.specs.Fields.{IsText, IsName}
use Rattle.sr_book.specs.declared.note.Note.{Note}
use Rattle.sr_book.specs.Entries.{Name}
use Rattle.sr_catalog_change.specs.Changes.{refusal}
use Rattle.sr_ast.specs.NormalForms.{IsNormal}
use Rattle.sr_database_history.specs.Fitting.{Knows, RowsAllow, FitsState, Fits}
use Rattle.sr_database_history.specs.Folds.{State, next, size, state_from}
use Rattle.sr_database_history.specs.Inner.Laws.{Holds}
use Rattle.sr_database_history.specs.Recorded.{Recorded, ddl, note, entry_of, IsRecorded}
use Rattle.sr_database_history.proofs.Kept.{stays_held}
use Rattle.sr_logform.specs.Entries.{IsEntry}
use Rattle.sr_logform.specs.Limits.{longest_body}
use Rattle.sr_logform.specs.Outcomes.{IsNote}
use Rattle.sr_logform.specs.declared.op.Op.{Op}
use Rattle.sr_world_model.specs.Layers.{transaction}
use Rattle.sr_world_model.specs.Layers as layered
use Rattle.sr_world_model.specs.Machines.{lawful_from, given_from}
use Rattle.sr_scan.specs.Given.{gives}
use Rattle.sr_scan.specs.Inner.Images.{told}
use Rattle.sr_scan.specs.Inner.Meanings.{meant_by}
use Rattle.sr_scan.proofs.Agreeing.{told_same}
use Rattle.sr_world.specs.Lawful.{SaysSo, IsLawful}
use Rattle.sr_world.specs.Real.{some_ops, machine, layers}

-- an entry, the length of its body, the state behind it, and what it gives two partners
pub record Line : Type 0 where
  pub entry : Recorded
  pub long : ℕ
  pub after : State
  pub to_one : List Op
  pub to_other : List Op

-- it is so in the state before it, and keeps every rule there
pub record IsLine (s : State) (l : Line) : Type 0 where
  pub size_is : size l.entry ≡ l.long
  pub leaves : next s l.entry ≡ l.after
  pub short : l.long ≤ longest_body (entry_of l.entry)
  pub meant : IsRecorded l.entry
  pub spelled : IsEntry (entry_of l.entry)
  pub fits : FitsState s l.entry
  pub says_so : SaysSo s l.entry

abbrev pub AreLines : State → List Line → Type 0
AreLines s [] = Unit {0}
AreLines s (l ∷ ls) = IsLine s l × AreLines l.after ls

abbrev pub entries : List Line → List Recorded
entries ls = map (λ (l : Line). l.entry) ls

-- ---- where they end

abbrev pub end_told : ℕ → List Line → ℕ
end_told place [] = place
end_told place (l ∷ ls) = end_told (place + (l.long + 5)) ls

end_later : (place : ℕ) (ls : List Line) → place ≤ end_told place ls
end_later place [] = omega arith
end_later place (l ∷ ls) = let later = end_later (place + (l.long + 5)) ls in omega (arith, later)

pub end_prefix : (s : State) (place n : ℕ) (ls : List Line) → AreLines s ls
    → layered.end_from layers place (entries (take n ls)) ≡ end_told place (take n ls)
end_prefix s place zero ls are = refl
end_prefix s place (suc n) [] are = refl
end_prefix s place (suc n) (l ∷ ls) are =
    ap (λ (k : ℕ). layered.end_from layers (place + (k + 5)) (entries (take n ls))) are.0.size_is ∙ end_prefix l.after (place + (l.long + 5)) n ls are.1

-- ---- what state they leave

abbrev pub state_told : State → List Line → State
state_told s [] = s
state_told s (l ∷ ls) = state_told l.after ls

pub state_end : (s : State) (ls : List Line) → AreLines s ls → state_from s (entries ls) ≡ state_told s ls
state_end s [] are = refl
state_end s (l ∷ ls) are = ap (λ (x : State). state_from x (entries ls)) are.0.leaves ∙ state_end l.after ls are.1

-- ---- the rules are kept

kept : (s : State) (place : ℕ) (l : Line) (ls : List Line) → IsLine s l → end_told place (l ∷ ls) ≤ 2 ^ 62 → Fits s place l.entry
kept s place l ls is small = record {
  meant = is.meant;
  spelled = is.spelled;
  short = subst (λ (k : ℕ). k ≤ longest_body (entry_of l.entry)) (sym is.size_is) is.short;
  ends = let later = end_later (place + (l.long + 5)) ls in subst (λ (k : ℕ). place + (k + 5) ≤ 2 ^ 62) (sym is.size_is) (omega (arith, later, small));
  state = is.fits;
}

pub lawful_prefix : (s : State) (place n : ℕ) (ls : List Line) → AreLines s ls → end_told place ls ≤ 2 ^ 62
    → lawful_from machine IsLawful s place (entries (take n ls))
lawful_prefix s place zero ls are small = tt
lawful_prefix s place (suc n) [] are small = tt
lawful_prefix s place (suc n) (l ∷ ls) are small =
    let behind = place + (l.long + 5) in
    let one : IsLawful s place l.entry = record { stored = kept s place l ls are.0 small; says_so = are.0.says_so } in
    let rest : lawful_from machine IsLawful l.after behind (entries (take n ls)) = lawful_prefix l.after behind n ls are.1 small in (
      one,
      subst (λ (k : ℕ). lawful_from machine IsLawful (next s l.entry) (place + (k + 5)) (entries (take n ls))) (sym are.0.size_is)
          (subst (λ (x : State). lawful_from machine IsLawful x behind (entries (take n ls))) (sym are.0.leaves) rest),
    )

-- ---- what they give a user

-- what each tells the user, by its images
abbrev pub each_told : State → Name → List Line → List (List Op)
each_told s user [] = []
each_told s user (l ∷ ls) = told s.catalog (entry_of l.entry) (meant_by l.entry) user ∷ each_told l.after user ls

abbrev pub all_told : (Line → List Op) → ℕ → List Line → List (ℕ × List Op)
all_told ops place [] = []
all_told ops place (l ∷ ls) = transaction (place + (l.long + 5)) (some_ops (ops l)) ++ all_told ops (place + (l.long + 5)) ls

pub given_prefix : (s : State) (place : ℕ) (user : Name) (ops : Line → List Op) (n : ℕ) (ls : List Line) → Holds s → AreLines s ls
    → end_told place ls ≤ 2 ^ 62 → each_told s user ls ≡ map ops ls
    → given_from machine s place user (entries (take n ls)) ≡ all_told ops place (take n ls)
given_prefix s place user ops zero ls h are small tell = refl
given_prefix s place user ops (suc n) [] h are small tell = refl
given_prefix s place user ops (suc n) (l ∷ ls) h are small tell =
    let behind = place + (l.long + 5) in
    let gives_now = λ (k : ℕ) (x : List Op) (after : State). transaction (place + (k + 5)) (some_ops x)
    ++ given_from machine after (place + (k + 5)) user (entries (take n ls)) in
    let fits = kept s place l ls are.0 small in
    let both : told s.catalog (entry_of l.entry) (meant_by l.entry) user ∷ each_told l.after user ls ≡ ops l ∷ map ops ls = tell in
    let tells : told s.catalog (entry_of l.entry) (meant_by l.entry) user ≡ ops l = cc in
    let others : each_told l.after user ls ≡ map ops ls = cc in
    let gave : gives s l.entry user ≡ ops l = sym (told_same s place l.entry user h fits) ∙ tells in
    let holds : Holds l.after = subst Holds are.0.leaves (stays_held s place l.entry h fits) in
    let rest = given_prefix l.after behind user ops n ls holds are.1 small others in
    ap (λ (k : ℕ). gives_now k (gives s l.entry user) (next s l.entry)) are.0.size_is
    ∙ ap (λ (x : List Op). gives_now l.long x (next s l.entry)) gave
    ∙ ap (λ (x : State). gives_now l.long (ops l) x) are.0.leaves
    ∙ ap (λ (txs : List (ℕ × List Op)). transaction behind (some_ops (ops l)) ++ txs) rest

-- ---- lines of two kinds

-- a statement in normal form changes the catalog, and its entry has a body of this length
pub record IsWritten (statement : Stmt) (k : ℕ) : Type 0 where
  pub long : size (ddl statement) ≡ k
  pub short : k ≤ 4194304
  pub normal : IsNormal statement
  pub changes : IsTrue (is_ddl statement)
  pub text : IsText (printed statement)

-- such a statement, where it is accepted
pub ddl_line : (s after : State) (statement : Stmt) (k : ℕ) → IsWritten statement k → next s (ddl statement) ≡ after → refusal s.catalog statement ≡ None
    → RowsAllow s statement → IsLine s (record { entry = ddl statement; long = k; after = after; to_one = []; to_other = [] })
unfolding IsEntry FitsState
ddl_line s after statement k written left accepted done = record {
  size_is = written.long;
  leaves = left;
  short = written.short;
  meant = (written.normal, written.changes);
  spelled = written.text;
  fits = record { catalog = accepted; rows = done };
  says_so = tt;
}

-- a note
pub note_line : (s : State) (user : Name) (what : Note) (k : ℕ) → size (note user what) ≡ k → k ≤ 4194304 → IsName user → IsNote what → Knows s user
    → IsLine s (record { entry = note user what; long = k; after = s; to_one = []; to_other = [] })
unfolding IsEntry FitsState next
note_line s user what k long short name is knows = record {
  size_is = long;
  leaves = refl;
  short = short;
  meant = tt;
  spelled = (name, is);
  fits = knows;
  says_so = tt;
}
