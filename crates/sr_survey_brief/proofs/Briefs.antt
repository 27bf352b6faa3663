-- What is read in brief.
use Rattle.std.proofs.Common.{◌≡◌, ℕ, suc, ◌-◌, ◌+◌, ◌^◌, ◌≤◌, ◌<◌, true, List, [], ◌∷◌, ◌++◌, length, refl, sym, ap, subst, ◌∙◌, append_assoc, arith, inl, inr, Result, Ok, Err}
use Rattle.sr_base.specs.declared.broken.Bad.{Bad}
use Rattle.sr_base.specs.declared.broken.Bad.TheVariants as bad
use Rattle.sr_logform.specs.Inner.Entries.{IsReadWhole}
use Rattle.std.specs.Int.{w32, to_be_bytes}
use Rattle.std.specs.List.{flat_map, AllByRecursion}
use Rattle.std.proofs.lemmas.List.{append-nil}
use Rattle.sr_base.specs.declared.offset.Offset.{Offset}
use Rattle.sr_base.specs.declared.value.Value.{Value}
use Rattle.sr_base.specs.declared.value.Value.TheVariants.{Null}
use Rattle.sr_base.specs.Fields.{name_spelling, IsName, bytes_spelling, list_spelling, IsListOf}
use Rattle.sr_base.specs.Values.{IsValue, offset_spelling, IsOffset}
use Rattle.sr_logform.specs.declared.entry.Entry.{Entry}
use Rattle.sr_logform.specs.declared.entry.Entry.TheVariants.{Own, From, Ddl, Sync, Pass, Note}
use Rattle.sr_logform.specs.declared.op.Op.{Op}
use Rattle.sr_logform.specs.declared.op.Op.TheVariants.{Insert, Remove, Set, Clear, Exec}
use Rattle.sr_logform.specs.declared.outcome.Outcome.{Outcome}
use Rattle.sr_logform.specs.Entries.{entry_spelling, judged_spelling, table_spelling, flag_spelling, IsEntry}
use Rattle.sr_logform.specs.Ops.{op_spelling, OpHas, column_spelling, update_spelling, IsOp, AreValues}
use Rattle.sr_logform.specs.Outcomes.{change_spelling, note_spelling, outcome_spelling, IsOutcome}
use Rattle.sr_survey_brief.specs.Inner.Briefs.{is_passed, IsBriefOp, IsBriefOf, AreBrief, IsJudged, AreTakenBrief, IsTaken, IsBrief, IsReadBrief}
use Rattle.sr_survey_brief.specs.Inner.Passing.{IsPast, IsColumn}
use Rattle.sr_survey_brief.proofs.Past.{first_is, rest_is}

pub whole_brief : (found : Result Entry Bad) (entry : Entry) → IsReadWhole found entry → IsReadBrief found entry
whole_brief (Ok found) entry is = inl is
whole_brief (Err bad.Memory) entry is = tt
whole_brief (Err (bad.Field at)) entry is = absurd is

-- ---- ops

as_columns : (values : List (List ℕ × Value)) → AllByRecursion (λ c. IsName c.0 × (IsValue c.1 × ¬ (c.1 ≡ Null))) values → AllByRecursion IsColumn values
as_columns [] h = tt
as_columns (value ∷ values) h = ((h.0.0, h.0.1.0), as_columns values h.1)

pub insert_passed : (bytes rest left : List ℕ) → IsPast IsName name_spelling bytes rest → IsPast (IsListOf IsColumn) (list_spelling column_spelling) rest left
    → (table : List ℕ) (values : List (List ℕ × Value)) (more : List ℕ) → IsName table → AreValues IsName IsValue values → bytes ≡ (name_spelling table ++ list_spelling column_spelling values) ++ more → left ≡ more
insert_passed bytes rest left name columns table values more h k e =
    columns values more (k.items.0, as_columns values k.items.1) (name table (list_spelling column_spelling values ++ more) h (e ∙ append_assoc (name_spelling table) (list_spelling column_spelling values) more))

pub op_passed : (bytes rest left : List ℕ) (tag : ℕ) (brief : Op) → bytes ≡ tag ∷ rest → tag ≡ 1 → is_passed brief ≡ true
    → ((table : List ℕ) (values : List (List ℕ × Value)) (more : List ℕ) → IsName table → AreValues IsName IsValue values → rest ≡ (name_spelling table ++ list_spelling column_spelling values) ++ more → left ≡ more)
    → (op : Op) (more : List ℕ) → IsOp op → bytes ≡ op_spelling op ++ more → IsBriefOp op brief × (left ≡ more)
unfolding op_spelling OpHas
op_passed bytes rest left tag brief is at passed behind (Insert table values) more h e =
    (inr (refl, passed), behind table values more h.0 h.1 (rest_is tag 1 rest ((name_spelling table ++ list_spelling column_spelling values) ++ more) (sym is ∙ e)))
op_passed bytes rest left tag brief is at passed behind (Remove table key) more h e =
    absurd (omega (arith, sym at ∙ first_is tag 2 rest ((name_spelling table ++ list_spelling column_spelling key) ++ more) (sym is ∙ e)))
op_passed bytes rest left tag brief is at passed behind (Set table key columns) more h e =
    absurd (omega (arith, sym at ∙ first_is tag 3 rest ((name_spelling table ++ list_spelling column_spelling key ++ list_spelling update_spelling columns) ++ more) (sym is ∙ e)))
op_passed bytes rest left tag brief is at passed behind (Clear table) more h e = absurd (omega (arith, sym at ∙ first_is tag 4 rest (name_spelling table ++ more) (sym is ∙ e)))
op_passed bytes rest left tag brief is at passed behind (Exec text) more h e = absurd (omega (arith, sym at ∙ first_is tag 5 rest (bytes_spelling text ++ more) (sym is ∙ e)))

pub op_read : (bytes left : List ℕ) (brief : Op) → ((op : Op) (more : List ℕ) → IsOp op → bytes ≡ op_spelling op ++ more → (brief ≡ op) × (left ≡ more))
    → (op : Op) (more : List ℕ) → IsOp op → bytes ≡ op_spelling op ++ more → IsBriefOp op brief × (left ≡ more)
op_read bytes left brief read op more h e = let r = read op more h e in (inl r.0, r.1)

pub judged_brief : (bytes rest left : List ℕ) (op : Op) (outcome : Outcome) → ((o : Op) (more : List ℕ) → IsOp o → bytes ≡ op_spelling o ++ more → IsBriefOp o op × (rest ≡ more))
    → ((o : Outcome) (more : List ℕ) → IsOutcome o → rest ≡ outcome_spelling o ++ more → (outcome ≡ o) × (left ≡ more))
    → (judged : Op × Outcome) (more : List ℕ) → IsJudged judged → bytes ≡ judged_spelling judged ++ more → IsBriefOf judged (op, outcome) × (left ≡ more)
judged_brief bytes rest left op outcome first second judged more h e =
    let one = first judged.0 (outcome_spelling judged.1 ++ more) h.0 (e ∙ append_assoc (op_spelling judged.0) (outcome_spelling judged.1) more) in
    let two = second judged.1 more h.1 one.1 in
    ((one.0, two.0), two.1)

-- ---- so many ops, one after the other

pub record StillBrief (ops briefs : List (Op × Outcome)) (here rest : List ℕ) (many : ℕ) : Type 0 where
  pub done : List (Op × Outcome)
  pub more : List (Op × Outcome)
  pub ops_is : ops ≡ done ++ more
  pub are : AreBrief done briefs
  pub here_is : here ≡ flat_map judged_spelling more ++ rest
  pub fit : AllByRecursion IsJudged more
  pub size : length more ≡ many

-- of so many ops at the front of bytes all but so many, which stand here, are read in brief
abbrev pub Briefly : ℕ → List ℕ → List (Op × Outcome) → List ℕ → ℕ → Type 0
Briefly count bytes briefs here many = (ops : List (Op × Outcome)) (rest : List ℕ) → length ops ≡ count → AllByRecursion IsJudged ops → bytes ≡ flat_map judged_spelling ops ++ rest → StillBrief ops briefs here rest many

pub briefly_none : (count : ℕ) (bytes : List ℕ) → Briefly count bytes [] bytes (count - 0)
briefly_none count bytes ops rest size fit e = record { done = []; more = ops; ops_is = refl; are = tt; here_is = e; fit = fit; size = size ∙ omega arith }

one_more : (done briefs : List (Op × Outcome)) (judged brief : Op × Outcome) → AreBrief done briefs → IsBriefOf judged brief → AreBrief (done ++ judged ∷ []) (briefs ++ brief ∷ [])
one_more [] [] judged brief are is = (is, tt)
one_more [] (b ∷ briefs) judged brief are is = absurd are
one_more (d ∷ done) [] judged brief are is = absurd are
one_more (d ∷ done) (b ∷ briefs) judged brief are is = (are.0, one_more done briefs judged brief are.1 is)

one_less : (ops briefs : List (Op × Outcome)) (here after rest : List ℕ) (many : ℕ) (brief : Op × Outcome)
    → ((judged : Op × Outcome) (more : List ℕ) → IsJudged judged → here ≡ judged_spelling judged ++ more → IsBriefOf judged brief × (after ≡ more))
    → (done left : List (Op × Outcome)) → ops ≡ done ++ left → AreBrief done briefs → here ≡ flat_map judged_spelling left ++ rest → AllByRecursion IsJudged left → length left ≡ suc many
    → StillBrief ops (briefs ++ brief ∷ []) after rest many
one_less ops briefs here after rest many brief read done [] is are e fit size = absurd (omega (arith, size))
one_less ops briefs here after rest many brief read done (judged ∷ left) is are e fit size =
    let r = read judged (flat_map judged_spelling left ++ rest) fit.0 (e ∙ append_assoc (judged_spelling judged) (flat_map judged_spelling left) rest) in
    record {
      done = done ++ judged ∷ [];
      more = left;
      ops_is = is ∙ sym (append_assoc done (judged ∷ []) left);
      are = one_more done briefs judged brief are r.0;
      here_is = r.1;
      fit = fit.1;
      size = omega (arith, size);
    }

pub briefly_one : (count i : ℕ) (bytes here after : List ℕ) (briefs : List (Op × Outcome)) (brief : Op × Outcome) → i < count
    → ((judged : Op × Outcome) (more : List ℕ) → IsJudged judged → here ≡ judged_spelling judged ++ more → IsBriefOf judged brief × (after ≡ more))
    → Briefly count bytes briefs here (count - i) → Briefly count bytes (briefs ++ brief ∷ []) after (count - (i + 1))
briefly_one count i bytes here after briefs brief lt read so_far ops rest size fit e =
    let s = so_far ops rest size fit e in
    one_less ops briefs here after rest (count - (i + 1)) brief read s.done s.more s.ops_is s.are s.here_is s.fit (s.size ∙ omega arith)

no_more : (ops briefs done left : List (Op × Outcome)) → ops ≡ done ++ left → length left ≡ 0 → AreBrief done briefs → AreBrief ops briefs
no_more ops briefs done [] is size are = subst (λ (xs : List (Op × Outcome)). AreBrief xs briefs) (sym (is ∙ append-nil done)) are
no_more ops briefs done (judged ∷ left) is size are = absurd (omega (arith, size))

pub briefly_all : (count i : ℕ) (bytes here : List ℕ) (briefs : List (Op × Outcome)) → count ≤ i → Briefly count bytes briefs here (count - i)
    → (ops : List (Op × Outcome)) (rest : List ℕ) → length ops ≡ count → AllByRecursion IsJudged ops → bytes ≡ flat_map judged_spelling ops ++ rest → AreBrief ops briefs
briefly_all count i bytes here briefs le so_far ops rest size fit e =
    let s = so_far ops rest size fit e in
    no_more ops briefs s.done s.more s.ops_is (s.size ∙ omega arith) s.are

pub ops_brief : (bytes here : List ℕ) (count : ℕ) (briefs : List (Op × Outcome)) → ((value : ℕ) (more : List ℕ) → value < 2 ^ 32 → bytes ≡ to_be_bytes w32 value ++ more → (count ≡ value) × (here ≡ more))
    → ((ops : List (Op × Outcome)) (rest : List ℕ) → length ops ≡ count → AllByRecursion IsJudged ops → here ≡ flat_map judged_spelling ops ++ rest → AreBrief ops briefs) → AreTakenBrief bytes briefs
ops_brief bytes here count briefs read so ops rest h e =
    let r = read (length ops) (flat_map judged_spelling ops ++ rest) h.items.0 (e ∙ append_assoc (to_be_bytes w32 (length ops)) (flat_map judged_spelling ops) rest) in
    so ops rest (sym r.0) h.items.1 r.1

-- ---- entries

pub taken_brief : (bytes first second third user : List ℕ) (tag : ℕ) (at : Offset) (briefs : List (Op × Outcome)) → bytes ≡ tag ∷ first → tag ≡ 2
    → ((name : List ℕ) (more : List ℕ) → IsName name → first ≡ name_spelling name ++ more → (user ≡ name) × (second ≡ more))
    → ((offset : Offset) (more : List ℕ) → IsOffset offset → second ≡ offset_spelling offset ++ more → (at ≡ offset) × (third ≡ more))
    → AreTakenBrief third briefs → (entry : Entry) → IsEntry entry → bytes ≡ entry_spelling entry → IsBrief entry (From user at briefs)
unfolding entry_spelling IsEntry
taken_brief bytes first second third user tag at briefs is told named placed are (Own changes) h e = absurd (omega (arith, sym told ∙ first_is tag 1 first (list_spelling change_spelling changes) (sym is ∙ e)))
taken_brief bytes first second third user tag at briefs is told named placed are (From name offset ops) h e =
    let one = named name (offset_spelling offset ++ list_spelling judged_spelling ops) h.0 (rest_is tag 2 first (name_spelling name ++ (offset_spelling offset ++ list_spelling judged_spelling ops)) (sym is ∙ e ∙ ap (λ (xs : List ℕ). 2 ∷ xs) (append_assoc (name_spelling name) (offset_spelling offset) (list_spelling judged_spelling ops)))) in
    let two = placed offset (list_spelling judged_spelling ops) h.1 one.1 in
    inr (record {
      user = name;
      at = offset;
      ops = ops;
      briefs = briefs;
      entry_is = refl;
      brief_is = ap (λ (x : List ℕ). From x at briefs) one.0 ∙ ap (λ (x : Offset). From name x briefs) two.0;
      are = are ops [] h.2 (two.1 ∙ sym (append-nil (list_spelling judged_spelling ops)));
    })
taken_brief bytes first second third user tag at briefs is told named placed are (Ddl text) h e = absurd (omega (arith, sym told ∙ first_is tag 3 first (bytes_spelling text) (sym is ∙ e)))
taken_brief bytes first second third user tag at briefs is told named placed are (Sync to tables) h e = absurd (omega (arith, sym told ∙ first_is tag 4 first (name_spelling to ++ list_spelling table_spelling tables) (sym is ∙ e)))
taken_brief bytes first second third user tag at briefs is told named placed are (Pass users only text changes) h e =
    absurd (omega (arith, sym told ∙ first_is tag 5 first (list_spelling name_spelling users ++ flag_spelling only ++ bytes_spelling text ++ list_spelling change_spelling changes) (sym is ∙ e)))
taken_brief bytes first second third user tag at briefs is told named placed are (Note about note) h e = absurd (omega (arith, sym told ∙ first_is tag 6 first (name_spelling about ++ note_spelling note) (sym is ∙ e)))
