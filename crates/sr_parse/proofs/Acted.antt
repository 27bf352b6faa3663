-- Readers of actions.
use Rattle.std.proofs.Common.{◌≡◌, ℕ, ◌-◌, ◌<◌, Bool, false, List, [], ◌∷◌, ◌++◌, Option, Some, None, Result, Ok, Err, refl, sym, subst, ap, ◌∙◌, inl, inr}
use Rattle.sr_ast.specs.Chains.{Chain}
use Rattle.sr_ast.specs.Actions.{chain_of}
use Rattle.sr_ast.specs.declared.expr.Expr.{Expr}
use Rattle.sr_ast.specs.declared.action.Action.{Action}
use Rattle.sr_ast.specs.declared.action.Action.TheVariants.{Set, Insert, If, IfElse}
use Rattle.sr_ast.specs.declared.keyword.Keyword.{Keyword}
use Rattle.sr_ast.specs.declared.keyword.Keyword.TheVariants as key
use Rattle.sr_parse_grammar.specs.declared.symbol.Sign.TheVariants as mark
use Rattle.sr_parse_grammar.specs.declared.symbol.Symbol.{Symbol}
use Rattle.sr_parse_reader.specs.declared.reader.Broken.{Broken}
use Rattle.sr_parse_reader.specs.declared.reader.Broken.TheVariants.{Refused}
use Rattle.sr_parse_grammar.specs.Symbols.{Symbols, first, word, IsName, IsWord, IsSign}
use Rattle.sr_parse_grammar.specs.Inner.Symbols.{behind}
use Rattle.sr_parse_grammar.specs.Listing.{Row, IsNames}
use Rattle.sr_parse_grammar.specs.Listing.Listed.{one as one_listed}
use Rattle.sr_parse_grammar.specs.Listing.Row.{none as no_row, then as and_row}
use Rattle.sr_parse_grammar.specs.Expressions.{IsExpr}
use Rattle.sr_parse_grammar.specs.Writing.{IsRow}
use Rattle.sr_parse_grammar.specs.Triggers.{Acts, IsActions}
use Rattle.sr_parse_grammar.specs.Triggers.Amount.{many}
use Rattle.sr_parse_grammar.specs.Triggers.Acts.{none, then as and_act, set, insert}
use Rattle.sr_parse_grammar.specs.Inner.Going.{Stop, Begins, is_dot, is_open, expression_goes, action_starts}
use Rattle.sr_parse_reader.specs.Inner.Reading.{Alike, Reading, Anywhere, mapped}
use Rattle.sr_parse_reader.specs.Inner.Productions.{Word, Mark, TwoWords, Reference, OneAction, Assigned, Inserted}
use Rattle.sr_parse_grammar.proofs.Steps.{Stop-at, Stop-begins}
use Rattle.sr_parse.proofs.Tabling.{Acts-when, Acts-choose}
use Rattle.sr_parse.proofs.Doing.{AtIf, AtEnd, set_in, insert_in, if_in, no_ifs, act_begins}
use Rattle.sr_parse_reader.proofs.Parts.{Seq, Sample, Leads, Casts, then, first_fails, goes_first, recast, cast, paired}
use Rattle.sr_parse_reader.proofs.Starts.{standing, lacks, none_read, word_read, word_sample, sign_sample, name_sample, expr_sample}
use Rattle.sr_parse_reader.proofs.Constants.{stayed}
use Rattle.sr_parse_reader.proofs.Loops.{Goes-on}

-- what spells a value spells what is made of it
sample_of : {A B : Type 0} (X : Symbols → A → Symbols → Type 0) (Y : Symbols → B → Symbols → Type 0) (f : A → B) → ((b : Symbols) (x : A) (a : Symbols) → X b x a → Y b (f x) a) → Sample X → Sample Y
sample_of X Y f to s = record { more = s.more; meant = s.meant; value = f s.value; spells = λ after. to (s.more ++ after) s.value after (s.spells after) }

-- ---- END IF

pub words_to : (k l : Keyword) (b : Symbols) (x : Unit {0} × Unit {0}) (a : Symbols) → Seq (Word k) (Word l) b x a → TwoWords k l b tt a
words_to k l b x a h = h.1 ∙ ap (λ (s : Symbols). word k ∷ s) h.2

pub words_back : (k l : Keyword) (b : Symbols) (y : Unit {0}) (a : Symbols) → TwoWords k l b y a → (x : Unit {0} × Unit {0}) × Seq (Word k) (Word l) b x a × (tt ≡ y)
words_back k l b y a h = ((tt, tt), (word l ∷ a, h, refl), refl)

-- ---- behind SET

abbrev pub AssignedParts : Symbols → (Option (List ℕ) × List ℕ) × (Unit {0} × Expr) → Symbols → Type 0
AssignedParts = Seq Reference (Seq (Mark mark.Equal) IsExpr)

abbrev pub assigned_of : (Option (List ℕ) × List ℕ) × (Unit {0} × Expr) → Option (List ℕ) × List ℕ × Expr
assigned_of p = (p.0.0, p.0.1, p.1.1)

pub assigned_to : (b : Symbols) (x : (Option (List ℕ) × List ℕ) × (Unit {0} × Expr)) (a : Symbols) → AssignedParts b x a → Assigned b (assigned_of x) a
assigned_to b x a h = record { equal_ = h.0; value_ = h.2.0; target = h.1; equal = h.2.1; value = h.2.2 }

pub assigned_back : (b : Symbols) (y : Option (List ℕ) × List ℕ × Expr) (a : Symbols) → Assigned b y a → (x : (Option (List ℕ) × List ℕ) × (Unit {0} × Expr)) × AssignedParts b x a × (assigned_of x ≡ y)
assigned_back b (alias, name, e) a h = (((alias, name), (tt, e)), (h.equal_, h.target, (h.value_, h.equal, h.value)), refl)

-- a column may end before a `=`
pub before_equal : Leads (Stop is_dot) (Seq (Mark mark.Equal) IsExpr) (Stop expression_goes)
before_equal b y a h q = Stop-at is_dot h.1 refl

pub equal_sample : Sample (Seq (Mark mark.Equal) IsExpr)
equal_sample = goes_first (Mark mark.Equal) IsExpr [] (sign_sample mark.Equal) expr_sample

reference_sample : Sample Reference
reference_sample = record { more = name_sample.more; meant = name_sample.meant; value = (None, name_sample.value); spells = name_sample.spells }

assigned_sample : Sample AssignedParts
assigned_sample = goes_first Reference (Seq (Mark mark.Equal) IsExpr) [] reference_sample equal_sample

-- ---- behind INSERT

abbrev pub InsertedParts : Symbols → Unit {0} × (List ℕ × (List (List ℕ) × (Unit {0} × List Expr))) → Symbols → Type 0
InsertedParts = Seq (Word key.Into) (Seq IsName (Seq IsNames (Seq (Word key.Values) IsRow)))

abbrev pub inserted_of : Unit {0} × (List ℕ × (List (List ℕ) × (Unit {0} × List Expr))) → List ℕ × List (List ℕ) × List Expr
inserted_of p = (p.1.0, p.1.1.0, p.1.1.1.1)

pub inserted_to : (b : Symbols) (x : Unit {0} × (List ℕ × (List (List ℕ) × (Unit {0} × List Expr)))) (a : Symbols) → InsertedParts b x a → Inserted b (inserted_of x) a
inserted_to b x a h = record {
  named = h.0;
  columned = h.2.0;
  valued = h.2.2.0;
  rowed = h.2.2.2.0;
  into = h.1;
  table = h.2.1;
  names = h.2.2.1;
  values = h.2.2.2.1;
  row = h.2.2.2.2;
}

pub inserted_back : (b : Symbols) (y : List ℕ × List (List ℕ) × List Expr) (a : Symbols) → Inserted b y a → (x : Unit {0} × (List ℕ × (List (List ℕ) × (Unit {0} × List Expr)))) × InsertedParts b x a × (inserted_of x ≡ y)
inserted_back b (t, columns, row) a h = ((tt, (t, (columns, (tt, row)))), (h.named, h.into, (h.columned, h.table, (h.valued, h.names, (h.rowed, h.values, h.row)))), refl)

-- names may end before VALUES
pub before_values : Leads (Stop is_open) (Seq (Word key.Values) IsRow) Anywhere
before_values b y a h q = Stop-at is_open h.1 refl

-- ( 1 )
pub given_sample : Sample IsRow
given_sample = sample_of (Seq (Mark mark.Open) (Seq IsExpr (Mark mark.Close))) IsRow (λ p. p.1.0 ∷ []) (λ b x a h. record { inside = h.0; close = h.2.0; opened = h.1; values = one_listed h.2.1; closed = h.2.2 })
    (goes_first (Mark mark.Open) (Seq IsExpr (Mark mark.Close)) [] (sign_sample mark.Open) (goes_first IsExpr (Mark mark.Close) [] expr_sample (sign_sample mark.Close)))

pub values_sample : Sample (Seq (Word key.Values) IsRow)
values_sample = goes_first (Word key.Values) IsRow [] (word_sample key.Values) given_sample

pub columns_sample : Sample (Seq IsNames (Seq (Word key.Values) IsRow))
columns_sample = goes_first IsNames (Seq (Word key.Values) IsRow) [] (record { more = []; meant = tt; value = []; spells = λ after. inl (refl, refl) }) values_sample

pub table_sample : Sample (Seq IsName (Seq IsNames (Seq (Word key.Values) IsRow)))
table_sample = goes_first IsName (Seq IsNames (Seq (Word key.Values) IsRow)) [] name_sample columns_sample

-- ---- SET and INSERT

abbrev set_of : Unit {0} × (Option (List ℕ) × List ℕ × Expr) → Action
set_of p = Set p.1.0 p.1.1 p.1.2

pub set_reads : {ifs : ℕ} {before next : Symbols} → IsWord before key.Set next → Casts (Seq (Word key.Set) Assigned) (OneAction ifs) (Stop expression_goes) (Stop expression_goes) set_of before
set_reads w = record {
  to = λ b x a h. set h.1 h.2;
  back = λ b y a alike h q.
      let at = standing b (sym alike ∙ ap first w) in
      let s = set_in h at in ((tt, (s.0, s.1, s.2)), (behind b, at, s.3), q, sym s.4);
}

abbrev insert_of : Unit {0} × (List ℕ × List (List ℕ) × List Expr) → Action
insert_of p = Insert p.1.0 p.1.1 p.1.2

pub insert_reads : {ifs : ℕ} {before next : Symbols} → IsWord before key.Insert next → Casts (Seq (Word key.Insert) Inserted) (OneAction ifs) Anywhere (Stop expression_goes) insert_of before
insert_reads w = record {
  to = λ b x a h. insert h.1 h.2;
  back = λ b y a alike h q.
      let at = standing b (sym alike ∙ ap first w) in
      let s = insert_in h at in ((tt, (s.0, s.1, s.2)), (behind b, at, s.3), tt, sym s.4);
}

-- SET old = 1
act_sample : (ifs : ℕ) → Sample (OneAction ifs)
act_sample ifs = sample_of (Seq (Word key.Set) AssignedParts) (OneAction ifs) (λ p. set_of (tt, assigned_of p.1)) (λ b x a h. set h.1 (assigned_to h.0 x.1 a h.2))
    (goes_first (Word key.Set) AssignedParts [] (word_sample key.Set) assigned_sample)

-- what is not next at one of two places that are the same
not_there : {before middle : Symbols} (k : Keyword) → middle ≡ before → ((rest : Symbols) → IsWord middle k rest → ⊥) → (rest : Symbols) → IsWord before k rest → ⊥
not_there k e absent = subst (λ (p : Symbols). (rest : Symbols) → IsWord p k rest → ⊥) e absent

-- neither SET nor INSERT is next, where no IF may stand
pub act_full : {ifs : ℕ} {before middle here : Symbols} → middle ≡ before → here ≡ middle → ((rest : Symbols) → IsWord before key.Set rest → ⊥) → ((rest : Symbols) → IsWord middle key.Insert rest → ⊥) → ifs ≡ 0
    → Reading (OneAction ifs) (Stop expression_goes) before here (Err Refused)
act_full {ifs = ifs} e f no_set no_insert no_if = none_read (OneAction ifs) (Stop expression_goes) (f ∙ e) (act_sample ifs)
    (λ there alike y rest h p. no_ifs (if_in h (λ next k. lacks alike no_set k) (λ next k. lacks alike (not_there key.Insert e no_insert) k)) no_if)

-- ---- IF

-- END IF, or ELSE and other actions before it
abbrev pub Ending : ℕ → Symbols → Option Chain → Symbols → Type 0
Ending ifs before None after = TwoWords key.End key.If before tt after
Ending ifs before (Some other) after = (next end : Symbols) × IsWord before key.Else next × IsActions (ifs - 1) next other end × TwoWords key.End key.If end tt after

abbrev pub ElseParts : ℕ → Symbols → Unit {0} × (Chain × Unit {0}) → Symbols → Type 0
ElseParts ifs = Seq (Word key.Else) (Seq (IsActions (ifs - 1)) (TwoWords key.End key.If))

other_back : (ifs : ℕ) {before next : Symbols} → IsWord before key.Else next → (b : Symbols) (y : Option Chain) (a : Symbols) → Alike before b → Ending ifs b y a → (x : Unit {0} × (Chain × Unit {0})) × ElseParts ifs b x a × Anywhere a × (Some x.1.0 ≡ y)
other_back ifs w b None a alike h = let at = standing b (sym alike ∙ ap first w) in absurd (cc)
other_back ifs w b (Some ys) a alike h = ((tt, (ys, tt)), (h.0, h.2, (h.1, h.3, h.4)), tt, refl)

pub other_reads : (ifs : ℕ) {before next : Symbols} → IsWord before key.Else next → Casts (ElseParts ifs) (Ending ifs) Anywhere Anywhere (λ p. Some p.1.0) before
other_reads ifs w = record {
  to = λ b x a h. (h.0, h.2.0, h.1, h.2.1, h.2.2);
  back = λ b y a alike h q. other_back ifs w b y a alike h;
}

end_back : (ifs : ℕ) {before : Symbols} → ((rest : Symbols) → IsWord before key.Else rest → ⊥) → (b : Symbols) (y : Option Chain) (a : Symbols) → Alike before b → Ending ifs b y a → (x : Unit {0}) × TwoWords key.End key.If b x a × Anywhere a × (None ≡ y)
end_back ifs absent b None a alike h = (tt, h, tt, refl)
end_back ifs absent b (Some ys) a alike h = absurd (lacks alike absent h.2)

pub end_reads : (ifs : ℕ) {before : Symbols} → ((rest : Symbols) → IsWord before key.Else rest → ⊥) → Casts (TwoWords key.End key.If) (Ending ifs) Anywhere Anywhere (λ x. None) before
end_reads ifs absent = record { to = λ b x a h. h; back = λ b y a alike h q. end_back ifs absent b y a alike h }

-- where actions may end
pub before_end : Leads (Stop action_starts) (TwoWords key.End key.If) Anywhere
before_end b y a h q = Stop-at action_starts h refl

pub before_ending : (ifs : ℕ) → Leads (Stop action_starts) (Ending ifs) Anywhere
before_ending ifs b None a h q = Stop-at action_starts h refl
before_ending ifs b (Some other) a h q = Stop-at action_starts h.2 refl

abbrev pub Taken : ℕ → Symbols → Chain × Option Chain → Symbols → Type 0
Taken ifs = Seq (IsActions (ifs - 1)) (Ending ifs)

abbrev pub IfParts : ℕ → Symbols → Unit {0} × (Expr × (Unit {0} × (Chain × Option Chain))) → Symbols → Type 0
IfParts ifs = Seq (Word key.If) (Seq IsExpr (Seq (Word key.Then) (Taken ifs)))

abbrev pub choice : Expr → Chain → Option Chain → Action
choice c taken None = If c taken
choice c taken (Some other) = IfElse c taken other

abbrev pub if_of : Unit {0} × (Expr × (Unit {0} × (Chain × Option Chain))) → Action
if_of p = choice p.1.0 p.1.1.1.0 p.1.1.1.1

if_to : {ifs : ℕ} → 0 < ifs → (b : Symbols) (x : Unit {0} × (Expr × (Unit {0} × (Chain × Option Chain)))) (a : Symbols) → IfParts ifs b x a → OneAction ifs b (if_of x) a
if_to some b (u, (c, (v, (taken, None)))) a h = Acts-when some h.1 h.2.1 h.2.2.1 h.2.2.2.1 h.2.2.2.2
if_to some b (u, (c, (v, (taken, Some other)))) a h = let e = h.2.2.2.2 in Acts-choose some h.1 h.2.1 h.2.2.1 h.2.2.2.1 e.2 e.3 e.4

ending_of : (ifs : ℕ) (c : Expr) (taken : Chain) (here : Symbols) (x : Action) (after : Symbols) → AtEnd ifs c taken here x after → (o : Option Chain) × Ending ifs here o after × (choice c taken o ≡ x)
ending_of ifs c taken here x after (inl (e, is)) = (None, e, sym is)
ending_of ifs c taken here x after (inr (other, ys, end, w, acts, f, is)) = (Some (chain_of ys), (other, end, w, record { actions = ys; is = refl; acts = acts }, f), sym is)

if_parts : {ifs : ℕ} {b a : Symbols} {y : Action} → AtIf ifs b y a → (x : Unit {0} × (Expr × (Unit {0} × (Chain × Option Chain)))) × IfParts ifs b x a × Anywhere a × (if_of x ≡ y)
if_parts {ifs = ifs} {a = a} {y = y} at =
    let t = at.test in let n = t.then_ in let k = n.taken in
    let e = ending_of ifs t.test (chain_of k.actions) k.end y a k.ends in
    ((tt, (t.test, (tt, (chain_of k.actions, e.0)))), (at.next, at.if_, (t.next, t.reads, (n.next, n.then_, (k.end, record { actions = k.actions; is = refl; acts = k.acts }, e.1)))), tt, e.2)

if_reads : {ifs : ℕ} {before : Symbols} → 0 < ifs → ((rest : Symbols) → IsWord before key.Set rest → ⊥) → ((rest : Symbols) → IsWord before key.Insert rest → ⊥) → Casts (IfParts ifs) (OneAction ifs) Anywhere (Stop expression_goes) if_of before
if_reads some no_set no_insert = record {
  to = λ b x a h. if_to some b x a h;
  back = λ b y a alike h q. if_parts (if_in h (λ rest k. lacks alike no_set k) (λ rest k. lacks alike no_insert k));
}

-- neither SET nor INSERT is next
pub if_read : {ifs : ℕ} {before middle start here : Symbols} {r : Result (Unit {0} × (Expr × (Unit {0} × (Chain × Option Chain)))) Broken} → 0 < ifs → middle ≡ before → start ≡ middle → ((rest : Symbols) → IsWord before key.Set rest → ⊥)
    → ((rest : Symbols) → IsWord middle key.Insert rest → ⊥) → Reading (IfParts ifs) Anywhere start here r → Reading (OneAction ifs) (Stop expression_goes) before here (mapped if_of r)
if_read some e f no_set no_insert r = cast (if_reads some no_set (not_there key.Insert e no_insert)) (stayed (f ∙ e) r)

-- ---- an IF, from part to part

end_sample : Sample (TwoWords key.End key.If)
end_sample = sample_of (Seq (Word key.End) (Word key.If)) (TwoWords key.End key.If) (λ p. tt) (words_to key.End key.If) (goes_first (Word key.End) (Word key.If) [] (word_sample key.End) (word_sample key.If))

ending_sample : (ifs : ℕ) → Sample (Ending ifs)
ending_sample ifs = record { more = end_sample.more; meant = end_sample.meant; value = None; spells = end_sample.spells }

taken_sample : (ifs : ℕ) → Sample (Taken ifs)
taken_sample ifs = goes_first (IsActions (ifs - 1)) (Ending ifs) [] (record { more = []; meant = tt; value = chain_of []; spells = λ after. record { actions = []; is = refl; acts = none } }) (ending_sample ifs)

then_sample : (ifs : ℕ) → Sample (Seq (Word key.Then) (Taken ifs))
then_sample ifs = goes_first (Word key.Then) (Taken ifs) [] (word_sample key.Then) (taken_sample ifs)

test_sample : (ifs : ℕ) → Sample (Seq IsExpr (Seq (Word key.Then) (Taken ifs)))
test_sample ifs = goes_first IsExpr (Seq (Word key.Then) (Taken ifs)) [] expr_sample (then_sample ifs)

before_then : (ifs : ℕ) → Leads (Stop expression_goes) (Seq (Word key.Then) (Taken ifs)) Anywhere
before_then ifs b y a h q = Stop-at expression_goes h.1 refl

pub if_missed : (ifs : ℕ) {before here : Symbols} {e : Broken} → Reading (Word key.If) Anywhere before here (Err e) → Reading (IfParts ifs) Anywhere before here (Err e)
if_missed ifs i = first_fails _ _ (λ b y a h q. tt) (test_sample ifs) i

pub test_missed : (ifs : ℕ) {before middle here : Symbols} {e : Broken} → Reading (Word key.If) Anywhere before middle (Ok tt) → Reading IsExpr (Stop expression_goes) middle here (Err e) → Reading (IfParts ifs) Anywhere before here (Err e)
test_missed ifs i c = then (λ b y a h q. tt) i (first_fails _ _ (before_then ifs) (then_sample ifs) c)

pub then_missed : (ifs : ℕ) {before middle next here : Symbols} {c : Expr} {e : Broken} → Reading (Word key.If) Anywhere before middle (Ok tt) → Reading IsExpr (Stop expression_goes) middle next (Ok c) → Reading (Word key.Then) Anywhere next here (Err e)
    → Reading (IfParts ifs) Anywhere before here (Err e)
then_missed ifs i c t = then (λ b y a h q. tt) i (then (before_then ifs) c (first_fails _ _ (λ b y a h q. tt) (taken_sample ifs) t))

-- the rest of an IF, behind THEN
pub if_rest : (ifs : ℕ) {before middle next begun here : Symbols} {c : Expr} {r : Result (Chain × Option Chain) Broken} → Reading (Word key.If) Anywhere before middle (Ok tt) → Reading IsExpr (Stop expression_goes) middle next (Ok c)
    → Reading (Word key.Then) Anywhere next begun (Ok tt) → Reading (Taken ifs) Anywhere begun here r → Reading (IfParts ifs) Anywhere before here (paired tt (paired c (paired tt r)))
if_rest ifs i c t r = then (λ b y a h q. tt) i (then (before_then ifs) c (then (λ b y a h q. tt) t r))

pub taken_missed : (ifs : ℕ) {before here : Symbols} {e : Broken} → Reading (IsActions (ifs - 1)) (Stop action_starts) before here (Err e) → Reading (Taken ifs) Anywhere before here (Err e)
taken_missed ifs r = first_fails _ _ (before_ending ifs) (ending_sample ifs) r

pub other_missed : (ifs : ℕ) {before middle next here : Symbols} {xs : Chain} {e : Broken} → Reading (IsActions (ifs - 1)) (Stop action_starts) before middle (Ok xs) → IsWord middle key.Else next → Reading (IsActions (ifs - 1)) (Stop action_starts) next here (Err e)
    → Reading (Taken ifs) Anywhere before here (Err e)
other_missed ifs x w y = then (before_ending ifs) x (cast (other_reads ifs w) (then (λ b y a h q. tt) (word_read w) (first_fails _ _ before_end end_sample y)))

pub other_ended : (ifs : ℕ) {before middle next end here : Symbols} {xs ys : Chain} {r : Result (Unit {0}) Broken} → Reading (IsActions (ifs - 1)) (Stop action_starts) before middle (Ok xs) → IsWord middle key.Else next → Reading (IsActions (ifs - 1)) (Stop action_starts) next end (Ok ys)
    → Reading (TwoWords key.End key.If) Anywhere end here r → Reading (Taken ifs) Anywhere before here (paired xs (mapped (λ (p : Unit {0} × (Chain × Unit {0})). Some p.1.0) (paired (tt {0}) (paired ys r))))
other_ended ifs x w y f = then (before_ending ifs) x (cast (other_reads ifs w) (then (λ b y a h q. tt) (word_read w) (then before_end y f)))

pub taken_ended : (ifs : ℕ) {before middle here : Symbols} {xs : Chain} {r : Result (Unit {0}) Broken} → Reading (IsActions (ifs - 1)) (Stop action_starts) before middle (Ok xs) → ((rest : Symbols) → IsWord middle key.Else rest → ⊥) → Reading (TwoWords key.End key.If) Anywhere middle here r
    → Reading (Taken ifs) Anywhere before here (paired xs (mapped (λ u. None) r))
taken_ended ifs x absent f = then (before_ending ifs) x (cast (end_reads ifs absent) f)

-- ---- actions, one behind the other

-- an action with its `;`
abbrev pub Ended : ℕ → Symbols → Action → Symbols → Type 0
Ended ifs before x after = (middle : Symbols) × OneAction ifs before x middle × IsSign middle mark.Semicolon after

ended_to : (ifs : ℕ) (b : Symbols) (x : Action × Unit {0}) (a : Symbols) → Seq (OneAction ifs) (Mark mark.Semicolon) b x a → Ended ifs b x.0 a
ended_to ifs b x a h = h

ended_back : (ifs : ℕ) (b : Symbols) (y : Action) (a : Symbols) → Ended ifs b y a → (x : Action × Unit {0}) × Seq (OneAction ifs) (Mark mark.Semicolon) b x a × (x.0 ≡ y)
ended_back ifs b y a h = ((y, tt), h, refl)

before_semicolon : Leads (Stop expression_goes) (Mark mark.Semicolon) Anywhere
before_semicolon b y a h q = Stop-at expression_goes h refl

pub ended_missed : (ifs : ℕ) {before here : Symbols} {e : Broken} → Reading (OneAction ifs) (Stop expression_goes) before here (Err e) → Reading (Ended ifs) Anywhere before here (Err e)
ended_missed ifs r = recast (Ended ifs) (λ p. p.0) (ended_to ifs) (ended_back ifs) (first_fails _ _ before_semicolon (sign_sample mark.Semicolon) r)

pub semicolon_missed : (ifs : ℕ) {before middle here : Symbols} {x : Action} {e : Broken} → Reading (OneAction ifs) (Stop expression_goes) before middle (Ok x) → Reading (Mark mark.Semicolon) Anywhere middle here (Err e) → Reading (Ended ifs) Anywhere before here (Err e)
semicolon_missed ifs r s = recast (Ended ifs) (λ p. p.0) (ended_to ifs) (ended_back ifs) (then before_semicolon r s)

pub ended_read : (ifs : ℕ) {before middle here : Symbols} {x : Action} → Reading (OneAction ifs) (Stop expression_goes) before middle (Ok x) → Reading (Mark mark.Semicolon) Anywhere middle here (Ok tt) → Reading (Ended ifs) Anywhere before here (Ok x)
ended_read ifs r s = recast (Ended ifs) (λ p. p.0) (ended_to ifs) (ended_back ifs) (then before_semicolon r s)

row_acts : {ifs : ℕ} {before after : Symbols} {xs : List Action} → Row (Ended ifs) before xs after → Acts many ifs before xs after
row_acts no_row = none
row_acts (and_row r h) = and_act (row_acts r) h.1 h.2

acts_row : {ifs : ℕ} {before after : Symbols} {xs : List Action} → Acts many ifs before xs after → Row (Ended ifs) before xs after
acts_row none = no_row
acts_row (and_act {middle = m} {next = n} hs h s) = and_row (acts_row hs) (n, h, s)

pub actions_to : (ifs : ℕ) (b : Symbols) (xs : List Action) (a : Symbols) → Row (Ended ifs) b xs a → IsActions ifs b (chain_of xs) a
actions_to ifs b xs a h = record { actions = xs; is = refl; acts = row_acts h }

pub actions_back : (ifs : ℕ) (b : Symbols) (y : Chain) (a : Symbols) → IsActions ifs b y a → (xs : List Action) × Row (Ended ifs) b xs a × (chain_of xs ≡ y)
actions_back ifs b y a h = (h.actions, acts_row h.acts, sym h.is)

-- an action is next: the actions do not end
pub begins_on : (test : Symbol → Bool) (here : Symbols) → Begins test here → Goes-on (Stop test) here
begins_on test [] b = λ there alike s. b
begins_on test (t ∷ here) b = λ there alike s. Stop-begins test (standing there (sym alike)) b s

stop_alike : (test : Symbol → Bool) (here there : Symbols) → Alike here there → Stop test here → Stop test there
stop_alike test here [] alike s = tt
stop_alike test [] (t ∷ there) alike s = absurd (cc)
stop_alike test (u ∷ here) (t ∷ there) alike s = let same : u ≡ t = cc in subst (λ (v : Symbol). test v ≡ false) same s

-- none is next
pub no_act : (ifs : ℕ) (here : Symbols) → Stop action_starts here → (there : Symbols) → Alike here there → (x : Action) (next : Symbols) → Ended ifs there x next → ⊥
no_act ifs here s there alike x next h = act_begins h.1 (stop_alike action_starts here there alike s)
