-- Readers of statements: the first words tell which one is read.
use Rattle.std.proofs.Common.{◌≡◌, Bool, true, false, [], ◌∷◌, Option, None, Some, Result, Ok, Err, refl, sym, ap, ◌∙◌, inl, inr, IsTrue, IsFalse}
use Rattle.std.specs.Prelude.{IsErr, IsErrAnd}
use Rattle.sr_ast.specs.declared.stmt.Stmt.{Stmt}
use Rattle.sr_ast.specs.declared.stmt.Stmt.TheVariants as stmt
use Rattle.sr_ast.specs.declared.form.Form.{Form}
use Rattle.sr_ast.specs.declared.form.Form.TheVariants as forms
use Rattle.sr_ast.specs.declared.keyword.Keyword.{Keyword}
use Rattle.sr_ast.specs.declared.keyword.Keyword.TheVariants as key
use Rattle.sr_parse_grammar.specs.declared.symbol.Symbol.TheVariants as symbol
use Rattle.sr_parse_reader.specs.declared.reader.Broken.{Broken}
use Rattle.sr_parse_reader.specs.declared.reader.Broken.TheVariants.{Refused}
use Rattle.sr_parse_grammar.specs.Symbols.{Symbols, first, word, IsWord}
use Rattle.sr_parse_grammar.specs.Inner.Symbols.{behind}
use Rattle.sr_parse_grammar.specs.Forms.{words, led}
use Rattle.sr_parse_grammar.specs.Inner.Forms.{word_in, form_behind, form_of, form_at, past}
use Rattle.sr_parse_grammar.specs.Scripts.{IsWork, Made, IsRest, IsStatement}
use Rattle.sr_parse_grammar.specs.Inner.Going.{Ends}
use Rattle.sr_parse_reader.specs.Inner.Reading.{Alike, Reading, Anywhere, mapped}
use Rattle.sr_parse_reader.specs.Inner.Reading.Reading.{read, refused, memory}
use Rattle.sr_parse_reader.specs.Inner.Productions.{Work}
use Rattle.sr_parse_grammar.proofs.Steps.{Stop-begins, two_parts}
use Rattle.sr_parse_grammar.proofs.Lists.{Ends-stop}
use Rattle.sr_parse_grammar.proofs.Statements.{is_work}
use Rattle.sr_parse_grammar.proofs.Forms.{told, as_form, led_same, opens, none_behind}
use Rattle.sr_parse_reader.proofs.Optionals.{Lacks, behind_word}
use Rattle.sr_parse_reader.proofs.Parts.{Sample, Casts, cast, from, handed, valued}
use Rattle.sr_parse_reader.proofs.Starts.{none_read, nothing_read, standing, lacks, word_read, meant_word}

-- ---- [WORK]

pub work_read : (b : Bool) {before here : Symbols} → (IsTrue b → IsWord before key.Work here) → (IsFalse b → Lacks key.Work before) → (IsFalse b → here ≡ before) → Reading Work Ends before here (Ok tt)
work_read true {before = before} found absent kept = cast (record { to = λ b x a w. inr w; back = back }) (word_read (found refl))
  where
    back : (b : Symbols) (y : Unit {0}) (a : Symbols) → Alike before b → IsWork b a → Ends a → (x : Unit {0}) × IsWord b key.Work a × Anywhere a × (tt ≡ y)
    back b y a alike (inl e) q = absurd (Stop-begins is_work (sym e ∙ standing b (sym alike ∙ ap first (found refl))) refl (Ends-stop is_work a refl q))
    back b y a alike (inr w) q = (tt, w, tt, refl)
work_read false {before = before} found absent kept = nothing_read Work Ends tt (kept refl) (λ after. inl refl) only
  where
    only : (there : Symbols) → Alike before there → (y : Unit {0}) (rest : Symbols) → IsWork there rest → Ends rest → (tt ≡ y) × (there ≡ rest)
    only there alike y rest (inl e) q = (refl, e)
    only there alike y rest (inr w) q = absurd (lacks alike (absent refl) w)

-- ---- the words of a statement

-- another production that reads the same where the symbols begin alike
same_read : {A : Type 0} {X Y : Symbols → A → Symbols → Type 0} {P Q : Symbols → Type 0} {before here : Symbols} {r : Result A Broken} → Casts X Y P Q (λ x. x) before → Reading X P before here r → Reading Y Q before here r
same_read c memory = memory
same_read c (refused r) = cast c (refused r)
same_read c (read r) = cast c (read r)

abbrev Led : Option Keyword → (Symbols → Stmt → Symbols → Type 0) → Symbols → Stmt → Symbols → Type 0
Led second X before s after = (next : Symbols) × (before ≡ led second next) × X next s after

led_read : (second : Option Keyword) (X : Symbols → Stmt → Symbols → Type 0) {before here : Symbols} {r : Result Stmt Broken} → before ≡ led second (past second before) → Reading X Ends (past second before) here r → Reading (Led second X) Ends before here r
led_read None X e h = same_read (record { to = λ b x a i. (b, refl, i); back = λ b y a alike i q. (y, from X (sym i.1) i.2, q, refl) }) h
led_read (Some k) X e h = behind_word e h

-- behind the first word, the form is told by the symbol that is next
behind_first : (k : Keyword) (f : Form) (before : Symbols) {here : Symbols} {r : Result Stmt Broken} → form_behind k (word_in (first before)) ≡ Some f → Reading (IsRest f) Ends (past (words f).1 before) here r
    → Reading (λ b s a. IsStatement (word k ∷ b) s a) Ends before here r
behind_first k f before e h = let o = opens k before f e in same_read (record { to = λ b x a i. (f, (i.0, two_parts (λ (k : Keyword) (b : Symbols). word k ∷ b) o.0 i.1, i.2)); back = back }) (led_read (words f).1 (IsRest f) o.1 h)
  where
    back : (b : Symbols) (y : Stmt) (a : Symbols) → Alike before b → IsStatement (word k ∷ b) y a → Ends a → (x : Stmt) × Led (words f).1 (IsRest f) b x a × Ends a × (x ≡ y)
    back b y a alike i q =
        let z = as_form i.0 f (word k ∷ b) y a (sym (told i.0 (word k ∷ b) y a i.1) ∙ (ap (λ s. form_behind k (word_in s)) (sym alike) ∙ e)) i.1 in
        (y, (z.0, led_same None z.1, z.2), q, refl)

-- the words were taken, and what stands behind them was read
pub stated : (f : Form) (before : Symbols) {here : Symbols} {r : Result Stmt Broken} → form_at before ≡ Some f → Reading (IsRest f) Ends (past (words f).1 (behind before)) here r → Reading IsStatement Ends before here r
stated f (symbol.Keyword k ∷ next) e h = same_read (record { to = λ b x a i. from IsStatement (sym i.1) i.2; back = back }) (behind_word refl (behind_first k f next e h))
  where
    back : (b : Symbols) (y : Stmt) (a : Symbols) → Alike (word k ∷ next) b → IsStatement b y a → Ends a → (x : Stmt) × ((m : Symbols) × IsWord b k m × IsStatement (word k ∷ m) x a) × Ends a × (x ≡ y)
    back b y a alike i q = let w = standing b (sym alike) in (y, (behind b, w, from IsStatement w i), q, refl)
stated f _ e h = absurd (cc)

-- COMMIT
commit_sample : Sample IsStatement
commit_sample = record { more = word key.Commit ∷ []; meant = (meant_word key.Commit, tt); value = stmt.Commit; spells = λ after. (forms.Commit, (after, refl, (tt, refl, inl refl))) }

-- no statement begins here
pub none_stated : {before here : Symbols} → here ≡ before → form_at before ≡ None → Reading IsStatement Ends before here (Err Refused)
none_stated {before = before} e n = none_read IsStatement Ends e commit_sample none
  where
    none : (there : Symbols) → Alike before there → (y : Stmt) (rest : Symbols) → IsStatement there y rest → Ends rest → ⊥
    none there alike y rest h q =
        let after : Symbols → Option Keyword = λ s. word_in (first (behind s)) in
        let m : form_of (word_in (first there)) (after before) ≡ None = ap (λ s. form_of (word_in s) (after before)) (sym alike) ∙ n in
        let o = none_behind (word_in (first there)) (after before) (after there) m in
        let t = told h.0 there y rest h.1 in absurd (cc)

-- ---- a statement made of what was read

pub made_read : {A : Type 0} (make : A → Stmt) {X : Symbols → A → Symbols → Type 0} {P : Symbols → Type 0} {before here : Symbols} {r : Result A Broken} → ((a : Symbols) → Ends a → P a) → Reading X P before here r → Reading (Made make X) Ends before here (mapped make r)
made_read make ends h = cast (record { to = λ b x a i. (x, refl, i); back = λ b y a alike i q. (i.0, i.2, ends a q, sym i.1) }) h

pub made_ok : {A : Type 0} {make : A → Stmt} {X : Symbols → A → Symbols → Type 0} {P : Symbols → Type 0} {before here : Symbols} {x : A} {s : Stmt} → Reading X P before here (Ok x) → ((a : Symbols) → Ends a → P a) → s ≡ make x
    → Reading (Made make X) Ends before here (Ok s)
made_ok {make = make} h ends e = valued e (made_read make ends h)

pub made_err : {A : Type 0} {make : A → Stmt} {X : Symbols → A → Symbols → Type 0} {P : Symbols → Type 0} {before here : Symbols} {e : Broken} {result : Result Stmt Broken} → Reading X P before here (Err e) → ((a : Symbols) → Ends a → P a)
    → IsErr result × IsErrAnd result (λ f. f ≡ e) → Reading (Made make X) Ends before here result
made_err {make = make} {result = result} h ends g = handed result (made_read make ends h) g

-- nothing stands behind STOP
pub stop_read : {before : Symbols} → Reading (IsRest forms.PassthroughStop) Ends before before (Ok stmt.PassthroughStop)
stop_read = nothing_read (IsRest forms.PassthroughStop) Ends stmt.PassthroughStop refl (λ after. (tt, refl, refl)) (λ there alike y rest h p. (sym h.1, h.2))

pub ruleset made = (made_ok, made_err, stop_read)
