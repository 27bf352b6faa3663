-- Tables: symbols spell one at most.
use Rattle.std.proofs.Common.{◌≡◌, ℕ, Bool, true, false, ◌||◌, List, [], ◌∷◌, ◌++◌, map, if◌then◌else◌, ◌↔◌, IsTrue, Contains, refl, sym, subst, ap, ◌∙◌, inl, inr, ◌⊎◌, rules}
use Rattle.std.proofs.Math.Bool.{or-false, or-true}
use Rattle.std.proofs.lemmas.List.Recursion.{or_push}
use Rattle.std.proofs.lemmas.List.{map-append}
use Rattle.sr_ast.specs.declared.create.CreateTable.{CreateTable}
use Rattle.sr_ast.specs.declared.create.ColumnRule.{ColumnRule}
use Rattle.sr_ast.specs.declared.keyword.Keyword.TheVariants as kw
use Rattle.sr_parse_grammar.specs.declared.symbol.Sign.TheVariants as mark
use Rattle.sr_parse_grammar.specs.Symbols.{Symbols, word, IsName, IsSign}
use Rattle.sr_parse_grammar.specs.Listing.{Listed, Row}
use Rattle.sr_parse_grammar.specs.Listing.Listed.{one as first_item, more as next_item}
use Rattle.sr_parse_grammar.specs.Listing.Row.{none as no_item, then as appended}
use Rattle.sr_parse_grammar.specs.Catalog.{IsKind}
use Rattle.sr_parse_grammar.specs.Tables.{IsRules, IsColumns, IsColumnRule, IsKeyWords, IsKeyList, IsKeyed, IsNormal, AreNormal, IsTable}
use Rattle.sr_parse_grammar.specs.Tables.IsRules.{none, not_null, null, primary}
use Rattle.sr_parse_grammar.specs.Tables.IsColumns.{one, more}
use Rattle.sr_parse_grammar.specs.Inner.Going.{Stop, is_comma, rule_starts, Closes}
use Rattle.sr_parse_grammar.specs.Inner.Made.{column_of}
use Rattle.sr_parse_grammar.proofs.Steps.{Stop-at, Stop-begins, IsName-once, Once, two_parts, three_parts}
use Rattle.sr_parse_grammar.proofs.Expressing.{no_key_name}
use Rattle.sr_parse_grammar.proofs.Lists.{Last, Listed-once, Row-once, Any, NamesListed-once, Closes-stop, closing}
use Rattle.sr_parse_grammar.proofs.Cataloguing.{kind_once}

-- one rule of a column
data Rule : Type 0 where
  bars_null : Rule
  lets_null : Rule
  is_key : Rule

abbrev IsRule : Symbols → Rule → Symbols → Type 0
IsRule before bars_null after = before ≡ word kw.Not ∷ word kw.Null ∷ after
IsRule before lets_null after = before ≡ word kw.Null ∷ after
IsRule before is_key after = before ≡ word kw.Primary ∷ word kw.Key ∷ after

rule_once : Once IsRule Any
rule_once before bars_null after bars_null rest h k p q = (refl, cc)
rule_once before lets_null after lets_null rest h k p q = (refl, cc)
rule_once before is_key after is_key rest h k p q = (refl, cc)
rule_once before _ after _ rest h k p q = absurd (cc)

no_rule : (before : Symbols) (r : Rule) (after : Symbols) → Stop rule_starts before → IsRule before r after → ⊥
no_rule before bars_null after p h = Stop-begins rule_starts h refl p
no_rule before _ after p h = Stop-begins rule_starts h refl p

abbrev bars : Rule → Bool
bars bars_null = true
bars r = false

abbrev keys : Rule → Bool
keys is_key = true
keys r = false

-- whether one of the rules passes the test
flag : (Rule → Bool) → List Rule → Bool
flag test [] = false
flag test (r ∷ rs) = test r || flag test rs

flag-more : (test : Rule → Bool) (rs : List Rule) (r : Rule) → flag test (rs ++ r ∷ []) ≡ (flag test rs || test r)
unfolding flag
flag-more test rs r = or_push (flag test) test refl (λ x xs. refl) rs r

record Ruled (before : Symbols) (n p : Bool) (after : Symbols) : Type 0 where
  rules : List Rule
  row : Row IsRule before rules after
  bars_is : n ≡ flag bars rules
  keys_is : p ≡ flag keys rules

flag-none : (test : Rule → Bool) → false ≡ flag test []
unfolding flag
flag-none test = refl

ruled : {before after : Symbols} {n u p : Bool} → IsRules before n u p after → Ruled before n p after
ruled none = record { rules = []; row = no_item; bars_is = flag-none bars; keys_is = flag-none keys }
ruled (not_null {primary = p} h e) =
    let r = ruled h in record {
      rules = r.rules ++ bars_null ∷ [];
      row = appended r.row e;
      bars_is = sym (flag-more bars r.rules bars_null ∙ or-true (flag bars r.rules));
      keys_is = r.keys_is ∙ sym (flag-more keys r.rules bars_null ∙ or-false (flag keys r.rules));
    }
ruled (null h e) =
    let r = ruled h in record {
      rules = r.rules ++ lets_null ∷ [];
      row = appended r.row e;
      bars_is = r.bars_is ∙ sym (flag-more bars r.rules lets_null ∙ or-false (flag bars r.rules));
      keys_is = r.keys_is ∙ sym (flag-more keys r.rules lets_null ∙ or-false (flag keys r.rules));
    }
ruled (primary h e) =
    let r = ruled h in record {
      rules = r.rules ++ is_key ∷ [];
      row = appended r.row e;
      bars_is = r.bars_is ∙ sym (flag-more bars r.rules is_key ∙ or-false (flag bars r.rules));
      keys_is = sym (flag-more keys r.rules is_key ∙ or-true (flag keys r.rules));
    }

rules_once : {before here after rest : Symbols} {n u p m v q : Bool} → before ≡ here → IsRules before n u p after → IsRules here m v q rest → Stop rule_starts after → Stop rule_starts rest → (n ≡ m) × (p ≡ q) × (after ≡ rest)
rules_once {after = after} {rest = rest} e h k s t =
    let x = ruled h in let y = ruled k in
    let same = Row-once IsRule Any rule_once (λ b r a i. tt) e x.row y.row
    (record { stops = tt; ends = λ r a i. no_rule after r a s i }) (record { stops = tt; ends = λ r a i. no_rule rest r a t i }) in
    (x.bars_is ∙ (ap (flag bars) same.0 ∙ sym y.bars_is), x.keys_is ∙ (ap (flag keys) same.0 ∙ sym y.keys_is), same.1)

-- a column, and whether it is the key
abbrev Marked : Type 0
Marked = ColumnRule × Bool

record IsMarked (before : Symbols) (x : Marked) (after : Symbols) : Type 0 where
  typed : Symbols
  ruled_ : Symbols
  null_ : Bool
  name : IsName before x.0.name typed
  kind : IsKind typed x.0.kind ruled_
  rules : IsRules ruled_ x.0.not_null null_ x.1 after

column_same : (s t : ColumnRule) → s.name ≡ t.name → s.kind ≡ t.kind → s.not_null ≡ t.not_null → s ≡ t
column_same s t a b c = three_parts column_of a b c

marked_once : Once IsMarked Closes
marked_once before x after y rest h k p q =
    let name = IsName-once refl h.name k.name in
    let kind = kind_once h.typed k.typed x.0.kind h.ruled_ y.0.kind k.ruled_ name.1 h.kind k.kind in
    let rules = rules_once kind.1 h.rules k.rules (Closes-stop rule_starts after refl refl p) (Closes-stop rule_starts rest refl refl q) in
    (two_parts (λ (c : ColumnRule) (b : Bool). let m : Marked = (c, b) in m) (column_same x.0 y.0 name.0 kind.0 rules.0) rules.1, rules.2)

abbrev key_with : List (List ℕ) → Marked → List (List ℕ)
key_with held x = if x.1 then x.0.name ∷ [] else held

-- the key of columns, where another one is held before them
key_of : List (List ℕ) → List Marked → List (List ℕ)
key_of held [] = held
key_of held (x ∷ xs) = key_of (key_with held x) xs

key_of-more : (held : List (List ℕ)) (xs : List Marked) (x : Marked) → key_of held (xs ++ x ∷ []) ≡ key_with (key_of held xs) x
unfolding key_of
key_of-more held [] x = refl
key_of-more held (y ∷ xs) x = key_of-more (key_with held y) xs x

key_of-one : (held : List (List ℕ)) (x : Marked) → key_of held (x ∷ []) ≡ key_with held x
unfolding key_of
key_of-one held x = refl

record MarkedColumns (before : Symbols) (cs : List ColumnRule) (key : List (List ℕ)) (after : Symbols) : Type 0 where
  items : List Marked
  listed : Listed IsMarked before items after
  columns_are : cs ≡ map (λ (x : Marked). x.0) items
  key_is : key ≡ key_of [] items

is_marked : {before after : Symbols} {c : ColumnRule} {held key : List (List ℕ)} → (h : IsColumnRule before c held key after) → IsMarked before (c, h.primary) after
is_marked h = record { typed = h.typed; ruled_ = h.ruled; null_ = h.null; name = h.name; kind = h.kind; rules = h.rules }

marked_columns : {before after : Symbols} {cs : List ColumnRule} {key : List (List ℕ)} → IsColumns before cs key after → MarkedColumns before cs key after
marked_columns (one {c = c} h) = record { items = (c, h.primary) ∷ []; listed = first_item (is_marked h); columns_are = refl; key_is = h.is_key ∙ sym (key_of-one [] (c, h.primary)) }
marked_columns (more {cs = cs} {c = c} {held = held} {key = key} hs s h) =
    let r = marked_columns hs in
    let x : Marked = (c, h.primary) in
    let parts : map (λ (x : Marked). x.0) (r.items ++ x ∷ []) ≡ map (λ (x : Marked). x.0) r.items ++ c ∷ [] = map-append (λ (x : Marked). x.0) r.items (x ∷ []) in
    let keyed : key_with held x ≡ key_with (key_of [] r.items) x = ap (λ (l : List (List ℕ)). key_with l x) r.key_is in
    record {
      items = r.items ++ x ∷ [];
      listed = next_item r.listed s (is_marked h);
      columns_are = ap (λ (l : List ColumnRule). l ++ c ∷ []) r.columns_are ∙ sym parts;
      key_is = h.is_key ∙ (keyed ∙ sym (key_of-more [] r.items x));
    }

columns_once : {before here after rest : Symbols} {cs ds : List ColumnRule} {key other : List (List ℕ)} → before ≡ here → IsColumns before cs key after → IsColumns here ds other rest
    → Last IsMarked Closes after → Last IsMarked Closes rest → (cs ≡ ds) × (key ≡ other) × (after ≡ rest)
columns_once e h k p q =
    let x = marked_columns h in let y = marked_columns k in
    let same = Listed-once IsMarked Closes marked_once (λ b n c. inl (n, c)) e x.listed y.listed p q in
    (x.columns_are ∙ (ap (map (λ (x : Marked). x.0)) same.0 ∙ sym y.columns_are), x.key_is ∙ (ap (key_of []) same.0 ∙ sym y.key_is), same.1)

key_words_once : {before here after rest : Symbols} {key other : List (List ℕ)} → before ≡ here → IsKeyWords before key after → IsKeyWords here other rest → (key ≡ other) × (after ≡ rest)
key_words_once e h k =
    let hw = h.words in let kw' = k.words in let names_ : h.names_ ≡ k.names_ = cc in let hc = h.closed in let kc = k.closed in
    let names = NamesListed-once names_ h.names k.names (Stop-at is_comma hc refl) (Stop-at is_comma kc refl) in let f = names.1 in (names.0, cc)

-- behind a comma the key is no column
key_last : {after next : Symbols} {key : List (List ℕ)} {rest : Symbols} → IsSign after mark.Comma next → IsKeyWords next key rest → Last IsMarked Closes after
key_last {next = next} c h = record { stops = inl (next, c); ends = λ n y r d m. let w = h.words in let e : n ≡ next = cc in no_key_name (e ∙ w) refl m.name }

abbrev pub Keyed : Symbols → List (List ℕ) → List (List ℕ) → Symbols → Type 0
Keyed middle held key after = ((key ≡ held) × (middle ≡ after)) ⊎ ((held ≡ []) × IsKeyList middle key after)

keyed_end : (middle : Symbols) (held key : List (List ℕ)) (after close : Symbols) → Keyed middle held key after → IsSign after mark.Close close → Last IsMarked Closes middle
keyed_end middle held key after close (inl (k, m)) c = closing IsMarked (m ∙ c)
keyed_end middle held key after close (inr (n, (next, s, w))) c = key_last s w

keyed_ends_once : (middle here : Symbols) (held kept key lock : List (List ℕ)) (after rest close other : Symbols) → middle ≡ here → held ≡ kept → Keyed middle held key after → Keyed here kept lock rest
    → IsSign after mark.Close close → IsSign rest mark.Close other → (key ≡ lock) × (after ≡ rest)
keyed_ends_once middle here held kept key lock after rest close other e f (inl (k, m)) (inl (l, n)) c d = (cc, cc)
keyed_ends_once middle here held kept key lock after rest close other e f (inl (k, m)) (inr (l, (next, s, w))) c d = absurd (cc)
keyed_ends_once middle here held kept key lock after rest close other e f (inr (l, (next, s, w))) (inl (k, m)) c d = absurd (cc)
keyed_ends_once middle here held kept key lock after rest close other e f (inr (l, (next, s, w))) (inr (k, (next', s', w'))) c d =
    let same : next ≡ next' = cc in key_words_once same w w'

keyed_once : {before here after rest close other : Symbols} {cs ds : List ColumnRule} {key lock : List (List ℕ)} → before ≡ here → IsKeyed before cs key after → IsKeyed here ds lock rest
    → IsSign after mark.Close close → IsSign rest mark.Close other → (cs ≡ ds) × (key ≡ lock) × (after ≡ rest)
keyed_once {after = after} {rest = rest} {close = close} {other = other} {key = key} {lock = lock} e h k c d =
    let columns = columns_once e h.listed k.listed (keyed_end h.middle h.held key after close h.keyed c) (keyed_end k.middle k.held lock rest other k.keyed d) in
    let ends = keyed_ends_once h.middle k.middle h.held k.held key lock after rest close other columns.2 columns.1 h.keyed k.keyed c d in
    (columns.0, ends.0, ends.1)

pub table_same : (s t : CreateTable) → s.name ≡ t.name → s.columns ≡ t.columns → s.key ≡ t.key → s ≡ t
table_same s t a b c = three_parts (λ (n : List ℕ) (cs : List ColumnRule) (k : List (List ℕ)). let x : CreateTable = record { name = n; columns = cs; key = k } in x) a b c

true_same : (a b : Bool) (P : Type 0) → (IsTrue a ↔ P) → (IsTrue b ↔ P) → a ≡ b
true_same true true P h k = refl
true_same false false P h k = refl
true_same true false P h k = absurd (let e : false ≡ true = k.1 (h.0 refl) in cc)
true_same false true P h k = absurd (let e : false ≡ true = h.1 (k.0 refl) in cc)

normal_same : (key : List (List ℕ)) (w c d : ColumnRule) → IsNormal key w c → IsNormal key w d → c ≡ d
normal_same key w c d h k =
    column_same c d (h.name ∙ sym k.name) (h.kind ∙ sym k.kind) (true_same c.not_null d.not_null (IsTrue w.not_null ⊎ Contains key w.name) h.not_null k.not_null)

normal_once : (key : List (List ℕ)) (written cs ds : List ColumnRule) → AreNormal key written cs → AreNormal key written ds → cs ≡ ds
normal_once key [] [] [] h k = refl
normal_once key (w ∷ ws) (c ∷ cs) (d ∷ ds) h k = two_parts (λ (x : ColumnRule) (xs : List ColumnRule). x ∷ xs) (normal_same key w c d h.0 k.0) (normal_once key ws cs ds h.1 k.1)
normal_once key _ _ _ h k = search rules

pub normals_once : (key lock : List (List ℕ)) (written other cs ds : List ColumnRule) → key ≡ lock → written ≡ other → AreNormal key written cs → AreNormal lock other ds → cs ≡ ds
normals_once key lock written other cs ds e f h k =
    normal_once key written cs ds h (subst (λ (l : List (List ℕ)). AreNormal l written ds) (sym e) (subst (λ (ws : List ColumnRule). AreNormal lock ws ds) (sym f) k))

pub table_once : {before here after rest : Symbols} {s t : CreateTable} → before ≡ here → IsTable before s after → IsTable here t rest → (s ≡ t) × (after ≡ rest)
table_once {s = s} {t = t} e h k =
    let name = IsName-once e h.name k.name in let n = name.1 in
    let ho = h.opened in let ko = k.opened in let inside : h.inside ≡ k.inside = cc in let hc = h.closed in let kc = k.closed in
    let keyed = keyed_once inside h.columns k.columns hc kc in
    let close = keyed.2 in
    (table_same s t name.0 (normals_once s.key t.key h.written k.written s.columns t.columns keyed.1 keyed.0 h.normal_form k.normal_form) keyed.1, cc)
