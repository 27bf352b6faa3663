-- Columns as a reader goes through them: all columns from the start go on where the reader stands.
use Rattle.std.proofs.Common.{◌≡◌, ℕ, List, [], ◌∷◌, ◌++◌, refl, sym, subst, ◌∙◌, append_assoc, inl, inr}
use Rattle.std.proofs.lemmas.List.{append-nil}
use Rattle.sr_ast.specs.declared.create.ColumnRule.{ColumnRule}
use Rattle.sr_ast.specs.declared.keyword.Keyword.TheVariants as kw
use Rattle.sr_parse_grammar.specs.declared.symbol.Sign.TheVariants as mark
use Rattle.sr_parse_reader.specs.declared.reader.Broken.{Broken}
use Rattle.sr_parse_reader.specs.declared.reader.Broken.TheVariants.{Memory}
use Rattle.sr_parse_grammar.specs.Symbols.{Symbols, IsWord, IsSign}
use Rattle.sr_parse_grammar.specs.Tables.{IsColumns, IsColumnRule, IsKeyWords, IsKeyed}
use Rattle.sr_parse_grammar.specs.Tables.IsColumns.{one, more}
use Rattle.sr_parse_grammar.specs.Inner.Going.{Stop, rule_starts}
use Rattle.sr_parse_grammar.proofs.Steps.{Stop-at}
use Rattle.sr_parse_grammar.proofs.Expressing.{no_key_name}
use Rattle.sr_parse_grammar.proofs.Columns.{Keyed}

-- the columns behind those that were read, where they name a key, and the key at the end
pub data Onward : Symbols → List (List ℕ) → List ColumnRule → List (List ℕ) → Symbols → Type 0 where
  no_more : {after : Symbols} {key : List (List ℕ)} → Onward after key [] key after
  one_more : {before next middle after : Symbols} {c : ColumnRule} {cs : List ColumnRule} {held kept key : List (List ℕ)}
      → IsSign before mark.Comma next → IsColumnRule next c held kept middle → Onward middle kept cs key after → Onward before held (c ∷ cs) key after

-- a first column, and those behind it
record Begun (before : Symbols) (all : List ColumnRule) (key : List (List ℕ)) (after : Symbols) : Type 0 where
  column : ColumnRule
  others : List ColumnRule
  kept : List (List ℕ)
  middle : Symbols
  is : all ≡ column ∷ others
  rule : IsColumnRule before column [] kept middle
  onward : Onward middle kept others key after

begun : {before middle after : Symbols} {cs ds : List ColumnRule} {held key : List (List ℕ)} → IsColumns before cs held middle → Onward middle held ds key after → Begun before (cs ++ ds) key after
begun {middle = middle} {ds = ds} {held = held} (one {c = c} h) o = record { column = c; others = ds; kept = held; middle = middle; is = refl; rule = h; onward = o }
begun {before = before} {after = after} {ds = ds} {key = key} (more {cs = cs} {c = c} hs s h) o =
    subst (λ l. Begun before l key after) (sym (append_assoc cs (c ∷ []) ds)) (begun hs (one_more s h o))

-- the columns and the key are those that were read, and what the symbols from here on spell
pub record Rests (here : Symbols) (read : List ColumnRule) (held : List (List ℕ)) (xs : List ColumnRule) (key : List (List ℕ)) (rest : Symbols) : Type 0 where
  pub others : List ColumnRule
  pub last : List (List ℕ)
  pub middle : Symbols
  pub all : xs ≡ read ++ others
  pub onward : Onward here held others last middle
  pub keyed : Keyed middle last key rest

-- all columns from the start begin with what was read, and go on here
abbrev pub Keying : Symbols → List ColumnRule → List (List ℕ) → Symbols → Type 0
Keying start read held here = (xs : List ColumnRule) (key : List (List ℕ)) (rest after : Symbols) → IsKeyed start xs key rest → IsSign rest mark.Close after → Rests here read held xs key rest

-- what the symbols spell of a column is this one, with this key, and it ends here
abbrev pub FindsColumn : Symbols → List (List ℕ) → ColumnRule → List (List ℕ) → Symbols → Type 0
FindsColumn before held c kept here = (x : ColumnRule) (key : List (List ℕ)) (rest : Symbols) → IsColumnRule before x held key rest → Stop rule_starts rest → (c ≡ x) × (kept ≡ key) × (here ≡ rest)

-- where they spell one, memory ended
abbrev pub MissesColumn : Symbols → List (List ℕ) → Broken → Type 0
MissesColumn before held e = (x : ColumnRule) (key : List (List ℕ)) (rest : Symbols) → IsColumnRule before x held key rest → Stop rule_starts rest → e ≡ Memory

keyed_stops : (middle : Symbols) (held key : List (List ℕ)) (rest after : Symbols) → Keyed middle held key rest → IsSign rest mark.Close after → Stop rule_starts middle
keyed_stops middle held key rest after (inl (k, m)) c = Stop-at rule_starts (m ∙ c) refl
keyed_stops middle held key rest after (inr (n, (next, s, w))) c = Stop-at rule_starts s refl

onward_stops : {here middle rest after : Symbols} {held last key : List (List ℕ)} {cs : List ColumnRule} → Onward here held cs last middle → Keyed middle last key rest → IsSign rest mark.Close after → Stop rule_starts here
onward_stops {here = here} {rest = rest} {after = after} {held = held} {key = key} no_more k c = keyed_stops here held key rest after k c
onward_stops (one_more s h o) k c = Stop-at rule_starts s refl

-- where a column was read, what is behind it goes on here
moved : {at here after : Symbols} {held kept key : List (List ℕ)} {cs : List ColumnRule} → kept ≡ held → here ≡ at → Onward at held cs key after → Onward here kept cs key after
moved {at = at} {after = after} {kept = kept} {key = key} {cs = cs} e f o = subst (λ (b : Symbols). Onward b kept cs key after) (sym f) (subst (λ (k : List (List ℕ)). Onward at k cs key after) (sym e) o)

whole : {before after : Symbols} {cs : List ColumnRule} {key : List (List ℕ)} → IsColumns before cs key after → Begun before cs key after
whole {before = before} {after = after} {cs = cs} {key = key} h = subst (λ l. Begun before l key after) (append-nil cs) (begun h no_more)

holding : {before after : Symbols} {c : ColumnRule} {held other key : List (List ℕ)} → other ≡ held → IsColumnRule before c held key after → IsColumnRule before c other key after
holding {before = before} {after = after} {c = c} {key = key} e h = subst (λ (k : List (List ℕ)). IsColumnRule before c k key after) (sym e) h

-- the first column was read
pub Keying-begun : {start here : Symbols} {y : ColumnRule} {free kept : List (List ℕ)} {read : List ColumnRule} → FindsColumn start free y kept here → free ≡ [] → read ≡ y ∷ [] → Keying start read kept here
Keying-begun {y = y} f e g xs key rest after h c =
    let b = whole h.listed in
    let r = f b.column b.kept b.middle (holding e b.rule) (onward_stops b.onward h.keyed c) in
    let is = b.is in let same = r.0 in
    record { others = b.others; last = h.held; middle = h.middle; all = subst (λ l. xs ≡ l ++ b.others) (sym g) (cc); onward = moved r.1 r.2 b.onward; keyed = h.keyed }

-- the first column was not read
pub Keying-unread : {start : Symbols} {free : List (List ℕ)} {e : Broken} → MissesColumn start free e → free ≡ []
    → (xs : List ColumnRule) (key : List (List ℕ)) (rest after : Symbols) → IsKeyed start xs key rest → IsSign rest mark.Close after → e ≡ Memory
Keying-unread f e xs key rest after h c = let b = whole h.listed in f b.column b.kept b.middle (holding e b.rule) (onward_stops b.onward h.keyed c)

-- what is behind a comma, where it does not begin with PRIMARY
record Following (next : Symbols) (held : List (List ℕ)) (cs : List ColumnRule) (last : List (List ℕ)) (middle : Symbols) : Type 0 where
  column : ColumnRule
  others : List ColumnRule
  kept : List (List ℕ)
  at : Symbols
  is : cs ≡ column ∷ others
  rule : IsColumnRule next column held kept at
  onward : Onward at kept others last middle

following : {here next middle rest after : Symbols} {held last key : List (List ℕ)} {cs : List ColumnRule} → IsSign here mark.Comma next → ((r : Symbols) → IsWord next kw.Primary r → ⊥)
    → Onward here held cs last middle → Keyed middle last key rest → IsSign rest mark.Close after → Following next held cs last middle
following s a no_more (inl (k, m)) c = absurd (cc)
following {next = next} s a no_more (inr (n, (at, t, w))) c = absurd (let same : next ≡ at = cc in let words = w.words in a _ (same ∙ words))
following {next = next} s a (one_more {next = at} {middle = middle} {c = column} {cs = cs} {held = held} {kept = kept} t h o) k c =
    let same : at ≡ next = cc in
    record { column = column; others = cs; kept = kept; at = middle; is = refl; rule = subst (λ (b : Symbols). IsColumnRule b column held kept middle) same h; onward = o }

-- a comma was taken, and one column more was read
pub Keying-on : {start here next there : Symbols} {y : ColumnRule} {held kept : List (List ℕ)} (read : List ColumnRule) {on : List ColumnRule} → Keying start read held here → IsSign here mark.Comma next
    → ((r : Symbols) → IsWord next kw.Primary r → ⊥) → FindsColumn next held y kept there → on ≡ read ++ y ∷ [] → Keying start on kept there
Keying-on {y = y} read g s a f e xs key rest after h c =
    let r = g xs key rest after h c in
    let b = following s a r.onward r.keyed c in
    let found = f b.column b.kept b.at b.rule (onward_stops b.onward r.keyed c) in
    let is = b.is in let same = found.0 in let all = r.all in
    let parts : xs ≡ read ++ (y ∷ b.others) = cc in
    record { others = b.others; last = r.last; middle = r.middle; all = subst (λ l. xs ≡ l ++ b.others) (sym e) (rw append_assoc parts); onward = moved found.1 found.2 b.onward; keyed = r.keyed }

-- a comma was taken, and no column was read behind it
pub Keying-missed : {start here next : Symbols} {held : List (List ℕ)} {e : Broken} (read : List ColumnRule) → Keying start read held here → IsSign here mark.Comma next
    → ((r : Symbols) → IsWord next kw.Primary r → ⊥) → MissesColumn next held e
    → (xs : List ColumnRule) (key : List (List ℕ)) (rest after : Symbols) → IsKeyed start xs key rest → IsSign rest mark.Close after → e ≡ Memory
Keying-missed read g s a f xs key rest after h c =
    let r = g xs key rest after h c in
    let b = following s a r.onward r.keyed c in
    f b.column b.kept b.at b.rule (onward_stops b.onward r.keyed c)

onward_done : {here middle rest : Symbols} {held last key : List (List ℕ)} {read xs cs : List ColumnRule} → xs ≡ read ++ cs → ((next : Symbols) → IsSign here mark.Comma next → ⊥)
    → Onward here held cs last middle → Keyed middle last key rest → (read ≡ xs) × (held ≡ key) × (here ≡ rest)
onward_done e a no_more (inl (k, m)) = (sym (rw append-nil at e), sym k, m)
onward_done e a no_more (inr (n, (next, s, w))) = absurd (a next s)
onward_done e a (one_more {next = next} s h o) k = absurd (a next s)

-- no comma is next: the columns were read
pub Keying-done : {start here there : Symbols} {held : List (List ℕ)} (read : List ColumnRule) → Keying start read held here → ((next : Symbols) → IsSign here mark.Comma next → ⊥) → there ≡ here
    → (xs : List ColumnRule) (key : List (List ℕ)) (rest after : Symbols) → IsKeyed start xs key rest → IsSign rest mark.Close after → (read ≡ xs) × (held ≡ key) × (there ≡ rest)
Keying-done read g a e xs key rest after h c =
    let r = g xs key rest after h c in let d = onward_done r.all a r.onward r.keyed in (d.0, d.1, e ∙ d.2)

onward_listed : {here next middle rest after words : Symbols} {held last key : List (List ℕ)} {read xs cs : List ColumnRule} → xs ≡ read ++ cs → IsSign here mark.Comma next → IsWord next kw.Primary words
    → Onward here held cs last middle → Keyed middle last key rest → IsSign rest mark.Close after → (held ≡ []) × (read ≡ xs) × IsKeyWords next key rest
onward_listed e s p no_more (inl (k, m)) c = absurd (cc)
onward_listed {next = next} {rest = rest} {key = key} e s p no_more (inr (n, (at, t, w))) c =
    let same : at ≡ next = cc in (n, sym (rw append-nil at e), subst (λ (b : Symbols). IsKeyWords b key rest) same w)
onward_listed {next = next} e s p (one_more {next = at} t h o) k c = absurd (let same : at ≡ next = cc in no_key_name (same ∙ p) refl h.name)

-- behind a comma PRIMARY is next: no key was named, the columns were read, and the key's words are here
pub Keying-listed : {start here next words : Symbols} {held : List (List ℕ)} (read : List ColumnRule) → Keying start read held here → IsSign here mark.Comma next → IsWord next kw.Primary words
    → (xs : List ColumnRule) (key : List (List ℕ)) (rest after : Symbols) → IsKeyed start xs key rest → IsSign rest mark.Close after → (held ≡ []) × (read ≡ xs) × IsKeyWords next key rest
Keying-listed read g s p xs key rest after h c = let r = g xs key rest after h c in onward_listed r.all s p r.onward r.keyed c
