-- Readers of columns with their key, and of tables.
use Rattle.std.proofs.Common.{◌≡◌, ℕ, ◌||◌, List, [], ◌∷◌, ◌++◌, map, Ok, Err, refl, sym, subst, ap, ◌∙◌, append_assoc, inl, inr}
use Rattle.std.proofs.lemmas.Map.Lookups.{exact_bytes}
use Rattle.std.proofs.lemmas.Map.Views.{btree_set_contains_iff}
use Rattle.std.specs.BTreeSet.{BTreeSet, contains}
use Rattle.sr_base.specs.Order.{name_cmp}
use Rattle.sr_base.specs.Inner.Order.{name_cmp_total}
use Rattle.sr_ast.specs.declared.create.ColumnRule.{ColumnRule}
use Rattle.sr_ast.specs.declared.create.CreateTable.{CreateTable}
use Rattle.sr_ast.specs.declared.keyword.Keyword.TheVariants as key
use Rattle.sr_parse_grammar.specs.declared.symbol.Sign.TheVariants as mark
use Rattle.sr_parse_reader.specs.declared.reader.Broken.{Broken}
use Rattle.sr_parse_reader.specs.declared.reader.Broken.TheVariants.{Memory, Refused}
use Rattle.sr_parse_grammar.specs.Symbols.{Symbols, first, word, sign, IsName, IsWord, IsSign}
use Rattle.sr_parse.specs.Inner.Keys.{IsSetOf}
use Rattle.sr_parse_grammar.specs.Tables.{IsColumns, IsColumnRule, IsKeyWords, IsKeyed, AreNormal, IsTable}
use Rattle.sr_parse_grammar.specs.Inner.Going.{Stop, rule_starts}
use Rattle.sr_parse_grammar.specs.Inner.Made.{column_of as column}
use Rattle.sr_parse_reader.specs.Inner.Reading.{Alike, WasRead, Reading, Anywhere, BeforeSign}
use Rattle.sr_parse_reader.specs.Inner.Reading.Reading.{read, refused, memory}
use Rattle.sr_parse_reader.specs.Inner.Productions.{Word, Mark, Keyed, Ruled}
use Rattle.sr_parse_reader.proofs.Conditions.{Lacks}
use Rattle.sr_parse.proofs.Normals.{IsNormal-marked}
use Rattle.sr_parse_grammar.proofs.Columns.{normals_once}
use Rattle.sr_parse.proofs.Tabling.{IsColumns-one, IsColumns-more}
use Rattle.sr_parse.proofs.Keying.{Keying, FindsColumn, Keying-begun, Keying-unread, Keying-on, Keying-missed, Keying-done, Keying-listed}
use Rattle.sr_parse_reader.proofs.Parts.{Seq, Sample, Leads, from, alike_from, two_places, cast_goes, goes_first}
use Rattle.sr_parse_reader.proofs.Starts.{standing, lacks, sign_sample, name_sample}
use Rattle.sr_parse_reader.proofs.Names.{NameParts, names_closed_sample}
use Rattle.sr_parse.proofs.Rulings.{free, is_free, column_of, column_to, ColumnParts, typed_sample}

-- ---- PRIMARY KEY and the names

abbrev pub KeyParts : Symbols → Unit {0} × (Unit {0} × (Unit {0} × (List (List ℕ) × Unit {0}))) → Symbols → Type 0
KeyParts = Seq (Word key.Primary) (Seq (Word key.Key) NameParts)

abbrev pub key_of : Unit {0} × (Unit {0} × (Unit {0} × (List (List ℕ) × Unit {0}))) → List (List ℕ)
key_of p = p.1.1.1.0

pub key_to : (b : Symbols) (x : Unit {0} × (Unit {0} × (Unit {0} × (List (List ℕ) × Unit {0})))) (a : Symbols) → KeyParts b x a → IsKeyWords b (key_of x) a
key_to b x a h = let k = h.2 in let o = k.2 in let n = o.2 in record {
  names_ = o.0;
  close = n.0;
  words = h.1 ∙ ap (λ (l : Symbols). word key.Primary ∷ l) (k.1 ∙ ap (λ (l : Symbols). word key.Key ∷ l) o.1);
  names = n.1;
  closed = n.2;
}

pub key_back : (b : Symbols) (y : List (List ℕ)) (a : Symbols) → IsKeyWords b y a → (x : Unit {0} × (Unit {0} × (Unit {0} × (List (List ℕ) × Unit {0})))) × KeyParts b x a × (key_of x ≡ y)
key_back b y a h = ((tt, (tt, (tt, (y, tt)))), (_, h.words, (_, refl, (h.names_, refl, (h.close, h.names, h.closed)))), refl)

pub name_parts_sample : Sample NameParts
name_parts_sample = goes_first (Mark mark.Open) _ [] (sign_sample mark.Open) names_closed_sample

-- ---- the columns

column_sample : (held : List (List ℕ)) → Sample (Ruled held)
column_sample held = cast_goes (ColumnParts (free held)) (Ruled held) (column_of held) (column_to (free held) held (is_free held)) [] (goes_first IsName _ [] name_sample (typed_sample (free held)))

-- what has been taken spells these columns, and all that go on from it begin with them
pub record Columns-on (start here : Symbols) (columns : List ColumnRule) (held : List (List ℕ)) : Type 0 where
  pub taken : Symbols
  pub parts : start ≡ taken ++ here
  pub spells : (after : Symbols) → IsColumns (taken ++ after) columns held after
  pub goes : (there : Symbols) → Alike here there → Keying (taken ++ there) columns held there

-- the value that a column's reading has
found : {held kept : List (List ℕ)} {y : ColumnRule} {start here : Symbols} (r : WasRead (Ruled held) (Stop rule_starts) start here (y, kept)) (there : Symbols) → Alike here there → FindsColumn (r.taken ++ there) held y kept there
found r there alike x k rest h s = let o = r.only there alike (x, k) rest h s in (ap (λ (p : ColumnRule × List (List ℕ)). p.0) o.0, ap (λ (p : ColumnRule × List (List ℕ)). p.1) o.0, o.1)

-- the first column was read
pub columns_begun : {start here : Symbols} {y : ColumnRule} {none kept : List (List ℕ)} {columns : List ColumnRule} → Reading (Ruled none) (Stop rule_starts) start here (Ok (y, kept)) → none ≡ [] → columns ≡ y ∷ [] → Columns-on start here columns kept
columns_begun (read r) e f = record {
  taken = r.taken;
  parts = r.parts;
  spells = λ after. IsColumns-one (r.spells after) e f;
  goes = λ there alike. Keying-begun (found r there alike) e f;
}

-- the columns alone, with the key that they name
unlisted : {before after : Symbols} {columns : List ColumnRule} {held : List (List ℕ)} → IsColumns before columns held after → Keyed before (columns, held) after
unlisted {after = after} {held = held} h = record { held = held; middle = after; listed = h; keyed = inl (refl, refl) }

-- the first column was not read
pub columns_unread : {start here : Symbols} {none : List (List ℕ)} {e : Broken} → Reading (Ruled none) (Stop rule_starts) start here (Err e) → none ≡ [] → Reading Keyed (BeforeSign mark.Close) start here (Err e)
columns_unread memory f = memory
columns_unread (refused r) f = refused (record {
  taken = r.taken;
  parts = r.parts;
  goes = record { more = r.goes.more; meant = r.goes.meant; value = (r.goes.value.0 ∷ [], r.goes.value.1); spells = λ z. unlisted (IsColumns-one (r.goes.spells z) f refl) };
  none = λ there alike x rest h q.
      let never : Refused ≡ Memory = Keying-unread (λ c k a i s. absurd (r.none there alike (c, k) a i s)) f x.0 x.1 rest q.0 h q.1 in absurd (cc);
})

-- one column more, behind a comma
columns_with : (begun item after : Symbols) {columns on : List ColumnRule} {held kept : List (List ℕ)} {y : ColumnRule} → ((z : Symbols) → IsColumns (begun ++ z) columns held z) → IsColumnRule (item ++ after) y held kept after → on ≡ columns ++ y ∷ []
    → IsColumns ((begun ++ (sign mark.Comma ∷ item)) ++ after) on kept after
columns_with begun item after {on = on} {kept = kept} spells h e =
    subst (λ (b : Symbols). IsColumns b on kept after) (sym (append_assoc begun (sign mark.Comma ∷ item) after)) (IsColumns-more (spells (sign mark.Comma ∷ (item ++ after))) refl h e)

-- behind the comma a column goes on, since no PRIMARY is next
lacks_primary : {next : Symbols} (here there taken : Symbols) → Lacks key.Primary next → next ≡ taken ++ here → Alike here there → Lacks key.Primary (taken ++ there)
lacks_primary {next = next} here there taken absent e alike rest w = lacks (alike_from next taken here there e alike) absent w

-- a comma was taken, and one column more was read
pub columns_on : {start here next after : Symbols} {columns on : List ColumnRule} {held kept : List (List ℕ)} {y : ColumnRule} → Columns-on start here columns held → IsSign here mark.Comma next → Lacks key.Primary next
    → Reading (Ruled held) (Stop rule_starts) next after (Ok (y, kept)) → on ≡ columns ++ y ∷ [] → Columns-on start after on kept
columns_on {after = after} {columns = columns} {on = on} {kept = kept} a c absent (read r) e = record {
  taken = a.taken ++ (sign mark.Comma ∷ r.taken);
  parts = two_places a.taken (sign mark.Comma ∷ r.taken) after a.parts (c ∙ ap (λ (l : Symbols). sign mark.Comma ∷ l) r.parts);
  spells = λ z. columns_with a.taken r.taken z a.spells (r.spells z) e;
  goes = λ there alike. subst (λ (b : Symbols). Keying b on kept there) (sym (append_assoc a.taken (sign mark.Comma ∷ r.taken) there))
      (Keying-on columns (a.goes (sign mark.Comma ∷ (r.taken ++ there)) (ap first c)) refl (lacks_primary after there r.taken absent r.parts alike) (found r there alike) e);
}

-- what goes on behind a comma makes columns, whose key is named or held
behind_comma : (begun two : Symbols) (there : Symbols) {x : List ColumnRule × List (List ℕ)} {rest : Symbols} → Keyed ((begun ++ (sign mark.Comma ∷ two)) ++ there) x rest → IsKeyed (begun ++ (sign mark.Comma ∷ (two ++ there))) x.0 x.1 rest
behind_comma begun two there h = from Keyed (append_assoc begun (sign mark.Comma ∷ two) there) h

-- a comma was taken, and no column was read behind it
pub columns_missed : {start here next after : Symbols} {columns : List ColumnRule} {held : List (List ℕ)} {e : Broken} → Columns-on start here columns held → IsSign here mark.Comma next → Lacks key.Primary next
    → Reading (Ruled held) (Stop rule_starts) next after (Err e) → Reading Keyed (BeforeSign mark.Close) start after (Err e)
columns_missed a c absent memory = memory
columns_missed {after = after} {columns = columns} {held = held} a c absent (refused r) = refused (record {
  taken = a.taken ++ (sign mark.Comma ∷ r.taken);
  parts = two_places a.taken (sign mark.Comma ∷ r.taken) after a.parts (c ∙ ap (λ (l : Symbols). sign mark.Comma ∷ l) r.parts);
  goes = record {
    more = r.goes.more;
    meant = r.goes.meant;
    value = (columns ++ r.goes.value.0 ∷ [], r.goes.value.1);
    spells = λ z. from Keyed (ap (λ (l : Symbols). l ++ z) (sym (append_assoc a.taken (sign mark.Comma ∷ r.taken) r.goes.more)))
        (unlisted (columns_with a.taken (r.taken ++ r.goes.more) z a.spells (r.goes.spells z) refl));
  };
  none = λ there alike x rest h q.
      let never : Refused ≡ Memory = Keying-missed columns (a.goes (sign mark.Comma ∷ (r.taken ++ there)) (ap first c)) refl (lacks_primary after there r.taken absent r.parts alike) (λ y k z i s. absurd (r.none there alike (y, k) z i s))
      x.0 x.1 rest q.0 (behind_comma a.taken r.taken there h) q.1 in
      absurd (cc);
})

-- no comma is next: the columns were read
both_are : {columns : List ColumnRule} {held : List (List ℕ)} (x : List ColumnRule × List (List ℕ)) → columns ≡ x.0 → held ≡ x.1 → (columns, held) ≡ x
both_are (xs, k) e f = cc

pub columns_done : {start here there : Symbols} {columns : List ColumnRule} {held : List (List ℕ)} → Columns-on start here columns held → ((next : Symbols) → IsSign here mark.Comma next → ⊥) → there ≡ here
    → Reading Keyed (BeforeSign mark.Close) start there (Ok (columns, held))
columns_done {columns = columns} a absent e = read (record {
  taken = a.taken;
  parts = a.parts ∙ ap (λ (l : Symbols). a.taken ++ l) (sym e);
  spells = λ after. unlisted (a.spells after);
  only = λ z alike x rest h q.
      let same = ap first (sym e) ∙ alike in
      let d = Keying-done columns (a.goes z same) (λ next c. lacks same absent c) refl x.0 x.1 rest q.0 h q.1 in
      (both_are x d.0 d.1, d.2);
})

-- ---- behind a comma PRIMARY is next

-- a key is held already
pub key_refused : {start here next after : Symbols} {columns : List ColumnRule} {held : List (List ℕ)} → Columns-on start here columns held → IsSign here mark.Comma next → IsWord next key.Primary after → (held ≡ [] → ⊥)
    → Reading Keyed (BeforeSign mark.Close) start next (Err Refused)
key_refused {next = next} {columns = columns} {held = held} a c w named = refused (record {
  taken = a.taken ++ (sign mark.Comma ∷ []);
  parts = two_places a.taken (sign mark.Comma ∷ []) next a.parts c;
  goes = let s = column_sample held in record {
    more = s.more;
    meant = s.meant;
    value = (columns ++ s.value.0 ∷ [], s.value.1);
    spells = λ z. from Keyed (ap (λ (l : Symbols). l ++ z) (sym (append_assoc a.taken (sign mark.Comma ∷ []) s.more))) (unlisted (columns_with a.taken s.more z a.spells (s.spells z) refl));
  };
  none = λ there alike x rest h q.
      named (Keying-listed columns (a.goes (sign mark.Comma ∷ there) (ap first c)) refl (standing there (sym alike ∙ ap first w)) x.0 x.1 rest q.0 (behind_comma a.taken [] there h) q.1).0;
})

-- columns and the words of a key
listed_key : (begun item after : Symbols) {columns : List ColumnRule} {held k : List (List ℕ)} → ((z : Symbols) → IsColumns (begun ++ z) columns held z) → held ≡ [] → IsKeyWords (item ++ after) k after → Keyed ((begun ++ (sign mark.Comma ∷ item)) ++ after) (columns, k) after
listed_key begun item after {held = held} spells none h =
    from Keyed (sym (append_assoc begun (sign mark.Comma ∷ item) after)) (record { held = held; middle = sign mark.Comma ∷ (item ++ after); listed = spells (sign mark.Comma ∷ (item ++ after)); keyed = inr (none, (item ++ after, refl, h)) })

-- the words of the key from where they begin, where the columns are those that were read
key_words : {start here next after : Symbols} {columns : List ColumnRule} {held : List (List ℕ)} (a : Columns-on start here columns held) → IsSign here mark.Comma next → IsWord next key.Primary after
    → (at taken there : Symbols) → next ≡ taken ++ at → Alike at there → (x : List ColumnRule × List (List ℕ)) (rest : Symbols) → Keyed ((a.taken ++ (sign mark.Comma ∷ taken)) ++ there) x rest → BeforeSign mark.Close rest
    → (columns ≡ x.0) × IsKeyWords (taken ++ there) x.1 rest
key_words {next = next} {columns = columns} a c w at taken there e alike x rest h q =
    let l = Keying-listed columns (a.goes (sign mark.Comma ∷ (taken ++ there)) (ap first c)) refl (standing (taken ++ there) (sym (alike_from next taken at there e alike) ∙ ap first w)) x.0 x.1 rest q.0 (behind_comma a.taken taken there h) q.1 in
    (l.1, l.2)

-- the words of the key were read, or refused
pub key_read : {start here next words after : Symbols} {columns : List ColumnRule} {held : List (List ℕ)} {k : List (List ℕ)} → Columns-on start here columns held → held ≡ [] → IsSign here mark.Comma next → IsWord next key.Primary words → Reading IsKeyWords Anywhere next after (Ok k)
    → Reading Keyed (BeforeSign mark.Close) start after (Ok (columns, k))
key_read {after = after} a none c w (read r) = read (record {
  taken = a.taken ++ (sign mark.Comma ∷ r.taken);
  parts = two_places a.taken (sign mark.Comma ∷ r.taken) after a.parts (c ∙ ap (λ (l : Symbols). sign mark.Comma ∷ l) r.parts);
  spells = λ z. listed_key a.taken r.taken z a.spells none (r.spells z);
  only = λ there alike x rest h q.
      let l = key_words a c w after r.taken there r.parts alike x rest h q in
      let o = r.only there alike x.1 rest l.1 tt in
      (both_are x l.0 o.0, o.1);
})

pub key_unread : {start here next words after : Symbols} {columns : List ColumnRule} {held : List (List ℕ)} {e : Broken} → Columns-on start here columns held → held ≡ [] → IsSign here mark.Comma next → IsWord next key.Primary words → Reading IsKeyWords Anywhere next after (Err e)
    → Reading Keyed (BeforeSign mark.Close) start after (Err e)
key_unread a none c w memory = memory
key_unread {after = after} {columns = columns} a none c w (refused r) = refused (record {
  taken = a.taken ++ (sign mark.Comma ∷ r.taken);
  parts = two_places a.taken (sign mark.Comma ∷ r.taken) after a.parts (c ∙ ap (λ (l : Symbols). sign mark.Comma ∷ l) r.parts);
  goes = record {
    more = r.goes.more;
    meant = r.goes.meant;
    value = (columns, r.goes.value);
    spells = λ z. from Keyed (ap (λ (l : Symbols). l ++ z) (sym (append_assoc a.taken (sign mark.Comma ∷ r.taken) r.goes.more))) (listed_key a.taken (r.taken ++ r.goes.more) z a.spells none (r.goes.spells z));
  };
  none = λ there alike x rest h q. r.none there alike x.1 rest (key_words a c w after r.taken there r.parts alike x rest h q).1 tt;
})

-- ---- tables

-- the normal form of columns
abbrev normal_of : List (List ℕ) → ColumnRule → ColumnRule
normal_of k w = let set : BTreeSet (List ℕ) = record { keys = k } in column w.name w.kind (contains name_cmp set w.name || w.not_null)

set_of : (k : List (List ℕ)) → let set : BTreeSet (List ℕ) = record { keys = k } in IsSetOf set k
set_of k n = let set : BTreeSet (List ℕ) = record { keys = k } in btree_set_contains_iff {R = name_cmp} name_cmp_total exact_bytes set n

pub normals_of : List (List ℕ) → List ColumnRule → List ColumnRule
normals_of k written = map (normal_of k) written

pub normals_are : (k : List (List ℕ)) (written : List ColumnRule) → AreNormal k written (normals_of k written)
unfolding normals_of
normals_are k [] = tt
normals_are k (w ∷ written) = let set : BTreeSet (List ℕ) = record { keys = k } in (IsNormal-marked k set w (normal_of k w) (set_of k) refl refl refl, normals_are k written)

abbrev pub TableParts : Symbols → List ℕ × (Unit {0} × ((List ColumnRule × List (List ℕ)) × Unit {0})) → Symbols → Type 0
TableParts = Seq IsName (Seq (Mark mark.Open) (Seq Keyed (Mark mark.Close)))

abbrev pub table_of : List ℕ × (Unit {0} × ((List ColumnRule × List (List ℕ)) × Unit {0})) → CreateTable
table_of p = record { name = p.0; columns = normals_of p.1.1.0.1 p.1.1.0.0; key = p.1.1.0.1 }

pub table_to : (b : Symbols) (x : List ℕ × (Unit {0} × ((List ColumnRule × List (List ℕ)) × Unit {0}))) (a : Symbols) → TableParts b x a → IsTable b (table_of x) a
table_to b x a h = let o = h.2 in let k = o.2 in record {
  open_ = h.0;
  inside = o.0;
  close = k.0;
  written = x.1.1.0.0;
  name = h.1;
  opened = o.1;
  columns = k.1;
  closed = k.2;
  normal_form = normals_are x.1.1.0.1 x.1.1.0.0;
}

-- a table with equal columns
with_columns : (y : CreateTable) (columns : List ColumnRule) → columns ≡ y.columns → let t : CreateTable = record { name = y.name; columns = columns; key = y.key } in t ≡ y
with_columns y columns e = ap (λ (cs : List ColumnRule). let t : CreateTable = record { name = y.name; columns = cs; key = y.key } in t) e

pub table_back : (b : Symbols) (y : CreateTable) (a : Symbols) → IsTable b y a → (x : List ℕ × (Unit {0} × ((List ColumnRule × List (List ℕ)) × Unit {0}))) × TableParts b x a × (table_of x ≡ y)
table_back b y a h = (
  (y.name, (tt, ((h.written, y.key), tt))),
  (h.open_, h.name, (h.inside, h.opened, (h.close, h.columns, h.closed))),
  with_columns y (normals_of y.key h.written) (normals_once y.key y.key h.written h.written (normals_of y.key h.written) y.columns refl refl (normals_are y.key h.written) h.normal_form),
)

pub keyed_closed_sample : Sample (Seq Keyed (Mark mark.Close))
keyed_closed_sample =
    let s = column_sample [] in
    goes_first Keyed (Mark mark.Close) [] (record { more = s.more; meant = s.meant; value = (s.value.0 ∷ [], s.value.1); spells = λ z. unlisted (IsColumns-one (s.spells z) refl refl) }) (sign_sample mark.Close)

-- before a `)` columns may end
pub keyed_close : Leads (BeforeSign mark.Close) (Mark mark.Close) Anywhere
keyed_close b y a h q = (a, h)
