use Rattle.std.proofs.Common.{◌≡◌, ◌≤◌, ℕ, List, ◌++◌, length, map, sym, ◌∙◌, ap, subst, append_assoc}
use Rattle.std.specs.Int.{w64, to_be_bytes}
use Rattle.sr_ast.specs.Layout.{printed}
use Rattle.sr_base.specs.Fields.{bytes_spelling, list_spelling, name_spelling}
use Rattle.sr_book.specs.declared.book.Book.{Book}
use Rattle.sr_catalog_schema.specs.declared.table.Table.{Table}
use Rattle.sr_catalog_script_laws.specs.Scripts.{statements}
use Rattle.sr_logform.specs.Entries.{table_spelling}
use Rattle.sr_rows.specs.Marks.{RowMap}
use Rattle.sr_snapshot.proofs.Puts.{at_then, cause_on, if_fault, put_on}
use Rattle.sr_snapshot.proofs.Shorts.{parts_short}
use Rattle.sr_snapshot.specs.Parts.{book_line, longest, magic}
use Rattle.sr_snapshot.specs.Snapshots.{rows_in}
use Rattle.sr_snapshot.specs.Inner.Writing.{HasPut, PutCause}
use Rattle.sr_snapshot.proofs.writing.put_state.Goals as goal

regroup : (a b c d : List ℕ) → (magic ++ (a ++ (b ++ c))) ++ d ≡ magic ++ (a ++ (b ++ (c ++ d)))
regroup a b c d = ap (λ (l : List ℕ). magic ++ l) (append_assoc a (b ++ c) d ∙ ap (λ (l : List ℕ). a ++ l) (append_assoc b c d))

abbrev spelt : ℕ → List ℕ → List (List ℕ) → RowMap → List Table → List (List ℕ × Book) → List ℕ
spelt place publisher texts rows tables books =
    magic ++ (to_be_bytes w64 place ++ (name_spelling publisher ++ (list_spelling bytes_spelling texts ++ (list_spelling table_spelling (map (rows_in rows) tables) ++ list_spelling book_line books))))

pub put_catalog-requires : goal.put_catalog-requires
put_catalog-requires g c =
    let s = c.args.state.now in
    let texts : List (List ℕ) = c.args.texts.now in
    let whole : length (spelt s.offset.0 s.catalog.publisher texts s.rows.rows s.catalog.tables s.books) ≤ longest =
    subst (λ (ts : List (List ℕ)). length (spelt s.offset.0 s.catalog.publisher ts s.rows.rows s.catalog.tables s.books) ≤ longest) (sym c.requires.texts) c.requires.short in
    record {
      short = (parts_short magic (to_be_bytes w64 s.offset.0) (name_spelling s.catalog.publisher) (list_spelling bytes_spelling texts) (list_spelling table_spelling (map (rows_in s.rows.rows) s.catalog.tables)) (list_spelling book_line s.books) whole).0;
      at = c.requires.at;
    }

pub put_tables-requires : goal.put_tables-requires
put_tables-requires g c =
    let s = c.args.state.now in
    let texts : List (List ℕ) = c.args.texts.now in
    let tables : List Table = c.tables.result.now in
    let first : length (spelt s.offset.0 s.catalog.publisher texts s.rows.rows s.catalog.tables s.books) ≤ longest =
    subst (λ (ts : List (List ℕ)). length (spelt s.offset.0 s.catalog.publisher ts s.rows.rows s.catalog.tables s.books) ≤ longest) (sym c.requires.texts) c.requires.short in
    let whole : length (spelt s.offset.0 s.catalog.publisher texts s.rows.rows tables s.books) ≤ longest =
    subst (λ (found : List Table). length (spelt s.offset.0 s.catalog.publisher texts s.rows.rows found s.books) ≤ longest) (sym c.tables.ensures.tables) first in
    record {
      short = (parts_short magic (to_be_bytes w64 s.offset.0) (name_spelling s.catalog.publisher) (list_spelling bytes_spelling texts) (list_spelling table_spelling (map (rows_in s.rows.rows) tables)) (list_spelling book_line s.books) whole).1;
      at = at_then c.args.file _ (g.S.Held.seen c.args.site.now) (g.S.Held.seen c.put_catalog.new.site) _ _ _ c.in_ok-put_catalog.ensures.put;
    }

pub put_books-requires : goal.put_books-requires
put_books-requires g c = record { at = at_then c.args.file _ (g.S.Held.seen c.put_catalog.new.site) (g.S.Held.seen c.put_tables.new.site) _ _ _ c.in_ok-put_tables.ensures.put }

pub returns-in_err-put_tables-clause-cause : goal.returns-in_err-put_tables-clause-cause
returns-in_err-put_tables-clause-cause g c =
    let first = g.S.Held.seen c.args.site.now in
    let middle = g.S.Held.seen c.put_catalog.new.site in
    let now = g.S.Held.seen c.put_tables.new.site in
    if_fault (PutCause c.args.file first now) c.in_err-put_tables.field-0.0 c.from_residual-in_err-put_tables.result c.from_residual-in_err-put_tables.ensures.1
    (cause_on c.args.file _ first middle now _ _ _ c.in_err-put_tables.field-0.0 c.in_ok-put_catalog.ensures.put c.in_err-put_tables.ensures.cause)

pub returns-in_err-put_books-clause-cause : goal.returns-in_err-put_books-clause-cause
returns-in_err-put_books-clause-cause g c =
    let first = g.S.Held.seen c.args.site.now in
    let one = g.S.Held.seen c.put_catalog.new.site in
    let two = g.S.Held.seen c.put_tables.new.site in
    let now = g.S.Held.seen c.put_books.new.site in
    if_fault (PutCause c.args.file first now) c.in_err-put_books.field-0.0 c.from_residual-in_err-put_books.result c.from_residual-in_err-put_books.ensures.1
    (cause_on c.args.file _ first two now _ _ _ c.in_err-put_books.field-0.0 (put_on c.args.file _ _ first one two _ _ _ _ _ c.in_ok-put_catalog.ensures.put c.in_ok-put_tables.ensures.put) c.in_err-put_books.ensures.cause)

pub returns-clause-put : goal.returns-clause-put
returns-clause-put g c =
    let s = c.args.state.now in
    let first = g.S.Held.seen c.args.site.now in
    let one = g.S.Held.seen c.put_catalog.new.site in
    let two = g.S.Held.seen c.put_tables.new.site in
    let now = g.S.Held.seen c.put_books.new.site in
    let a : List ℕ = to_be_bytes w64 s.offset.0 in
    let b : List ℕ = name_spelling c.publisher.result.now in
    let d : List ℕ = list_spelling bytes_spelling c.args.texts.now in
    let e : List ℕ = list_spelling table_spelling (map (rows_in s.rows.rows) c.tables.result.now) in
    let h : List ℕ = list_spelling book_line c.as_slice.result.now in
    let whole : (magic ++ (a ++ (b ++ d))) ++ (e ++ h) ≡ spelt s.offset.0 c.publisher.result.now c.args.texts.now s.rows.rows c.tables.result.now c.as_slice.result.now = regroup a b d (e ++ h) in
    let same : spelt s.offset.0 c.publisher.result.now c.args.texts.now s.rows.rows c.tables.result.now c.as_slice.result.now ≡ spelt s.offset.0 s.catalog.publisher (map printed (statements s.catalog)) s.rows.rows s.catalog.tables s.books =
    λ i. spelt s.offset.0 (c.publisher.ensures.publisher i) (c.requires.texts i) s.rows.rows (c.tables.ensures.tables i) (c.as_slice.ensures.items i) in
    subst (λ (l : List ℕ). HasPut c.args.file l first now c.args.out.now.buffer.items c.put_books.new.out.buffer.items c.put_books.new.out.place) (whole ∙ same)
    (put_on c.args.file _ _ first one now _ _ _ _ _ c.in_ok-put_catalog.ensures.put (put_on c.args.file _ _ one two now _ _ _ _ _ c.in_ok-put_tables.ensures.put c.in_ok-put_books.ensures.put))
