use Rattle.std.proofs.Common.{◌≡◌, ◌≤◌, ℕ, List, [], ◌++◌, length, map, refl, sym, ◌∙◌, ap, subst}
use Rattle.std.proofs.lemmas.List.{length-map}
use Rattle.std.proofs.lemmas.Result.{err_from_is_err_and}
use Rattle.std.specs.Int.{w32, to_be_bytes}
use Rattle.std.specs.List.{flat_map}
use Rattle.sr_catalog_schema.specs.declared.table.Table.{Table}
use Rattle.sr_logform.specs.Entries.{table_spelling}
use Rattle.sr_snapshot.proofs.Puts.{cause_memory, if_fault, no_length, none_there, putting_at, putting_behind, putting_cause, putting_end, putting_more}
use Rattle.sr_snapshot.proofs.Shorts.{first_short, later_short}
use Rattle.sr_snapshot.specs.Parts.{longest}
use Rattle.sr_snapshot.specs.Snapshots.{rows_in}
use Rattle.sr_snapshot.specs.Inner.Writing.{PutCause}
use Rattle.sr_snapshot.proofs.writing.put_tables.Goals as goal

pub returns-in_err-write_count-clause-cause : goal.returns-in_err-write_count-clause-cause
returns-in_err-write_count-clause-cause g c =
    let p = err_from_is_err_and c.from_residual.result c.from_residual.ensures.1 in
    rw (p.1, p.2) (cause_memory c.args.file (g.S.Held.seen c.args.site.now))

pub tables-init : goal.tables-init
tables-init g c =
    let tables : List Table = c.args.tables.now in
    let many : c.write_count.new.buffer.items ≡ c.args.out.now.buffer.items ++ to_be_bytes w32 (length (map (rows_in c.args.rows.now.rows) tables)) =
    c.in_ok-write_count.ensures.added ∙ ap (λ (n : ℕ). c.args.out.now.buffer.items ++ to_be_bytes w32 n) (sym (length-map tables (rows_in c.args.rows.now.rows))) in
    record {
      putting = putting_behind c.args.file _ _ _ (g.S.Held.seen c.args.site.now) _ _ _ many c.requires.at refl;
      short = later_short (to_be_bytes w32 (length (map (rows_in c.args.rows.now.rows) tables))) _ c.requires.short;
    }

pub put_table-requires : goal.put_table-requires
put_table-requires g c =
    let spelt = λ (ts : List Table). flat_map table_spelling (map (rows_in c.args.rows.now.rows) ts) in
    let parts : spelt c.tables.left.now ≡ table_spelling (rows_in c.args.rows.now.rows c.in-Some.table.now) ++ spelt c.in-Some.rest.now = ap spelt c.in-Some.ensures.cases.0 in
    record {
      short = first_short (table_spelling (rows_in c.args.rows.now.rows c.in-Some.table.now)) (spelt c.in-Some.rest.now) (subst (λ (b : List ℕ). length b ≤ longest) parts c.tables.invariant.short);
      at = putting_at c.args.file _ _ (g.S.Held.seen c.args.site.now) (g.S.Held.seen c.tables.site) _ _ _ c.tables.invariant.putting;
    }

pub tables-preserved : goal.tables-preserved
tables-preserved g c =
    let spelt = λ (ts : List Table). flat_map table_spelling (map (rows_in c.args.rows.now.rows) ts) in
    let parts : spelt c.tables.left.now ≡ table_spelling (rows_in c.args.rows.now.rows c.in-Some.table.now) ++ spelt c.in-Some.rest.now = ap spelt c.in-Some.ensures.cases.0 in
    record {
      putting = putting_more c.args.file _ _ _ _ (g.S.Held.seen c.args.site.now) (g.S.Held.seen c.tables.site) (g.S.Held.seen c.put_table.new.site) _ _ _ _ _ parts c.tables.invariant.putting c.in_ok-put_table.ensures.put;
      short = later_short (table_spelling (rows_in c.args.rows.now.rows c.in-Some.table.now)) _ (subst (λ (b : List ℕ). length b ≤ longest) parts c.tables.invariant.short);
    }

pub returns-in_err-put_table-clause-cause : goal.returns-in_err-put_table-clause-cause
returns-in_err-put_table-clause-cause g c =
    let first = g.S.Held.seen c.args.site.now in
    let now = g.S.Held.seen c.put_table.new.site in
    if_fault (PutCause c.args.file first now) c.in_err-put_table.field-0.0 c.from_residual-in_err-put_table.result c.from_residual-in_err-put_table.ensures.1
    (putting_cause c.args.file _ _ first (g.S.Held.seen c.tables.site) now _ _ _ c.in_err-put_table.field-0.0 c.tables.invariant.putting c.in_err-put_table.ensures.cause)

pub returns-clause-put : goal.returns-clause-put
returns-clause-put g c =
    let spelt = λ (ts : List Table). flat_map table_spelling (map (rows_in c.args.rows.now.rows) ts) in
    let none : c.tables.left.now ≡ [] = no_length _ (none_there c.split_first.result _ _ c.in_default.not-Some c.split_first.ensures.cases) in
    putting_end c.args.file _ _ (g.S.Held.seen c.args.site.now) (g.S.Held.seen c.tables.site) _ _ _ (ap spelt none) c.tables.invariant.putting
