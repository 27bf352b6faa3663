use Rattle.std.proofs.Common.{◌≡◌, List, ℕ, ◌++◌, length, ◌∙◌, ap}
use Rattle.std.proofs.lemmas.Result.{err_from_is_err_and}
use Rattle.std.specs.Int.{w32, to_be_bytes}
use Rattle.std.specs.List.{flat_map}
use Rattle.sr_base.specs.Fields.{name_spelling}
use Rattle.sr_base.specs.Values.{row_spelling}
use Rattle.sr_base.specs.declared.value.Value.{Value}
use Rattle.sr_rows.specs.Walks.{table_rows}
use Rattle.sr_snapshot.proofs.Puts.{cause_memory, put_behind}
use Rattle.sr_snapshot.proofs.Shorts.{later_short}
use Rattle.sr_snapshot.specs.Parts.{rows_of}
use Rattle.sr_snapshot.proofs.putting.put_table.Goals as goal

pub returns-in_err-write_name-clause-cause : goal.returns-in_err-write_name-clause-cause
returns-in_err-write_name-clause-cause g c =
    let p = err_from_is_err_and c.from_residual.result c.from_residual.ensures.1 in
    rw (p.1, p.2) (cause_memory c.args.file (g.S.Held.seen c.args.site.now))

pub returns-in_err-count_of-clause-cause : goal.returns-in_err-count_of-clause-cause
returns-in_err-count_of-clause-cause g c =
    let p = err_from_is_err_and c.from_residual-in_err-count_of.result c.from_residual-in_err-count_of.ensures.1 in
    rw (p.1, p.2) (cause_memory c.args.file (g.S.Held.seen c.args.site.now))

pub returns-in_err-write_count-clause-cause : goal.returns-in_err-write_count-clause-cause
returns-in_err-write_count-clause-cause g c =
    let p = err_from_is_err_and c.from_residual-in_err-write_count.result c.from_residual-in_err-write_count.ensures.1 in
    rw (p.1, p.2) (cause_memory c.args.file (g.S.Held.seen c.args.site.now))

pub put_rows-requires : goal.put_rows-requires
put_rows-requires g c =
    let rows : List (List Value) = rows_of (table_rows c.args.rows.now.rows c.args.table.now) in
    record {
      short = later_short (to_be_bytes w32 (length rows)) _ (later_short (name_spelling c.args.table.now) _ c.requires.short);
      at = c.requires.at;
    }

pub returns-clause-put : goal.returns-clause-put
returns-clause-put g c =
    let before = g.S.Held.seen c.args.site.now in
    let now = g.S.Held.seen c.put_rows.new.site in
    let rows : List (List Value) = rows_of (table_rows c.args.rows.now.rows c.args.table.now) in
    let count : List ℕ = to_be_bytes w32 (length rows) in
    let counted : c.write_count.new.buffer.items ≡ c.write_name.new.out.items ++ count =
    c.in_ok-write_count.ensures.added ∙ ap (λ (n : ℕ). c.write_name.new.out.items ++ to_be_bytes w32 n) c.in_ok-count_of.ensures.count in
    put_behind c.args.file (name_spelling c.args.table.now) (count ++ flat_map row_spelling rows) before now c.args.out.now.buffer.items c.write_name.new.out.items _ c.args.out.now.place _ c.requires.at c.in_ok-write_name.ensures.ok
    (put_behind c.args.file count (flat_map row_spelling rows) before now c.write_name.new.out.items _ _ c.args.out.now.place _ c.requires.at counted c.in_ok-put_rows.ensures.put)
