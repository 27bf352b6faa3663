use Rattle.std.proofs.Common.{◌≡◌, ◌≤◌, ℕ, List, ◌++◌, length, refl, sym, ap, subst}
use Rattle.std.specs.List.{flat_map}
use Rattle.sr_base.specs.Values.{row_spelling}
use Rattle.sr_rows.specs.Walks.{Entry, table_rows}
use Rattle.sr_snapshot.proofs.Puts.{Putting, if_fault, putting_at, putting_begin, putting_cause, putting_end, putting_more}
use Rattle.sr_snapshot.proofs.Shorts.{first_short, later_short}
use Rattle.sr_snapshot.specs.Parts.{longest, rows_of}
use Rattle.sr_snapshot.specs.Inner.Writing.{PutCause}
use Rattle.sr_snapshot.proofs.putting.put_rows.Goals as goal

pub rows-init : goal.rows-init
rows-init g c =
    let seen = g.S.Held.seen c.args.site.now in
    let all : List Entry = table_rows c.args.rows.now.rows c.args.table.now in
    record {
      putting = subst (λ (es : List Entry). Putting c.args.file (flat_map row_spelling (rows_of all)) (flat_map row_spelling (rows_of es)) seen seen c.args.out.now.buffer.items c.args.out.now.buffer.items c.args.out.now.place) (sym c.walk-walk.ensures.rows)
          (putting_begin c.args.file _ seen _ _ _ refl c.requires.at);
      short = subst (λ (es : List Entry). length (flat_map row_spelling (rows_of es)) ≤ longest) (sym c.walk-walk.ensures.rows) c.requires.short;
    }

pub put_row-requires : goal.put_row-requires
put_row-requires g c =
    let parts : flat_map row_spelling (rows_of c.rows.walk) ≡ row_spelling c.in-Some.row.now ++ flat_map row_spelling (rows_of c.next.new.self) = ap (λ (es : List Entry). flat_map row_spelling (rows_of es)) c.in-Some.ensures.next in
    record {
      short = first_short (row_spelling c.in-Some.row.now) (flat_map row_spelling (rows_of c.next.new.self)) (subst (λ (b : List ℕ). length b ≤ longest) parts c.rows.invariant.short);
      at = putting_at c.args.file _ _ (g.S.Held.seen c.args.site.now) (g.S.Held.seen c.rows.site) _ _ _ c.rows.invariant.putting;
    }

pub rows-preserved : goal.rows-preserved
rows-preserved g c =
    let parts : flat_map row_spelling (rows_of c.rows.walk) ≡ row_spelling c.in-Some.row.now ++ flat_map row_spelling (rows_of c.next.new.self) = ap (λ (es : List Entry). flat_map row_spelling (rows_of es)) c.in-Some.ensures.next in
    record {
      putting = putting_more c.args.file _ _ _ _ (g.S.Held.seen c.args.site.now) (g.S.Held.seen c.rows.site) (g.S.Held.seen c.put_row.new.site) _ _ _ _ _ parts c.rows.invariant.putting c.in_ok-put_row.ensures.put;
      short = later_short (row_spelling c.in-Some.row.now) _ (subst (λ (b : List ℕ). length b ≤ longest) parts c.rows.invariant.short);
    }

pub returns-in_err-put_row-clause-cause : goal.returns-in_err-put_row-clause-cause
returns-in_err-put_row-clause-cause g c =
    let first = g.S.Held.seen c.args.site.now in
    let now = g.S.Held.seen c.put_row.new.site in
    if_fault (PutCause c.args.file first now) c.in_err-put_row.field-0.0 c.from_residual.result c.from_residual.ensures.1
    (putting_cause c.args.file _ _ first (g.S.Held.seen c.rows.site) now _ _ _ c.in_err-put_row.field-0.0 c.rows.invariant.putting c.in_err-put_row.ensures.cause)

pub returns-clause-put : goal.returns-clause-put
returns-clause-put g c =
    putting_end c.args.file _ _ (g.S.Held.seen c.args.site.now) (g.S.Held.seen c.rows.site) _ _ _ (ap (λ (es : List Entry). flat_map row_spelling (rows_of es)) c.in_default.ensures.next.0) c.rows.invariant.putting
