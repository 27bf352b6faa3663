-- The rows of tables, each with its rows by ascending key, are those of one map.
use Rattle.std.proofs.Common.{◌≡◌, ℕ, Bool, true, false, List, [], ◌∷◌, Option, Some, None, IsSome, refl, sym, ap, subst, ◌∙◌}
use Rattle.std.specs.Prelude.{map, bytes_eq}
use Rattle.std.proofs.lemmas.Slice.Eq.{bytes_eq-Decides}
use Rattle.std.specs.List.{AllByRecursion}
use Rattle.std.specs.FinMap.{get, find, same_map}
use Rattle.sr_base.specs.declared.value.Value.{Value as Cell}
use Rattle.sr_base.specs.Order.{key_cmp}
use Rattle.sr_exec_dml.specs.Fitting.{RowsFit}
use Rattle.sr_exec_where.specs.Keys.{key_of}
use Rattle.sr_exec_dml.specs.Statements.{table_named}
use Rattle.sr_exec_dml.proofs.Applied.{found_named}
use Rattle.sr_rows.specs.Marks.{Place, RowMap}
use Rattle.sr_rows.specs.Inner.Marks.{place_cmp_total}
use Rattle.sr_rows.specs.Walks.{Entry, table_rows}
use Rattle.sr_rows.proofs.Cursors.{AreHeld, table_held}
use Rattle.sr_rows.proofs.Gathering.{exact_places}
use Rattle.sr_rows.proofs.Listing.{get-table_rows}
use Rattle.sr_catalog_schema.specs.Catalogs.{Lists}
use Rattle.sr_catalog_schema.specs.Names.{named}
use Rattle.sr_catalog_schema.specs.declared.table.Table.{Table}
use Rattle.sr_snapshot.specs.Snapshots.{rows_in}

abbrev AreKeyed : List ℕ → List Entry → Type 0
AreKeyed places es = AllByRecursion (λ (e : Entry). key_of places e.1 ≡ e.0) es

same_entries : (places : List ℕ) (es fs : List Entry) → AreKeyed places es → AreKeyed places fs → map (λ (e : Entry). e.1) es ≡ map (λ (e : Entry). e.1) fs → es ≡ fs
same_entries places [] [] a b same = refl
same_entries places [] (f ∷ fs) a b same = cc
same_entries places (e ∷ es) [] a b same = cc
same_entries places (e ∷ es) (f ∷ fs) a b same =
    let row : e.1 ≡ f.1 = cc in
    let rows : map (λ (e : Entry). e.1) es ≡ map (λ (e : Entry). e.1) fs = cc in
    let key : e.0 ≡ f.0 = sym a.0 ∙ ap (key_of places) row ∙ b.0 in
    let on : es ≡ fs = same_entries places es fs a.1 b.1 rows in
    λ i. (key i, row i) ∷ on i

keyed : (c : Lists) (r : RowMap) (t : Table) (es : List Entry) → RowsFit c r → table_named c t.name ≡ Some t → AreHeld r t.name es → AreKeyed t.key es
keyed c r t [] fit named_ held = tt
keyed c r t (e ∷ es) fit named_ held = ((fit.each t.name t named_ e.0 e.1 held.0).1, keyed c r t es fit named_ held.1)

one_or_later : (r q : RowMap) (name : List ℕ) (x : Table) (ts : List Table) (t : Table) (b : Bool) → bytes_eq name x.name ≡ b → named (λ (t : Table). t.name) name (x ∷ ts) ≡ Some t
    → rows_in r x ≡ rows_in q x → ((named (λ (t : Table). t.name) name ts ≡ Some t) → rows_in r t ≡ rows_in q t) → rows_in r t ≡ rows_in q t
one_or_later r q name x ts t true is found heads later =
    let same : Some x ≡ Some t = cc in
    let one : x ≡ t = cc in
    subst (λ (y : Table). rows_in r y ≡ rows_in q y) one heads
one_or_later r q name x ts t false is found heads later = let on : named (λ (t : Table). t.name) name ts ≡ Some t = cc in later on

-- of the table of a name
same_table : (r q : RowMap) (name : List ℕ) (ts : List Table) (t : Table) → named (λ (t : Table). t.name) name ts ≡ Some t → map (rows_in r) ts ≡ map (rows_in q) ts → rows_in r t ≡ rows_in q t
same_table r q name [] t found same = cc
same_table r q name (x ∷ ts) t found same =
    let heads : rows_in r x ≡ rows_in q x = cc in
    let tails : map (rows_in r) ts ≡ map (rows_in q) ts = cc in
    let later : (named (λ (t : Table). t.name) name ts ≡ Some t) → rows_in r t ≡ rows_in q t = λ found. same_table r q name ts t found tails in
    one_or_later r q name x ts t (bytes_eq name x.name) refl found heads later

not_some : IsSome {T = Table} None → ⊥
not_some wrong = cc

pub same_rows : (c : Lists) (r q : RowMap) → RowsFit c r → RowsFit c q → map (rows_in r) c.tables ≡ map (rows_in q) c.tables → r ≡ q
same_rows c r q fit other same = same_map place_cmp_total exact_places r q (λ place. at place (table_named c place.0) refl (get r place) refl (get q place) refl)
  where
    its_name : (place : Place) (t : Table) → table_named c place.0 ≡ Some t → place.0 ≡ t.name
    its_name place t is = (bytes_eq-Decides place.0 t.name).0 (found_named place.0 c.tables t is)

    at_table : (place : Place) (t : Table) → table_named c place.0 ≡ Some t → get r place ≡ get q place
    at_table place t is =
        let name = its_name place t is in
        let there : table_named c t.name ≡ Some t = subst (λ (n : List ℕ). table_named c n ≡ Some t) name is in
        let rows : rows_in r t ≡ rows_in q t = same_table r q place.0 c.tables t is same in
        let entries : table_rows r t.name ≡ table_rows q t.name =
        same_entries t.key (table_rows r t.name) (table_rows q t.name) (keyed c r t (table_rows r t.name) fit there (table_held r t.name)) (keyed c q t (table_rows q t.name) other there (table_held q t.name)) (ap (λ (p : List ℕ × List (List Cell)). p.1) rows) in
        ap (λ (n : List ℕ). get r (n, place.1)) name ∙ get-table_rows r t.name place.1 ∙ ap (λ (es : List Entry). find key_cmp place.1 es) entries
        ∙ sym (get-table_rows q t.name place.1) ∙ ap (λ (n : List ℕ). get q (n, place.1)) (sym name)

    at : (place : Place) (o : Option Table) → table_named c place.0 ≡ o → (a : Option (List Cell)) → get r place ≡ a → (b : Option (List Cell)) → get q place ≡ b → get r place ≡ get q place
    at place (Some t) is a m b n = at_table place t is
    at place None is None m None n = m ∙ sym n
    at place None is None m (Some row) n = absurd (not_some (subst IsSome is (other.there place.0 place.1 row n)))
    at place None is (Some row) m b n = absurd (not_some (subst IsSome is (fit.there place.0 place.1 row m)))
