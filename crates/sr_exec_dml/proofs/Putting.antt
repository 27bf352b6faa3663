-- How edits change with a row that is put or taken.
use Rattle.std.proofs.Common.{◌≡◌, Bool, true, false, cond, List, [], ◌∷◌, Option, Some, refl, sym, ap, ◌∙◌}
use Rattle.std.specs.Ordering.{is_eq}
use Rattle.std.specs.Cmp.{eq_by_cmp_equiv}
use Rattle.std.specs.BTreeMap.{is_at}
use Rattle.sr_base.specs.Order.{key_cmp}
use Rattle.sr_base.specs.Inner.Order.{key_cmp_total}
use Rattle.sr_rows.specs.Walks.{Entry}
use Rattle.sr_exec_dml.specs.declared.edit.Edit.{Edit}
use Rattle.sr_exec_dml.specs.Inner.Edits.{edit_at, is_taken, AreEdits, with_put, with_taken}
use Rattle.sr_exec_dml.specs.Holding.{under}
use Rattle.sr_exec_dml.proofs.Folding.{Key, same_key}

put_at : (taken : Bool) (rows : List Key) (row : Key) → Some (with_put (edit_at taken rows) row) ≡ edit_at taken (row ∷ rows)
put_at true [] row = refl
put_at true (x ∷ []) row = refl
put_at true (x ∷ y ∷ rows) row = refl
put_at false [] row = refl
put_at false (x ∷ []) row = refl
put_at false (x ∷ y ∷ rows) row = refl

taken_at : (taken : Bool) (rows : List Key) → Some (with_taken (edit_at taken rows)) ≡ edit_at true rows
taken_at true [] = refl
taken_at true (x ∷ []) = refl
taken_at true (x ∷ y ∷ rows) = refl
taken_at false [] = refl
taken_at false (x ∷ []) = refl
taken_at false (x ∷ y ∷ rows) = refl

module _ (at now : Key → Option Edit) (taken : List Key) (put : List Entry) (k : Key) (edits : AreEdits at taken put) where
  pub put-AreEdits : (row : Key) → ((q : Key) → now q ≡ cond (is_at (key_cmp k) q) (Some (with_put (at k) row)) (at q)) → AreEdits now taken ((k, row) ∷ put)
  put-AreEdits row h q = h q ∙ ap (λ b. cond b (Some (with_put (at k) row)) (at q)) ((eq_by_cmp_equiv key_cmp_total).symm k q) ∙ go (is_eq (key_cmp q k)) refl where
    go : (b : Bool) → is_eq (key_cmp q k) ≡ b → cond b (Some (with_put (at k) row)) (at q) ≡ edit_at (is_taken q taken) (cond b (row ∷ under q put) (under q put))
    go true e = let is : q ≡ k = same_key q k e in
        ap (λ j. Some (with_put (at j) row)) (sym is) ∙ ap (λ o. Some (with_put o row)) (edits q) ∙ put_at (is_taken q taken) (under q put) row
    go false e = edits q

  pub taken-AreEdits : ((q : Key) → now q ≡ cond (is_at (key_cmp k) q) (Some (with_taken (at k))) (at q)) → AreEdits now (k ∷ taken) put
  taken-AreEdits h q = h q ∙ ap (λ b. cond b (Some (with_taken (at k))) (at q)) ((eq_by_cmp_equiv key_cmp_total).symm k q) ∙ go (is_eq (key_cmp q k)) refl where
    go : (b : Bool) → is_eq (key_cmp q k) ≡ b → cond b (Some (with_taken (at k))) (at q) ≡ edit_at (cond b true (is_taken q taken)) (under q put)
    go true e = let is : q ≡ k = same_key q k e in
        ap (λ j. Some (with_taken (at j))) (sym is) ∙ ap (λ o. Some (with_taken o)) (edits q) ∙ taken_at (is_taken q taken) (under q put)
    go false e = edits q
