-- What an entry above gives goes along with its view: a row below that agrees before it agrees behind it.
use Rattle.std.proofs.Common.{◌≡◌, ℕ, Bool, true, false, cond, ◌&&◌, List, [], ◌∷◌, ◌++◌, Option, Some, None, bytes_eq, refl, sym, ap, ap₂, subst, ◌∙◌}
use Rattle.std.specs.List.{AllByRecursion}
use Rattle.std.specs.Ordering.{is_eq}
use Rattle.sr_ast.specs.declared.stmt.Stmt.{Stmt}
use Rattle.sr_base.specs.Order.{key_cmp}
use Rattle.sr_base.specs.declared.value.Value.{Value as Cell}
use Rattle.sr_base.proofs.Truths.{some_is}
use Rattle.sr_book.specs.Entries.{Name}
use Rattle.sr_catalog_change.specs.Changes.{refusal}
use Rattle.sr_exec_dml.proofs.Applied.{fitting_changes_keep}
use Rattle.sr_exec_where.proofs.Fixed.{same_name, bytes_itself}
use Rattle.sr_exec_dml.proofs.Folding.{same_key}
use Rattle.sr_exec_dml.specs.Fitting.{RowsFit}
use Rattle.sr_exec_dml.specs.FittingChanges.{IsFitChange, ChangesFit}
use Rattle.sr_exec_where.specs.Keys.{key_of}
use Rattle.sr_exec_dml.specs.Statements.{table_named}
use Rattle.sr_exec_fits.specs.Rows.{IsRow}
use Rattle.sr_database_history.specs.Fitting.{DoneFits, DonesFit}
use Rattle.sr_database_history.specs.Folds.{State, row_change, with_changes, with_statement, after_done, after_dones}
use Rattle.sr_database_history.specs.Recorded.{Done, plain, ran, conflict, clash, IsNoExec}
use Rattle.sr_logform.specs.declared.change.Change.{Change}
use Rattle.sr_logform.specs.declared.op.Op.{Op}
use Rattle.sr_publish.specs.SubscribedTables.{SubscribedTable, subscribed_table_of}
use Rattle.sr_publish.specs.Views.{is_in, shown, shown_row}
use Rattle.sr_rows.specs.Marks.{rows_of_table}
use Rattle.sr_scan.proofs.Agreeing.{done_fits}
use Rattle.sr_scan.proofs.Applying.{name_of_table, before_fits, after_fits, holds_after}
use Rattle.sr_scan.proofs.Moves.{subscribed_table_table, change_same}
use Rattle.sr_scan.specs.Given.{view_in, change_given, changes_given, done_given, dones_given}
use Rattle.sr_scan.specs.Inner.Images.{fits_if, images_told, change_told}
use Rattle.sr_scan.specs.Ops.{key_of_rows, told_of}
use Rattle.sr_catalog_schema.specs.declared.table.Table.{Table}
use Rattle.sr_world_untouched.specs.Untouched.{Agrees, KeepsSubscribedTable, HasSubscribedTable}
use Rattle.sr_world_untouched.proofs.Left.{left_all, left_all-append}
use Rattle.sr_world_untouched.proofs.Moved.{row_stays, rows_stay}
use Rattle.sr_world_untouched.proofs.Told.{Row, IsOther, IsViewAt, Mirrors, told_away, told_elsewhere, told_here, told_plain}

all_joined : {A : Type 0} (P : A → Type 0) (xs ys : List A) → AllByRecursion P xs → AllByRecursion P ys → AllByRecursion P (xs ++ ys)
all_joined P [] ys all more = more
all_joined P (x ∷ xs) ys all more = (all.0, all_joined P xs ys all.1 more)

-- what is shown of a row that fits is a view of it
pub view_at : (s : SubscribedTable) (k : List Cell) (o : Row) → ((row : List Cell) → o ≡ Some row → IsRow s.table.columns row × (key_of s.table.key row ≡ k)) → IsViewAt s k (shown_row (Some s) o)
view_at s k None f = tt
view_at s k (Some row) f = go (is_in s row)
  where
    go : (b : Bool) → IsViewAt s k (cond b (Some (shown s row)) None)
    go true = (row, (f row refl).0, (f row refl).1, refl)
    go false = tt

module _ (user : Name) (sh : SubscribedTable) (t : Table) (key : List Cell) (m : Mirrors sh t) where
  abbrev pub view : State → Row
  view s = view_in s user sh.table.name key

  -- ops that go along with a view: none is an Exec, and a row below that agrees goes on to agree
  pub record Goes (ops : List Op) (v w : Row) : Type 0 where
    pub plain : AllByRecursion IsNoExec ops
    pub agrees : (x : Row) → Agrees t sh v x → Agrees t sh w (left_all t ops key x)

  pub rests : (v w : Row) → v ≡ w → Goes [] v w
  rests v w e = record { plain = tt; agrees = λ x a. subst (λ (y : Row). Agrees t sh y x) e a }

  -- ops that leave the row, where the view stays
  pub stays : (ops : List Op) (v w : Row) → AllByRecursion IsNoExec ops → ((x : Row) → left_all t ops key x ≡ x) → v ≡ w → Goes ops v w
  stays ops v w none leaves e = record {
    plain = none;
    agrees = λ x a. subst (λ (y : Row). Agrees t sh w y) (sym (leaves x)) (subst (λ (y : Row). Agrees t sh y x) e a);
  }

  pub followed_by : (xs ys : List Op) (u v w : Row) → Goes xs u v → Goes ys v w → Goes (xs ++ ys) u w
  followed_by xs ys u v w one more = record {
    plain = all_joined IsNoExec xs ys one.plain more.plain;
    agrees = λ x a. subst (λ (y : Row). Agrees t sh w y) (sym (left_all-append t xs ys key x)) (more.agrees (left_all t xs key x) (one.agrees x a));
  }

  pub ends : (ops : List Op) (v w u : Row) → Goes ops v w → w ≡ u → Goes ops v u
  ends ops v w u goes e = subst (λ (y : Row). Goes ops v y) e goes

  pub by_ops : (ops others : List Op) (v w : Row) → others ≡ ops → Goes ops v w → Goes others v w
  by_ops ops others v w e goes = subst (λ (os : List Op). Goes os v w) (sym e) goes

  -- ---- one change

  module _ (s : State) (has : HasSubscribedTable user sh s) (fit : RowsFit s.catalog s.rows) (c : Change) (f : IsFitChange s.catalog s.rows c) where
    abbrev behind_it : State
    behind_it = with_changes (c ∷ []) s

    -- the view where the row stays
    view_stays : (c.table ≡ sh.table.name → IsOther key f.key) → view s ≡ view behind_it
    view_stays other = ap (shown_row (subscribed_table_of s.catalog user sh.table.name)) (sym (row_stays s.catalog s.rows c f fit sh.table.name key other))

    -- a change of another table
    other_goes : (o : Option SubscribedTable) → subscribed_table_of s.catalog user c.table ≡ o → bytes_eq sh.table.name c.table ≡ false → Goes (change_told o c) (view s) (view behind_it)
    other_goes o e apart = stays (change_told o c) (view s) (view behind_it) (none o) (leaves o e) (view_stays (λ same.
        let yes : bytes_eq sh.table.name c.table ≡ true = ap (bytes_eq sh.table.name) same ∙ bytes_itself sh.table.name in
        absurd (cc)))
      where
        none : (o : Option SubscribedTable) → AllByRecursion IsNoExec (change_told o c)
        none None = tt
        none (Some other) = go (fits_if other.table c.before && fits_if other.table c.after)
          where
            go : (b : Bool) → AllByRecursion IsNoExec (cond b (told_of other (key_of_rows other.table c.before c.after) (shown_row (Some other) c.before) (shown_row (Some other) c.after)) [])
            go true = told_plain other (key_of_rows other.table c.before c.after) (shown_row (Some other) c.before) (shown_row (Some other) c.after)
            go false = tt

        leaves : (o : Option SubscribedTable) → subscribed_table_of s.catalog user c.table ≡ o → (x : Row) → left_all t (change_told o c) key x ≡ x
        leaves None is x = refl
        leaves (Some other) is x = go (fits_if other.table c.before && fits_if other.table c.after)
          where
            named : c.table ≡ other.table.name
            named = name_of_table s.catalog c.table other.table (subscribed_table_table s.catalog user c.table other is)

            not_ours : bytes_eq t.name other.table.name ≡ false
            not_ours = ap₂ (λ (m n : List ℕ). bytes_eq m n) m.name (sym named) ∙ apart

            go : (b : Bool) → left_all t (cond b (told_of other (key_of_rows other.table c.before c.after) (shown_row (Some other) c.before) (shown_row (Some other) c.after)) []) key x ≡ x
            go true = told_away other t (key_of_rows other.table c.before c.after) (shown_row (Some other) c.before) (shown_row (Some other) c.after) key x not_ours
            go false = refl

    -- a change of the table
    module _ (same : c.table ≡ sh.table.name) where
      is_table : f.table ≡ sh.table
      is_table = some_is (sym f.named ∙ ap (table_named s.catalog) same ∙ subscribed_table_table s.catalog user sh.table.name sh has)

      fits_before : (row : List Cell) → c.before ≡ Some row → IsRow sh.table.columns row × (key_of sh.table.key row ≡ f.key)
      fits_before row e = subst (λ (x : Table). IsRow x.columns row × (key_of x.key row ≡ f.key)) is_table (before_fits s.catalog s.rows c f fit row e)

      fits_after : (row : List Cell) → c.after ≡ Some row → IsRow sh.table.columns row × (key_of sh.table.key row ≡ f.key)
      fits_after row e = subst (λ (x : Table). IsRow x.columns row × (key_of x.key row ≡ f.key)) is_table (after_fits s.catalog s.rows c f row e)

      abbrev before : Row
      before = shown_row (Some sh) c.before

      abbrev after : Row
      after = shown_row (Some sh) c.after

      seen_before : key ≡ f.key → view s ≡ before
      seen_before e = ap₂ (λ (o : Option SubscribedTable) (r : Row). shown_row o r) has
          (ap₂ (λ (n : List ℕ) (k : List Cell). rows_of_table s.rows n k) (sym same) e ∙ f.held)

      seen_after : key ≡ f.key → view behind_it ≡ after
      seen_after e = ap₂ (λ (o : Option SubscribedTable) (r : Row). shown_row o r) has
          (ap₂ (λ (n : List ℕ) (k : List Cell). rows_of_table behind_it.rows n k) (sym same) e ∙ holds_after s.catalog s.rows c f fit)

      -- what tells of it, under the key of the change
      told_goes : Goes (told_of sh f.key before after) (view s) (view behind_it)
      told_goes = go (is_eq (key_cmp key f.key)) refl
        where
          go : (b : Bool) → is_eq (key_cmp key f.key) ≡ b → Goes (told_of sh f.key before after) (view s) (view behind_it)
          go true e =
              let here : key ≡ f.key = same_key key f.key e in
              record {
                plain = told_plain sh f.key before after;
                agrees = λ x a.
                    let told = told_here sh t m f.key before after (view_at sh f.key c.before fits_before) (view_at sh f.key c.after fits_after) x
                    (subst (λ (y : Row). Agrees t sh y x) (seen_before here) a) in
                    subst (λ (k : List Cell). Agrees t sh (view behind_it) (left_all t (told_of sh f.key before after) k x)) (sym here)
                    (subst (λ (y : Row). Agrees t sh y (left_all t (told_of sh f.key before after) f.key x)) (sym (seen_after here)) told);
              }
          go false e = stays (told_of sh f.key before after) (view s) (view behind_it) (told_plain sh f.key before after)
              (λ x. told_elsewhere sh t m f.key before after (view_at sh f.key c.before fits_before) (view_at sh f.key c.after fits_after) key e x)
              (view_stays (λ here. e))

      images_go : Goes (images_told sh c.before c.after) (view s) (view behind_it)
      images_go = by_fits (fits_if sh.table c.before && fits_if sh.table c.after) refl
        where
          fits_so : (o : Row) → ((row : List Cell) → o ≡ Some row → IsRow sh.table.columns row × (key_of sh.table.key row ≡ f.key)) → fits_if sh.table o ≡ true
          fits_so None g = refl
          fits_so (Some row) g = (g row refl).0

          by_key : (b a : Row) → c.before ≡ b → c.after ≡ a → Goes (told_of sh (key_of_rows sh.table b a) (shown_row (Some sh) b) (shown_row (Some sh) a)) (view s) (view behind_it)
          by_key None None p q =
              let made : Goes (told_of sh f.key (shown_row (Some sh) None) (shown_row (Some sh) None)) (view s) (view behind_it)
              = subst (λ (r : Row × Row). Goes (told_of sh f.key (shown_row (Some sh) r.0) (shown_row (Some sh) r.1)) (view s) (view behind_it)) (ap₂ (λ (x y : Row). (x, y)) p q) told_goes in
              made
          by_key (Some row) a p q =
              subst (λ (k : List Cell). Goes (told_of sh k (shown_row (Some sh) (Some row)) (shown_row (Some sh) a)) (view s) (view behind_it)) (sym (fits_before row p).1)
              (subst (λ (r : Row × Row). Goes (told_of sh f.key (shown_row (Some sh) r.0) (shown_row (Some sh) r.1)) (view s) (view behind_it)) (ap₂ (λ (x y : Row). (x, y)) p q) told_goes)
          by_key None (Some row) p q =
              subst (λ (k : List Cell). Goes (told_of sh k (shown_row (Some sh) None) (shown_row (Some sh) (Some row))) (view s) (view behind_it)) (sym (fits_after row q).1)
              (subst (λ (r : Row × Row). Goes (told_of sh f.key (shown_row (Some sh) r.0) (shown_row (Some sh) r.1)) (view s) (view behind_it)) (ap₂ (λ (x y : Row). (x, y)) p q) told_goes)

          by_fits : (b : Bool) → (fits_if sh.table c.before && fits_if sh.table c.after) ≡ b
              → Goes (cond b (told_of sh (key_of_rows sh.table c.before c.after) (shown_row (Some sh) c.before) (shown_row (Some sh) c.after)) []) (view s) (view behind_it)
          by_fits true e = by_key c.before c.after refl refl
          by_fits false e =
              let yes : (fits_if sh.table c.before && fits_if sh.table c.after) ≡ true
              = ap₂ (λ (x y : Bool). x && y) (fits_so c.before fits_before) (fits_so c.after fits_after) in
              absurd (cc)

    pub change_goes : Goes (change_given (subscribed_table_of s.catalog user c.table) s user c) (view s) (view behind_it)
    change_goes = by_ops (change_told (subscribed_table_of s.catalog user c.table) c) (change_given (subscribed_table_of s.catalog user c.table) s user c) (view s) (view behind_it)
        (change_same s user c fit f (subscribed_table_of s.catalog user c.table) refl) (go (bytes_eq sh.table.name c.table) refl)
      where
        go : (b : Bool) → bytes_eq sh.table.name c.table ≡ b → Goes (change_told (subscribed_table_of s.catalog user c.table) c) (view s) (view behind_it)
        go false e = other_goes (subscribed_table_of s.catalog user c.table) refl e
        go true e =
            let same : c.table ≡ sh.table.name = sym (same_name sh.table.name c.table e) in
            subst (λ (o : Option SubscribedTable). Goes (change_told o c) (view s) (view behind_it)) (sym (ap (subscribed_table_of s.catalog user) same ∙ has)) (images_go same)

  -- ---- changes

  pub changes_go : (s : State) (changes : List Change) → HasSubscribedTable user sh s → RowsFit s.catalog s.rows → ChangesFit s.catalog s.rows changes
      → Goes (changes_given s user changes) (view s) (view (with_changes changes s))
  changes_go s [] has fit f = rests (view s) (view s) refl
  changes_go s (c ∷ changes) has fit f =
      followed_by (change_given (subscribed_table_of s.catalog user c.table) s user c) (changes_given (with_changes (c ∷ []) s) user changes) (view s) (view (with_changes (c ∷ []) s))
      (view (with_changes (c ∷ changes) s)) (change_goes s has fit c f.0)
      (changes_go (with_changes (c ∷ []) s) changes has (fitting_changes_keep s.catalog s.rows (c ∷ []) fit (f.0, tt)) f.1)

  -- an accepted statement, behind_it which the user has the subscribed table
  pub view_kept : (s : State) (statement : Stmt) → HasSubscribedTable user sh s → HasSubscribedTable user sh (with_statement statement s) → refusal s.catalog statement ≡ None
      → view s ≡ view (with_statement statement s)
  unfolding with_statement
  view_kept s statement has behind_it accepted =
      ap₂ (λ (o : Option SubscribedTable) (r : Row). shown_row o r) (has ∙ sym behind_it) (sym (rows_stay statement s.catalog s.rows user sh.table.name sh key accepted has))

  -- ---- what was taken from others

  pub done_goes : (s : State) (d : Done) → HasSubscribedTable user sh s → HasSubscribedTable user sh (after_done d s) → RowsFit s.catalog s.rows → DoneFits s d
      → Goes (done_given s user d) (view s) (view (after_done d s))
  done_goes s (plain op changes) has later fit f = changes_go s changes has fit f.changes
  done_goes s (ran statement changes) has later fit f =
      ends (changes_given s user changes) (view s) (view (with_changes changes s)) (view (with_statement statement (with_changes changes s))) (changes_go s changes has fit f.changes)
      (view_kept (with_changes changes s) statement has later f.outcome.catalog)
  done_goes s (conflict op inserts before after) has later fit f = changes_go s (inserts ++ row_change op before after ∷ []) has fit f.changes
  done_goes s (clash op why) has later fit f = rests (view s) (view s) refl

  pub subscribed_table_now : (s : State) (dones : List Done) → KeepsSubscribedTable user sh s dones → HasSubscribedTable user sh s
  subscribed_table_now s [] keeps = keeps
  subscribed_table_now s (d ∷ dones) keeps = keeps.0

  pub dones_go : (s : State) (dones : List Done) → KeepsSubscribedTable user sh s dones → RowsFit s.catalog s.rows → DonesFit s dones
      → Goes (dones_given false s user dones) (view s) (view (after_dones dones s))
  dones_go s [] keeps fit f = rests (view s) (view s) refl
  dones_go s (d ∷ dones) keeps fit f =
      followed_by (done_given s user d) (dones_given false (after_done d s) user dones) (view s) (view (after_done d s)) (view (after_dones dones (after_done d s)))
      (done_goes s d keeps.0 (subscribed_table_now (after_done d s) dones keeps.1) fit f.0)
      (dones_go (after_done d s) dones keeps.1 (done_fits s d fit f.0) f.1)
