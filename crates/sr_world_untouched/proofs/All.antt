-- At an untouched key the row below is the view above, up to what was taken.
use Rattle.std.proofs.Common.{◌≡◌, inl, inr, ℕ, ◌+◌, Bool, true, cond, map, List, [], ◌∷◌, ◌++◌, Some, None, refl, sym, ap, subst, ◌∙◌}
use Rattle.std.specs.Prelude.{flat_map}
use Rattle.std.specs.List.{AllByRecursion}
use Rattle.sr_base.specs.declared.value.Value.{Value as Cell}
use Rattle.sr_book.specs.Entries.{Name}
use Rattle.sr_book.specs.Histories.{taken as taken_from}
use Rattle.sr_exec_where.proofs.Fixed.{bytes_itself}
use Rattle.sr_exec_dml.specs.Statements.{table_named}
use Rattle.sr_database_history.proofs.Joined.{state_from-append}
use Rattle.sr_database_history.proofs.Kept.{fresh_holds, stays_held}
use Rattle.sr_database_history.specs.Folds.{State, fresh, next, sees, size, state_from, state_of, end_from, end_of}
use Rattle.sr_database_history.specs.Inner.Laws.{Holds}
use Rattle.sr_database_history.specs.Recorded.{Done, Recorded, own, taken, ddl, sync, pass, note, IsNoExec}
use Rattle.sr_logform.specs.declared.op.Op.{Op}
use Rattle.sr_world_model.specs.Machines.{lawful_from}
use Rattle.sr_world_model.specs.Worlds.{World, history}
use Rattle.sr_publish.proofs.Orderly.{table_has_key}
use Rattle.sr_publish.specs.Inner.Laws.{HasKey}
use Rattle.sr_publish.specs.SubscribedTables.{SubscribedTable}
use Rattle.sr_catalog_script_laws.proofs.Made.{new_made}
use Rattle.sr_resolve.specs.Taking.{is_above}
use Rattle.sr_rows.specs.Marks.{rows_of_table}
use Rattle.sr_scan.proofs.Strict.{IsGood, entry_good, subscribed_table_proper}
use Rattle.sr_scan.specs.Given.{gives, table_synced, given_from}
use Rattle.sr_catalog_schema.specs.Firsts.{has}
use Rattle.sr_catalog_schema.specs.declared.table.Table.{Table}
use Rattle.sr_world_untouched.specs.Untouched.{Agrees, AgreesAt, BeginsTaking, BySync, ByStart, EachFrom, HasSubscribedTable, IsUntouched, KeepsAbove, KeepsBelow, KeepsSubscribedTable, KeysAgree, SubscribedTableStays}
use Rattle.sr_world_untouched.proofs.Above.{view, Goes}
use Rattle.sr_world_untouched.proofs.Along.{ops_of, ops_with, since_goes}
use Rattle.sr_world_untouched.proofs.Below.{below}
use Rattle.sr_world_untouched.proofs.Joined.{joined, some_new}
use Rattle.sr_world_untouched.proofs.Left.{left_all, left_all-append}
use Rattle.sr_world_untouched.proofs.Synced.{tables_begin}
use Rattle.sr_world_untouched.proofs.Told.{Row, Mirrors}
use Rattle.sr_world.specs.Lawful.{IsLawful}
use Rattle.sr_world.specs.Real.{machine, IsGoodWorld}

-- ---- lawful histories, in parts

lawful_first : (s : State) (place : ℕ) (rs qs : List Recorded) → lawful_from machine IsLawful s place (rs ++ qs) → lawful_from machine IsLawful s place rs
lawful_first s place [] qs l = tt
lawful_first s place (r ∷ rs) qs l = (l.0, lawful_first (next s r) (place + (size r + 5)) rs qs l.1)

lawful_rest : (s : State) (place : ℕ) (rs qs : List Recorded) → lawful_from machine IsLawful s place (rs ++ qs) → lawful_from machine IsLawful (state_from s rs) (end_from place rs) qs
lawful_rest s place [] qs l = l
lawful_rest s place (r ∷ rs) qs l = lawful_rest (next s r) (place + (size r + 5)) rs qs l.1

holds_behind : (s : State) (place : ℕ) (rs : List Recorded) → lawful_from machine IsLawful s place rs → Holds s → Holds (state_from s rs)
holds_behind s place [] l h = h
holds_behind s place (r ∷ rs) l h = holds_behind (next s r) (place + (size r + 5)) rs l.1 (stays_held s place r h l.0.stored)

good_behind : (s : State) (place : ℕ) (rs : List Recorded) → lawful_from machine IsLawful s place rs → IsGood s.catalog → IsGood (state_from s rs).catalog
good_behind s place [] l g = g
good_behind s place (r ∷ rs) l g = good_behind (next s r) (place + (size r + 5)) rs l.1 (entry_good s r l.0.stored.meant l.0.stored.state g)

subscribed_table_first : (user : Name) (sh : SubscribedTable) (s : State) (dones : List Done) → KeepsSubscribedTable user sh s dones → HasSubscribedTable user sh s
subscribed_table_first user sh s [] keeps = keeps
subscribed_table_first user sh s (d ∷ dones) keeps = keeps.0

-- the user has the subscribed table before an entry that leaves it
subscribed_table_before : (user : Name) (sh : SubscribedTable) (s : State) (r : Recorded) → SubscribedTableStays user sh s r → HasSubscribedTable user sh s
subscribed_table_before user sh s (own changes) stays = stays.0
subscribed_table_before user sh s (taken from at dones) stays = subscribed_table_first user sh s dones stays
subscribed_table_before user sh s (ddl statement) stays = stays.0
subscribed_table_before user sh s (sync to tables) stays = stays.0
subscribed_table_before user sh s (pass users only statement changes) stays = stays.0
subscribed_table_before user sh s (note about what) stays = stays.0

first_subscribed_table : (user : Name) (sh : SubscribedTable) (key : List Cell) (s : State) (rs : List Recorded) → ¬ (rs ≡ []) → EachFrom (KeepsAbove user sh key) s rs → HasSubscribedTable user sh s
first_subscribed_table user sh key s [] some keeps = absurd (some refl)
first_subscribed_table user sh key s (r ∷ rs) some keeps = subscribed_table_before user sh s r keeps.0.subscribed_table_stays

first_table : (above : Name) (t : Table) (key : List Cell) (s : State) (at : ℕ) (rs : List Recorded) → BeginsTaking above at rs → EachFrom (KeepsBelow above t key) s rs → table_named s.catalog t.name ≡ Some t
first_table above t key s at [] begins keeps = let no : [] ≡ taken above begins.offset begins.dones ∷ begins.more = begins.is in absurd (cc)
first_table above t key s at (r ∷ rs) begins keeps = keeps.0.table.0

module _ (w : World Recorded) (user above : Name) (key : List Cell) (subscribed_table : SubscribedTable) (t : Table) (u : IsUntouched w user above key subscribed_table t) (good : IsGoodWorld w) where
  abbrev s : State
  s = state_of above u.before

  abbrev q : State
  q = state_of user u.old

  lawful_above : lawful_from machine IsLawful (fresh above) 0 (u.before ++ (u.since ++ u.later))
  lawful_above = subst (λ (rs : List Recorded). lawful_from machine IsLawful (fresh above) 0 rs) u.parts (good.are_lawful above)

  lawful_since : lawful_from machine IsLawful s (end_of u.before) u.since
  lawful_since = lawful_first s (end_of u.before) u.since u.later (lawful_rest (fresh above) 0 u.before (u.since ++ u.later) lawful_above)

  lawful_before : lawful_from machine IsLawful (fresh above) 0 u.before
  lawful_before = lawful_first (fresh above) 0 u.before (u.since ++ u.later) lawful_above

  holds_above : Holds s
  holds_above = holds_behind (fresh above) 0 u.before lawful_before (fresh_holds above)

  good_above : IsGood s.catalog
  good_above = good_behind (fresh above) 0 u.before lawful_before (record { made = new_made above; strict = tt })

  lawful_below : lawful_from machine IsLawful (fresh user) 0 (u.old ++ u.new)
  lawful_below = subst (λ (rs : List Recorded). lawful_from machine IsLawful (fresh user) 0 rs) u.parts_below (good.are_lawful user)

  lawful_new : lawful_from machine IsLawful q (end_of u.old) u.new
  lawful_new = lawful_rest (fresh user) 0 u.old u.new lawful_below

  lawful_old : lawful_from machine IsLawful (fresh user) 0 u.old
  lawful_old = lawful_first (fresh user) 0 u.old u.new lawful_below

  holds_below : Holds q
  holds_below = holds_behind (fresh user) 0 u.old lawful_old (fresh_holds user)

  good_below : IsGood q.catalog
  good_below = good_behind (fresh user) 0 u.old lawful_old (record { made = new_made user; strict = tt })

  module _ (at : ℕ) (begins : BeginsTaking above at u.new) where
    has_subscribed_table : HasSubscribedTable user subscribed_table s
    has_subscribed_table = first_subscribed_table user subscribed_table key s u.since (some_new w user above key subscribed_table t u good at begins) u.keeps_above

    has_key : HasKey t
    has_key = table_has_key q.catalog t.name t good_below.made (first_table above t key q at u.new begins u.keeps_below)

    mirrors : Mirrors subscribed_table t
    mirrors = record {
      proper = subscribed_table_proper s.catalog user subscribed_table.table.name subscribed_table good_above has_subscribed_table;
      holds = u.columns;
      has_key = has_key;
      name = u.name;
      keys = u.key_columns;
    }

    abbrev ops : List Op
    ops = ops_of (given_from s (end_of u.before) u.since user)

    goes : Goes user subscribed_table t key mirrors ops (view user subscribed_table t key mirrors s) (view user subscribed_table t key mirrors (state_from s u.since))
    goes = since_goes user subscribed_table t key mirrors s (end_of u.before) u.since holds_above lawful_since u.keeps_above

    -- what is held below
    end_below : state_of user (history w user) ≡ state_from q u.new
    end_below = ap (state_of user) u.parts_below ∙ state_from-append (fresh user) u.old u.new

    up : is_above (state_from q u.new) above ≡ true
    up = ap (λ (x : State). is_above x above) (sym end_below) ∙ u.from_above

    held : rows_of_table (state_of user (history w user)).rows t.name key ≡ left_all t ops key (rows_of_table q.rows t.name key)
    held =
        let same : ops_of (taken_from sees above u.new) ≡ ops = ap ops_of (joined w user above key subscribed_table t u good) in
        ap (λ (x : State). rows_of_table x.rows t.name key) end_below
        ∙ below above t key q (end_of u.old) u.new holds_below lawful_new up u.keeps_below (subst (λ (os : List Op). AllByRecursion IsNoExec os) (sym same) goes.plain)
        ∙ ap (λ (os : List Op). left_all t os key (rows_of_table q.rows t.name key)) same

    -- what is seen above
    end_above : state_of above (u.before ++ u.since) ≡ state_from s u.since
    end_above = state_from-append (fresh above) u.before u.since

    from_ops : Agrees t subscribed_table (view user subscribed_table t key mirrors (state_from s u.since)) (left_all t ops key (rows_of_table q.rows t.name key)) → AgreesAt w user above key subscribed_table t u
    from_ops a =
        subst (λ (x : State). Agrees t subscribed_table (view user subscribed_table t key mirrors x) (rows_of_table (state_of user (history w user)).rows t.name key)) (sym end_above)
        (subst (λ (x : Row). Agrees t subscribed_table (view user subscribed_table t key mirrors (state_from s u.since)) x) (sym held) a)

  by_start : ByStart user above subscribed_table.table.name key u.before u.since u.old u.new → AgreesAt w user above key subscribed_table t u
  by_start b =
      let none : rows_of_table q.rows t.name key ≡ None = ap (λ (n : Name). rows_of_table q.rows n key) u.name ∙ b.none in
      let first : Agrees t subscribed_table (view user subscribed_table t key (mirrors b.at b.takes) s) (rows_of_table q.rows t.name key)
      = subst (λ (x : Row). Agrees t subscribed_table (view user subscribed_table t key (mirrors b.at b.takes) s) x) (sym none) (subst (λ (v : Row). Agrees t subscribed_table v None) (sym b.unseen) tt) in
      from_ops b.at b.takes ((goes b.at b.takes).agrees (rows_of_table q.rows t.name key) first)

  begun : (m : Mirrors subscribed_table t) (x : Row) (tables : List (Name × List (List Cell))) (rest : List Recorded) → has (map (λ (p : Name × List (List Cell)). p.0) tables) subscribed_table.table.name ≡ true
      → lawful_from machine IsLawful s (end_of u.before) (sync user tables ∷ rest) → EachFrom (KeepsAbove user subscribed_table key) s (sync user tables ∷ rest)
      → Agrees t subscribed_table (view user subscribed_table t key m (state_from (next s (sync user tables)) rest)) (left_all t (ops_of (given_from s (end_of u.before) (sync user tables ∷ rest) user)) key x)
  unfolding gives next
  begun m x tables rest among l keeps =
      let r = sync user tables in
      let end = end_of u.before + (size r + 5) in
      let after = given_from (next s r) end rest user in
      let synced = flat_map (table_synced s.catalog user) tables in
      let same : ops_of (given_from s (end_of u.before) (r ∷ rest) user) ≡ synced ++ ops_of after
      = ops_with end (gives s r user) after ∙ ap (λ (b : Bool). cond b synced [] ++ ops_of after) (bytes_itself user) in
      let first = tables_begin user subscribed_table t key m s keeps.0.subscribed_table_stays.0 holds_above.rows tables l.0.says_so among x in
      let behind = since_goes user subscribed_table t key m (next s r) end rest (stays_held s (end_of u.before) r holds_above l.0.stored) l.1 keeps.1 in
      subst (λ (y : Row). Agrees t subscribed_table (view user subscribed_table t key m (state_from (next s r) rest)) y)
      (sym (ap (λ (os : List Op). left_all t os key x) same ∙ left_all-append t synced (ops_of after) key x))
      (behind.agrees (left_all t synced key x) first)

  by_sync : BySync user above subscribed_table.table.name u.before u.since u.old u.new → AgreesAt w user above key subscribed_table t u
  by_sync b =
      let at = end_of (u.before ++ sync user b.tables ∷ []) in
      let m = mirrors at b.takes in
      let x = rows_of_table q.rows t.name key in
      from_ops at b.takes (subst (λ (rs : List Recorded). Agrees t subscribed_table (view user subscribed_table t key m (state_from s rs)) (left_all t (ops_of (given_from s (end_of u.before) rs user)) key x)) (sym b.is)
      (begun m x b.tables b.rest b.among (subst (λ (rs : List Recorded). lawful_from machine IsLawful s (end_of u.before) rs) b.is lawful_since)
      (subst (λ (rs : List Recorded). EachFrom (KeepsAbove user subscribed_table key) s rs) b.is u.keeps_above)))

  pub agrees_at : AgreesAt w user above key subscribed_table t u
  agrees_at = elim u.begins as (λ _. AgreesAt w user above key subscribed_table t u) [
    | inl b ↦ by_sync b
    | inr b ↦ by_start b
  ]

-- so it is at every such key of a good world
pub keys_agree : (w : World Recorded) → IsGoodWorld w → KeysAgree w
keys_agree w good user above key subscribed_table below u = agrees_at w user above key subscribed_table below u good
