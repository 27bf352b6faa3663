-- The keys under which an entry is listed, by the catalog before it.
use Rattle.std.specs.Prelude.{◌≡◌, ◌⊎◌, Bool, true, false, cond, List, [], ◌∷◌, ◌++◌, map, flat_map, is_some}
use Rattle.std.specs.List.{list_any, Contains}
use Rattle.sr_book.specs.Entries.{Name}
use Rattle.sr_base.specs.declared.value.Value.{Value as Cell}
use Rattle.sr_catalog_schema.specs.Catalogs.{Lists}
use Rattle.sr_catalog_schema.specs.Firsts.{has}
use Rattle.sr_catalog_schema.specs.declared.subscription.Subscription.{Subscription}
use Rattle.sr_logform.specs.declared.change.Change.{Change}
use Rattle.sr_logform.specs.declared.entry.Entry.{Entry}
use Rattle.sr_logform.specs.declared.entry.Entry.TheVariants.{Own, From, Ddl, Sync, Pass, Note}
use Rattle.sr_logform.specs.declared.op.Op.{Op}
use Rattle.sr_logform.specs.declared.op.Op.TheVariants.{Insert, Remove, Set, Clear, Exec}
use Rattle.sr_logform.specs.declared.outcome.Outcome.{Outcome}
use Rattle.sr_logform.specs.declared.outcome.Outcome.TheVariants.{Plain, Conflict, Clash}
use Rattle.sr_publish.specs.SubscribedTables.{is_live}
use Rattle.sr_scan.specs.Inner.Images.{row_changed}
use Rattle.sr_scan.specs.Inner.Meanings.{text_done}
use Rattle.sr_survey.specs.Inner.Keyed.{keys_of, change_keys, changes_keys}
use Rattle.sr_survey_places.specs.declared.key.Key.{Key}
use Rattle.sr_survey_places.specs.declared.key.Key.TheVariants as keyed

-- ---- what was taken from a partner

-- an op that ran a statement
abbrev pub has_run : Op × Outcome → Bool
has_run p = is_some (text_done p.0 p.1)

-- an op that met another value
abbrev pub is_conflict : Outcome → Bool
is_conflict (Plain changes) = false
is_conflict (Conflict inserts before after) = true
is_conflict (Clash why) = false

-- the keys of an op that met another value: of what the triggers inserted, and of its row before and after; none where it is no Set
abbrev pub met_keys : Lists → Op → List Change → List Cell → List Cell → List Key
met_keys c (Insert table values) inserts before after = []
met_keys c (Remove table key) inserts before after = []
met_keys c (Set table key columns) inserts before after = changes_keys c inserts ++ change_keys c (row_changed table before after)
met_keys c (Clear table) inserts before after = []
met_keys c (Exec text) inserts before after = []

-- the keys of what an op changed here, by its outcome
abbrev pub outcome_keys : Lists → Op → Outcome → List Key
outcome_keys c op (Plain changes) = changes_keys c changes
outcome_keys c op (Conflict inserts before after) = met_keys c op inserts before after
outcome_keys c op (Clash why) = []

abbrev pub op_keys : Lists → Op × Outcome → List Key
op_keys c p = outcome_keys c p.0 p.1

abbrev pub ops_keys : Lists → List (Op × Outcome) → List Key
ops_keys c ops = flat_map (op_keys c) ops

-- where the origin finds the entry: of ops that met another value he is told the rows back, of others nothing
abbrev pub back_key : Name → List (Op × Outcome) → Key
back_key from ops = cond (list_any (λ p. is_conflict p.1) ops) (keyed.To from) (keyed.From from)

-- behind a statement that ran the catalog is another one for the ops that follow: it may concern everybody
abbrev pub taken_keys : Lists → Name → List (Op × Outcome) → List Key
taken_keys c from ops = cond (list_any has_run ops) (keyed.Each ∷ []) (back_key from ops ∷ ops_keys c ops)

-- ---- entries

-- a statement that is for others only changes nothing here
abbrev pub pass_keys : Lists → Bool → List Change → List Key
pass_keys c true changes = []
pass_keys c false changes = changes_keys c changes

-- the keys of an entry
unfoldable pub entry_keys : Lists → Entry → List Key
entry_keys c (Own changes) = changes_keys c changes
entry_keys c (From from at ops) = taken_keys c from ops
entry_keys c (Ddl text) = []
entry_keys c (Sync to tables) = keyed.To to ∷ []
entry_keys c (Pass users only text changes) = map keyed.Text users ++ pass_keys c only changes
entry_keys c (Note about what) = []

-- whether a statement ran in an entry that was taken
abbrev pub runs : Entry → Bool
runs (Own changes) = false
runs (From from at ops) = list_any has_run ops
runs (Ddl text) = false
runs (Sync to tables) = false
runs (Pass users only text changes) = false
runs (Note about what) = false

-- an entry is a statement that is passed on to a user
abbrev pub names_user : Name → Entry → Bool
names_user user (Own changes) = false
names_user user (From from at ops) = false
names_user user (Ddl text) = false
names_user user (Sync to tables) = false
names_user user (Pass users only text changes) = has users user
names_user user (Note about what) = false

-- ---- whose they are

-- a key of a started subscription of the user
pub record IsLiveKey (c : Lists) (user : Name) (k : Key) : Type 0 where
  pub subscription : Subscription
  pub there : Contains c.subscriptions subscription
  pub live : is_live user subscription ≡ true
  pub has : Contains (keys_of subscription.publication subscription.value) k

-- a key of the user by a catalog: his own, that of everybody, or one of a started subscription of his
abbrev pub IsHisBy : Lists → Name → Key → Type 0
IsHisBy c user k = (k ≡ keyed.To user) ⊎ ((k ≡ keyed.Text user) ⊎ ((k ≡ keyed.Each) ⊎ IsLiveKey c user k))

-- an entry may concern a user: it is listed under a key of his, and not as taken from him
pub record MayConcern (c : Lists) (e : Entry) (user : Name) : Type 0 where
  pub key : Key
  pub his : IsHisBy c user key
  pub listed : Contains (entry_keys c e) key
  pub other : ¬ (Contains (entry_keys c e) (keyed.From user))
