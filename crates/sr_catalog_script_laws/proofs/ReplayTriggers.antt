-- Triggers behind one another: a trigger keeps the statement that made it.
use Rattle.std.proofs.Common.{◌≡◌, ℕ, Bool, true, false, List, [], ◌∷◌, ◌++◌, length, map, Option, Some, None, refl, ap, sym, ◌∙◌, subst}
use Rattle.std.specs.Prelude.{bytes_eq, nat_le}
use Rattle.std.specs.Option.{is_some}
use Rattle.std.proofs.lemmas.Bool.{or_parts}
use Rattle.sr_ast.specs.Chains.{Chain}
use Rattle.sr_ast.specs.Chains.Chain.{done, set, insert, when, choose}
use Rattle.sr_ast.specs.declared.create.CreateTrigger.{CreateTrigger}
use Rattle.sr_ast.specs.declared.stmt.Stmt.TheVariants as stmt
use Rattle.sr_catalog_schema.specs.Catalogs.{Lists}
use Rattle.sr_catalog_change.specs.Changes.{refusal, next}
use Rattle.sr_catalog_schema.specs.Firsts.{first_of, first_among, where_true, first_absent, first_twice}
use Rattle.sr_catalog_schema.specs.Names.{named, taken, without}
use Rattle.sr_catalog_script_laws.specs.Scripts.{trigger_stmt}
use Rattle.sr_catalog_schema.specs.Members.{table_name, has_column, trigger_name}
use Rattle.sr_catalog_triggers.specs.Triggers.{Part, Scope, variable_name, trigger_scope, first_in, absent_of, absent_columns, absent_in_part, is_bad_part, absent_in_trigger, bad_in_trigger, create_trigger_causes, trigger_of, inserts_into, trigger_names}
use Rattle.sr_catalog_triggers.specs.Triggers.Part.{assigned, inserted, tested}
use Rattle.sr_catalog_schema.specs.declared.table.Table.{Table}
use Rattle.sr_catalog_schema.specs.declared.trigger.Trigger.{Trigger}
use Rattle.sr_catalog_script_laws.proofs.ReplayCauses.{NoCause, no_cause_of, refused_alike, where_true-None, first_of-None}
use Rattle.sr_catalog_script_laws.proofs.ReplayLists.{found_as_taken, find_more, named-without}
use Rattle.sr_catalog_script_laws.proofs.Standing.{HasRoom, TriggerStands, only_tables}

-- ---- each part of the actions

AllParts : (Part → Type 0) → Chain → Type 0
AllParts P done = Unit {0}
AllParts P (set t n v rest) = P (assigned t n v) × AllParts P rest
AllParts P (insert t cs vs rest) = P (inserted t cs vs) × AllParts P rest
AllParts P (when c taken rest) = P (tested c) × AllParts P taken × AllParts P rest
AllParts P (choose c taken other rest) = P (tested c) × AllParts P taken × AllParts P other × AllParts P rest

none_in : {A : Type 0} (f : Part → Option A) (actions : Chain) → first_in f actions ≡ None → AllParts (λ part. f part ≡ None) actions
unfolding AllParts
none_in f done h = tt
none_in f (set t n v rest) h = let p = first_of-None (f (assigned t n v)) _ h in (p.0, none_in f rest p.1)
none_in f (insert t cs vs rest) h = let p = first_of-None (f (inserted t cs vs)) _ h in (p.0, none_in f rest p.1)
none_in f (when c taken rest) h =
    let p = first_of-None (f (tested c)) _ h in
    let q = first_of-None (first_in f taken) _ p.1 in
    (p.0, none_in f taken q.0, none_in f rest q.1)
none_in f (choose c taken other rest) h =
    let p = first_of-None (f (tested c)) _ h in
    let q = first_of-None (first_in f taken) _ p.1 in
    let r = first_of-None (first_in f other) _ q.1 in
    (p.0, none_in f taken q.0, none_in f other r.0, none_in f rest r.1)

AllParts-step : (P Q : Part → Type 0) → ((part : Part) → P part → Q part) → (actions : Chain) → AllParts P actions → AllParts Q actions
unfolding AllParts
AllParts-step P Q step done all = tt
AllParts-step P Q step (set t n v rest) all = (step _ all.0, AllParts-step P Q step rest all.1)
AllParts-step P Q step (insert t cs vs rest) all = (step _ all.0, AllParts-step P Q step rest all.1)
AllParts-step P Q step (when c taken rest) all = (step _ all.0, AllParts-step P Q step taken all.1, AllParts-step P Q step rest all.2)
AllParts-step P Q step (choose c taken other rest) all = (step _ all.0, AllParts-step P Q step taken all.1, AllParts-step P Q step other all.2, AllParts-step P Q step rest all.3)

first_alike : {A : Type 0} (f g : Part → Option A) (actions : Chain) → AllParts (λ part. f part ≡ g part) actions → first_in f actions ≡ first_in g actions
unfolding AllParts
first_alike f g done all = refl
first_alike f g (set t n v rest) all = cc (first_alike f g rest all.1)
first_alike f g (insert t cs vs rest) all = cc (first_alike f g rest all.1)
first_alike f g (when c taken rest) all = cc (first_alike f g taken all.1, first_alike f g rest all.2)
first_alike f g (choose c taken other rest) all = cc (first_alike f g taken all.1, first_alike f g other all.2, first_alike f g rest all.3)

-- ---- over other tables

-- the table of an INSERT is the same
PartStays : List Table → List Table → Part → Type 0
PartStays before after (assigned t n v) = Unit {0}
PartStays before after (inserted t cs vs) = named table_name t after ≡ named table_name t before
PartStays before after (tested e) = Unit {0}

absent_part_alike : (before after : List Table) (g : CreateTrigger) (scope : Scope) (part : Part) → PartStays before after part
    → absent_in_part after g.aliases scope part ≡ absent_in_part before g.aliases scope part
unfolding PartStays absent_in_part
absent_part_alike before after g scope (assigned a n v) stays = refl
absent_part_alike before after g scope (inserted t cs vs) stays = ap (λ (found : Option Table). first_of (absent_columns t cs found) (first_among (absent_of scope) vs)) stays
absent_part_alike before after g scope (tested e) stays = refl

bad_part_alike : (before after : List Table) (g : CreateTrigger) (t : Table) (scope : Scope) (part : Part) → PartStays before after part
    → is_bad_part g after t scope part ≡ is_bad_part g before t scope part
unfolding PartStays is_bad_part
bad_part_alike before after g t scope (assigned a n v) stays = refl
bad_part_alike before after g t scope (inserted into cs vs) stays = rw stays refl
bad_part_alike before after g t scope (tested e) stays = refl

absent_alike : (before after : List Table) (g : CreateTrigger) (found : Option Table) → AllParts (PartStays before after) g.actions
    → absent_in_trigger after g found ≡ absent_in_trigger before g found
unfolding absent_in_trigger
absent_alike before after g None stays = refl
absent_alike before after g (Some t) stays =
    ap (first_of (first_absent (has_column t) g.columns))
    (first_alike _ _ g.actions (AllParts-step _ _ (λ part one. absent_part_alike before after g (trigger_scope g t) part one) g.actions stays))

bad_alike : (before after : List Table) (g : CreateTrigger) (found : Option Table) → AllParts (PartStays before after) g.actions
    → bad_in_trigger after g found ≡ bad_in_trigger before g found
unfolding bad_in_trigger
bad_alike before after g None stays = refl
bad_alike before after g (Some t) stays =
    ap (first_of (where_true (is_some (first_twice (map variable_name g.variables))) g.name))
    (first_alike _ _ g.actions (AllParts-step _ _ (λ part one. ap (λ (b : Bool). where_true b g.name) (bad_part_alike before after g t (trigger_scope g t) part one)) g.actions stays))

-- ---- what speaks against CREATE TRIGGER

create_alike : (c d : Lists) (g : CreateTrigger) → taken trigger_name g.name c.triggers ≡ taken trigger_name g.name d.triggers
    → nat_le 1024 (length c.triggers) ≡ nat_le 1024 (length d.triggers)
    → absent_in_trigger c.tables g (named table_name g.table c.tables) ≡ absent_in_trigger d.tables g (named table_name g.table d.tables)
    → bad_in_trigger c.tables g (named table_name g.table c.tables) ≡ bad_in_trigger d.tables g (named table_name g.table d.tables)
    → create_trigger_causes c g ≡ create_trigger_causes d g
unfolding create_trigger_causes
create_alike c d g names room absent bad = rw (names, room, absent, bad) refl

room_for : (c : Lists) (g : CreateTrigger) → NoCause (create_trigger_causes c g) → HasRoom trigger_name 1024 c.triggers (trigger_of g)
unfolding create_trigger_causes
room_for c g none =
    let once = first_of-None (where_true (taken trigger_name g.name c.triggers) g.name) _ none.exists in
    record { is_new = where_true-None _ _ once.0; has_room = where_true-None _ _ none.too_many }

nothing_absent : (c : Lists) (g : CreateTrigger) → NoCause (create_trigger_causes c g) → absent_in_trigger c.tables g (named table_name g.table c.tables) ≡ None
unfolding create_trigger_causes
nothing_absent c g none = none.missing

-- an accepted CREATE TRIGGER makes a trigger that stands
pub trigger_made : (c : Lists) (g : CreateTrigger) → refusal c (stmt.CreateTrigger g) ≡ None → HasRoom trigger_name 1024 c.triggers (trigger_of g) × TriggerStands c.tables (trigger_of g)
trigger_made c g h =
    let room = room_for c g (no_cause_of c (stmt.CreateTrigger g) h) in (
      room,
      record {
        rule = g;
        is = refl;
        accepted = refused_alike (only_tables c.tables) c (stmt.CreateTrigger g) (stmt.CreateTrigger g) (create_alike _ c g (sym room.is_new) (sym room.has_room) refl refl) ∙ h;
      },
    )

-- where a trigger stands, its statement is accepted, and makes it
pub trigger_again : (c : Lists) (t : Trigger) → HasRoom trigger_name 1024 c.triggers t → TriggerStands c.tables t → refusal c (trigger_stmt t) ≡ None
trigger_again c t room stands =
    let g = stands.rule in
    let at : HasRoom trigger_name 1024 c.triggers (trigger_of g) = subst (λ (x : Trigger). HasRoom trigger_name 1024 c.triggers x) stands.is room in
    ap (λ (x : Trigger). refusal c (trigger_stmt x)) stands.is
    ∙ (refused_alike c (only_tables c.tables) (stmt.CreateTrigger g) (stmt.CreateTrigger g) (create_alike c _ g at.is_new at.has_room refl refl) ∙ stands.accepted)

pub trigger_next : (c : Lists) (t : Trigger) → TriggerStands c.tables t → next c (trigger_stmt t) ≡ record c { triggers = c.triggers ++ t ∷ [] }
unfolding next
trigger_next c t stands = ap (λ (x : Trigger). next c (trigger_stmt x)) stands.is ∙ ap (λ (x : Trigger). record c { triggers = c.triggers ++ x ∷ [] }) (sym stands.is)

-- ---- with one table more, or one less

moved : (before after : List Table) (g : CreateTrigger) → named table_name g.table after ≡ named table_name g.table before → AllParts (PartStays before after) g.actions
    → refusal (only_tables before) (stmt.CreateTrigger g) ≡ None → refusal (only_tables after) (stmt.CreateTrigger g) ≡ None
moved before after g table parts h =
    refused_alike (only_tables after) (only_tables before) (stmt.CreateTrigger g) (stmt.CreateTrigger g)
    (create_alike _ _ g refl refl
    (ap (absent_in_trigger after g) table ∙ absent_alike before after g (named table_name g.table before) parts)
    (ap (bad_in_trigger after g) table ∙ bad_alike before after g (named table_name g.table before) parts))
    ∙ h

-- the table of an INSERT is there
IsThere : List Table → Part → Type 0
IsThere tables (assigned t n v) = Unit {0}
IsThere tables (inserted t cs vs) = taken table_name t tables ≡ true
IsThere tables (tested e) = Unit {0}

columns_there : (t : List ℕ) (cs : List (List ℕ)) (found : Option Table) → absent_columns t cs found ≡ None → is_some found ≡ true
columns_there t cs None h = absurd (cc)
columns_there t cs (Some x) h = refl

part_there : (tables : List Table) (g : CreateTrigger) (scope : Scope) (part : Part) → absent_in_part tables g.aliases scope part ≡ None → IsThere tables part
unfolding IsThere absent_in_part
part_there tables g scope (assigned a n v) h = tt
part_there tables g scope (inserted t cs vs) h =
    found_as_taken _ tables ∙ columns_there t cs (named table_name t tables) (first_of-None (absent_columns t cs (named table_name t tables)) _ h).0
part_there tables g scope (tested e) h = tt

all_there : (tables : List Table) (g : CreateTrigger) (found : Option Table) → absent_in_trigger tables g found ≡ None → (is_some found ≡ true) × AllParts (IsThere tables) g.actions
unfolding absent_in_trigger
all_there tables g None h = absurd (cc)
all_there tables g (Some t) h =
    let parts = first_of-None (first_absent (has_column t) g.columns) _ h in
    (refl, AllParts-step _ _ (λ part none. part_there tables g (trigger_scope g t) part none) g.actions (none_in _ g.actions parts.1))

there_stays : (tables : List Table) (t : Table) (part : Part) → IsThere tables part → PartStays tables (tables ++ t ∷ []) part
unfolding IsThere PartStays
there_stays tables t (assigned a n v) there = tt
there_stays tables t (inserted into cs vs) there = find_more _ tables (t ∷ []) there
there_stays tables t (tested e) there = tt

-- one more table does not touch it, nor does one less that it does not name
pub trigger_with_table : (tables : List Table) (t : Table) (g : Trigger) → TriggerStands tables g → TriggerStands (tables ++ t ∷ []) g
trigger_with_table tables t g stands =
    let rule = stands.rule in
    let there = all_there tables rule (named table_name rule.table tables) (nothing_absent _ rule (no_cause_of _ (stmt.CreateTrigger rule) stands.accepted)) in
    record {
      rule = rule;
      is = stands.is;
      accepted = moved tables (tables ++ t ∷ []) rule (find_more _ tables (t ∷ []) (found_as_taken _ tables ∙ there.0))
          (AllParts-step _ _ (λ part one. there_stays tables t part one) rule.actions there.1) stands.accepted;
    }

not_some : {A : Type 0} (o : Option A) → is_some o ≡ false → o ≡ None
not_some None h = refl
not_some (Some x) h = absurd (cc)

other_stays : (tables : List Table) (n : List ℕ) (part : Part) → inserts_into n part ≡ None → PartStays tables (without table_name n tables) part
unfolding PartStays
other_stays tables n (assigned a m v) h = tt
other_stays tables n (inserted t cs vs) h = named-without table_name n t tables (where_true-None _ _ h)
other_stays tables n (tested e) h = tt

not_named : (n : List ℕ) (g : CreateTrigger) → trigger_names n (trigger_of g) ≡ false → (bytes_eq n g.table ≡ false) × (is_some (first_in (inserts_into n) g.actions) ≡ false)
unfolding trigger_names
not_named n g h = or_parts (bytes_eq n g.table) (is_some (first_in (inserts_into n) g.actions)) h

pub trigger_without_table : (tables : List Table) (n : List ℕ) (g : Trigger) → trigger_names n g ≡ false → TriggerStands tables g → TriggerStands (without table_name n tables) g
trigger_without_table tables n g other stands =
    let rule = stands.rule in
    let parts = not_named n rule (ap (trigger_names n) (sym stands.is) ∙ other) in
    record {
      rule = rule;
      is = stands.is;
      accepted = moved tables (without table_name n tables) rule (named-without table_name n rule.table tables parts.0)
          (AllParts-step _ _ (λ part one. other_stays tables n part one) rule.actions (none_in _ rule.actions (not_some _ parts.1))) stands.accepted;
    }
