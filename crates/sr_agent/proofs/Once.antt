-- Each partner is named once.
use Rattle.std.proofs.Common.{◌≡◌, Bool, true, false, cond, List, [], ◌∷◌, ◌++◌, map, None, bytes_eq, refl, sym, ap, subst, inl, inr, ◌∙◌, append_assoc}
use Rattle.std.specs.Prelude.{◌||◌}
use Rattle.std.specs.List.{AllByRecursion}
use Rattle.std.proofs.lemmas.Bool.{or_parts}
use Rattle.std.proofs.lemmas.List.{append-nil}
use Rattle.sr_ast.specs.declared.create.Grant.{Grant}
use Rattle.sr_ast.specs.declared.stmt.Stmt.TheVariants as stmt
use Rattle.sr_book.specs.Entries.{Name}
use Rattle.sr_book.proofs.Folds.{name_test, same_name}
use Rattle.sr_catalog_change.specs.Changes.{refusal}
use Rattle.sr_catalog_ddl.specs.Users.{grant_causes}
use Rattle.sr_catalog_script_laws.specs.Scripts.{IsMadeByStatements, grant_of, grant_rule}
use Rattle.sr_catalog_script_laws.proofs.ReplayCauses.{NoCause, no_cause_of, where_true-None}
use Rattle.sr_catalog_script_laws.proofs.ReplayNexts.{made_stands}
use Rattle.sr_catalog_script_laws.proofs.Standing.{InOrder, UserStands}
use Rattle.sr_catalog_schema.specs.Catalogs.{Lists, nothing_but}
use Rattle.sr_catalog_schema.specs.Members.{user_name}
use Rattle.sr_catalog_schema.specs.Names.{taken}
use Rattle.sr_catalog_schema.specs.declared.user.User.{User}
use Rattle.sr_agent.specs.Inner.Steps.{AreOnce}

-- names that differ do so both ways
apart : (a b : Name) → bytes_eq a b ≡ false → bytes_eq b a ≡ false
apart a b differ = elim (name_test b a) [
  | inl same ↦
      let yes : bytes_eq a b ≡ true = subst (λ (n : Name). bytes_eq n b ≡ true) same.1 (same_name b) in
      let no : true ≡ false = sym yes ∙ differ in
      absurd (cc)
  | inr other ↦ other
]

-- a GRANT that is not refused names a user who was not there
taken_of : (c : Lists) (above : Bool) (g : Grant) → NoCause (grant_causes c above g) → taken user_name g.user c.users ≡ false
unfolding grant_causes
taken_of c above g none = (or_parts (taken user_name g.user c.users) _ (where_true-None _ _ none.exists)).0

by_place : (c : Lists) (u : User) (above : Bool) → refusal c (cond above (stmt.GrantConsolidate (grant_rule u)) (stmt.GrantRemote (grant_rule u))) ≡ None → taken user_name u.name c.users ≡ false
by_place c u true accepted = taken_of c true (grant_rule u) (no_cause_of c (stmt.GrantConsolidate (grant_rule u)) accepted)
by_place c u false accepted = taken_of c false (grant_rule u) (no_cause_of c (stmt.GrantRemote (grant_rule u)) accepted)

new_name : (publisher : Name) (before : List User) (u : User) → UserStands publisher before u → taken user_name u.name before ≡ false
unfolding grant_of
new_name publisher before u stands = by_place (record (nothing_but publisher) { users = before }) u u.above stands.accepted

-- a name that none of these has is none of theirs
not_among : (user : User) (before : List User) (name : Name) → taken user_name name (before ++ user ∷ []) ≡ false → bytes_eq user.name name ≡ false
not_among user [] name none = apart name user.name ((or_parts (bytes_eq name user.name) _ none).0)
not_among user (u ∷ before) name none = not_among user before name ((or_parts (bytes_eq name u.name) _ none).1)

both : (x y : Bool) → x ≡ false → y ≡ false → (x || y) ≡ false
both x y one two = ap (λ b. b || y) one ∙ two

prefix_of : (users more : List User) (name : Name) → taken user_name name (users ++ more) ≡ false → taken user_name name users ≡ false
prefix_of [] more name none = refl
prefix_of (u ∷ users) more name none =
    let parts = or_parts (bytes_eq name u.name) (taken user_name name (users ++ more)) none in
    both (bytes_eq name u.name) (taken user_name name users) parts.0 (prefix_of users more name parts.1)

first_among : (before : List User) (user : User) (between : List User) (name : Name) → taken user_name name ((before ++ user ∷ []) ++ between) ≡ false → bytes_eq user.name name ≡ false
first_among before user between name none = not_among user before name (prefix_of (before ++ user ∷ []) between name none)

longer : (publisher : Name) (before : List User) (user : User) (between users : List User) → InOrder (UserStands publisher) ((before ++ user ∷ []) ++ between) users
    → AllByRecursion (λ other. bytes_eq user.name other ≡ false) (map user_name users)
longer publisher before user between [] stands = tt
longer publisher before user between (u ∷ users) stands = (
  first_among before user between u.name (new_name publisher ((before ++ user ∷ []) ++ between) u stands.0),
  longer publisher before user (between ++ u ∷ []) users (subst (λ (l : List User). InOrder (UserStands publisher) l users) (append_assoc (before ++ user ∷ []) between (u ∷ [])) stands.1),
)

once_from : (publisher : Name) (before users : List User) → InOrder (UserStands publisher) before users → AreOnce (map user_name users)
once_from publisher before [] stands = tt
once_from publisher before (u ∷ users) stands = (
  longer publisher before u [] users (subst (λ (l : List User). InOrder (UserStands publisher) l users) (sym (append-nil (before ++ u ∷ []))) stands.1),
  once_from publisher (before ++ u ∷ []) users stands.1,
)

-- the users of a catalog that statements have made
pub users_once : (c : Lists) → IsMadeByStatements c → AreOnce (map user_name c.users)
users_once c made = once_from c.publisher [] c.users (made_stands c made).users
