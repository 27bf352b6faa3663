-- Users behind one another: what GRANT made is made again by its own statement.
use Rattle.std.proofs.Common.{◌≡◌, ℕ, Bool, true, false, cond, List, [], ◌∷◌, ◌++◌, Option, Some, None, refl, ap, sym, ◌∙◌, arith}
use Rattle.std.specs.Prelude.{bytes_eq, not, ◌&&◌}
use Rattle.std.specs.Char.{to_ascii_lowercase}
use Rattle.std.specs.List.{list_all}
use Rattle.std.proofs.lemmas.Bool.{and_parts, and_from, not-false, not_from_true}
use Rattle.std.proofs.lemmas.Bool.Decides.{nat_tests}
use Rattle.std.proofs.lemmas.Slice.Eq.{bytes_eq-Decides}
use Rattle.sr_base.specs.Names.{is_first, is_later, is_any_first, is_any_later, is_lower_name, is_name, lowered}
use Rattle.sr_base.proofs.NameCase.{is_lower_name-lowered}
use Rattle.sr_ast.specs.declared.create.Grant.{Grant}
use Rattle.sr_ast.specs.declared.stmt.Stmt.TheVariants as stmt
use Rattle.sr_catalog_schema.specs.Catalogs.{Lists, nothing_but}
use Rattle.sr_catalog_change.specs.Changes.{causes, refusal, next}
use Rattle.sr_catalog_script_laws.specs.Inner.Scripts.{user_at}
use Rattle.sr_catalog_script_laws.specs.Scripts.{grant_rule, grant_of}
use Rattle.sr_catalog_ddl.specs.Users.{is_bad_address, address_of, grant_causes, user_of}
use Rattle.sr_catalog_schema.specs.declared.user.User.{User}
use Rattle.sr_catalog_script_laws.proofs.ReplayCauses.{NoCause, no_cause_of, refused_alike, where_true-None}
use Rattle.sr_catalog_script_laws.proofs.Standing.{UserStands}

-- ---- addresses in lower case

later_any : (b : ℕ) → is_later b ≡ true → is_any_later b ≡ true
later_any b h = grind (arith, nat_tests)

first_any : (b : ℕ) → is_first b ≡ true → is_any_first b ≡ true
first_any b h = grind (arith, nat_tests)

all_later_any : (bytes : List ℕ) → list_all is_later bytes ≡ true → list_all is_any_later bytes ≡ true
all_later_any [] h = refl
all_later_any (b ∷ bytes) h =
    let both = and_parts (is_later b) (list_all is_later bytes) h in
    and_from _ _ (later_any b both.0) (all_later_any bytes both.1)

-- a name in lower case is a name in any case
lower_is_name : (bytes : List ℕ) → is_lower_name bytes ≡ true → is_name bytes ≡ true
lower_is_name [] h = absurd (cc)
lower_is_name (b ∷ bytes) h =
    let all = and_parts (is_first b && list_all is_later bytes) _ h in
    let both = and_parts (is_first b) (list_all is_later bytes) all.0 in
    and_from _ _ (and_from _ _ (first_any b both.0) (all_later_any bytes both.1)) all.1

lowered_twice : (b : ℕ) → to_ascii_lowercase (to_ascii_lowercase b) ≡ to_ascii_lowercase b
lowered_twice b = grind (arith, nat_tests)

lowered-lowered : (bytes : List ℕ) → lowered (lowered bytes) ≡ lowered bytes
lowered-lowered [] = refl
lowered-lowered (b ∷ bytes) = cc (lowered_twice b, lowered-lowered bytes)

lowered_is_name : (text : List ℕ) → not (is_name text) ≡ false → not (is_name (lowered text)) ≡ false
lowered_is_name text h = not_from_true _ (lower_is_name (lowered text) (is_lower_name-lowered text ∙ not-false _ h))

-- the address that the statement of a user gives, none where it is the name
abbrev given : List ℕ → List ℕ → Option (List ℕ)
given name address = cond (bytes_eq address name) None (Some address)

good_again : (name : List ℕ) (address : Option (List ℕ)) → is_bad_address address ≡ false → is_bad_address (given name (address_of name address)) ≡ false
good_again name None h = rw ((bytes_eq-Decides name name).1 refl) refl
good_again name (Some text) h = elim (bytes_eq (lowered text) name) as (λ b. is_bad_address (cond b None (Some (lowered text))) ≡ false) [
  | true ↦ refl
  | false ↦ lowered_is_name text h
]

same_address : (name : List ℕ) (address : Option (List ℕ)) → address_of name (given name (address_of name address)) ≡ address_of name address
same_address name None = rw ((bytes_eq-Decides name name).1 refl) refl
same_address name (Some text) =
    elim (bytes_eq (lowered text) name) as (λ b. bytes_eq (lowered text) name ≡ b → address_of name (cond b None (Some (lowered text))) ≡ lowered text) [
      | true ↦ λ e. sym ((bytes_eq-Decides (lowered text) name).0 e)
      | false ↦ λ e. lowered-lowered text
    ] refl

-- ---- users

-- what speaks against a grant, by the address
granted_causes : (c d : Lists) (above : Bool) (g h : Grant) → c.publisher ≡ d.publisher → c.users ≡ d.users → g.user ≡ h.user → is_bad_address g.address ≡ is_bad_address h.address
    → grant_causes c above g ≡ grant_causes d above h
unfolding grant_causes
granted_causes c d above g h publisher users user address = rw (publisher, users, user, address) refl

good_address : (c : Lists) (above : Bool) (g : Grant) → NoCause (grant_causes c above g) → is_bad_address g.address ≡ false
unfolding grant_causes
good_address c above g none = where_true-None _ _ none.bad_type

abbrev behind : List ℕ → List User → Lists
behind publisher before = record (nothing_but publisher) { users = before }

made_alike : (c : Lists) (above : Bool) (g : Grant) → NoCause (grant_causes c above g) → grant_causes (behind c.publisher c.users) above (grant_rule (user_of above g)) ≡ grant_causes c above g
unfolding user_of
made_alike c above g none =
    let good : is_bad_address g.address ≡ false = good_address c above g none in
    granted_causes _ c above _ g refl refl refl (good_again g.user g.address good ∙ sym good)

makes_itself : (above : Bool) (g : Grant) → user_of above (grant_rule (user_of above g)) ≡ user_of above g
unfolding user_of
makes_itself above g = ap (user_at g.user above) (same_address g.user g.address)

-- an accepted GRANT makes a user that stands
pub remote_made : (c : Lists) (g : Grant) → refusal c (stmt.GrantRemote g) ≡ None → UserStands c.publisher c.users (user_of false g)
unfolding user_of grant_of
remote_made c g h = record {
  accepted = refused_alike _ c (stmt.GrantRemote (grant_rule (user_of false g))) (stmt.GrantRemote g) (made_alike c false g (no_cause_of c (stmt.GrantRemote g) h)) ∙ h;
  makes = makes_itself false g;
}

pub consolidate_made : (c : Lists) (g : Grant) → refusal c (stmt.GrantConsolidate g) ≡ None → UserStands c.publisher c.users (user_of true g)
unfolding user_of grant_of
consolidate_made c g h = record {
  accepted = refused_alike _ c (stmt.GrantConsolidate (grant_rule (user_of true g))) (stmt.GrantConsolidate g) (made_alike c true g (no_cause_of c (stmt.GrantConsolidate g) h)) ∙ h;
  makes = makes_itself true g;
}

granted_alike : (c : Lists) (above : Bool) (g : Grant) → causes c (cond above (stmt.GrantConsolidate g) (stmt.GrantRemote g)) ≡ causes (behind c.publisher c.users) (cond above (stmt.GrantConsolidate g) (stmt.GrantRemote g))
unfolding grant_causes
granted_alike c true g = refl
granted_alike c false g = refl

-- where a user stands, its statement is accepted, and makes it
pub user_again : (c : Lists) (u : User) → UserStands c.publisher c.users u → refusal c (grant_of u) ≡ None
unfolding grant_of
user_again c u stands = refused_alike c (behind c.publisher c.users) _ _ (granted_alike c u.above (grant_rule u)) ∙ stands.accepted

granted_next : (c : Lists) (above : Bool) (g : Grant) → next c (cond above (stmt.GrantConsolidate g) (stmt.GrantRemote g)) ≡ record c { users = c.users ++ user_of above g ∷ [] }
unfolding next
granted_next c true g = refl
granted_next c false g = refl

pub user_next : (c : Lists) (u : User) → UserStands c.publisher c.users u → next c (grant_of u) ≡ record c { users = c.users ++ u ∷ [] }
unfolding grant_of
user_next c u stands = granted_next c u.above (grant_rule u) ∙ ap (λ (v : User). record c { users = c.users ++ v ∷ [] }) stands.makes
