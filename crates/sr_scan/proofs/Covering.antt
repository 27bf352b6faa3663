-- The views of a user, gathered table by table.
use Rattle.std.proofs.Common.{◌≡◌, ◌⊎◌, inl, inr, ℕ, Bool, true, false, ◌||◌, cond, List, [], ◌∷◌, Option, Some, None, bytes_eq, refl, sym, ap, subst, ◌∙◌}
use Rattle.std.specs.BTreeMap as tree
use Rattle.std.specs.Map.{lookup}
use Rattle.std.specs.Ordering.{is_eq}
use Rattle.std.proofs.lemmas.Map.Text.{is_eq-slice_cmp}
use Rattle.sr_base.specs.Order.{name_cmp}
use Rattle.sr_exec_dml.specs.Statements.{table_named}
use Rattle.sr_exec_where.proofs.Fixed.{same_name}
use Rattle.sr_publish.specs.SubscribedTables.{SubscribedTable, subscribed_table_in, source_of, subscribed_table_of}
use Rattle.sr_publish.proofs.Sources.{none_of}
use Rattle.sr_catalog_schema.specs.Catalogs.{Lists}
use Rattle.sr_catalog_schema.specs.Members.{table_name}
use Rattle.sr_catalog_schema.specs.Names.{taken}
use Rattle.sr_catalog_schema.specs.declared.table.Table.{Table}
use Rattle.sr_scan.specs.Inner.Views.{AreViews, IsAdded}
use Rattle.sr_catalog_script_laws.proofs.ReplayStarts.{bytes_eq-turned}

-- the map has the subscribed table of each table but those that are left, and no other
pub record Covers (c : Lists) (user : List ℕ) (views : tree.BTreeMap (List ℕ) SubscribedTable) (left : List Table) : Type 0 where
  pub done : (n : List ℕ) → taken table_name n left ≡ false → tree.get name_cmp views n ≡ subscribed_table_of c user n
  pub right : (n : List ℕ) → (tree.get name_cmp views n ≡ None) ⊎ (tree.get name_cmp views n ≡ subscribed_table_of c user n)

no_subscribed_table : (c : Lists) (user n : List ℕ) → table_named c n ≡ None → subscribed_table_of c user n ≡ None
unfolding subscribed_table_of
no_subscribed_table c user n e = ap (λ t. subscribed_table_in c user t (source_of c user n)) e

no_entries : (views : tree.BTreeMap (List ℕ) SubscribedTable) → views.entries ≡ [] → (n : List ℕ) → tree.get name_cmp views n ≡ None
no_entries views e n = ap (λ (es : List (List ℕ × SubscribedTable)). lookup (tree.is_at (name_cmp n)) es) e

-- before any table: of a name that no table has there is no share
pub Covers-start : (c : Lists) (user : List ℕ) (views : tree.BTreeMap (List ℕ) SubscribedTable) (left : List Table) → views.entries ≡ [] → left ≡ c.tables
    → Covers c user views left
Covers-start c user views left none e = record {
  done = λ n h. no_entries views none n ∙ sym (no_subscribed_table c user n (none_of (λ t. bytes_eq n t.name) c.tables (subst (λ (ts : List Table). taken table_name n ts ≡ false) e h)));
  right = λ n. inl (no_entries views none n);
}

-- a table of which the user has nothing
pub Covers-pass : (c : Lists) (user : List ℕ) (views : tree.BTreeMap (List ℕ) SubscribedTable) (left rest : List Table) (t : Table) → Covers c user views left → left ≡ t ∷ rest
    → subscribed_table_of c user t.name ≡ None → Covers c user views rest
Covers-pass c user views left rest t g e none = record {
  done = λ n h. go n h (bytes_eq n t.name) refl;
  right = g.right;
} where
  go : (n : List ℕ) → taken table_name n rest ≡ false → (b : Bool) → bytes_eq n t.name ≡ b → tree.get name_cmp views n ≡ subscribed_table_of c user n
  go n h false is = g.done n (ap (λ (ts : List Table). taken table_name n ts) e ∙ (ap (λ b. b || taken table_name n rest) is ∙ h))
  go n h true is =
      let subscribed_table : subscribed_table_of c user n ≡ None = ap (subscribed_table_of c user) (same_name n t.name is) ∙ none in
      elim (g.right n) as (λ _. tree.get name_cmp views n ≡ subscribed_table_of c user n) [ inl none_there ↦ none_there ∙ sym subscribed_table | inr there ↦ there ]

-- a table of which he has a subscribed table
pub Covers-more : (c : Lists) (user : List ℕ) (views more : tree.BTreeMap (List ℕ) SubscribedTable) (left rest : List Table) (t : Table) (key : List ℕ) (s : SubscribedTable) → Covers c user views left
    → left ≡ t ∷ rest → key ≡ t.name → subscribed_table_of c user t.name ≡ Some s → ((n : List ℕ) → tree.get name_cmp more n ≡ cond (is_eq (name_cmp key n)) (Some s) (tree.get name_cmp views n))
    → Covers c user more rest
Covers-more c user views more left rest t key s g e k subscribed_table u = record {
  done = λ n h. here n h (bytes_eq t.name n) refl;
  right = λ n. there n (bytes_eq t.name n) refl;
} where
  at : (n : List ℕ) → tree.get name_cmp more n ≡ cond (bytes_eq t.name n) (Some s) (tree.get name_cmp views n)
  at n = u n ∙ ap (λ b. cond b (Some s) (tree.get name_cmp views n)) (is_eq-slice_cmp key n ∙ ap (λ x. bytes_eq x n) k)

  found : (n : List ℕ) → bytes_eq t.name n ≡ true → tree.get name_cmp more n ≡ subscribed_table_of c user n
  found n is = at n ∙ (ap (λ b. cond b (Some s) (tree.get name_cmp views n)) is ∙ (sym subscribed_table ∙ ap (subscribed_table_of c user) (same_name t.name n is)))

  turned : (n : List ℕ) → bytes_eq t.name n ≡ false → bytes_eq n t.name ≡ false
  turned n is = bytes_eq-turned t.name n is

  here : (n : List ℕ) → taken table_name n rest ≡ false → (b : Bool) → bytes_eq t.name n ≡ b → tree.get name_cmp more n ≡ subscribed_table_of c user n
  here n h true is = found n is
  here n h false is = at n ∙ (ap (λ b. cond b (Some s) (tree.get name_cmp views n)) is
      ∙ g.done n (ap (λ (ts : List Table). taken table_name n ts) e ∙ (ap (λ b. b || taken table_name n rest) (turned n is) ∙ h)))

  there : (n : List ℕ) (b : Bool) → bytes_eq t.name n ≡ b → (tree.get name_cmp more n ≡ None) ⊎ (tree.get name_cmp more n ≡ subscribed_table_of c user n)
  there n true is = inr (found n is)
  there n false is =
      let same : tree.get name_cmp more n ≡ tree.get name_cmp views n = at n ∙ ap (λ b. cond b (Some s) (tree.get name_cmp views n)) is in
      elim (g.right n) as (λ _. (tree.get name_cmp more n ≡ None) ⊎ (tree.get name_cmp more n ≡ subscribed_table_of c user n)) [ inl none ↦ inl (same ∙ none) | inr is ↦ inr (same ∙ is) ]

pub added_none : (o : Option SubscribedTable) (name : List ℕ) (views : tree.BTreeMap (List ℕ) SubscribedTable) → o ≡ None → IsAdded o name views views
added_none o name views e = subst (λ (x : Option SubscribedTable). IsAdded x name views views) (sym e) (λ n. refl)

pub added_some : (o : Option SubscribedTable) (s : SubscribedTable) (name : List ℕ) (old new : tree.BTreeMap (List ℕ) SubscribedTable) → o ≡ Some s
    → ((n : List ℕ) → tree.get name_cmp new n ≡ cond (is_eq (name_cmp name n)) (Some s) (tree.get name_cmp old n)) → IsAdded o name old new
added_some o s name old new e u = subst (λ (x : Option SubscribedTable). IsAdded x name old new) (sym e) u

-- one table more
pub Covers-step : (c : Lists) (user : List ℕ) (views more : tree.BTreeMap (List ℕ) SubscribedTable) (left rest : List Table) (t : Table) → Covers c user views left
    → left ≡ t ∷ rest → IsAdded (subscribed_table_of c user t.name) t.name views more → Covers c user more rest
Covers-step c user views more left rest t g e added = go (subscribed_table_of c user t.name) refl added where
  same : ((n : List ℕ) → tree.get name_cmp more n ≡ tree.get name_cmp views n) → Covers c user more left
  same h = record {
    done = λ n k. h n ∙ g.done n k;
    right = λ n. elim (g.right n) as (λ _. (tree.get name_cmp more n ≡ None) ⊎ (tree.get name_cmp more n ≡ subscribed_table_of c user n)) [ inl none ↦ inl (h n ∙ none) | inr is ↦ inr (h n ∙ is) ];
  }

  go : (o : Option SubscribedTable) → subscribed_table_of c user t.name ≡ o → IsAdded o t.name views more → Covers c user more rest
  go None f u = Covers-pass c user more left rest t (same u) e f
  go (Some s) f u = Covers-more c user views more left rest t t.name s g e refl f u

pub Covers-end : (c : Lists) (user : List ℕ) (views : tree.BTreeMap (List ℕ) SubscribedTable) (left : List Table) → Covers c user views left → left ≡ [] → AreViews c user views
Covers-end c user views left g e = record { same = λ i n. (g.done n (ap (λ (ts : List Table). taken table_name n ts) e)) i }
