-- What ops give that were taken, one after the other.
use Rattle.std.proofs.Common.{◌≡◌, ℕ, Bool, List, [], ◌∷◌, ◌++◌, Option, Some, None, IfSome, option_map, sym, ap, ap₂, subst, ◌∙◌, append_assoc, append-nil}
use Rattle.sr_ast.specs.declared.stmt.Stmt.{Stmt}
use Rattle.sr_logform.specs.declared.op.Op.{Op}
use Rattle.sr_logform.specs.declared.outcome.Outcome.{Outcome}
use Rattle.sr_catalog_schema.specs.Catalogs.{Lists}
use Rattle.sr_catalog_schema.specs.Firsts.{first_of}
use Rattle.sr_scan.specs.Inner.Changed.{or_before, LeavesBehind, texts_done, AreTaken}
use Rattle.sr_scan.specs.Inner.Images.{catalog_behind, catalog_after, op_told, ops_told}
use Rattle.sr_scan.specs.Inner.Meanings.{text_done, AreMeant}
use Rattle.sr_scan.specs.Inner.Views.{AreViews}
use Rattle.sr_scan.specs.declared.entries.Sight.{Sight}

-- the catalog in force
abbrev pub now : Lists → Option Sight → Lists
now c sight = or_before (option_map (λ s. s.catalog) sight) c

-- with statements for the ops that are left there are statements for all of them, by which all give what is there and what those that are left give
pub record Reaches (is_origin : Bool) (c : Lists) (user : List ℕ) (taken : List (Op × Outcome)) (ops : List Op) (here : Lists) (left : List (Op × Outcome)) (meant : List (Option Stmt)) : Type 0 where
  pub all : List (Option Stmt)
  pub are : AreMeant (texts_done taken) all
  pub gives : ops_told is_origin c user taken all ≡ ops ++ ops_told is_origin here user left meant
  pub catalog : catalog_after c all ≡ catalog_after here meant

pub record GoesOn (is_origin : Bool) (c : Lists) (user : List ℕ) (taken : List (Op × Outcome)) (ops : List Op) (sight : Option Sight) (left : List (Op × Outcome)) : Type 0 where
  pub reaches : (meant : List (Option Stmt)) → AreMeant (texts_done left) meant → Reaches is_origin c user taken ops (now c sight) left meant
  pub views : IfSome sight (λ s. AreViews s.catalog user s.views)

pub GoesOn-start : (is_origin : Bool) (c : Lists) (user : List ℕ) (taken : List (Op × Outcome)) (ops : List Op) (sight : Option Sight) (left : List (Op × Outcome))
    → ops ≡ [] → sight ≡ None → left ≡ taken → GoesOn is_origin c user taken ops sight left
GoesOn-start is_origin c user taken ops sight left o s l = record {
  reaches = λ meant are. record {
    all = meant;
    are = subst (λ (xs : List (Op × Outcome)). AreMeant (texts_done xs) meant) l are;
    gives = sym (ap₂ (λ (xs : List Op) (ys : List (Op × Outcome)). xs ++ ops_told is_origin (now c sight) user ys meant) o l
        ∙ ap (λ (x : Option Sight). ops_told is_origin (now c x) user taken meant) s);
    catalog = sym (ap (λ (x : Option Sight). catalog_after (now c x) meant) s);
  };
  views = subst (λ (x : Option Sight). IfSome x (λ s. AreViews s.catalog user s.views)) (sym s) tt;
}

in_force : (c : Lists) (sight next : Option Sight) (m : Option Stmt) → or_before (option_map (λ s. s.catalog) next) (now c sight) ≡ catalog_behind (now c sight) m
    → now c (first_of next sight) ≡ catalog_behind (now c sight) m
in_force c sight None m e = e
in_force c sight (Some n) m e = e

views_in_force : (user : List ℕ) (sight next : Option Sight) → IfSome sight (λ s. AreViews s.catalog user s.views) → IfSome next (λ s. AreViews s.catalog user s.views)
    → IfSome (first_of next sight) (λ s. AreViews s.catalog user s.views)
views_in_force user sight None a b = a
views_in_force user sight (Some n) a b = b

pub GoesOn-more : (is_origin : Bool) (c : Lists) (user : List ℕ) (taken : List (Op × Outcome)) (ops more : List Op) (sight next latest : Option Sight)
    (left rest : List (Op × Outcome)) (d : Op × Outcome) → GoesOn is_origin c user taken ops sight left → left ≡ d ∷ rest
    → more ≡ ops ++ op_told is_origin (now c sight) user d.0 d.1 → LeavesBehind (now c sight) (text_done d.0 d.1) (option_map (λ s. s.catalog) next)
    → IfSome next (λ s. AreViews s.catalog user s.views) → latest ≡ first_of next sight → GoesOn is_origin c user taken more latest rest
GoesOn-more is_origin c user taken ops more sight next latest left rest d g l m b v is = record {
  reaches = λ meant are.
      let before = g.reaches (b.meant ∷ meant) (subst (λ (xs : List (Op × Outcome)). AreMeant (texts_done xs) (b.meant ∷ meant)) (sym l) (b.is, are)) in
      let told = op_told is_origin (now c sight) user d.0 d.1 in
      let here : now c latest ≡ catalog_behind (now c sight) b.meant = ap (now c) is ∙ in_force c sight next b.meant b.catalog in
      record {
        all = before.all;
        are = before.are;
        gives = before.gives ∙ (ap (λ (xs : List (Op × Outcome)). ops ++ ops_told is_origin (now c sight) user xs (b.meant ∷ meant)) l
            ∙ (sym (append_assoc ops told (ops_told is_origin (catalog_behind (now c sight) b.meant) user rest meant))
            ∙ ap₂ (λ (xs : List Op) (x : Lists). xs ++ ops_told is_origin x user rest meant) (sym m) (sym here)));
        catalog = before.catalog ∙ ap (λ (x : Lists). catalog_after x meant) (sym here);
      };
  views = subst (λ (x : Option Sight). IfSome x (λ s. AreViews s.catalog user s.views)) (sym is) (views_in_force user sight next g.views v);
}

pub GoesOn-end : (is_origin : Bool) (c : Lists) (user : List ℕ) (taken : List (Op × Outcome)) (ops : List Op) (sight : Option Sight) (left : List (Op × Outcome)) (behind : Option Lists)
    → GoesOn is_origin c user taken ops sight left → left ≡ [] → behind ≡ option_map (λ s. s.catalog) sight → AreTaken is_origin c user taken ops behind
GoesOn-end is_origin c user taken ops sight left behind g l b =
    let all = g.reaches [] (subst (λ (xs : List (Op × Outcome)). AreMeant (texts_done xs) []) (sym l) tt) in
    record {
      meant = all.all;
      are = all.are;
      gives = sym (all.gives ∙ (ap (λ (xs : List (Op × Outcome)). ops ++ ops_told is_origin (now c sight) user xs []) l ∙ append-nil ops));
      catalog = ap (λ (x : Option Lists). or_before x c) b ∙ sym all.catalog;
    }
