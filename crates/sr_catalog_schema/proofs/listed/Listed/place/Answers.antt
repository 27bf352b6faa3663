use Rattle.std.proofs.Common.{refl, ap, subst, ◌∙◌, position}
use Rattle.std.specs.Prelude.{vec_items, bytes_eq}
use Rattle.sr_catalog_schema.specs.Inner.Keys.{key_of, rule_key}
use Rattle.sr_catalog_schema.specs.Rules.{is_of}
use Rattle.sr_catalog_schema.specs.Inner.Singles.{IsSingle}
use Rattle.sr_catalog_schema.proofs.Places.{position-names}
use Rattle.sr_catalog_schema.proofs.Single.{place_agrees, single_agrees, keyed_single}
use Rattle.sr_catalog_schema.proofs.Spelled.{rules_are}
use Rattle.sr_catalog_schema.proofs.listed.Listed.place.Goals as goal

pub returns-clause-place : goal.returns-clause-place
returns-clause-place c =
    let rule = c.args.rule.now in
    let keys = c.self.inside.rules.keys in
    let items = c.self.inside.items.items in
    c.get_index_of.ensures.index
    ∙ (position-names vec_items key_of c.as_slice.result.now keys items c.self.invariant.keys_are
    ∙ (ap (λ k. position (λ s. bytes_eq k (key_of s)) items) (c.as_slice.ensures.value ∙ c.in_ok-key.ensures.key)
    ∙ (place_agrees (λ s. bytes_eq (rule_key rule.user rule.publication rule.value) (key_of s)) (is_of rule) items (rules_are rule items c.in_ok-key.ensures.range c.self.invariant.ranged)
    ∙ ap (position (is_of rule)) c.self.view_is)))

pub returns-clause-single : goal.returns-clause-single
returns-clause-single c =
    let rule = c.args.rule.now in
    let keys = c.self.inside.rules.keys in
    let items = c.self.inside.items.items in
    subst (IsSingle (is_of rule)) c.self.view_is
    (single_agrees (λ s. bytes_eq (rule_key rule.user rule.publication rule.value) (key_of s)) (is_of rule) items (rules_are rule items c.in_ok-key.ensures.range c.self.invariant.ranged)
    (keyed_single vec_items _ (λ x y. refl) key_of keys items c.self.invariant.keys_are c.len-count.ensures.unique (rule_key rule.user rule.publication rule.value)))
