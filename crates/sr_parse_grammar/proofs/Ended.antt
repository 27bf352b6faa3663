-- What a text spells is in normal form: statements on the catalog, triggers, and all of a script.
use Rattle.std.proofs.Common.{if◌then◌else◌, ◌≡◌, ℕ, Bool, true, false, List, [], ◌∷◌, Some, None, sym, subst, inl, inr, ◌⊎◌, Contains}
use Rattle.std.specs.List.{AllByRecursion}
use Rattle.sr_base.specs.declared.value.Kind.TheVariants as kind
use Rattle.sr_ast.specs.declared.create.ColumnRule.{ColumnRule}
use Rattle.sr_parse_grammar.specs.Symbols.{Symbols, IsName}
use Rattle.sr_parse_grammar.specs.Catalog.{IsKind, IsSubscribed, IsArticle, IsPublication, IsGiven, IsSubscription}
use Rattle.sr_parse_grammar.specs.Tables.{IsRules, IsColumnRule, IsColumns, IsKeyWords, IsKeyList, IsKeyed, IsTable, AreNormal, IsNormal as TableNormal}
use Rattle.sr_parse_grammar.specs.Tables.IsRules.{none as no_rule, not_null, null, primary}
use Rattle.sr_parse_grammar.specs.Tables.IsColumns.{one, more}
use Rattle.sr_parse_grammar.specs.Scripts.{IsWork, IsOnly, IsPassthrough}
use Rattle.sr_ast.specs.Normal.{IsPlain, IsNoneOr, IsSomeOf, IsNormalValue, IsNormalKind, IsNormalExpr}
use Rattle.sr_ast.specs.NormalForms.{IsNormalRule, IsNormalTable, IsNormalArticle, IsNormalPublication, IsNormalSubscription, IsNormalPassthrough}
use Rattle.sr_parse_grammar.proofs.Listed.{all_of}
use Rattle.sr_parse_grammar.proofs.Sound.{AreSound, Gives, past, moved, name_gives, signed_gives, listed_gives, names_gives, some_push}
use Rattle.sr_parse_grammar.proofs.Settled.{past_two, expr_gives, condition_gives}

-- ---- kinds

pub kind_gives : Gives IsKind IsNormalKind
kind_gives before after kind.Int (inl w) h = (tt, (past w h).1)
kind_gives before after kind.Int (inr w) h = (tt, (past w h).1)
kind_gives before after (kind.Varchar n) x h = ((x.length.least, x.length.most), (past x.closed (past x.length.number (past_two x.opened h)).1).1)
kind_gives before after _ w h = (tt, (past w h).1)

-- ---- publications, users and subscriptions

subscribed_gives : Gives IsSubscribed (IsNoneOr IsNormalExpr)
subscribed_gives before after None e h = (tt, moved e h)
subscribed_gives before after (Some x) (next, w, e) h = expr_gives next after x e (past_two w h)

article_gives : Gives IsArticle IsNormalArticle
article_gives before after a x h =
    let t = name_gives x.named x.columned a.table x.table (past x.opening h).1 in
    let c = names_gives x.columned x.where_ a.columns x.columns t.1 in
    let w = condition_gives x.where_ x.subscribed a.condition x.condition c.1 in
    let b = subscribed_gives x.subscribed after a.by x.by w.1 in
    (record { table = t.0; columns = c.0; condition = w.0; by = b.0 }, b.1)

pub publication_gives : Gives IsPublication IsNormalPublication
publication_gives before after p x h =
    let n = name_gives before x.open_ p.name x.name h in
    let l = listed_gives IsArticle IsNormalArticle article_gives x.inside x.close p.articles x.articles (past x.opened n.1).1 in
    ((n.0, l.0), (past x.closed l.1).1)

given_gives : Gives IsGiven (IsNoneOr IsNormalValue)
given_gives before after None e h = (tt, moved e h)
given_gives before after (Some v) (inside, close, o, s, c) h =
    let p = signed_gives inside close v s (past o h).1 in
    (p.0, (past c p.1).1)

pub subscription_gives : Gives IsSubscription IsNormalSubscription
subscription_gives before after s x h =
    let n = name_gives x.named x.given s.publication x.publication (past_two x.to h) in
    let v = given_gives x.given x.for s.value x.value n.1 in
    let u = name_gives x.user_ after s.user x.user (past x.behind v.1).1 in
    (record { publication = n.0; value = v.0; user = u.0 }, u.1)

pub passthrough_gives : Gives IsPassthrough IsNormalPassthrough
passthrough_gives before after p x h =
    let u = listed_gives IsName IsPlain name_gives x.users_ after p.users x.users (past x.for (past_only p.only before x.for_ x.only h)).1 in
    (record { users = u.0 }, u.1)
  where
    past_only : (o : Bool) (b a : Symbols) → IsOnly b o a → AreSound b → AreSound a
    past_only true b a w h = (past w h).1
    past_only false b a e h = moved e h

pub past_work : {before after : Symbols} → IsWork before after → AreSound before → AreSound after
past_work (inl e) h = moved e h
past_work (inr w) h = (past w h).1

-- ---- tables

-- a column as written
abbrev IsWrittenRule : ColumnRule → Type 0
IsWrittenRule c = IsPlain c.name × IsNormalKind c.kind

past_rules : {before after : Symbols} {n u p : Bool} → IsRules before n u p after → AreSound before → AreSound after
past_rules no_rule h = h
past_rules (not_null r w) h = past_two w (past_rules r h)
past_rules (null r w) h = (past w (past_rules r h)).1
past_rules (primary r w) h = past_two w (past_rules r h)

key_case : (p : Bool) (name : List ℕ) (held names : List (List ℕ)) → names ≡ (if p then name ∷ [] else held) → IsPlain name → AllByRecursion IsPlain held → AllByRecursion IsPlain names
key_case true name held names e p h = subst (AllByRecursion IsPlain) (sym e) (p, tt)
key_case false name held names e p h = subst (AllByRecursion IsPlain) (sym e) h

rule_gives : (held names : List (List ℕ)) (c : ColumnRule) {before after : Symbols} → IsColumnRule before c held names after → AllByRecursion IsPlain held → AreSound before
    → IsWrittenRule c × AllByRecursion IsPlain names × AreSound after
rule_gives held names c {before = b} x k h =
    let n = name_gives b x.typed c.name x.name h in
    let t = kind_gives x.typed x.ruled c.kind x.kind n.1 in
    ((n.0, t.0), key_case x.primary c.name held names x.is_key n.0 k, past_rules x.rules t.1)

columns_give : {before after : Symbols} {cs : List ColumnRule} {names : List (List ℕ)} → IsColumns before cs names after → AreSound before
    → IsSomeOf IsWrittenRule cs × AllByRecursion IsPlain names × AreSound after
columns_give {names = names} (one {c = c} r) h = let p = rule_gives [] names c r tt h in ((p.0, tt), p.1, p.2)
columns_give {names = names} (more {cs = cs} {c = c} {held = held} l s r) h =
    let prefix = columns_give l h in
    let p = rule_gives held names c r prefix.1 (past s prefix.2).1 in
    (some_push IsWrittenRule cs c prefix.0 p.0, p.1, p.2)

key_words_give : Gives IsKeyWords (AllByRecursion IsPlain)
key_words_give before after names x h =
    let l = listed_gives IsName IsPlain name_gives x.names_ x.close names x.names (subst AreSound x.words h).1.1.1 in
    (all_of IsPlain names l.0, (past x.closed l.1).1)

keyed_gives : (cs : List ColumnRule) (names : List (List ℕ)) {before after : Symbols} → IsKeyed before cs names after → AreSound before
    → IsSomeOf IsWrittenRule cs × AllByRecursion IsPlain names × AreSound after
keyed_gives cs names {after = after} x h = let l = columns_give x.listed h in keyed l x.keyed
  where
    keyed : IsSomeOf IsWrittenRule cs × AllByRecursion IsPlain x.held × AreSound x.middle → ((names ≡ x.held) × (x.middle ≡ after)) ⊎ ((x.held ≡ []) × IsKeyList x.middle names after)
        → IsSomeOf IsWrittenRule cs × AllByRecursion IsPlain names × AreSound after
    keyed l (inl (e, m)) = (l.0, subst (AllByRecursion IsPlain) (sym e) l.1, moved m l.2)
    keyed l (inr (e, (next, c, w))) = let p = key_words_give next after names w (past c l.2).1 in (l.0, p.0, p.1)

rule_normal : (names : List (List ℕ)) (w c : ColumnRule) → TableNormal names w c → IsWrittenRule w → IsNormalRule names c
rule_normal names w c n p = record {
  name = subst IsPlain (sym n.name) p.0;
  kind = subst IsNormalKind (sym n.kind) p.1;
  not_null = λ h. n.not_null.1 (inr (subst (λ (x : List ℕ). Contains names x) n.name h));
}

rules_normal : (names : List (List ℕ)) (ws cs : List ColumnRule) → AreNormal names ws cs → AllByRecursion IsWrittenRule ws → AllByRecursion (IsNormalRule names) cs
rules_normal names [] [] n p = tt
rules_normal names [] (c ∷ cs) n p = absurd n
rules_normal names (w ∷ ws) [] n p = absurd n
rules_normal names (w ∷ ws) (c ∷ cs) n p = (rule_normal names w c n.0 p.0, rules_normal names ws cs n.1 p.1)

some_rules : (names : List (List ℕ)) (ws cs : List ColumnRule) → AreNormal names ws cs → IsSomeOf IsWrittenRule ws → IsSomeOf (IsNormalRule names) cs
some_rules names [] cs n p = absurd p
some_rules names (w ∷ ws) [] n p = absurd n
some_rules names (w ∷ ws) (c ∷ cs) n p = rules_normal names (w ∷ ws) (c ∷ cs) n p

pub table_gives : Gives IsTable IsNormalTable
table_gives before after c x h =
    let n = name_gives before x.open_ c.name x.name h in
    let k = keyed_gives x.written c.key x.columns (past x.opened n.1).1 in
    (record { name = n.0; columns = some_rules c.key x.written c.columns x.normal_form k.0; key = k.1 }, (past x.closed k.2).1)
