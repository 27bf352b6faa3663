-- Triggers: symbols spell one at most.
use Rattle.std.proofs.Common.{◌≡◌, ℕ, Bool, true, false, List, [], ◌∷◌, ◌++◌, Option, refl, sym, subst, ap, ◌∙◌, inl, inr}
use Rattle.sr_base.specs.declared.value.Kind.{Kind}
use Rattle.sr_ast.specs.Chains.{Chain}
use Rattle.sr_ast.specs.Actions.{chain_of}
use Rattle.sr_ast.specs.declared.expr.Expr.{Expr}
use Rattle.sr_ast.specs.declared.action.Action.{Action}
use Rattle.sr_ast.specs.declared.action.Action.TheVariants.{Set, Insert, If, IfElse}
use Rattle.sr_ast.specs.declared.create.CreateTrigger.{CreateTrigger}
use Rattle.sr_ast.specs.declared.create.Image.{Image}
use Rattle.sr_ast.specs.declared.create.Image.TheVariants.{Old, New, Remote}
use Rattle.sr_ast.specs.declared.keyword.Keyword.TheVariants as key
use Rattle.sr_parse_grammar.specs.declared.symbol.Sign.TheVariants as mark
use Rattle.sr_parse_grammar.specs.declared.symbol.Symbol.{Symbol}
use Rattle.sr_parse_grammar.specs.declared.symbol.Symbol.TheVariants as symbol
use Rattle.sr_parse_grammar.specs.Symbols.{Symbols, word, IsWord, IsSign}
use Rattle.sr_parse_grammar.specs.Expressions.{IsExpr, IsColumn}
use Rattle.sr_parse_grammar.specs.Triggers.{IsAssigned, IsInserted, Amount, Acts, IsActions, IsOf, image_word, IsAlias, IsVariable, IsTrigger}
use Rattle.sr_parse_grammar.specs.Triggers.Amount.{one, many}
use Rattle.sr_parse_grammar.specs.Triggers.Acts.{none as no_act, then as appended, set, insert, when, choose}
use Rattle.sr_parse_grammar.specs.Inner.Going.{Stop, Begins, is_dot, expression_goes, is_comma, is_open, is_image, is_declare}
use Rattle.sr_parse_grammar.proofs.Steps.{Stop-at, Begins-at, Stop-begins, IsName-once, Once, two_parts, six_parts}
use Rattle.sr_parse_grammar.proofs.Expressing.{IsExpr-once, column_once}
use Rattle.sr_parse_grammar.proofs.Lists.{End, Row-once, Any, NamesListed-once, IsNames-once}
use Rattle.sr_parse_grammar.proofs.Selecting.{row_once, clash}
use Rattle.sr_parse_grammar.proofs.Cataloguing.{kind_once}

assigned_once : {before here after rest : Symbols} {a b : Option (List ℕ)} {n m : List ℕ} {e f : Expr} → before ≡ here → IsAssigned before a n e after → IsAssigned here b m f rest
    → Stop expression_goes after → Stop expression_goes rest → (a ≡ b) × (n ≡ m) × (e ≡ f) × (after ≡ rest)
assigned_once {before = before} {here = here} {a = a} {b = b} {n = n} {m = m} e h k p q =
    let he = h.equal in let ke = k.equal in
    let target = column_once before a n h.equal_ b m k.equal_ h.target (subst (λ (s : Symbols). IsColumn s b m k.equal_) (sym e) k.target) (Stop-at is_dot he refl) (Stop-at is_dot ke refl) in
    let t = target.2 in let value_ : h.value_ ≡ k.value_ = cc in
    let value = IsExpr-once value_ h.value k.value p q in (target.0, target.1, value.0, value.1)

inserted_once : {before here after rest : Symbols} {t u : List ℕ} {cs ds : List (List ℕ)} {xs ys : List Expr} → before ≡ here → IsInserted before t cs xs after → IsInserted here u ds ys rest
    → (t ≡ u) × (cs ≡ ds) × (xs ≡ ys) × (after ≡ rest)
inserted_once {cs = cs} {ds = ds} e h k =
    let hi = h.into in let ki = k.into in let into : h.named ≡ k.named = cc in
    let table = IsName-once into h.table k.table in
    let hv = h.values in let kv = k.values in
    let columns = IsNames-once h.columned k.columned cs h.valued ds k.valued table.1 h.names k.names (Stop-at is_open hv refl) (Stop-at is_open kv refl) in
    let valued = columns.1 in let rowed : h.rowed ≡ k.rowed = cc in
    let row = row_once rowed h.row k.row in (table.0, columns.0, row.0, row.1)

-- actions from left to right
data Deeds : Amount → Symbols → List Action → Symbols → Type 0 where
  finish : {after : Symbols} → Deeds many after [] after
  foremost : {before middle here after : Symbols} {x : Action} {xs : List Action} → Deeds one before (x ∷ []) middle → IsSign middle mark.Semicolon here → Deeds many here xs after → Deeds many before (x ∷ xs) after
  sets : {before inside after : Symbols} {alias : Option (List ℕ)} {name : List ℕ} {e : Expr} → IsWord before key.Set inside → IsAssigned inside alias name e after → Deeds one before (Set alias name e ∷ []) after
  inserts : {before inside after : Symbols} {t : List ℕ} {columns : List (List ℕ)} {row : List Expr} → IsWord before key.Insert inside → IsInserted inside t columns row after → Deeds one before (Insert t columns row ∷ []) after
  tests : {before test then_ taken end after : Symbols} {c : Expr} {xs : List Action}
      → IsWord before key.If test → IsExpr test c then_ → IsWord then_ key.Then taken → Deeds many taken xs end → end ≡ word key.End ∷ word key.If ∷ after → Deeds one before (If c (chain_of xs) ∷ []) after
  chooses : {before test then_ taken else_ other end after : Symbols} {c : Expr} {xs ys : List Action}
      → IsWord before key.If test → IsExpr test c then_ → IsWord then_ key.Then taken → Deeds many taken xs else_ → IsWord else_ key.Else other → Deeds many other ys end
      → end ≡ word key.End ∷ word key.If ∷ after → Deeds one before (IfElse c (chain_of xs) (chain_of ys) ∷ []) after

one_deed_more : {before middle here after : Symbols} {xs : List Action} {x : Action} → Deeds many before xs middle → Deeds one middle (x ∷ []) here → IsSign here mark.Semicolon after → Deeds many before (xs ++ x ∷ []) after
one_deed_more finish d s = foremost d s finish
one_deed_more (foremost e t others) d s = foremost e t (one_deed_more others d s)

deeds : {a : Amount} {ifs : ℕ} {before after : Symbols} {xs : List Action} → Acts a ifs before xs after → Deeds a before xs after
deeds no_act = finish
deeds (appended hs h s) = one_deed_more (deeds hs) (deeds h) s
deeds (set w h) = sets w h
deeds (insert w h) = inserts w h
deeds (when p w e t xs f) = tests w e t (deeds xs) f
deeds (choose p w e t xs o ys f) = chooses w e t (deeds xs) o (deeds ys) f

-- with what an action begins
abbrev is_act : Symbol → Bool
is_act (symbol.Keyword key.Set) = true
is_act (symbol.Keyword key.Insert) = true
is_act (symbol.Keyword key.If) = true
is_act s = false

deed_begins : {before after : Symbols} {xs : List Action} → Deeds one before xs after → Begins is_act before
deed_begins (sets w h) = Begins-at is_act w refl
deed_begins (inserts w h) = Begins-at is_act w refl
deed_begins (tests w e t xs f) = Begins-at is_act w refl
deed_begins (chooses w e t xs o ys f) = Begins-at is_act w refl

abbrev Until : Amount → Symbols → Type 0
Until one after = Stop expression_goes after
Until many after = Stop is_act after

moved : {a : Amount} {before here after : Symbols} {xs : List Action} → before ≡ here → Deeds a here xs after → Deeds a before xs after
moved {a = a} {after = after} {xs = xs} e h = subst (λ (s : Symbols). Deeds a s xs after) (sym e) h

deeds_once : {a : Amount} {before after rest : Symbols} {xs ys : List Action} → Deeds a before xs after → Deeds a before ys rest → Until a after → Until a rest → (xs ≡ ys) × (after ≡ rest)
deeds_once finish finish p q = (refl, refl)
deeds_once (finish {after = before}) (foremost d s others) p q = absurd (clash is_act before (deed_begins d) p)
deeds_once (foremost d s others) (finish {after = before}) p q = absurd (clash is_act before (deed_begins d) q)
deeds_once (foremost {here = here} d s others) (foremost {here = here'} d' s' others') p q =
    let x = deeds_once d d' (Stop-at expression_goes s refl) (Stop-at expression_goes s' refl) in
    let m = x.1 in let same : here ≡ here' = cc in
    let r = deeds_once others (moved same others') p q in
    let e = x.0 in let f = r.0 in (cc, r.1)
deeds_once (sets {inside = inside} w h) (sets {inside = inside'} w' h') p q =
    let same : inside ≡ inside' = cc in let r = assigned_once same h h' p q in let e = r.0 in let f = r.1 in let g = r.2 in (cc, r.3)
deeds_once (sets w h) (inserts w' h') p q = absurd (cc)
deeds_once (sets w h) (tests w' e t xs f) p q = absurd (cc)
deeds_once (sets w h) (chooses w' e t xs o ys f) p q = absurd (cc)
deeds_once (inserts w h) (sets w' h') p q = absurd (cc)
deeds_once (inserts {inside = inside} w h) (inserts {inside = inside'} w' h') p q =
    let same : inside ≡ inside' = cc in let r = inserted_once same h h' in let e = r.0 in let f = r.1 in let g = r.2 in (cc, r.3)
deeds_once (inserts w h) (tests w' e t xs f) p q = absurd (cc)
deeds_once (inserts w h) (chooses w' e t xs o ys f) p q = absurd (cc)
deeds_once (tests w e t xs f) (sets w' h') p q = absurd (cc)
deeds_once (tests w e t xs f) (inserts w' h') p q = absurd (cc)
deeds_once (tests {test = test} {taken = taken} w e t xs f) (tests {test = test'} {taken = taken'} w' e' t' xs' f') p q =
    let same : test ≡ test' = cc in
    let c = IsExpr-once same e e' (Stop-at expression_goes t refl) (Stop-at expression_goes t' refl) in
    let m = c.1 in let then_ : taken ≡ taken' = cc in
    let r = deeds_once xs (moved then_ xs') (Stop-at is_act f refl) (Stop-at is_act f' refl) in
    let n = c.0 in let chain = ap chain_of r.0 in let ends = r.1 in (cc, cc)
deeds_once (tests {test = test} {taken = taken} w e t xs f) (chooses {test = test'} {taken = taken'} w' e' t' xs' o' ys' f') p q =
    let same : test ≡ test' = cc in
    let c = IsExpr-once same e e' (Stop-at expression_goes t refl) (Stop-at expression_goes t' refl) in
    let m = c.1 in let then_ : taken ≡ taken' = cc in
    let r = deeds_once xs (moved then_ xs') (Stop-at is_act f refl) (Stop-at is_act o' refl) in
    let ends = r.1 in absurd (cc)
deeds_once (chooses w e t xs o ys f) (sets w' h') p q = absurd (cc)
deeds_once (chooses w e t xs o ys f) (inserts w' h') p q = absurd (cc)
deeds_once (chooses {test = test'} {taken = taken'} w' e' t' xs' o' ys' f') (tests {test = test} {taken = taken} w e t xs f) p q =
    let same : test' ≡ test = cc in
    let c = IsExpr-once same e' e (Stop-at expression_goes t' refl) (Stop-at expression_goes t refl) in
    let m = c.1 in let then_ : taken' ≡ taken = cc in
    let r = deeds_once xs' (moved then_ xs) (Stop-at is_act o' refl) (Stop-at is_act f refl) in
    let ends = r.1 in absurd (cc)
deeds_once (chooses {test = test} {taken = taken} {other = other} w e t xs o ys f) (chooses {test = test'} {taken = taken'} {other = other'} w' e' t' xs' o' ys' f') p q =
    let same : test ≡ test' = cc in
    let c = IsExpr-once same e e' (Stop-at expression_goes t refl) (Stop-at expression_goes t' refl) in
    let m = c.1 in let then_ : taken ≡ taken' = cc in
    let r = deeds_once xs (moved then_ xs') (Stop-at is_act o refl) (Stop-at is_act o' refl) in
    let e1 = r.1 in let else_ : other ≡ other' = cc in
    let s = deeds_once ys (moved else_ ys') (Stop-at is_act f refl) (Stop-at is_act f' refl) in
    let n = c.0 in let chain = ap chain_of r.0 in let chain' = ap chain_of s.0 in let ends = s.1 in (cc, cc)

deed_stop : (test : Symbol → Bool) → test (symbol.Keyword key.Set) ≡ false → test (symbol.Keyword key.Insert) ≡ false → test (symbol.Keyword key.If) ≡ false
    → {before after : Symbols} {xs : List Action} → Deeds one before xs after → Stop test before
deed_stop test s i f (sets w h) = Stop-at test w s
deed_stop test s i f (inserts w h) = Stop-at test w i
deed_stop test s i f (tests w e t xs g) = Stop-at test w f
deed_stop test s i f (chooses w e t xs o ys g) = Stop-at test w f

-- what stands before actions begins with none of the words that no action begins with
deeds_stop : (test : Symbol → Bool) → test (symbol.Keyword key.Set) ≡ false → test (symbol.Keyword key.Insert) ≡ false → test (symbol.Keyword key.If) ≡ false
    → {before after : Symbols} {xs : List Action} → Deeds many before xs after → Stop test after → Stop test before
deeds_stop test s i f finish p = p
deeds_stop test s i f (foremost d m others) p = deed_stop test s i f d

actions_once : {m n : ℕ} {before here after rest : Symbols} {x y : Chain} → before ≡ here → IsActions m before x after → IsActions n here y rest → Stop is_act after → Stop is_act rest → (x ≡ y) × (after ≡ rest)
actions_once e h k p q =
    let r = deeds_once (deeds h.acts) (moved e (deeds k.acts)) p q in
    (h.is ∙ (ap chain_of r.0 ∙ sym k.is), r.1)

of_once : (before here : Symbols) (xs : List (List ℕ)) (after : Symbols) (ys : List (List ℕ)) (rest next other : Symbols) → before ≡ here → IsOf before xs after → IsOf here ys rest → IsWord after key.On next → IsWord rest key.On other → (xs ≡ ys) × (after ≡ rest)
of_once before here xs after ys rest next other e (inl (n, a)) (inl (m, b)) p q = (cc, cc)
of_once before here xs after ys rest next other e (inl (n, a)) (inr k) p q = let o = k.of in absurd (cc)
of_once before here xs after ys rest next other e (inr h) (inl (m, b)) p q = let o = h.of in absurd (cc)
of_once before here xs after ys rest next other e (inr h) (inr k) p q =
    let ho = h.of in let ko = k.of in let same : h.next ≡ k.next = cc in
    NamesListed-once same h.listed k.listed (Stop-at is_comma p refl) (Stop-at is_comma q refl)

pub image_once : (x y : Image) → symbol.Keyword (image_word x) ≡ symbol.Keyword (image_word y) → x ≡ y
image_once Old Old e = refl
image_once New New e = refl
image_once Remote Remote e = refl
image_once _ _ e = absurd (cc)

pub image_is : (x : Image) → is_image (symbol.Keyword (image_word x)) ≡ true
image_is Old = refl
image_is _ = refl

alias_once : Once IsAlias Any
alias_once before x after y rest h k p q =
    let hi = h.image in let ki = k.image in
    let same : symbol.Keyword (image_word x.0) ≡ symbol.Keyword (image_word y.0) = cc in
    let next : h.next ≡ k.next = cc in
    let name = IsName-once next h.name k.name in
    (two_parts (λ (i : Image) (n : List ℕ). let a : Image × List ℕ = (i, n) in a) (image_once x.0 y.0 same) name.0, name.1)

variable_once : Once IsVariable Any
variable_once before x after y rest h k p q =
    let hd = h.declare in let kd = k.declare in let named : h.named ≡ k.named = cc in
    let name = IsName-once named h.name k.name in
    let kind = kind_once h.typed k.typed x.1 h.ended y.1 k.ended name.1 h.kind k.kind in
    let hs = h.semicolon in let ks = k.semicolon in let ended = kind.1 in
    (two_parts (λ (n : List ℕ) (i : Kind). let a : List ℕ × Kind = (n, i) in a) name.0 kind.0, cc)

no_alias : (a : Image × List ℕ) {before next here : Symbols} → before ≡ word key.For ∷ next → before ≡ word (image_word a.0) ∷ word key.As ∷ here → ⊥
no_alias a w i = let e : symbol.Keyword (image_word a.0) ≡ symbol.Keyword key.For = cc in
    let f : is_image (symbol.Keyword (image_word a.0)) ≡ false = ap is_image e in
    let t = image_is a.0 in let u : true ≡ false = sym t ∙ f in cc

alias_end : {after next : Symbols} → after ≡ word key.For ∷ next → End IsAlias Any after
alias_end w = record { stops = tt; ends = λ y rest h. no_alias y w h.image }

variable_end : (after : Symbols) → Stop is_declare after → End IsVariable Any after
variable_end after p = record { stops = tt; ends = λ y rest h. Stop-begins is_declare h.declare refl p }

pub trigger_same : (s t : CreateTrigger) → s.name ≡ t.name → s.columns ≡ t.columns → s.table ≡ t.table → s.aliases ≡ t.aliases → s.variables ≡ t.variables → s.actions ≡ t.actions → s ≡ t
trigger_same s t a b c d e f =
    six_parts (λ (n : List ℕ) (cs : List (List ℕ)) (u : List ℕ) (as_ : List (Image × List ℕ)) (vs : List (List ℕ × Kind)) (x : Chain).
    let r : CreateTrigger = record { name = n; columns = cs; table = u; aliases = as_; variables = vs; actions = x } in r) a b c d e f

-- no DECLARE stands before actions
pub acts_no_declare : {m : ℕ} {before after : Symbols} {x : Chain} → IsActions m before x after → Stop is_declare after → Stop is_declare before
acts_no_declare h p = deeds_stop is_declare refl refl refl (deeds h.acts) p

pub no_declare : {before after : Symbols} {c : CreateTrigger} → (h : IsTrigger before c after) → Stop is_declare h.actions_
no_declare h = acts_no_declare h.actions (Stop-at is_declare h.end refl)

pub trigger_once : {before here after rest : Symbols} {s t : CreateTrigger} → before ≡ here → IsTrigger before s after → IsTrigger here t rest → (s ≡ t) × (after ≡ rest)
trigger_once {s = s} {t = t} e h k =
    let name = IsName-once e h.name k.name in
    let hr = h.resolve in let kr = k.resolve in let n = name.1 in let of_ : h.of_ ≡ k.of_ = cc in
    let columns = of_once h.of_ k.of_ s.columns h.on_ t.columns k.on_ h.table_ k.table_ of_ h.columns k.columns h.on k.on in
    let ho = h.on in let ko = k.on in let on_ = columns.1 in let table_ : h.table_ ≡ k.table_ = cc in
    let table = IsName-once table_ h.table k.table in
    let hf = h.referencing in let kf = k.referencing in let f = table.1 in let aliases_ : h.aliases_ ≡ k.aliases_ = cc in
    let aliases = Row-once IsAlias Any alias_once (λ b x a i. tt) aliases_ h.aliases.listed k.aliases.listed (alias_end h.each) (alias_end k.each) in
    let he = h.each in let ke = k.each in let for_ = aliases.1 in let variables_ : h.variables_ ≡ k.variables_ = cc in
    let variables = Row-once IsVariable Any variable_once (λ b x a i. tt) variables_ h.variables k.variables (variable_end h.actions_ (no_declare h)) (variable_end k.actions_ (no_declare k)) in
    let actions = actions_once variables.1 h.actions k.actions (Stop-at is_act h.end refl) (Stop-at is_act k.end refl) in
    let hn = h.end in let kn = k.end in let end = actions.1 in
    (trigger_same s t name.0 columns.0 table.0 aliases.0 variables.0 actions.0, cc)
