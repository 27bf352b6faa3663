-- Rules of a column as a reader goes through them: all rules from the start go on where the reader stands.
use Rattle.std.proofs.Common.{◌≡◌, Bool, true, false, ◌∷◌, refl, subst, inl, inr, ◌⊎◌}
use Rattle.sr_ast.specs.declared.keyword.Keyword.TheVariants as kw
use Rattle.sr_parse_reader.specs.declared.reader.Broken.{Broken}
use Rattle.sr_parse_reader.specs.declared.reader.Broken.TheVariants.{Memory}
use Rattle.sr_parse_grammar.specs.Symbols.{Symbols, word, IsWord}
use Rattle.sr_parse_grammar.specs.Tables.{IsRules}
use Rattle.sr_parse_grammar.specs.Tables.IsRules.{none, not_null, null, primary}
use Rattle.sr_parse_grammar.specs.Inner.Going.{Stop, rule_starts}
use Rattle.sr_parse_grammar.proofs.Steps.{Stop-begins}

-- the rules behind those that were read: which were there, and which are at the end
pub data Left : Bool → Bool → Bool → Symbols → Bool → Bool → Bool → Symbols → Type 0 where
  done : {n u p : Bool} {after : Symbols} → Left n u p after n u p after
  bars : {u p m v q : Bool} {before next after : Symbols} → before ≡ word kw.Not ∷ word kw.Null ∷ next → Left true u p next m v q after → Left false u p before m v q after
  lets : {n p m v q : Bool} {before next after : Symbols} → IsWord before kw.Null next → Left n true p next m v q after → Left n false p before m v q after
  keyed : {n u m v q : Bool} {before next after : Symbols} → before ≡ word kw.Primary ∷ word kw.Key ∷ next → Left n u true next m v q after → Left n u false before m v q after

turned : {before middle after : Symbols} {n u p m v q : Bool} → IsRules before n u p middle → Left n u p middle m v q after → Left false false false before m v q after
turned none l = l
turned (not_null h e) l = turned h (bars e l)
turned (null h w) l = turned h (lets w l)
turned (primary h e) l = turned h (keyed e l)

-- all rules from the start go on here, where these were read
abbrev pub Ruling : Symbols → Bool → Bool → Bool → Symbols → Type 0
Ruling start n u p here = (m v q : Bool) (rest : Symbols) → IsRules start m v q rest → Stop rule_starts rest → Left n u p here m v q rest

pub Ruling-start : {start : Symbols} → Ruling start false false false start
Ruling-start m v q rest h s = turned h done

-- NOT was read: NULL is behind it
bars_on : {n u p m v q : Bool} {here next rest : Symbols} → IsWord here kw.Not next → Stop rule_starts rest → Left n u p here m v q rest → (after : Symbols) × IsWord next kw.Null after × Left true u p after m v q rest
bars_on w s done = absurd (Stop-begins rule_starts w refl s)
bars_on w s (bars {next = after} e l) = (after, cc, l)
bars_on w s (lets e l) = absurd (cc)
bars_on w s (keyed e l) = absurd (cc)

lets_on : {n u p m v q : Bool} {here next rest : Symbols} → IsWord here kw.Null next → Stop rule_starts rest → Left n u p here m v q rest → Left n true p next m v q rest
lets_on w s done = absurd (Stop-begins rule_starts w refl s)
lets_on w s (bars e l) = absurd (cc)
lets_on {p = p} {m = m} {v = v} {q = q} {next = next} {rest = rest} w s (lets {n = n} {next = at} e l) = let same : at ≡ next = cc in subst (λ (b : Symbols). Left n true p b m v q rest) same l
lets_on w s (keyed e l) = absurd (cc)

-- PRIMARY was read: KEY is behind it
keys_on : {n u p m v q : Bool} {here next rest : Symbols} → IsWord here kw.Primary next → Stop rule_starts rest → Left n u p here m v q rest → (after : Symbols) × IsWord next kw.Key after × Left n u true after m v q rest
keys_on w s done = absurd (Stop-begins rule_starts w refl s)
keys_on w s (bars e l) = absurd (cc)
keys_on w s (lets e l) = absurd (cc)
keys_on w s (keyed {next = after} e l) = (after, cc, l)

pub Ruling-bars : {start here next after : Symbols} {n u p : Bool} → Ruling start n u p here → IsWord here kw.Not next → IsWord next kw.Null after → Ruling start true u p after
Ruling-bars {after = after} {u = u} {p = p} g w x m v q rest h s =
    let r = bars_on w s (g m v q rest h s) in let there = r.1 in let same : r.0 ≡ after = cc in
    subst (λ (b : Symbols). Left true u p b m v q rest) same r.2

pub Ruling-lets : {start here next : Symbols} {n u p : Bool} → Ruling start n u p here → IsWord here kw.Null next → Ruling start n true p next
Ruling-lets g w m v q rest h s = lets_on w s (g m v q rest h s)

pub Ruling-keys : {start here next after : Symbols} {n u p : Bool} → Ruling start n u p here → IsWord here kw.Primary next → IsWord next kw.Key after → Ruling start n u true after
Ruling-keys {after = after} {n = n} {u = u} g w x m v q rest h s =
    let r = keys_on w s (g m v q rest h s) in let there = r.1 in let same : r.0 ≡ after = cc in
    subst (λ (b : Symbols). Left n u true b m v q rest) same r.2

-- behind NOT there was no NULL
pub Ruling-bars-missed : {start here next : Symbols} {n u p : Bool} {e : Broken} → Ruling start n u p here → IsWord here kw.Not next → ((after : Symbols) → IsWord next kw.Null after → e ≡ Memory)
    → (m v q : Bool) (rest : Symbols) → IsRules start m v q rest → Stop rule_starts rest → e ≡ Memory
Ruling-bars-missed g w f m v q rest h s = let r = bars_on w s (g m v q rest h s) in f r.0 r.1

-- behind PRIMARY there was no KEY
pub Ruling-keys-missed : {start here next : Symbols} {n u p : Bool} {e : Broken} → Ruling start n u p here → IsWord here kw.Primary next → ((after : Symbols) → IsWord next kw.Key after → e ≡ Memory)
    → (m v q : Bool) (rest : Symbols) → IsRules start m v q rest → Stop rule_starts rest → e ≡ Memory
Ruling-keys-missed g w f m v q rest h s = let r = keys_on w s (g m v q rest h s) in f r.0 r.1

-- a key that was read stays
keys_stay : {n u p m v q : Bool} {here after : Symbols} → Left n u p here m v q after → p ≡ true → q ≡ true
keys_stay done e = e
keys_stay (bars w l) e = keys_stay l e
keys_stay (lets w l) e = keys_stay l e
keys_stay (keyed w l) e = keys_stay l refl

-- the rule was read already, or its word is not next
abbrev Passes : Bool → (Symbols → Type 0) → Type 0
Passes read IsNext = (read ≡ true) ⊎ ((next : Symbols) → IsNext next → ⊥)

passed : {P : Symbols → Type 0} {next : Symbols} → Passes false P → P next → ⊥
passed (inl e) h = cc
passed {next = next} (inr f) h = f next h

left_done : {n u p m v q may : Bool} {here rest : Symbols} → Passes n (IsWord here kw.Not) → Passes u (IsWord here kw.Null) → (may ≡ false) ⊎ Passes p (IsWord here kw.Primary) → (q ≡ true → may ≡ true)
    → Left n u p here m v q rest → (n ≡ m) × (u ≡ v) × (p ≡ q) × (here ≡ rest)
left_done a b c k done = (refl, refl, refl, refl)
left_done {here = here} a b c k (bars e l) = absurd (passed {P = IsWord here kw.Not} a e)
left_done {here = here} a b c k (lets e l) = absurd (passed {P = IsWord here kw.Null} b e)
left_done a b (inl f) k (keyed e l) = absurd (let t = k (keys_stay l refl) in cc)
left_done {here = here} a b (inr c) k (keyed e l) = absurd (passed {P = IsWord here kw.Primary} c e)

-- no rule is next: all were read
pub Ruling-done : {start here : Symbols} {n u p may : Bool} → Ruling start n u p here → (n ≡ true) ⊎ ((next : Symbols) → IsWord here kw.Not next → ⊥) → (u ≡ true) ⊎ ((next : Symbols) → IsWord here kw.Null next → ⊥)
    → (may ≡ false) ⊎ ((p ≡ true) ⊎ ((next : Symbols) → IsWord here kw.Primary next → ⊥))
    → (m v q : Bool) (rest : Symbols) → IsRules start m v q rest → (q ≡ true → may ≡ true) → Stop rule_starts rest → (n ≡ m) × (u ≡ v) × (p ≡ q) × (here ≡ rest)
Ruling-done g a b c m v q rest h k s = left_done a b c k (g m v q rest h s)
