-- The words of a statement tell its form.
use Rattle.std.proofs.Common.{◌≡◌, Bool, true, false, ◌∷◌, Option, Some, None, refl, subst, ap, ◌∙◌}
use Rattle.sr_ast.specs.declared.stmt.Stmt.{Stmt}
use Rattle.sr_ast.specs.declared.form.Form.{Form}
use Rattle.sr_ast.specs.declared.form.Form.TheVariants as forms
use Rattle.sr_ast.specs.declared.keyword.Keyword.{Keyword}
use Rattle.sr_ast.specs.declared.keyword.Keyword.TheVariants as key
use Rattle.sr_parse_grammar.specs.declared.symbol.Symbol.TheVariants as symbol
use Rattle.sr_parse_grammar.specs.Symbols.{Symbols, first, word, IsWord}
use Rattle.sr_parse_grammar.specs.Forms.{words, led}
use Rattle.sr_parse_grammar.specs.Inner.Forms.{word_in, created, dropped, granted, passed, form_behind, form_of, form_at, past}
use Rattle.sr_parse_grammar.specs.Scripts.{IsOnly, IsFormed}

passed_told : (before : Symbols) (x : Bool) (after next : Symbols) → IsOnly before x after → IsWord after key.For next → Some (passed (word_in (first before))) ≡ Some forms.Passthrough
passed_told before true after next o w = ap (λ (b : Symbols). Some (passed (word_in (first b)))) o
passed_told before false after next o w = ap (λ (b : Symbols). Some (passed (word_in (first b)))) (o ∙ w)

-- the words that a statement begins with tell its form
pub told : (f : Form) (before : Symbols) (s : Stmt) (after : Symbols) → IsFormed f before s after → form_at before ≡ Some f
told forms.GrantConsolidate before s after (next, w, (x, e, (m, v, h))) = ap form_at w ∙ ap (λ (b : Symbols). Some (granted (word_in (first b)))) v
told forms.CreateSubscription before s after (next, w, (x, e, h)) = ap form_at w ∙ ap (λ (b : Symbols). Some (created (word_in (first b)))) h.to
told forms.DropSubscription before s after (next, w, (x, e, h)) = ap form_at w ∙ ap (λ (b : Symbols). Some (dropped (word_in (first b)))) h.to
told forms.Passthrough before s after (next, w, (x, e, h)) = ap form_at w ∙ passed_told next x.only h.for_ h.users_ h.only h.for
told _ before s after (next, w, r) = ap form_at w

pub as_form : (f g : Form) (before : Symbols) (s : Stmt) (after : Symbols) → Some f ≡ Some g → IsFormed f before s after → IsFormed g before s after
as_form f g b s a e h = subst (λ (f : Form). IsFormed f b s a) (let same : f ≡ g = cc in same) h

-- behind the same words the same stands
pub led_same : {k l : Keyword} (second : Option Keyword) {here there : Symbols} → word k ∷ led second here ≡ word l ∷ led second there → here ≡ there
led_same None e = cc
led_same (Some w) e = cc

-- ---- where a form is told, its words stand

abbrev Opens : Keyword → Symbols → Form → Type 0
Opens k next f = (k ≡ (words f).0) × (next ≡ led (words f).1 (past (words f).1 next))

created_opens : (next : Symbols) → Opens key.Create next (created (word_in (first next)))
created_opens (symbol.Keyword key.Table ∷ next) = (refl, refl)
created_opens _ = (refl, refl)

dropped_opens : (next : Symbols) → Opens key.Drop next (dropped (word_in (first next)))
dropped_opens (symbol.Keyword key.Table ∷ next) = (refl, refl)
dropped_opens _ = (refl, refl)

granted_opens : (next : Symbols) → Opens key.Grant next (granted (word_in (first next)))
granted_opens (symbol.Keyword key.Remote ∷ next) = (refl, refl)
granted_opens _ = (refl, refl)

passed_opens : (next : Symbols) → Opens key.Passthrough next (passed (word_in (first next)))
passed_opens (symbol.Keyword key.Stop ∷ next) = (refl, refl)
passed_opens _ = (refl, refl)

opens_as : {k : Keyword} {next : Symbols} {f g : Form} → Some f ≡ Some g → Opens k next f → Opens k next g
opens_as {k = k} {next = n} {f = f} {g = g} e o = subst (λ (f : Form). Opens k n f) (let same : f ≡ g = cc in same) o

pub opens : (k : Keyword) (next : Symbols) (f : Form) → form_behind k (word_in (first next)) ≡ Some f → Opens k next f
opens key.Create next f e = opens_as e (created_opens next)
opens key.Drop next f e = opens_as e (dropped_opens next)
opens key.Grant next f e = opens_as e (granted_opens next)
opens key.Passthrough next f e = opens_as e (passed_opens next)
opens key.Start next f e = opens_as e (refl, refl)
opens key.Stop next f e = opens_as e (refl, refl)
opens key.Synchronize next f e = opens_as e (refl, refl)
opens key.Set next f e = opens_as e (refl, refl)
opens key.Insert next f e = opens_as e (refl, refl)
opens key.Update next f e = opens_as e (refl, refl)
opens key.Delete next f e = opens_as e (refl, refl)
opens key.Select next f e = opens_as e (refl, refl)
opens key.Commit next f e = opens_as e (refl, refl)
opens key.Rollback next f e = opens_as e (refl, refl)
opens _ next f e = absurd (cc)

-- a word that begins no statement begins none, whatever stands behind it
pub none_behind : (first : Option Keyword) (next other : Option Keyword) → form_of first next ≡ None → form_of first other ≡ None
none_behind (Some key.Create) next other e = absurd (cc)
none_behind _ next other e = cc
