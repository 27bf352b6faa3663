-- Statements and scripts: symbols spell one at most.
use Rattle.std.proofs.Common.{◌≡◌, ℕ, Bool, true, false, List, [], ◌∷◌, ◌++◌, refl, sym, subst, ap, ◌∙◌, inl, inr, append_assoc}
use Rattle.std.proofs.lemmas.List.{append-nil}
use Rattle.sr_ast.specs.declared.stmt.Stmt.{Stmt}
use Rattle.sr_ast.specs.declared.stmt.Stmt.TheVariants as stmt
use Rattle.sr_ast.specs.declared.stmt.Passthrough.{Passthrough}
use Rattle.sr_ast.specs.declared.query.Dml.TheVariants as dml
use Rattle.sr_ast.specs.declared.form.Form.{Form}
use Rattle.sr_ast.specs.declared.form.Form.TheVariants as forms
use Rattle.sr_ast.specs.declared.keyword.Keyword.TheVariants as key
use Rattle.sr_parse_grammar.specs.declared.symbol.Sign.TheVariants as mark
use Rattle.sr_parse_grammar.specs.declared.symbol.Symbol.{Symbol}
use Rattle.sr_parse_grammar.specs.declared.symbol.Symbol.TheVariants as symbol
use Rattle.sr_parse_grammar.specs.Symbols.{Symbols, IsWord, IsSign}
use Rattle.sr_parse_grammar.specs.Scripts.{IsWork, IsOnly, IsPassthrough, IsRest, IsStatement, Stage, Pieces, IsScript}
use Rattle.sr_parse_grammar.specs.Scripts.Stage.{opened, closed}
use Rattle.sr_parse_grammar.specs.Scripts.Pieces.{start, again, empty, stated}
use Rattle.sr_parse_grammar.specs.Forms.{words}
use Rattle.sr_parse_grammar.specs.Inner.Forms.{form_at}
use Rattle.sr_parse_grammar.specs.Inner.Going.{is_comma, Ends}
use Rattle.sr_parse_grammar.proofs.Forms.{told, as_form, led_same}
use Rattle.sr_parse_grammar.proofs.Steps.{Stop-begins, IsName-once, two_parts}
use Rattle.sr_parse_grammar.proofs.Lists.{Ends-stop, NamesListed-once}
use Rattle.sr_parse_grammar.proofs.Selecting.{insert_once, update_once, delete_once, select_once}
use Rattle.sr_parse_grammar.proofs.Cataloguing.{publication_once, grant_once, subscription_once}
use Rattle.sr_parse_grammar.proofs.Columns.{table_once}
use Rattle.sr_parse_grammar.proofs.Triggering.{trigger_once}
use Rattle.sr_parse_grammar.proofs.Optioned.{option_proper}

abbrev pub is_work : Symbol → Bool
is_work (symbol.Keyword key.Work) = true
is_work s = false

work_once : (before here after rest : Symbols) → before ≡ here → IsWork before after → IsWork here rest → Ends after → Ends rest → after ≡ rest
work_once before here after rest e (inl h) (inl k) p q = cc
work_once before here after rest e (inl h) (inr k) p q = absurd (Stop-begins is_work (sym h ∙ (e ∙ k)) refl (Ends-stop is_work after refl p))
work_once before here after rest e (inr h) (inl k) p q = absurd (Stop-begins is_work (sym k ∙ (sym e ∙ h)) refl (Ends-stop is_work rest refl q))
work_once before here after rest e (inr h) (inr k) p q = cc

only_once : (before here : Symbols) (x : Bool) (after next : Symbols) (y : Bool) (rest other : Symbols) → before ≡ here → IsOnly before x after → IsOnly here y rest → IsWord after key.For next → IsWord rest key.For other → (x ≡ y) × (after ≡ rest)
only_once before here true after next true rest other e h k p q = (refl, cc)
only_once before here true after next false rest other e h k p q = absurd (cc)
only_once before here false after next true rest other e h k p q = absurd (cc)
only_once before here false after next false rest other e h k p q = (refl, cc)

passthrough_same : (s t : Passthrough) → s.only ≡ t.only → s.users ≡ t.users → s ≡ t
passthrough_same s t a b = two_parts (λ (o : Bool) (us : List (List ℕ)). let x : Passthrough = record { only = o; users = us } in x) a b

passthrough_once : {before here after rest : Symbols} {s t : Passthrough} → before ≡ here → IsPassthrough before s after → IsPassthrough here t rest → Ends after → Ends rest → (s ≡ t) × (after ≡ rest)
passthrough_once {before = before} {here = here} {after = after} {rest = rest} {s = s} {t = t} e h k p q =
    let only = only_once before here s.only h.for_ h.users_ t.only k.for_ k.users_ e h.only k.only h.for k.for in
    let hf = h.for in let kf = k.for in let for = only.1 in let users_ : h.users_ ≡ k.users_ = cc in
    let users = NamesListed-once users_ h.users k.users (Ends-stop is_comma after refl p) (Ends-stop is_comma rest refl q) in
    (passthrough_same s t only.0 users.0, users.1)

-- values that are the same make the same statement
made_once : {A : Type 0} (make : A → Stmt) {s t : Stmt} {x y : A} {after rest : Symbols} → s ≡ make x → t ≡ make y → (x ≡ y) × (after ≡ rest) → (s ≡ t) × (after ≡ rest)
made_once make d e r = (d ∙ (ap make r.0 ∙ sym e), r.1)

rest_once : (f : Form) (before : Symbols) (s : Stmt) (after : Symbols) (t : Stmt) (rest : Symbols) → IsRest f before s after → IsRest f before t rest → Ends after → Ends rest → (s ≡ t) × (after ≡ rest)
rest_once forms.CreateTable b s a t r (x, d, h) (y, e, k) p q = made_once stmt.CreateTable d e (table_once refl h k)
rest_once forms.DropTable b s a t r (x, d, h) (y, e, k) p q = made_once stmt.DropTable d e (IsName-once refl h k)
rest_once forms.CreatePublication b s a t r (x, d, h) (y, e, k) p q = made_once stmt.CreatePublication d e (publication_once refl h k)
rest_once forms.DropPublication b s a t r (x, d, h) (y, e, k) p q = made_once stmt.DropPublication d e (IsName-once refl h k)
rest_once forms.GrantRemote b s a t r (x, d, h) (y, e, k) p q = made_once stmt.GrantRemote d e (grant_once refl h k p q)
rest_once forms.GrantConsolidate b s a t r (x, d, (n, v, h)) (y, e, (m, w, k)) p q = let same : n ≡ m = cc in made_once stmt.GrantConsolidate d e (grant_once same h k p q)
rest_once forms.CreateSubscription b s a t r (x, d, h) (y, e, k) p q = made_once stmt.CreateSubscription d e (subscription_once refl h k)
rest_once forms.StartSubscription b s a t r (x, d, h) (y, e, k) p q = made_once stmt.StartSubscription d e (subscription_once refl h k)
rest_once forms.StopSubscription b s a t r (x, d, h) (y, e, k) p q = made_once stmt.StopSubscription d e (subscription_once refl h k)
rest_once forms.Synchronize b s a t r (x, d, h) (y, e, k) p q = made_once stmt.Synchronize d e (subscription_once refl h k)
rest_once forms.DropSubscription b s a t r (x, d, h) (y, e, k) p q = made_once stmt.DropSubscription d e (subscription_once refl h k)
rest_once forms.CreateTrigger b s a t r (x, d, h) (y, e, k) p q = made_once stmt.CreateTrigger d e (trigger_once refl h k)
rest_once forms.DropTrigger b s a t r (x, d, h) (y, e, k) p q = made_once stmt.DropTrigger d e (IsName-once refl h k)
rest_once forms.SetOption b s a t r (x, d, h) (y, e, k) p q = made_once stmt.SetOption d e (option_proper.once b x a y r h k tt tt)
rest_once forms.Insert b s a t r (x, d, h) (y, e, k) p q = made_once (λ i. stmt.Dml (dml.Insert i)) d e (insert_once refl h k p q)
rest_once forms.Update b s a t r (x, d, h) (y, e, k) p q = made_once (λ u. stmt.Dml (dml.Update u)) d e (update_once refl h k p q)
rest_once forms.Delete b s a t r (x, d, h) (y, e, k) p q = made_once (λ o. stmt.Dml (dml.Delete o)) d e (delete_once refl h k p q)
rest_once forms.Select b s a t r (x, d, h) (y, e, k) p q = made_once stmt.Select d e (select_once refl h k p q)
rest_once forms.Commit b s a t r (x, d, h) (y, e, k) p q = (d ∙ sym e, work_once b b a r refl h k p q)
rest_once forms.Rollback b s a t r (x, d, h) (y, e, k) p q = (d ∙ sym e, work_once b b a r refl h k p q)
rest_once forms.Passthrough b s a t r (x, d, h) (y, e, k) p q = made_once stmt.Passthrough d e (passthrough_once refl h k p q)
rest_once forms.PassthroughStop b s a t r (x, d, h) (y, e, k) p q = (d ∙ sym e, sym h ∙ k)

pub statement_once : (before : Symbols) (s : Stmt) (after : Symbols) (t : Stmt) (rest : Symbols) → IsStatement before s after → IsStatement before t rest → Ends after → Ends rest → (s ≡ t) × (after ≡ rest)
statement_once before s after t rest (f, h) (g, k) p q =
    let z = as_form g f before t rest (sym (told g before t rest k) ∙ told f before s after h) k in
    let next = led_same (words f).1 (sym h.1 ∙ z.1) in
    rest_once f z.0 s after t rest (subst (λ (b : Symbols). IsRest f b s after) next h.2) z.2 p q

-- no statement begins where one ends
pub no_statement : (before : Symbols) (s : Stmt) (after : Symbols) → IsStatement before s after → Ends before → ⊥
no_statement before s after (f, h) (inl e) = let t = sym (ap form_at e) ∙ told f before s after h in absurd (cc)
no_statement before s after (f, h) (inr (next, e)) = let t = sym (ap form_at e) ∙ told f before s after h in absurd (cc)

-- the rest of a script from left to right
pub data Left : Stage → Symbols → List Stmt → Type 0 where
  over : Left closed [] []
  parted : {before after : Symbols} {xs : List Stmt} → IsSign before mark.Semicolon after → Left opened after xs → Left closed before xs
  passed_over : {before : Symbols} {xs : List Stmt} → Left closed before xs → Left opened before xs
  said : {before after : Symbols} {s : Stmt} {xs : List Stmt} → IsStatement before s after → Left closed after xs → Left opened before (s ∷ xs)

pub from_left : {g : Stage} {before middle : Symbols} {xs ys : List Stmt} → Pieces g before xs middle → Left g middle ys → Left opened before (xs ++ ys)
from_left start more = more
from_left (again h s) more = from_left h (parted s more)
from_left (empty h) more = from_left h (passed_over more)
from_left {before = before} {ys = ys} (stated {xs = xs} s h is) more =
    subst (λ (l : List Stmt). Left opened before l) (sym (append_assoc xs (s ∷ []) ys)) (from_left h (said is more))

pub left_ends : {before : Symbols} {xs : List Stmt} → Left closed before xs → Ends before
left_ends over = inl refl
left_ends (parted {after = after} s more) = inr (after, s)

left_once : {g : Stage} {before : Symbols} {xs ys : List Stmt} → Left g before xs → Left g before ys → xs ≡ ys
left_once over over = refl
left_once over (parted s more) = absurd (cc)
left_once (parted s more) over = absurd (cc)
left_once (parted {after = after} s more) (parted {after = rest} {xs = ys} s' more') =
    let e : rest ≡ after = cc in left_once more (subst (λ (b : Symbols). Left opened b ys) e more')
left_once (passed_over more) (passed_over more') = left_once more more'
left_once (passed_over more) (said {before = before} {after = after} {s = s} h others) = absurd (no_statement before s after h (left_ends more))
left_once (said {before = before} {after = after} {s = s} h others) (passed_over more) = absurd (no_statement before s after h (left_ends more))
left_once (said {before = before} {after = after} {s = s} h more) (said {after = rest} {s = t} {xs = ys} k more') =
    let r = statement_once before s after t rest h k (left_ends more) (left_ends more') in
    let f = r.0 in let n = left_once more (subst (λ (b : Symbols). Left closed b ys) (sym r.1) more') in cc

pub script_once : (symbols : Symbols) (s t : List Stmt) → IsScript symbols s → IsScript symbols t → s ≡ t
script_once symbols s t h k = sym (append-nil s) ∙ (left_once (from_left h over) (from_left k over) ∙ append-nil t)
