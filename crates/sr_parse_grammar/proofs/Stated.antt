-- A statement in print spells itself.
use Rattle.std.proofs.Common.{◌≡◌, ℕ, Bool, true, false, List, [], ◌∷◌, refl, sym, subst, inl, codes}
use Rattle.std.proofs.lemmas.List.{append-nil}
use Rattle.sr_ast.specs.Pages.{Piece, blank, word, listed}
use Rattle.sr_ast.specs.Printing.{name_pieces}
use Rattle.sr_ast.specs.Layout.{words_if, passthrough_pieces, dml_pieces, stmt_pieces, printed}
use Rattle.sr_ast.specs.declared.stmt.Passthrough.{Passthrough}
use Rattle.sr_ast.specs.declared.stmt.Stmt.{Stmt}
use Rattle.sr_ast.specs.declared.stmt.Stmt.TheVariants as stmt
use Rattle.sr_ast.specs.declared.query.Dml.{Dml}
use Rattle.sr_ast.specs.declared.query.Dml.TheVariants as dml
use Rattle.sr_ast.specs.declared.form.Form.TheVariants as forms
use Rattle.sr_ast.specs.declared.keyword.Keyword.TheVariants as key
use Rattle.sr_parse_grammar.specs.Symbols.{IsName, word as key_symbol}
use Rattle.sr_parse_grammar.specs.Meanings.{IsWritten}
use Rattle.sr_parse_grammar.specs.Scripts.{IsBehind, IsOnly, IsPassthrough, IsStatement}
use Rattle.sr_parse_grammar.specs.Scripts.Pieces.{start, stated}
use Rattle.sr_ast.specs.Normal.{IsPlain}
use Rattle.sr_ast.specs.NormalForms.{IsNormalPassthrough, IsNormalDml, IsNormal}
use Rattle.sr_parse_grammar.proofs.Lexemes.{Lexes, tokens_of}
use Rattle.sr_parse_grammar.proofs.Saying.{Says-end, Spelt, rendered, put_all-text, phrase_says}
use Rattle.sr_parse_grammar.proofs.Listed.{listed_spelt}
use Rattle.sr_parse_grammar.proofs.Naming.{name_spelt}
use Rattle.sr_parse_grammar.proofs.Rowed.{ahead, insert_spelt, update_spelt, delete_spelt, select_spelt}
use Rattle.sr_parse_grammar.proofs.Cataloged.{table_spelt, publication_spelt, subscription_spelt}
use Rattle.sr_parse_grammar.proofs.Granted.{grant_spelt}
use Rattle.sr_parse_grammar.proofs.Triggered.{trigger_spelt}
use Rattle.sr_parse_grammar.proofs.Optioned.{option_spelt}

only_spelt : (o : Bool) → Spelt IsOnly o (words_if o (codes "ONLY"))
only_spelt true ps after h = (key_symbol key.Only ∷ after, phrase_says (codes "ONLY") key.Only [] refl h, refl)
only_spelt false ps after h = (after, h, refl)

passthrough_spelt : (p : Passthrough) → IsNormalPassthrough p → Spelt (IsBehind key.Passthrough IsPassthrough) p (passthrough_pieces p)
unfolding passthrough_pieces
passthrough_spelt p n ps after h =
    let u = listed_spelt IsName IsPlain name_pieces name_spelt p.users n.users ps after h in
    let f = phrase_says (codes "FOR") key.For [] refl u.1 in
    let o = ahead IsOnly p.only (words_if p.only (codes "ONLY")) (only_spelt p.only) (word (codes "FOR") ∷ listed name_pieces p.users) ps (key_symbol key.For ∷ u.0) f in (
      key_symbol key.Passthrough ∷ o.0,
      phrase_says (codes "PASSTHROUGH") key.Passthrough [] refl o.1,
      (o.0, refl, record { for_ = key_symbol key.For ∷ u.0; users_ = u.0; only = o.2; for = refl; users = u.2 }),
    )

dml_spelt : (d : Dml) → IsNormalDml d → Spelt (λ before d after. IsStatement before (stmt.Dml d) after) d (dml_pieces d)
unfolding dml_pieces
dml_spelt (dml.Insert i) p ps after h = let t = insert_spelt i p ps after h in (t.0, t.1, (forms.Insert, (t.2.0, t.2.1, (i, refl, t.2.2))))
dml_spelt (dml.Update u) p ps after h = let t = update_spelt u p ps after h in (t.0, t.1, (forms.Update, (t.2.0, t.2.1, (u, refl, t.2.2))))
dml_spelt (dml.Delete d) p ps after h = let t = delete_spelt d p ps after h in (t.0, t.1, (forms.Delete, (t.2.0, t.2.1, (d, refl, t.2.2))))

pub statement_spelt : (s : Stmt) → IsNormal s → Spelt IsStatement s (stmt_pieces s)
unfolding stmt_pieces
statement_spelt (stmt.CreateTable c) p ps after h = let t = table_spelt c p ps after h in (t.0, t.1, (forms.CreateTable, (t.2.0, t.2.1, (c, refl, t.2.2))))
statement_spelt (stmt.DropTable n) p ps after h =
    let x = name_spelt n p ps after h in
    (key_symbol key.Drop ∷ key_symbol key.Table ∷ x.0, phrase_says (codes "DROP TABLE") key.Drop (key.Table ∷ []) refl x.1, (forms.DropTable, (x.0, refl, (n, refl, x.2))))
statement_spelt (stmt.CreatePublication c) p ps after h = let t = publication_spelt c p ps after h in (t.0, t.1, (forms.CreatePublication, (t.2.0, t.2.1, (c, refl, t.2.2))))
statement_spelt (stmt.DropPublication n) p ps after h =
    let x = name_spelt n p ps after h in
    (key_symbol key.Drop ∷ key_symbol key.Publication ∷ x.0, phrase_says (codes "DROP PUBLICATION") key.Drop (key.Publication ∷ []) refl x.1, (forms.DropPublication, (x.0, refl, (n, refl, x.2))))
statement_spelt (stmt.GrantRemote g) p ps after h = let t = grant_spelt (codes "GRANT REMOTE TO") key.Remote refl g p ps after h in (t.0, t.1, (forms.GrantRemote, (t.2.0, t.2.1, (g, refl, t.2.2))))
statement_spelt (stmt.GrantConsolidate g) p ps after h = let t = grant_spelt (codes "GRANT CONSOLIDATE TO") key.Consolidate refl g p ps after h in (t.0, t.1, (forms.GrantConsolidate, (key_symbol key.Consolidate ∷ t.2.0, t.2.1, (g, refl, (t.2.0, refl, t.2.2)))))
statement_spelt (stmt.CreateSubscription r) p ps after h = let t = subscription_spelt (codes "CREATE SUBSCRIPTION TO") key.Create refl r p ps after h in (t.0, t.1, (forms.CreateSubscription, (t.2.0, t.2.1, (r, refl, t.2.2))))
statement_spelt (stmt.StartSubscription r) p ps after h = let t = subscription_spelt (codes "START SUBSCRIPTION TO") key.Start refl r p ps after h in (t.0, t.1, (forms.StartSubscription, (t.2.0, t.2.1, (r, refl, t.2.2))))
statement_spelt (stmt.StopSubscription r) p ps after h = let t = subscription_spelt (codes "STOP SUBSCRIPTION TO") key.Stop refl r p ps after h in (t.0, t.1, (forms.StopSubscription, (t.2.0, t.2.1, (r, refl, t.2.2))))
statement_spelt (stmt.Synchronize r) p ps after h = let t = subscription_spelt (codes "SYNCHRONIZE SUBSCRIPTION TO") key.Synchronize refl r p ps after h in (t.0, t.1, (forms.Synchronize, (t.2.0, t.2.1, (r, refl, t.2.2))))
statement_spelt (stmt.DropSubscription r) p ps after h = let t = subscription_spelt (codes "DROP SUBSCRIPTION TO") key.Drop refl r p ps after h in (t.0, t.1, (forms.DropSubscription, (t.2.0, t.2.1, (r, refl, t.2.2))))
statement_spelt (stmt.CreateTrigger c) p ps after h = let t = trigger_spelt c p ps after h in (t.0, t.1, (forms.CreateTrigger, (t.2.0, t.2.1, (c, refl, t.2.2))))
statement_spelt (stmt.DropTrigger n) p ps after h =
    let x = name_spelt n p ps after h in
    (key_symbol key.Drop ∷ key_symbol key.Trigger ∷ x.0, phrase_says (codes "DROP TRIGGER") key.Drop (key.Trigger ∷ []) refl x.1, (forms.DropTrigger, (x.0, refl, (n, refl, x.2))))
statement_spelt (stmt.SetOption o) p ps after h = let t = option_spelt o p ps after h in (t.0, t.1, (forms.SetOption, (t.2.0, t.2.1, (o, refl, t.2.2))))
statement_spelt (stmt.Dml d) p ps after h = dml_spelt d p ps after h
statement_spelt (stmt.Select s) p ps after h = let t = select_spelt s p ps after h in (t.0, t.1, (forms.Select, (t.2.0, t.2.1, (s, refl, t.2.2))))
statement_spelt stmt.Commit p ps after h = (key_symbol key.Commit ∷ after, phrase_says (codes "COMMIT") key.Commit [] refl h, (forms.Commit, (after, refl, (tt, refl, inl refl))))
statement_spelt stmt.Rollback p ps after h = (key_symbol key.Rollback ∷ after, phrase_says (codes "ROLLBACK") key.Rollback [] refl h, (forms.Rollback, (after, refl, (tt, refl, inl refl))))
statement_spelt (stmt.Passthrough q) p ps after h = let t = passthrough_spelt q p ps after h in (t.0, t.1, (forms.Passthrough, (t.2.0, t.2.1, (q, refl, t.2.2))))
statement_spelt stmt.PassthroughStop p ps after h =
    (key_symbol key.Passthrough ∷ key_symbol key.Stop ∷ after, phrase_says (codes "PASSTHROUGH STOP") key.Passthrough (key.Stop ∷ []) refl h, (forms.PassthroughStop, (after, refl, (tt, refl, refl))))

-- the printed text of a statement spells it
pub printed-is_written : (s : Stmt) → IsNormal s → IsWritten (printed s) (s ∷ [])
printed-is_written s p =
    let x = statement_spelt s p [] [] Says-end in
    let all : List Piece = stmt_pieces s in
    let text : printed s ≡ rendered true all = put_all-text blank all in
    let lexes : Lexes (rendered true all) x.0 = subst (λ (pieces : List Piece). Lexes (rendered true pieces) x.0) (append-nil all) x.1.lexes in
    let found = tokens_of (printed s) x.0 (subst (λ (t : List ℕ). Lexes t x.0) (sym text) lexes) in
    (found.0, found.1, (x.0, found.2, stated s start x.2))
