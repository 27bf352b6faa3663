use Rattle.std.proofs.Common.{◌≡◌, List, ℕ, ◌++◌, length, codes, sym, ap, subst, ◌∙◌}
use Rattle.std.proofs.lemmas.List.{append-nil, nil_from_length}
use Rattle.std.specs.Fmt.{decimal}
use Rattle.sr_base.specs.declared.value.Value.{Value as Cell}
use Rattle.sr_session_script.specs.Acts.{line}
use Rattle.sr_session_script.proofs.Listings.{listing_text, rows_text}
use Rattle.sr_session_script.proofs.lines.listing_text.Goals as goal

pub returns : goal.returns
returns c =
    let rows = c.args.rows.now in
    let all : c.rows.text.items ≡ rows_text rows =
    sym (append-nil c.rows.text.items) ∙ subst (λ (left : List (List Cell)). c.rows.text.items ++ rows_text left ≡ rows_text rows) (nil_from_length c.rows.left.now c.in_default.ensures.cases) c.rows.invariant in
    record { text = λ place. c.in_ok-push_count.ensures.ok ∙ ap (λ (text : List ℕ). text ++ line (decimal (length rows) ++ codes " rows")) all ∙ sym (listing_text place rows) }
