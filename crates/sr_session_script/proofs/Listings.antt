-- The lines of rows.
use Rattle.std.proofs.Common.{◌≡◌, ℕ, List, [], ◌∷◌, ◌++◌, map, length, codes, sym, ap, ◌∙◌, append_assoc}
use Rattle.std.proofs.lemmas.List.{append-nil}
use Rattle.std.specs.Fmt.{decimal}
use Rattle.sr_base.specs.declared.value.Value.{Value as Cell}
use Rattle.sr_session_script.specs.Acts.{line, row, rows, row_text, text_from}
use Rattle.sr_session_script.specs.Meaning.{listing}

-- the lines of rows alone
abbrev pub rows_text : List (List Cell) → List ℕ
rows_text [] = []
rows_text (values ∷ found) = line (row_text values) ++ rows_text found

text_of_rows : (place count : ℕ) (found : List (List Cell)) → text_from place (map row found ++ rows count ∷ []) ≡ rows_text found ++ line (decimal count ++ codes " rows")
text_of_rows place count [] = append-nil (line (decimal count ++ codes " rows"))
text_of_rows place count (values ∷ found) = ap (λ text. line (row_text values) ++ text) (text_of_rows place count found) ∙ sym (append_assoc (line (row_text values)) (rows_text found) _)

pub listing_text : (place : ℕ) (found : List (List Cell)) → text_from place (listing found) ≡ rows_text found ++ line (decimal (length found) ++ codes " rows")
listing_text place found = text_of_rows place (length found) found

pub rows_text-more : (done : List (List Cell)) (values : List Cell) → rows_text (done ++ values ∷ []) ≡ rows_text done ++ line (row_text values)
rows_text-more [] values = append-nil (line (row_text values))
rows_text-more (one ∷ done) values = ap (λ text. line (row_text one) ++ text) (rows_text-more done values) ∙ sym (append_assoc (line (row_text one)) (rows_text done) _)

pub ruleset listings = (listing_text, rows_text-more)
