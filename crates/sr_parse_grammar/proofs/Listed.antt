-- Lists in print spell lists of the grammar.
use Rattle.std.proofs.Common.{List, [], ◌∷◌, ◌++◌, refl, sym, subst, append_assoc}
use Rattle.std.proofs.lemmas.List.{append-nil}
use Rattle.std.specs.List.{AllByRecursion}
use Rattle.sr_ast.specs.Pages.{Piece, close_parenthesis, more_listed, listed, in_row, in_parentheses}
use Rattle.sr_parse_grammar.specs.declared.symbol.Sign.TheVariants as mark
use Rattle.sr_parse_grammar.specs.Symbols.{Symbols, sign, IsSign}
use Rattle.sr_parse_grammar.specs.Listing.{Listed, Row}
use Rattle.sr_parse_grammar.specs.Listing.Listed.{one, more}
use Rattle.sr_parse_grammar.specs.Listing.Row.{none, then}
use Rattle.sr_ast.specs.Normal.{IsSomeOf}
use Rattle.sr_parse_grammar.proofs.Saying.{Says, Spelt, regrouped, comma_says, open_parenthesis_says, close_parenthesis_says}

-- what goes on items that are spelled as a list is
record GoesOn {A : Type 0} (L : Symbols → List A → Symbols → Type 0) (xs : List A) (pieces : List Piece) (after : Symbols) : Type 0 where
  middle : Symbols
  says : Says pieces middle
  goes : (before : Symbols) (prefix : List A) → L before prefix middle → L before (prefix ++ xs) after

-- nothing does
nothing_on : {A : Type 0} (L : Symbols → List A → Symbols → Type 0) (ps : List Piece) (after : Symbols) → Says ps after → GoesOn L [] ps after
nothing_on L ps after h = record { middle = after; says = h; goes = λ before prefix l. subst (λ ys. L before ys after) (sym (append-nil prefix)) l }

module _ {A : Type 0} (X : Symbols → A → Symbols → Type 0) (P : A → Type 0) (f : A → List Piece) (spelt : (x : A) → P x → Spelt X x (f x)) where
  goes_on : (xs : List A) → AllByRecursion P xs → (ps : List Piece) (after : Symbols) → Says ps after → GoesOn (Listed X) xs (more_listed f xs ++ ps) after
  goes_on [] all ps after h = nothing_on (Listed X) ps after h
  goes_on (x ∷ xs) all ps after h =
      let rest = goes_on xs all.1 ps after h in
      let item = spelt x all.0 (more_listed f xs ++ ps) rest.middle rest.says in
      record {
        middle = sign mark.Comma ∷ item.0;
        says = comma_says (regrouped (f x) (more_listed f xs) ps item.1);
        goes = λ before prefix l. subst (λ (ys : List A). Listed X before ys after) (append_assoc prefix (x ∷ []) xs) (rest.goes before (prefix ++ x ∷ []) (more l refl item.2));
      }

  pub listed_spelt : (xs : List A) → IsSomeOf P xs → Spelt (Listed X) xs (listed f xs)
  listed_spelt [] all ps after h = absurd all
  listed_spelt (x ∷ xs) all ps after h =
      let rest = goes_on xs all.1 ps after h in
      let item = spelt x all.0 (more_listed f xs ++ ps) rest.middle rest.says in
      (item.0, regrouped (f x) (more_listed f xs) ps item.1, rest.goes item.0 (x ∷ []) (one item.2))

module _ {A : Type 0} (X : Symbols → A → Symbols → Type 0) (P : A → Type 0) (f : A → List Piece) (spelt : (x : A) → P x → Spelt X x (f x)) where
  stands_on : (xs : List A) → AllByRecursion P xs → (ps : List Piece) (after : Symbols) → Says ps after → GoesOn (Row X) xs (in_row f xs ++ ps) after
  stands_on [] all ps after h = nothing_on (Row X) ps after h
  stands_on (x ∷ xs) all ps after h =
      let rest = stands_on xs all.1 ps after h in
      let item = spelt x all.0 (in_row f xs ++ ps) rest.middle rest.says in
      record {
        middle = item.0;
        says = regrouped (f x) (in_row f xs) ps item.1;
        goes = λ before prefix l. subst (λ (ys : List A). Row X before ys after) (append_assoc prefix (x ∷ []) xs) (rest.goes before (prefix ++ x ∷ []) (then l item.2));
      }

  pub row_spelt : (xs : List A) → AllByRecursion P xs → Spelt (Row X) xs (in_row f xs)
  row_spelt xs all ps after h = let rest = stands_on xs all ps after h in (rest.middle, rest.says, rest.goes rest.middle [] none)

-- what stands in parentheses
pub record Enclosed {A : Type 0} (X : Symbols → A → Symbols → Type 0) (x : A) (pieces : List Piece) (after : Symbols) : Type 0 where
  pub inside : Symbols
  pub close : Symbols
  pub says : Says pieces (sign mark.Open ∷ inside)
  pub is : X inside x close
  pub closed : IsSign close mark.Close after

pub enclosed : {A : Type 0} (X : Symbols → A → Symbols → Type 0) (x : A) (pieces : List Piece) → Spelt X x pieces → (ps : List Piece) (after : Symbols) → Says ps after → Enclosed X x (in_parentheses pieces ++ ps) after
enclosed X x pieces spelt ps after h =
    let item = spelt (close_parenthesis ∷ ps) (sign mark.Close ∷ after) (close_parenthesis_says h) in
    record { inside = item.0; close = sign mark.Close ∷ after; says = open_parenthesis_says (regrouped pieces (close_parenthesis ∷ []) ps item.1); is = item.2; closed = refl }

pub all_of : {A : Type 0} (P : A → Type 0) (xs : List A) → IsSomeOf P xs → AllByRecursion P xs
all_of P [] h = tt
all_of P (x ∷ xs) h = h
