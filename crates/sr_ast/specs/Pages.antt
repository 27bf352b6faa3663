-- How a statement is laid out in print: pieces, one after the other, with one space between them but where a piece joins.
use Rattle.std.specs.Prelude.{ℕ, Bool, true, false, ◌||◌, cond, List, [], ◌∷◌, ◌++◌, Option, Some, None, fold}

-- a piece: its text, whether no space stands before it, and whether none stands behind it
pub record Piece : Type 0 where
  pub text : List ℕ
  pub joins : Bool
  pub opens : Bool

-- what is printed, and whether the next piece follows it with no space
pub record Print : Type 0 where
  pub text : List ℕ
  pub tight : Bool

-- nothing printed
abbrev pub blank : Print
blank = record { text = []; tight = true }

abbrev pub space : Bool → List ℕ
space tight = cond tight [] (32 ∷ [])

-- one piece more
abbrev pub put : Print → Piece → Print
put print piece = record { text = print.text ++ (space (print.tight || piece.joins) ++ piece.text); tight = piece.opens }

-- all of them
abbrev pub put_all : Print → List Piece → Print
put_all print pieces = fold put print pieces

-- a word, a number, a text or an operator: a space on either side
abbrev pub word : List ℕ → Piece
word text = record { text = text; joins = false; opens = false }

-- ( with a space before it, and ( right behind VARCHAR or an aggregate
abbrev pub open_parenthesis : Piece
open_parenthesis = record { text = 40 ∷ []; joins = false; opens = true }

abbrev pub call_parenthesis : Piece
call_parenthesis = record { text = 40 ∷ []; joins = true; opens = true }

-- ) , ; with no space before them
abbrev pub close_parenthesis : Piece
close_parenthesis = record { text = 41 ∷ []; joins = true; opens = false }

abbrev pub comma : Piece
comma = record { text = 44 ∷ []; joins = true; opens = false }

abbrev pub semicolon : Piece
semicolon = record { text = 59 ∷ []; joins = true; opens = false }

-- . with no space around it
abbrev pub dot : Piece
dot = record { text = 46 ∷ []; joins = true; opens = true }

-- the - of one operand, with no space behind it
abbrev pub dash : Piece
dash = record { text = 45 ∷ []; joins = false; opens = true }

-- a comma before each
abbrev pub more_listed : {A : Type 0} → (A → List Piece) → List A → List Piece
more_listed f [] = []
more_listed f (x ∷ xs) = comma ∷ (f x ++ more_listed f xs)

-- one after the other, with commas between them
abbrev pub listed : {A : Type 0} → (A → List Piece) → List A → List Piece
listed f [] = []
listed f (x ∷ xs) = f x ++ more_listed f xs

-- one after the other
abbrev pub in_row : {A : Type 0} → (A → List Piece) → List A → List Piece
in_row f [] = []
in_row f (x ∷ xs) = f x ++ in_row f xs

-- in parentheses
abbrev pub in_parentheses : List Piece → List Piece
in_parentheses pieces = open_parenthesis ∷ (pieces ++ close_parenthesis ∷ [])

-- behind these words, or nothing
abbrev pub led : {A : Type 0} → List ℕ → (A → List Piece) → Option A → List Piece
led words f None = []
led words f (Some x) = word words ∷ f x
