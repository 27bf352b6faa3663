-- Pieces printed one after the other.
use Rattle.std.proofs.Common.{◌≡◌, List, [], ◌∷◌, ◌++◌, map, refl, ap}
use Rattle.std.proofs.lemmas.List.Sums.{fold-append}
use Rattle.sr_ast.specs.Pages.{Piece, Print, put, put_all, comma, more_listed, listed}
use Rattle.sr_ast.specs.Printing.{term_pieces, expr_pieces}
use Rattle.sr_ast.specs.Exprs.{term_of}
use Rattle.sr_ast.specs.declared.expr.Expr.{Expr}

pub put_all-append : (print : Print) (xs ys : List Piece) → put_all print (xs ++ ys) ≡ put_all (put_all print xs) ys
put_all-append print xs ys = fold-append put print xs ys

pub put_all_push : (print : Print) (xs : List Piece) (x : Piece) → put_all print (xs ++ x ∷ []) ≡ put (put_all print xs) x
put_all_push print xs x = fold-append put print xs (x ∷ [])

pub ruleset steps = (put_all-append, put_all_push, fold-append)

-- a list printed through another view of its items
pub more_listed-map : {A B : Type 0} (f : B → List Piece) (g : A → B) (xs : List A) → more_listed f (map g xs) ≡ more_listed (λ x. f (g x)) xs
more_listed-map f g [] = refl
more_listed-map f g (x ∷ xs) = ap (λ ys. comma ∷ (f (g x) ++ ys)) (more_listed-map f g xs)

pub listed-map : {A B : Type 0} (f : B → List Piece) (g : A → B) (xs : List A) → listed f (map g xs) ≡ listed (λ x. f (g x)) xs
listed-map f g [] = refl
listed-map f g (x ∷ xs) = ap (λ ys. f (g x) ++ ys) (more_listed-map f g xs)

pub rows : (vs : List Expr) → listed term_pieces (map term_of vs) ≡ listed expr_pieces vs
rows vs = listed-map term_pieces term_of vs
