-- A name whose spelling stands at the front of bytes.
use Rattle.std.proofs.Common.{◌≡◌, ℕ, true, List, ◌∷◌, ◌++◌, length, take, drop, Ok, bytes_eq, sym, ap, subst, ◌∙◌}
use Rattle.std.proofs.lemmas.List.{take-append-drop}
use Rattle.std.proofs.lemmas.Map.Lookups.{exact_bytes}
use Rattle.std.proofs.lemmas.Map.Text.{is_eq-slice_cmp}
use Rattle.std.specs.Cmp.{Equal-is}
use Rattle.sr_base.specs.Order.{name_cmp}
use Rattle.sr_base.specs.Fields.{name_at, IsName}
use Rattle.sr_base.specs.Inner.TextLaws.{name_format}

pub named_there : (name rest : List ℕ) → IsName name → take (length name) rest ≡ name → name_at (length name ∷ rest) ≡ Ok (name, drop (length name) rest)
named_there name rest is prefix =
    let whole : name ++ drop (length name) rest ≡ rest = ap (λ (l : List ℕ). l ++ drop (length name) rest) (sym prefix) ∙ take-append-drop (length name) rest in
    subst (λ (l : List ℕ). name_at (length name ∷ l) ≡ Ok (name, drop (length name) rest)) whole (name_format.again name (drop (length name) rest) is)

pub same_bytes : (s t : List ℕ) → bytes_eq s t ≡ true → s ≡ t
same_bytes s t same = exact_bytes s t ((Equal-is (name_cmp s t)).0 (is_eq-slice_cmp s t ∙ same))
