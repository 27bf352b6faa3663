use Rattle.std.proofs.Common.{◌≡◌, ℕ, List, ◌∷◌, length, take, drop, Ok, sym, ap, subst, ◌∙◌}
use Rattle.std.proofs.lemmas.Bool.{not-false}
use Rattle.sr_base.specs.Fields.{name_at, IsName}
use Rattle.sr_logform.proofs.Naming.{named_there, same_bytes}
use Rattle.sr_logform.proofs.field_changes.behind_name.Goals as goal

pub returns : goal.returns
returns c =
    let name = c.args.name.now in
    let rest = c.in_ok-size.rest.now in
    let same : c.bytes-letters.result.now ≡ name = c.bytes-letters.ensures.bytes in
    let is : IsName name = subst IsName same c.bytes-letters.ensures.name in
    let size : c.in_ok-size.size.now ≡ length name = c.if-size-length.false ∙ ap length same in
    let prefix : take (length name) rest ≡ name = ap (λ (k : ℕ). take k rest) (sym (ap length same)) ∙ sym c.split_at.ensures.front ∙ same_bytes c.split_at.result.0.now c.bytes-letters.result.now (not-false _ (sym c.ne.ensures ∙ c.if-ne.false)) ∙ same in
    let behind : c.split_at.result.1.now ≡ drop (length name) rest = c.split_at.ensures.back ∙ ap (λ (k : ℕ). drop k rest) (ap length same) in
    let bytes : c.args.bytes.now ≡ length name ∷ rest = c.in_ok-size.ensures.cases.0 ∙ ap (λ (k : ℕ). k ∷ rest) size in
    record { behind = rw (bytes, behind) (named_there name rest is prefix) }
