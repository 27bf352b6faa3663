-- What holds where an answer is a refusal, or is none.
use Rattle.std.proofs.Common.{◌≡◌, true, Result, Ok, Err, OnOk, refl, sym, subst}
use Rattle.std.specs.Prelude.{is_ok, IfErr, IsErrAnd}

pub on_ok : {A E : Type 0} {P : Type 0} (r : Result A E) → (is_ok r ≡ true → P) → OnOk r P
on_ok (Ok x) f = f refl
on_ok (Err e) f = tt

pub ok_here : {A E : Type 0} {P : Type 0} (r : Result A E) → OnOk r P → is_ok r ≡ true → P
ok_here (Ok x) h fine = h
ok_here (Err e) h fine = cc

-- what holds of a fault holds of the answer that is it
pub if_fault : {T F : Type 0} (holds : F → Type 0) (fault : F) (r : Result T F) → IsErrAnd r (λ e. e ≡ fault) → holds fault → IfErr r holds
if_fault holds fault (Ok x) is so = tt
if_fault holds fault (Err e) is so = subst holds (sym is) so

pub ok_map : {A E : Type 0} {P Q : Type 0} (r : Result A E) → (P → Q) → OnOk r P → OnOk r Q
ok_map (Ok x) f h = f h
ok_map (Err e) f h = tt
