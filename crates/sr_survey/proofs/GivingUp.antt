-- Why a survey is given up.
use Rattle.std.proofs.Common.{◌≡◌, ℕ, Some, Result, Ok, Err, sym, subst, ◌∙◌}
use Rattle.std.specs.Prelude.{IfErr, IsErrAnd}
use Rattle.sr_logform.specs.declared.entry.Entry.{Entry}
use Rattle.sr_survey.specs.Inner.GivingUp.{IsGivenUpFor}
use Rattle.sr_survey.specs.declared.given_up.GivenUp.{GivenUp}
use Rattle.sr_survey.specs.declared.given_up.GivenUp.TheVariants.{Memory, Places}
use Rattle.sr_survey.specs.declared.survey.Survey.{Survey}

-- no memory is no matter of places
pub for_memory : (why : GivenUp) (old : Survey) (e : Entry) (at : ℕ) → why ≡ Memory → IsGivenUpFor why old e at
for_memory why old e at is = record { places = λ p. let impossible : Memory ≡ Places = sym is ∙ p in cc }

pub for_same : (why other : GivenUp) (old : Survey) (e : Entry) (at : ℕ) → IsGivenUpFor why old e at → Some why ≡ Some other → IsGivenUpFor other old e at
for_same why other old e at is same = let one : why ≡ other = cc in subst (λ (x : GivenUp). IsGivenUpFor x old e at) one is

-- what holds of a reason holds of the answer that is it
pub if_given_up : {T : Type 0} (holds : GivenUp → Type 0) (why : GivenUp) (result : Result T GivenUp) → IsErrAnd result (λ e. e ≡ why) → holds why → IfErr result holds
if_given_up holds why (Ok x) is so = tt
if_given_up holds why (Err e) is so = subst holds (sym is) so
