-- Puts of which none failed are those of the trace, each of them done.
use Rattle.std.proofs.Common.{◌≡◌, true, false, List, [], ◌∷◌, ◌++◌, sym, subst, ◌∙◌, append_assoc}
use Rattle.std.specs.List.{AllByRecursion}
use Rattle.std.proofs.lemmas.List.{append_cancel_right}
use Rattle.sr_mail_cut.proofs.Lists.{AllByRecursion-back, AllByRecursion-prefix}
use Rattle.sr_send.specs.Posting.{PutAlone, PutSucceeded, NoneFailed}
use Rattle.sr_site.specs.Happenings.{Happening, sent}
use Rattle.sr_database_meaning.specs.Events.{Event, commit, put}
use Rattle.sr_agent.specs.Deliveries.{with_puts}

-- puts are the newest of what happened
alone_grows : (events : List Event) (before now : List Happening) → PutAlone events before now → (later : List Happening) × (now ≡ later ++ before)
alone_grows [] before now same = ([], same)
alone_grows (commit r ∷ events) before now alone = alone_grows events before now alone
alone_grows (put address name bytes ∷ events) before now (done, alone) =
    let more = alone_grows events (sent address name bytes done ∷ before) now alone in
    (more.0 ++ sent address name bytes done ∷ [], more.1 ∙ sym (append_assoc more.0 (sent address name bytes done ∷ []) before))

-- what came after a put, and the put itself
put_last : (events : List Event) (step : Happening) (before now more : List Happening) → PutAlone events (step ∷ before) now → now ≡ more ++ before → (later : List Happening) × (now ≡ later ++ step ∷ before) × (more ≡ later ++ step ∷ [])
put_last events step before now more alone is =
    let grown = alone_grows events (step ∷ before) now alone in
    (grown.0, grown.1, append_cancel_right more (grown.0 ++ step ∷ []) before (sym is ∙ grown.1 ∙ sym (append_assoc grown.0 (step ∷ []) before)))

all_done : (events : List Event) (before now more : List Happening) → PutAlone events before now → now ≡ more ++ before → AllByRecursion PutSucceeded more → now ≡ with_puts events before
all_done [] before now more same is done = same
all_done (commit r ∷ events) before now more alone is done = all_done events before now more alone is done
all_done (put address name bytes ∷ events) before now more (true, alone) is done =
    let last = put_last events (sent address name bytes true) before now more alone is in
    all_done events (sent address name bytes true ∷ before) now last.0 alone last.1
    (AllByRecursion-prefix PutSucceeded last.0 (sent address name bytes true ∷ []) (subst (λ (l : List Happening). AllByRecursion PutSucceeded l) last.2 done))
all_done (put address name bytes ∷ events) before now more (false, alone) is done =
    let last = put_last events (sent address name bytes false) before now more alone is in
    let no : AllByRecursion PutSucceeded (sent address name bytes false ∷ []) = AllByRecursion-back PutSucceeded last.0 (sent address name bytes false ∷ []) (subst (λ (l : List Happening). AllByRecursion PutSucceeded l) last.2 done) in
    let wrong : false ≡ true = no.0 in
    absurd (cc)

pub puts_done : (events : List Event) (before now : List Happening) → PutAlone events before now → NoneFailed before now → now ≡ with_puts events before
puts_done events before now alone none = all_done events before now none.more alone none.is none.done
