-- Deeds that are done one after the other.
use Rattle.std.proofs.Common.{◌≡◌, List, [], ◌∷◌, ◌++◌, ap, ◌∙◌}
use Rattle.test_lives.specs.Inner.Deeds.{beginning_runs, conflict_runs, fragment_runs, leaving_runs, loss_runs, paper_runs, whose_runs}
use Rattle.test_lives.specs.declared.place.Place.{Place}
use Rattle.test_lives.specs.declared.place.Place.TheVariants.{Above}

-- the runs of each part come behind those of the parts before
behind : (before now more : List Place) (put : List Place) → now ≡ before ++ more → before ≡ put → now ≡ put ++ more
behind before now more put is same = is ∙ ap (λ (l : List Place). l ++ more) same

pub all_of_them : (begun come clashed left regained tabled written lives : List Place) → begun ≡ [] → come ≡ begun ++ beginning_runs → clashed ≡ come ++ conflict_runs
    → left ≡ clashed ++ leaving_runs → regained ≡ left ++ loss_runs → tabled ≡ regained ++ paper_runs → written ≡ tabled ++ Above ∷ [] → lives ≡ written ++ fragment_runs → lives ≡ whose_runs
all_of_them begun come clashed left regained tabled written lives none first second third fourth fifth sixth seventh =
    behind written lives fragment_runs _ seventh
    (behind tabled written (Above ∷ []) _ sixth
    (behind regained tabled paper_runs _ fifth
    (behind left regained loss_runs _ fourth (behind clashed left leaving_runs _ third (behind come clashed conflict_runs _ second (behind begun come beginning_runs _ first none))))))
