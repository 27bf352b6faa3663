use Rattle.std.proofs.Common.{◌≡◌, ◌-◌, ℕ, List, length, drop, sym, ◌∙◌, ap, subst}
use Rattle.std.proofs.lemmas.List.{length-drop}
use Rattle.sr_site.specs.Files.{bytes_of}
use Rattle.sr_logfile.specs.declared.head.Head.{Head}
use Rattle.sr_logfile.specs.Inner.Heads.{IsBroken, IsHead, HasWhole}
use Rattle.sr_logfile.proofs.Ends.{has_whole, broken_length}
use Rattle.sr_logfile.proofs.opening.record_end.Goals as goal

pub returns-in-Some-clause-record : goal.returns-in-Some-clause-record
returns-in-Some-clause-record g c told =
    let place : ℕ = c.place_in-place.result in
    let bytes : List ℕ = bytes_of (g.S.Held.seen c.args.site.now).files c.args.file in
    let has = subst (λ (h : Head). IsHead (drop place bytes) h) c.in-Open.is (c.in_ok-head_at.ensures.head told) in
    let long : length (drop place bytes) ≡ c.args.size - place = length-drop place bytes ∙ ap (λ (n : ℕ). n - place) (sym (c.requires.size told)) in
    subst (λ (n : ℕ). HasWhole c.args.position (drop n bytes) c.in-Some.end) c.place_in-place.ensures.place
    (subst (λ (end : ℕ). HasWhole c.args.position (drop place bytes) end) (sym c.in-Some.ensures.1) (has_whole (drop place bytes) c.in-Open.length place c.args.position c.args.size has long c.in-Some.ensures.0))

pub returns-in-None-clause-cause : goal.returns-in-None-clause-cause
returns-in-None-clause-cause g c =
    let place : ℕ = c.place_in-place.result in
    let bytes : List ℕ = bytes_of (g.S.Held.seen c.args.site.now).files c.args.file in (
      c.place_in-place.ensures.place,
      λ told.
          let has = subst (λ (h : Head). IsHead (drop place bytes) h) c.in-Open.is (c.in_ok-head_at.ensures.head told) in
          let long : length (drop place bytes) ≡ c.args.size - place = length-drop place bytes ∙ ap (λ (n : ℕ). n - place) (sym (c.requires.size told)) in
          subst (λ (n : ℕ). IsBroken c.args.position (drop n bytes)) c.place_in-place.ensures.place (broken_length (drop place bytes) c.in-Open.length place c.args.position c.args.size has long c.in-None.ensures),
      c.in_ok-head_at.ensures.steady,
    )
