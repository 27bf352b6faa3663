-- What happened to the mail, one thing behind another.
use Rattle.std.proofs.Common.{◌≡◌, Bool, true, false, List, [], ◌∷◌, ◌++◌, Option, Some, None, Ok, refl, sym, ap, ◌∙◌, subst, append_assoc}
use Rattle.std.specs.List.{AllByRecursion}
use Rattle.std.proofs.lemmas.List.{append_cancel_right}
use Rattle.sr_book.specs.Entries.{Name}
use Rattle.sr_mail_cut.proofs.Lists.{AllByRecursion-back, AllByRecursion-prefix}
use Rattle.sr_database_history.specs.Folds.{books_of}
use Rattle.sr_database_history.specs.Recorded.{Recorded}
use Rattle.sr_receive.specs.Acts.{ReceiveAct, dropped, torn, begun, took, mail_after}
use Rattle.sr_receive_gather.specs.Fetches.{Pairs, refetch, refetches}
use Rattle.sr_receive_gather.specs.Gathers.{fetches}
use Rattle.sr_receive_gather.specs.MessageFiles.{FetchedFile, fetch_of}
use Rattle.sr_receive_gather.specs.Purges.{dead, removals}
use Rattle.sr_receive_gather.specs.declared.bag.Filed.{Filed}
use Rattle.sr_msgform.specs.Messages.{message_spelling}
use Rattle.sr_site.specs.Happenings.{Happening, attached, wrote, cut_to, synced, listed, fetched, sent, removed, handed_over, mail_in, Grows}
use Rattle.sr_site.specs.Inner.Growing.{all_of_it, more_than}
use Rattle.sr_database_meaning.specs.Events.{Event, commit, put}
use Rattle.sr_agent.specs.Deliveries.{with_puts}
use Rattle.sr_agent.specs.Runs.{mail_of}
use Rattle.sr_agent.specs.PartnerPasses.{Gathering, PartnerPass, after_partner_passes, files_of, partner_pass_entries, partner_pass_mail, partner_pass_removals, partner_passes_mail}

-- ---- what happened more stands before what happened then

pub refetches_on : (address : Name) (pairs : Pairs) (more before : List Happening) → refetches address pairs (more ++ before) ≡ refetches address pairs more ++ before
refetches_on address [] more before = refl
refetches_on address (p ∷ pairs) more before = refetches_on address pairs (refetch address p.0 (Some (message_spelling p.1)) ∷ more) before

pub acts_mail_on : (address : Name) (acts : List ReceiveAct) (more before : List Happening) → mail_after address acts (more ++ before) ≡ mail_after address acts more ++ before
acts_mail_on address [] more before = refl
acts_mail_on address (dropped w pairs piece found ∷ earlier) more before =
    ap (λ (l : List Happening). refetch address piece found ∷ l)
    (ap (refetches address pairs) (acts_mail_on address earlier more before) ∙ refetches_on address pairs (mail_after address earlier more) before)
acts_mail_on address (torn w pairs ∷ earlier) more before =
    ap (refetches address pairs) (acts_mail_on address earlier more before) ∙ refetches_on address pairs (mail_after address earlier more) before
acts_mail_on address (begun w pairs txs ∷ earlier) more before =
    ap (refetches address pairs) (acts_mail_on address earlier more before) ∙ refetches_on address pairs (mail_after address earlier more) before
acts_mail_on address (took t dones ∷ earlier) more before = acts_mail_on address earlier more before

removals_on : (address : Name) (files : List Filed) (more before : List Happening) → removals address files (more ++ before) ≡ removals address files more ++ before
removals_on address [] more before = refl
removals_on address (f ∷ files) more before = removals_on address files (removed address f.name true ∷ more) before

pub fetches_on : (address : Name) (fetched_files : List FetchedFile) (more before : List Happening) → fetches address fetched_files (more ++ before) ≡ fetches address fetched_files more ++ before
fetches_on address [] more before = refl
fetches_on address (came ∷ fetched_files) more before = fetches_on address fetched_files (fetch_of address came ∷ more) before

partner_pass_removals_on : (publisher : Name) (es : List Recorded) (fetched_files : List FetchedFile) (purge : Bool) (t : PartnerPass) (more before : List Happening)
    → partner_pass_removals publisher es fetched_files purge t (more ++ before) ≡ partner_pass_removals publisher es fetched_files purge t more ++ before
partner_pass_removals_on publisher es fetched_files true t more before = removals_on publisher (dead (books_of t.user (es ++ partner_pass_entries publisher es fetched_files t)) (files_of fetched_files t)) more before
partner_pass_removals_on publisher es fetched_files false t more before = refl

partner_pass_mail_on : (publisher : Name) (es : List Recorded) (fetched_files : List FetchedFile) (purge : Bool) (t : PartnerPass) (more before : List Happening)
    → partner_pass_mail publisher es fetched_files purge t (more ++ before) ≡ partner_pass_mail publisher es fetched_files purge t more ++ before
partner_pass_mail_on publisher es fetched_files purge t more before =
    ap (partner_pass_removals publisher es fetched_files purge t) (acts_mail_on publisher t.acts more before)
    ∙ partner_pass_removals_on publisher es fetched_files purge t (mail_after publisher t.acts more) before

pub partner_passes_mail_on : (publisher : Name) (es : List Recorded) (fetched_files : List FetchedFile) (purge : Bool) (partner_passes : List PartnerPass) (more before : List Happening)
    → partner_passes_mail publisher es fetched_files purge partner_passes (more ++ before) ≡ partner_passes_mail publisher es fetched_files purge partner_passes more ++ before
partner_passes_mail_on publisher es fetched_files purge [] more before = refl
partner_passes_mail_on publisher es fetched_files purge (t ∷ earlier) more before =
    ap (partner_pass_mail publisher (after_partner_passes publisher es fetched_files earlier) fetched_files purge t) (partner_passes_mail_on publisher es fetched_files purge earlier more before)
    ∙ partner_pass_mail_on publisher (after_partner_passes publisher es fetched_files earlier) fetched_files purge t (partner_passes_mail publisher es fetched_files purge earlier more) before

pub mail_of_on : (publisher : Name) (gathered : Option Gathering) (more before : List Happening) → mail_of publisher gathered (more ++ before) ≡ mail_of publisher gathered more ++ before
mail_of_on publisher None more before = refl
mail_of_on publisher (Some g) more before = fetches_on publisher g.fetched_files (listed publisher g.folder (Ok g.listing) ∷ more) before

pub puts_on : (events : List Event) (more before : List Happening) → with_puts events (more ++ before) ≡ with_puts events more ++ before
puts_on [] more before = refl
puts_on (commit r ∷ events) more before = puts_on events more before
puts_on (put address name bytes ∷ events) more before = puts_on events (sent address name bytes true ∷ more) before

-- ---- so what holds of each holds of each before

module _ (P : Happening → Type 0) where
  pub under_partner_pass : (publisher : Name) (es : List Recorded) (fetched_files : List FetchedFile) (purge : Bool) (t : PartnerPass) (before : List Happening) → AllByRecursion P (partner_pass_mail publisher es fetched_files purge t before)
      → AllByRecursion P (mail_after publisher t.acts before)
  under_partner_pass publisher es fetched_files purge t before all =
      AllByRecursion-back P (partner_pass_removals publisher es fetched_files purge t []) (mail_after publisher t.acts before)
      (subst (λ (l : List Happening). AllByRecursion P l) (partner_pass_removals_on publisher es fetched_files purge t [] (mail_after publisher t.acts before)) all)

  pub under_partner_passes : (publisher : Name) (es : List Recorded) (fetched_files : List FetchedFile) (purge : Bool) (partner_passes : List PartnerPass) (before : List Happening)
      → AllByRecursion P (partner_passes_mail publisher es fetched_files purge partner_passes before) → AllByRecursion P before
  under_partner_passes publisher es fetched_files purge partner_passes before all =
      AllByRecursion-back P (partner_passes_mail publisher es fetched_files purge partner_passes []) before
      (subst (λ (l : List Happening). AllByRecursion P l) (partner_passes_mail_on publisher es fetched_files purge partner_passes [] before) all)

  -- the mail of acts apart from what happened before
  pub acts_parts : (address : Name) (acts : List ReceiveAct) (before : List Happening) → AllByRecursion P (mail_after address acts before)
      → AllByRecursion P (mail_after address acts []) × AllByRecursion P before
  acts_parts address acts before all =
      let parts : AllByRecursion P (mail_after address acts [] ++ before) = subst (λ (l : List Happening). AllByRecursion P l) (acts_mail_on address acts [] before) all in
      (AllByRecursion-prefix P (mail_after address acts []) before parts, AllByRecursion-back P (mail_after address acts []) before parts)

  pub under_puts : (events : List Event) (before : List Happening) → AllByRecursion P (with_puts events before) → AllByRecursion P before
  under_puts events before all =
      AllByRecursion-back P (with_puts events []) before (subst (λ (l : List Happening). AllByRecursion P l) (puts_on events [] before) all)

-- ---- the mail alone

mail-append : (more before : List Happening) → mail_in (more ++ before) ≡ mail_in more ++ mail_in before
mail-append [] before = refl
mail-append (attached name folder done ∷ more) before = mail-append more before
mail-append (wrote file place bytes done after ∷ more) before = mail-append more before
mail-append (cut_to file to done after ∷ more) before = mail-append more before
mail-append (synced file done after ∷ more) before = mail-append more before
mail-append (listed address folder listing ∷ more) before = ap (λ (l : List Happening). listed address folder listing ∷ l) (mail-append more before)
mail-append (fetched address name limit found ∷ more) before = ap (λ (l : List Happening). fetched address name limit found ∷ l) (mail-append more before)
mail-append (sent address name bytes done ∷ more) before = ap (λ (l : List Happening). sent address name bytes done ∷ l) (mail-append more before)
mail-append (removed address name done ∷ more) before = ap (λ (l : List Happening). removed address name done ∷ l) (mail-append more before)
mail-append (handed_over folders noted ∷ more) before = ap (λ (l : List Happening). handed_over folders noted ∷ l) (mail-append more before)

all_mail : (P : Happening → Type 0) (steps : List Happening) → AllByRecursion P steps → AllByRecursion P (mail_in steps)
all_mail P [] all = tt
all_mail P (attached name folder done ∷ steps) all = all_mail P steps all.1
all_mail P (wrote file place bytes done after ∷ steps) all = all_mail P steps all.1
all_mail P (cut_to file to done after ∷ steps) all = all_mail P steps all.1
all_mail P (synced file done after ∷ steps) all = all_mail P steps all.1
all_mail P (listed address folder listing ∷ steps) all = (all.0, all_mail P steps all.1)
all_mail P (fetched address name limit found ∷ steps) all = (all.0, all_mail P steps all.1)
all_mail P (sent address name bytes done ∷ steps) all = (all.0, all_mail P steps all.1)
all_mail P (removed address name done ∷ steps) all = (all.0, all_mail P steps all.1)
all_mail P (handed_over folders noted ∷ steps) all = (all.0, all_mail P steps all.1)

-- ---- what happened since

-- these happened since, and so it is of each of them
pub record AllSince (P : Happening → Type 0) (before now : List Happening) : Type 0 where
  pub more : List Happening
  pub is : now ≡ more ++ before
  pub each : AllByRecursion P more

pub mail_since : (P : Happening → Type 0) (before now more : List Happening) → now ≡ more ++ before → AllByRecursion P more → AllSince P (mail_in before) (mail_in now)
mail_since P before now more is each = record { more = mail_in more; is = ap mail_in is ∙ mail-append more before; each = all_mail P more each }

-- by a moment between, both parts
pub since_parts : (P : Happening → Type 0) (before middle now first second : List Happening) → AllSince P before now → middle ≡ first ++ before → now ≡ second ++ middle
    → AllByRecursion P second × AllByRecursion P first
since_parts P before middle now first second all one two =
    let joined : now ≡ (second ++ first) ++ before = two ∙ ap (λ (l : List Happening). second ++ l) one ∙ sym (append_assoc second first before) in
    let same : all.more ≡ second ++ first = append_cancel_right all.more (second ++ first) before (sym all.is ∙ joined) in
    let each : AllByRecursion P (second ++ first) = subst (λ (l : List Happening). AllByRecursion P l) same all.each in
    (AllByRecursion-prefix P second first each, AllByRecursion-back P second first each)

-- what only grows goes on from what it was
pub record GoesOn (before now : List Happening) : Type 0 where
  pub more : List Happening
  pub is : now ≡ more ++ before

pub goes_on : (before now : List Happening) → Grows before now → GoesOn before now
goes_on before now grows = let all = more_than before now (grows before (all_of_it before)) in record { more = all.0; is = all.1 }

pub grows_on : (before now : List Happening) → Grows before now → GoesOn (mail_in before) (mail_in now)
grows_on before now grows =
    let all = goes_on before now grows in
    record { more = mail_in all.more; is = ap mail_in all.is ∙ mail-append all.more before }

pub no_more : (now : List Happening) → GoesOn now now
no_more now = record { more = []; is = refl }

-- so it is of the mail of acts that were made since
pub acts_since : (P : Happening → Type 0) (address : Name) (acts : List ReceiveAct) (then now : List Happening) → AllSince P then now → GoesOn (mail_after address acts then) now
    → AllByRecursion P (mail_after address acts [])
acts_since P address acts then now since goes =
    let mail : List Happening = mail_after address acts [] in
    let is : now ≡ (goes.more ++ mail) ++ then
    = goes.is ∙ ap (λ (l : List Happening). goes.more ++ l) (acts_mail_on address acts [] then) ∙ sym (append_assoc goes.more mail then) in
    AllByRecursion-back P goes.more mail (since_parts P then then now [] (goes.more ++ mail) since refl is).0
