-- Dead files that are removed change nothing but the mail.
use Rattle.std.proofs.Common.{◌≡◌, ℕ, true, List, [], ◌∷◌, ◌++◌, map, refl, sym, ap, ◌∙◌, append_assoc}
use Rattle.std.specs.Prelude.{Option, Some, None}
use Rattle.sr_mail.specs.declared.window.Window.{Window}
use Rattle.sr_receive_gather.specs.Bags.{filed_of, Has, IsPartnerMailWhere, partner_mail_of}
use Rattle.sr_receive_gather.specs.MessageFiles.{MessageFile}
use Rattle.sr_receive_gather.specs.Purges.{removals}
use Rattle.sr_receive_gather.specs.Inner.Purges.{files_in}
use Rattle.sr_receive_gather.specs.declared.bag.Filed.{Filed}
use Rattle.sr_receive_gather.specs.declared.bag.PartnerMail.{PartnerMail}
use Rattle.sr_site.specs.Happenings.{Happening, attached, wrote, cut_to, synced, listed, fetched, sent, removed, handed_over, mail_in}
use Rattle.sr_database_meaning.specs.Inner.Events.{AreQuiet}

-- the files of a partner mail are those of the message files
where_are : (message_files : List MessageFile) (dropped_windows : List Window) (partner_mail : Option PartnerMail) → IsPartnerMailWhere message_files dropped_windows partner_mail → files_in partner_mail ≡ map filed_of message_files
where_are message_files dropped_windows None none = ap (λ (ls : List MessageFile). map filed_of ls) (sym none.0)
where_are message_files dropped_windows (Some partner_mail) is = is.files

pub files_are : (bag : List PartnerMail) (user : List ℕ) (message_files : List MessageFile) (dropped_windows : List Window) → Has bag user message_files dropped_windows → files_in (partner_mail_of bag user) ≡ map filed_of message_files
files_are bag user message_files dropped_windows has = where_are message_files dropped_windows (partner_mail_of bag user) has

-- in the mail alone
pub mail_removed : (address : List ℕ) (files : List Filed) (before : List Happening) → mail_in (removals address files before) ≡ removals address files (mail_in before)
mail_removed address [] before = refl
mail_removed address (f ∷ files) before = mail_removed address files (removed address f.name true ∷ before)

-- a removal is quiet
quiet_with : (address name : List ℕ) (more : List Happening) → AreQuiet more → AreQuiet (more ++ removed address name true ∷ [])
quiet_with address name [] are = tt
quiet_with address name (attached n folder done ∷ more) are = absurd are
quiet_with address name (wrote file place bytes done after ∷ more) are = absurd are
quiet_with address name (cut_to file to done after ∷ more) are = absurd are
quiet_with address name (synced file done after ∷ more) are = absurd are
quiet_with address name (listed other folder listing ∷ more) are = quiet_with address name more are
quiet_with address name (fetched other n limit found ∷ more) are = quiet_with address name more are
quiet_with address name (sent other n bytes done ∷ more) are = absurd are
quiet_with address name (removed other n done ∷ more) are = quiet_with address name more are
quiet_with address name (handed_over folders noted ∷ more) are = absurd are

-- what removals add to what happened
pub record AreRemoved (address : List ℕ) (files : List Filed) (before : List Happening) : Type 0 where
  pub more : List Happening
  pub is : removals address files before ≡ more ++ before
  pub quiet : AreQuiet more

pub are_removed : (address : List ℕ) (files : List Filed) (before : List Happening) → AreRemoved address files before
are_removed address [] before = record { more = []; is = refl; quiet = tt }
are_removed address (f ∷ files) before =
    let rest = are_removed address files (removed address f.name true ∷ before) in
    record {
      more = rest.more ++ removed address f.name true ∷ [];
      is = rest.is ∙ sym (append_assoc rest.more (removed address f.name true ∷ []) before);
      quiet = quiet_with address f.name rest.more rest.quiet;
    }
