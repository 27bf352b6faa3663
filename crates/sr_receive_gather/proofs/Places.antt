-- The partner mail of a user, by its place.
use Rattle.std.proofs.Common.{◌≡◌, ℕ, Bool, true, false, cond, List, [], ◌∷◌, ◌++◌, get_or, Some, bytes_eq, sym, ap, ◌∙◌}
use Rattle.std.proofs.Math.Seq.{get_or-append_seam}
use Rattle.std.specs.List.{AllByRecursion}
use Rattle.sr_receive_gather.specs.Bags.{IsPlaceOf, partner_mail_of}
use Rattle.sr_receive_gather.specs.declared.bag.PartnerMail.{PartnerMail}

found_behind : (prefix : List PartnerMail) (partner_mail : PartnerMail) (behind : List PartnerMail) (user : List ℕ) → AllByRecursion (λ s. bytes_eq s.user user ≡ false) prefix
    → bytes_eq partner_mail.user user ≡ true → partner_mail_of (prefix ++ partner_mail ∷ behind) user ≡ Some partner_mail
found_behind [] partner_mail behind user others his = ap (λ (b : Bool). cond b (Some partner_mail) (partner_mail_of behind user)) his
found_behind (s ∷ prefix) partner_mail behind user others his =
    ap (λ (b : Bool). cond b (Some s) (partner_mail_of (prefix ++ partner_mail ∷ behind) user)) others.0 ∙ found_behind prefix partner_mail behind user others.1 his

-- the partner mail that stands there is his
pub partner_mail_found : (partner_mails : List PartnerMail) (user : List ℕ) (at : ℕ) (place : IsPlaceOf partner_mails user at) → partner_mail_of partner_mails user ≡ Some place.partner_mail
partner_mail_found partner_mails user at place = ap (λ (l : List PartnerMail). partner_mail_of l user) place.parts ∙ found_behind place.prefix place.partner_mail place.behind user place.others place.his

-- what stands at the place of his partner mail is his partner mail
pub partner_mail_there : (partner_mails inside : List PartnerMail) (user : List ℕ) (at : ℕ) (x : PartnerMail) → IsPlaceOf inside user at → inside ≡ partner_mails → x ≡ get_or inside at x
    → partner_mail_of partner_mails user ≡ Some x
partner_mail_there partner_mails inside user at x place same is =
    let stands : x ≡ place.partner_mail =
    is ∙ (λ i. get_or (place.parts i) (place.at_is i) x) ∙ get_or-append_seam place.prefix place.partner_mail place.behind x in
    ap (λ (l : List PartnerMail). partner_mail_of l user) (sym same) ∙ partner_mail_found inside user at place ∙ ap (λ (s : PartnerMail). Some s) (sym stands)
