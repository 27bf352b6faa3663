use Rattle.std.proofs.Common.{◌≡◌, List, ◌∷◌, subst, ◌∙◌, bytes_eq}
use Rattle.std.proofs.lemmas.List.{nil_from_length}
use Rattle.sr_receive_gather.specs.declared.bag.PartnerMail.{PartnerMail}
use Rattle.sr_receive_gather.proofs.Bagging.{IsLooking, looking_end, looking_found, looking_more, same_test}
use Rattle.sr_receive_gather.proofs.adding.place_of.Goals as goal

pub returns-then-eq-clause-found : goal.returns-then-eq-clause-found
returns-then-eq-clause-found c =
    let partner_mail = c.in-Some.partner_mail.now in
    let user = c.args.user.now in
    let looking : IsLooking c.args.partner_mails.now user (partner_mail ∷ c.in-Some.rest.now) c.partner_mails.at = subst (λ (l : List PartnerMail). IsLooking c.args.partner_mails.now user l c.partner_mails.at) c.in-Some.ensures.cases.0 c.partner_mails.invariant in
    let test : bytes_eq partner_mail.user user ≡ c.eq.result = same_test partner_mail.user c.bytes.result.now user c.bytes-in-Some.result.now c.eq.result c.bytes.ensures.bytes c.bytes-in-Some.ensures.bytes c.eq.ensures in
    looking_found c.args.partner_mails.now user partner_mail c.in-Some.rest.now c.partner_mails.at (test ∙ c.if-eq.true) looking

pub partner_mails-preserved : goal.partner_mails-preserved
partner_mails-preserved c =
    let partner_mail = c.in-Some.partner_mail.now in
    let user = c.args.user.now in
    let looking : IsLooking c.args.partner_mails.now user (partner_mail ∷ c.in-Some.rest.now) c.partner_mails.at = subst (λ (l : List PartnerMail). IsLooking c.args.partner_mails.now user l c.partner_mails.at) c.in-Some.ensures.cases.0 c.partner_mails.invariant in
    let test : bytes_eq partner_mail.user user ≡ c.eq.result = same_test partner_mail.user c.bytes.result.now user c.bytes-in-Some.result.now c.eq.result c.bytes.ensures.bytes c.bytes-in-Some.ensures.bytes c.eq.ensures in
    looking_more c.args.partner_mails.now user partner_mail c.in-Some.rest.now c.partner_mails.at (test ∙ c.if-eq.false) looking

pub returns-clause-none : goal.returns-clause-none
returns-clause-none c = looking_end c.args.partner_mails.now c.args.user.now c.partner_mails.left.now c.partner_mails.at (nil_from_length _ c.in_default.ensures.cases) c.partner_mails.invariant
