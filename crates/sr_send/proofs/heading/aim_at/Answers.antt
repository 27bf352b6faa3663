use Rattle.std.proofs.Common.{◌≡◌, ap, ◌∙◌}
use Rattle.sr_base.specs.Values.{offset_from}
use Rattle.sr_book.specs.Entries.{Name}
use Rattle.sr_catalog_schema.specs.Catalogs.{Lists}
use Rattle.sr_send.specs.PutFiles.{head_of, address_in}
use Rattle.sr_send.proofs.Heads.{good_at}
use Rattle.sr_send.proofs.heading.aim_at.Goals as goal

pub returns-in_err-head-clause-good : goal.returns-in_err-head-clause-good
returns-in_err-head-clause-good c =
    good_at c.args.db.now c.args.user.now c.args.book.now c.args.length c.args.ask c.publisher-publisher.result.now (c.publisher-publisher.ensures.publisher ∙ ap (λ (l : Lists). l.publisher) c.base_catalog.ensures.catalog) c.requires.ask
    c.are_short.ensures.publisher c.are_short.ensures.user c.requires.limit.least c.requires.limit.most

pub returns-in_err-address-clause-good : goal.returns-in_err-address-clause-good
returns-in_err-address-clause-good c =
    good_at c.args.db.now c.args.user.now c.args.book.now c.args.length c.args.ask c.publisher-publisher.result.now (c.publisher-publisher.ensures.publisher ∙ ap (λ (l : Lists). l.publisher) c.base_catalog.ensures.catalog) c.requires.ask
    c.are_short.ensures.publisher c.are_short.ensures.user c.requires.limit.least c.requires.limit.most

pub returns-clause-aim : goal.returns-clause-aim
returns-clause-aim c =
    let db = c.args.db.now in
    let user = c.args.user.now in
    let book = c.args.book.now in
    let head : c.in_ok-head.head ≡ head_of db.base_catalog.publisher user book c.args.ask =
    c.in_ok-head.ensures.head ∙ ap (λ (n : Name). head_of n user book c.args.ask) (c.publisher-publisher.ensures.publisher ∙ ap (λ (l : Lists). l.publisher) c.base_catalog.ensures.catalog) in
    let address : c.in_ok-address.address ≡ address_in db.catalog user = c.in_ok-address.ensures.address ∙ ap (λ (l : Lists). address_in l user) c.catalog.ensures.catalog in
    λ i. record { head = head i; address = address i; prev = offset_from book.log_sent; count = book.send_count; limit = c.args.length }

pub returns-clause-good : goal.returns-clause-good
returns-clause-good c =
    good_at c.args.db.now c.args.user.now c.args.book.now c.args.length c.args.ask c.publisher-publisher.result.now (c.publisher-publisher.ensures.publisher ∙ ap (λ (l : Lists). l.publisher) c.base_catalog.ensures.catalog) c.requires.ask
    c.are_short.ensures.publisher c.are_short.ensures.user c.requires.limit.least c.requires.limit.most
