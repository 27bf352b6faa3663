use Rattle.std.proofs.Common.{◌≡◌, ◌∷◌, ◌++◌, [], Option, subst, ap, ◌∙◌}
use Rattle.std.specs.Prelude.{IfSome}
use Rattle.sr_msgform.specs.Messages.{IsMessage, message_spelling}
use Rattle.sr_msgform.specs.declared.message.Message.{Message}
use Rattle.sr_receive_gather.specs.declared.report.Report.TheVariants.{Junk}
use Rattle.sr_receive_gather.proofs.Gatherings.{junk_sorted, placed_sorted}
use Rattle.sr_receive_gather.proofs.MailEnds.{on_ok_map}
use Rattle.sr_receive_gather.proofs.sorting.sort.Goals as goal

pub returns-in_ok-push-in-None-clause-sorted : goal.returns-in_ok-push-in-None-clause-sorted
returns-in_ok-push-in-None-clause-sorted c =
    let told : c.push.new.self.items ≡ c.args.reports.now.items ++ Junk c.args.name.now ∷ [] =
    c.in_ok-push-in-None.ensures.items ∙ ap (λ n. c.args.reports.now.items ++ Junk n ∷ []) c.in_ok-copy-in-None.ensures.equal in
    junk_sorted c.args.catalog.now c.args.end c.args.name.now c.args.bytes.now c.args.bag.now c.args.reports.now.items c.push.new.self.items
    (λ m is e. let some = c.in_ok-read_message.ensures.only m is e in let none = c.in-None.is in absurd cc) told

pub returns-in-Some-clause-sorted : goal.returns-in-Some-clause-sorted
returns-in-Some-clause-sorted c =
    let bytes = c.args.bytes.now in
    let it = subst (λ (r : Option Message). IfSome r (λ m. IsMessage m × (bytes ≡ message_spelling m))) c.in-Some.is c.in_ok-read_message.ensures.found in
    on_ok_map c.place-outcome.result
    (λ p. placed_sorted c.args.catalog.now c.args.end c.args.name.now bytes c.in-Some.message c.args.bag.now c.place-outcome.new.bag c.args.reports.now.items c.place-outcome.new.reports.items it.0 it.1 p)
    c.place-outcome.ensures.placed
