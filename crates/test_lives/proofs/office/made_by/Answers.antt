use Rattle.std.proofs.Common.{rules, ◌≡◌, refl}
use Rattle.std.specs.Prelude.{IsTrue}
use Rattle.test_lives.proofs.Running.{made_new}
use Rattle.test_lives.proofs.office.made_by.Goals as goal

pub returns : goal.returns
returns c =
    let whole : IsTrue c.apart-disk.result.2.whole = search rules in
    let zero : c.command-status.result ≡ 0 = search rules in
    record {
      made = λ name user asked.
          made_new name user c.args.order.now _ _ c.command-status.result c.command-status.new.site.site _ asked c.command-status.ensures.ran zero refl refl c.apart-disk.ensures.disk whole
          c.apart-disk.ensures.are;
    }
