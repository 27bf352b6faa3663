use Rattle.std.proofs.Common.{sym, subst}
use Rattle.std.specs.Prelude.{IsSome}
use Rattle.std.specs.FinMap as map
use Rattle.sr_database_files.specs.Books.{BookMap}
use Rattle.sr_database_replay.proofs.Booked.{put_there}
use Rattle.sr_database.proofs.Settled.{stays_book}
use Rattle.sr_database.proofs.settling.take_with_book.Goals as goal

pub set_back-requires : goal.set_back-requires
set_back-requires c = record {
  there = subst (λ (b : BookMap). IsSome (map.get b c.args.user.now)) (sym c.in_ok-put.ensures.ok) (put_there c.args.books.now c.args.user.now c.args.book);
}

pub returns-in-Err-clause-stays : goal.returns-in-Err-clause-stays
returns-in-Err-clause-stays c =
    stays_book _ _ _ _ c.args.books.now c.put.new.self c.set_back.new.self c.args.user.now c.args.book c.held-before.result c.in-Err.ensures.stays c.held-before.ensures.held c.in_ok-put.ensures.ok c.set_back.ensures.back
