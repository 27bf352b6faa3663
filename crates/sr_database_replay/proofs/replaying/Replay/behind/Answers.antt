use Rattle.std.proofs.Common.{refl, ◌∙◌, ap}
use Rattle.std.specs.FinMap.{empty}
use Rattle.sr_database_files.specs.Books.{kept_books}
use Rattle.sr_snapshot.specs.Inner.Beginnings.{beginning_in}
use Rattle.sr_database_replay.proofs.Records.{replayed_none}
use Rattle.sr_database_replay.proofs.replaying.Replay.behind.Goals as goal

pub returns : goal.returns
returns c = record {
  new = replayed_none c.args.state.catalog c.args.state.rows _ (beginning_in c.args.state) c.requires.beginning refl c.requires.marked (c.in_ok-books.ensures.kept ∙ ap (kept_books empty) c.as_slice.ensures.items);
}
