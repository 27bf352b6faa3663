use Rattle.std.proofs.Common.{◌≡◌, length}
use Rattle.std.specs.Vec.Iter.{into_iter_items, into_iter_len}
use Rattle.sr_receive_gather.proofs.Refetching.{IsFetching}
use Rattle.sr_receive_gather.proofs.fetching.fetch_all.Given as goal

-- the pieces before those that are left came again
abbrev pub invariant-pieces : goal.invariant-pieces
invariant-pieces g l = record {
  fetching : IsFetching l.publisher l.user l.fn.pieces.items (into_iter_items l.piece-iterator) (g.S.Held.seen l.fn.site) (g.S.Held.seen l.site) l.pairs.items;
  size : into_iter_len l.piece-iterator ≡ length (into_iter_items l.piece-iterator);
}
