use Rattle.std.proofs.Common.{ap, ◌∙◌}
use Rattle.sr_mail.specs.Seen.{piece_of}
use Rattle.sr_mail.specs.Inner.Shelves.{all_of, added}
use Rattle.sr_mail.proofs.Shelved.{inbox_more, inbox_shows}
use Rattle.sr_mail.proofs.inbox.Inbox.add.Goals as goal

pub invariant_of-self-2 : goal.invariant_of-self-2
invariant_of-self-2 c =
    inbox_more c.self.inside.farthest c.later-farthest.result c.piece_of-piece.result (all_of c.self.inside.shelves.items) (all_of c.begin_shelf.new.shelves.items) (all_of c.add_piece.new.shelves.items) c.begin_shelf.ensures.same c.in_ok-add_piece.ensures.ok c.self.invariant
    c.later-farthest.ensures.first c.later-farthest.ensures.second c.later-farthest.ensures.one

pub returns-clause-added : goal.returns-clause-added
returns-clause-added c = λ w.
    (inbox_shows c.args.self.now (all_of c.self.inside.shelves.items) (all_of c.add_piece.new.shelves.items) c.piece_of-piece.result (piece_of c.args.name c.args.message.now) c.self.view_is c.piece_of-piece.ensures c.self.invariant.order
    (c.in_ok-add_piece.ensures.ok ∙ ap (added c.piece_of-piece.result) c.begin_shelf.ensures.same) w).0

pub returns-clause-dropped : goal.returns-clause-dropped
returns-clause-dropped c = λ w.
    (inbox_shows c.args.self.now (all_of c.self.inside.shelves.items) (all_of c.add_piece.new.shelves.items) c.piece_of-piece.result (piece_of c.args.name c.args.message.now) c.self.view_is c.piece_of-piece.ensures c.self.invariant.order
    (c.in_ok-add_piece.ensures.ok ∙ ap (added c.piece_of-piece.result) c.begin_shelf.ensures.same) w).1
