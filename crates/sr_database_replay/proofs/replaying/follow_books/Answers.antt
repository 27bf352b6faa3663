use Rattle.std.proofs.Common.{◌∙◌}
use Rattle.std.proofs.lemmas.Result.{on_ok_weaker}
use Rattle.sr_database_replay.proofs.Booked.{follow_taken, follow_noted}
use Rattle.sr_database_replay.proofs.replaying.follow_books.Goals as goal

pub returns-in-From : goal.returns-in-From
returns-in-From c = record { books = on_ok_weaker c.follow_taken.result (λ is r same. follow_taken c.args.books.now c.follow_taken.new.books c.in-From.user c.in-From.at c.in-From.ops r is (same ∙ c.in-From.is)) c.follow_taken.ensures.taken }

pub returns-in-Note : goal.returns-in-Note
returns-in-Note c = record { books = on_ok_weaker c.follow_note.result (λ is r same. follow_noted c.args.books.now c.follow_note.new.books c.in-Note.user c.in-Note.note r is (same ∙ c.in-Note.is)) c.follow_note.ensures.noted }
