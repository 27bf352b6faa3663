use Rattle.std.proofs.Common.{arith}
use Rattle.sr_mail.proofs.Shelved.{half_moved, same_on}
use Rattle.sr_mail.proofs.inbox.move_half.Goals as goal

pub returns-in-Ok : goal.returns-in-Ok
returns-in-Ok c = half_moved c.args.shelves.now.items c.args.at c.index_mut.result.now c.split.new.self c.in-Ok.behind c.requires.within c.index_mut.ensures.value c.requires.empty c.in-Ok.ensures.ok

pub returns-in-Err : goal.returns-in-Err
returns-in-Err c = same_on c.args.shelves.now.items c.args.at c.index_mut.result.now c.split.new.self (omega (arith, c.requires.within)) c.index_mut.ensures.value c.in-Err.ensures.err
