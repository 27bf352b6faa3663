use Rattle.std.proofs.Common.{◌<◌, ◌+◌, length, take, drop, ◌∙◌}
use Rattle.sr_mail.specs.Seen.{window_of}
use Rattle.sr_mail.specs.Inner.Shelves.{AllBefore, AllBehind, all_of}
use Rattle.sr_mail.proofs.Shelved.{added_on}
use Rattle.sr_mail.proofs.inbox.add_piece.Goals as goal

pub returns-then-len-gt-LONGEST_SHELF-clause-ok : goal.returns-then-len-gt-LONGEST_SHELF-clause-ok
returns-then-len-gt-LONGEST_SHELF-clause-ok c =
    let shelves = c.args.shelves.now.items in
    let at = c.shelf_of-at.result in
    let within : at < length shelves = rw c.as_slice.ensures.value at c.shelf_of-at.ensures.within in
    let before : AllBefore (all_of (take at shelves)) (window_of c.args.piece) = rw (c.as_slice.ensures.value, c.window.ensures) at c.shelf_of-at.ensures.before in
    let behind : AllBehind (all_of (drop (at + 1) shelves)) (window_of c.args.piece) = (rw (c.as_slice.ensures.value, c.window.ensures) at c.shelf_of-at.ensures.behind) c.requires.order in
    c.part.ensures ∙ added_on shelves at c.index_mut.result.now c.add.new.self c.args.piece within c.index_mut.ensures.value before behind c.in_ok-add.ensures.ok

pub returns-else-len-gt-LONGEST_SHELF-clause-ok : goal.returns-else-len-gt-LONGEST_SHELF-clause-ok
returns-else-len-gt-LONGEST_SHELF-clause-ok c =
    let shelves = c.args.shelves.now.items in
    let at = c.shelf_of-at.result in
    let within : at < length shelves = rw c.as_slice.ensures.value at c.shelf_of-at.ensures.within in
    let before : AllBefore (all_of (take at shelves)) (window_of c.args.piece) = rw (c.as_slice.ensures.value, c.window.ensures) at c.shelf_of-at.ensures.before in
    let behind : AllBehind (all_of (drop (at + 1) shelves)) (window_of c.args.piece) = (rw (c.as_slice.ensures.value, c.window.ensures) at c.shelf_of-at.ensures.behind) c.requires.order in
    added_on shelves at c.index_mut.result.now c.add.new.self c.args.piece within c.index_mut.ensures.value before behind c.in_ok-add.ensures.ok
