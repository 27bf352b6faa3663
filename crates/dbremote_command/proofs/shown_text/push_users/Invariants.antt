use Rattle.std.proofs.Common.{◌≡◌, ◌++◌, length}
use Rattle.dbremote_command.specs.Shown.{user_lines}
use Rattle.dbremote_command.proofs.shown_text.push_users.Given as goal

abbrev pub invariant-users : goal.invariant-users
invariant-users l = l.out.items ++ user_lines l.db.books l.left ≡ l.fn.out.items ++ user_lines l.db.books l.users

abbrev pub decreases-users : goal.decreases-users
decreases-users l = length l.left
