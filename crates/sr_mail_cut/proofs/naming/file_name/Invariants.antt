use Rattle.std.proofs.Common.{◌≡◌, ◌∷◌, ◌++◌, ◌/◌, ◌%◌, map, take}
use Rattle.sr_mail_cut.specs.Hexadecimal.{digit}
use Rattle.sr_mail_cut.proofs.naming.file_name.Given as goal

abbrev pub invariant-loop-place : goal.invariant-loop-place
invariant-loop-place l = l.name.items ≡ l.sender ++ 46 ∷ map (λ place. digit (l.number / place % 16)) (take l.place-index l.place-items)
