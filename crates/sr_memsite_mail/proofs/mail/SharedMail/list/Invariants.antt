use Rattle.sr_memsite_mail.proofs.Listings.{Holds, names_so_far}
use Rattle.sr_memsite_mail.proofs.mail.SharedMail.list.Given as goal

-- the names are those of the files so far
abbrev pub invariant-files : goal.invariant-files
invariant-files l = Holds l.names.items l.more (names_so_far l.yielded l.fn.address)
