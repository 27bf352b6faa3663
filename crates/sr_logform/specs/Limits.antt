-- How long an entry may be, how far the log may reach that holds it, and how many ops it may give.
use Rattle.std.specs.Prelude.{ℕ}
use Rattle.sr_logform.specs.declared.entry.Entry.{Entry}
use Rattle.sr_logform.specs.declared.entry.Entry.TheVariants.{Own, From, Ddl, Sync, Pass, Note}

-- 4 MiB, 16 MiB and 64 MiB
abbrev pub short_body : ℕ
short_body = 4194304

abbrev pub sync_body : ℕ
sync_body = 16777216

abbrev pub from_body : ℕ
from_body = 67108864

-- the longest body of an entry's kind, in bytes
abbrev pub longest_body : Entry → ℕ
longest_body (Own changes) = short_body
longest_body (From user at ops) = from_body
longest_body (Ddl text) = short_body
longest_body (Sync user tables) = sync_body
longest_body (Pass users only text changes) = short_body
longest_body (Note user note) = short_body

-- the longest encoding of a transaction for a partner: 64 MiB
abbrev pub longest_transaction : ℕ
longest_transaction = 67108864

-- 960 MiB and 1 GiB
abbrev pub local_end : ℕ
local_end = 1006632960

abbrev pub partner_end : ℕ
partner_end = 1073741824

-- the farthest end of a log file behind an entry's kind: what partners cause has room that local work leaves
abbrev pub farthest_end : Entry → ℕ
farthest_end (Own changes) = local_end
farthest_end (From user at ops) = partner_end
farthest_end (Ddl text) = local_end
farthest_end (Sync user tables) = local_end
farthest_end (Pass users only text changes) = local_end
farthest_end (Note user note) = partner_end
