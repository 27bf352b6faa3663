-- What the host's devices say of themselves: nothing.
use Rattle.std.specs.Prelude.{ℕ, [], false}
use Rattle.sr_site.specs.Seen.{Seen}

-- what a site means that tells nothing of what it holds: its two counts of faults alone
abbrev pub untold : ℕ → ℕ → Seen
untold disk_faults mail_faults = record {
  observable = false;
  files = record { root = []; log0 = []; log1 = []; snap0 = []; snap1 = [] };
  first = record { root = []; log0 = []; log1 = []; snap0 = []; snap1 = [] };
  happened = [];
  disk_faults = disk_faults;
  mail_faults = mail_faults;
}
