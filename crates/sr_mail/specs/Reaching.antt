-- How far windows reach.
use Rattle.std.specs.Prelude.{ℕ, ◌<◌, ◌≤◌}
use Rattle.sr_mail.specs.declared.window.Window.{Window}

-- a window leads on from an offset: it begins there or before, and ends past it
pub record Leads (w : Window) (offset : ℕ) : Type 0 where
  pub begins : w.prev ≤ offset
  pub ends : offset < w.upto

-- the least set that holds an offset and, with each member, the end of each window of a kind that leads on from it
pub data Reaches (W : Window → Type 0) (from : ℕ) : ℕ → Type 0 where
  start : Reaches W from from
  goes_on : (offset : ℕ) (w : Window) → Reaches W from offset → W w → Leads w offset → Reaches W from w.upto

-- the greatest member of that set
pub record IsFar (W : Window → Type 0) (from far : ℕ) : Type 0 where
  pub reached : Reaches W from far
  pub greatest : (offset : ℕ) → Reaches W from offset → offset ≤ far
