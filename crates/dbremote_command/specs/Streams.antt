-- What comes in and goes out in pieces.
use Rattle.std.specs.Prelude.{ℕ, List, IsTrue}
use Rattle.sr_session.specs.Said.{WrotePrefix}
use Rattle.sr_site.specs.Causes.{Rose}
use Rattle.sr_site.specs.Streams.{Output, OutputStays}

-- a prefix of a text was written, and then the sink failed
pub record SaidPart (text : List ℕ) (old new : Output) : Type 0 where
  pub prefix : IsTrue old.observable → WrotePrefix text old.taken new.taken
  pub stays : OutputStays old new
  pub rose : Rose old.faults new.faults
