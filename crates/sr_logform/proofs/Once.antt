-- A format spells each value once.
use Rattle.std.proofs.Common.{ℕ, List}
use Rattle.sr_base.proofs.Formats.{reads_spellings, reads_again, begins_no_other}
use Rattle.sr_base.specs.Reading.{Read}
use Rattle.sr_base.specs.Inner.Reading.{IsFormat}
use Rattle.sr_logform.specs.Inner.Laws.{SpellsOnce}

pub spells_once : {A : Type 0} {reading : List ℕ → Read A} {spelling : A → List ℕ} {fits : A → Type 0}
    → IsFormat reading spelling fits → SpellsOnce reading spelling fits
spells_once format = record { read_so = reads_spellings format; read_again = reads_again format; no_other = begins_no_other format }
