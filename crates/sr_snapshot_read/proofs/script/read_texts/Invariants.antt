use Rattle.sr_catalog_schema.specs.Catalogs.{nothing_but}
use Rattle.sr_snapshot_read.proofs.ScriptRead.{ReadingTexts}
use Rattle.sr_snapshot_read.proofs.script.read_texts.Given as goal

abbrev pub invariant-texts : goal.invariant-texts
invariant-texts g l = ReadingTexts l.file (nothing_but l.fn.publisher) l.count l.left (g.S.Held.seen l.fn.site) (g.S.Held.seen l.site) l.fn.window l.window l.catalog

abbrev pub decreases-texts : goal.decreases-texts
decreases-texts g l = l.left
