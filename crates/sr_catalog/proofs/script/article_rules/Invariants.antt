use Rattle.std.proofs.Common.{◌≡◌, ◌++◌, length, map}
use Rattle.sr_catalog_script_laws.specs.Scripts.{article_rule}
use Rattle.sr_catalog.proofs.script.article_rules.Given as goal

abbrev pub invariant-articles : goal.invariant-articles
invariant-articles l = l.rules.items ++ map article_rule l.rest ≡ map article_rule l.articles

abbrev pub decreases-articles : goal.decreases-articles
decreases-articles l = length l.rest
