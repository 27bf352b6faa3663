use Rattle.std.proofs.Common.{◌≡◌, ◌++◌, length}
use Rattle.std.specs.Prelude.{filter_map}
use Rattle.sr_catalog_schema.specs.Names.{place_of}
use Rattle.sr_catalog_ddl.specs.Tables.{rule_name}
use Rattle.sr_catalog_ddl.proofs.tables.places_of.Given as goal

abbrev pub invariant-key : goal.invariant-key
invariant-key l =
    l.places.items ++ filter_map (λ n. place_of rule_name n l.rules) l.rest ≡ filter_map (λ n. place_of rule_name n l.rules) l.key

abbrev pub decreases-key : goal.decreases-key
decreases-key l = length l.rest
