use Rattle.std.proofs.Common.{◌≡◌, length}
use Rattle.std.specs.Prelude.{ℕ, List, Option}
use Rattle.std.specs.List.{list_any}
use Rattle.sr_base.specs.declared.value.Kind.{Kind}
use Rattle.sr_ast.specs.Classes.{is_meant}
use Rattle.sr_query.proofs.names.means_one.Given as goal

abbrev pub invariant-columns : goal.invariant-columns
invariant-columns l = list_any (λ (d : Option (List ℕ) × List ℕ × Kind). is_meant d.0 d.1 l.table l.name) l.left
    ≡ list_any (λ (d : Option (List ℕ) × List ℕ × Kind). is_meant d.0 d.1 l.table l.name) l.columns

abbrev pub decreases-columns : goal.decreases-columns
decreases-columns l = length l.left
