use Rattle.std.proofs.Common.{◌≡◌, ◌++◌, ℕ, List, length}
use Rattle.std.specs.List.{AllByRecursion, Contains, list_any}
use Rattle.sr_mail.specs.Seen.{covers}
use Rattle.sr_mail.specs.Inner.Spans.{Span, SpanOf, has_place}
use Rattle.sr_mail.proofs.covering.copies.Given as goal

abbrev pub invariant-spans : goal.invariant-spans
invariant-spans l = record {
  left_own : AllByRecursion (SpanOf l.pieces) l.left;
  own : AllByRecursion (Contains l.pieces) l.chosen.items;
  covered : (done : List Span) × (l.spans ≡ done ++ l.left) × ((place : ℕ) → list_any (covers place) l.chosen.items ≡ list_any (has_place place) done);
}

abbrev pub decreases-spans : goal.decreases-spans
decreases-spans l = length l.left
