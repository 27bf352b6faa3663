use Rattle.std.proofs.Common.{◌≡◌, ◌+◌, false, [], get_or, sym, ◌∙◌, arith}
use Rattle.std.specs.Ordering.{nat_cmp, ordering_then, is_lt}
use Rattle.std.proofs.lemmas.List.Sorted.{list_any-IsPermutation}
use Rattle.sr_mail.specs.Inner.Spans.{spans_from, has_place, SpanOf}
use Rattle.sr_mail.proofs.Looping.{All-moved, not_less, sorted_from}
use Rattle.sr_mail.proofs.Spanning.{spans-own, spans-cover}
use Rattle.sr_mail.proofs.covering.sorted_spans.Goals as goal

pub returns-clause-sorted : goal.returns-clause-sorted
returns-clause-sorted c = sorted_from c.sort.new.self.items (λ k d lt.
    let x = get_or c.sort.new.self.items k d in
    let y = get_or c.sort.new.self.items (k + 1) d in
    let least : is_lt (ordering_then (ordering_then (nat_cmp y.0 x.0) (nat_cmp y.1 x.1)) (nat_cmp y.2 x.2)) ≡ false = c.in_ok-sort.ensures.sorted k d (omega arith) lt in
    not_less x.0 y.0 (nat_cmp y.1 x.1) (nat_cmp y.2 x.2) least)

pub returns-clause-own : goal.returns-clause-own
returns-clause-own c =
    All-moved (SpanOf c.args.pieces.now) (spans_from 0 c.args.pieces.now) c.sort.new.self.items (rw c.in_ok-spans.ensures at c.in_ok-sort.ensures.permutation) (spans-own [] c.args.pieces.now)

pub returns-clause-covered : goal.returns-clause-covered
returns-clause-covered c = λ place.
    sym (list_any-IsPermutation (has_place place) (spans_from 0 c.args.pieces.now) c.sort.new.self.items (rw c.in_ok-spans.ensures at c.in_ok-sort.ensures.permutation)) ∙ spans-cover place 0 c.args.pieces.now
