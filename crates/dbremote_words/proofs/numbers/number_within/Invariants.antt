use Rattle.std.proofs.Common.{◌≡◌, ◌≤◌, length}
use Rattle.dbremote_words.specs.Numbers.{digits_behind, number_in}
use Rattle.dbremote_words.proofs.numbers.number_within.Given as goal

abbrev pub invariant-digits : goal.invariant-digits
invariant-digits l = record {
  number : digits_behind l.number l.left ≡ number_in l.word;
  small : l.number ≤ l.most;
}

abbrev pub decreases-digits : goal.decreases-digits
decreases-digits l = length l.left
