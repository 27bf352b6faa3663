-- What clap says of a parse, as what the command finds.
use Rattle.std.proofs.Common.{◌≡◌, ◌∙◌, ◌&&◌, Bool, true, false, List, [], ◌∷◌, Some, None, refl, sym, ap, inl, inr, true≢false}
use Rattle.std.specs.Prelude.{◌⊎◌}
use Rattle.clap.specs.Words.{App, HasMatchesOf, Kinds, Row, Text, fault_of, is_simple, is_simple_and_free, matches_of}
use Rattle.clap.specs.Kinds.{IsAmong}
use Rattle.clap.specs.Faults.{is_free_app}
use Rattle.clap.specs.Simple.{built}
use Rattle.clap.specs.declared.error.kind.ErrorKind.{ErrorKind}
use Rattle.clap.specs.declared.error.kind.ErrorKind.TheVariants.{OutOfMemory}
use Rattle.clap.specs.declared.parser.matches.ArgMatches.{ArgMatches}
use Rattle.dbremote_words.specs.Words.{found, unless}
use Rattle.dbremote_words.specs.Inner.Words.{is_for_memory, is_known, rows_in}

left : (a b : Bool) → (a && b) ≡ true → a ≡ true
left true b e = refl
left false b e = e

pub taken : (command : App) (words : List Text) (matches : ArgMatches) → is_known command ≡ true → (is_simple_and_free command ≡ true → fault_of command words ≡ []) → HasMatchesOf command words matches → Some (rows_in matches) ≡ found command words
unfolding found is_known
taken command words matches known none has =
    let rows : rows_in matches ≡ matches_of command words = (has (left (is_simple command) (is_free_app (built command)) known)).0 in
    ap Some rows ∙ sym (ap (λ (faults : Kinds). unless faults (matches_of command words)) (none known))

among : (kind : ErrorKind) (faults : Kinds) (rows : List Row) → IsAmong kind faults → None ≡ unless faults rows
among kind [] rows is = absurd is
among kind (fault ∷ faults) rows is = refl

pub refused : (command : App) (words : List Text) (kind : ErrorKind) → is_known command ≡ true → (is_simple_and_free command ≡ true → (kind ≡ OutOfMemory) ⊎ IsAmong kind (fault_of command words)) → is_for_memory kind ≡ false → None ≡ found command words
unfolding found is_known
refused command words kind known why other = go (why known)
  where
    go : (kind ≡ OutOfMemory) ⊎ IsAmong kind (fault_of command words) → None ≡ unless (fault_of command words) (matches_of command words)
    go (inl memory) = absurd (true≢false (sym (ap is_for_memory memory) ∙ other))
    go (inr is) = among kind (fault_of command words) (matches_of command words) is
