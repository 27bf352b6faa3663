use Rattle.std.proofs.Common.{◌≡◌, false, map}
use Rattle.clap.specs.Words.{app_of, kind_of}
use Rattle.dbremote_words.proofs.Found.{refused, taken}
use Rattle.dbremote_words.specs.Inner.Words.{is_for_memory}
use Rattle.dbremote_words.proofs.reading.read.Goals as goal

pub returns-in-Ok : goal.returns-in-Ok
returns-in-Ok c = record {
  found = taken (app_of c.args.command) (map (λ word. word.now) c.args.words.now) c.in-Ok.matches c.requires.known c.in-Ok.ensures.kinds c.in-Ok.ensures.matches;
}

pub returns-else-is_for_memory : goal.returns-else-is_for_memory
returns-else-is_for_memory c =
    let other : is_for_memory (kind_of c.in-Err.error) ≡ false = cc in
    record { found = refused (app_of c.args.command) (map (λ word. word.now) c.args.words.now) (kind_of c.in-Err.error) c.requires.known c.in-Err.ensures.kinds other }
