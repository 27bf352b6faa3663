use Rattle.std.proofs.Common.{◌≡◌, refl, inl, subst, arith, ap, ◌∙◌, length}
use Rattle.std.proofs.lemmas.List.{length-reverse}
use Rattle.sr_parse_reader.specs.declared.reader.Broken.TheVariants.{Memory}
use Rattle.sr_parse_grammar.proofs.Meaning.{written_once, read_whole, written_by}
use Rattle.sr_parse_grammar.specs.Places.{IsRefusedAt}
use Rattle.sr_parse_reader.proofs.Parts.{spelled_only, unspelled}
use Rattle.sr_parse.proofs.Stuck.{refused_by, script_read}
use Rattle.sr_parse.proofs.parsing.parse.Goals as goal

pub returns-in-Ok-clause-sound : goal.returns-in-Ok-clause-sound
returns-in-Ok-clause-sound c = written_by _ _ _ _ _ c.bytes.ensures.bytes c.new-reader.ensures c.in_ok-symbols.ensures.found (script_read c.in-Ok.ensures.reads c.in-Ok.ensures.end)

pub returns-in-Ok-clause-only : goal.returns-in-Ok-clause-only
returns-in-Ok-clause-only c = λ other w.
    written_once c.args.text.now other c.in-Ok.script w (written_by _ _ _ _ _ c.bytes.ensures.bytes c.new-reader.ensures c.in_ok-symbols.ensures.found (script_read c.in-Ok.ensures.reads c.in-Ok.ensures.end))

pub returns-in-Ok-clause-read : goal.returns-in-Ok-clause-read
returns-in-Ok-clause-read c = λ script w.
    let is = spelled_only c.in-Ok.ensures.reads (read_whole _ _ _ _ script c.bytes.ensures.bytes c.new-reader.ensures c.in_ok-symbols.ensures.found w) refl in
    let same : c.in-Ok.script ≡ script = is.0 in inl (cc)

pub returns-in-Ok-start_behind-clause-read : goal.returns-in-Ok-start_behind-clause-read
returns-in-Ok-start_behind-clause-read c = λ script w.
    let never : c.in-Err-Refused.field-0 ≡ Memory = unspelled c.in-Err-Refused.ensures.reads (read_whole _ _ _ _ script c.bytes.ensures.bytes c.new-reader.ensures c.in_ok-symbols.ensures.found w) refl in
    let is = c.in-Err-Refused.field-0-is in absurd (cc)

pub returns-in-Ok-start_behind-clause-refused : goal.returns-in-Ok-start_behind-clause-refused
returns-in-Ok-start_behind-clause-refused c = λ at e.
    let place : c.in-Ok-start_behind.at ≡ at = cc in
    let shorter = c.in-Err-Refused.ensures.shorter in
    let taken = c.saturating_sub-behind.ensures in
    let count = c.len-count.ensures in
    let left = c.left.ensures in
    let all = ap length c.new-reader.ensures ∙ length-reverse c.in_ok-symbols.symbols.items in
    subst (λ n. IsRefusedAt c.args.text.now n) place
    (refused_by c.args.text.now c.bytes.result.now c.bytes-in-Err-Refused.result.now _ _ _ c.in-Err-Refused.field-0 c.in-Ok-start_behind.at _ c.bytes.ensures.bytes c.bytes-in-Err-Refused.ensures.bytes c.new-reader.ensures c.in_ok-symbols.ensures.found
    c.in-Err-Refused.field-0-is c.in-Err-Refused.ensures.reads (omega (arith, shorter, taken, count, left, all)) c.in-Ok-start_behind.ensures.place)
