use Rattle.std.proofs.Common.{◌≡◌, ◌∙◌, Some, ap, string_bytes}
use Rattle.std.proofs.lemmas.Bool.{false≢true}
use Rattle.std.proofs.lemmas.Str.{IsUtf8-string_bytes}
use Rattle.sr_lex.specs.Inner.Reading.{utf8_text}
use Rattle.sr_lex.proofs.Texts.{utf8_text-yes, utf8_text-no}
use Rattle.sr_lex.proofs.kind.utf8_text.Goals as goal

pub returns-in-Ok : goal.returns-in-Ok
returns-in-Ok c =
    let e : string_bytes c.in-Ok.text ≡ c.args.bytes.items = ap (λ v. v.items) c.in-Ok.ensures.ok in
    let y = utf8_text-yes (string_bytes c.in-Ok.text) (IsUtf8-string_bytes c.in-Ok.text) in
    ap Some c.in_ok-from_string-in-Ok.ensures.bytes ∙ y ∙ ap utf8_text e

pub returns : goal.returns
returns c = utf8_text-no c.args.bytes.items (λ u. false≢true (c.in-Err.ensures.succeeds u))
