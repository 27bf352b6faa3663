use Rattle.std.proofs.Common.{rules, arith, refl, ◌∙◌, sym}
use Rattle.std.proofs.lemmas.Grind.{common_steps}
use Rattle.sr_parse.proofs.Aliased.{apart_more}
use Rattle.sr_parse_reader.proofs.Parts.{handed, no_memory}
use Rattle.sr_parse_reader.proofs.Loops.{filed_begun, filed_on, filed_done}
use Rattle.sr_parse.proofs.Aliases.{alias_read, image_goes, no_alias_next, apart_read, image_refused, as_missed, name_refused, name_unread}
use Rattle.sr_parse_reader.proofs.Parts.{spelled}
use Rattle.sr_parse.proofs.creating.aliases.Goals as goal

pub more-init : goal.more-init
more-init c = record { apart = search rules; reads = filed_begun (search rules); less = search rules }

pub more-preserved : goal.more-preserved
more-preserved c = record {
  apart = apart_more _ _ _ _ c.in-Some.image c.in_ok-name.name c.more.invariant.apart (grind (arith, common_steps)) c.as_slice.ensures.value (c.has_image.ensures.absent (search rules)) c.as_slice-in-Some.ensures.value (c.is_taken.ensures.absent (search rules) _ _ (spelled c.in_ok-name.ensures.reads));
  reads = filed_on (λ b x a h. tt) (λ a s. tt) c.more.invariant.reads (image_goes _ c.in-Some.image (search rules)) (alias_read c.in-Some.image (search rules) (sym c.skip.ensures.rest ∙ (spelled c.in_ok-keyword.ensures.reads)) c.in_ok-name.ensures.reads) (grind (arith, common_steps));
  less = search rules;
}

pub returns-then-has_image-clause-reads : goal.returns-then-has_image-clause-reads
returns-then-has_image-clause-reads c = image_refused c.in-Some.image c.more.invariant.reads c.more.invariant.apart (search rules) c.as_slice.ensures.value (c.has_image.ensures.found (search rules))

pub returns-in_err-keyword-clause-reads : goal.returns-in_err-keyword-clause-reads
returns-in_err-keyword-clause-reads c = handed _ (as_missed c.in-Some.image c.more.invariant.reads c.more.invariant.apart (search rules) c.skip.ensures.rest c.as_slice.ensures.value (c.has_image.ensures.absent (search rules)) c.in_err-keyword.ensures.reads) (search rules)

pub returns-then-is_taken-clause-reads : goal.returns-then-is_taken-clause-reads
returns-then-is_taken-clause-reads c = name_refused c.in-Some.image c.more.invariant.reads c.more.invariant.apart (search rules) (sym c.skip.ensures.rest ∙ (spelled c.in_ok-keyword.ensures.reads)) c.as_slice.ensures.value (c.has_image.ensures.absent (search rules)) c.as_slice-in-Some.ensures.value (c.is_taken.ensures.found (search rules))

pub returns-in_err-name-clause-reads : goal.returns-in_err-name-clause-reads
returns-in_err-name-clause-reads c = handed _ (name_unread c.in-Some.image c.more.invariant.reads c.more.invariant.apart (search rules) (sym c.skip.ensures.rest ∙ (spelled c.in_ok-keyword.ensures.reads)) c.as_slice.ensures.value (c.has_image.ensures.absent (search rules)) c.in_err-name.ensures.reads) (search rules)

pub returns-in_err-push-clause-reads : goal.returns-in_err-push-clause-reads
returns-in_err-push-clause-reads c = no_memory _ (search rules)

pub returns-clause-reads : goal.returns-clause-reads
returns-clause-reads c = apart_read c.more.invariant.apart c.from_vec.ensures.items (filed_done c.more.invariant.reads (no_alias_next _ (λ image e. c.image_at.ensures.absent (search rules) image (search rules))) refl)
