use Rattle.std.proofs.Common.{◌∙◌, sym, ap, List, ℕ}
use Rattle.sr_site.specs.Files.{Files, bytes_of, with_bytes}
use Rattle.sr_site.proofs.Images.{bytes_of-with_bytes}
use Rattle.sr_site.proofs.laws.a_sync_settles.Goals as goal

pub returns-clause-settled : goal.returns-clause-settled
returns-clause-settled c first image before f after (old, is, e) = ap (λ (files : Files). bytes_of files f) e ∙ bytes_of-with_bytes old f after

pub returns-clause-others : goal.returns-clause-others
returns-clause-others c first image before f after (old, is, e) =
    (old, is, e ∙ ap (λ (bytes : List ℕ). with_bytes old f bytes) (sym (ap (λ (files : Files). bytes_of files f) e ∙ bytes_of-with_bytes old f after)))
