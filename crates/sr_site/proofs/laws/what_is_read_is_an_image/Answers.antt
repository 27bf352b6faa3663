use Rattle.std.proofs.Common.{true, false}
use Rattle.sr_site.proofs.Images.{written, cut, with_same}
use Rattle.sr_site.proofs.laws.what_is_read_is_an_image.Goals as goal

pub returns-clause-written : goal.returns-clause-written
returns-clause-written c = written

pub returns-clause-cut : goal.returns-clause-cut
returns-clause-cut c = cut

pub returns-clause-after_write : goal.returns-clause-after_write
returns-clause-after_write c first old new before f place bytes after done is others torn = (old, is, others, torn)

pub returns-clause-after_cut : goal.returns-clause-after_cut
returns-clause-after_cut c first old new before f to after done is others torn = (old, is, others, torn)

pub returns-clause-after_sync : goal.returns-clause-after_sync
returns-clause-after_sync c first files before f true is = (files, is, with_same files f)
returns-clause-after_sync c first files before f false is = is
