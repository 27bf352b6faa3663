use Rattle.std.proofs.Common.{◌∙◌}
use Rattle.sr_send_needs.proofs.Seekings.{begun_for, lesser_by}
use Rattle.sr_send_needs.proofs.seeking.need_scanned.Goals as goal

pub search-outcome-requires-clause-passed : goal.search-outcome-requires-clause-passed
search-outcome-requires-clause-passed g c =
    begun_for c.args.db.now c.args.start c.in_ok-scanner.scanner.user c.args.sent.0 c.in_ok-scanner.scanner (g.S.Held.seen c.args.site.now) c.requires.start c.requires.sent
    (c.in_ok-scanner.ensures.catalog ∙ c.catalog_at.ensures.catalog)

pub returns-clause-least : goal.returns-clause-least
returns-clause-least g c =
    lesser_by c.args.db.now c.in_ok-scanner.scanner.user c.args.user.now c.args.sent.0 c.args.limit.0 (g.S.Held.seen c.args.site.now) c.search-outcome.result c.in_ok-scanner.ensures.user c.search-outcome.ensures.least
