use Rattle.std.proofs.Common.{◌≡◌, ◌++◌, map, length}
use Rattle.sr_catalog_schema.specs.declared.publication.Article.{Article}
use Rattle.sr_session_script.specs.Synced.{view_of}
use Rattle.sr_session_script.proofs.views.views_by.Given as goal

-- the views so far, and those of the articles that are left
abbrev pub invariant-articles : goal.invariant-articles
invariant-articles l = l.views.items ++ map (λ (a : Article). view_of (record { catalog = l.catalog; rows = l.rows.rows }) l.user a.table) l.left
    ≡ map (λ (a : Article). view_of (record { catalog = l.catalog; rows = l.rows.rows }) l.user a.table) l.articles

abbrev pub decreases-articles : goal.decreases-articles
decreases-articles l = length l.left
