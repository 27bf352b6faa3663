use Rattle.std.proofs.Common.{◌≡◌, ℕ, List, IfOk, subst, ap, ◌∙◌}
use Rattle.std.specs.Option.{option_copied}
use Rattle.sr_catalog_schema.specs.Firsts.{first_absent}
use Rattle.sr_catalog_schema.specs.Names.{taken}
use Rattle.sr_catalog_schema.proofs.Indexed.{taken_alike}
use Rattle.sr_catalog_ddl.specs.Tables.{rule_name}
use Rattle.sr_catalog_ddl.proofs.tables.missing.Goals as goal

pub returns : goal.returns
returns c =
    let columns = c.args.table.now.columns in
    let alike : (n : List ℕ) → taken rule_name n c.in_ok-columns.columns ≡ taken rule_name n columns = λ n. taken_alike rule_name c.in_ok-columns.columns c.as_slice.result.now c.in_ok-columns.ensures.firsts n ∙ ap (taken rule_name n) c.as_slice.ensures.items in
    let found : option_copied c.first_absent.result ≡ first_absent (λ n. taken rule_name n columns) c.args.table.now.key =
    c.first_absent.ensures.absent
    ∙ ((λ i. first_absent (λ n. alike n i) c.as_slice-2.result.now) ∙ ap (first_absent (λ n. taken rule_name n columns)) c.as_slice-2.ensures.items) in
    subst (λ x. IfOk c.owned.result (λ own. own ≡ x)) found c.owned.ensures
