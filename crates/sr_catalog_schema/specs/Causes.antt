-- All that speaks against a statement, and the order of refusals.
use Rattle.std.specs.Prelude.{ℕ, List, Option, None, option_map}
use Rattle.sr_catalog_schema.specs.Firsts.{first_of}
use Rattle.sr_catalog_schema.specs.declared.fault.DdlFault.{DdlFault}
use Rattle.sr_catalog_schema.specs.declared.fault.DdlFault.TheVariants.{Exists, Missing, BadType, NoKey, KeyNotInArticle, TwiceSubscribed, InUse, TooMany}

-- all that speaks against a statement: of each fault the leftmost, with the names that it carries
pub record Causes : Type 0 where
  pub exists : Option (List ℕ)
  pub missing : Option (List ℕ)
  pub bad_type : Option (List ℕ)
  pub no_key : Option (List ℕ)
  pub key_outside : Option (List ℕ × List ℕ)
  pub twice : Option (List ℕ × List ℕ)
  pub in_use : Option (List ℕ)
  pub too_many : Option ℕ

-- nothing speaks against it
abbrev pub no_cause : Causes
no_cause = record {
  exists = None;
  missing = None;
  bad_type = None;
  no_key = None;
  key_outside = None;
  twice = None;
  in_use = None;
  too_many = None;
}

-- the first that applies, in this order
unfoldable pub first_fault : Causes → Option DdlFault
first_fault causes =
    first_of (option_map Exists causes.exists)
    (first_of (option_map Missing causes.missing)
    (first_of (option_map BadType causes.bad_type)
    (first_of (option_map NoKey causes.no_key)
    (first_of (option_map (λ p. KeyNotInArticle p.0 p.1) causes.key_outside)
    (first_of (option_map (λ p. TwiceSubscribed p.0 p.1) causes.twice)
    (first_of (option_map InUse causes.in_use)
    (option_map TooMany causes.too_many)))))))
