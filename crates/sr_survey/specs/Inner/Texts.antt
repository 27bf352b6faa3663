-- A survey follows texts.
use Rattle.std.specs.Prelude.{ℕ, List, Option}
use Rattle.sr_ast.specs.declared.stmt.Stmt.{Stmt}
use Rattle.sr_scan.specs.Inner.Meanings.{AreMeant}
use Rattle.sr_survey.specs.Inner.Following.{Follows}
use Rattle.sr_survey.specs.declared.survey.Survey.{Survey}

-- a survey follows the statements that texts are, which end at an offset
pub record FollowsTexts (old : Survey) (texts : List (Option (List ℕ))) (at : ℕ) (new : Survey) : Type 0 where
  pub meant : List (Option Stmt)
  pub are : AreMeant texts meant
  pub follows : Follows old meant at new
