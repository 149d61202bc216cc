-- What is cited here of the crates below.
use Rattle.gl_query_texts.specs.ListLaws.{TextsHaveOneVerdict}
use Rattle.gl_plan.specs.Together.{SeveralPassOneLimit}

-- the laws by which a text of several queries is refused in one way at most
pub record LawsBelow : Type 0 where
  pub texts_have_one_verdict : TextsHaveOneVerdict
  pub several_pass_one_limit : SeveralPassOneLimit
