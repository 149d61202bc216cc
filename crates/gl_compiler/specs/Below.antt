-- What is cited here of the crates below.
use Rattle.gl_query_reader.specs.Grammar.{TextsHaveOneVerdict}
use Rattle.gl_query_texts.specs.Judged.{TextsHaveOneFault}
use Rattle.gl_plan.specs.Planned.{PlansPassOneLimit}

-- the laws by which a text is refused in one way at most
pub record LawsBelow : Type 0 where
  pub texts_have_one_verdict : TextsHaveOneVerdict
  pub texts_have_one_fault : TextsHaveOneFault
  pub plans_pass_one_limit : PlansPassOneLimit
