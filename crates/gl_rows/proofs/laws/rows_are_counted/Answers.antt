use Rattle.gl_rows.proofs.CountLemmas.{computes_are_counted, kinds_are_narrow, projects_are_counted, selects_are_counted}
use Rattle.gl_rows.proofs.laws.rows_are_counted.Goals as goal

pub returns-clause-computes : goal.returns-clause-computes
returns-clause-computes c = computes_are_counted

pub returns-clause-selects : goal.returns-clause-selects
returns-clause-selects c = selects_are_counted

pub returns-clause-projects : goal.returns-clause-projects
returns-clause-projects c = projects_are_counted

pub returns-clause-narrow : goal.returns-clause-narrow
returns-clause-narrow c = kinds_are_narrow
