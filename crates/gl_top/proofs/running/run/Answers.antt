use Rattle.gl_top.proofs.Concluding.{when_says, when_told, when_formless, when_untouched, when_refused, when_calm}
use Rattle.gl_top.proofs.running.run.Goals as goal

pub returns-clause-says : goal.returns-clause-says
returns-clause-says g c = when_says _ c.answer.ensures

pub returns-clause-told : goal.returns-clause-told
returns-clause-told g c = when_told c.laws_below.ensures _ c.answer.ensures

pub returns-clause-untouched : goal.returns-clause-untouched
returns-clause-untouched g c = when_untouched _ c.answer.ensures

pub returns-clause-formless : goal.returns-clause-formless
returns-clause-formless g c = when_formless _ c.answer.ensures

pub returns-clause-exact : goal.returns-clause-exact
returns-clause-exact g c = when_refused c.laws_below.ensures _ c.answer.ensures

pub returns-clause-complete : goal.returns-clause-complete
returns-clause-complete g c = when_calm c.laws_below.ensures _ c.answer.ensures
