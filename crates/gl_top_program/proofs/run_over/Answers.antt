use Rattle.gl_top_program.proofs.run_over.Goals as goal

pub returns : goal.returns
returns g c = record { status = c.run.result; answer = c.run.ensures.answer; says = c.run.ensures.says; number = c.exit_code.ensures }
