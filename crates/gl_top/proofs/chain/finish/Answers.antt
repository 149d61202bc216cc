use Rattle.std.proofs.Common.{refl, sym}
use Rattle.gl_outside.proofs.Takes.{took_none}
use Rattle.gl_runner.specs.declared.executing.Outcome.TheVariants as outcome
use Rattle.gl_top.specs.Verdicts.{RanWhole, RanCut, Refused}
use Rattle.gl_top_status.specs.declared.refusal.Refusal.TheVariants as refusal
use Rattle.gl_top.proofs.Ended.{nothing_written, run_left, run_of_kept}
use Rattle.gl_top.proofs.chain.finish.Goals as goal

pub returns-in-Done-clause-answer : goal.returns-in-Done-clause-answer
returns-in-Done-clause-answer g c = λ ch passes calm. RanWhole (record {
  run = run_of_kept _ _ _ _ _ _ outcome.Done (sym c.requires.kept) (c.in-Done.ensures ch.old.told passes);
  silent = took_none _;
  calm = calm;
  done = refl;
})

pub returns-in-WriteFault-clause-answer : goal.returns-in-WriteFault-clause-answer
returns-in-WriteFault-clause-answer g c = λ ch passes calm. RanCut (record {
  run = run_of_kept _ _ _ _ _ _ outcome.WriteFault (sym c.requires.kept) (c.in-WriteFault.ensures ch.old.told passes);
  calm = calm;
  noted = c.tell_write_fault.ensures;
})

pub returns-in-Memory-clause-answer : goal.returns-in-Memory-clause-answer
returns-in-Memory-clause-answer g c = λ ch passes calm.
    let run = run_of_kept _ _ _ _ _ _ outcome.Memory (sym c.requires.kept) (c.in-Memory.ensures ch.old.told passes) in
    Refused (record {
      refusal = refusal.Memory;
      cause = calm;
      untouched = nothing_written _ _ _ _ _ run;
      noted = c.tell.ensures;
      left = run_left _ _ _ _ _ outcome.Memory run;
    })
