use Rattle.std.proofs.Common.{length, arith, ap, length-drop}
use Rattle.gl_outside.proofs.Takes.{took_none, took_more, broke_here}
use Rattle.gl_outside.proofs.writing.write_all_of.Goals as goal

pub loop-at-init : goal.loop-at-init
loop-at-init g c = record { within = omega arith; taken = took_none _ }

pub loop-at-preserved : goal.loop-at-preserved
loop-at-preserved g c = record {
  within = omega (arith, c.in-Took.ensures.amount.1, length-drop c.loop-at.at c.args.bytes.now, ap length c.tail.ensures, c.loop-at.invariant.within);
  taken = took_more _ _ _ c.args.bytes.now c.tail.result.now c.loop-at.at c.in-Took.n c.loop-at.invariant.taken c.tail.ensures c.in-Took.ensures.does;
}

pub returns-in-Failed : goal.returns-in-Failed
returns-in-Failed g c = broke_here _ _ _ c.args.bytes.now c.loop-at.at c.loop-at.invariant.taken c.in-Failed.ensures.does.0 c.in-Failed.ensures.does.1
