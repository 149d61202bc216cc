use Rattle.gl_sim.proofs.Waiting.{put_of-note}
use Rattle.gl_verilog.specs.View.{expr_of}
use Rattle.gl_verilog.specs.Evaluate.{nets_of, memories_of}
use Rattle.gl_sim.proofs.update.note.Goals as goal

pub returns-clause-words : goal.returns-clause-words
returns-clause-words c = put_of-note _ _ (nets_of c.args.values.now) (memories_of c.args.banks.now) c.args.memory (expr_of c.args.address.now) (expr_of c.args.value.now) _ _ c.push_reserved.ensures.items c.evaluate-at.ensures c.evaluate-word.ensures
