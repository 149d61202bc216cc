use Rattle.std.proofs.Common.{arith, sym, subst}
use Rattle.gl_bits.proofs.AllLists.{length_map}
use Rattle.gl_tuples.specs.Gaps.{plain_beats}
use Rattle.gl_verilog.specs.Module.{Module}
use Rattle.gl_verilog.specs.View.{declaration_of, module_of}
use Rattle.gl_schema.specs.Ports.{out_eos}
use Rattle.gl_runner.specs.Probes.{IsLineIn}
use Rattle.gl_runner.specs.Dumping.{outcome_in}
use Rattle.gl_runner.proofs.Dumps.{dumped_started}
use Rattle.gl_runner.proofs.Making.{can_drive}
use Rattle.gl_runner.proofs.Probing.{end_line}
use Rattle.gl_runner.proofs.dumping.dump_module.Goals as goal

pub new-requires : goal.new-requires
new-requires g c = record {
  inside = omega (arith, c.requires.plain.inside, length_map declaration_of c.args.design.declarations);
  sizes = c.requires.can.valid.sizes;
  few = c.requires.few;
}

pub new-requires-2-clause-can : goal.new-requires-2-clause-can
new-requires-2-clause-can g c = can_drive (module_of c.args.design) c.args.task.schema.now c.args.kinds.now (plain_beats c.args.task.beats.now) c.requires.can

pub put_dump-requires-clause-line : goal.put_dump-requires-clause-line
put_dump-requires-clause-line g c =
    subst (λ (m : Module). IsLineIn m out_eos) (sym c.in-Ok-new.ensures.design') (end_line (module_of c.args.design) c.args.task.schema.now c.requires.can.fits)

pub returns : goal.returns
returns g c =
    rw c.outcome_in.ensures (dumped_started (module_of c.args.design) c.args.task.schema.now (plain_beats c.args.task.beats.now) c.args.task.start c.args.task.extra c.in-Ok-new.drive
    (g.K.Sink.state c.args.out.now) (g.K.Sink.state c.put_dump.new.out) (outcome_in c.put_dump.result) c.in-Ok-new.ensures c.put_dump.ensures)
