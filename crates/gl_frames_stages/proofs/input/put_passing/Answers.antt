use Rattle.std.proofs.Common.{suc, refl, arith, sym, subst}
use Rattle.std.specs.Prelude.{IfOk}
use Rattle.gl_algebra.specs.Columns.{ConditionFits}
use Rattle.gl_net.proofs.Growth.{same_keeps}
use Rattle.gl_wire.specs.Wire.{line_at}
use Rattle.gl_frames_stages.specs.Inputs.{IsPassingIn}
use Rattle.gl_frames_stages.proofs.InputNet.{all_pass}
use Rattle.gl_frames_stages.proofs.input.put_passing.Goals as goal

pub put_passing_by-requires-clause-filter : goal.put_passing_by-requires-clause-filter
put_passing_by-requires-clause-filter c = subst (ConditionFits c.args.input.source.kinds.now) c.in-Some.is c.requires.filter

pub returns-in-Some : goal.returns-in-Some
returns-in-Some c =
    subst (λ f. IfOk c.put_passing_by.result (IsPassingIn c.args.net.now c.put_passing_by.new.net c.args.input f)) (sym c.in-Some.is) c.put_passing_by.ensures

pub returns-in-None : goal.returns-in-None
returns-in-None c =
    let net = c.args.net.now in
    let lines = c.args.input.lines in
    subst (λ f. IsPassingIn net net c.args.input f lines) (sym c.in-None.is)
    (record {
      keeps = same_keeps net;
      cost = record { nodes = omega arith; registers = omega arith; memories = omega arith };
      row_line = c.requires.input.valid;
      end_line = c.requires.input.eos;
      same_ends = refl;
      passing = λ run r t. all_pass (line_at run lines.valid (suc t));
    })
