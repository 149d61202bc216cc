use Rattle.std.proofs.Common.{refl, arith, sym, subst}
use Rattle.std.specs.Prelude.{IfOk}
use Rattle.gl_algebra.specs.Columns.{ConditionFits}
use Rattle.gl_net.proofs.Growth.{same_keeps}
use Rattle.gl_frames_stages.specs.Inputs.{IsMaskedIn}
use Rattle.gl_frames_stages.proofs.input.put_masked.Goals as goal

pub put_masked_by-requires-clause-filter : goal.put_masked_by-requires-clause-filter
put_masked_by-requires-clause-filter c = subst (ConditionFits c.args.input.source.kinds.now) c.in-Some.is c.requires.filter

pub returns-in-Some : goal.returns-in-Some
returns-in-Some c =
    subst (λ f. IfOk c.put_masked_by.result (IsMaskedIn c.args.net.now c.put_masked_by.new.net c.args.input f c.args.value)) (sym c.in-Some.is) c.put_masked_by.ensures

pub returns-in-None : goal.returns-in-None
returns-in-None c =
    let net = c.args.net.now in
    subst (λ f. IsMaskedIn net net c.args.input f c.args.value c.args.value) (sym c.in-None.is)
    (record {
      keeps = same_keeps net;
      cost = record { nodes = omega arith; registers = omega arith; memories = omega arith };
      bus = c.requires.value;
      same_width = refl;
      masks = λ run r t. refl;
    })
