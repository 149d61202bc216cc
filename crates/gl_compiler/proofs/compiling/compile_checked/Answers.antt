use Rattle.std.proofs.Common.{ℕ, refl, sym, subst}
use Rattle.gl_gaps.specs.declared.Gaps.{Gaps}
use Rattle.gl_compiler.specs.Meets.{Meets}
use Rattle.gl_compiler.specs.Built.{gaps_of}
use Rattle.gl_compiler.proofs.Planning.{closer_is, copies_are, gaps_are, is_built, latency_is, short}
use Rattle.gl_compiler.proofs.compiling.compile_checked.Goals as goal

pub returns : goal.returns
returns c =
    let schema = c.args.checked.schema in
    let statement = c.args.checked.statement in
    let planned = c.in_ok-planned.planned in
    let text = c.in_ok-made.made.text.items in
    let checked = c.requires.checked in
    let is = c.in_ok-planned.ensures in
    let latency = latency_is schema statement planned checked is c.roots_are_right.ensures in
    let gaps = gaps_are schema statement planned checked is c.roots_are_right.ensures in
    record {
      schema' = refl;
      statement' = refl;
      built = is_built schema statement planned checked is;
      kinds = c.in_ok-made.ensures.kinds;
      latency = latency;
      gaps = gaps;
      closer = closer_is schema statement planned checked is c.roots_are_right.ensures c.gaps_are_no_farther.ensures;
      copies = copies_are schema statement planned checked is;
      short = short schema statement planned checked is c.plans_are_right.ensures;
      plan = is.at;
      figures = is.figures';
      cost = c.in_ok-made.ensures.cost;
      meets =
          subst (λ (g : Gaps). Meets schema statement planned.printed.latency g text) (sym gaps)
          (subst (λ (n : ℕ). Meets schema statement n (gaps_of schema statement) text) (sym latency) c.in_ok-made.ensures.meets);
    }
