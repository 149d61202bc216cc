use Rattle.std.proofs.Common.{ℕ, Option, Some, arith, refl, sym, subst, ◌∙◌}
use Rattle.std.specs.Prelude.{IfOk}
use Rattle.std.proofs.lemmas.Result.{IfOk-weaker}
use Rattle.gl_algebra.specs.Columns.{ConditionFits}
use Rattle.gl_algebra.specs.Results.{counts_in}
use Rattle.gl_values.specs.Totals.{count_of}
use Rattle.gl_frames.specs.Frames.{frame_of}
use Rattle.gl_net.proofs.Determined.{keeps_then}
use Rattle.gl_frames_stages.specs.Average.{cost_of_frame_number}
use Rattle.gl_frames_stages.specs.Columns.{carried_by}
use Rattle.gl_frames_stages.specs.Framing.{cost_of_passing_count, every}
use Rattle.gl_frames_stages.specs.Inputs.{IsItemIn, rows_by}
use Rattle.gl_frames_stages.proofs.MeetLemmas.{tells_behind}
use Rattle.gl_frames_stages.proofs.WholeNet.{item_as}
use Rattle.gl_frames_stages.proofs.average.put_frame_number.Goals as goal

pub put_passing_count-requires-clause-filter : goal.put_passing_count-requires-clause-filter
put_passing_count-requires-clause-filter c = subst (ConditionFits c.args.input.source.kinds.now) c.in-Some.is c.requires.filter

pub returns-in-Some : goal.returns-in-Some
returns-in-Some c =
    let back = c.args.back in
    let p = counts_in (Some c.in-Some.column) in
    let old = c.args.net.now in
    let new = c.put_passing_count.new.net in
    subst (λ (f : Option ℕ). IfOk c.put_passing_count.result (IsItemIn old new (cost_of_frame_number back) 3 32 (λ sets rows. count_of (frame_of (Some back) (counts_in f) rows)) c.args.input))
    (sym c.in-Some.is)
    (IfOk-weaker c.put_passing_count.result (IsItemIn old new (cost_of_passing_count back) 3 32 (λ sets rows. count_of (frame_of (Some back) p rows)) c.args.input)
    (IsItemIn old new (cost_of_frame_number back) 3 32 (λ sets rows. count_of (frame_of (Some back) p rows)) c.args.input)
    (λ out. item_as old new (cost_of_passing_count back) (cost_of_frame_number back) 3 3 32 32 (λ sets rows. count_of (frame_of (Some back) p rows)) (λ sets rows. count_of (frame_of (Some back) p rows)) c.args.input out
    (omega arith) (omega arith) (omega arith) refl refl (λ sets rows. refl)) c.put_passing_count.ensures)

pub returns-in_ok-out-in-None : goal.returns-in_ok-out-in-None
returns-in_ok-out-in-None c =
    let back = c.args.back in
    let input = c.args.input in
    let number = c.in_ok-number-in-None.ensures in
    let out = c.in_ok-out-in-None.ensures in
    let n = c.in_ok-number-in-None.number in
    let o = c.in_ok-out-in-None.out in
    let new = c.delay_bus.new.net in
    subst (λ (f : Option ℕ). IsItemIn c.args.net.now new (cost_of_frame_number back) 3 32 (λ sets rows. count_of (frame_of (Some back) (counts_in f) rows)) input o)
    (sym c.in-None.is)
    (record {
      keeps = keeps_then _ c.put_number_item.new.net _ number.keeps out.keeps;
      cost = record {
        nodes = omega (arith, number.cost.nodes, out.cost.nodes);
        registers = omega (arith, number.cost.registers, out.cost.registers, number.same_width);
        memories = omega (arith, number.cost.memories, out.cost.memories);
      };
      bus = out.bus;
      same_width = out.same_width ∙ number.same_width;
      tells = λ run r.
          tells_behind run input.lines 1 2 (λ rows. count_of (frame_of (Some back) every rows)) (rows_by run input) (carried_by run n) (carried_by run o) (out.value run r)
          (number.tells run (out.keeps.runs run r));
    })
