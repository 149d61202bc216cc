use Rattle.std.proofs.Common.{◌≡◌, ℕ, suc, ◌^◌, ◌<◌, Some, ap, arith, sym, subst, ◌∙◌}
use Rattle.std.specs.Prelude.{if◌then◌else◌, slice_index}
use Rattle.std.proofs.Math.Nat.{mod-eq_of_lt}
use Rattle.gl_algebra.specs.Results.{counts_in}
use Rattle.gl_bits.specs.Words.{join_of}
use Rattle.gl_algebra.specs.Columns.{kind_of_operand}
use Rattle.gl_values.specs.Kinds.{width_of}
use Rattle.gl_totals.proofs.KindLemmas.{operand_kind}
use Rattle.gl_net.proofs.Determined.{keeps_then}
use Rattle.gl_net.proofs.Values.{bus_fits}
use Rattle.gl_wire.proofs.ColumnLemmas.{bus_kept}
use Rattle.gl_frames_stages.specs.Framing.{value_in}
use Rattle.gl_frames_stages.specs.Inputs.{rows_by}
use Rattle.gl_frames_stages.proofs.FilteredNet.{packed_word}
use Rattle.gl_frames_stages.proofs.InputNet.{column_kind, column_there, input_kept}
use Rattle.gl_frames_stages.proofs.filtered.put_packed.Goals as goal

pub put_operand-requires-clause-source : goal.put_operand-requires-clause-source
put_operand-requires-clause-source c = c.requires.input.source

pub put_masked-requires-clause-input : goal.put_masked-requires-clause-input
put_masked-requires-clause-input c = input_kept _ _ c.args.input c.in_ok-value.ensures.keeps c.requires.input

pub put_operand-requires-2-clause-source : goal.put_operand-requires-2-clause-source
put_operand-requires-2-clause-source c =
    (input_kept _ _ c.args.input (keeps_then _ c.put_operand.new.net _ c.in_ok-value.ensures.keeps c.in_ok-masked.ensures.keeps) c.requires.input).source

pub put_operand-requires-2-clause-fits : goal.put_operand-requires-2-clause-fits
put_operand-requires-2-clause-fits c = column_there c.args.input.source.kinds.now c.args.column c.requires.filter

pub join-requires-clause-low : goal.join-requires-clause-low
join-requires-clause-low c = bus_kept _ _ c.in_ok-masked.masked c.in_ok-passes.ensures.keeps c.in_ok-masked.ensures.bus

pub join-requires-clause-widths : goal.join-requires-clause-widths
join-requires-clause-widths c =
    let a = c.in_ok-passes.ensures.same_width ∙ ap width_of (column_kind c.args.input.source.kinds.now c.args.column c.requires.filter) in
    let b = c.in_ok-masked.ensures.same_width ∙ c.in_ok-value.ensures.same_width in
    let most = (operand_kind c.args.input.source.kinds.now c.args.operand c.requires.kinds c.requires.fits).1 in
    omega (arith, a, b, most)

pub returns : goal.returns
returns c =
    let input = c.args.input in
    let column = c.args.column in
    let w : ℕ = width_of (kind_of_operand input.source.kinds.now c.args.operand) in
    let value = c.in_ok-value.ensures in
    let masked = c.in_ok-masked.ensures in
    let passes = c.in_ok-passes.ensures in
    let packed = c.in_ok-packed.ensures in
    let x = c.in_ok-value.value in
    let m = c.in_ok-masked.masked in
    let b = c.in_ok-passes.passes in
    let one : b.width ≡ 1 = passes.same_width ∙ ap width_of (column_kind c.args.input.source.kinds.now c.args.column c.requires.filter) in
    let wide : m.width ≡ w = masked.same_width ∙ value.same_width in
    record {
      keeps = keeps_then _ c.put_operand.new.net _ value.keeps (keeps_then _ c.put_masked.new.net _ masked.keeps (keeps_then _ c.put_operand-2.new.net _ passes.keeps packed.keeps));
      cost = record {
        nodes = omega (arith, value.cost.nodes, masked.cost.nodes, passes.cost.nodes, packed.size);
        registers = omega (arith, value.cost.registers, masked.cost.registers, passes.cost.registers, packed.register_bits);
        memories = omega (arith, value.cost.memories, masked.cost.memories, passes.cost.memories, packed.memory_bits);
      };
      bus = packed.bus;
      width = (let whole = packed.width in omega (arith, whole, one, wide));
      values = λ run r t.
          let at_passes = packed.keeps.runs run r in
          let at_masked = passes.keeps.runs run at_passes in
          let at_value = masked.keeps.runs run at_masked in
          let fits : (u : ℕ) → run.at u x.node < 2 ^ w = subst (λ k. (u : ℕ) → run.at u x.node < 2 ^ k) value.same_width (bus_fits c.put_operand.new.net x run value.bus at_value) in
          sym (mod-eq_of_lt (subst (λ n. n < 2 ^ w) (value.carries run at_value (suc t)) (fits (suc t))));
      packs = λ run r t.
          let at_passes = packed.keeps.runs run r in
          let at_masked = passes.keeps.runs run at_passes in
          let at_value = masked.keeps.runs run at_masked in
          let row = rows_by run input (suc t) in
          let fits : (u : ℕ) → run.at u x.node < 2 ^ w = subst (λ k. (u : ℕ) → run.at u x.node < 2 ^ k) value.same_width (bus_fits c.put_operand.new.net x run value.bus at_value) in
          let small : (u : ℕ) → run.at u b.node < 2 ^ 1 = subst (λ k. (u : ℕ) → run.at u b.node < 2 ^ k) one (bus_fits c.put_operand-2.new.net b run passes.bus at_passes) in
          packed.value run r (suc t)
          ∙ ap (λ k. join_of k (run.at (suc t) b.node) (run.at (suc t) m.node)) wide
          ∙ ap (λ n. join_of w n (run.at (suc t) m.node)) (passes.carries run at_passes (suc t))
          ∙ ap (join_of w (slice_index row column)) (masked.masks run at_masked t ∙ ap (λ n. if counts_in (Some column) row then n else 0) (value.carries run at_value (suc t)))
          ∙ packed_word w (slice_index row column) (value_in run.held c.args.operand row) (subst (λ n. n < 2) (passes.carries run at_passes (suc t)) (small (suc t)))
          (subst (λ n. n < 2 ^ w) (value.carries run at_value (suc t)) (fits (suc t)));
    }
