use Rattle.std.proofs.Common.{ℕ, Bool, suc, ap, arith, sym, ◌∙◌}
use Rattle.std.specs.Prelude.{if◌then◌else◌, nat_eq, slice_index}
use Rattle.gl_values.specs.Kinds.{width_of}
use Rattle.gl_net.proofs.Determined.{keeps_then}
use Rattle.gl_wire.specs.Wire.{row_at}
use Rattle.gl_wire.proofs.ColumnLemmas.{bit_kept, bus_kept}
use Rattle.gl_wire.proofs.GateLemmas.{bit_of, choose_line}
use Rattle.gl_frames_stages.proofs.InputNet.{bit_at, column_kind, column_there}
use Rattle.gl_frames_stages.proofs.input.put_masked_by.Goals as goal

pub put_operand-requires-clause-source : goal.put_operand-requires-clause-source
put_operand-requires-clause-source c = c.requires.input.source

pub put_operand-requires-clause-fits : goal.put_operand-requires-clause-fits
put_operand-requires-clause-fits c = column_there c.args.input.source.kinds.now c.args.column c.requires.filter

pub bit-requires : goal.bit-requires
bit-requires c = c.in_ok-passes.ensures.same_width ∙ ap width_of (column_kind c.args.input.source.kinds.now c.args.column c.requires.filter)

pub choose-requires-clause-test : goal.choose-requires-clause-test
choose-requires-clause-test c =
    let passes = c.in_ok-passes.ensures in
    bit_kept _ _ c.bit.result c.in_ok-zero.ensures.keeps
    (bit_of c.put_operand.new.net c.in_ok-passes.passes c.bit.result passes.bus (passes.same_width ∙ ap width_of (column_kind c.args.input.source.kinds.now c.args.column c.requires.filter)) c.bit.ensures)

pub choose-requires-clause-yes : goal.choose-requires-clause-yes
choose-requires-clause-yes c = bus_kept _ _ c.args.value (keeps_then _ c.put_operand.new.net _ c.in_ok-passes.ensures.keeps c.in_ok-zero.ensures.keeps) c.requires.value

pub choose-requires-clause-widths : goal.choose-requires-clause-widths
choose-requires-clause-widths c = sym (c.in_ok-zero.ensures.width ∙ c.small_word.ensures.width)

pub returns : goal.returns
returns c =
    let value = c.args.value in
    let passes = c.in_ok-passes.ensures in
    let zero = c.in_ok-zero.ensures in
    let masked = c.in_ok-masked.ensures in
    let z = c.in_ok-zero.zero in
    record {
      keeps = keeps_then _ c.put_operand.new.net _ passes.keeps (keeps_then _ c.constant.new.self _ zero.keeps masked.keeps);
      cost = record {
        nodes = omega (arith, passes.cost.nodes, zero.size, masked.size);
        registers = omega (arith, passes.cost.registers, zero.register_bits, masked.register_bits);
        memories = omega (arith, passes.cost.memories, zero.memory_bits, masked.memory_bits);
      };
      bus = masked.bus;
      same_width = masked.width;
      masks = λ run r t.
          let at_zero = masked.keeps.runs run r in
          let x : ℕ = slice_index (row_at run (suc t) c.args.input.source.columns.now) c.args.column in
          masked.value run r (suc t) ∙ choose_line run c.bit.result (run.at (suc t) value.node) (run.at (suc t) z.node) t
          ∙ ap (λ (b : Bool). if b then run.at (suc t) value.node else run.at (suc t) z.node)
          (bit_at run c.bit.result t x (ap (run.at (suc t)) c.bit.ensures ∙ passes.carries run (zero.keeps.runs run at_zero) (suc t)))
          ∙ ap (λ (n : ℕ). if nat_eq x 1 then run.at (suc t) value.node else n) (zero.value run at_zero (suc t) ∙ c.small_word.ensures.bits);
    }
