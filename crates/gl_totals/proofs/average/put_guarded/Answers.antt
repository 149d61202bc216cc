use Rattle.std.proofs.Common.{suc, arith, ◌∙◌}
use Rattle.gl_net.proofs.Determined.{keeps_then}
use Rattle.gl_wire.proofs.ColumnLemmas.{bus_kept}
use Rattle.gl_totals.proofs.AverageNet.{choose_empty}
use Rattle.gl_totals.proofs.average.put_guarded.Goals as goal

pub returns : goal.returns
returns c =
    let new = c.choose-2.new.self in
    let given = c.args.fraction in
    let none = c.in_ok-none.ensures in
    let empty = c.in_ok-empty.ensures in
    let one = c.in_ok-one.ensures in
    let bottom = c.in_ok-bottom.ensures in
    let nothing = c.in_ok-nothing.ensures in
    let top = c.in_ok-top.ensures in
    let behind = keeps_then _ c.constant-3.new.self new nothing.keeps top.keeps in
    record {
      keeps = keeps_then _ c.constant.new.self _ none.keeps (keeps_then _ c.same.new.net _ empty.keeps
          (keeps_then _ c.constant-2.new.self _ one.keeps (keeps_then _ c.choose.new.self _ bottom.keeps behind)));
      cost = record {
        nodes = omega (arith, none.size, empty.cost.nodes, one.size, bottom.size, nothing.size, top.size);
        registers = omega (arith, none.register_bits, empty.cost.registers, one.register_bits, bottom.register_bits, nothing.register_bits, top.register_bits);
        memories = omega (arith, none.memory_bits, empty.cost.memories, one.memory_bits, bottom.memory_bits, nothing.memory_bits, top.memory_bits);
      };
      top = top.bus;
      top_width = top.width ∙ nothing.width ∙ c.small_word-3.ensures.width;
      bottom = bus_kept c.choose.new.self new c.in_ok-bottom.bottom behind bottom.bus;
      bottom_width = bottom.width ∙ one.width ∙ c.small_word-2.ensures.width;
      tops = λ run r t.
          let at_nothing = top.keeps.runs run r in
          let at_one = bottom.keeps.runs run (nothing.keeps.runs run at_nothing) in
          let at_empty = one.keeps.runs run at_one in
          top.value run r (suc t)
          ∙ choose_empty run c.in_ok-empty.empty given.bottom c.in_ok-none.none t (run.at (suc t) c.in_ok-nothing.nothing.node) (run.at (suc t) given.top.node) 0
          (empty.line run at_empty (suc t)) (none.value run (empty.keeps.runs run at_empty) (suc t) ∙ c.small_word.ensures.bits)
          (nothing.value run at_nothing (suc t) ∙ c.small_word-3.ensures.bits);
      bottoms = λ run r t.
          let at_bottom = nothing.keeps.runs run (top.keeps.runs run r) in
          let at_one = bottom.keeps.runs run at_bottom in
          let at_empty = one.keeps.runs run at_one in
          bottom.value run at_bottom (suc t)
          ∙ choose_empty run c.in_ok-empty.empty given.bottom c.in_ok-none.none t (run.at (suc t) c.in_ok-one.one.node) (run.at (suc t) given.bottom.node) 1
          (empty.line run at_empty (suc t)) (none.value run (empty.keeps.runs run at_empty) (suc t) ∙ c.small_word.ensures.bits)
          (one.value run at_one (suc t) ∙ c.small_word-2.ensures.bits);
    }
