use Rattle.std.proofs.Common.{arith, ap, subst, sym, List, Bool, ◌∙◌}
use Rattle.gl_net.specs.declared.node.Bus.{Bus}
use Rattle.gl_net.proofs.Determined.{keeps_then}
use Rattle.gl_net.proofs.Values.{bus_fits}
use Rattle.std.specs.Prelude.{not, ◌&&◌, ◌||◌}
use Rattle.gl_wire.specs.Wire.{AreBuses, line_at, widths}
use Rattle.gl_wire.proofs.ColumnLemmas.{bit_kept, bus_kept, buses_kept}
use Rattle.gl_bits.proofs.AllLists.{get_there}
use Rattle.gl_slots.proofs.PartLemmas.{width_there}
use Rattle.gl_frames_tree.specs.TreeNets.{IsClimb}
use Rattle.gl_frames_tree.proofs.RootNet.{root_is}
use Rattle.gl_frames_tree.proofs.lane.put_root.Goals as goal

pub returns : goal.returns
returns c =
    let node = c.in_ok-node.ensures in
    let goes = c.in_ok-goes_on.ensures in
    let begun = c.in_ok-begun.ensures in
    let fresh = c.in_ok-fresh.ensures in
    let lost = c.in_ok-lost.ensures in
    let wire = c.args.wire.now in
    let k_fresh = lost.keeps in
    let k_begun = keeps_then c.latch.new.net c.but_not-2.new.net c.never.new.net fresh.keeps k_fresh in
    let k_goes = keeps_then c.but_not.new.net c.latch.new.net c.never.new.net begun.keeps k_begun in
    let k_node = keeps_then c.constant.new.self c.but_not.new.net c.never.new.net goes.keeps k_goes in
    let all = keeps_then c.args.net.now c.constant.new.self c.never.new.net node.keeps k_node in
    let same = c.in_ok-columns.ensures ∙ c.as_slice.ensures in
    record {
      keeps = all;
      cost = record {
        nodes = omega (arith, node.size, goes.cost.nodes, begun.cost.nodes, fresh.cost.nodes, lost.cost.nodes);
        registers = omega (arith, node.register_bits, goes.cost.registers, begun.cost.registers, fresh.cost.registers, lost.cost.registers);
        memories = omega (arith, node.memory_bits, goes.cost.memories, begun.cost.memories, fresh.cost.memories, lost.cost.memories);
      };
      has = record {
        wire = record {
          valid = bit_kept c.args.net.now c.never.new.net wire.valid all c.requires.wire.valid;
          eos = bit_kept c.args.net.now c.never.new.net wire.eos all c.requires.wire.eos;
          columns = subst (λ (bs : List Bus). AreBuses c.never.new.net bs) (sym same) (buses_kept c.args.net.now c.never.new.net wire.columns all c.requires.wire.columns);
        };
        same_widths = ap widths same;
        node = bus_kept c.constant.new.self c.never.new.net c.in_ok-node.node k_node node.bus;
        node_width = node.width ∙ c.word.ensures.width;
        next = bus_kept c.constant.new.self c.never.new.net c.in_ok-node.node k_node node.bus;
        next_width = node.width ∙ c.word.ensures.width;
        fresh = bit_kept c.but_not-2.new.net c.never.new.net c.in_ok-fresh.fresh k_fresh fresh.bit;
        lost = lost.bit;
      };
      law = λ run r keys rest some column narrow.
          let at_fresh = k_fresh.runs run r in
          let at_begun = k_begun.runs run r in
          let at_goes = k_goes.runs run r in
          let at_node = k_node.runs run r in
          let key = get_there wire.columns keys.column column in
          let wide = width_there wire.columns keys.column key.0 key.1 in
          subst (λ (bs : List Bus). IsClimb 0 rest run keys wire (record {
            wire = record { valid = wire.valid; eos = wire.eos; columns = bs };
            node = c.in_ok-node.node;
            next = c.in_ok-node.node;
            fresh = c.in_ok-fresh.fresh;
            lost = c.in_ok-lost.lost;
          })) (sym same)
          (root_is run keys wire rest c.in_ok-node.node key.0 c.in_ok-fresh.fresh c.in_ok-begun.begun c.in_ok-lost.lost some key.1 (omega (arith, wide, narrow))
          (bus_fits c.args.net.now key.0 run (c.requires.wire.columns.each keys.column key.0 key.1) (all.runs run r))
          (λ t. node.value run at_node t ∙ c.word.ensures.bits) (λ t. fresh.line run at_fresh t)
          (λ t. begun.line run at_begun t ∙ ap (λ (b : Bool). b || (line_at run c.in_ok-begun.begun t && not (line_at run wire.eos t))) (goes.line run at_goes t))
          (lost.line run r));
    }
