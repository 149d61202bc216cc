use Rattle.std.proofs.Common.{◌≡◌, ℕ, ◌≤◌, ◌++◌, ◌∙◌, ap, sym, subst, length, List, arith}
use Rattle.gl_verilog_writer.specs.Design.{module_text}
use Rattle.gl_verilog_writer.specs.Meaning.{IsTextOf}
use Rattle.gl_verilog_writer.specs.Size.{most_bytes}
use Rattle.gl_testbench.proofs.Emissions.{emission}
use Rattle.gl_testbench.proofs.NodeCounts.{nodes_few}
use Rattle.gl_testbench.proofs.emitting.emit.Goals as goal

pub returns : goal.returns
returns c =
    let net = c.args.net.now in
    let labels = c.args.labels.now in
    let text = c.write_module.new.into.items in
    let e : module_text labels net ≡ text = sym (c.in_ok-write_module.ensures.text ∙ ap (λ (xs : List ℕ). xs ++ module_text labels net) c.new-text.ensures.items) in
    let short = subst (λ (xs : List ℕ). length xs ≤ most_bytes net) e c.in_ok-write_module.ensures.length in
    let meaning = subst (IsTextOf net) e c.write_module.ensures.meaning in
    record {
      text = λ ticks schema outputs is takes. emission c.event_runs_are_runs.ensures.runs c.has_event_runs.ensures.same c.inputs_are_ports.ensures net schema text meaning ticks outputs is takes;
      registers = c.cost_of.ensures.registers;
      memories = c.cost_of.ensures.memories;
      short = short;
      fits = λ light few.
          let count = nodes_few net c.nodes.ensures.netlist.formed in
          let room = c.write_module.ensures.room (omega (arith, count, light, few)) few in
          omega (arith, short, room);
    }
