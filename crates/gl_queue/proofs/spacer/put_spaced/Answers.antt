use Rattle.std.proofs.Common.{◌≡◌, ℕ, List, ◌∷◌, drop, refl, sym, ap, ◌∙◌, arith, subst}
use Rattle.std.specs.Prelude.{slice_index_or}
use Rattle.gl_net.specs.declared.node.Bus.{Bus}
use Rattle.gl_net.specs.Net.{Keeps}
use Rattle.gl_net.proofs.Determined.{keeps_then}
use Rattle.gl_wire.specs.Wire.{AreBuses, widths}
use Rattle.gl_wire.proofs.ColumnLemmas.{buses_kept, wire_kept}
use Rattle.gl_queue.specs.Costs.{cost_of_queue}
use Rattle.gl_queue.specs.SpacerLines.{IsPacedOf, bus_of}
use Rattle.gl_queue.proofs.SpacerLinesLemmas.{spacer_is}
use Rattle.gl_queue.proofs.SpacerNet.{buses_behind, first_bit, lines_buses, lines_in_front, second_bit}
use Rattle.gl_queue.proofs.spacer.put_spaced.Goals as goal

pub put_paced-requires-clause-columns : goal.put_paced-requires-clause-columns
put_paced-requires-clause-columns c =
    subst (AreBuses c.either.new.net) (sym (c.as_slice.ensures ∙ c.in_ok-columns.ensures))
    (lines_buses c.either.new.net c.args.wire.now (wire_kept c.args.net.now c.either.new.net c.args.wire.now c.in_ok-comes.ensures.keeps c.requires.wire))

pub both-requires-clause-right : goal.both-requires-clause-right
both-requires-clause-right c =
    let p = c.in_ok-paced.ensures in
    first_bit c.put_paced.new.net c.as_slice-shown.result.now (record { node = 0; width = 0 }) (widths c.args.wire.now.columns) c.bit.result
    (subst (AreBuses c.put_paced.new.net) (sym c.as_slice-shown.ensures) p.buses)
    (ap widths c.as_slice-shown.ensures ∙ p.same_widths ∙ ap widths (c.as_slice.ensures ∙ c.in_ok-columns.ensures)) c.bit.ensures

pub both-requires-2-clause-right : goal.both-requires-2-clause-right
both-requires-2-clause-right c =
    let p = c.in_ok-paced.ensures in
    second_bit c.both.new.net c.as_slice-shown.result.now (record { node = 0; width = 0 }) (widths c.args.wire.now.columns) c.bit-2.result
    (buses_kept c.put_paced.new.net c.both.new.net _ c.in_ok-valid.ensures.keeps (subst (AreBuses c.put_paced.new.net) (sym c.as_slice-shown.ensures) p.buses))
    (ap widths c.as_slice-shown.ensures ∙ p.same_widths ∙ ap widths (c.as_slice.ensures ∙ c.in_ok-columns.ensures)) c.bit-2.ensures

pub returns : goal.returns
returns c = rw c.note_stage.ensures (
    let w = c.args.wire.now in
    let n = c.args.depth in
    let g = c.args.gap in
    let p = c.in_ok-paced.paced in
    let first = c.bit.result in
    let second = c.bit-2.result in
    let outs = c.in_ok-columns-2.columns in
    let none : Bus = record { node = 0; width = 0 } in
    let comes = c.in_ok-comes.ensures in
    let valid = c.in_ok-valid.ensures in
    let eos = c.in_ok-eos.ensures in
    let all : List Bus = bus_of w.valid ∷ bus_of w.eos ∷ w.columns in
    let paced : IsPacedOf c.either.new.net c.put_paced.new.net n g c.in_ok-comes.comes all p =
    subst (λ (bs : List Bus). IsPacedOf c.either.new.net c.put_paced.new.net n g c.in_ok-comes.comes bs p) (c.as_slice.ensures ∙ c.in_ok-columns.ensures) c.in_ok-paced.ensures in
    let shown : c.as_slice-shown.result.now ≡ p.queue.columns = c.as_slice-shown.ensures in
    let parts = lines_in_front p.queue.columns none (widths w.columns) first second paced.same_widths
    (c.bit.ensures ∙ ap (λ (bs : List Bus). (slice_index_or bs 0 none).node) shown) (c.bit-2.ensures ∙ ap (λ (bs : List Bus). (slice_index_or bs 1 none).node) shown) in
    let rest : outs ≡ drop 2 p.queue.columns = c.in_ok-columns-2.ensures ∙ ap (λ (bs : List Bus). drop 2 bs) shown in
    let is : p.queue.columns ≡ bus_of first ∷ bus_of second ∷ outs = parts.0 ∙ ap (λ (bs : List Bus). bus_of first ∷ bus_of second ∷ bs) (sym rest) in
    let same : widths all ≡ 1 ∷ 1 ∷ widths w.columns = refl in
    let same_nodes = ap (λ (ws : List ℕ). (cost_of_queue n ws).nodes) same in
    let same_registers = ap (λ (ws : List ℕ). (cost_of_queue n ws).registers) same in
    let same_memories = ap (λ (ws : List ℕ). (cost_of_queue n ws).memories) same in
    let behind : Keeps c.put_paced.new.net c.both-2.new.net = keeps_then _ c.both.new.net _ valid.keeps eos.keeps in
    record {
      keeps = keeps_then c.args.net.now c.either.new.net _ comes.keeps (keeps_then _ c.put_paced.new.net _ paced.keeps behind);
      cost = record {
        nodes = omega (arith, comes.cost.nodes, paced.cost.nodes, valid.cost.nodes, eos.cost.nodes, same_nodes);
        registers = omega (arith, comes.cost.registers, paced.cost.registers, valid.cost.registers, eos.cost.registers, same_registers);
        memories = omega (arith, comes.cost.memories, paced.cost.memories, valid.cost.memories, eos.cost.memories, same_memories);
      };
      wire = record {
        valid = record { there = eos.keeps.shapes _ _ valid.bit.there };
        eos = eos.bit;
        columns = buses_kept _ _ _ behind (buses_behind c.put_paced.new.net (bus_of first) (bus_of second) outs (subst (AreBuses c.put_paced.new.net) is paced.buses));
      };
      same_widths = ap widths rest ∙ parts.1;
      passed = record { there = behind.shapes _ _ paced.passed.there };
      spacing = λ run r.
          let at_valid = eos.keeps.runs run r in
          let at_paced = valid.keeps.runs run at_valid in
          let at_comes = paced.keeps.runs run at_paced in
          spacer_is run g n w (record { valid = c.in_ok-valid.valid; eos = c.in_ok-eos.eos; columns = outs }) c.in_ok-comes.comes first second p is
          (paced.pacing run at_paced) (valid.line run at_valid) (eos.line run r) (comes.line run at_comes);
    })
