use Rattle.std.proofs.Common.{List, ◌++◌, [], ◌∷◌, ap, sym, subst, ◌∙◌, refl}
use Rattle.gl_net.specs.declared.node.Bus.{Bus}
use Rattle.gl_wire.specs.Wire.{AreBuses, widths}
use Rattle.gl_wire.proofs.ColumnLemmas.{AreBuses-none, AreBuses-push}
use Rattle.gl_blocks_tests.proofs.CircuitLemmas.{bit_stays, bus_stays, five_ports}
use Rattle.gl_blocks_tests.proofs.circuit.put_source.Goals as goal

pub returns : goal.returns
returns c =
    let net = c.input-5.new.self in
    let rst = c.in_ok-_rst.ensures in
    let valid = c.in_ok-valid.ensures in
    let eos = c.in_ok-eos.ensures in
    let a = c.in_ok-a.ensures in
    let b = c.in_ok-b.ensures in
    let none = subst (AreBuses net) (sym c.new-columns.ensures) (AreBuses-none net) in
    let first = bus_stays c.input-4.new.self net c.in_ok-a.a b.grows.shapes a.bus in
    let one = subst (AreBuses net) (sym c.in_ok-push.ensures.ok) (AreBuses-push net c.new-columns.result c.in_ok-a.a none first) in
    record {
      wire = record {
        valid = bit_stays c.input-2.new.self net c.in_ok-valid.valid c.bit.result
            (λ n s h. b.grows.shapes n s (a.grows.shapes n s (eos.grows.shapes n s h))) valid.bus valid.width c.bit.ensures;
        eos = bit_stays c.input-3.new.self net c.in_ok-eos.eos c.bit-2.result (λ n s h. b.grows.shapes n s (a.grows.shapes n s h)) eos.bus eos.width c.bit-2.ensures;
        columns = subst (AreBuses net) (sym c.in_ok-push-2.ensures.ok) (AreBuses-push net c.push.new.self c.in_ok-b.b one b.bus);
      };
      same_widths = ap widths (c.in_ok-push-2.ensures.ok ∙ ap (λ (bs : List Bus). bs ++ c.in_ok-b.b ∷ []) (c.in_ok-push.ensures.ok ∙ ap (λ (bs : List Bus). bs ++ c.in_ok-a.a ∷ []) c.new-columns.ensures))
          ∙ rw (a.width, b.width) refl;
      undriven = λ n. b.undriven n ∙ a.undriven n ∙ eos.undriven n ∙ valid.undriven n ∙ rst.undriven n ∙ c.requires.undriven n;
      rst = c.in_ok-_rst._rst.node;
      valid = c.in_ok-valid.valid.node;
      eos = c.in_ok-eos.eos.node;
      a = c.in_ok-a.a.node;
      b = c.in_ok-b.b.node;
      ports = five_ports _ _ _ _ _ _ _ _ _ _ _ b.ports a.ports eos.ports valid.ports rst.ports c.requires.ports;
      reset = b.grows.shapes _ _ (a.grows.shapes _ _ (eos.grows.shapes _ _ (valid.grows.shapes _ _ (rw rst.width at rst.bus.there))));
    }
