use Rattle.std.proofs.Common.{List, length, subst, sym, ap, ◌∙◌}
use Rattle.gl_net.specs.declared.node.Bit.{Bit}
use Rattle.gl_wire_registers.specs.Lines.{AreBits}
use Rattle.gl_partition.specs.Fronts.{AddsSlots}
use Rattle.gl_partition.proofs.front.put_looked.Goals as goal

pub put_windows-requires-clause-matches : goal.put_windows-requires-clause-matches
put_windows-requires-clause-matches c = subst (AreBits c.args.net.now) (sym c.as_slice-matches.ensures) c.requires.matches

pub put_windows-requires-clause-dues : goal.put_windows-requires-clause-dues
put_windows-requires-clause-dues c = subst (AreBits c.args.net.now) (sym c.as_slice-dues.ensures) c.requires.dues

pub put_windows-requires-clause-count : goal.put_windows-requires-clause-count
put_windows-requires-clause-count c = ap (λ (bs : List Bit). length bs) c.as_slice-dues.ensures ∙ c.requires.count ∙ sym (ap (λ (bs : List Bit). length bs) c.as_slice-matches.ensures)

pub returns : goal.returns
returns c =
    let look = c.args.look.now in
    subst (λ (ds : List Bit). AddsSlots c.args.net.now c.put_windows.new.net c.args.wire.now.valid c.args.wire.now.eos look.tail look.matches ds c.args.sizes.size c.args.sizes.advance c.args.sizes.copies (length look.matches) c.in_ok-chosen.chosen) c.as_slice-dues.ensures
    (subst (λ (ms : List Bit). AddsSlots c.args.net.now c.put_windows.new.net c.args.wire.now.valid c.args.wire.now.eos look.tail ms c.as_slice-dues.result.now c.args.sizes.size c.args.sizes.advance c.args.sizes.copies (length ms) c.in_ok-chosen.chosen) c.as_slice-matches.ensures c.in_ok-chosen.ensures)
