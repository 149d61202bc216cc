use Rattle.std.proofs.Common.{List, ap, subst, sym, ◌∙◌}
use Rattle.std.specs.Prelude.{slice_get}
use Rattle.gl_net.specs.declared.node.Bus.{Bus}
use Rattle.gl_wire.specs.Wire.{widths}
use Rattle.gl_wire_registers.specs.Backs.{Merges}
use Rattle.gl_wire_registers.proofs.BackLemmas.{merges_none, merges_only}
use Rattle.gl_wire_registers.proofs.back.merge_few.Goals as goal

pub returns-in_default : goal.returns-in_default
returns-in_default c =
    subst (λ (bs : List Bus). Merges c.args.net.now c.never.new.net c.args.wires.now (widths c.args.columns.now) (record { valid = c.in_ok-valid.valid; columns = bs })) (sym c.in_ok-columns.ensures)
    (merges_none c.args.net.now c.never.new.net c.args.wires.now c.in_ok-valid.valid c.args.columns.now c.in_ok-valid.ensures c.requires.columns c.in_default.ensures.cases)

pub returns : goal.returns
returns c =
    subst (λ (bs : List Bus). Merges c.args.net.now c.args.net.now c.args.wires.now (widths c.args.columns.now) (record { valid = c.in-Some.wire.now.valid; columns = bs }))
    (sym (c.in_ok-columns-2.ensures ∙ c.as_slice.ensures))
    (merges_only c.args.net.now c.args.wires.now c.in-Some.wire.now (widths c.args.columns.now) c.requires.wires (ap (λ l. slice_get l 0) c.in-Some.ensures.cases.0) c.requires.few)
