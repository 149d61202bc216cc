use Rattle.std.proofs.Common.{sym}
use Rattle.std.specs.Prelude.{slice_index_or}
use Rattle.std.proofs.lemmas.Option.{slice_get-get_or}
use Rattle.gl_net.specs.declared.node.Bus.{Bus}
use Rattle.gl_wire.specs.Gates.{same_at}
use Rattle.gl_wire.proofs.ColumnLemmas.{bus_kept}
use Rattle.gl_wire_registers.proofs.LineLemmas.{lines_more}
use Rattle.gl_slots.specs.SlotLines.{same_to}
use Rattle.gl_slots.proofs.SlotNet.{same_here, same_line}
use Rattle.gl_slots.proofs.slots.same_each.Goals as goal

pub same-requires-clause-left : goal.same-requires-clause-left
same-requires-clause-left c = bus_kept c.args.net.now c.loop-key.net _ c.loop-key.invariant.keeps c.requires.value

pub same-requires-clause-right : goal.same-requires-clause-right
same-requires-clause-right c = bus_kept c.args.net.now c.loop-key.net _ c.loop-key.invariant.keeps (c.requires.keys.each c.loop-key.key-index _ (slice_get-get_or _ _ _ c.loop-key-test.true))

pub same-requires-clause-widths : goal.same-requires-clause-widths
same-requires-clause-widths c = sym (c.requires.keys.widths c.loop-key.key-index _ (slice_get-get_or _ _ _ c.loop-key-test.true))

pub loop-key-preserved : goal.loop-key-preserved
loop-key-preserved c =
    let x : Bus = slice_index_or c.args.keys.now c.loop-key.key-index (record { node = 0; width = 0 }) in
    rw (c.in_ok-push.ensures.ok)
    (lines_more c.args.net.now c.loop-key.net c.same.new.net c.loop-key.key-index 1 c.loop-key.all c.in_ok-bit.bit (same_to c.args.value c.args.keys.now) (λ run t. same_at run c.args.value x t) c.loop-key.invariant
    (same_line c.loop-key.net c.same.new.net c.args.value x c.in_ok-bit.bit c.in_ok-bit.ensures)
    (λ run r t. same_here run c.args.value x c.args.keys.now c.loop-key.key-index t (slice_get-get_or _ _ _ c.loop-key-test.true)))
