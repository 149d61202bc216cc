use Rattle.std.proofs.Common.{◌≡◌, ◌<◌, Some, length, sym, ap, arith, ◌∙◌}
use Rattle.std.specs.Prelude.{slice_get, slice_index_or}
use Rattle.std.proofs.lemmas.Option.{slice_get-get_or}
use Rattle.gl_net.specs.declared.node.Bus.{Bus}
use Rattle.gl_slots.proofs.JoinLemmas.{keyed_more, keyed_none}
use Rattle.gl_slots.proofs.joins.key_wires.Goals as goal

pub loop-i-init : goal.loop-i-init
loop-i-init c = rw c.new-all.ensures (keyed_none c.args.copies.now c.args.keys.now)

pub loop-i-preserved : goal.loop-i-preserved
loop-i-preserved c =
    let more : c.loop-i.i < length c.args.keys.now = omega (arith, c.loop-i-test.true, c.requires.count) in
    let b : Bus = slice_index_or c.args.keys.now c.loop-i.i (record { node = 0; width = 0 }) in
    let has : slice_get c.args.copies.now c.loop-i.i ≡ Some c.index-copies-i.result = slice_get-get_or _ _ c.index-copies-i.result c.loop-i-test.true ∙ ap Some (sym c.index-copies-i.is) in
    let has_key : slice_get c.args.keys.now c.loop-i.i ≡ Some b = slice_get-get_or _ _ _ more in
    rw c.in_ok-push.ensures.ok (keyed_more c.args.copies.now c.args.keys.now c.loop-i.i c.loop-i.all c.in_ok-wire.wire c.index-copies-i.result b c.loop-i.invariant has has_key c.in_ok-wire.ensures)
