use Rattle.std.proofs.Common.{ℕ, ap, arith}
use Rattle.gl_algebra.specs.Keys.{cycles_of_look_up}
use Rattle.gl_frames_parted.proofs.PartedLemmas.{slot_soon}
use Rattle.gl_frames_parted.proofs.places.partition_by.Goals as goal

pub overflow_sub-wait : goal.overflow_sub-wait
overflow_sub-wait c =
    let soon = slot_soon c.args.kinds.now c.args.by in
    let width = ap (λ (w : ℕ). cycles_of_look_up w c.args.by.groups) c.width_of_key.ensures.value in
    omega (arith, soon, width, c.cycles_of_look_up-cycles.ensures.value, c.cycles_to_slot.ensures)
