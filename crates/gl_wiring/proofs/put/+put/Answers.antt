use Rattle.std.proofs.Common.{ℕ, ◌∙◌, ◌+◌, ◌<◌, Some, refl, sym, ap, subst, arith}
use Rattle.std.proofs.lemmas.Option.{slice_get-get_or}
use Rattle.gl_algebra.specs.declared.node.PlanNode.TheVariants.{Window, TimeWindow, Group, Partition}
use Rattle.gl_wire.specs.declared.emitted.Emitted.{Emitted}
use Rattle.gl_wire.specs.Wire.{widths}
use Rattle.gl_wire_registers.proofs.FrontLemmas.{fronts_kept}
use Rattle.gl_wiring.specs.Copies.{AreBodies}
use Rattle.gl_wiring.specs.Machines.{machine_of}
use Rattle.gl_wiring.proofs.AboveLemmas.{none_if}
use Rattle.gl_wiring.proofs.CanLemmas.{second_before, second_within}
use Rattle.gl_wiring.proofs.CopyLemmas.{bodies_copies, bodies_more, bodies_none, can_copies, can_copy}
use Rattle.gl_wiring.proofs.GroupLemmas as groups
use Rattle.gl_wiring.proofs.MarkedLemmas.{marked_kept, one_marked}
use Rattle.gl_wiring.proofs.PartitionLemmas as partitions
use Rattle.gl_wiring.proofs.TableLemmas.{children_there, is_there, one_is_put, root_is_there, slot_next, taken_gives}
use Rattle.gl_wiring.proofs.TickedLemmas.{ticked_once}
use Rattle.gl_wiring.proofs.TimeWindowLemmas as times
use Rattle.gl_wiring.proofs.WindowLemmas as windows
use Rattle.gl_wiring.proofs.WordLemmas.{have_words}
use Rattle.gl_wiring.proofs.put.+put.Goals as goal

pub put_root_of-put_marked-requires : goal.put_root_of-put_marked-requires
put_root_of-put_marked-requires t c = (
  omega (arith, c.number-limit.ensures),
  (
    omega (arith, c.number-limit.ensures, c.requires.can.within),
    (
      one_marked c.laws_below.ensures c.args.site.plan.now c.args.site.figures.now c.args.net.now c.args.site.tick c.args.site.leaves.now c.args.site.planned c.args.id c.args.marks.now
          c.requires.marks c.requires.can,
      c.requires.words,
    ),
  ),
)

pub put_root_of-circuit_at-requires : goal.put_root_of-circuit_at-requires
put_root_of-circuit_at-requires t c =
    let limit = ap (λ n. n + 1) c.number-limit.ensures in
    rw c.as_slice.ensures.value (root_is_there c.args.site.plan.now c.args.site.planned c.args.id (c.number-limit.result + 1) limit c.requires.can.within
    c.args.marks.now c.requires.marks c.args.net.now c.put_marked.new.net c.args.site.tick c.args.site.leaves.now c.in_ok-table.table.items c.in_ok-table.ensures)

pub put_root_of-returns : goal.put_root_of-returns
put_root_of-returns t c =
    let limit = ap (λ n. n + 1) c.number-limit.ensures in
    one_is_put c.args.site.plan.now c.args.site.planned c.args.id (c.number-limit.result + 1) limit c.requires.can.within
    c.args.marks.now c.requires.marks c.args.net.now c.put_marked.new.net c.args.site.tick c.args.site.leaves.now c.in_ok-table.table.items c.in_ok-table.ensures
    c.laws_below.ensures.nodes_follow_tables c.in_ok-e.e (rw c.as_slice.ensures.value at c.in_ok-e.ensures)

pub put_marked-put_slot-requires : goal.put_marked-put_slot-requires
put_marked-put_slot-requires t c =
    let can = marked_kept c.args.site.plan.now c.args.site.figures.now c.args.marks.now c.args.net.now c.loop-number.net c.args.site.tick c.args.site.leaves.now
    c.loop-number.invariant.put.keeps c.requires.can in (
      omega (arith, c.loop-number-test.true),
      (
        omega (arith, c.loop-number-test.true, c.requires.within),
        (
          λ marked. can.can c.loop-number.number marked,
          (
            λ marked. rw c.as_slice.ensures.value (children_there c.args.site.plan.now c.args.site.planned c.args.site.figures.now c.args.marks.now c.loop-number.net
                c.args.site.tick c.args.site.leaves.now can c.loop-number.number marked c.args.net.now c.loop-number.net c.loop-number.table.items c.loop-number.invariant.put),
            have_words c.args.site.plan.now c.args.net.now c.loop-number.net c.args.site.words.now c.loop-number.invariant.put.keeps c.requires.words,
          ),
        ),
      ),
    )

pub put_marked-loop-number-preserved : goal.put_marked-loop-number-preserved
put_marked-loop-number-preserved t c = record {
  within = omega (arith, c.loop-number-test.true);
  put = rw c.in_ok-push.ensures.items (slot_next c.args.site.plan.now c.args.marks.now c.loop-number.number c.args.net.now c.loop-number.net c.put_slot.new.net
      c.args.site.tick c.args.site.leaves.now c.loop-number.table.items c.loop-number.invariant.put c.in_ok-slot.slot c.in_ok-slot.ensures);
}

pub put_window-put_source-requires-clause-within : goal.put_window-put_source-requires-clause-within
put_window-put_source-requires-clause-within t c = windows.in_source c.laws_below.ensures c.args.site.plan.now c.args.window c.args.site.planned c.requires.node

pub put_window-put_source-requires-clause-gap : goal.put_window-put_source-requires-clause-gap
put_window-put_source-requires-clause-gap t c = rw (c.max-gap.ensures, c.rotation-rotation.ensures.value) (windows.some_gap c.laws_below.ensures c.args.site.plan.now c.args.window c.args.site.planned c.requires.node)

pub put_window-put_source-requires-clause-there : goal.put_window-put_source-requires-clause-there
put_window-put_source-requires-clause-there t c = (c.requires.children _ c.requires.node).0

pub put_window-put_over_copies-requires : goal.put_window-put_over_copies-requires
put_window-put_over_copies-requires t c =
    let w = c.args.window in
    let before : w.body < w.id =
    second_before c.args.site.plan.now w.id (Window w.source w.body w.size w.advance) c.args.site.planned c.requires.node w.source w.body refl in
    let x = c.in_ok-source.ensures in
    let same = x.spaced'.behind.same_widths ∙ x.gives.same_widths in (
      omega (arith, before),
      (
        c.rotation-rotation.ensures.is,
        (
          x.spaced'.behind.wire,
          (
            x.spaced'.behind.lines,
            (
              tt,
              (
                tt,
                (
                  windows.window_stands c.laws_below.ensures c.args.site.plan.now w c.args.site.planned c.requires.node c.args.site.figures.now c.args.net.now c.args.site.tick c.args.site.leaves.now
                      (widths c.in_ok-source.source.wire.columns) c.requires.can same,
                  have_words c.args.site.plan.now c.args.net.now c.put_source.new.net c.args.site.words.now x.spaced'.behind.keeps c.requires.words,
                ),
              ),
            ),
          ),
        ),
      ),
    )

pub put_window-returns : goal.put_window-returns
put_window-returns t c =
    windows.window_put c.laws_below.ensures c.args.site.plan.now c.args.window c.args.site.planned c.requires.node c.args.net.now c.put_source.new.net c.put_over_copies.new.net c.args.site.tick
    c.args.site.leaves.now c.in_ok-source.source c.in_ok-e.e (rw (c.max-gap.ensures, c.rotation-rotation.ensures.value) at c.in_ok-source.ensures) (rw c.rotation-rotation.ensures.value at c.in_ok-e.ensures)

pub put_time_window-unreachable-requires : goal.put_time_window-unreachable-requires
put_time_window-unreachable-requires t c =
    times.line_is_there c.laws_below.ensures c.args.site.plan.now c.args.window c.args.site.planned c.requires.node c.args.site.tick c.in_default.is c.requires.can.timed

pub put_time_window-circuit_at-requires : goal.put_time_window-circuit_at-requires
put_time_window-circuit_at-requires t c = is_there (c.requires.children _ c.requires.node).0

pub put_time_window-put_over_copies-requires : goal.put_time_window-put_over_copies-requires
put_time_window-put_over_copies-requires t c =
    let w = c.args.window in
    let before : w.body < w.id =
    second_before c.args.site.plan.now w.id (TimeWindow w.source w.body w.size w.advance) c.args.site.planned c.requires.node w.source w.body refl in
    let x = taken_gives (c.requires.children _ c.requires.node).0 c.in_ok-source.ensures in (
      omega (arith, before),
      (
        c.rotation-rotation.ensures.is,
        (
          x.wire,
          (
            x.lines,
            (
              tt,
              (
                rw c.in-Some.is at c.requires.can.ticked,
                (
                  times.time_stands c.laws_below.ensures c.args.site.plan.now w c.args.site.planned c.requires.node c.args.site.figures.now c.args.net.now c.args.site.tick c.args.site.leaves.now
                      (widths c.in_ok-source.source.wire.columns) c.requires.can x.same_widths,
                  c.requires.words,
                ),
              ),
            ),
          ),
        ),
      ),
    )

pub put_time_window-returns-clause-put : goal.put_time_window-returns-clause-put
put_time_window-returns-clause-put t c =
    rw c.in-Some.is (times.time_put c.laws_below.ensures c.args.site.plan.now c.args.window c.args.site.planned c.requires.node c.args.net.now c.put_over_copies.new.net c.in-Some.tick
    c.args.site.leaves.now c.in_ok-source.source c.in_ok-e.e c.requires.can.leaved
    (rw c.in-Some.is at (taken_gives (c.requires.children _ c.requires.node).0 c.in_ok-source.ensures)) (rw c.rotation-rotation.ensures.value at c.in_ok-e.ensures))

pub put_time_window-returns-clause-once : goal.put_time_window-returns-clause-once
put_time_window-returns-clause-once t c =
    rw c.in-Some.is (ticked_once c.laws_below.ensures c.args.site.plan.now c.args.window c.args.site.planned c.requires.node c.args.net.now c.put_over_copies.new.net c.in-Some.tick
    c.args.site.leaves.now c.in_ok-source.source c.in_ok-e.e c.requires.can.leaved
    (rw c.in-Some.is at (taken_gives (c.requires.children _ c.requires.node).0 c.in_ok-source.ensures)) (rw c.rotation-rotation.ensures.value at c.in_ok-e.ensures))

pub put_group-is_direct-requires : goal.put_group-is_direct-requires
put_group-is_direct-requires t c =
    let g = c.args.group in
    second_within c.args.site.plan.now g.id (Group g.source g.body g.key g.groups) c.args.site.planned c.requires.node g.source g.body refl

pub put_group-put_on_lane-requires : goal.put_group-put_on_lane-requires
put_group-put_on_lane-requires t c = record {
  node = c.requires.node;
  can = c.requires.can;
  children = c.requires.children;
  words = c.requires.words;
  direct = sym c.is_direct.ensures ∙ c.if-is_direct.true;
}

pub put_group-put_source-requires-clause-within : goal.put_group-put_source-requires-clause-within
put_group-put_source-requires-clause-within t c = groups.in_source c.laws_below.ensures c.args.site.plan.now c.args.group c.args.site.planned c.requires.node

pub put_group-put_source-requires-clause-gap : goal.put_group-put_source-requires-clause-gap
put_group-put_source-requires-clause-gap t c = rw c.grouping-grouping.ensures.value (groups.some_gap c.laws_below.ensures c.args.site.plan.now c.args.group c.args.site.planned c.requires.node)

pub put_group-put_source-requires-clause-there : goal.put_group-put_source-requires-clause-there
put_group-put_source-requires-clause-there t c = (c.requires.children _ c.requires.node).0

pub put_group-put_over_copies-requires : goal.put_group-put_over_copies-requires
put_group-put_over_copies-requires t c =
    let g = c.args.group in
    let before : g.body < g.id =
    second_before c.args.site.plan.now g.id (Group g.source g.body g.key g.groups) c.args.site.planned c.requires.node g.source g.body refl in
    let x = c.in_ok-source.ensures in
    let same = x.spaced'.behind.same_widths ∙ x.gives.same_widths in (
      omega (arith, before),
      (
        c.grouping-grouping.ensures.is,
        (
          x.spaced'.behind.wire,
          (
            x.spaced'.behind.lines,
            (
              rw c.grouping-grouping.ensures.value (groups.key_there c.laws_below.ensures c.args.site.plan.now g c.args.site.planned c.requires.node _ same),
              (
                tt,
                (
                  groups.group_stands c.laws_below.ensures c.args.site.plan.now g c.args.site.planned c.requires.node c.args.site.figures.now c.args.net.now c.args.site.tick c.args.site.leaves.now
                      (widths c.in_ok-source.source.wire.columns) c.requires.can same,
                  have_words c.args.site.plan.now c.args.net.now c.put_source.new.net c.args.site.words.now x.spaced'.behind.keeps c.requires.words,
                ),
              ),
            ),
          ),
        ),
      ),
    )

pub put_group-returns : goal.put_group-returns
put_group-returns t c =
    groups.group_put c.laws_below.ensures c.args.site.plan.now c.args.group c.args.site.planned c.requires.node c.args.net.now c.put_source.new.net c.put_over_copies.new.net c.args.site.tick
    c.args.site.leaves.now c.in_ok-source.source c.in_ok-e.e (rw c.grouping-grouping.ensures.value at c.in_ok-source.ensures) (rw c.grouping-grouping.ensures.value at c.in_ok-e.ensures)
    (sym c.is_direct.ensures ∙ c.if-is_direct.false)

pub put_partition-put_source-requires-clause-within : goal.put_partition-put_source-requires-clause-within
put_partition-put_source-requires-clause-within t c = partitions.in_source c.laws_below.ensures c.args.site.plan.now c.args.partition c.args.site.planned c.requires.node

pub put_partition-put_source-requires-clause-gap : goal.put_partition-put_source-requires-clause-gap
put_partition-put_source-requires-clause-gap t c = rw (c.max-gap.ensures, c.partitioning-partitioning.ensures.value) (partitions.some_gap c.laws_below.ensures c.args.site.plan.now c.args.partition c.args.site.planned c.requires.node)

pub put_partition-put_source-requires-clause-there : goal.put_partition-put_source-requires-clause-there
put_partition-put_source-requires-clause-there t c = (c.requires.children _ c.requires.node).0

pub put_partition-put_over_copies-requires : goal.put_partition-put_over_copies-requires
put_partition-put_over_copies-requires t c =
    let p = c.args.partition in
    let before : p.body < p.id =
    second_before c.args.site.plan.now p.id (Partition p.source p.body p.key p.groups p.size p.advance) c.args.site.planned c.requires.node p.source p.body refl in
    let x = c.in_ok-source.ensures in
    let same = x.spaced'.behind.same_widths ∙ x.gives.same_widths in (
      omega (arith, before),
      (
        c.partitioning-partitioning.ensures.is,
        (
          x.spaced'.behind.wire,
          (
            x.spaced'.behind.lines,
            (
              rw c.partitioning-partitioning.ensures.value (partitions.key_there c.laws_below.ensures c.args.site.plan.now p c.args.site.planned c.requires.node _ same),
              (
                tt,
                (
                  partitions.partition_stands c.laws_below.ensures c.args.site.plan.now p c.args.site.planned c.requires.node c.args.site.figures.now c.args.net.now c.args.site.tick c.args.site.leaves.now
                      (widths c.in_ok-source.source.wire.columns) c.requires.can same,
                  have_words c.args.site.plan.now c.args.net.now c.put_source.new.net c.args.site.words.now x.spaced'.behind.keeps c.requires.words,
                ),
              ),
            ),
          ),
        ),
      ),
    )

pub put_partition-returns : goal.put_partition-returns
put_partition-returns t c =
    partitions.partition_put c.laws_below.ensures c.args.site.plan.now c.args.partition c.args.site.planned c.requires.node c.args.net.now c.put_source.new.net c.put_over_copies.new.net c.args.site.tick
    c.args.site.leaves.now c.in_ok-source.source c.in_ok-e.e (rw (c.max-gap.ensures, c.partitioning-partitioning.ensures.value) at c.in_ok-source.ensures) (rw c.partitioning-partitioning.ensures.value at c.in_ok-e.ensures)

pub put_over_copies-put_copies-requires : goal.put_over_copies-put_copies-requires
put_over_copies-put_copies-requires t c = (
  omega arith,
  (
    rw c.as_slice.ensures (can_copies c.args.site.plan.now c.args.site.figures.now c.args.body (widths c.args.source.wire.columns) c.front.new.net c.in_ok-front.front.wires
        c.requires.stands (λ k wire at.
        let x = c.in_ok-front.ensures.fronts.wires k wire at in (x.0, x.1 ∙ ap (λ (e : Emitted). widths e.wire.columns) c.in_ok-front.ensures.same))),
    have_words c.args.site.plan.now c.args.net.now c.front.new.net c.args.site.words.now c.in_ok-front.ensures.keeps c.requires.words,
  ),
)

pub put_over_copies-back-requires-clause-front : goal.put_over_copies-back-requires-clause-front
put_over_copies-back-requires-clause-front t c =
    fronts_kept c.front.new.net c.put_copies.new.net (machine_of c.args.machine) c.in_ok-front.front c.in_ok-copies.ensures.keeps c.in_ok-front.ensures.fronts

pub put_over_copies-back-requires-clause-copies : goal.put_over_copies-back-requires-clause-copies
put_over_copies-back-requires-clause-copies t c =
    rw c.as_slice-2.ensures (bodies_copies c.args.site.plan.now c.args.body c.front.new.net c.put_copies.new.net c.in_ok-front.front.wires
    c.in_ok-copies.copies (rw c.as_slice.ensures at c.in_ok-copies.ensures))

pub put_over_copies-back-requires-clause-count : goal.put_over_copies-back-requires-clause-count
put_over_copies-back-requires-clause-count t c =
    rw c.as_slice-2.ensures ((rw c.as_slice.ensures at c.in_ok-copies.ensures).as_many ∙ c.in_ok-front.ensures.fronts.as_many)

pub put_over_copies-returns : goal.put_over_copies-returns
put_over_copies-returns t c = record {
  mid = c.front.new.net;
  behind = c.put_copies.new.net;
  front = c.in_ok-front.front;
  copies = c.in_ok-copies.copies;
  fronted = c.in_ok-front.ensures;
  bodies = subst (λ (n : ℕ). AreBodies c.args.site.plan.now c.args.body c.front.new.net c.put_copies.new.net c.in_ok-front.front.wires n c.in_ok-copies.copies)
      c.in_ok-front.ensures.fronts.as_many (rw c.as_slice.ensures at c.in_ok-copies.ensures);
  backed = rw c.as_slice-2.ensures at c.in_ok-e.ensures;
}

pub put_over-at-window-requires : goal.put_over-at-window-requires
put_over-at-window-requires t c =
    let w = c.in-Window in
    (record { id = c.args.id; source = w.source; body = w.body; size = w.size; advance = w.advance }, refl, c.node.ensures.node ∙ ap Some w.is)

pub put_over-put_window-requires : goal.put_over-put_window-requires
put_over-put_window-requires t c =
    let at = c.at-window.ensures in
    (omega (arith, at.id), (at.node, (rw at.id c.requires.can, (rw at.id c.requires.children, c.requires.words))))

pub put_over-at-window-requires-in-TimeWindow : goal.put_over-at-window-requires-in-TimeWindow
put_over-at-window-requires-in-TimeWindow t c =
    let w = c.in-TimeWindow in
    (record { id = c.args.id; source = w.source; body = w.body; size = w.size; advance = w.advance }, refl, c.node.ensures.node ∙ ap Some w.is)

pub put_over-put_time_window-requires : goal.put_over-put_time_window-requires
put_over-put_time_window-requires t c =
    let at = c.at-window-in-TimeWindow.ensures in
    (omega (arith, at.id), (at.node, (rw at.id c.requires.can, (rw at.id c.requires.children, c.requires.words))))

pub put_over-at-group-requires : goal.put_over-at-group-requires
put_over-at-group-requires t c = (
  record {
    id = c.args.id;
    source = c.in-Group.source;
    body = c.in-Group.body;
    key = c.in-Group.key;
    groups = c.in-Group.groups;
  },
  refl,
  c.node.ensures.node ∙ ap Some c.in-Group.is,
)

pub put_over-put_group-requires : goal.put_over-put_group-requires
put_over-put_group-requires t c =
    let at = c.at-group.ensures in
    (omega (arith, at.id), (at.node, (rw at.id c.requires.can, (rw at.id c.requires.children, c.requires.words))))

pub put_over-at-partition-requires : goal.put_over-at-partition-requires
put_over-at-partition-requires t c = (
  record {
    id = c.args.id;
    source = c.in-Partition.source;
    body = c.in-Partition.body;
    key = c.in-Partition.key;
    groups = c.in-Partition.groups;
    size = c.in-Partition.size;
    advance = c.in-Partition.advance;
  },
  refl,
  c.node.ensures.node ∙ ap Some c.in-Partition.is,
)

pub put_over-put_partition-requires : goal.put_over-put_partition-requires
put_over-put_partition-requires t c =
    let at = c.at-partition.ensures in
    (omega (arith, at.id), (at.node, (rw at.id c.requires.can, (rw at.id c.requires.children, c.requires.words))))

pub put_copies-put_root_of-requires : goal.put_copies-put_root_of-requires
put_copies-put_root_of-requires t c = (
  omega arith,
  (
    rw c.as_slice.ensures.value c.in_ok-marks.ensures,
    (
      rw (c.note.ensures, c.from_ref.ensures.value) (can_copy c.args.site.plan.now c.args.site.figures.now c.args.body c.args.net.now c.loop-wire.net c.args.wires.now c.loop-wire.wire-index
          c.wire-item.result c.loop-wire.invariant.keeps c.requires.can
          (slice_get-get_or c.args.wires.now c.loop-wire.wire-index c.wire-item.result c.loop-wire-test.true ∙ ap Some (sym c.wire-item.is))),
      rw c.note.ensures (have_words c.args.site.plan.now c.args.net.now c.loop-wire.net c.args.site.words.now c.loop-wire.invariant.keeps c.requires.words),
    ),
  ),
)

pub put_copies-loop-wire-init : goal.put_copies-loop-wire-init
put_copies-loop-wire-init t c = rw c.new-copies.ensures (bodies_none c.args.site.plan.now c.args.body c.args.net.now c.args.wires.now)

pub put_copies-loop-wire-preserved : goal.put_copies-loop-wire-preserved
put_copies-loop-wire-preserved t c =
    let at = slice_get-get_or c.args.wires.now c.loop-wire.wire-index c.wire-item.result c.loop-wire-test.true ∙ ap Some (sym c.wire-item.is) in
    rw (c.in_ok-push.ensures.ok, c.note-in-loop-wire.ensures) (bodies_more c.args.site.plan.now c.args.body c.args.net.now c.loop-wire.net c.put_root_of.new.net c.args.wires.now
    c.loop-wire.wire-index c.loop-wire.copies c.wire-item.result c.in_ok-copy.copy c.loop-wire.invariant at
    (rw (c.note.ensures, c.from_ref.ensures.value) at c.in_ok-copy.ensures))

pub put_over-returns-in-Window-clause-once : goal.put_over-returns-in-Window-clause-once
put_over-returns-in-Window-clause-once t c =
    none_if c.args.site.plan.now c.args.id (Window c.in-Window.source c.in-Window.body c.in-Window.size c.in-Window.advance)
    c.put_window.new.net c.args.site.tick c.args.site.leaves.now c.put_window.result c.node.ensures.plan (c.node.ensures.node ∙ ap Some c.in-Window.is) (λ f v. refl)

pub put_over-returns-in-Group-clause-once : goal.put_over-returns-in-Group-clause-once
put_over-returns-in-Group-clause-once t c =
    none_if c.args.site.plan.now c.args.id (Group c.in-Group.source c.in-Group.body c.in-Group.key c.in-Group.groups)
    c.put_group.new.net c.args.site.tick c.args.site.leaves.now c.put_group.result c.node.ensures.plan (c.node.ensures.node ∙ ap Some c.in-Group.is) (λ f v. refl)

pub put_over-returns-in-Partition-clause-once : goal.put_over-returns-in-Partition-clause-once
put_over-returns-in-Partition-clause-once t c =
    none_if c.args.site.plan.now c.args.id (Partition c.in-Partition.source c.in-Partition.body c.in-Partition.key c.in-Partition.groups c.in-Partition.size c.in-Partition.advance)
    c.put_partition.new.net c.args.site.tick c.args.site.leaves.now c.put_partition.result c.node.ensures.plan (c.node.ensures.node ∙ ap Some c.in-Partition.is) (λ f v. refl)
