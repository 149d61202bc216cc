use Rattle.std.proofs.Common.{sym, ◌∙◌}
use Rattle.gl_frames_asked.specs.Asked.{is_asked}
use Rattle.gl_frames_asked.proofs.BelowLemmas.{kept_next, left_next}
use Rattle.gl_frames_asked.proofs.asked.asked_columns.Goals as goal
use Rattle.gl_frames_asked.proofs.asked.asked_columns.Goals.{then-is_asked+in_ok-push, else-is_asked}

pub loop-column-preserved : goal.loop-column-preserved
loop-column-preserved c = elim c.if-is_asked.branch [
  | then-is_asked+in_ok-push w ↦ rw w.asked-is
      (kept_next (is_asked c.args.key c.args.items.now) c.loop-column.column c.loop-column.asked.items w.push.new.self.items
      c.loop-column.invariant (sym c.is_asked.ensures ∙ w.if-is_asked.true) w.in_ok-push.ensures.items)
  | else-is_asked w ↦ rw w.asked-is
      (left_next (is_asked c.args.key c.args.items.now) c.loop-column.column c.loop-column.asked.items
      c.loop-column.invariant (sym c.is_asked.ensures ∙ w.if-is_asked.false))
]
