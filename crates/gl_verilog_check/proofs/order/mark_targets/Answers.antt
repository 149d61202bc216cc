use Rattle.std.proofs.Common.{◌≡◌, ◌∷◌, ◌<◌, ◌+◌, ◌-◌, ◌∙◌, true, refl, sym, ap, subst, arith, length, length-set, get_or, drop, ℕ}
use Rattle.std.specs.Prelude.{map}
use Rattle.gl_bits.proofs.AllLists.{mapped_at}
use Rattle.gl_verilog.specs.View.{assignment_of}
use Rattle.gl_verilog.specs.Order.{EachRead}
use Rattle.gl_verilog_check.specs.Kept.{AreMarks}
use Rattle.gl_verilog_check.specs.Passes.{AreOnce}
use Rattle.gl_verilog_check.proofs.Marks.{marks_next, once_next, from_place, marked_there, once_from}
use Rattle.gl_verilog_check.proofs.order.mark_targets.Goals as goal

pub loop-done-preserved : goal.loop-done-preserved
loop-done-preserved c =
    let all = c.args.assignments.now in
    let done = c.loop-done.done in
    let a = c.index-assignments-at.result in
    let at : ℕ = length all - (done + 1) in
    let lt : at < length all = omega arith in
    let place : length all - 1 - done ≡ at = omega arith in
    let next : at + 1 ≡ length all - done = omega arith in
    let is : a ≡ get_or all at a = subst (λ (i : ℕ). a ≡ get_or all i a) place c.index-assignments-at.is in
    let here = from_place assignment_of all at a lt is in
    let rest = map assignment_of (drop (length all - done) all) in
    let whole : map assignment_of (drop at all) ≡ assignment_of a ∷ rest = here ∙ ap (λ (i : ℕ). assignment_of a ∷ map assignment_of (drop i all)) next in
    let inv = c.loop-done.invariant in
    let k = c.if-not-mark.ensures.marked refl in
    record {
      marks = subst (λ as'. AreMarks as' c.mark.new.marks.items) (sym whole) (marks_next rest (assignment_of a) c.loop-done.marks.items c.mark.new.marks.items inv.marks k);
      once = subst AreOnce (sym whole) (once_next rest (assignment_of a) c.loop-done.marks.items c.mark.new.marks.items inv.marks k inv.once);
      size = ap length k.set ∙ length-set c.loop-done.marks.items a.target true ∙ inv.size;
    }

pub returns-then-not-mark-clause-complete : goal.returns-then-not-mark-clause-complete
returns-then-not-mark-clause-complete c = λ can.
    let nets = can.0 in
    let once = can.1 in
    let all = c.args.assignments.now in
    let done = c.loop-done.done in
    let a = c.index-assignments-at.result in
    let at : ℕ = length all - (done + 1) in
    let lt : at < length all = omega arith in
    let place : length all - 1 - done ≡ at = omega arith in
    let next : at + 1 ≡ length all - done = omega arith in
    let is : a ≡ get_or all at a = subst (λ (i : ℕ). a ≡ get_or all i a) place c.index-assignments-at.is in
    let here = from_place assignment_of all at a lt is in
    let rest = map assignment_of (drop (length all - done) all) in
    let whole : map assignment_of (drop at all) ≡ assignment_of a ∷ rest = here ∙ ap (λ (i : ℕ). assignment_of a ∷ map assignment_of (drop i all)) next in
    let inv = c.loop-done.invariant in
    let within = mapped_at (λ x. (x.target < length c.args.marks.now.items) × EachRead (λ n. n < length c.args.marks.now.items) x.value) assignment_of all at a nets lt is in
    let within1 : a.target < length c.loop-done.marks.items = subst (λ (size : ℕ). a.target < size) (sym inv.size) within.0 in
    absurd (c.if-not-mark.ensures.refused refl (marked_there rest (assignment_of a) c.loop-done.marks.items inv.marks within1 (subst AreOnce whole (once_from assignment_of all at once))))
