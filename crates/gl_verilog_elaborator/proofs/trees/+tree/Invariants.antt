use Rattle.std.proofs.Common.{◌≡◌, ◌+◌, ◌≤◌, drop, map}
use Rattle.gl_verilog_tokens.specs.View.{expr_of, parts_list}
use Rattle.gl_verilog_elaborator.specs.Judged.{judged_parts}
use Rattle.gl_verilog_elaborator.specs.View.{declarations_of, typed_of}
use Rattle.gl_verilog_elaborator.proofs.Parts.{parts_in, parts_sum}
use Rattle.gl_verilog_elaborator.proofs.Steps.{behind}
use Rattle.gl_verilog_elaborator.proofs.trees.+tree.Given as goal

abbrev pub invariant-parts_typed-loop-part : goal.invariant-parts_typed-loop-part
invariant-parts_typed-loop-part l = record {
  same : behind (map typed_of l.done.items) (judged_parts (declarations_of l.scope) l.at (map expr_of (drop l.part-index l.parts))) ≡ judged_parts (declarations_of l.scope) l.k (map expr_of l.parts);
  small : parts_sum (map expr_of (drop l.part-index l.parts)) ≤ parts_sum (map expr_of l.parts);
}

abbrev pub decreases-parts_typed : goal.decreases-parts_typed
decreases-parts_typed l = parts_in (parts_list (map expr_of l.parts.now)) + 1

abbrev pub decreases-braces_typed : goal.decreases-braces_typed
decreases-braces_typed l = parts_in (parts_list (map expr_of l.parts.now)) + 2

abbrev pub decreases-word_typed : goal.decreases-word_typed
decreases-word_typed l = parts_in (expr_of l.address.now) + 1

abbrev pub decreases-parens_typed : goal.decreases-parens_typed
decreases-parens_typed l = parts_in (expr_of l.inner.now) + 1

abbrev pub decreases-prefix_typed : goal.decreases-prefix_typed
decreases-prefix_typed l = parts_in (expr_of l.arg.now) + 1

abbrev pub decreases-infix_typed : goal.decreases-infix_typed
decreases-infix_typed l = parts_in (expr_of l.left.now) + parts_in (expr_of l.right.now) + 1

abbrev pub decreases-choice_typed : goal.decreases-choice_typed
decreases-choice_typed l = parts_in (expr_of l.test.now) + parts_in (expr_of l.yes.now) + parts_in (expr_of l.no.now) + 1

abbrev pub decreases-expr_typed : goal.decreases-expr_typed
decreases-expr_typed l = parts_in (expr_of l.written.now)
