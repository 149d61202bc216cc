use Rattle.std.proofs.Common.{◌<◌, ◌^◌, ◌+◌, ℕ, sym, subst}
use Rattle.std.specs.Prelude.{IfOk}
use Rattle.std.proofs.lemmas.Result.{IfOk-weaker}
use Rattle.gl_bits.specs.Words.{product_of}
use Rattle.gl_net.specs.Net.{Run, binary_of}
use Rattle.gl_net.specs.declared.node.BinaryOp.TheVariants.{Add, Sub}
use Rattle.gl_rows.specs.declared.multiple.Terms.{Terms}
use Rattle.gl_rows.specs.declared.multiple.Terms.TheVariants.{Sum, Difference}
use Rattle.gl_rows.specs.Made.{Carries}
use Rattle.gl_rows.specs.Multiples.{IsMultiple, TermsFit, nodes_of_term, nodes_of_terms, number_of}
use Rattle.gl_rows.proofs.MadeLemmas.{carries_as}
use Rattle.gl_rows.proofs.MultipleLemmas.{difference_multiplied, sum_multiplied}
use Rattle.gl_rows.proofs.multiple.put_multiple.Goals as goal

pub returns-in-Sum : goal.returns-in-Sum
returns-in-Sum c =
    let old = c.args.net.now in
    let new = c.put_two.new.net in
    let value = c.args.value in
    let w = value.width in
    let a = c.in-Sum.first.bits in
    let b = c.in-Sum.second.bits in
    let nodes = 1 + nodes_of_term a + nodes_of_term b in
    let two : Run → ℕ → ℕ = λ run t. binary_of Add w (product_of w (run.at t value.node) a) (product_of w (run.at t value.node) b) in
    let one : Run → ℕ → ℕ = λ run t. product_of w (run.at t value.node) (number_of w (Sum c.in-Sum.first c.in-Sum.second)) in
    subst (λ (terms : Terms). IfOk c.put_two.result (IsMultiple old new value (number_of w terms) (nodes_of_terms terms))) (sym c.in-Sum.is)
    (IfOk-weaker c.put_two.result (Carries old new nodes w two) (Carries old new nodes w one)
    (λ out. carries_as old new nodes w two one out (λ run r t. sum_multiplied w (run.at t value.node) a b)) c.put_two.ensures.sum)

pub returns-in-Difference : goal.returns-in-Difference
returns-in-Difference c =
    let old = c.args.net.now in
    let new = c.put_two-in-Difference.new.net in
    let value = c.args.value in
    let w = value.width in
    let first = c.in-Difference.first in
    let second = c.in-Difference.second in
    let a = first.bits in
    let b = second.bits in
    let nodes = 1 + nodes_of_term a + nodes_of_term b in
    let two : Run → ℕ → ℕ = λ run t. binary_of Sub w (product_of w (run.at t value.node) a) (product_of w (run.at t value.node) b) in
    let one : Run → ℕ → ℕ = λ run t. product_of w (run.at t value.node) (number_of w (Difference first second)) in
    let widths : TermsFit w (Difference first second) = subst (TermsFit w) c.in-Difference.is c.requires.fits in
    let fits : b < 2 ^ w = subst (λ (v : ℕ). b < 2 ^ v) widths.1 c.put_two-in-Difference.ensures.fits in
    subst (λ (terms : Terms). IfOk c.put_two-in-Difference.result (IsMultiple old new value (number_of w terms) (nodes_of_terms terms))) (sym c.in-Difference.is)
    (IfOk-weaker c.put_two-in-Difference.result (Carries old new nodes w two) (Carries old new nodes w one)
    (λ out. carries_as old new nodes w two one out (λ run r t. difference_multiplied w (run.at t value.node) a b fits)) c.put_two-in-Difference.ensures.sum)
