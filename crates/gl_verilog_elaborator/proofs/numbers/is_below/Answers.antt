use Rattle.std.proofs.Common.{◌≡◌, ◌^◌, false, subst, List, ℕ}
use Rattle.std.specs.Prelude.{nat_lt}
use Rattle.gl_verilog_elaborator.specs.Numbers.{value_of}
use Rattle.gl_verilog_elaborator.proofs.Powers.{passed_power}
use Rattle.gl_verilog_elaborator.proofs.numbers.is_below.Goals as goal

pub returns-then-not-are_below : goal.returns-then-not-are_below
returns-then-not-are_below c =
    passed_power c.args.radix c.args.digits.now c.loop-b.b-index (value_of c.loop-b.limbs.items) (value_of c.in_ok-limbs.limbs.items) c.args.size c.if-radix-gt0.true c.loop-b-test.true c.in_ok-limbs.ensures c.loop-b.invariant
    (subst (λ (xs : List ℕ). false ≡ nat_lt (value_of xs) (2 ^ c.args.size)) c.deref.ensures.value c.if-not-are_below.ensures)
