use Rattle.std.proofs.Common.{◌≡◌, ◌+◌, ℕ, sym, ap, arith, drop, map, List}
use Rattle.std.specs.Prelude.{nat_le}
use Rattle.std.proofs.lemmas.Bool.{lt-leb}
use Rattle.std.proofs.lemmas.List.{drop_all}
use Rattle.gl_verilog_elaborator.specs.Judged.{widths_of}
use Rattle.gl_verilog_elaborator.specs.View.{typed_of}
use Rattle.gl_verilog_elaborator.proofs.trees.are_narrow.Goals as goal

pub returns-then-width-gt128 : goal.returns-then-width-gt128
returns-then-width-gt128 c = sym (lt-leb (widths_of (map typed_of c.args.parts.now) + c.args.last) 128 (omega (arith, c.loop-part.invariant.same)))

pub returns : goal.returns
returns c =
    let done : widths_of (map typed_of (drop c.loop-part.part-index c.args.parts.now)) ≡ 0 = ap (λ (xs : List _). widths_of (map typed_of xs)) (drop_all c.loop-part.part-index c.args.parts.now (omega (arith, c.loop-part-test.false))) in
    let all : c.loop-part.width ≡ widths_of (map typed_of c.args.parts.now) + c.args.last = omega (arith, c.loop-part.invariant.same, done) in
    ap (λ (n : ℕ). nat_le n 128) all
