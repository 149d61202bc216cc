use Rattle.std.proofs.Common.{List, length, subst, sym, arith, rules}
use Rattle.gl_net.specs.declared.node.Bit.{Bit}
use Rattle.gl_wire_registers.specs.Lines.{AddsLine, AreBits, any_line, gates_of}
use Rattle.gl_wire_registers.proofs.HalfLemmas.{halves}
use Rattle.gl_wire_registers.proofs.LineLemmas.{any_both, bits_kept, bits_part}
use Rattle.gl_wire_registers.proofs.lines.+any_of.Goals as goal

pub any_of-requires-2 : goal.any_of-requires-2
any_of-requires-2 t c =
    let cut = halves c.args.lines.now c.split_at.result.0.now c.split_at.result.1.now (omega (arith, c.if-lines-lt2.false)) c.split_at.ensures.front c.split_at.ensures.back in
    let part = bits_part c.args.net.now c.split_at.result.0.now c.split_at.result.1.now (subst (AreBits c.args.net.now) (sym cut.whole) c.requires) in
    (search rules, bits_kept c.args.net.now c.any_of.new.net c.split_at.result.1.now c.in_ok-left.ensures.keeps part.1)

pub returns : goal.returns
returns t c =
    let cut = halves c.args.lines.now c.split_at.result.0.now c.split_at.result.1.now (omega (arith, c.if-lines-lt2.false)) c.split_at.ensures.front c.split_at.ensures.back in
    subst (λ (bs : List Bit). AddsLine c.args.net.now c.either.new.net (gates_of (length bs)) c.in_ok-one-2.one (any_line (length bs) bs)) cut.whole
    (any_both c.args.net.now c.any_of.new.net c.any_of-2.new.net c.either.new.net c.split_at.result.0.now c.split_at.result.1.now c.in_ok-left.left c.in_ok-right.right c.in_ok-one-2.one cut.left cut.right
    c.in_ok-left.ensures c.in_ok-right.ensures c.in_ok-one-2.ensures)
