use Rattle.std.proofs.Common.{◌<◌, length, arith}
use Rattle.std.specs.Prelude.{slice_index_or}
use Rattle.std.proofs.lemmas.Option.{slice_get-get_or}
use Rattle.gl_net.specs.declared.node.Bit.{Bit}
use Rattle.gl_wire.proofs.ColumnLemmas.{bit_kept}
use Rattle.gl_wire_registers.proofs.LineLemmas.{lines_more}
use Rattle.gl_slots.specs.Choices.{chosen, chosen_to}
use Rattle.gl_slots.proofs.ChoiceLemmas.{chosen_here}
use Rattle.gl_slots.proofs.choices.choose_each.Goals as goal

pub choose_bit-requires-clause-test : goal.choose_bit-requires-clause-test
choose_bit-requires-clause-test c = bit_kept c.args.net.now c.loop-i.net _ c.loop-i.invariant.keeps c.requires.test

pub choose_bit-requires-clause-yes : goal.choose_bit-requires-clause-yes
choose_bit-requires-clause-yes c = bit_kept c.args.net.now c.loop-i.net _ c.loop-i.invariant.keeps (c.requires.yes.each c.loop-i.i _ (slice_get-get_or _ _ _ c.loop-i-test.true))

pub choose_bit-requires-clause-no : goal.choose_bit-requires-clause-no
choose_bit-requires-clause-no c =
    let more : c.loop-i.i < length c.args.no.now = omega (arith, c.loop-i-test.true, c.requires.count) in
    bit_kept c.args.net.now c.loop-i.net _ c.loop-i.invariant.keeps (c.requires.no.each c.loop-i.i _ (slice_get-get_or _ _ _ more))

pub loop-i-preserved : goal.loop-i-preserved
loop-i-preserved c =
    let more : c.loop-i.i < length c.args.no.now = omega (arith, c.loop-i-test.true, c.requires.count) in
    let x : Bit = slice_index_or c.args.yes.now c.loop-i.i (record { node = 0 }) in
    let y : Bit = slice_index_or c.args.no.now c.loop-i.i (record { node = 0 }) in
    rw (c.in_ok-push.ensures.ok)
    (lines_more c.args.net.now c.loop-i.net c.choose_bit.new.net c.loop-i.i 1 c.loop-i.all c.in_ok-bit.bit (chosen_to c.args.test c.args.yes.now c.args.no.now) (chosen c.args.test x y) c.loop-i.invariant
    c.in_ok-bit.ensures (λ run r t. chosen_here run c.args.test x y c.args.yes.now c.args.no.now c.loop-i.i t (slice_get-get_or _ _ _ c.loop-i-test.true) (slice_get-get_or _ _ _ more)))
