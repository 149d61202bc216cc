use Rattle.std.proofs.Common.{◌≡◌, ◌+◌, ◌∙◌, ap, arith}
use Rattle.gl_verilog_elaborator.specs.Judged.{Typed, joined}
use Rattle.gl_verilog_elaborator.specs.View.{typed_of}
use Rattle.gl_verilog_elaborator.proofs.Parts.{widths_popped, joined_popped}
use Rattle.gl_verilog_elaborator.proofs.trees.join_on.Goals as goal

pub join-requires : goal.join-requires
join-requires c =
    let taken = widths_popped typed_of c.loop-part.rest.items c.pop.new.self.items c.in-Some.part c.in-Some.ensures.items in
    omega (arith, taken, c.loop-part.invariant.small)

pub loop-part-preserved : goal.loop-part-preserved
loop-part-preserved c =
    let both : typed_of c.in_ok-all.all ≡ joined (typed_of c.in-Some.part) (typed_of c.loop-part.all) = (let e = c.in_ok-all.ensures in cc) in
    let wide : c.in_ok-all.all.width ≡ c.in-Some.part.width + c.loop-part.all.width = ap (λ (t : Typed). t.width) both in
    let taken = widths_popped typed_of c.loop-part.rest.items c.pop.new.self.items c.in-Some.part c.in-Some.ensures.items in
    record {
      same = joined_popped typed_of c.loop-part.rest.items c.pop.new.self.items c.in-Some.part (typed_of c.loop-part.all) (typed_of c.in_ok-all.all) c.in-Some.ensures.items both ∙ c.loop-part.invariant.same;
      small = omega (arith, taken, wide, c.loop-part.invariant.small);
    }
