use Rattle.std.proofs.Common.{◌≤◌, ◌∙◌, List, arith, length, map, sym, subst, take}
use Rattle.std.specs.List.{AllByRecursion}
use Rattle.gl_bits.specs.Words.{widths_of}
use Rattle.gl_verilog.specs.declared.module.Declaration.{Declaration}
use Rattle.gl_verilog.specs.View.{declaration_of}
use Rattle.gl_verilog.specs.Widths.{HasSize}
use Rattle.gl_runner.proofs.DumpRows.{sizes_at, numbers_all, widths_all}
use Rattle.gl_runner.proofs.dumping.DumpLines.add_all.Goals as goal

pub add-requires : goal.add-requires
add-requires c = sizes_at c.args.face.now.ports c.as_slice.result.now c.loop-number.number c.index-ports-number.result (subst (λ (x : List Declaration). AllByRecursion HasSize (map declaration_of x)) (sym c.as_slice.ensures) c.requires.can.sizes) c.loop-number-test.true c.index-ports-number.is

pub returns : goal.returns
returns c =
    let face = c.args.face.now in
    let ports : List Declaration = take face.ports c.as_slice.result.now in
    let done : length ports ≤ c.loop-number.number = omega (arith, c.loop-number-test.false) in
    record {
      room = record {
        ports' = numbers_all face c.as_slice.result.now c.loop-number.self.ports.items c.loop-number.number c.as_slice.ensures done c.loop-number.invariant.ports;
        now' = widths_all face c.as_slice.result.now (widths_of c.loop-number.self.now) c.loop-number.number c.as_slice.ensures done c.loop-number.invariant.now;
        before' = widths_all face c.as_slice.result.now (widths_of c.loop-number.self.before) c.loop-number.number c.as_slice.ensures done c.loop-number.invariant.before;
        end' = c.loop-number.invariant.end' ∙ c.requires.end';
      };
      next' = c.loop-number.invariant.next;
    }
