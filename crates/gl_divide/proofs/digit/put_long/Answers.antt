use Rattle.std.proofs.Common.{◌≡◌, ℕ, suc, ◌-◌, ◌^◌, ◌<◌, ap, arith, sym, subst, ◌∙◌}
use Rattle.gl_bits.specs.Words.{difference_of}
use Rattle.gl_net.proofs.Determined.{keeps_then}
use Rattle.gl_net.proofs.Values.{bus_fits}
use Rattle.gl_wire.specs.Wire.{line_at}
use Rattle.gl_wire.proofs.ColumnLemmas.{bit_kept}
use Rattle.gl_divide.proofs.DigitNet.{long_left, long_line}
use Rattle.gl_divide.proofs.RestLemmas.{is_long}
use Rattle.gl_divide.proofs.digit.put_long.Goals as goal

pub returns : goal.returns
returns c =
    let new = c.choose.new.self in
    let over = c.in_ok-over.ensures in
    let more = c.in_ok-more.ensures in
    let enough = c.in_ok-enough.ensures in
    let fits = c.in_ok-fits.ensures in
    let less = c.in_ok-less.ensures in
    let left = c.in_ok-left.ensures in
    let behind = keeps_then _ c.binary.new.self new less.keeps left.keeps in
    let rest = c.args.rest in
    let bottom = c.args.bottom in
    let b = c.in_ok-more.more in
    let width : rest.width ≡ suc (rest.width - 1) = omega (arith, c.requires.rest.width.some') in
    record {
      keeps = keeps_then _ c.highest.new.net _ over.keeps (keeps_then _ c.shift.new.net _ more.keeps
          (keeps_then _ c.at_most.new.net _ enough.keeps (keeps_then _ c.either.new.net _ fits.keeps behind)));
      cost = record {
        nodes = omega (arith, over.cost.nodes, more.cost.nodes, enough.cost.nodes, fits.cost.nodes, less.size, left.size);
        registers = omega (arith, over.cost.registers, more.cost.registers, enough.cost.registers, fits.cost.registers, less.register_bits, left.register_bits);
        memories = omega (arith, over.cost.memories, more.cost.memories, enough.cost.memories, fits.cost.memories, less.memory_bits, left.memory_bits);
      };
      bit = bit_kept c.either.new.net new c.in_ok-fits.fits behind fits.bit;
      bus = left.bus;
      same_width = left.width ∙ less.width ∙ more.same_width;
      line = λ run r t lt.
          let at_fits = less.keeps.runs run (left.keeps.runs run r) in
          let at_enough = fits.keeps.runs run at_fits in
          let at_more = enough.keeps.runs run at_enough in
          let at_over = more.keeps.runs run at_more in
          let fit : run.at (suc t) bottom.node < 2 ^ rest.width =
          subst (λ (w : ℕ). run.at (suc t) bottom.node < 2 ^ w) (sym c.requires.widths)
          (bus_fits c.args.net.now bottom run c.requires.bottom (over.keeps.runs run at_over) (suc t)) in
          long_line run rest bottom b c.in_ok-less.less c.in_ok-left.left c.args.next c.in_ok-over.over c.in_ok-enough.enough c.in_ok-fits.fits t
          (is_long rest.width (rest.width - 1) (run.at (suc t) rest.node) (run.at (suc t) bottom.node) (line_at run c.args.next (suc t)) width fit lt)
          (over.line run at_over t) (more.value run at_more t) (enough.line run at_enough t) (fits.line run at_fits (suc t));
      value = λ run r t lt.
          let at_less = left.keeps.runs run r in
          let at_fits = less.keeps.runs run at_less in
          let at_enough = fits.keeps.runs run at_fits in
          let at_more = enough.keeps.runs run at_enough in
          let at_over = more.keeps.runs run at_more in
          let fit : run.at (suc t) bottom.node < 2 ^ rest.width =
          subst (λ (w : ℕ). run.at (suc t) bottom.node < 2 ^ w) (sym c.requires.widths)
          (bus_fits c.args.net.now bottom run c.requires.bottom (over.keeps.runs run at_over) (suc t)) in
          long_left run rest bottom b c.in_ok-less.less c.in_ok-left.left c.args.next c.in_ok-over.over c.in_ok-enough.enough c.in_ok-fits.fits t
          (is_long rest.width (rest.width - 1) (run.at (suc t) rest.node) (run.at (suc t) bottom.node) (line_at run c.args.next (suc t)) width fit lt)
          (over.line run at_over t) (more.value run at_more t) (enough.line run at_enough t) (fits.line run at_fits (suc t))
          (less.value run at_less (suc t) ∙ ap (λ (w : ℕ). difference_of w (run.at (suc t) b.node) (run.at (suc t) bottom.node)) more.same_width)
          (left.value run r (suc t));
    }
