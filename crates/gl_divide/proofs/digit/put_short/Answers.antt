use Rattle.std.proofs.Common.{◌≡◌, ℕ, suc, ◌+◌, ◌*◌, ◌^◌, ◌<◌, ap, arith, sym, subst, ◌∙◌}
use Rattle.gl_bits.specs.Words.{bit, difference_of, join_of}
use Rattle.gl_bits.proofs.Wrapping.{cut_low}
use Rattle.gl_net.proofs.Determined.{keeps_then}
use Rattle.gl_net.proofs.Values.{bus_fits}
use Rattle.gl_net.specs.Net.{Keeps, Run, IsRun}
use Rattle.gl_wire.specs.Wire.{line_at}
use Rattle.gl_wire.proofs.ColumnLemmas.{bus_kept, bit_kept}
use Rattle.gl_divide.specs.Division.{highest}
use Rattle.gl_divide.proofs.BitLemmas.{none_above}
use Rattle.gl_divide.proofs.DigitNet.{joined_value, short_left, short_line}
use Rattle.gl_divide.proofs.digit.put_short.Goals as goal

pub choose-requires-clause-yes : goal.choose-requires-clause-yes
choose-requires-clause-yes c =
    bus_kept _ _ _ c.in_ok-fits.ensures.keeps (bus_kept _ _ _ c.in_ok-under.ensures.keeps (bus_kept _ _ _ c.in_ok-less.ensures.keeps c.in_ok-more.ensures.bus))

pub returns : goal.returns
returns c =
    let old = c.args.net.now in
    let new = c.cut.new.self in
    let rest = c.args.rest in
    let bottom = c.args.bottom in
    let next = c.args.next in
    let zero = c.in_ok-zero.ensures in
    let wide = c.in_ok-wide.ensures in
    let more = c.in_ok-more.ensures in
    let less = c.in_ok-less.ensures in
    let under = c.in_ok-under.ensures in
    let fits = c.in_ok-fits.ensures in
    let kept = c.in_ok-kept.ensures in
    let left = c.in_ok-left.ensures in
    let x = c.in_ok-more.more in
    let y = c.in_ok-less.less in
    let behind_fits = keeps_then c.turn.new.net c.choose.new.self new kept.keeps left.keeps in
    let before_more : Keeps old c.join-2.new.self = keeps_then old c.constant.new.self _ zero.keeps (keeps_then _ c.join.new.self _ wide.keeps more.keeps) in
    let one_more : x.width ≡ rest.width + 1 = more.width ∙ ap (λ (n : ℕ). rest.width + n) c.bus.ensures.width in
    let is_more : (run : Run) → IsRun c.join-2.new.self run → (t : ℕ) → run.at (suc t) x.node ≡ 2 * run.at (suc t) rest.node + bit (line_at run next (suc t)) =
    λ run r. joined_value c.join-2.new.self run rest x next (bit_kept old c.join-2.new.self next before_more c.requires.next) r
    (λ t. more.value run r t ∙ ap (λ (w : ℕ). join_of w (run.at t rest.node) (run.at t c.bus.result.node)) c.bus.ensures.width
    ∙ ap (λ (n : ℕ). join_of 1 (run.at t rest.node) (run.at t n)) c.bus.ensures.node) in
    let is_less : (run : Run) → IsRun c.binary.new.self run → (t : ℕ) → run.at (suc t) y.node ≡ difference_of (rest.width + 1) (run.at (suc t) x.node) (run.at (suc t) bottom.node) =
    λ run r t.
    let at_wide = more.keeps.runs run (less.keeps.runs run r) in
    less.value run r (suc t) ∙ ap (λ (w : ℕ). difference_of w (run.at (suc t) x.node) (run.at (suc t) c.in_ok-wide.wide.node)) one_more
    ∙ ap (difference_of (rest.width + 1) (run.at (suc t) x.node))
    (wide.value run at_wide (suc t) ∙ ap (λ (n : ℕ). join_of bottom.width n (run.at (suc t) bottom.node)) (zero.value run (wide.keeps.runs run at_wide) (suc t) ∙ c.zero_word.ensures.bits)
    ∙ none_above bottom.width (run.at (suc t) bottom.node)) in
    let is_under : (run : Run) → IsRun c.highest.new.net run → (t : ℕ) → line_at run c.in_ok-under.under (suc t) ≡ highest (rest.width + 1) (run.at (suc t) y.node) =
    λ run r t. under.line run r t ∙ ap (λ (w : ℕ). highest w (run.at (suc t) y.node)) (less.width ∙ one_more) in
    let bottom_fits : (run : Run) → IsRun c.join-2.new.self run → (t : ℕ) → run.at (suc t) bottom.node < 2 ^ rest.width =
    λ run r t. subst (λ (w : ℕ). run.at (suc t) bottom.node < 2 ^ w) (sym c.requires.widths) (bus_fits old bottom run c.requires.bottom (before_more.runs run r) (suc t)) in
    record {
      keeps = keeps_then old c.join-2.new.self new before_more (keeps_then _ c.binary.new.self new less.keeps
          (keeps_then _ c.highest.new.net new under.keeps (keeps_then _ c.turn.new.net new fits.keeps behind_fits)));
      cost = record {
        nodes = omega (arith, zero.size, wide.size, more.size, less.size, under.cost.nodes, fits.cost.nodes, kept.size, left.size);
        registers = omega (arith, zero.register_bits, wide.register_bits, more.register_bits, less.register_bits, under.cost.registers, fits.cost.registers, kept.register_bits, left.register_bits);
        memories = omega (arith, zero.memory_bits, wide.memory_bits, more.memory_bits, less.memory_bits, under.cost.memories, fits.cost.memories, kept.memory_bits, left.memory_bits);
      };
      bit = bit_kept c.turn.new.net new c.in_ok-fits.fits behind_fits fits.bit;
      bus = left.bus;
      same_width = omega (arith, left.width, c.requires.rest.width.some');
      line = λ run r t lt.
          let at_fits = kept.keeps.runs run (left.keeps.runs run r) in
          let at_under = fits.keeps.runs run at_fits in
          let at_less = under.keeps.runs run at_under in
          let at_more = less.keeps.runs run at_less in
          short_line run rest.width rest bottom x y c.in_ok-kept.kept c.in_ok-left.left next c.in_ok-under.under c.in_ok-fits.fits t lt (bottom_fits run at_more t) (is_more run at_more t)
          (is_less run at_less t) (is_under run at_under t) (fits.line run at_fits t);
      value = λ run r t lt.
          let at_kept = left.keeps.runs run r in
          let at_under = fits.keeps.runs run (kept.keeps.runs run at_kept) in
          let at_less = under.keeps.runs run at_under in
          let at_more = less.keeps.runs run at_less in
          short_left run rest.width rest bottom x y c.in_ok-kept.kept c.in_ok-left.left next c.in_ok-under.under c.in_ok-fits.fits t lt (bottom_fits run at_more t) (is_more run at_more t)
          (is_less run at_less t) (is_under run at_under t) (kept.value run at_kept (suc t))
          (left.value run r (suc t) ∙ cut_low rest.width (run.at (suc t) c.in_ok-kept.kept.node) c.requires.rest.width.some');
    }
