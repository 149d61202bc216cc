use Rattle.std.proofs.Common.{ℕ, ◌<◌, ◌^◌, subst, arith}
use Rattle.gl_net.proofs.Determined.{keeps_then}
use Rattle.gl_net.proofs.Values.{bus_fits}
use Rattle.gl_wire.proofs.ColumnLemmas.{bus_kept}
use Rattle.gl_frames_tree.proofs.PartLemmas.{joined_parts, three_joins}
use Rattle.gl_frames_tree.proofs.parts.join_parts.Goals as goal

pub join-requires-clause-widths : goal.join-requires-clause-widths
join-requires-clause-widths c = omega (arith, c.requires.parts.three_width, c.requires.parts.two_width, c.requires.four)

pub join-requires-2-clause-low : goal.join-requires-2-clause-low
join-requires-2-clause-low c = bus_kept c.args.net.now c.join.new.self c.args.parts.one c.in_ok-upper.ensures.keeps c.requires.parts.one'

pub join-requires-2-clause-widths : goal.join-requires-2-clause-widths
join-requires-2-clause-widths c = omega (arith, c.in_ok-upper.ensures.width, c.requires.parts.three_width, c.requires.parts.two_width, c.requires.parts.one_width, c.requires.four)

pub join-requires-3-clause-low : goal.join-requires-3-clause-low
join-requires-3-clause-low c =
    bus_kept c.args.net.now c.join-2.new.self c.args.parts.zero (keeps_then c.args.net.now c.join.new.self c.join-2.new.self c.in_ok-upper.ensures.keeps c.in_ok-more.ensures.keeps) c.requires.parts.zero'

pub join-requires-3-clause-widths : goal.join-requires-3-clause-widths
join-requires-3-clause-widths c =
    omega (arith, c.in_ok-more.ensures.width, c.in_ok-upper.ensures.width, c.requires.parts.three_width, c.requires.parts.two_width, c.requires.parts.one_width, c.requires.parts.zero_width, c.requires.four)

pub returns : goal.returns
returns c =
    let upper = c.in_ok-upper.ensures in
    let more = c.in_ok-more.ensures in
    let word = c.in_ok-word.ensures in
    let p = c.args.parts in
    let h = c.requires.parts in
    let w = c.args.width in
    let all = keeps_then c.args.net.now c.join.new.self c.join-3.new.self upper.keeps (keeps_then c.join.new.self c.join-2.new.self c.join-3.new.self more.keeps word.keeps) in
    record {
      keeps = all;
      cost = record {
        nodes = omega (arith, upper.size, more.size, word.size);
        registers = omega (arith, upper.register_bits, more.register_bits, word.register_bits);
        memories = omega (arith, upper.memory_bits, more.memory_bits, word.memory_bits);
      };
      bus = word.bus;
      word_width = omega (arith, word.width, more.width, upper.width, h.three_width, h.two_width, h.one_width, h.zero_width);
      value = λ run r t i l.
          let at_more = word.keeps.runs run r in
          let at_upper = more.keeps.runs run at_more in
          let at_old = upper.keeps.runs run at_upper in
          joined_parts run p w (run.at t c.in_ok-word.word.node) t i l
          (subst (λ (k : ℕ). run.at t p.three.node < 2 ^ k) h.three_width (bus_fits c.args.net.now p.three run h.three' at_old t))
          (subst (λ (k : ℕ). run.at t p.two.node < 2 ^ k) h.two_width (bus_fits c.args.net.now p.two run h.two' at_old t))
          (subst (λ (k : ℕ). run.at t p.one.node < 2 ^ k) h.one_width (bus_fits c.args.net.now p.one run h.one' at_old t))
          (subst (λ (k : ℕ). run.at t p.zero.node < 2 ^ k) h.zero_width (bus_fits c.args.net.now p.zero run h.zero' at_old t))
          (three_joins w p.two.width p.one.width p.zero.width (run.at t p.three.node) (run.at t p.two.node) (run.at t p.one.node) (run.at t p.zero.node)
          (run.at t c.in_ok-upper.upper.node) (run.at t c.in_ok-more.more.node) (run.at t c.in_ok-word.word.node) h.two_width h.one_width h.zero_width
          (upper.value run at_upper t) (more.value run at_more t) (word.value run r t));
    }
