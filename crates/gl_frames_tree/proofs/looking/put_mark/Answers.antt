use Rattle.std.proofs.Common.{ℕ, ap, arith, ◌+◌, ◌^◌, ◌≡◌, ◌∙◌}
use Rattle.gl_bits.specs.Words.{join_of}
use Rattle.gl_bits.proofs.Wrapping.{cut_low}
use Rattle.gl_net.proofs.Determined.{keeps_then}
use Rattle.gl_wire.proofs.ColumnLemmas.{bus_kept}
use Rattle.gl_frames_tree.proofs.PartLemmas.{join_one}
use Rattle.gl_frames_tree.proofs.looking.put_mark.Goals as goal

pub cut-requires-clause-inside : goal.cut-requires-clause-inside
cut-requires-clause-inside c = omega (arith, c.requires.used_width, c.requires.width.some')

pub join-requires-clause-widths : goal.join-requires-clause-widths
join-requires-clause-widths c = omega (arith, c.in_ok-one.ensures.width, c.word.ensures.width, c.in_ok-free.ensures.width, c.requires.used.width.most, c.requires.used_width, c.requires.width.some')

pub returns : goal.returns
returns c =
    let w = c.args.width in
    let some = c.requires.width.some' in
    let one = c.in_ok-one.ensures in
    let free = c.in_ok-free.ensures in
    let mark = c.in_ok-mark.ensures in
    let wide : c.in_ok-free.free.width ≡ w = omega (arith, free.width, some) in
    let k_one = keeps_then c.constant.new.self c.cut.new.self c.join.new.self free.keeps mark.keeps in
    record {
      keeps = keeps_then c.args.net.now c.constant.new.self c.join.new.self one.keeps k_one;
      cost = record {
        nodes = omega (arith, one.size, free.size, mark.size);
        registers = omega (arith, one.register_bits, free.register_bits, mark.register_bits);
        memories = omega (arith, one.memory_bits, free.memory_bits, mark.memory_bits);
      };
      free' = bus_kept c.cut.new.self c.join.new.self c.in_ok-free.free mark.keeps free.bus;
      free_width = wide;
      mark' = mark.bus;
      mark_width = omega (arith, mark.width, one.width, c.word.ensures.width, wide);
      free = λ run r t. free.value run (mark.keeps.runs run r) t ∙ cut_low w (run.at t c.args.used.node) some;
      mark = λ run r t.
          let at_free = mark.keeps.runs run r in
          let at_one = free.keeps.runs run at_free in
          mark.value run r t
          ∙ ap (λ (k : ℕ). join_of k (run.at t c.in_ok-one.one.node) (run.at t c.in_ok-free.free.node)) wide
          ∙ join_one w (run.at t c.in_ok-one.one.node) (run.at t c.in_ok-free.free.node) (one.value run at_one t ∙ c.word.ensures.bits)
          ∙ ap (λ (x : ℕ). 2 ^ w + x) (free.value run at_free t ∙ cut_low w (run.at t c.args.used.node) some);
    }
