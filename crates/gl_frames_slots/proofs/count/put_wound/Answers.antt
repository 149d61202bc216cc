use Rattle.std.proofs.Common.{◌≡◌, ℕ, suc, ◌+◌, ◌^◌, Bool, sym, ap, arith, ◌∙◌}
use Rattle.std.specs.Prelude.{if◌then◌else◌, nat_eq}
use Rattle.gl_bits.specs.Words.{sum_of}
use Rattle.gl_net.proofs.Determined.{keeps_then}
use Rattle.gl_net.proofs.Values.{bus_fits}
use Rattle.gl_wire.specs.Wire.{line_at}
use Rattle.std.proofs.lemmas.Nat.{pow_pos}
use Rattle.gl_wire.proofs.ColumnLemmas.{bit_kept}
use Rattle.gl_wire.proofs.GateLemmas.{choose_line}
use Rattle.gl_frames_wire.proofs.CountNet.{twice, wound_is}
use Rattle.gl_frames_slots.proofs.count.put_wound.Goals as goal

pub returns : goal.returns
returns c =
    let count = c.args.count in
    let bits = c.args.bits in
    let one = c.in_ok-one.ensures in
    let last = c.in_ok-last.ensures in
    let size = c.in_ok-size.ensures in
    let more = c.in_ok-more.ensures in
    let full = c.in_ok-full.ensures in
    let wound = c.in_ok-wound.ensures in
    let now = c.in_ok-now.ensures in
    let whole : 2 ^ count.width ≡ 2 ^ bits + 2 ^ bits = ap (λ (k : ℕ). 2 ^ k) c.requires.width ∙ twice bits in
    record {
      keeps = keeps_then _ _ _ one.keeps (keeps_then _ _ _ last.keeps (keeps_then _ _ _ size.keeps (keeps_then _ _ _ more.keeps (keeps_then _ _ _ full.keeps (keeps_then _ _ _ wound.keeps now.keeps)))));
      cost = record {
        nodes = omega (arith, one.size, last.size, size.size, more.size, full.cost.nodes, wound.size, now.size);
        registers = omega (arith, one.register_bits, last.register_bits, size.register_bits, more.register_bits, full.cost.registers, wound.register_bits, now.register_bits);
        memories = omega (arith, one.memory_bits, last.memory_bits, size.memory_bits, more.memory_bits, full.cost.memories, wound.memory_bits, now.memory_bits);
      };
      bus = now.bus;
      same_width = now.width ∙ wound.width ∙ size.width ∙ c.size_word.ensures.width ∙ sym c.requires.width;
      with_row = λ run r t.
          let at_wound = now.keeps.runs run r in
          let at_full = wound.keeps.runs run at_wound in
          let at_more = full.keeps.runs run at_full in
          let at_size = more.keeps.runs run at_more in
          let at_last = size.keeps.runs run at_size in
          let at_one = last.keeps.runs run at_last in
          let n : ℕ = run.at (suc t) count.node in
          now.value run r (suc t) ∙ choose_line run c.args.valid (run.at (suc t) c.in_ok-wound.wound.node) n t
          ∙ ap (λ (k : ℕ). if line_at run c.args.valid (suc t) then k else n)
          (wound.value run at_wound (suc t) ∙ choose_line run c.in_ok-full.full (run.at (suc t) c.in_ok-size.size.node) (run.at (suc t) c.in_ok-more.more.node) t
          ∙ ap (λ (b : Bool). if b then run.at (suc t) c.in_ok-size.size.node else run.at (suc t) c.in_ok-more.more.node) (full.line run at_full (suc t))
          ∙ ap (λ (k : ℕ). if nat_eq n k then run.at (suc t) c.in_ok-size.size.node else run.at (suc t) c.in_ok-more.more.node) (last.value run at_last (suc t))
          ∙ ap (λ (k : ℕ). if nat_eq n c.last_word.result.bits then k else run.at (suc t) c.in_ok-more.more.node) (size.value run at_size (suc t) ∙ c.size_word.ensures.bits)
          ∙ ap (λ (k : ℕ). if nat_eq n c.last_word.result.bits then (2 ^ bits) else k) (more.value run at_more (suc t) ∙ ap (sum_of count.width n) (one.value run at_one (suc t) ∙ c.word.ensures.bits))
          ∙ wound_is count.width (2 ^ bits) c.last_word.result.bits n whole c.last_word.ensures.bits
          (bus_fits c.args.net.now count run c.requires.count (one.keeps.runs run at_one) (suc t)));
    }

pub binary-requires-clause-widths : goal.binary-requires-clause-widths
binary-requires-clause-widths c = c.requires.width ∙ sym (c.in_ok-one.ensures.width ∙ c.word.ensures.width)

pub same-requires-clause-widths : goal.same-requires-clause-widths
same-requires-clause-widths c = c.requires.width ∙ sym (c.in_ok-last.ensures.width ∙ c.last_word.ensures.width)

pub choose-requires-clause-widths : goal.choose-requires-clause-widths
choose-requires-clause-widths c = c.in_ok-size.ensures.width ∙ c.size_word.ensures.width ∙ sym c.requires.width ∙ sym c.in_ok-more.ensures.width

pub choose-requires-2-clause-widths : goal.choose-requires-2-clause-widths
choose-requires-2-clause-widths c = c.in_ok-wound.ensures.width ∙ c.in_ok-size.ensures.width ∙ c.size_word.ensures.width ∙ sym c.requires.width

pub word-requires-clause-fits : goal.word-requires-clause-fits
word-requires-clause-fits c = omega (arith, twice c.args.bits, pow_pos c.args.bits)

pub choose-requires-2-clause-test : goal.choose-requires-2-clause-test
choose-requires-2-clause-test c =
    bit_kept c.args.net.now c.choose.new.self c.args.valid
    (keeps_then _ _ _ c.in_ok-one.ensures.keeps (keeps_then _ _ _ c.in_ok-last.ensures.keeps (keeps_then _ _ _ c.in_ok-size.ensures.keeps
    (keeps_then _ _ _ c.in_ok-more.ensures.keeps (keeps_then _ _ _ c.in_ok-full.ensures.keeps c.in_ok-wound.ensures.keeps))))) c.requires.valid
