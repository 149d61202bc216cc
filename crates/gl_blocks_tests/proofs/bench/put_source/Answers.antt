use Rattle.std.proofs.Common.{◌≡◌, refl, ap, ◌∙◌, arith}
use Rattle.gl_net.proofs.Determined.{keeps_then}
use Rattle.gl_wire.proofs.ColumnLemmas.{bus_kept}
use Rattle.gl_wire.proofs.GateLemmas.{bit_of}
use Rattle.gl_blocks_tests.proofs.BenchLemmas.{pair_more}
use Rattle.gl_blocks_tests.specs.Benches.{widths_of_pairs}
use Rattle.gl_blocks_tests.proofs.bench.put_source.Goals as goal

pub loop-pair-preserved : goal.loop-pair-preserved
loop-pair-preserved c =
    let word = c.in_ok-word.ensures in
    pair_more c.cut-4.new.self c.loop-pair.columns c.push.new.self c.push-in-loop-pair.new.self c.in_ok-flag.flag c.in_ok-word.word c.loop-pair._pair
    c.in_ok-push.ensures.ok c.in_ok-push-2.ensures.ok (bus_kept _ _ _ word.keeps c.in_ok-flag.ensures.bus) c.in_ok-flag.ensures.width word.bus word.width c.loop-pair.invariant

pub returns : goal.returns
returns c =
    let valid = c.in_ok-valid.ensures in
    let eos = c.in_ok-eos.ensures in
    let flag = c.in_ok-flag.ensures in
    let word = c.in_ok-word.ensures in
    let flag_word = keeps_then c.cut-2.new.self c.cut-3.new.self c.cut-4.new.self flag.keeps word.keeps in
    let behind_valid = keeps_then c.cut.new.self c.cut-2.new.self c.cut-4.new.self eos.keeps flag_word in
    let all : c.loop-pair._pair ≡ c.args.pairs = omega arith in
    record {
      keeps = keeps_then c.args.net.now c.cut.new.self c.cut-4.new.self valid.keeps behind_valid;
      wire = record {
        valid = bit_of c.cut-4.new.self c.in_ok-valid.valid c.bit.result (bus_kept _ _ _ behind_valid valid.bus) valid.width c.bit.ensures;
        eos = bit_of c.cut-4.new.self c.in_ok-eos.eos c.bit-2.result (bus_kept _ _ _ flag_word eos.bus) eos.width c.bit-2.ensures;
        columns = c.loop-pair.invariant.0;
      };
      same_widths = c.loop-pair.invariant.1 ∙ ap widths_of_pairs all;
      faults = refl;
    }
