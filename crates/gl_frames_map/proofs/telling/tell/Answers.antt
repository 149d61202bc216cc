use Rattle.std.proofs.Common.{◌≡◌, ℕ, Bool, suc, ◌+◌, ◌<◌, ap, sym, subst, arith, ◌∙◌}
use Rattle.std.specs.Prelude.{not, ◌&&◌, ◌||◌, ◌*◌, ◌%◌, ◌^◌, nat_eq}
use Rattle.gl_bits.proofs.Wrapping.{cut_low, one_fits}
use Rattle.gl_net.proofs.Determined.{keeps_then}
use Rattle.gl_wire.specs.Wire.{line_at}
use Rattle.gl_wire.proofs.ColumnLemmas.{bit_kept, bus_kept}
use Rattle.gl_wire_registers.specs.Held.{held_at}
use Rattle.gl_frames_map.specs.MapNets.{number_at}
use Rattle.std.proofs.lemmas.Nat.{pow-add}
use Rattle.gl_frames_map.proofs.SeenNet.{kept_grows, seen_grown}
use Rattle.gl_frames_map.proofs.telling.tell.Goals as goal

pub put_hit-requires-clause-widths : goal.put_hit-requires-clause-widths
put_hit-requires-clause-widths c = c.requires.asked.last_width

pub put_known-requires-clause-one : goal.put_known-requires-clause-one
put_known-requires-clause-one c = bit_kept c.args.net.now c.put_hit.new.net c.args.seen.recent.one c.in_ok-hit.ensures.keeps c.requires.seen.recent.one

pub put_known-requires-clause-two : goal.put_known-requires-clause-two
put_known-requires-clause-two c = bit_kept c.args.net.now c.put_hit.new.net c.args.seen.recent.two c.in_ok-hit.ensures.keeps c.requires.seen.recent.two

pub cut-requires-clause-inside : goal.cut-requires-clause-inside
cut-requires-clause-inside c = omega (arith, c.in_ok-number.ensures.width, c.requires.seen.number_width, c.requires.width.some')

pub decide-requires-clause-valid : goal.decide-requires-clause-valid
decide-requires-clause-valid c =
    bit_kept c.args.net.now c.cut.new.self c.args.asked.valid
    (keeps_then c.args.net.now c.put_known.new.net c.cut.new.self
    (keeps_then c.args.net.now c.put_hit.new.net c.put_known.new.net c.in_ok-hit.ensures.keeps c.in_ok-known.ensures.keeps)
    (keeps_then c.put_known.new.net c.choose_number.new.net c.cut.new.self c.in_ok-number.ensures.keeps c.in_ok-slot.ensures.keeps)) c.requires.asked.valid

pub decide-requires-clause-used : goal.decide-requires-clause-used
decide-requires-clause-used c =
    bus_kept c.args.net.now c.cut.new.self c.args.seen.used
    (keeps_then c.args.net.now c.put_known.new.net c.cut.new.self
    (keeps_then c.args.net.now c.put_hit.new.net c.put_known.new.net c.in_ok-hit.ensures.keeps c.in_ok-known.ensures.keeps)
    (keeps_then c.put_known.new.net c.choose_number.new.net c.cut.new.self c.in_ok-number.ensures.keeps c.in_ok-slot.ensures.keeps)) c.requires.seen.used

pub choose_number-requires-clause-seen : goal.choose_number-requires-clause-seen
choose_number-requires-clause-seen c =
    seen_grown c.args.net.now c.put_known.new.net (c.args.keys.width + 1) c.args.seen
    (kept_grows c.args.net.now c.put_known.new.net (keeps_then c.args.net.now c.put_hit.new.net c.put_known.new.net c.in_ok-hit.ensures.keeps c.in_ok-known.ensures.keeps)) c.requires.seen

pub decide-requires-clause-fits : goal.decide-requires-clause-fits
decide-requires-clause-fits c =
    let twice : 2 ^ (c.args.keys.width + 1) ≡ 2 ^ c.args.keys.width * 2 = pow-add 2 c.args.keys.width 1 in
    subst (λ (w : ℕ). c.args.keys.groups < 2 ^ w) (sym c.requires.seen.used_width)
    (omega (arith, twice, c.requires.fits, one_fits c.args.keys.width c.requires.width.some'))

pub returns : goal.returns
returns c =
    let hit = c.in_ok-hit.ensures in
    let known = c.in_ok-known.ensures in
    let number = c.in_ok-number.ensures in
    let slot = c.in_ok-slot.ensures in
    let decision = c.in_ok-decision.ensures in
    let s = c.args.seen in
    let k_number = keeps_then c.choose_number.new.net c.cut.new.self c.decide.new.net slot.keeps decision.keeps in
    let k_known = keeps_then c.put_known.new.net c.choose_number.new.net c.decide.new.net number.keeps k_number in
    let k_hit = keeps_then c.put_hit.new.net c.put_known.new.net c.decide.new.net known.keeps k_known in
    record {
      keeps = keeps_then c.args.net.now c.put_hit.new.net c.decide.new.net hit.keeps k_hit;
      cost = record {
        nodes = omega (arith, hit.cost.nodes, known.cost.nodes, number.cost.nodes, slot.size, decision.cost.nodes);
        registers = omega (arith, hit.cost.registers, known.cost.registers, number.cost.registers, slot.register_bits, decision.cost.registers);
        memories = omega (arith, hit.cost.memories, known.cost.memories, number.cost.memories, slot.memory_bits, decision.cost.memories);
      };
      has = record {
        row = decision.row;
        first = decision.first;
        further = decision.further;
        slot = bus_kept c.cut.new.self c.decide.new.net c.in_ok-slot.slot decision.keeps slot.bus;
        slot_width = slot.width ∙ omega (arith, c.requires.width.some');
      };
      law = λ run r.
          let at_slot = decision.keeps.runs run r in
          let at_number = slot.keeps.runs run at_slot in
          let at_known = number.keeps.runs run at_number in
          let at_hit = known.keeps.runs run at_known in
          let a = c.args.asked in
          let is_decision = decision.law run r in
          let is_known = λ (t : ℕ). known.line run at_known t
          ∙ ap (λ (b : Bool). (b || line_at run s.recent.one t) || line_at run s.recent.two t) (hit.line run at_hit t) in
          record {
            decision = record {
              further = λ t. is_decision.further t
                  ∙ ap (λ (b : Bool). (line_at run a.valid t && not b) && nat_eq (held_at 0 run s.used t) c.args.keys.groups) (is_known t);
              first = λ t. is_decision.first t
                  ∙ ap (λ (b : Bool). (line_at run a.valid t && not b) && not (line_at run c.in_ok-decision.decision.further t)) (is_known t);
              row = is_decision.row;
            };
            slot = λ t. slot.value run at_slot (suc t)
                ∙ cut_low c.args.keys.width (run.at (suc t) c.in_ok-number.number.node) c.requires.width.some'
                ∙ ap (λ x. x % 2 ^ c.args.keys.width) (number.value run at_number t ∙ ap (λ (b : Bool). number_at run b s (suc t)) (hit.line run at_hit (suc t)));
          };
    }
