use Rattle.std.proofs.Common.{ℕ, suc, ap, sym, subst, arith, ◌+◌, ◌<◌, ◌^◌, ◌≡◌, ◌∙◌}
use Rattle.std.specs.Prelude.{if◌then◌else◌, ◌*◌}
use Rattle.std.proofs.lemmas.Nat.{pow-add}
use Rattle.gl_bits.proofs.Wrapping.{one_fits}
use Rattle.gl_net.proofs.Determined.{keeps_then}
use Rattle.gl_wire.specs.Wire.{line_at}
use Rattle.gl_wire.proofs.ColumnLemmas.{bit_kept, bus_kept}
use Rattle.gl_wire.proofs.GateLemmas.{choose_line}
use Rattle.gl_frames_tree.proofs.looking.settle.Goals as goal

pub decide-requires-clause-valid : goal.decide-requires-clause-valid
decide-requires-clause-valid c = c.requires.stand.valid

pub decide-requires-clause-here : goal.decide-requires-clause-here
decide-requires-clause-here c = c.requires.looked.here

pub decide-requires-clause-fits : goal.decide-requires-clause-fits
decide-requires-clause-fits c =
    let twice : 2 ^ (c.args.keys.width + 1) ≡ 2 ^ c.args.keys.width * 2 = pow-add 2 c.args.keys.width 1 in
    subst (λ (w : ℕ). c.args.keys.groups < 2 ^ w) (sym c.requires.used_width)
    (omega (arith, twice, c.requires.fits, one_fits c.args.keys.width c.requires.width.some'))

pub choose-requires-clause-test : goal.choose-requires-clause-test
choose-requires-clause-test c =
    bit_kept c.args.net.now c.put_mark.new.net c.args.looked.seen.here (keeps_then c.args.net.now c.decide.new.net c.put_mark.new.net c.in_ok-decision.ensures.keeps c.in_ok-new.ensures.keeps) c.requires.looked.here

pub choose-requires-clause-yes : goal.choose-requires-clause-yes
choose-requires-clause-yes c =
    bus_kept c.args.net.now c.put_mark.new.net c.args.looked.seen.child (keeps_then c.args.net.now c.decide.new.net c.put_mark.new.net c.in_ok-decision.ensures.keeps c.in_ok-new.ensures.keeps) c.requires.looked.child

pub choose-requires-clause-no : goal.choose-requires-clause-no
choose-requires-clause-no c = c.in_ok-new.ensures.free'

pub choose-requires-clause-widths : goal.choose-requires-clause-widths
choose-requires-clause-widths c = c.requires.looked.child_width ∙ sym c.in_ok-new.ensures.free_width

pub returns : goal.returns
returns c =
    let decision = c.in_ok-decision.ensures in
    let new = c.in_ok-new.ensures in
    let number = c.in_ok-number.ensures in
    let seen = c.args.looked.seen in
    let used = c.args.used in
    let k_decision = keeps_then c.decide.new.net c.put_mark.new.net c.choose.new.self new.keeps number.keeps in
    record {
      keeps = keeps_then c.args.net.now c.decide.new.net c.choose.new.self decision.keeps k_decision;
      cost = record {
        nodes = omega (arith, decision.cost.nodes, new.cost.nodes, number.size);
        registers = omega (arith, decision.cost.registers, new.cost.registers, number.register_bits);
        memories = omega (arith, decision.cost.memories, new.cost.memories, number.memory_bits);
      };
      decision = record {
        row = bit_kept c.decide.new.net c.choose.new.self c.in_ok-decision.decision.row k_decision decision.has.row;
        make = bit_kept c.decide.new.net c.choose.new.self c.in_ok-decision.decision.make k_decision decision.has.make;
        lost = bit_kept c.decide.new.net c.choose.new.self c.in_ok-decision.decision.lost k_decision decision.has.lost;
      };
      mark = bus_kept c.put_mark.new.net c.choose.new.self c.in_ok-new.new.mark number.keeps new.mark';
      mark_width = new.mark_width;
      number = number.bus;
      number_width = number.width ∙ c.requires.looked.child_width;
      law = λ run r.
          let at_new = number.keeps.runs run r in
          let at_decision = new.keeps.runs run at_new in
          record {
            decision = decision.law run at_decision;
            mark = new.mark run at_new;
            number = λ t. number.value run r (suc t) ∙ choose_line run seen.here (run.at (suc t) seen.child.node) (run.at (suc t) c.in_ok-new.new.free.node) t
                ∙ ap (λ (x : ℕ). if line_at run seen.here (suc t) then run.at (suc t) seen.child.node else x) (new.free run at_new (suc t));
          };
    }
