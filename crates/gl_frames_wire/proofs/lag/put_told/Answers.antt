use Rattle.std.proofs.Common.{ℕ, Bool, suc, ap, arith, ◌∙◌, sym}
use Rattle.std.specs.Prelude.{if◌then◌else◌, nat_le}
use Rattle.gl_net.proofs.Determined.{keeps_then}
use Rattle.gl_wire.proofs.ColumnLemmas.{bit_kept, bus_kept}
use Rattle.gl_wire.proofs.GateLemmas.{choose_line}
use Rattle.gl_frames_wire.proofs.lag.put_told.Goals as goal

pub choose-requires-clause-test : goal.choose-requires-clause-test
choose-requires-clause-test c = bit_kept c.put_many.new.net c.constant.new.self c.in_ok-there.there c.in_ok-none.ensures.keeps c.in_ok-there.ensures.bit

pub choose-requires-clause-yes : goal.choose-requires-clause-yes
choose-requires-clause-yes c = bus_kept c.put_ring.new.net c.constant.new.self c.in_ok-out.out (keeps_then _ c.put_many.new.net _ c.in_ok-there.ensures.keeps c.in_ok-none.ensures.keeps) c.in_ok-out.ensures.bus

pub choose-requires-clause-widths : goal.choose-requires-clause-widths
choose-requires-clause-widths c = c.in_ok-out.ensures.same_width ∙ sym (c.in_ok-none.ensures.width ∙ c.word.ensures.width)

pub returns : goal.returns
returns c =
    let ring = c.in_ok-out.ensures in
    let there = c.in_ok-there.ensures in
    let none = c.in_ok-none.ensures in
    let told = c.in_ok-told.ensures in
    record {
      keeps = keeps_then _ _ _ ring.keeps (keeps_then _ _ _ there.keeps (keeps_then _ _ _ none.keeps told.keeps));
      cost = record {
        nodes = omega (arith, ring.cost.nodes, there.cost.nodes, none.size, told.size);
        registers = omega (arith, ring.cost.registers, there.cost.registers, none.register_bits, told.register_bits);
        memories = omega (arith, ring.cost.memories, there.cost.memories, none.memory_bits, told.memory_bits);
      };
      bus = told.bus;
      same_width = told.width ∙ ring.same_width;
      given = c.in_ok-out.out;
      ring = λ run r ends first. ring.ring run (there.keeps.runs run (none.keeps.runs run (told.keeps.runs run r))) ends first;
      told = λ run r t.
          let at_none = told.keeps.runs run r in
          let at_there = none.keeps.runs run at_none in
          told.value run r (suc t) ∙ choose_line run c.in_ok-there.there (run.at (suc t) c.in_ok-out.out.node) (run.at (suc t) c.in_ok-none.none.node) t
          ∙ ap (λ (b : Bool). if b then run.at (suc t) c.in_ok-out.out.node else run.at (suc t) c.in_ok-none.none.node) (there.line run at_there t)
          ∙ ap (λ (n : ℕ). if nat_le c.args.reach.back (run.at (suc t) c.args.count.node) then run.at (suc t) c.in_ok-out.out.node else n) (none.value run at_none (suc t) ∙ c.word.ensures.bits);
    }
