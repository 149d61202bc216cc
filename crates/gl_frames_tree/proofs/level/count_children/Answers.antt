use Rattle.std.proofs.Common.{ℕ, suc, ◌+◌, ◌<◌, ◌^◌, arith, sym, subst, ◌∙◌}
use Rattle.gl_net.proofs.Determined.{keeps_then}
use Rattle.gl_net.proofs.Drive.{driven_keeps}
use Rattle.gl_wire_registers.proofs.RegisterLemmas.{grows_then}
use Rattle.gl_frames_map.proofs.SeenNet.{kept_grows}
use Rattle.gl_frames_tree.proofs.StandNet.{stand_grown, told_grown}
use Rattle.gl_frames_tree.proofs.level.count_children.Goals as goal

pub word-requires-clause-width : goal.word-requires-clause-width
word-requires-clause-width c = record { some' = omega arith; most = omega (arith, c.requires.few) }

pub register-requires-clause-width : goal.register-requires-clause-width
register-requires-clause-width c = record { some' = omega arith; most = omega (arith, c.requires.few) }

pub recall-requires-clause-stand : goal.recall-requires-clause-stand
recall-requires-clause-stand c = stand_grown c.args.net.now c.register.new.self c.args.keys.width c.args.stand c.in_ok-used.ensures.grows c.requires.stand

pub next_used-requires-clause-make : goal.next_used-requires-clause-make
next_used-requires-clause-make c = c.in_ok-told.ensures.has.decision.make

pub next_used-requires-clause-ends : goal.next_used-requires-clause-ends
next_used-requires-clause-ends c =
    (stand_grown c.args.net.now c.recall.new.net c.args.keys.width c.args.stand
    (grows_then c.args.net.now c.register.new.self c.recall.new.net c.in_ok-used.ensures.grows (kept_grows c.register.new.self c.recall.new.net c.in_ok-told.ensures.keeps)) c.requires.stand).ends

pub returns : goal.returns
returns c =
    let register = c.in_ok-used.ensures in
    let told = c.in_ok-told.ensures in
    let next = c.in_ok-next.ensures in
    let drive = c.in_ok-drive.ensures in
    record {
      keeps = driven_keeps c.args.net.now c.register.new.self c.next_used.new.net c.drive.new.self c.in_ok-used.used.node register.grows register.ports register.name register.others register.fresh
          (keeps_then c.register.new.self c.recall.new.net c.next_used.new.net told.keeps next.keeps)
          drive.grows drive.ports drive.name drive.others drive.driven;
      cost = record {
        nodes = omega (arith, register.size, told.cost.nodes, next.cost.nodes, drive.size);
        registers = omega (arith, register.register_bits, told.cost.registers, next.cost.registers, drive.register_bits, register.width);
        memories = omega (arith, register.memory_bits, told.cost.memories, next.cost.memories, drive.memory_bits);
      };
      has = told_grown c.recall.new.net c.drive.new.self c.args.keys.width c.in_ok-told.told
          (grows_then c.recall.new.net c.next_used.new.net c.drive.new.self (kept_grows c.recall.new.net c.next_used.new.net next.keeps) drive.grows) told.has;
      law = λ run r.
          let at_next = drive.grows.runs run r in
          let at_told = next.keeps.runs run at_next in
          let at_register = told.keeps.runs run at_told in
          record {
            used = c.in_ok-used.used;
            recalled = told.law run at_told;
            start = register.start run at_register ∙ c.word.ensures.bits;
            count = λ t fits. drive.value run r t ∙ next.value run at_next t (subst (λ (w : ℕ). run.at (suc t) c.in_ok-used.used.node + 1 < 2 ^ w) (sym register.width) fits);
          };
    }
