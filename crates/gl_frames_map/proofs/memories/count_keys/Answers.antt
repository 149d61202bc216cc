use Rattle.std.proofs.Common.{ℕ, suc, ◌+◌, ◌<◌, ◌^◌, arith, sym, subst, ◌∙◌}
use Rattle.gl_net.proofs.Determined.{keeps_then}
use Rattle.gl_net.proofs.Drive.{driven_keeps}
use Rattle.gl_slots.proofs.SeenNet.{bit_opened}
use Rattle.gl_frames_map.specs.MapNets.{HasRecent}
use Rattle.gl_frames_map.proofs.SeenNet.{asked_grown, kept_grows, told_grown}
use Rattle.gl_wire_registers.proofs.RegisterLemmas.{grows_then}
use Rattle.gl_frames_map.proofs.memories.count_keys.Goals as goal

pub word-requires-clause-width : goal.word-requires-clause-width
word-requires-clause-width c = record { some' = omega arith; most = omega (arith, c.requires.few) }

pub register-requires-clause-width : goal.register-requires-clause-width
register-requires-clause-width c = record { some' = omega arith; most = omega (arith, c.requires.few) }

pub put_recent-requires-clause-near : goal.put_recent-requires-clause-near
put_recent-requires-clause-near c = bit_opened c.args.net.now c.register.new.self c.args.asked.near c.in_ok-used.ensures.grows c.requires.asked.near

pub put_recent-requires-clause-far : goal.put_recent-requires-clause-far
put_recent-requires-clause-far c = bit_opened c.args.net.now c.register.new.self c.args.asked.far c.in_ok-used.ensures.grows c.requires.asked.far

pub find_place-requires-clause-asked : goal.find_place-requires-clause-asked
find_place-requires-clause-asked c = asked_grown c.args.net.now c.put_recent.new.net c.args.asked.last.width c.args.asked (grows_then c.args.net.now c.register.new.self c.put_recent.new.net c.in_ok-used.ensures.grows (kept_grows c.register.new.self c.put_recent.new.net c.in_ok-recent.ensures.keeps)) c.requires.asked

pub find_place-requires-clause-recent : goal.find_place-requires-clause-recent
find_place-requires-clause-recent c =
    subst (λ (w : ℕ). HasRecent c.put_recent.new.net w c.in_ok-recent.recent) c.in_ok-used.ensures.width c.in_ok-recent.ensures.has

pub next_used-requires-clause-first : goal.next_used-requires-clause-first
next_used-requires-clause-first c = c.in_ok-told.ensures.has.first

pub next_used-requires-clause-ends : goal.next_used-requires-clause-ends
next_used-requires-clause-ends c =
    (asked_grown c.args.net.now c.find_place.new.net c.args.asked.last.width c.args.asked
    (grows_then c.args.net.now c.put_recent.new.net c.find_place.new.net (grows_then c.args.net.now c.register.new.self c.put_recent.new.net c.in_ok-used.ensures.grows (kept_grows c.register.new.self c.put_recent.new.net c.in_ok-recent.ensures.keeps)) (kept_grows c.put_recent.new.net c.find_place.new.net c.in_ok-told.ensures.keeps)) c.requires.asked).ends

pub returns : goal.returns
returns c =
    let register = c.in_ok-used.ensures in
    let recent = c.in_ok-recent.ensures in
    let told = c.in_ok-told.ensures in
    let next = c.in_ok-next.ensures in
    let drive = c.in_ok-drive.ensures in
    record {
      keeps = driven_keeps c.args.net.now c.register.new.self c.next_used.new.net c.drive.new.self c.in_ok-used.used.node register.grows register.ports register.name register.others register.fresh
          (keeps_then c.register.new.self c.put_recent.new.net c.next_used.new.net recent.keeps (keeps_then c.put_recent.new.net c.find_place.new.net c.next_used.new.net told.keeps next.keeps))
          drive.grows drive.ports drive.name drive.others drive.driven;
      cost = record {
        nodes = omega (arith, register.size, recent.cost.nodes, told.cost.nodes, next.cost.nodes, drive.size);
        registers = omega (arith, register.register_bits, recent.cost.registers, told.cost.registers, next.cost.registers, drive.register_bits, register.width);
        memories = omega (arith, register.memory_bits, recent.cost.memories, told.cost.memories, next.cost.memories, drive.memory_bits);
      };
      has = told_grown c.find_place.new.net c.drive.new.self c.args.keys.width c.in_ok-told.told
          (grows_then c.find_place.new.net c.next_used.new.net c.drive.new.self (kept_grows c.find_place.new.net c.next_used.new.net next.keeps) drive.grows) told.has;
      law = λ run r.
          let at_next = drive.grows.runs run r in
          let at_told = next.keeps.runs run at_next in
          let at_recent = told.keeps.runs run at_told in
          let at_register = recent.keeps.runs run at_recent in
          record {
            used = c.in_ok-used.used;
            recent = c.in_ok-recent.recent;
            is_recent = recent.law run at_recent;
            place = told.law run at_told;
            start = register.start run at_register ∙ c.word.ensures.bits;
            next = λ t fits. drive.value run r t ∙ (next.law run at_next).value t (subst (λ (w : ℕ). run.at (suc t) c.in_ok-used.used.node + 1 < 2 ^ w) (sym register.width) fits);
          };
    }
