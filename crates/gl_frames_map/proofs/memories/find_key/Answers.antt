use Rattle.std.proofs.Common.{ℕ, suc, ◌+◌, arith, sym, subst, ◌∙◌}
use Rattle.gl_net.proofs.Determined.{keeps_then}
use Rattle.gl_net.proofs.Drive.{driven_keeps}
use Rattle.gl_wire_registers.proofs.RegisterLemmas.{grows_then}
use Rattle.gl_frames_map.specs.MapNets.{HasAsked}
use Rattle.gl_frames_map.proofs.SeenNet.{asked_grown, grows_on, kept_grows, seen_grown, told_grown}
use Rattle.gl_frames_map.proofs.memories.find_key.Goals as goal

pub memory-requires-clause-width : goal.memory-requires-clause-width
memory-requires-clause-width c = c.requires.asked.last.width

pub read-requires-clause-width : goal.read-requires-clause-width
read-requires-clause-width c = c.requires.found_width ∙ sym c.in_ok-store.ensures.bits

pub memory-requires-clause-bits : goal.memory-requires-clause-bits
memory-requires-clause-bits c = record { some' = c.requires.width.some'; most = c.requires.few }

pub tell-requires-clause-asked : goal.tell-requires-clause-asked
tell-requires-clause-asked c =
    subst (λ (w : ℕ). HasAsked c.later.new.net w c.args.asked) (sym (c.in_ok-stored.ensures.same_width ∙ c.in_ok-key.ensures.width ∙ c.in_ok-store.ensures.width))
    (asked_grown c.args.net.now c.later.new.net c.args.asked.last.width c.args.asked (grows_on c.args.net.now c.memory.new.self c.read.new.self c.later.new.net c.in_ok-store.ensures.grows c.in_ok-key.ensures.keeps c.in_ok-stored.ensures.keeps) c.requires.asked)

pub tell-requires-clause-seen : goal.tell-requires-clause-seen
tell-requires-clause-seen c = seen_grown c.args.net.now c.later.new.net (c.args.keys.width + 1) c.args.seen (grows_on c.args.net.now c.memory.new.self c.read.new.self c.later.new.net c.in_ok-store.ensures.grows c.in_ok-key.ensures.keeps c.in_ok-stored.ensures.keeps) c.requires.seen

pub drive_memory-requires-clause-write : goal.drive_memory-requires-clause-write
drive_memory-requires-clause-write c = c.in_ok-told.ensures.has.first

pub drive_memory-requires-clause-address : goal.drive_memory-requires-clause-address
drive_memory-requires-clause-address c = c.in_ok-told.ensures.has.slot

pub drive_memory-requires-clause-address_width : goal.drive_memory-requires-clause-address_width
drive_memory-requires-clause-address_width c = c.in_ok-told.ensures.has.slot_width ∙ sym c.in_ok-store.ensures.bits

pub drive_memory-requires-clause-value : goal.drive_memory-requires-clause-value
drive_memory-requires-clause-value c =
    (asked_grown c.args.net.now c.tell.new.net c.args.asked.last.width c.args.asked
    (grows_then c.args.net.now c.later.new.net c.tell.new.net (grows_on c.args.net.now c.memory.new.self c.read.new.self c.later.new.net c.in_ok-store.ensures.grows c.in_ok-key.ensures.keeps c.in_ok-stored.ensures.keeps) (kept_grows c.later.new.net c.tell.new.net c.in_ok-told.ensures.keeps)) c.requires.asked).last

pub returns : goal.returns
returns c =
    let made = c.in_ok-store.ensures in
    let key = c.in_ok-key.ensures in
    let stored = c.in_ok-stored.ensures in
    let told = c.in_ok-told.ensures in
    let drive = c.in_ok-drive_memory.ensures in
    let store = c.in_ok-store.store.node in
    record {
      keeps = driven_keeps c.args.net.now c.memory.new.self c.tell.new.net c.drive_memory.new.self store made.grows made.ports made.name made.others made.fresh
          (keeps_then c.memory.new.self c.read.new.self c.tell.new.net key.keeps (keeps_then c.read.new.self c.later.new.net c.tell.new.net stored.keeps told.keeps))
          drive.grows drive.ports drive.name drive.others drive.driven;
      cost = record {
        nodes = omega (arith, made.size, key.size, stored.cost.nodes, told.cost.nodes, drive.size);
        registers = omega (arith, made.register_bits, key.register_bits, stored.cost.registers, told.cost.registers, drive.register_bits, key.width, made.width);
        memories = omega (arith, made.memory_bits, key.memory_bits, stored.cost.memories, told.cost.memories, drive.memory_bits);
      };
      has = told_grown c.tell.new.net c.drive_memory.new.self c.args.keys.width c.in_ok-told.told drive.grows told.has;
      law = λ run r.
          let at_told = drive.grows.runs run r in
          let at_stored = told.keeps.runs run at_told in
          let at_key = stored.keeps.runs run at_stored in
          record {
            stored = c.in_ok-stored.stored;
            words = record {
              word = λ t k. run.word t store k;
              reads = λ t. stored.value run at_stored t ∙ key.value run at_key (suc t);
              writes = λ t k. drive.value run r t k;
            };
            told = told.law run at_told;
          };
    }
