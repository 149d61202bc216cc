use Rattle.std.proofs.Common.{suc, ◌+◌, arith, sym, ◌∙◌}
use Rattle.gl_net.proofs.Determined.{keeps_then}
use Rattle.gl_net.proofs.Drive.{driven_keeps}
use Rattle.gl_wire_registers.proofs.RegisterLemmas.{grown_bus, grows_then}
use Rattle.gl_frames_map.proofs.SeenNet.{asked_grown, grows_on, kept_grows, recent_grown, told_grown}
use Rattle.gl_frames_map.proofs.memories.find_place.Goals as goal

pub read-requires-clause-address : goal.read-requires-clause-address
read-requires-clause-address c = (asked_grown c.args.net.now c.memory.new.self c.args.asked.last.width c.args.asked c.in_ok-store.ensures.grows c.requires.asked).here

pub read-requires-clause-width : goal.read-requires-clause-width
read-requires-clause-width c = c.requires.asked.here_width ∙ sym c.in_ok-store.ensures.bits

pub memory-requires-clause-bits : goal.memory-requires-clause-bits
memory-requires-clause-bits c = record { some' = c.requires.asked.last.width.some'; most = c.requires.narrow }

pub put_read-requires-clause-used : goal.put_read-requires-clause-used
put_read-requires-clause-used c = grown_bus c.args.net.now c.later.new.net c.args.used (grows_on c.args.net.now c.memory.new.self c.read.new.self c.later.new.net c.in_ok-store.ensures.grows c.in_ok-place.ensures.keeps c.in_ok-found.ensures.keeps) c.requires.used

pub put_read-requires-clause-width : goal.put_read-requires-clause-width
put_read-requires-clause-width c = omega (arith, c.requires.used_width, c.in_ok-found.ensures.same_width, c.in_ok-place.ensures.width, c.in_ok-store.ensures.width)

pub put_read-requires-clause-ends : goal.put_read-requires-clause-ends
put_read-requires-clause-ends c = (asked_grown c.args.net.now c.later.new.net c.args.asked.last.width c.args.asked (grows_on c.args.net.now c.memory.new.self c.read.new.self c.later.new.net c.in_ok-store.ensures.grows c.in_ok-place.ensures.keeps c.in_ok-found.ensures.keeps) c.requires.asked).ends

pub find_key-requires-clause-asked : goal.find_key-requires-clause-asked
find_key-requires-clause-asked c = asked_grown c.args.net.now c.put_read.new.net c.args.asked.last.width c.args.asked (grows_then c.args.net.now c.later.new.net c.put_read.new.net (grows_on c.args.net.now c.memory.new.self c.read.new.self c.later.new.net c.in_ok-store.ensures.grows c.in_ok-place.ensures.keeps c.in_ok-found.ensures.keeps) (kept_grows c.later.new.net c.put_read.new.net c.in_ok-read.ensures.keeps)) c.requires.asked

pub find_key-requires-clause-found_width : goal.find_key-requires-clause-found_width
find_key-requires-clause-found_width c = c.in_ok-found.ensures.same_width ∙ c.in_ok-place.ensures.width ∙ c.in_ok-store.ensures.width

pub find_key-requires-clause-seen : goal.find_key-requires-clause-seen
find_key-requires-clause-seen c =
    let read = c.in_ok-read.ensures in
    record {
      used = grown_bus c.args.net.now c.put_read.new.net c.args.used (grows_then c.args.net.now c.later.new.net c.put_read.new.net (grows_on c.args.net.now c.memory.new.self c.read.new.self c.later.new.net c.in_ok-store.ensures.grows c.in_ok-place.ensures.keeps c.in_ok-found.ensures.keeps) (kept_grows c.later.new.net c.put_read.new.net c.in_ok-read.ensures.keeps)) c.requires.used;
      used_width = c.requires.used_width;
      recent = recent_grown c.args.net.now c.put_read.new.net (c.args.keys.width + 1) c.args.recent (grows_then c.args.net.now c.later.new.net c.put_read.new.net (grows_on c.args.net.now c.memory.new.self c.read.new.self c.later.new.net c.in_ok-store.ensures.grows c.in_ok-place.ensures.keeps c.in_ok-found.ensures.keeps) (kept_grows c.later.new.net c.put_read.new.net c.in_ok-read.ensures.keeps)) c.requires.recent;
      below = read.below;
      number = read.number;
      number_width = omega (arith, read.number_width, c.in_ok-found.ensures.same_width, c.in_ok-place.ensures.width, c.in_ok-store.ensures.width);
    }

pub drive_memory-requires-clause-write : goal.drive_memory-requires-clause-write
drive_memory-requires-clause-write c = c.in_ok-told.ensures.has.first

pub drive_memory-requires-clause-address : goal.drive_memory-requires-clause-address
drive_memory-requires-clause-address c =
    (asked_grown c.args.net.now c.find_key.new.net c.args.asked.last.width c.args.asked
    (grows_then c.args.net.now c.put_read.new.net c.find_key.new.net (grows_then c.args.net.now c.later.new.net c.put_read.new.net (grows_on c.args.net.now c.memory.new.self c.read.new.self c.later.new.net c.in_ok-store.ensures.grows c.in_ok-place.ensures.keeps c.in_ok-found.ensures.keeps) (kept_grows c.later.new.net c.put_read.new.net c.in_ok-read.ensures.keeps)) (kept_grows c.put_read.new.net c.find_key.new.net c.in_ok-told.ensures.keeps)) c.requires.asked).last

pub drive_memory-requires-clause-value : goal.drive_memory-requires-clause-value
drive_memory-requires-clause-value c = c.in_ok-told.ensures.has.slot

pub drive_memory-requires-clause-value_width : goal.drive_memory-requires-clause-value_width
drive_memory-requires-clause-value_width c = c.in_ok-told.ensures.has.slot_width ∙ sym c.in_ok-store.ensures.width

pub returns : goal.returns
returns c =
    let made = c.in_ok-store.ensures in
    let place = c.in_ok-place.ensures in
    let found = c.in_ok-found.ensures in
    let read = c.in_ok-read.ensures in
    let told = c.in_ok-told.ensures in
    let drive = c.in_ok-drive_memory.ensures in
    let store = c.in_ok-store.store.node in
    record {
      keeps = driven_keeps c.args.net.now c.memory.new.self c.find_key.new.net c.drive_memory.new.self store made.grows made.ports made.name made.others made.fresh
          (keeps_then c.memory.new.self c.later.new.net c.find_key.new.net (keeps_then c.memory.new.self c.read.new.self c.later.new.net place.keeps found.keeps)
          (keeps_then c.later.new.net c.put_read.new.net c.find_key.new.net read.keeps told.keeps))
          drive.grows drive.ports drive.name drive.others drive.driven;
      cost = record {
        nodes = omega (arith, made.size, place.size, found.cost.nodes, read.cost.nodes, told.cost.nodes, drive.size);
        registers = omega (arith, made.register_bits, place.register_bits, found.cost.registers, read.cost.registers, told.cost.registers, drive.register_bits, found.same_width, place.width, made.width);
        memories = omega (arith, made.memory_bits, place.memory_bits, found.cost.memories, read.cost.memories, told.cost.memories, drive.memory_bits);
      };
      has = told_grown c.find_key.new.net c.drive_memory.new.self c.args.keys.width c.in_ok-told.told drive.grows told.has;
      law = λ run r.
          let at_told = drive.grows.runs run r in
          let at_read = told.keeps.runs run at_told in
          let at_found = read.keeps.runs run at_read in
          let at_place = found.keeps.runs run at_found in
          record {
            found = c.in_ok-found.found;
            words = record {
              word = λ t k. run.word t store k;
              reads = λ t. found.value run at_found t ∙ place.value run at_place (suc t);
              writes = λ t k. drive.value run r t k;
            };
            read = c.in_ok-read.read;
            is_read = read.law run at_read;
            key = told.law run at_told;
          };
    }
