use Rattle.std.proofs.Common.{ℕ, ◌*◌, ◌^◌, ap, arith, sym, ◌∙◌}
use Rattle.gl_net.proofs.Determined.{keeps_then}
use Rattle.gl_net.proofs.Drive.{driven_keeps}
use Rattle.gl_wire_registers.proofs.RegisterLemmas.{grown_bus, grows_then}
use Rattle.gl_frames_map.proofs.SeenNet.{kept_grows}
use Rattle.gl_frames_tree.proofs.StandNet.{stand_grown, told_grown}
use Rattle.gl_frames_tree.proofs.level.recall.Goals as goal

pub register-requires-clause-width : goal.register-requires-clause-width
register-requires-clause-width c = record { some' = omega arith; most = omega (arith, c.requires.few) }

pub tell-requires-clause-stand : goal.tell-requires-clause-stand
tell-requires-clause-stand c = stand_grown c.args.net.now c.register.new.self c.args.keys.width c.args.stand c.in_ok-word.ensures.grows c.requires.stand

pub tell-requires-clause-word : goal.tell-requires-clause-word
tell-requires-clause-word c = c.in_ok-word.ensures.bus

pub tell-requires-clause-used : goal.tell-requires-clause-used
tell-requires-clause-used c = grown_bus c.args.net.now c.register.new.self c.args.used c.in_ok-word.ensures.grows c.requires.used

pub put_ahead-requires-clause-bits : goal.put_ahead-requires-clause-bits
put_ahead-requires-clause-bits c = record { some' = c.requires.width.some'; most = omega (arith, c.requires.few) }

pub put_ahead-requires-clause-word : goal.put_ahead-requires-clause-word
put_ahead-requires-clause-word c = c.in_ok-told.ensures.has.word

pub put_ahead-requires-clause-write : goal.put_ahead-requires-clause-write
put_ahead-requires-clause-write c = c.in_ok-told.ensures.has.write

pub put_ahead-requires-clause-node : goal.put_ahead-requires-clause-node
put_ahead-requires-clause-node c =
    (stand_grown c.args.net.now c.tell.new.net c.args.keys.width c.args.stand
    (grows_then c.args.net.now c.register.new.self c.tell.new.net c.in_ok-word.ensures.grows (kept_grows c.register.new.self c.tell.new.net c.in_ok-told.ensures.keeps)) c.requires.stand).node

pub put_ahead-requires-clause-node_width : goal.put_ahead-requires-clause-node_width
put_ahead-requires-clause-node_width c = c.requires.stand.node_width

pub put_ahead-requires-clause-next : goal.put_ahead-requires-clause-next
put_ahead-requires-clause-next c =
    (stand_grown c.args.net.now c.tell.new.net c.args.keys.width c.args.stand
    (grows_then c.args.net.now c.register.new.self c.tell.new.net c.in_ok-word.ensures.grows (kept_grows c.register.new.self c.tell.new.net c.in_ok-told.ensures.keeps)) c.requires.stand).next

pub put_ahead-requires-clause-next_width : goal.put_ahead-requires-clause-next_width
put_ahead-requires-clause-next_width c = c.requires.stand.next_width

pub drive-requires-clause-widths : goal.drive-requires-clause-widths
drive-requires-clause-widths c = c.in_ok-ahead.ensures.same_width ∙ c.in_ok-told.ensures.has.word_width ∙ sym c.in_ok-word.ensures.width

pub returns : goal.returns
returns c =
    let register = c.in_ok-word.ensures in
    let told = c.in_ok-told.ensures in
    let ahead = c.in_ok-ahead.ensures in
    let drive = c.in_ok-drive.ensures in
    let words = ap (λ (k : ℕ). 2 ^ c.args.keys.width * k) told.has.word_width in
    record {
      keeps = driven_keeps c.args.net.now c.register.new.self c.put_ahead.new.net c.drive.new.self c.in_ok-word.word.node register.grows register.ports register.name register.others register.fresh
          (keeps_then c.register.new.self c.tell.new.net c.put_ahead.new.net told.keeps ahead.keeps)
          drive.grows drive.ports drive.name drive.others drive.driven;
      cost = record {
        nodes = omega (arith, register.size, told.cost.nodes, ahead.cost.nodes, drive.size);
        registers = omega (arith, register.register_bits, told.cost.registers, ahead.cost.registers, drive.register_bits, register.width);
        memories = omega (arith, register.memory_bits, told.cost.memories, ahead.cost.memories, drive.memory_bits, words);
      };
      has = told_grown c.tell.new.net c.drive.new.self c.args.keys.width c.in_ok-told.told
          (grows_then c.tell.new.net c.put_ahead.new.net c.drive.new.self (kept_grows c.tell.new.net c.put_ahead.new.net ahead.keeps) drive.grows) told.has;
      law = λ run r.
          let at_ahead = drive.grows.runs run r in
          let shown = ahead.law run at_ahead in
          record {
            word = c.in_ok-word.word;
            told = told.law run (ahead.keeps.runs run at_ahead);
            stored = shown.stored;
            reads = λ t. drive.value run r t ∙ shown.shows t;
            writes = shown.writes;
          };
    }
