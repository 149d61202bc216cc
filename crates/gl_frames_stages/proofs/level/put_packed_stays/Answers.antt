use Rattle.std.proofs.Common.{◌+◌, Bool, suc, ap, arith, ◌∙◌}
use Rattle.std.specs.Prelude.{not, ◌&&◌, if◌then◌else◌}
use Rattle.gl_values.specs.Kinds.{width_of}
use Rattle.gl_divide.specs.Division.{highest}
use Rattle.gl_net.proofs.Determined.{keeps_then}
use Rattle.gl_wire.specs.Wire.{line_at}
use Rattle.gl_wire.proofs.ColumnLemmas.{bit_kept, bus_kept}
use Rattle.gl_frames_stages.specs.LevelNets.{wins}
use Rattle.gl_frames_stages.proofs.LevelNet.{all_three, packed_is}
use Rattle.gl_frames_stages.proofs.level.put_packed_stays.Goals as goal

pub put_wins-requires-clause-own_width : goal.put_wins-requires-clause-own_width
put_wins-requires-clause-own_width c = let kind = c.args.order.kind in c.requires.own_width ∙ ap (λ (b : Bool). if b then width_of kind + 1 else width_of kind) c.requires.packed

pub put_wins-requires-clause-word_width : goal.put_wins-requires-clause-word_width
put_wins-requires-clause-word_width c = let kind = c.args.order.kind in c.requires.word_width ∙ ap (λ (b : Bool). if b then width_of kind + 1 else width_of kind) c.requires.packed

pub highest-requires : goal.highest-requires
highest-requires c = bus_kept _ _ c.args.found.word c.in_ok-wins.ensures.keeps c.requires.word

pub both-requires-clause-left : goal.both-requires-clause-left
both-requires-clause-left c = bit_kept _ _ c.args.found.some (keeps_then _ c.put_wins.new.net _ c.in_ok-wins.ensures.keeps c.in_ok-held.ensures.keeps) c.requires.some

pub but_not-requires-clause-right : goal.but_not-requires-clause-right
but_not-requires-clause-right c = bit_kept _ _ c.in_ok-wins.wins (keeps_then _ c.highest.new.net _ c.in_ok-held.ensures.keeps c.in_ok-there.ensures.keeps) c.in_ok-wins.ensures.bit

pub returns : goal.returns
returns c =
    let order = c.args.order in
    let kind = order.kind in
    let found = c.args.found in
    let first = c.in_ok-wins.ensures in
    let held = c.in_ok-held.ensures in
    let there = c.in_ok-there.ensures in
    let stays = c.in_ok-stays.ensures in
    let wide = c.requires.word_width ∙ ap (λ (b : Bool). if b then width_of kind + 1 else width_of kind) c.requires.packed in
    record {
      keeps = keeps_then _ c.put_wins.new.net _ first.keeps (keeps_then _ c.highest.new.net _ held.keeps (keeps_then _ c.both.new.net _ there.keeps stays.keeps));
      cost = record {
        nodes = omega (arith, first.cost.nodes, held.cost.nodes, there.cost.nodes, stays.cost.nodes);
        registers = omega (arith, first.cost.registers, held.cost.registers, there.cost.registers, stays.cost.registers);
        memories = omega (arith, first.cost.memories, held.cost.memories, there.cost.memories, stays.cost.memories);
      };
      bit = stays.bit;
      line = λ run r t.
          let at_there = stays.keeps.runs run r in
          let at_held = there.keeps.runs run at_there in
          let at_first = held.keeps.runs run at_held in
          let x = run.at (suc t) found.word.node in
          let y = run.at (suc t) c.args.own.node in
          stays.line run r (suc t)
          ∙ ap (λ (b : Bool). b && not (line_at run c.in_ok-wins.wins (suc t))) (there.line run at_there (suc t))
          ∙ ap (λ (b : Bool). (line_at run found.some (suc t) && b) && not (line_at run c.in_ok-wins.wins (suc t))) (held.line run at_held t ∙ ap (λ n. highest n x) wide)
          ∙ ap (λ (b : Bool). (line_at run found.some (suc t) && highest (width_of kind + 1) x) && not b) (first.line run at_first t)
          ∙ all_three (line_at run found.some (suc t)) (highest (width_of kind + 1) x) (wins order.extreme kind x y)
          ∙ ap (λ (b : Bool). line_at run found.some (suc t) && b) (packed_is order c.requires.packed x y);
    }
