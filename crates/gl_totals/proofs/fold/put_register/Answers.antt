use Rattle.std.proofs.Common.{ℕ, suc, sym, subst, ap, arith, ◌∙◌}
use Rattle.std.specs.Prelude.{if◌then◌else◌}
use Rattle.gl_net.specs.declared.node.Bus.{Bus}
use Rattle.gl_net.specs.Net.{IsBus, Keeps}
use Rattle.gl_net.proofs.Determined.{keeps_then}
use Rattle.gl_net.proofs.Drive.{driven_keeps}
use Rattle.gl_wire.specs.Wire.{line_at}
use Rattle.gl_wire.proofs.ColumnLemmas.{bus_kept}
use Rattle.gl_wire.proofs.GateLemmas.{choose_line}
use Rattle.gl_totals.specs.Folds.{IsFolded, next_of}
use Rattle.gl_totals.specs.Open.{in_register}
use Rattle.gl_totals.proofs.FoldLemmas.{register_folded}
use Rattle.gl_totals.proofs.fold.put_register.Goals as goal

pub returns : goal.returns
returns c =
    let old = c.args.net.now in
    let new = c.drive.new.self in
    let first = c.args.first in
    let b = c.in_ok-before.before in
    let f = c.in_ok-fold.fold in
    let before = c.in_ok-before.ensures in
    let fold = c.in_ok-fold.ensures in
    let again = c.in_ok-again.ensures in
    let next = c.in_ok-next.ensures in
    let drive = c.in_ok-drive.ensures in
    let behind_now : Keeps c.put_now.new.net c.choose.new.self = keeps_then _ c.constant.new.self _ again.keeps next.keeps in
    let middle : Keeps c.register.new.self c.choose.new.self = keeps_then _ c.put_now.new.net _ fold.keeps behind_now in
    let state = bus_kept _ _ b middle before.bus in
    let kept = bus_kept _ _ f.now behind_now fold.now in
    record {
      keeps = driven_keeps old c.register.new.self c.choose.new.self new b.node before.grows before.ports before.name before.others before.fresh
          middle drive.grows drive.ports drive.name drive.others drive.driven;
      cost = record {
        nodes = omega (arith, before.size, fold.cost.nodes, again.size, next.size, drive.size);
        registers = omega (arith, before.register_bits, fold.cost.registers, again.register_bits, next.register_bits, drive.register_bits, c.width.ensures.value);
        memories = omega (arith, before.memory_bits, fold.cost.memories, again.memory_bits, next.memory_bits, drive.memory_bits);
      };
      before = subst (IsBus new) (sym fold.before) (record { there = drive.grows.shapes _ _ state.there; width = state.width });
      before_width = ap (λ (x : Bus). x.width) fold.before ∙ before.width ∙ c.width.ensures.value;
      now = record { there = drive.grows.shapes _ _ kept.there; width = kept.width };
      now_width = fold.now_width ∙ before.width ∙ c.width.ensures.value;
      folded = λ run r led.
          let at_next = drive.grows.runs run r in
          let at_again = next.keeps.runs run at_next in
          let at_fold = behind_now.runs run at_next in
          let at_before = fold.keeps.runs run at_fold in
          subst (λ (x : Bus). IsFolded run first.width first.bits c.args.step (in_register c.args.valid c.args.eos) x f.now) (sym fold.before)
          (register_folded run first.width first.bits c.args.step c.args.valid c.args.eos b f.now (before.start run at_before)
          (λ t.
          drive.value run r t ∙ next.value run at_next (suc t)
          ∙ choose_line run c.args.eos (run.at (suc t) c.in_ok-again.again.node) (run.at (suc t) f.now.node) t
          ∙ ap (λ (n : ℕ). if line_at run c.args.eos (suc t) then n else run.at (suc t) f.now.node) (again.value run at_again (suc t)))
          (λ t.
          fold.with_row run at_fold t
          ∙ ap (λ (w : ℕ). if line_at run c.args.valid (suc t) then next_of c.args.step run w (suc t) (run.at (suc t) b.node) else run.at (suc t) b.node)
          (before.width ∙ c.width.ensures.value)));
    }
