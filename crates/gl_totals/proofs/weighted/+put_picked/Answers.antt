use Rattle.std.proofs.Common.{◌≡◌, ℕ, ◌+◌, ◌*◌, ◌/◌, ◌^◌, List, length, ap, arith, sym, subst, ◌∙◌}
use Rattle.std.specs.Prelude.{All}
use Rattle.gl_bits.specs.Words.{Word, bits_of, choose_of, cut_of}
use Rattle.gl_net.proofs.Determined.{keeps_then}
use Rattle.gl_rows.specs.Made.{Carries}
use Rattle.gl_totals.specs.Weighing.{HasWidth, picked}
use Rattle.gl_totals.proofs.WeighNet.{picked_more}
use Rattle.gl_totals.proofs.weighted.+put_picked.Goals as goal

pub returns : goal.returns
returns t c =
    let old = c.args.net.now in
    let new = c.choose.new.self in
    let place = c.args.place in
    let from = c.args.from in
    let behind = c.in_ok-behind.ensures in
    let here = c.in_ok-here.ensures in
    let weight = c.in_ok-weight.ensures in
    let out = c.in_ok-out.ensures in
    let n = c.in-Some.first.now.bits in
    let ns = bits_of c.in-Some.others.now in
    let first_width : c.in-Some.first.now.width ≡ c.args.width =
    subst (All (HasWidth c.args.width)) c.in-Some.ensures.cases.0 c.requires.weights 0 c.in-Some.first.now (omega arith) in
    subst (λ (ws : List Word). Carries old new (3 * length (bits_of ws) + 1) c.args.width (λ run u. picked (bits_of ws) (run.at u place.node / 2 ^ from)) c.in_ok-out.out)
    (sym c.in-Some.ensures.cases.0)
    (record {
      keeps = keeps_then old c.put_picked.new.net new behind.keeps
          (keeps_then _ c.cut.new.self new here.keeps (keeps_then _ c.constant-2.new.self new weight.keeps out.keeps));
      cost = record {
        nodes = omega (arith, behind.cost.nodes, here.size, weight.size, out.size);
        registers = omega (arith, behind.cost.registers, here.register_bits, weight.register_bits, out.register_bits);
        memories = omega (arith, behind.cost.memories, here.memory_bits, weight.memory_bits, out.memory_bits);
      };
      bus = out.bus;
      same_width = omega (arith, out.width, weight.width, first_width);
      carries = λ run r u.
          let at_weight = out.keeps.runs run r in
          let at_here = weight.keeps.runs run at_weight in
          let at_behind = here.keeps.runs run at_here in
          out.value run r u
          ∙ ap (λ (k : ℕ). choose_of k (run.at u c.in_ok-weight.weight.node) (run.at u c.in_ok-behind.behind.node)) (ap (run.at u) c.bit.ensures ∙ here.value run at_here u)
          ∙ ap (λ (k : ℕ). choose_of (cut_of from from (run.at u place.node)) k (run.at u c.in_ok-behind.behind.node)) (weight.value run at_weight u)
          ∙ ap (λ (k : ℕ). choose_of (cut_of from from (run.at u place.node)) n k) (behind.carries run at_behind u)
          ∙ picked_more n ns (run.at u place.node) from;
    })
