use Rattle.std.proofs.Common.{◌≡◌, ◌<◌, ◌≤◌, ◌∙◌, ℕ, ap, sym, List, length, map, arith, []}
use Rattle.gl_verilog.specs.View.{assignment_of}
use Rattle.gl_verilog_loops.specs.Looping.{seeded}
use Rattle.gl_verilog_loops.proofs.Reaching.{grown, reached_first, holds_first, reached_next, holds_next, told}
use Rattle.gl_verilog_loops.proofs.loops.is_looped.Goals as goal

pub passes-init : goal.passes-init
passes-init c =
    let all = map assignment_of c.args.assignments.now in
    let e : c.seed.new.found.keys ≡ seeded c.args.net all [] = c.in_ok-seed.ensures ∙ ap (λ (k : List ℕ). seeded c.args.net all k) c.new-found.ensures.empty in
    record {
      sound = c.in_ok-explore.ensures.reached c.args.net (reached_first all c.args.net c.seed.new.found.keys e);
      complete = λ n h. c.in_ok-explore.ensures.kept n (holds_first all c.args.net c.seed.new.found.keys e n h);
    }

pub returns-then-len-before : goal.returns-then-len-before
returns-then-len-before c =
    let size : length c.pass.new.found.keys ≤ length c.passes.found.keys = omega (arith, c.len.ensures.len, c.len-before.ensures.len, c.if-len-before.true) in
    told (map assignment_of c.args.assignments.now) c.args.net c.passes.found.keys c.pass.new.found.keys c.contains.result c.in_ok-pass.ensures size c.passes.invariant.sound c.passes.invariant.complete c.contains.ensures

pub passes-preserved : goal.passes-preserved
passes-preserved c =
    let all = map assignment_of c.args.assignments.now in
    record {
      sound = reached_next all c.args.net c.passes.found.keys c.pass.new.found.keys c.in_ok-pass.ensures c.passes.invariant.sound;
      complete = holds_next all c.args.net c.passes.found.keys c.pass.new.found.keys c.in_ok-pass.ensures c.passes.invariant.complete;
    }

pub passes-smaller : goal.passes-smaller
passes-smaller c =
    let more : length c.passes.found.keys < length c.pass.new.found.keys =
    grown (map assignment_of c.args.assignments.now) c.passes.found.keys c.pass.new.found.keys c.in_ok-pass.ensures
    (λ e. c.if-len-before.false (c.len.ensures.len ∙ e ∙ sym c.len-before.ensures.len))
    in
    omega (arith, more, c.len-before.ensures.len, c.len-before.ensures.small)
