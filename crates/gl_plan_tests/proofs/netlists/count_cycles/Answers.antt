use Rattle.std.proofs.Common.{◌≡◌, ℕ, suc, ap, ◌∙◌}
use Rattle.gl_bits.specs.Words.{sum_of, choose_of}
use Rattle.gl_plan_tests.proofs.netlists.count_cycles.Goals as goal

pub returns-clause-next : goal.returns-clause-next
returns-clause-next c = λ run r t.
    let enable = run.at (suc t) c.args.enable.node in
    let clear = run.at (suc t) c.args.clear.node in
    let now = run.at (suc t) c.in_ok-count.count.node in
    let driven = c.in_ok-drive.ensures.grows.runs run r in
    let emptied = c.in_ok-next.ensures.keeps.runs run driven in
    let chosen = c.in_ok-none.ensures.keeps.runs run emptied in
    let added = c.in_ok-kept.ensures.keeps.runs run chosen in
    let begun = c.in_ok-more.ensures.keeps.runs run added in
    let none : run.at (suc t) c.in_ok-none.none.node ≡ 0 = c.in_ok-none.ensures.value run emptied (suc t) ∙ c.requires.zero in
    let step : run.at (suc t) c.in_ok-step.step.node ≡ 1 = c.in_ok-step.ensures.value run begun (suc t) ∙ c.requires.one in
    let more : run.at (suc t) c.in_ok-more.more.node ≡ sum_of 8 now 1 =
    c.in_ok-more.ensures.value run added (suc t) ∙ (λ i. sum_of (c.in_ok-count.ensures.width i) now (step i)) in
    let kept : run.at (suc t) c.in_ok-kept.kept.node ≡ choose_of enable (sum_of 8 now 1) now =
    c.in_ok-kept.ensures.value run chosen (suc t) ∙ ap (λ (n : ℕ). choose_of enable n now) more in
    c.in_ok-drive.ensures.value run r t ∙ c.in_ok-next.ensures.value run driven (suc t) ∙ (λ i. choose_of clear (none i) (kept i))
