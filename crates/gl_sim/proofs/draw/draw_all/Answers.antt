use Rattle.std.proofs.Common.{◌∙◌, ◌<◌, ◌≤◌, ℕ, length, subst, sym}
use Rattle.gl_bits.proofs.AllLists.{length_map, get_there}
use Rattle.gl_verilog.specs.View.{module_of, declaration_of}
use Rattle.gl_sim.proofs.Draws.{drawn_to-first, drawn_to-more, drawn_all}
use Rattle.gl_sim.proofs.draw.draw_all.Goals as goal

pub loop-n-init : goal.loop-n-init
loop-n-init c = drawn_to-first (module_of c.args.design.now).declarations c.args.seed c.args.values.now.items c.args.banks.now.items c.requires.store

pub loop-n-preserved : goal.loop-n-preserved
loop-n-preserved c =
    let ds = (module_of c.args.design.now).declarations in
    let lt : c.loop-n.n < length ds = subst (λ (k : ℕ). c.loop-n.n < k) (c.len-n-end.ensures ∙ sym (length_map declaration_of c.args.design.now.declarations)) c.loop-n-test.true in
    let d = get_there ds c.loop-n.n lt in
    drawn_to-more ds c.args.seed c.loop-n.n d.0 c.loop-n.state c.draw_one.new.state c.loop-n.values.items c.draw_one.new.values.items c.loop-n.banks.items c.draw_one.new.banks.items d.1 c.loop-n.invariant (c.draw_one.ensures d.0 d.1)

pub returns-clause-drawn : goal.returns-clause-drawn
returns-clause-drawn c =
    let ds = (module_of c.args.design.now).declarations in
    let le : length ds ≤ c.loop-n.n = subst (λ (k : ℕ). k ≤ c.loop-n.n) (c.len-n-end.ensures ∙ sym (length_map declaration_of c.args.design.now.declarations)) c.loop-n-test.false in
    drawn_all ds c.args.seed c.loop-n.n c.loop-n.state c.loop-n.values.items c.loop-n.banks.items le c.loop-n.invariant
