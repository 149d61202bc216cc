use Rattle.std.proofs.Common.{◌≤◌, ◌∙◌, codes, ℕ, sym, subst, refl, arith}
use Rattle.gl_algebra.specs.Views.{reads_time}
use Rattle.gl_net.specs.Finished.{IsName}
use Rattle.gl_wiring.specs.Many.{AreWired, gaps_together, ids_of, result_names}
use Rattle.gl_wiring.specs.PortNames.{module_names, results_ports}
use Rattle.gl_wiring.proofs.Finishing.{apart_in, finished_in}
use Rattle.gl_wiring.proofs.ManyLemmas.{all_close, all_named, all_right, far_together, many_are}
use Rattle.gl_wiring.proofs.ManyNames.{many_named, many_names-distinct}
use Rattle.gl_wiring.proofs.many.wire_roots.Goals as goal

title : IsName (codes "q__many")
title = record { first = refl; each = refl; short = omega arith; free = refl }

pub finish-requires : goal.finish-requires
finish-requires c =
    let s = c.args.schema.now in
    let nodes = c.args.plan.now in
    let roots = c.args.roots.now in
    let can = c.requires in
    let net = c.put_many.new.net in
    let e = c.in_ok-put_many.ensures in
    let ticks = reads_time nodes in
    let names = module_names ticks s (results_ports (result_names roots)) in
    let named = all_named s nodes roots can.each in
    let driven = λ (n : ℕ). e.extends.undriven n ∙ c.module.ensures.undriven n ∙ c.new-net.ensures.undriven n in
    finished_in names (codes "q__many") net (many_names-distinct ticks s (result_names roots) can.schema' named can.distinct)
    (many_named ticks s (result_names roots) can.schema' named) title (many_are ticks net s nodes roots can.each e.plan.ports)
    (e.extends.module_name ∙ c.in_ok-module.ensures.module_name) driven e.plan.reset

pub returns : goal.returns
returns c =
    let s = c.args.schema.now in
    let nodes = c.args.plan.now in
    let roots = c.args.roots.now in
    let can = c.requires in
    let net = c.put_many.new.net in
    let e = c.in_ok-put_many.ensures in
    let is = e.plan in
    let ticks = reads_time nodes in
    let names = module_names ticks s (results_ports (result_names roots)) in
    let named = all_named s nodes roots can.each in
    let unlike = apart_in names net (many_names-distinct ticks s (result_names roots) can.schema' named can.distinct) (many_are ticks net s nodes roots can.each is.ports) in
    let gaps = gaps_together nodes (ids_of roots) in
    let self : gaps.of_beats ≤ gaps.of_beats = omega arith in
    let wired : AreWired s nodes roots net = record {
      name = e.extends.module_name ∙ c.in_ok-module.ensures.module_name;
      ports = is.ports;
      size = is.size;
      registers = is.registers;
      memories = is.memories;
      each = all_right c.laws_below.ensures s nodes gaps net unlike roots is.each
          (all_close nodes roots gaps.of_beats gaps.of_ticks self (far_together nodes (ids_of roots)));
    } in
    subst (AreWired s nodes roots) (sym c.finish.ensures) wired
