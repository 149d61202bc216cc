use Rattle.std.proofs.Common.{◌≡◌, ◌++◌, ◌≤◌, ap, subst, sym, ◌∙◌, codes, Some, ℕ, List, arith}
use Rattle.gl_algebra.specs.declared.figures.Figures.{Figures}
use Rattle.gl_algebra.specs.Views.{reads_time}
use Rattle.gl_wiring.specs.Emitted.{names_of}
use Rattle.gl_wiring.specs.Naming.{plain}
use Rattle.gl_wiring.specs.PortNames.{port_names}
use Rattle.gl_wiring.specs.Roots.{once_figures, once_ticks}
use Rattle.gl_wiring.specs.Wired.{IsWired, gaps_of}
use Rattle.gl_wiring.proofs.Finishing.{apart, finished}
use Rattle.gl_wiring.proofs.PlanLemmas.{plan_names, root_group_kept, root_runs_right}
use Rattle.gl_wiring.proofs.plan.wire_plan.Goals as goal

pub finish-requires : goal.finish-requires
finish-requires c =
    let s = c.args.schema.now in
    let names = c.args.root.now.names in
    let can = c.requires in
    let net = c.put_plan.new.net in
    let e = c.in_ok-put_plan.ensures in
    let named : net.name ≡ Some (codes "q__" ++ names.into) =
    e.extends.module_name ∙ c.in_ok-module.ensures.module_name ∙ ap (λ (n : List ℕ). Some n) (cc (c.deref.ensures.value, c.in_ok-name.ensures, c.as_slice.ensures)) in
    let driven = λ (n : ℕ). e.extends.undriven n ∙ c.module.ensures.undriven n ∙ c.new-net.ensures.undriven n in
    let ticks = reads_time c.args.plan.now in
    let ports : names_of net ≡ port_names ticks s names.columns = plan_names ticks net s c.args.plan.now c.args.root.now.id names.columns can.named.many' e.plan.ports in
    finished ticks s names.columns names.into net can.schema' can.named.columns can.named.distinct can.named.into ports named driven e.plan.shown.reset

pub returns : goal.returns
returns c =
    let s = c.args.schema.now in
    let names = c.args.root.now.names in
    let nodes = c.args.plan.now in
    let root = c.args.root.now.id in
    let can = c.requires in
    let net = c.put_plan.new.net in
    let e = c.in_ok-put_plan.ensures in
    let is = e.plan in
    let named : net.name ≡ Some (codes "q__" ++ names.into) =
    e.extends.module_name ∙ c.in_ok-module.ensures.module_name ∙ ap (λ (n : List ℕ). Some n) (cc (c.deref.ensures.value, c.in_ok-name.ensures, c.as_slice.ensures)) in
    let f : Figures = once_figures nodes root in
    let far : ℕ = once_ticks nodes root in
    let ticks = reads_time c.args.plan.now in
    let ports : names_of net ≡ port_names ticks s names.columns = plan_names ticks net s nodes root names.columns can.named.many' is.ports in
    let unlike = apart ticks s names.columns net can.schema' can.named.columns can.named.distinct ports in
    let close : f.gt ≤ f.gt = omega arith in
    let near : far ≤ far = omega arith in
    let wired : IsWired s nodes root names net = record {
      name = named;
      ports = is.ports;
      size = is.size;
      registers = is.registers;
      memories = is.memories;
      right = root_runs_right c.laws_below.ensures s nodes root f far plain names.columns net is.shown unlike (gaps_of nodes root) close near;
      group = root_group_kept c.laws_below.ensures s nodes root f far plain names.columns net is.shown unlike (gaps_of nodes root) close near;
    } in
    subst (IsWired s nodes root names) (sym c.finish.ensures) wired
