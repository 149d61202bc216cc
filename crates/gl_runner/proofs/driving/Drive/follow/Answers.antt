use Rattle.std.proofs.Common.{◌≡◌, ◌∙◌, ℕ, ◌≤◌, ◌+◌, suc, false, ap, arith, sym, subst, refl}
use Rattle.gl_schema.specs.Beats.{last_cycle}
use Rattle.gl_outside.specs.Counts.{Rose}
use Rattle.gl_verilog.specs.Module.{Module}
use Rattle.gl_verilog.specs.Run.{port_of}
use Rattle.gl_verilog.specs.View.{module_of}
use Rattle.gl_runner.specs.Cycles.{Driven, IsFollowed, design_of}
use Rattle.gl_runner.proofs.Running.{at_first, at_next, counts_calm, counts_rose, made_next, made_of, ok_then, over_is, under_way_cut, under_way_done, under_way_first, under_way_more, under_way_out, watched_one, wrote_all, wrote_front}
use Rattle.gl_runner.proofs.driving.Drive.follow.Goals as goal
use Rattle.gl_runner.proofs.driving.Drive.follow.Goals.{else-is_over-via-then-is_over+else-cycle-last, else-is_over-via-else-is_over}

pub loop-cycle-init : goal.loop-cycle-init
loop-cycle-init g c =
    let d = c.args.self.now in
    record {
      at = at_first d c.requires.first;
      design = refl;
      bytes = refl;
      ends = refl;
      serves = c.requires.serves;
      way = λ value word f. under_way_first (design_of d) d.sim d.schema (g.W.Watch.bytes c.args.watch.now) (g.W.Watch.ends c.args.watch.now) (g.W.Watch.stands c.args.watch.now) d.beats (g.K.Sink.state c.args.out.now).taken value word (subst (λ (n : ℕ). IsFollowed d.sim d.schema d.beats value word (n + 1)) c.requires.first f) (c.requires.stands value word f);
      calm = refl;
    }

pub advance-requires : goal.advance-requires
advance-requires g c =
    let at : c.loop-cycle.self.cycle ≡ c.loop-cycle.cycle = ap (λ (x : Driven). x.cycle) c.loop-cycle.invariant.at in
    omega (arith, at, c.bounds-last.ensures.early, c.loop-cycle-test.true)

pub returns-then-is_err : goal.returns-then-is_err
returns-then-is_err g c =
    let d = c.args.self.now in
    let e = c.loop-cycle.self in
    let f = c.advance.new.self in
    let n = c.loop-cycle.cycle in
    let bytes = g.W.Watch.bytes c.args.watch.now in
    let ends = g.W.Watch.ends c.args.watch.now in
    let at = at_next d e f n c.loop-cycle.invariant.at c.advance.ensures.ahead in
    let design : f.sim.design ≡ d.sim.design = c.advance.ensures.ahead.design' ∙ c.loop-cycle.invariant.design in
    let inside : design_of d ≡ module_of c.self.inside.sim.design = sym (ap (λ (x : Driven). design_of x) c.self.view_is ∙ ap module_of design) in
    let failed = sym c.is_err.ensures.value ∙ c.if-is_err.true in (
      subst (λ m. Rose m (g.K.Sink.state c.cycle.new.out).faults) c.loop-cycle.invariant.calm (counts_rose (g.K.Sink.state c.loop-cycle.out) (g.K.Sink.state c.cycle.new.out) c.cycle.result failed c.cycle.ensures.counts),
      λ value word before.
          let way = c.loop-cycle.invariant.way value word before in
          let made = made_next d e f n value word c.loop-cycle.invariant.at c.loop-cycle.invariant.design c.advance.ensures.made way.followed in
          let of = made_of _ (design_of d) f.sim d.schema d.beats value word inside (sym (ap (λ (x : Driven). x.sim) c.self.view_is)) made in
          let one = watched_one _ (design_of d) (g.W.Watch.bytes c.loop-cycle.watch) bytes (g.W.Watch.stands c.loop-cycle.watch) (g.W.Watch.stands c.cycle.new.self) (port_of (design_of d) value)
          (g.K.Sink.state c.loop-cycle.out) (g.K.Sink.state c.cycle.new.out) c.cycle.result inside c.loop-cycle.invariant.bytes of way.stands' c.cycle.ensures.wrote c.cycle.ensures.stands in
          let broke = wrote_front _ _ _ c.cycle.result failed one.wrote in
          let soon : n ≤ last_cycle d.beats + d.extra = omega (arith, c.bounds-last.ensures.far, c.loop-cycle-test.true) in
          under_way_cut (design_of d) e.sim d.schema bytes ends (g.W.Watch.stands c.loop-cycle.watch) d.beats n d.extra
          (g.K.Sink.state c.args.out.now).taken (g.K.Sink.state c.loop-cycle.out).taken (g.K.Sink.state c.cycle.new.out).taken value word way broke.front soon,
    )

pub returns-then-cycle-last : goal.returns-then-cycle-last
returns-then-cycle-last g c =
    let d = c.args.self.now in
    let e = c.loop-cycle.self in
    let f = c.advance.new.self in
    let n = c.loop-cycle.cycle in
    let bytes = g.W.Watch.bytes c.args.watch.now in
    let ends = g.W.Watch.ends c.args.watch.now in
    let at = at_next d e f n c.loop-cycle.invariant.at c.advance.ensures.ahead in
    let design : f.sim.design ≡ d.sim.design = c.advance.ensures.ahead.design' ∙ c.loop-cycle.invariant.design in
    let inside : design_of d ≡ module_of c.self.inside.sim.design = sym (ap (λ (x : Driven). design_of x) c.self.view_is ∙ ap module_of design) in
    let went = sym c.is_err.ensures.value ∙ c.if-is_err.false in (
      counts_calm (g.K.Sink.state c.loop-cycle.out) (g.K.Sink.state c.cycle.new.out) c.cycle.result went c.cycle.ensures.counts ∙ c.loop-cycle.invariant.calm,
      λ value word before.
          let way = c.loop-cycle.invariant.way value word before in
          let made = made_next d e f n value word c.loop-cycle.invariant.at c.loop-cycle.invariant.design c.advance.ensures.made way.followed in
          let of = made_of _ (design_of d) f.sim d.schema d.beats value word inside (sym (ap (λ (x : Driven). x.sim) c.self.view_is)) made in
          let one = watched_one _ (design_of d) (g.W.Watch.bytes c.loop-cycle.watch) bytes (g.W.Watch.stands c.loop-cycle.watch) (g.W.Watch.stands c.cycle.new.self) (port_of (design_of d) value)
          (g.K.Sink.state c.loop-cycle.out) (g.K.Sink.state c.cycle.new.out) c.cycle.result inside c.loop-cycle.invariant.bytes of way.stands' c.cycle.ensures.wrote c.cycle.ensures.stands in
          let behind = ok_then c.cycle.result went one.behind in
          let over : ends (design_of d) (port_of (design_of d) value) n ≡ c.is_over.result = over_is (c.cycle.ensures.ends ∙ c.loop-cycle.invariant.ends) (c.is_over.ensures (design_of d) (port_of (design_of d) value) n behind) in
          let took = wrote_all _ _ _ c.cycle.result went one.wrote in
          let late : last_cycle d.beats ≤ n = omega (arith, c.bounds-last.ensures.last, c.if-cycle-last.true) in
          let soon : n ≤ last_cycle d.beats + d.extra = omega (arith, c.bounds-last.ensures.far, c.loop-cycle-test.true) in
          under_way_done (design_of d) e.sim f.sim d.schema bytes ends (g.W.Watch.stands c.loop-cycle.watch) (g.W.Watch.stands c.cycle.new.self) d.beats n d.extra
          (g.K.Sink.state c.args.out.now).taken (g.K.Sink.state c.loop-cycle.out).taken (g.K.Sink.state c.cycle.new.out).taken value word way made took.all behind (over ∙ c.if-is_over.true) late soon,
    )

pub loop-cycle-preserved : goal.loop-cycle-preserved
loop-cycle-preserved g c =
    let d = c.args.self.now in
    let e = c.loop-cycle.self in
    let f = c.advance.new.self in
    let n = c.loop-cycle.cycle in
    let bytes = g.W.Watch.bytes c.args.watch.now in
    let ends = g.W.Watch.ends c.args.watch.now in
    let at = at_next d e f n c.loop-cycle.invariant.at c.advance.ensures.ahead in
    let design : f.sim.design ≡ d.sim.design = c.advance.ensures.ahead.design' ∙ c.loop-cycle.invariant.design in
    let inside : design_of d ≡ module_of c.self.inside.sim.design = sym (ap (λ (x : Driven). design_of x) c.self.view_is ∙ ap module_of design) in
    let went = sym c.is_err.ensures.value ∙ c.if-is_err.false in
    let open' : last_cycle d.beats ≤ n → c.is_over.result ≡ false =
    λ le. (elim c.else-is_over.branch [
      | else-is_over-via-then-is_over+else-cycle-last w ↦ absurd (omega (arith, c.bounds-last.ensures.last, w.if-cycle-last.false, le))
      | else-is_over-via-else-is_over w ↦ w.if-is_over.false
    ]) in
    record {
      at = at;
      design = design;
      bytes = c.cycle.ensures.bytes ∙ c.loop-cycle.invariant.bytes;
      ends = c.cycle.ensures.ends ∙ c.loop-cycle.invariant.ends;
      serves = subst (λ (x : Module). g.W.Watch.serves c.cycle.new.self x) (sym inside) (ok_then c.cycle.result went c.cycle.ensures.serves);
      way = λ value word before.
          let way = c.loop-cycle.invariant.way value word before in
          let made = made_next d e f n value word c.loop-cycle.invariant.at c.loop-cycle.invariant.design c.advance.ensures.made way.followed in
          let of = made_of _ (design_of d) f.sim d.schema d.beats value word inside (sym (ap (λ (x : Driven). x.sim) c.self.view_is)) made in
          let one = watched_one _ (design_of d) (g.W.Watch.bytes c.loop-cycle.watch) bytes (g.W.Watch.stands c.loop-cycle.watch) (g.W.Watch.stands c.cycle.new.self) (port_of (design_of d) value)
          (g.K.Sink.state c.loop-cycle.out) (g.K.Sink.state c.cycle.new.out) c.cycle.result inside c.loop-cycle.invariant.bytes of way.stands' c.cycle.ensures.wrote c.cycle.ensures.stands in
          let behind = ok_then c.cycle.result went one.behind in
          let over : ends (design_of d) (port_of (design_of d) value) n ≡ c.is_over.result = over_is (c.cycle.ensures.ends ∙ c.loop-cycle.invariant.ends) (c.is_over.ensures (design_of d) (port_of (design_of d) value) n behind) in
          let took = wrote_all _ _ _ c.cycle.result went one.wrote in
          under_way_more (design_of d) e.sim f.sim d.schema bytes ends (g.W.Watch.stands c.loop-cycle.watch) (g.W.Watch.stands c.cycle.new.self) d.beats n
          (g.K.Sink.state c.args.out.now).taken (g.K.Sink.state c.loop-cycle.out).taken (g.K.Sink.state c.cycle.new.out).taken value word way made took.all behind (λ le. over ∙ open' le);
      calm = counts_calm (g.K.Sink.state c.loop-cycle.out) (g.K.Sink.state c.cycle.new.out) c.cycle.result went c.cycle.ensures.counts ∙ c.loop-cycle.invariant.calm;
    }

pub returns : goal.returns
returns g c =
    let d = c.args.self.now in
    let n = c.loop-cycle.cycle in (
      c.loop-cycle.invariant.calm,
      λ value word before.
          let far = c.bounds-last.result.1 in
          let next : n ≡ suc far = omega (arith, c.loop-cycle-test.false) in
          under_way_out (design_of d) c.loop-cycle.self.sim d.schema (g.W.Watch.bytes c.args.watch.now) (g.W.Watch.ends c.args.watch.now) (g.W.Watch.stands c.loop-cycle.watch) d.beats n d.extra far
          (g.K.Sink.state c.args.out.now).taken (g.K.Sink.state c.loop-cycle.out).taken value word (c.loop-cycle.invariant.way value word before) c.bounds-last.ensures.far next,
    )
