use Rattle.std.proofs.Common.{rules, ◌≡◌, ◌∙◌, ◌∷◌, [], subst, take, List, ℕ, arith}
use Rattle.gl_bits.proofs.AllLists.{taken_next}
use Rattle.gl_values.proofs.KindLemmas.{kind_some}
use Rattle.gl_values.specs.Kinds.{IsKind, width_of}
use Rattle.gl_net.specs.Builds.{PutsPort}
use Rattle.gl_net.specs.declared.node.Direction.TheVariants.{In}
use Rattle.gl_schema.specs.Ports.{in_parameter}
use Rattle.gl_wiring.specs.Emitted.{Puts}
use Rattle.gl_wiring.specs.EmittedPorts.{input}
use Rattle.gl_wiring.proofs.Inputs.{extends_then, kind_there}
use Rattle.gl_wiring.proofs.OutputLemmas.{nothing_more, nothing_then}
use Rattle.gl_wiring.proofs.Shapes.{parameters_next, puts_nothing, widths_push}
use Rattle.gl_wiring.proofs.WordLemmas.{hold_more, hold_none}
use Rattle.gl_wiring.proofs.leaves.put_parameters.Goals as goal

pub width-requires : goal.width-requires
width-requires c =
    kind_there c.args.parameters.now c.loop-parameter.parameter-index c.parameter-item.result c.requires.columns c.loop-parameter-test.true c.parameter-item.is

pub put_input-requires : goal.put_input-requires
put_input-requires c =
    let p = c.parameter-item.result in
    let kind : IsKind p.kind = kind_there c.args.parameters.now c.loop-parameter.parameter-index p c.requires.columns c.loop-parameter-test.true c.parameter-item.is in
    let width : c.width.result ≡ width_of p.kind = c.width.ensures in
    record { some' = omega (arith, kind_some p.kind kind, width); most = omega (arith, kind.1, width) }

pub loop-parameter-init : goal.loop-parameter-init
loop-parameter-init c = record {
  extends = search rules;
  ports = puts_nothing c.args.net.now;
  cost = nothing_more c.args.net.now;
  words = rw c.new-words.ensures (hold_none c.args.net.now c.requires.none);
  widths = search rules;
}

pub loop-parameter-preserved : goal.loop-parameter-preserved
loop-parameter-preserved c =
    let e = c.in_ok-bus.ensures in
    let inv = c.loop-parameter.invariant in
    let old = c.args.net.now in
    let mid = c.loop-parameter.net in
    let net = c.put_input.new.net in
    let ps = c.args.parameters.now in
    let i = c.loop-parameter.parameter-index in
    let p = c.parameter-item.result in
    let named : c.deref.result.now ≡ in_parameter p.name = cc (c.in_ok-name.ensures, c.as_slice.ensures, c.deref.ensures.value) in
    let ports : Puts mid net (input (in_parameter p.name) (width_of p.kind) ∷ []) =
    subst (λ (w : ℕ). Puts mid net (input (in_parameter p.name) w ∷ [])) c.width.ensures (subst (λ (n : List ℕ). Puts mid net (input n c.width.result ∷ [])) named e.ports) in
    let last : PutsPort mid net In (in_parameter p.name) c.in_ok-bus.bus.node = subst (λ (n : List ℕ). PutsPort mid net In n c.in_ok-bus.bus.node) named e.last in
    record {
      extends = extends_then old mid net inv.extends e.extends;
      ports = parameters_next old mid net ps i p (taken_next ps i p c.loop-parameter-test.true c.parameter-item.is) inv.ports ports;
      cost = nothing_then old mid net inv.cost e.cost;
      words = rw c.in_ok-push.ensures.ok (hold_more mid net p.name c.loop-parameter.words c.in_ok-bus.bus e.extends last e.bus inv.words);
      widths = rw (taken_next ps i p c.loop-parameter-test.true c.parameter-item.is, c.in_ok-push.ensures.ok)
          (widths_push (take i ps) c.loop-parameter.words p c.in_ok-bus.bus inv.widths (e.width ∙ c.width.ensures));
    }

pub returns-clause-held : goal.returns-clause-held
returns-clause-held c = c.loop-parameter.invariant.words.held
