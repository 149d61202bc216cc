use Rattle.std.proofs.Common.{rules, ◌≡◌, ◌∷◌, [], ◌∙◌, subst, take, List, ℕ, ◌<◌, length, get_or, arith}
use Rattle.gl_bits.proofs.AllLists.{taken_next}
use Rattle.gl_values.proofs.KindLemmas.{kind_some}
use Rattle.gl_schema.specs.declared.schema.Column.{Column}
use Rattle.gl_net.specs.declared.node.Direction.TheVariants.{In}
use Rattle.gl_net.specs.Net.{IsPort}
use Rattle.gl_values.specs.Kinds.{IsKind, width_of}
use Rattle.gl_wiring.specs.EmittedPorts.{input}
use Rattle.gl_schema.specs.Ports.{in_column}
use Rattle.gl_wiring.specs.Emitted.{Puts}
use Rattle.gl_wiring.proofs.Inputs.{inputs_stay, inputs_push, extends_then, kind_there}
use Rattle.gl_wiring.proofs.Shapes.{puts_nothing, columns_next, widths_push}
use Rattle.gl_wiring.proofs.OutputLemmas.{nothing_more, nothing_then}
use Rattle.gl_wiring.proofs.parts.put_columns.Goals as goal

pub width-requires : goal.width-requires
width-requires c =
    let cs = c.args.stream.now.columns in
    let i = c.loop-column.column-index in
    let column = c.column-item.result in
    let here = c.as_slice-column-items.ensures in
    let lt : i < length cs = subst (λ (xs : List Column). i < length xs) here c.loop-column-test.true in
    let is : column ≡ get_or cs i column = subst (λ (xs : List Column). column ≡ get_or xs i column) here c.column-item.is in
    kind_there cs i column c.requires lt is

pub put_input-requires : goal.put_input-requires
put_input-requires c =
    let cs = c.args.stream.now.columns in
    let i = c.loop-column.column-index in
    let column = c.column-item.result in
    let here = c.as_slice-column-items.ensures in
    let lt : i < length cs = subst (λ (xs : List Column). i < length xs) here c.loop-column-test.true in
    let is : column ≡ get_or cs i column = subst (λ (xs : List Column). column ≡ get_or xs i column) here c.column-item.is in
    let kind : IsKind column.kind = kind_there cs i column c.requires lt is in
    let width : c.width.result ≡ width_of column.kind = c.width.ensures in
    record { some' = omega (arith, kind_some column.kind kind, width); most = omega (arith, kind.1, width) }

pub loop-column-preserved : goal.loop-column-preserved
loop-column-preserved c =
    let column = c.column-item.result in
    let e = c.in_ok-bus.ensures in
    let inv = c.loop-column.invariant in
    let mid = c.loop-column.net in
    let net = c.put_input.new.net in
    let s = c.args.stream.now.name in
    let cs = c.args.stream.now.columns in
    let i = c.loop-column.column-index in
    let bus = c.in_ok-bus.bus in
    let buses = c.loop-column.buses in
    let here = c.as_slice-column-items.ensures in
    let lt : i < length cs = subst (λ (xs : List Column). i < length xs) here c.loop-column-test.true in
    let is : column ≡ get_or cs i column = subst (λ (xs : List Column). column ≡ get_or xs i column) here c.column-item.is in
    let named : c.deref.result.now ≡ in_column s column.name = cc (c.in_ok-name.ensures, c.as_slice.ensures, c.as_slice-in-loop-column.ensures, c.deref.ensures.value) in
    let ports : Puts mid net (input (in_column s column.name) (width_of column.kind) ∷ []) =
    subst (λ (w : ℕ). Puts mid net (input (in_column s column.name) w ∷ [])) c.width.ensures (subst (λ (n : List ℕ). Puts mid net (input n c.width.result ∷ [])) named e.ports) in
    let wide = e.width ∙ c.width.ensures in
    let port = subst (λ n. IsPort net In n bus.node) named e.port in
    let pushed = inputs_push net s (take i cs) buses column bus (inputs_stay mid net s (take i cs) buses e.extends inv.inputs) port e.bus in
    record {
      extends = extends_then c.args.net.now mid net inv.extends e.extends;
      ports = columns_next c.args.net.now mid net s cs i column (taken_next cs i column lt is) inv.ports ports;
      cost = nothing_then c.args.net.now mid net inv.cost e.cost;
      inputs = rw (taken_next cs i column lt is, c.in_ok-push.ensures.ok) pushed;
      widths = rw (taken_next cs i column lt is, c.in_ok-push.ensures.ok) (widths_push (take i cs) buses column bus inv.widths wide);
    }

pub loop-column-init : goal.loop-column-init
loop-column-init c = record {
  extends = search rules;
  ports = puts_nothing c.args.net.now;
  cost = nothing_more c.args.net.now;
  inputs = search rules;
  widths = search rules;
}
