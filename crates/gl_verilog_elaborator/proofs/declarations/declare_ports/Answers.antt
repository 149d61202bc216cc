use Rattle.std.proofs.Common.{◌≡◌, ◌∙◌, ◌+◌, ap, subst, sym, map, drop, ℕ}
use Rattle.gl_verilog.specs.Module.{Declaration}
use Rattle.gl_verilog_tokens.specs.View.{port_of}
use Rattle.gl_verilog_elaborator.specs.Elaborated.{declared, declared_ports}
use Rattle.gl_verilog_elaborator.specs.View.{scope_of}
use Rattle.gl_verilog_elaborator.proofs.Found.{port_declared, port_named}
use Rattle.gl_verilog_elaborator.proofs.Steps.{ports_next, ports_stop, refused}
use Rattle.gl_verilog_elaborator.proofs.declarations.declare_ports.Goals as goal

pub loop-port-preserved : goal.loop-port-preserved
loop-port-preserved c =
    let i = c.loop-port.port-index in
    let ports = c.args.ports.now in
    let s = scope_of c.loop-port.scope in
    let n = c.in_ok-name.name in
    subst (λ (k : ℕ). declared_ports (scope_of c.declare_port.new.scope) k (map port_of (drop (i + 1) ports)) ≡ declared_ports (scope_of c.args.scope.now) c.args.k (map port_of ports)) (sym c.in_ok-at.ensures)
    (ports_next port_of ports i s c.loop-port.at _ _ (scope_of c.declare_port.new.scope) n c.loop-port-test.true
    (port_named c.loop-port.at n _ c.tokens_before.result c.tokens_before.ensures.value c.in_ok-name.ensures)
    (ap (λ (d : Declaration). declared s n d) (port_declared _) ∙ c.in_ok-declare_port.ensures) c.loop-port.invariant)

pub returns-in_err-declare_port : goal.returns-in_err-declare_port
returns-in_err-declare_port c =
    let i = c.loop-port.port-index in
    let ports = c.args.ports.now in
    let s = scope_of c.loop-port.scope in
    let n = c.in_ok-name.name in
    refused c.from_residual-in_err-declare_port.result _ _ _ c.from_residual-in_err-declare_port.ensures.1 (λ e.
    ports_stop port_of ports i s c.loop-port.at _ _ _ n c.loop-port-test.true
    (port_named c.loop-port.at n _ c.tokens_before.result c.tokens_before.ensures.value c.in_ok-name.ensures)
    (ap (λ (d : Declaration). declared s n d) (port_declared _) ∙ c.in_err-declare_port.ensures e) c.loop-port.invariant)
