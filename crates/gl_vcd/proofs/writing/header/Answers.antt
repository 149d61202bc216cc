use Rattle.std.proofs.Common.{◌≡◌, ℕ, List, ◌++◌, ap, ◌∙◌, subst}
use Rattle.std.specs.Prelude.{codes}
use Rattle.gl_outside.proofs.Takes.{broke_more, broke_then, took_same, wrote_same, wrote_then}
use Rattle.gl_outside.specs.States.{Broke, SinkState}
use Rattle.gl_verilog.specs.View.{module_of}
use Rattle.gl_vcd.specs.Dumped.{Port}
use Rattle.gl_vcd.specs.Written.{declarations, header, ports_of}
use Rattle.gl_vcd.proofs.Headers.{header_is}
use Rattle.gl_tuples.proofs.Puts.{failed}
use Rattle.gl_vcd.proofs.writing.header.Goals as goal

-- the pieces, of which the name is read off the module
whole : (found name : List ℕ) (ports : List Port) → found ≡ name
    → (codes "$timescale 1 ns $end\n$scope module " ++ (found ++ codes " $end\n")) ++ (declarations 0 ports ++ codes "$upscope $end\n$enddefinitions $end\n") ≡ header name ports
whole found name ports e =
    ap (λ (x : List ℕ). (codes "$timescale 1 ns $end\n$scope module " ++ (x ++ codes " $end\n")) ++ (declarations 0 ports ++ codes "$upscope $end\n$enddefinitions $end\n")) e
    ∙ header_is name ports

broke_ports : (a b : SinkState) (ps qs : List Port) → ps ≡ qs → Broke a b (declarations 0 ps) → Broke a b (declarations 0 qs)
broke_ports a b ps qs e broke = subst (λ (xs : List Port). Broke a b (declarations 0 xs)) e broke

pub returns-in_err-put_named : goal.returns-in_err-put_named
returns-in_err-put_named g c =
    let m = module_of c.args.module.now in
    let tail = declarations 0 (ports_of m) ++ codes "$upscope $end\n$enddefinitions $end\n" in
    failed _ _ _ _ c.from_residual.result c.from_residual.ensures.1
    (subst (Broke _ _) (whole c.as_slice.result.now m.name (ports_of m) c.as_slice.ensures) (broke_more _ _ _ tail c.in_err-put_named.ensures))

pub returns-in_err-put_declarations : goal.returns-in_err-put_declarations
returns-in_err-put_declarations g c =
    let m = module_of c.args.module.now in
    let broke = broke_ports _ _ _ _ c.ports_in-ports.ensures c.in_err-put_declarations.ensures in
    failed _ _ _ _ c.from_residual-in_err-put_declarations.result c.from_residual-in_err-put_declarations.ensures.1
    (subst (Broke _ _) (whole c.as_slice.result.now m.name (ports_of m) c.as_slice.ensures)
    (broke_then _ _ _ _ _ c.in_ok-put_named.ensures (broke_more _ _ _ (codes "$upscope $end\n$enddefinitions $end\n") broke)))

pub returns : goal.returns
returns g c =
    let m = module_of c.args.module.now in
    let took = took_same _ _ _ _ (ap (declarations 0) c.ports_in-ports.ensures) c.in_ok-put_declarations.ensures in
    wrote_same _ _ _ _ c.write_all_of.result (whole c.as_slice.result.now m.name (ports_of m) c.as_slice.ensures)
    (wrote_then _ _ _ _ _ c.write_all_of.result c.in_ok-put_named.ensures (wrote_then _ _ _ _ _ c.write_all_of.result took c.write_all_of.ensures))
