use Rattle.std.proofs.Common.{◌≡◌, List, ℕ, ◌∷◌, [], ◌++◌, ap, ◌∙◌}
use Rattle.std.specs.Prelude.{codes, decimal}
use Rattle.gl_outside.proofs.Takes.{wrote_same}
use Rattle.gl_verilog.specs.View.{declaration_of}
use Rattle.gl_vcd.specs.Dumped.{Port}
use Rattle.gl_vcd.specs.Written.{code_of, declaration, port_declared}
use Rattle.gl_vcd.proofs.Headers.{declaration_is}
use Rattle.gl_vcd.proofs.writing.put_declaration.Goals as goal

-- the pieces, of which the name is read off the port
whole : (i : ℕ) (p : Port) (front name : List ℕ) → front ≡ codes "$var wire " ++ decimal p.width ++ 32 ∷ (code_of i ++ 32 ∷ []) → name ≡ p.name → front ++ (name ++ codes " $end\n") ≡ declaration i p
whole i p front name e f =
    ap (λ (x : List ℕ). x ++ (name ++ codes " $end\n")) e
    ∙ ap (λ (x : List ℕ). (codes "$var wire " ++ decimal p.width ++ 32 ∷ (code_of i ++ 32 ∷ [])) ++ (x ++ codes " $end\n")) f
    ∙ declaration_is i p

pub returns : goal.returns
returns g c =
    wrote_same _ _ _ _ c.put_named.result
    (whole c.args.number (port_declared (declaration_of c.args.port.now)) _ c.as_slice.result.now c.declared_into-end.ensures.written c.as_slice.ensures)
    c.put_named.ensures
