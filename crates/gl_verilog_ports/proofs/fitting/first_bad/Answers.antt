use Rattle.std.proofs.Common.{◌≡◌, ℕ, suc, ◌+◌, ◌<◌, ◌≤◌, Bool, true, false, List, ◌∷◌, length, map, drop, get_or, Some, sym, ap, ◌∙◌, arith, add-one, drop-cons}
use Rattle.std.specs.Prelude.{if◌then◌else◌}
use Rattle.gl_schema.specs.declared.schema.Schema.{Schema}
use Rattle.gl_verilog.specs.Module as spec
use Rattle.gl_verilog.specs.View.{declaration_of}
use Rattle.gl_verilog.specs.declared.module.Declaration.{Declaration}
use Rattle.gl_verilog_ports.specs.Fit.{is_bad, with_port, first_bad}
use Rattle.gl_verilog_ports.specs.Profile.{shows_column}
use Rattle.gl_verilog_ports.proofs.fitting.first_bad.Goals as goal

-- behind a port that is not bad come the others
next : (schema : Schema) (ports : List Declaration) (n columns : ℕ) (d : Declaration) → n < length ports → d ≡ get_or ports n d → is_bad schema columns (declaration_of d) ≡ false
    → first_bad schema n columns (map declaration_of (drop n ports)) ≡ first_bad schema (n + 1) (with_port columns (declaration_of d)) (map declaration_of (drop (n + 1) ports))
next schema ports n columns d below is good =
    let rest : List spec.Declaration = map declaration_of (drop (suc n) ports) in
    let front : drop n ports ≡ d ∷ drop (suc n) ports = drop-cons ports n d below ∙ ap (λ (x : Declaration). x ∷ drop (suc n) ports) (sym is) in
    ap (λ (xs : List Declaration). first_bad schema n columns (map declaration_of xs)) front
    ∙ ap (λ (b : Bool). if b then Some n else first_bad schema (n + 1) (with_port columns (declaration_of d)) rest) good
    ∙ ap (λ (k : ℕ). first_bad schema (n + 1) (with_port columns (declaration_of d)) (map declaration_of (drop k ports))) (sym (add-one n))

at_most : (columns n : ℕ) (d : spec.Declaration) → columns ≤ n → with_port columns d ≤ n + 1
at_most columns n d le = pick (shows_column d)
  where
    pick : (b : Bool) → (if b then columns + 1 else columns) ≤ n + 1
    pick true = omega arith
    pick false = omega arith

pub loop-number-preserved : goal.loop-number-preserved
loop-number-preserved c =
    let d = c.index-ports-number.result in
    let schema = c.args.schema.now in
    let ports = c.args.ports.now in
    let n = c.loop-number.number in
    let columns = c.loop-number.columns in
    let counted : c.with_port-columns.result ≡ with_port columns (declaration_of d) = c.with_port-columns.ensures in
    let good : is_bad schema columns (declaration_of d) ≡ false = sym c.is_bad.ensures ∙ c.if-is_bad.false in (
      ap (λ (k : ℕ). first_bad schema (n + 1) k (map declaration_of (drop (n + 1) ports))) counted
          ∙ sym (next schema ports n columns d c.loop-number-test.true c.index-ports-number.is good) ∙ c.loop-number.invariant.0,
      (let le : with_port columns (declaration_of d) ≤ n + 1 = at_most columns n (declaration_of d) c.loop-number.invariant.1 in rw counted le),
    )
