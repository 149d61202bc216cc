-- The texts of a header from their pieces.
use Rattle.std.proofs.Common.{◌≡◌, ℕ, ◌+◌, ◌<◌, ◌≤◌, Bool, true, false, not, List, [], ◌∷◌, ◌++◌, drop, get_or, length, map, take, sym, ap, ◌∙◌, append_assoc, arith}
use Rattle.std.specs.Prelude.{bytes_eq, codes, decimal, if◌then◌else◌}
use Rattle.std.proofs.lemmas.Bool.{cond-false, cond-true}
use Rattle.std.proofs.lemmas.List.{drop_all, drop_more, take-map}
use Rattle.gl_bits.specs.Limits.{most_ports}
use Rattle.gl_schema.specs.Profile.{clk}
use Rattle.gl_bits.proofs.Bools.{not_true}
use Rattle.gl_verilog.specs.View.{declaration_of, module_of}
use Rattle.gl_verilog.specs.declared.module.Declaration.{Declaration}
use Rattle.gl_verilog.specs.declared.module.Module.{Module}
use Rattle.gl_vcd.specs.Dumped.{Port}
use Rattle.gl_vcd.specs.Written.{code_of, declaration, declarations, header, port_declared, ports_among, ports_of}

-- a text that ends in a line feed
tail_is : (name : List ℕ) → name ++ codes " $end\n" ≡ (name ++ codes " $end") ++ 10 ∷ []
tail_is name = sym (append_assoc name (codes " $end") (10 ∷ []))

pub declaration_is : (i : ℕ) (p : Port) → (codes "$var wire " ++ decimal p.width ++ 32 ∷ (code_of i ++ 32 ∷ [])) ++ (p.name ++ codes " $end\n") ≡ declaration i p
declaration_is i p =
    ap (λ (x : List ℕ). codes "$var wire " ++ x)
    (append_assoc (decimal p.width) (32 ∷ (code_of i ++ 32 ∷ [])) (p.name ++ codes " $end\n")
    ∙ ap (λ (x : List ℕ). decimal p.width ++ 32 ∷ (code_of i ++ 32 ∷ x)) (tail_is p.name)
    ∙ sym (append_assoc (decimal p.width) (32 ∷ (code_of i ++ 32 ∷ (p.name ++ codes " $end"))) (10 ∷ [])))

pub header_is : (name : List ℕ) (ports : List Port)
    → (codes "$timescale 1 ns $end\n$scope module " ++ (name ++ codes " $end\n")) ++ (declarations 0 ports ++ codes "$upscope $end\n$enddefinitions $end\n") ≡ header name ports
unfolding header
header_is name ports =
    ap (λ (x : List ℕ). codes "$timescale 1 ns $end\n$scope module " ++ x)
    (sym (append_assoc (name ++ codes " $end\n") (declarations 0 ports) (codes "$upscope $end\n$enddefinitions $end\n"))
    ∙ sym (append_assoc ((name ++ codes " $end\n") ++ declarations 0 ports) (codes "$upscope $end\n") (codes "$enddefinitions $end\n"))
    ∙ ap (λ (x : List ℕ). ((x ++ declarations 0 ports) ++ codes "$upscope $end\n") ++ codes "$enddefinitions $end\n") (tail_is name))

-- ---- the ports that are declared

pub ports_are : (m : Module) → ports_among (map declaration_of (take m.ports m.declarations)) ≡ ports_of (module_of m)
ports_are m = ap ports_among (sym (take-map declaration_of m.ports m.declarations))

-- the ports among what is left of declarations
abbrev pub ports_left : ℕ → List Declaration → List Port
ports_left i ds = ports_among (map declaration_of (drop i ds))

left_next : (ds : List Declaration) (i : ℕ) (d : Declaration) → i < length ds → d ≡ get_or ds i d
    → ports_left i ds ≡ (if bytes_eq d.name clk then ports_left (i + 1) ds else port_declared (declaration_of d) ∷ ports_left (i + 1) ds)
left_next ds i d lt is = ap (λ (xs : List Declaration). ports_among (map declaration_of xs)) (drop_more ds i d lt ∙ ap (λ (x : Declaration). x ∷ drop (i + 1) ds) (sym is))

-- they begin with a port, or with the clock in front of the others
pub left_port : (ds : List Declaration) (i : ℕ) (d : Declaration) → i < length ds → d ≡ get_or ds i d → true ≡ not (bytes_eq d.name clk)
    → ports_left i ds ≡ port_declared (declaration_of d) ∷ ports_left (i + 1) ds
left_port ds i d lt is port' = left_next ds i d lt is ∙ cond-false (bytes_eq d.name clk) _ _ (not_true (bytes_eq d.name clk) (sym port'))

pub left_clock : (ds : List Declaration) (i : ℕ) (d : Declaration) → i < length ds → d ≡ get_or ds i d → false ≡ not (bytes_eq d.name clk)
    → ports_left i ds ≡ ports_left (i + 1) ds
left_clock ds i d lt is clock' = left_next ds i d lt is ∙ cond-true (bytes_eq d.name clk) _ _ (turned (bytes_eq d.name clk) clock')
  where
    turned : (b : Bool) → false ≡ not b → b ≡ true
    turned true e = sym (ap not e)
    turned false e = sym (ap not e)

pub left_none : (ds : List Declaration) (i : ℕ) → length ds ≤ i → ports_left i ds ≡ []
left_none ds i le = ap (λ (xs : List Declaration). ports_among (map declaration_of xs)) (drop_all i ds le)

-- of few ports the number of the next is small
pub few_left : (ds : List Declaration) (i number : ℕ) (d : Declaration) → ports_left i ds ≡ port_declared (declaration_of d) ∷ ports_left (i + 1) ds
    → number + length (ports_left i ds) ≡ length (ports_left 0 ds) → length (ports_left 0 ds) ≤ most_ports → number < most_ports
few_left ds i number d next count few =
    let one : length (ports_left i ds) ≡ 1 + length (ports_left (i + 1) ds) = ap length next ∙ (let e : length (port_declared (declaration_of d) ∷ ports_left (i + 1) ds) ≡ 1 + length (ports_left (i + 1) ds) = omega arith in e) in
    omega (arith, one, count, few)

pub count_more : (ds : List Declaration) (i number : ℕ) (d : Declaration) → ports_left i ds ≡ port_declared (declaration_of d) ∷ ports_left (i + 1) ds
    → number + length (ports_left i ds) ≡ length (ports_left 0 ds) → number + 1 + length (ports_left (i + 1) ds) ≡ length (ports_left 0 ds)
count_more ds i number d next count =
    let one : length (ports_left i ds) ≡ 1 + length (ports_left (i + 1) ds) = ap length next ∙ (let e : length (port_declared (declaration_of d) ∷ ports_left (i + 1) ds) ≡ 1 + length (ports_left (i + 1) ds) = omega arith in e) in
    omega (arith, one, count)
