-- The registers and memories that a netlist's module declares are the netlist's.
use Rattle.std.proofs.Common.{◌≡◌, ℕ, ◌+◌, List, [], ◌∷◌, ◌++◌, map, refl, ap, sym, ◌∙◌, arith}
use Rattle.std.specs.List.{sum_by}
use Rattle.std.proofs.lemmas.List.Sums.{sum_by-cons, sum_by-append}
use Rattle.gl_net.specs.declared.node.Node.{Node}
use Rattle.gl_net.specs.declared.node.Node.TheVariants.{Input, Constant, Not, Binary, Choose, Join, Cut, Register, Memory, MemoryRead}
use Rattle.gl_net.specs.declared.node.Port.{Port}
use Rattle.gl_net.specs.declared.node.Direction.{Direction}
use Rattle.gl_net.specs.declared.node.Direction.TheVariants.{In, Out}
use Rattle.gl_net.specs.Net as circuit
use Rattle.gl_net.specs.Net.{Net}
use Rattle.gl_verilog.specs.Module.{Declaration}
use Rattle.gl_verilog.specs.Cost.{register_bits, memory_bits, register_bits_of, memory_bits_of}
use Rattle.gl_verilog_writer.specs.Meaning.{declaration_of, clock, kind_of}
use Rattle.gl_verilog_writer.proofs.Model.{declaration_for, counted, module_in}

-- what each declaration has, where no port has any
module _ (net : Net) (names : ℕ → List ℕ) (share : Declaration → ℕ) (held : Node → ℕ) (same : (n : ℕ) (x : Node) → share (declaration_for names n x) ≡ held x)
    (none : (p : Port) → share (declaration_of net p) ≡ 0) (no_clock : share clock ≡ 0) where
  of-nodes : (n : ℕ) (xs : List Node) → sum_by share (counted (declaration_for names) n xs) ≡ sum_by held xs
  of-nodes n [] = refl
  of-nodes n (x ∷ xs) =
      sum_by-cons share (declaration_for names n x) (counted (declaration_for names) (n + 1) xs)
      ∙ ap (λ (m : ℕ). m + sum_by share (counted (declaration_for names) (n + 1) xs)) (same n x)
      ∙ ap (λ (m : ℕ). held x + m) (of-nodes (n + 1) xs) ∙ sym (sum_by-cons held x xs)

  of-ports : (ps : List Port) → sum_by share (map (declaration_of net) ps) ≡ 0
  of-ports [] = refl
  of-ports (p ∷ ps) =
      let a = sum_by-cons share (declaration_of net p) (map (declaration_of net) ps) in
      let b = none p in
      let c = of-ports ps in
      omega (arith, a, b, c)

  of-all : (ps : List Port) (xs : List Node) → sum_by share (clock ∷ (map (declaration_of net) ps ++ counted (declaration_for names) 0 xs)) ≡ sum_by held xs
  of-all ps xs =
      let a = sum_by-cons share clock (map (declaration_of net) ps ++ counted (declaration_for names) 0 xs) in
      let b = sum_by-append share (map (declaration_of net) ps) (counted (declaration_for names) 0 xs) in
      let c = of-ports ps in
      let d = of-nodes 0 xs in
      let e = no_clock in
      omega (arith, a, b, c, d, e)

register-same : (names : ℕ → List ℕ) (n : ℕ) (x : Node) → register_bits_of (declaration_for names n x).kind (declaration_for names n x).width ≡ circuit.register_bits x
register-same names n (Input place w) = refl
register-same names n (Constant word) = refl
register-same names n (Not x) = refl
register-same names n (Binary op x y) = refl
register-same names n (Choose test x y) = refl
register-same names n (Join x y) = refl
register-same names n (Cut x high low) = refl
register-same names n (Register w reset next) = refl
register-same names n (Memory bits w drive) = refl
register-same names n (MemoryRead store x) = refl

memory-same : (names : ℕ → List ℕ) (n : ℕ) (x : Node) → memory_bits_of (declaration_for names n x).kind (declaration_for names n x).width ≡ circuit.memory_bits x
memory-same names n (Input place w) = refl
memory-same names n (Constant word) = refl
memory-same names n (Not x) = refl
memory-same names n (Binary op x y) = refl
memory-same names n (Choose test x y) = refl
memory-same names n (Join x y) = refl
memory-same names n (Cut x high low) = refl
memory-same names n (Register w reset next) = refl
memory-same names n (Memory bits w drive) = refl
memory-same names n (MemoryRead store x) = refl

no-register : (d : Direction) (w : ℕ) → register_bits_of (kind_of d) w ≡ 0
no-register In w = refl
no-register Out w = refl

no-memory : (d : Direction) (w : ℕ) → memory_bits_of (kind_of d) w ≡ 0
no-memory In w = refl
no-memory Out w = refl

pub registers-same : (net : Net) (names : ℕ → List ℕ) → register_bits (module_in net names) ≡ circuit.register_bits_of net
unfolding module_in circuit.register_bits_of
registers-same net names =
    of-all net names (λ (d : Declaration). register_bits_of d.kind d.width) circuit.register_bits (register-same names)
    (λ (p : Port). no-register p.direction (declaration_of net p).width) refl net.ports net.nodes

pub memories-same : (net : Net) (names : ℕ → List ℕ) → memory_bits (module_in net names) ≡ circuit.memory_bits_of net
unfolding module_in circuit.memory_bits_of
memories-same net names =
    of-all net names (λ (d : Declaration). memory_bits_of d.kind d.width) circuit.memory_bits (memory-same names)
    (λ (p : Port). no-memory p.direction (declaration_of net p).width) refl net.ports net.nodes
