-- Multiples of a bus by a word that is known when the circuit is made: the word as terms, and what the product costs.
use Rattle.std.specs.Prelude.{◌≡◌, ℕ, ◌+◌, List, Bool, true, false, nat_eq, if◌then◌else◌}
use Rattle.gl_values.specs.Kinds.{width_of}
use Rattle.gl_values.specs.declared.kind.Kind.{Kind}
use Rattle.gl_algebra.specs.declared.node.Operand.{Operand}
use Rattle.gl_algebra.specs.Columns.{kind_of_operand}
use Rattle.gl_algebra.specs.Values.{value_of_operand}
use Rattle.gl_wire.specs.Wire.{row_at}
use Rattle.gl_bits.specs.Words.{difference_of, product_of, sum_of}
use Rattle.gl_net.specs.declared.node.Bus.{Bus}
use Rattle.gl_net.specs.Net.{Net}
use Rattle.gl_rows.specs.Made.{Carries}
use Rattle.gl_rows.specs.declared.multiple.Terms.{Terms}
use Rattle.gl_rows.specs.declared.multiple.Terms.TheVariants.{One, Sum, Difference, Many}

-- the terms have this width
abbrev pub TermsFit : ℕ → Terms → Type 0
TermsFit width (One word) = word.width ≡ width
TermsFit width (Sum first second) = (first.width ≡ width) × (second.width ≡ width)
TermsFit width (Difference first second) = (first.width ≡ width) × (second.width ≡ width)
TermsFit width (Many word) = word.width ≡ width

-- the number that terms of a width make
abbrev pub number_of : ℕ → Terms → ℕ
number_of width (One word) = word.bits
number_of width (Sum first second) = sum_of width first.bits second.bits
number_of width (Difference first second) = difference_of width first.bits second.bits
number_of width (Many word) = word.bits

-- whether the product needs no multiplier
abbrev pub is_lean : Terms → Bool
is_lean (One word) = true
is_lean (Sum first second) = true
is_lean (Difference first second) = true
is_lean (Many word) = false

-- the nodes of the product by a term: by 1 it is the bus itself
abbrev pub nodes_of_term : ℕ → ℕ
nodes_of_term term = if nat_eq term 1 then 0 else 2

-- the nodes of the product
abbrev pub nodes_of_terms : Terms → ℕ
nodes_of_terms (One word) = nodes_of_term word.bits
nodes_of_terms (Sum first second) = 1 + nodes_of_term first.bits + nodes_of_term second.bits
nodes_of_terms (Difference first second) = 1 + nodes_of_term first.bits + nodes_of_term second.bits
nodes_of_terms (Many word) = nodes_of_term word.bits

-- a bus that carries the product of another and a number, for so many nodes at most
abbrev pub IsMultiple : Net → Net → Bus → ℕ → ℕ → Bus → Type 0
IsMultiple old new value factor nodes b =
    Carries old new nodes value.width (λ run t. product_of value.width (run.at t value.node) factor) b

-- the product of an operand and a number, for seven nodes at most
abbrev pub IsScaled : Net → Net → List Bus → List Kind → Operand → ℕ → Bus → Type 0
IsScaled old new columns kinds operand factor b =
    let width = width_of (kind_of_operand kinds operand) in
    Carries old new 7 width
    (λ run t. product_of width (value_of_operand run.held (row_at run t columns) operand) factor) b
