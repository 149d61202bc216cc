-- What is asked of the names of a netlist's nets, whatever they say.
use Rattle.std.specs.Prelude.{◌≡◌, ◌≢◌, ℕ, ◌<◌, ◌≤◌, false, List, length, Some, slice_get, codes, bytes_eq}
use Rattle.gl_net.specs.declared.node.Port.{Port}
use Rattle.gl_net.specs.Net.{Net}
use Rattle.gl_net.specs.Finished.{IsName}

-- each node has a name of the subset, no two have one, none has a port's or the clock's, and all are short
pub record IsNaming (net : Net) (names : ℕ → List ℕ) : Type 0 where
  pub plain : (n : ℕ) → n < length net.nodes → IsName (names n)
  pub apart : (m n : ℕ) → m < length net.nodes → n < length net.nodes → names m ≡ names n → m ≡ n
  pub no_port : (n place : ℕ) (p : Port) → slice_get net.ports place ≡ Some p → names n ≢ p.name
  pub no_clock : (n : ℕ) → bytes_eq (names n) (codes "clk") ≡ false
  pub short : (n : ℕ) → n < length net.nodes → length (names n) ≤ 77
