-- Buses that carry values of another width.
use Rattle.std.proofs.Common.{◌≡◌, ℕ, ◌+◌, ◌-◌, ◌*◌, ◌/◌, ◌%◌, ◌^◌, ◌<◌, ◌≤◌, true, false, sym, ap, subst, ◌∙◌, arith}
use Rattle.std.proofs.Math.Nat.{mod-eq_of_lt}
use Rattle.std.specs.Prelude.{if◌then◌else◌}
use Rattle.gl_values.proofs.KindLemmas.{text_cast}
use Rattle.gl_values.proofs.Signs.{down_plain, down_signed, resized_plain, resized_signed, sign_cut}
use Rattle.gl_bits.proofs.Wrapping.{fits_wider, cut_low}
use Rattle.gl_bits.specs.Words.{join_of}
use Rattle.gl_net.specs.declared.node.Bus.{Bus}
use Rattle.gl_net.specs.Builds.{IsCut, IsJoined}
use Rattle.gl_net.specs.Net.{Net, IsBus, Keeps}
use Rattle.gl_net.proofs.Determined.{keeps_then}
use Rattle.gl_net.proofs.Values.{bus_fits}
use Rattle.gl_wire.specs.Costs.{CostsAtMost, nodes_alone}
use Rattle.gl_values.specs.Kinds.{are_alike, family_of, is_signed, number_in, number_of, signed_number, width_of, word_of}
use Rattle.gl_values.specs.Operators.{cast_of}
use Rattle.gl_values.specs.declared.kind.Family.{Family}
use Rattle.gl_values.specs.declared.kind.Family.TheVariants.{Numbers, Texts}
use Rattle.gl_values.specs.declared.kind.Kind.{Kind}
use Rattle.gl_values.specs.declared.kind.Kind.TheVariants.{Unsigned, Signed, Text}
use Rattle.gl_rows.specs.Made.{AreHigh, AreLow, Carries, IsCast, IsExtended, IsNumber, IsNumberIn, IsShiftedDown}
use Rattle.gl_rows.proofs.CastLemmas.{down_cut, high_cut, high_join}
use Rattle.gl_rows.proofs.MadeLemmas.{carries_as, carries_within}

module _ (old mid new : Net) (width : ℕ) (bus zeros b : Bus) (is : IsBus old bus) (more : bus.width < width)
    (none : Carries old mid 1 (width - bus.width) (λ run t. 0) zeros) (keeps : Keeps mid new) (cost : CostsAtMost mid new (nodes_alone 1)) (there : IsBus new b) where
  two_nodes : CostsAtMost old new (nodes_alone 2)
  two_nodes = record {
    nodes = omega (arith, none.cost.nodes, cost.nodes);
    registers = omega (arith, none.cost.registers, cost.registers);
    memories = omega (arith, none.cost.memories, cost.memories);
  }

  -- zero bits above, as the lowest bits of a wider word
  pub above : b.width ≡ zeros.width + bus.width → IsJoined new zeros bus b → Carries old new 2 width (λ run t. run.at t bus.node % 2 ^ width) b
  unfolding join_of
  above wide value = record {
    keeps = keeps_then old mid new none.keeps keeps;
    cost = two_nodes;
    bus = there;
    same_width = omega (arith, wide, none.same_width, more);
    carries = λ run r t.
        let before = keeps.runs run r in
        let fits = fits_wider (run.at t bus.node) bus.width width (bus_fits old bus run is (none.keeps.runs run before) t) (omega (arith, more)) in
        let zero : run.at t zeros.node ≡ 0 = none.carries run before t in
        let z : 0 * 2 ^ bus.width + run.at t bus.node ≡ run.at t bus.node = omega arith in
        value run r t ∙ ap (λ (n : ℕ). n * 2 ^ bus.width + run.at t bus.node) zero ∙ z ∙ sym (mod-eq_of_lt fits);
  }

  -- zero bits below
  pub below : b.width ≡ bus.width + zeros.width → IsJoined new bus zeros b → Carries old new 2 width (λ run t. run.at t bus.node / 2 ^ (bus.width - width) * 2 ^ (width - bus.width)) b
  below wide value = record {
    keeps = keeps_then old mid new none.keeps keeps;
    cost = two_nodes;
    bus = there;
    same_width = omega (arith, wide, none.same_width, more);
    carries = λ run r t.
        let before = keeps.runs run r in
        value run r t ∙ ap (λ (n : ℕ). join_of zeros.width (run.at t bus.node) n) (none.carries run before t)
        ∙ ap (λ (w : ℕ). join_of w (run.at t bus.node) 0) none.same_width ∙ high_join bus.width width (run.at t bus.node) (omega (arith, more));
  }

module _ (old new : Net) (width : ℕ) (bus b : Bus) (is : IsBus old bus) (some : 1 ≤ width) (less : width ≤ bus.width) (keeps : Keeps old new)
    (cost : CostsAtMost old new (nodes_alone 1)) (there : IsBus new b) where
  one_node : CostsAtMost old new (nodes_alone 2)
  one_node = record { nodes = omega (arith, cost.nodes); registers = cost.registers; memories = cost.memories }

  pub low : b.width ≡ width - 1 + 1 - 0 → IsCut new bus (width - 1) 0 b → Carries old new 2 width (λ run t. run.at t bus.node % 2 ^ width) b
  low wide value = record {
    keeps = keeps;
    cost = one_node;
    bus = there;
    same_width = omega (arith, wide, some);
    carries = λ run r t. value run r t ∙ cut_low width (run.at t bus.node) some;
  }

  pub high : b.width ≡ bus.width - 1 + 1 - (bus.width - width) → IsCut new bus (bus.width - 1) (bus.width - width) b
      → Carries old new 2 width (λ run t. run.at t bus.node / 2 ^ (bus.width - width) * 2 ^ (width - bus.width)) b
  high wide value = record {
    keeps = keeps;
    cost = one_node;
    bus = there;
    same_width = omega (arith, wide, some, less);
    carries = λ run r t. value run r t ∙ high_cut bus.width width (run.at t bus.node) (bus_fits old bus run is (keeps.runs run r) t) some less;
  }

-- ---- numbers in another width

pub sign_lowest : (old new : Net) (width : ℕ) (bus b : Bus) → width ≤ bus.width → AreLow old new width bus b → IsExtended old new width bus b
sign_lowest old new width bus b less are =
    carries_as old new 5 width (λ run t. run.at t bus.node % 2 ^ width) (λ run t. word_of width (signed_number bus.width (run.at t bus.node))) b
    (λ run r t. sign_cut bus.width width (run.at t bus.node) less) (carries_within old new 2 5 width (λ run t. run.at t bus.node % 2 ^ width) b (omega arith) are)

pub number_plain : (old new : Net) (kind : Kind) (width : ℕ) (bus b : Bus) → is_signed kind ≡ false → AreLow old new width bus b → IsNumber old new kind width bus b
number_plain old new kind width bus b plain are =
    carries_as old new 5 width (λ run t. run.at t bus.node % 2 ^ width) (λ run t. word_of width (number_of kind (run.at t bus.node))) b
    (λ run r t. resized_plain kind width (run.at t bus.node) plain) (carries_within old new 2 5 width (λ run t. run.at t bus.node % 2 ^ width) b (omega arith) are)

pub number_signed : (old new : Net) (kind : Kind) (width : ℕ) (bus b : Bus) → bus.width ≡ width_of kind → is_signed kind ≡ true → IsExtended old new width bus b → IsNumber old new kind width bus b
number_signed old new kind width bus b wide signed are =
    carries_as old new 5 width (λ run t. word_of width (signed_number bus.width (run.at t bus.node))) (λ run t. word_of width (number_of kind (run.at t bus.node))) b
    (λ run r t. ap (λ (w : ℕ). word_of width (signed_number w (run.at t bus.node))) wide ∙ resized_signed kind width (run.at t bus.node) signed) are

-- ---- shifts

pub number_in_plain : (old new : Net) (kind : Kind) (width : ℕ) (bus b : Bus) → is_signed kind ≡ false → AreLow old new width bus b → IsNumberIn old new kind width bus b
number_in_plain old new kind width bus b plain are =
    carries_as old new 5 width (λ run t. run.at t bus.node % 2 ^ width) (λ run t. word_of width (number_in kind bus.width (run.at t bus.node))) b
    (λ run r t. down_plain kind width bus.width (run.at t bus.node) plain) (carries_within old new 2 5 width (λ run t. run.at t bus.node % 2 ^ width) b (omega arith) are)

pub number_in_signed : (old new : Net) (kind : Kind) (width : ℕ) (bus b : Bus) → is_signed kind ≡ true → IsExtended old new width bus b → IsNumberIn old new kind width bus b
number_in_signed old new kind width bus b signed are =
    carries_as old new 5 width (λ run t. word_of width (signed_number bus.width (run.at t bus.node))) (λ run t. word_of width (number_in kind bus.width (run.at t bus.node))) b
    (λ run r t. down_signed kind width bus.width (run.at t bus.node) signed) are

-- the bits from a place on, in the width of the whole
pub shifts_down : (old mid new : Net) (kind : Kind) (by : ℕ) (bus high b : Bus) → IsBus old bus → bus.width ≡ width_of kind → by < bus.width → Keeps old mid
    → CostsAtMost old mid (nodes_alone 1) → high.width ≡ bus.width - 1 + 1 - by → IsCut mid bus (bus.width - 1) by high → IsNumberIn mid new kind bus.width high b
    → IsShiftedDown old new kind by bus b
shifts_down old mid new kind by bus high b is same near keeps cost wide value one =
    let less : high.width ≡ width_of kind - by = omega (arith, wide, same, near) in
    record {
      keeps = keeps_then old mid new keeps one.keeps;
      cost = record {
        nodes = omega (arith, cost.nodes, one.cost.nodes);
        registers = omega (arith, cost.registers, one.cost.registers);
        memories = omega (arith, cost.memories, one.cost.memories);
      };
      bus = one.bus;
      same_width = one.same_width ∙ same;
      carries = λ run r t.
          let before = one.keeps.runs run r in
          let bits = value run before t ∙ down_cut bus.width by (run.at t bus.node) (bus_fits old bus run is (keeps.runs run before) t) near in
          one.carries run r t ∙ (λ i. word_of (same i) (number_in kind (less i) (bits i)));
    }

-- ---- casts

no_family : Texts ≡ Numbers → ⊥
no_family e = cc

-- a number as another number
pub number_casts : (old new : Net) (bus b : Bus) (from to : Kind) (width : ℕ) → width ≡ width_of to → family_of from ≡ Numbers
    → IsNumber old new from width bus b → IsCast old new from to bus b
number_casts old new bus b from to width wide numbers are =
    carries_as old new 5 (width_of to) (λ run t. word_of (width_of to) (number_of from (run.at t bus.node))) (λ run t. cast_of from to (run.at t bus.node)) b
    (λ run r t. sym (ap (λ (f : Family). if are_alike f Numbers then word_of (width_of to) (number_of from (run.at t bus.node))
    else run.at t bus.node * 2 ^ width_of to / 2 ^ width_of from) numbers))
    (subst (λ (w : ℕ). IsNumber old new from w bus b) wide are)

-- a text as another text
pub high_casts : (old new : Net) (bus b : Bus) (from to : Kind) (width : ℕ) → width ≡ width_of to → family_of from ≡ Texts → bus.width ≡ width_of from
    → AreHigh old new width bus b → IsCast old new from to bus b
high_casts old new bus b (Unsigned v) to width wide texts same are = absurd (no_family (sym texts))
high_casts old new bus b (Signed v) to width wide texts same are = absurd (no_family (sym texts))
high_casts old new bus b (Text n) to width wide texts same are =
    carries_within old new 2 5 (width_of to) (λ run t. cast_of (Text n) to (run.at t bus.node)) b (omega arith)
    (carries_as old new 2 (width_of to) (λ run t. run.at t bus.node / 2 ^ (bus.width - width_of to) * 2 ^ (width_of to - bus.width))
    (λ run t. cast_of (Text n) to (run.at t bus.node)) b
    (λ run r t. ap (λ (k : ℕ). run.at t bus.node / 2 ^ (k - width_of to) * 2 ^ (width_of to - k)) same ∙ text_cast n to (run.at t bus.node))
    (subst (λ (w : ℕ). AreHigh old new w bus b) wide are))
