-- A gate that takes two buses of a kind, as an operator.
use Rattle.std.proofs.Common.{◌≡◌, ℕ, ◌^◌, ◌<◌, true, false, refl, sym, ap, subst, ◌∙◌, arith}
use Rattle.std.specs.Prelude.{Bool, if◌then◌else◌}
use Rattle.gl_values.specs.Kinds.{is_signed, width_of}
use Rattle.gl_values.specs.Operators.{is_shift, operate, result_kind, sort_of}
use Rattle.gl_values.specs.declared.kind.Kind.{Kind}
use Rattle.gl_values.specs.declared.kind.Kind.TheVariants.{Unsigned, Signed, Text}
use Rattle.gl_values.specs.declared.op.Op.{Op}
use Rattle.gl_algebra.specs.Columns.{SortFits}
use Rattle.gl_net.specs.declared.node.Bus.{Bus}
use Rattle.gl_net.specs.Net.{Net, IsBus, binary_of, binary_width}
use Rattle.gl_net.proofs.Values.{bus_fits}
use Rattle.gl_rows.specs.Gates.{gate_of, gated, is_order, is_turned}
use Rattle.gl_rows.specs.Made.{IsGated, IsGatedTurned, IsOperated}
use Rattle.gl_rows.proofs.GateLemmas.{gate_width, ordered_value, plain_value, unordered_value}

-- which operand the gate takes first
pub gated_plain : (op : Op) (w x y : ℕ) → is_turned op ≡ false → binary_of (gate_of op) w x y ≡ gated op w x y
gated_plain op w x y t = sym (ap (λ (b : Bool). if b then binary_of (gate_of op) w y x else binary_of (gate_of op) w x y) t)

pub gated_around : (op : Op) (w x y : ℕ) → is_turned op ≡ true → binary_of (gate_of op) w y x ≡ gated op w x y
gated_around op w x y t = sym (ap (λ (b : Bool). if b then binary_of (gate_of op) w y x else binary_of (gate_of op) w x y) t)

module _ (old new : Net) (op : Op) (kind : Kind) (left right b : Bus) (fits : SortFits (sort_of op) kind) (wide : left.width ≡ width_of kind) where
  out_width : binary_width (gate_of op) left.width ≡ width_of (result_kind (sort_of op) kind)
  out_width = ap (binary_width (gate_of op)) wide ∙ gate_width op kind fits

  by_gate : ((x y : ℕ) → gated op (width_of kind) x y ≡ operate op kind x y) → IsGated old new op left right b → IsOperated old new op kind left right b
  by_gate same one = record {
    keeps = one.keeps;
    cost = record { nodes = omega (arith, one.cost.nodes); registers = one.cost.registers; memories = one.cost.memories };
    bus = one.bus;
    same_width = one.same_width ∙ out_width;
    carries = λ run r t.
        one.carries run r t ∙ ap (λ (w : ℕ). gated op w (run.at t left.node) (run.at t right.node)) wide ∙ same (run.at t left.node) (run.at t right.node);
  }

  pub plain_operates : is_shift op ≡ false → is_signed kind ≡ false → IsGated old new op left right b → IsOperated old new op kind left right b
  plain_operates still plain = by_gate (λ x y. plain_value op kind x y still plain)

  pub unordered_operates : is_shift op ≡ false → is_order op ≡ false → IsGated old new op left right b → IsOperated old new op kind left right b
  unordered_operates still plain = by_gate (λ x y. unordered_value op kind x y still plain)

-- an order of numbers with a sign
pub turned_operates : (old new : Net) (op : Op) (left right b : Bus) → SortFits (sort_of op) (Signed left.width) → IsBus old left → IsBus old right → left.width ≡ right.width
    → is_order op ≡ true → IsGatedTurned old new op left right b → IsOperated old new op (Signed left.width) left right b
turned_operates old new op left right b fits first second same order one = record {
  keeps = one.keeps;
  cost = one.cost;
  bus = one.bus;
  same_width = one.same_width ∙ gate_width op (Signed left.width) fits;
  carries = λ run r t.
      let before = one.keeps.runs run r in
      one.carries run r t
      ∙ ordered_value op left.width (run.at t left.node) (run.at t right.node) order first.width.some' (bus_fits old left run first before t)
      (subst (λ (w : ℕ). run.at t right.node < 2 ^ w) (sym same) (bus_fits old right run second before t));
}

-- a kind with a sign
pub signed_kind : (kind : Kind) → is_signed kind ≡ true → Signed (width_of kind) ≡ kind
signed_kind (Unsigned w) e = absurd cc
signed_kind (Signed w) e = refl
signed_kind (Text n) e = absurd cc
