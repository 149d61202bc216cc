-- Netlists of tests: pairs of columns, and what blocks leave as it was.
use Rattle.std.proofs.Common.{◌≡◌, ℕ, suc, ◌+◌, List, [], ◌∷◌, ◌++◌, sym, ap, ◌∙◌, subst, arith, append_assoc}
use Rattle.gl_net.specs.declared.node.Bus.{Bus}
use Rattle.gl_net.specs.Net.{IsBus, Keeps, Net}
use Rattle.gl_wire.specs.Wire.{AreBuses, widths}
use Rattle.gl_wire.proofs.ColumnLemmas.{AreBuses-push, widths-append}
use Rattle.gl_blocks_tests.specs.Benches.{IsReady, widths_of_pairs}

-- a pair more
pub pair_more : (net : Net) (xs ys zs : List Bus) (f w : Bus) (n : ℕ) → ys ≡ xs ++ f ∷ [] → zs ≡ ys ++ w ∷ [] → IsBus net f → f.width ≡ 1 → IsBus net w → w.width ≡ 64
    → AreBuses net xs × (widths xs ≡ widths_of_pairs n) → AreBuses net zs × (widths zs ≡ widths_of_pairs (n + 1))
pair_more net xs ys zs f w n e d i narrow j wide (h, k) =
    let one : AreBuses net ys = subst (AreBuses net) (sym e) (AreBuses-push net xs f h i) in
    let two : AreBuses net zs = subst (AreBuses net) (sym d) (AreBuses-push net ys w one j) in
    let first : widths ys ≡ widths xs ++ 1 ∷ [] = ap widths e ∙ widths-append xs (f ∷ []) ∙ ap (λ (x : ℕ). widths xs ++ x ∷ []) narrow in
    let second : widths zs ≡ widths ys ++ 64 ∷ [] = ap widths d ∙ widths-append ys (w ∷ []) ∙ ap (λ (x : ℕ). widths ys ++ x ∷ []) wide in
    let all : widths zs ≡ widths_of_pairs (suc n) = second ∙ ap (λ (ws : List ℕ). ws ++ 64 ∷ []) first ∙ append_assoc (widths xs) (1 ∷ []) (64 ∷ []) ∙ ap (λ (ws : List ℕ). ws ++ 1 ∷ 64 ∷ []) k in
    let more : suc n ≡ n + 1 = omega arith in
    (two, all ∙ ap widths_of_pairs more)

-- a netlist stays ready where a block is added
pub ready_kept : (old new : Net) → Keeps old new → IsReady old → IsReady new
ready_kept old new k h = record {
  reset = h.reset;
  left = h.left;
  right = h.right;
  ports = k.ports ∙ h.ports;
  bit = k.shapes h.reset _ h.bit;
  driven = λ n. k.undriven n ∙ h.driven n;
}
