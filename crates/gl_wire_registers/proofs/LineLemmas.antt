-- Lines of many copies: one more, and one of all.
use Rattle.std.proofs.Common.{◌≡◌, ℕ, zero, suc, ◌+◌, ◌<◌, ◌≤◌, List, [], ◌∷◌, ◌++◌, length, Some, Bool, false, refl, sym, ap, ◌∙◌, subst, arith, inl, inr, length-append}
use Rattle.std.specs.Prelude.{slice_get, ◌&&◌, ◌||◌, nat_eq}
use Rattle.std.proofs.lemmas.Bool.{cases_lt, eq-eqb, ne_eqb}
use Rattle.std.proofs.Math.Bool.{and-false, and-true}
use Rattle.gl_bits.proofs.Bools.{or_join, or_none}
use Rattle.gl_bits.proofs.AllLists.{get_front}
use Rattle.gl_net.specs.declared.node.Bus.{Bus}
use Rattle.gl_net.specs.declared.node.Bit.{Bit}
use Rattle.gl_net.specs.Net.{Net, Run, IsRun, IsBit, Keeps}
use Rattle.gl_net.proofs.Determined.{keeps_then}
use Rattle.gl_net.proofs.Growth.{same_keeps}
use Rattle.gl_net.proofs.Lists.{get_push_cases}
use Rattle.gl_wire.specs.Gates.{IsGate}
use Rattle.gl_wire.specs.Wire.{line_at}
use Rattle.gl_wire.proofs.ColumnLemmas.{bit_kept}
use Rattle.gl_wire_registers.specs.Numbers.{IsNever}
use Rattle.gl_wire_registers.specs.Lines.{line_of, any_to, AreBits, AddsLine, AddsLines, pairs, with_line, gated, pointed, pointed_at, any_line, gates_of}
use Rattle.gl_wire_registers.specs.declared.lines.LineOp.{LineOp}
use Rattle.gl_wire_registers.proofs.HalfLemmas.{get_behind}

pub bits_kept : (old new : Net) (bs : List Bit) → Keeps old new → AreBits old bs → AreBits new bs
bits_kept old new bs g h = record { each = λ k b e. bit_kept old new b g (h.each k b e) }

-- no line is 1 in the reset cycle
pub line_of-first : (run : Run) (bs : List Bit) (k : ℕ) → line_of run bs k 0 ≡ false
unfolding line_of line_at
line_of-first run [] k = refl
line_of-first run (b ∷ bs) zero = refl
line_of-first run (b ∷ bs) (suc k) = line_of-first run bs k

pub line_of-get : (run : Run) (bs : List Bit) (k : ℕ) (b : Bit) (t : ℕ) → slice_get bs k ≡ Some b → line_of run bs k t ≡ line_at run b t
unfolding line_of
line_of-get run [] k b t h = absurd (cc)
line_of-get run (x ∷ bs) zero b t h = let e : x ≡ b = cc in ap (λ (y : Bit). line_at run y t) e
line_of-get run (x ∷ bs) (suc k) b t h = line_of-get run bs k b t h

pub line_of-old : (run : Run) (bs : List Bit) (b : Bit) (k t : ℕ) → k < length bs → line_of run (bs ++ b ∷ []) k t ≡ line_of run bs k t
unfolding line_of
line_of-old run [] b k t l = absurd (omega (arith, l))
line_of-old run (x ∷ bs) b zero t l = refl
line_of-old run (x ∷ bs) b (suc k) t l = line_of-old run bs b k t (omega (arith, l))

pub line_of-new : (run : Run) (bs : List Bit) (b : Bit) (t : ℕ) → line_of run (bs ++ b ∷ []) (length bs) t ≡ line_at run b t
unfolding line_of
line_of-new run [] b t = refl
line_of-new run (x ∷ bs) b t = line_of-new run bs b t

pub lines_more : (old mid new : Net) (n price : ℕ) (bs : List Bit) (b : Bit) (f : Run → ℕ → ℕ → Bool) (g : Run → ℕ → Bool) → AddsLines old mid n price bs f → AddsLine mid new price b g → ((run : Run) → IsRun new run → (t : ℕ) → g run t ≡ f run n t)
    → AddsLines old new (n + 1) price (bs ++ b ∷ []) f
lines_more old mid new n price bs b f g h one same = record {
  keeps = keeps_then old mid new h.keeps one.keeps;
  count = length-append bs (b ∷ []) ∙ ap (λ x. x + 1) h.count;
  bits = record {
    each = λ k x e. elim (get_push_cases bs b k x e) [
      | inl q ↦ bit_kept mid new x one.keeps (h.bits.each k x q)
      | inr q ↦ subst (IsBit new) q.1 one.bit
    ];
  };
  cost = record { nodes = omega (arith, one.cost.nodes, h.cost.nodes); registers = omega (arith, one.cost.registers, h.cost.registers); memories = omega (arith, one.cost.memories, h.cost.memories) };
  line = λ run r k t l. elim (cases_lt k n) [
    | inl m ↦ line_of-old run bs b k t (omega (arith, m, h.count)) ∙ h.line run (one.keeps.runs run r) k t m
    | inr m ↦ (let e : k ≡ n = omega (arith, l, m) in
        ap (λ x. line_of run (bs ++ b ∷ []) x t) (e ∙ sym h.count) ∙ line_of-new run bs b t ∙ one.line run r t ∙ same run r t ∙ sym (ap (λ x. f run x t) e))
  ];
}

-- ---- one of all

any_none : (n q : ℕ) (x : Bool) (m f : ℕ → Bool) → n ≤ q → ((k : ℕ) → k < n → f k ≡ ((x && nat_eq q k) && m k)) → any_to n f ≡ false
any_none zero q x m f l h = refl
any_none (suc n) q x m f l h =
    let a = any_none n q x m f (omega (arith, l)) (λ k z. h k (omega (arith, z))) in
    let b = h n (omega arith) in
    let e : nat_eq q n ≡ false = ne_eqb q n (λ z. omega (arith, z, l)) in
    rw (a, b, e, and-false) refl

-- where at most the one at the pointer can be 1
pub any_at : (n q : ℕ) (x : Bool) (m f : ℕ → Bool) → q < n → ((k : ℕ) → k < n → f k ≡ ((x && nat_eq q k) && m k)) → any_to n f ≡ (x && m q)
any_at zero q x m f l h = absurd (omega (arith, l))
any_at (suc n) q x m f l h = elim (cases_lt q n) [
  | inl z ↦
      (let a = any_at n q x m f z (λ k w. h k (omega (arith, w))) in
      let b = h n (omega arith) in
      let e : nat_eq q n ≡ false = ne_eqb q n (λ w. omega (arith, w, z)) in
      rw (a, b, e, and-false) (or_none (x && m q)))
  | inr z ↦
      (let same : q ≡ n = omega (arith, z, l) in
      let a = any_none n q x m f z (λ k w. h k (omega (arith, w))) in
      let b = h n (omega arith) in
      let e = eq-eqb q n same in
      rw (a, b, e, same, and-true) refl)
]

pub pairs_here : (op : LineOp) (run : Run) (xs ys : List Bit) (x y : Bit) (i t : ℕ) → slice_get xs i ≡ Some x → slice_get ys i ≡ Some y → gated op x y run t ≡ pairs op xs ys run i t
unfolding gated pairs
pairs_here op run xs ys x y i t h k = let a = line_of-get run xs i x t h in let b = line_of-get run ys i y t k in rw (a, b) refl

pub with_here : (op : LineOp) (run : Run) (xs : List Bit) (x y : Bit) (i t : ℕ) → slice_get xs i ≡ Some x → gated op x y run t ≡ with_line op xs y run i t
unfolding gated with_line
with_here op run xs x y i t h = let a = line_of-get run xs i x t h in rw a refl

pub pointed_here : (run : Run) (x : Bit) (p : Bus) (k t : ℕ) → pointed_at x p k run t ≡ pointed x p run k t
unfolding pointed_at pointed
pointed_here run x p k t = refl

-- ---- a tree of gates

pub any_same : (n : ℕ) (f g : ℕ → Bool) → ((k : ℕ) → k < n → f k ≡ g k) → any_to n f ≡ any_to n g
any_same zero f g h = refl
any_same (suc n) f g h = let a = any_same n f g (λ k l. h k (omega (arith, l))) in let b = h n (omega arith) in rw (a, b) refl

-- one of the first m, or of the n behind them
pub any_split : (m n : ℕ) (f : ℕ → Bool) → any_to (m + n) f ≡ (any_to m f || any_to n (λ k. f (m + k)))
any_split m zero f = let e : m + 0 ≡ m = omega arith in ap (λ i. any_to i f) e ∙ sym (or_none (any_to m f))
any_split m (suc n) f =
    let e : m + suc n ≡ suc (m + n) = omega arith in
    ap (λ i. any_to i f) e ∙ ap (λ b. b || f (m + n)) (any_split m n f) ∙ or_join (any_to m f) (any_to n (λ k. f (m + k))) (f (m + n))

pub line_of-front : (run : Run) (bs cs : List Bit) (k t : ℕ) → k < length bs → line_of run (bs ++ cs) k t ≡ line_of run bs k t
unfolding line_of
line_of-front run [] cs k t l = absurd (omega (arith, l))
line_of-front run (b ∷ bs) cs zero t l = refl
line_of-front run (b ∷ bs) cs (suc k) t l = line_of-front run bs cs k t (omega (arith, l))

pub line_of-behind : (run : Run) (bs cs : List Bit) (k t : ℕ) → line_of run (bs ++ cs) (length bs + k) t ≡ line_of run cs k t
unfolding line_of
line_of-behind run [] cs k t = let e : 0 + k ≡ k = omega arith in ap (λ i. line_of run cs i t) e
line_of-behind run (b ∷ bs) cs k t = let e : suc (length bs) + k ≡ suc (length bs + k) = omega arith in ap (λ i. line_of run (b ∷ bs ++ cs) i t) e ∙ line_of-behind run bs cs k t

any_halves : (run : Run) (bs cs : List Bit) (t : ℕ) → any_line (length (bs ++ cs)) (bs ++ cs) run t ≡ (any_line (length bs) bs run t || any_line (length cs) cs run t)
unfolding any_line
any_halves run bs cs t =
    ap (λ n. any_to n (λ k. line_of run (bs ++ cs) k t)) (length-append bs cs)
    ∙ any_split (length bs) (length cs) (λ k. line_of run (bs ++ cs) k t)
    ∙ ap (λ b. b || any_to (length cs) (λ k. line_of run (bs ++ cs) (length bs + k) t)) (any_same (length bs) (λ k. line_of run (bs ++ cs) k t) (λ k. line_of run bs k t) (λ k l. line_of-front run bs cs k t l))
    ∙ ap (λ b. any_to (length bs) (λ k. line_of run bs k t) || b) (any_same (length cs) (λ k. line_of run (bs ++ cs) (length bs + k) t) (λ k. line_of run cs k t) (λ k l. line_of-behind run bs cs k t))

-- a half of the lines of a netlist are lines of it
pub bits_part : (net : Net) (bs cs : List Bit) → AreBits net (bs ++ cs) → AreBits net bs × AreBits net cs
bits_part net bs cs h = (record { each = λ k b e. h.each k b (get_front bs cs k b e) }, record { each = λ k b e. h.each (length bs + k) b (get_behind bs cs k b e) })

pub gates_some : (n : ℕ) → 1 ≤ n → gates_of n + 1 ≡ n
gates_some zero l = absurd (omega (arith, l))
gates_some (suc n) l = omega arith

-- two trees are one
pub any_both : (n0 n1 n2 n3 : Net) (bs cs : List Bit) (left right one : Bit) → 1 ≤ length bs → 1 ≤ length cs → AddsLine n0 n1 (gates_of (length bs)) left (any_line (length bs) bs)
    → AddsLine n1 n2 (gates_of (length cs)) right (any_line (length cs) cs) → IsGate n2 n3 (λ p q. p || q) left right one → AddsLine n0 n3 (gates_of (length (bs ++ cs))) one (any_line (length (bs ++ cs)) (bs ++ cs))
any_both n0 n1 n2 n3 bs cs left right one some_left some_right a b g =
    let long = length-append bs cs in
    let all = gates_some (length (bs ++ cs)) (omega (arith, long, some_left)) in
    record {
      keeps = keeps_then n0 n1 n3 a.keeps (keeps_then n1 n2 n3 b.keeps g.keeps);
      bit = g.bit;
      cost = record {
        nodes = omega (arith, a.cost.nodes, b.cost.nodes, g.cost.nodes, gates_some (length bs) some_left, gates_some (length cs) some_right, all, long);
        registers = omega (arith, a.cost.registers, b.cost.registers, g.cost.registers);
        memories = omega (arith, a.cost.memories, b.cost.memories, g.cost.memories);
      };
      line = λ run r t.
          let at_b = g.keeps.runs run r in
          g.line run r t ∙ ap (λ p. p || line_at run right t) (a.line run (b.keeps.runs run at_b) t) ∙ ap (λ p. any_line (length bs) bs run t || p) (b.line run at_b t)
          ∙ sym (any_halves run bs cs t);
    }

pub any_none_of : (old new : Net) (b : Bit) (xs : List Bit) → IsNever old new b → length xs ≡ 0 → AddsLine old new (gates_of (length xs)) b (any_line (length xs) xs)
unfolding any_line
any_none_of old new b [] h e = record { keeps = h.keeps; bit = h.bit; cost = h.cost; line = h.line }
any_none_of old new b (x ∷ xs) h e = absurd (omega (arith, e))

pub any_only : (net : Net) (b : Bit) (xs : List Bit) → AreBits net xs → slice_get xs 0 ≡ Some b → length xs < 2 → AddsLine net net (gates_of (length xs)) b (any_line (length xs) xs)
unfolding any_line line_of
any_only net b [] h e l = absurd (cc)
any_only net b (x ∷ []) h e l =
    let same : x ≡ b = cc in
    record {
      keeps = same_keeps net;
      bit = h.each 0 b e;
      cost = record { nodes = omega arith; registers = omega arith; memories = omega arith };
      line = λ run r t. ap (λ (y : Bit). line_at run y t) (sym same);
    }
any_only net b (x ∷ y ∷ xs) h e l = absurd (omega (arith, l))
