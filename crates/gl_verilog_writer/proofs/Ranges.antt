-- The declarations that are written mean those of the module: ranges become widths.
use Rattle.std.proofs.Common.{◌≡◌, ℕ, zero, suc, ◌+◌, ◌-◌, ◌<◌, ◌≤◌, ◌^◌, Bool, true, false, List, [], ◌∷◌, ◌++◌, Some, None, refl, sym, ap, subst, ◌∙◌, arith, append_assoc, append-nil, inl, inr, eq-eqb, eqb-true, ne_eqb, le-leb, pow_mono}
use Rattle.std.specs.Prelude.{slice_get, decimal, option_and_then, nat_eq, nat_le, ◌==◌, not, if◌then◌else◌}
use Rattle.std.proofs.lemmas.Nat.{pow_below, pow_pos}
use Rattle.std.proofs.lemmas.Bool.{cases_eq}
use Rattle.gl_bits.specs.Words.{IsWidth}
use Rattle.gl_net.specs.declared.node.Node.{Node}
use Rattle.gl_net.specs.declared.node.Node.TheVariants.{Input, Constant, Not, Binary, Choose, Join, Cut, Register, Memory, MemoryRead}
use Rattle.gl_net.specs.Net.{Net, IsAddressWidth}
use Rattle.gl_net.specs.WellFormed.{NodeFits}
use Rattle.gl_verilog.specs.Written.{WrittenItem, Wires}
use Rattle.gl_verilog.specs.Module as verilog
use Rattle.gl_verilog.specs.Module.{Declaration}
use Rattle.gl_verilog.specs.Resolve.{decimal_number, declare, address_bits_to, address_bits_of, resolve_items}
use Rattle.gl_verilog_writer.specs.Design.{vector, range_of, last_word, declares, numbered, declaring}
use Rattle.gl_verilog_writer.proofs.Digits.{number_in-decimal}
use Rattle.gl_verilog_writer.proofs.Model.{declaration_for, counted}
use Rattle.gl_verilog_writer.proofs.Fitted.{width-fits}

width-back : (w : ℕ) → IsWidth w → decimal_number (decimal (w - 1)) + 1 ≡ w
width-back w h =
    let a = h.some' in let b = h.most in
    let e : decimal_number (decimal (w - 1)) ≡ w - 1 = number_in-decimal (w - 1) (omega (arith, b)) in
    ap (λ (m : ℕ). m + 1) e ∙ (let q : w - 1 + 1 ≡ w = omega (arith, a) in q)

bits_to : (m b : ℕ) → 1 ≤ b → b ≤ m → address_bits_to m (2 ^ b) ≡ Some b
unfolding address_bits_to
bits_to zero b l h = absurd (omega arith)
bits_to (suc m) b l h = elim (cases_eq b (suc m)) [
  | inl e ↦ (let f : nat_eq (2 ^ b) (2 ^ suc m) ≡ true = eq-eqb (2 ^ b) (2 ^ suc m) (ap (λ (k : ℕ). 2 ^ k) e) in rw f (ap Some (sym e)))
  | inr ne ↦ (let f : nat_eq (2 ^ b) (2 ^ suc m) ≡ false = ne_eqb (2 ^ b) (2 ^ suc m) (λ q. (let r = pow_below b (suc m) (let s : b < suc m = omega (arith, ne) in s) in omega (arith, q, r))) in
      rw f (bits_to m b l (let s : b ≤ m = omega (arith, ne) in s)))
]

pub last-small : (b : ℕ) → IsAddressWidth b → last_word b < 2 ^ 32
unfolding last_word
last-small b h =
    let e : nat_le b 32 ≡ true = le-leb b 32 h.most in
    let m : 2 ^ b ≤ 2 ^ 32 = pow_mono h.most in
    let p : 0 < 2 ^ b = pow_pos b in
    rw e (let q : 2 ^ b - 1 < 2 ^ 32 = omega (arith, m, p) in q)

bits-back : (b : ℕ) → IsAddressWidth b → address_bits_of (decimal_number (decimal (last_word b)) + 1) ≡ Some b
unfolding address_bits_of last_word
bits-back b h =
    let s = last-small b h in
    let e : decimal_number (decimal (last_word b)) ≡ last_word b = number_in-decimal (last_word b) (omega (arith, s)) in
    let l : nat_le b 32 ≡ true = le-leb b 32 h.most in
    let p : 0 < 2 ^ b = pow_pos b in
    let w : last_word b + 1 ≡ 2 ^ b = rw l (let q : 2 ^ b - 1 + 1 ≡ 2 ^ b = omega (arith, p) in q) in
    ap (λ (k : ℕ). address_bits_to 32 k) (ap (λ (k : ℕ). k + 1) e ∙ w) ∙ bits_to 32 b h.some' h.most

-- a declaration with a range, or of one bit without
pub range-declares : (kind : verilog.Kind) (name : List ℕ) (w : ℕ) → IsWidth w → declare kind (range_of w) name ≡ record { name = name; width = w; is_vector = not (w == 1); kind = kind }
range-declares kind name w i = by (w == 1) refl
  where
    by : (b : Bool) → (w == 1) ≡ b → declare kind (if b then None else vector w) name ≡ record { name = name; width = w; is_vector = not b; kind = kind }
    by true e = ap (λ (k : ℕ). record { name = name; width = k; is_vector = false; kind = kind }) (sym (eqb-true w 1 e))
    by false e = ap (λ (k : ℕ). record { name = name; width = k; is_vector = true; kind = kind }) (width-back w i)

-- the declaration of one node
declare-wire : (ds : List Declaration) (names : ℕ → List ℕ) (n : ℕ) (w : ℕ) (is : List WrittenItem) → IsWidth w → resolve_items ds (Wires (range_of w) (names n ∷ []) ∷ is) ≡ resolve_items (ds ++ (record { name = names n; width = w; is_vector = not (w == 1); kind = verilog.Wire }) ∷ []) is
declare-wire ds names n w is h = ap (λ (d : Declaration). resolve_items (ds ++ d ∷ []) is) (range-declares verilog.Wire (names n) w h)

declare-node : (ds : List Declaration) (net : Net) (names : ℕ → List ℕ) (n : ℕ) (x : Node) (is : List WrittenItem) → NodeFits net n x → resolve_items ds (declares names n x ∷ is) ≡ resolve_items (ds ++ declaration_for names n x ∷ []) is
declare-node ds net names n (Input place w) is h = declare-wire ds names n _ is (width-fits net n (Input place w) h)
declare-node ds net names n (Constant word) is h = declare-wire ds names n _ is (width-fits net n (Constant word) h)
declare-node ds net names n (Not x) is h = declare-wire ds names n _ is (width-fits net n (Not x) h)
declare-node ds net names n (Binary o x y) is h = declare-wire ds names n _ is (width-fits net n (Binary o x y) h)
declare-node ds net names n (Choose test x y) is h = declare-wire ds names n _ is (width-fits net n (Choose test x y) h)
declare-node ds net names n (Join x y) is h = declare-wire ds names n _ is (width-fits net n (Join x y) h)
declare-node ds net names n (Cut x high low) is h = declare-wire ds names n _ is (width-fits net n (Cut x high low) h)
declare-node ds net names n (MemoryRead store x) is h = declare-wire ds names n _ is (width-fits net n (MemoryRead store x) h)
declare-node ds net names n (Register w reset next) is h = ap (λ (d : Declaration). resolve_items (ds ++ d ∷ []) is) (range-declares verilog.Register (names n) w h.0)
declare-node ds net names n (Memory bits w drive) is h =
    ap (option_and_then (λ (j : ℕ). resolve_items (ds ++ declare (verilog.Memory j) (range_of w) (names n) ∷ []) is)) (bits-back bits h.0)
    ∙ ap (λ (d : Declaration). resolve_items (ds ++ d ∷ []) is) (range-declares (verilog.Memory bits) (names n) w h.1)

-- the declarations of all nodes
pub declare-all : (net : Net) (names : ℕ → List ℕ) (n : ℕ) (xs : List Node) (ds : List Declaration) (is : List WrittenItem) → ((k : ℕ) (x : Node) → slice_get xs k ≡ Some x → NodeFits net (n + k) x) → resolve_items ds (numbered (declaring names) n xs ++ is) ≡ resolve_items (ds ++ counted (declaration_for names) n xs) is
declare-all net names n [] ds is h = ap (λ (d : List Declaration). resolve_items d is) (sym (append-nil ds))
declare-all net names n (x ∷ xs) ds is h =
    let f : NodeFits net n x = subst (λ (m : ℕ). NodeFits net m x) (let q : n + 0 ≡ n = omega arith in q) (h 0 x refl) in
    declare-node ds net names n x (numbered (declaring names) (n + 1) xs ++ is) f
    ∙ declare-all net names (n + 1) xs (ds ++ declaration_for names n x ∷ []) is (λ k y e. subst (λ (m : ℕ). NodeFits net m y) (let q : n + suc k ≡ n + 1 + k = omega arith in q) (h (suc k) y e))
    ∙ ap (λ (d : List Declaration). resolve_items d is) (append_assoc ds (declaration_for names n x ∷ []) (counted (declaration_for names) (n + 1) xs))
