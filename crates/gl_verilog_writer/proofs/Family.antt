-- The family of a netlist's nets is free: each port rules out one family at most.
use Rattle.std.proofs.Common.{◌≡◌, ℕ, zero, suc, ◌+◌, ◌<◌, ◌≤◌, ◌^◌, Bool, true, false, ◌||◌, ◌==◌, List, [], ◌∷◌, ◌++◌, length, take, drop, get_or, Some, refl, sym, ap, ◌∙◌, arith, inl, inr, ◌⊎◌, append_assoc, take-append-drop, length-append, eq-eqb}
use Rattle.std.specs.Prelude.{codes, decimal, slice_get, bytes_eq, if◌then◌else◌}
use Rattle.std.specs.List.{starts_with}
use Rattle.std.specs.Str.Parse.{AllDigits}
use Rattle.std.proofs.lemmas.Str.Parse.{tells_digits}
use Rattle.std.proofs.lemmas.Fmt.{decimal_injective, length-decimal-le}
use Rattle.std.proofs.lemmas.Bool.{cases_eq}
use Rattle.gl_net.specs.declared.node.Port.{Port}
use Rattle.gl_net.specs.Net.{Net}
use Rattle.gl_verilog_writer.specs.Pieces.{family_text, net_name}
use Rattle.gl_verilog_writer.specs.Naming.{IsNaming}
use Rattle.gl_verilog_writer.specs.Labelled.{begins_port, family_from, family_of, ByFamily, name_in}
use Rattle.gl_verilog_writer.proofs.Digits.{numeral-decimal, family-name}
use Rattle.gl_bits.proofs.Bools.{bytes_same, true_or_false, not_both, neither_left, neither_right}
use Rattle.gl_bits.proofs.Options.{some_same, not_some}
use Rattle.std.proofs.lemmas.List.{append_cancel_left}

-- ---- a name begins so in one way at most

digits-apart : (a b x y : List ℕ) → AllDigits 10 a → AllDigits 10 b → a ++ 95 ∷ x ≡ b ++ 95 ∷ y → a ≡ b
digits-apart [] [] x y h k e = refl
digits-apart [] (d ∷ b) x y h k e = let f : 95 ≡ d = ap (λ (l : List ℕ). get_or l 0 0) e in let r = (tells_digits.parts d b k).0.1 in absurd (omega (arith, f, r))
digits-apart (c ∷ a) [] x y h k e = let f : c ≡ 95 = ap (λ (l : List ℕ). get_or l 0 0) e in let r = (tells_digits.parts c a h).0.1 in absurd (omega (arith, f, r))
digits-apart (c ∷ a) (d ∷ b) x y h k e =
    let f : c ≡ d = ap (λ (l : List ℕ). get_or l 0 0) e in
    let g : a ≡ b = digits-apart a b x y (tells_digits.parts c a h).1 (tells_digits.parts d b k).1 (ap (drop 1) e) in
    ap (λ (n : ℕ). n ∷ a) f ∙ ap (λ (l : List ℕ). d ∷ l) g

families-apart : (i j : ℕ) (x y : List ℕ) → i < 2 ^ 64 → j < 2 ^ 64 → family_text i ++ x ≡ family_text j ++ y → i ≡ j
unfolding family_text
families-apart i j x y li lj e =
    let f : (decimal i ++ codes "_") ++ x ≡ (decimal j ++ codes "_") ++ y = ap (drop 1) e in
    let g : decimal i ++ 95 ∷ x ≡ decimal j ++ 95 ∷ y = sym (append_assoc (decimal i) (codes "_") x) ∙ f ∙ append_assoc (decimal j) (codes "_") y in
    decimal_injective i j li lj (digits-apart (decimal i) (decimal j) x y (numeral-decimal i (omega (arith, li))).1 (numeral-decimal j (omega (arith, lj))).1 g)

begins-is : (name front : List ℕ) → starts_with ◌==◌ name front ≡ true → front ++ drop (length front) name ≡ name
begins-is name front e = ap (λ (l : List ℕ). l ++ drop (length front) name) (bytes_same front (take (length front) name) e) ∙ take-append-drop (length front) name

one-family : (name : List ℕ) (i j : ℕ) → i < 2 ^ 64 → j < 2 ^ 64 → starts_with ◌==◌ name (family_text i) ≡ true → starts_with ◌==◌ name (family_text j) ≡ true → i ≡ j
one-family name i j li lj e f = families-apart i j _ _ li lj (begins-is name (family_text i) e ∙ sym (begins-is name (family_text j) f))

-- ---- how many numbers below m pass a test

abbrev tally : (ℕ → Bool) → ℕ → ℕ
tally f zero = 0
tally f (suc m) = tally f m + (if f m then 1 else 0)

tally-all : (f : ℕ → Bool) (m : ℕ) → ((k : ℕ) → k < m → f k ≡ true) → tally f m ≡ m
tally-all f zero h = refl
tally-all f (suc m) h =
    let a = tally-all f m (λ k l. h k (let q : k < suc m = omega (arith, l) in q)) in
    let b : f m ≡ true = h m (omega arith) in
    rw (a, b) (let q : m + 1 ≡ suc m = omega arith in q)

tally-none : (f : ℕ → Bool) (m : ℕ) → ((k : ℕ) → k < m → f k ≡ false) → tally f m ≡ 0
tally-none f zero h = refl
tally-none f (suc m) h =
    let a = tally-none f m (λ k l. h k (let q : k < suc m = omega (arith, l) in q)) in
    let b : f m ≡ false = h m (omega arith) in
    rw (a, b) refl

or-sum : (a b : Bool) → (if a || b then 1 else 0) ≤ (if a then 1 else 0) + (if b then 1 else 0)
or-sum true true = omega arith
or-sum true false = omega arith
or-sum false true = omega arith
or-sum false false = omega arith

tally-or : (a b : ℕ → Bool) (m : ℕ) → tally (λ k. a k || b k) m ≤ tally a m + tally b m
tally-or a b zero = omega arith
tally-or a b (suc m) = let h = tally-or a b m in let g = or-sum (a m) (b m) in omega (arith, h, g)

tally-one : (f : ℕ → Bool) (m : ℕ) → ((i j : ℕ) → i < m → j < m → f i ≡ true → f j ≡ true → i ≡ j) → tally f m ≤ 1
tally-one f zero h = omega arith
tally-one f (suc m) h = elim (true_or_false (f m)) [
  | inl t ↦ (let a = tally-none f m (λ k l. elim (true_or_false (f k)) [
    | inl s ↦ (let q = h k m (let z : k < suc m = omega (arith, l) in z) (omega arith) s t in absurd (omega (arith, q, l)))
    | inr s ↦ s
  ]) in rw (a, t) (let q : 0 + 1 ≤ 1 = omega arith in q))
  | inr t ↦ (let a = tally-one f m (λ i j li lj. h i j (let z : i < suc m = omega (arith, li) in z) (let z : j < suc m = omega (arith, lj) in z)) in rw t (let q : tally f m + 0 ≤ 1 = omega (arith, a) in q))
]

tally-ports : (ports : List Port) (m : ℕ) → m ≤ 2 ^ 64 → tally (λ k. begins_port ports (family_text k)) m ≤ length ports
tally-ports [] m l = let a = tally-none (λ k. false) m (λ k h. refl) in omega (arith, a)
tally-ports (q ∷ ports) m l =
    let f : ℕ → Bool = λ k. starts_with ◌==◌ q.name (family_text k) in
    let g : ℕ → Bool = λ k. begins_port ports (family_text k) in
    let a = tally-or f g m in
    let b = tally-one f m (λ i j li lj. one-family q.name i j (let z : i < 2 ^ 64 = omega (arith, l, li) in z) (let z : j < 2 ^ 64 = omega (arith, l, lj) in z)) in
    let d = tally-ports ports m l in
    let z : tally (λ k. f k || g k) m ≤ suc (length ports) = omega (arith, a, b, d) in z

-- ---- the family that is found

record AllTaken (ports : List Port) (at n : ℕ) : Type 0 where
  is : family_from ports n at ≡ at + n
  taken : (k : ℕ) → at ≤ k → k < at + n → begins_port ports (family_text k) ≡ true

outcome : (ports : List Port) (n at : ℕ) → (begins_port ports (family_text (family_from ports n at)) ≡ false) ⊎ AllTaken ports at n
outcome ports zero at = inr (record { is = (let q : at ≡ at + 0 = omega arith in q); taken = λ k l h. absurd (omega (arith, l, h)) })
outcome ports (suc n) at = elim (true_or_false (begins_port ports (family_text at))) [
  | inr f ↦ inl (rw f f)
  | inl t ↦ (let e : family_from ports (suc n) at ≡ family_from ports n (at + 1) = rw t refl in
      elim (outcome ports n (at + 1)) [
        | inl f ↦ inl (ap (λ (k : ℕ). begins_port ports (family_text k)) e ∙ f)
        | inr a ↦ inr (record {
          is = e ∙ a.is ∙ (let q : at + 1 + n ≡ at + suc n = omega arith in q);
          taken = λ k l h. elim (cases_eq k at) [
            | inl q ↦ ap (λ (m : ℕ). begins_port ports (family_text m)) q ∙ t
            | inr ne ↦ a.taken k (let z : at + 1 ≤ k = omega (arith, l, ne) in z) (let z : k < at + 1 + n = omega (arith, h) in z)
          ];
        })
      ])
]

family-most : (ports : List Port) (n at : ℕ) → family_from ports n at ≤ at + n
family-most ports zero at = omega arith
family-most ports (suc n) at = elim (true_or_false (begins_port ports (family_text at))) [
  | inr f ↦ rw f (let q : at ≤ at + suc n = omega arith in q)
  | inl t ↦ (let h = family-most ports n (at + 1) in rw t (let q : family_from ports n (at + 1) ≤ at + suc n = omega (arith, h) in q))
]

pub family-small : (ports : List Port) (most : ℕ) → length ports < most → family_of ports < most
unfolding family_of
family-small ports most l = let h = family-most ports (length ports) 0 in let q : family_from ports (length ports) 0 < most = omega (arith, h, l) in q

pub family-free : (ports : List Port) → length ports < 2 ^ 64 → begins_port ports (family_text (family_of ports)) ≡ false
unfolding family_of
family-free ports l = elim (outcome ports (length ports) 0) [
  | inl f ↦ f
  | inr a ↦ (let n = length ports in
      let e : family_from ports n 0 ≡ n = a.is ∙ (let q : 0 + n ≡ n = omega arith in q) in
      elim (true_or_false (begins_port ports (family_text n))) [
        | inr f ↦ ap (λ (k : ℕ). begins_port ports (family_text k)) e ∙ f
        | inl t ↦ (let all = tally-all (λ k. begins_port ports (family_text k)) n (λ k h. a.taken k (omega arith) (let z : k < 0 + n = omega (arith, h) in z)) in
            let more : tally (λ k. begins_port ports (family_text k)) (suc n) ≡ n + 1 = rw (all, t) refl in
            let most = tally-ports ports (suc n) (let z : suc n ≤ 2 ^ 64 = omega (arith, l) in z) in
            absurd (omega (arith, more, most)))
      ])
]

-- ---- names of the family that is found

begins-own : (a b : List ℕ) → starts_with ◌==◌ (a ++ b) a ≡ true
begins-own [] b = refl
begins-own (x ∷ a) b = let e : (x == x) ≡ true = eq-eqb x x refl in rw (e, begins-own a b) refl

pub port-not : (ports : List Port) (front : List ℕ) (place : ℕ) (p : Port) → begins_port ports front ≡ false → slice_get ports place ≡ Some p → starts_with ◌==◌ p.name front ≡ false
port-not [] front place p h e = absurd (not_some p e)
port-not (q ∷ ports) front zero p h e = ap (λ (r : Port). starts_with ◌==◌ r.name front) (sym (some_same q p e)) ∙ neither_left (starts_with ◌==◌ q.name front) (begins_port ports front) h
port-not (q ∷ ports) front (suc place) p h e = port-not ports front place p (neither_right (starts_with ◌==◌ q.name front) (begins_port ports front) h) e

-- no port's name begins as the net's does
pub not-port : (ports : List Port) (front behind : List ℕ) (place : ℕ) (p : Port) → begins_port ports front ≡ false → slice_get ports place ≡ Some p → front ++ behind ≡ p.name → ⊥
not-port ports front behind place p h e f = not_both (starts_with ◌==◌ p.name front) (ap (λ (w : List ℕ). starts_with ◌==◌ w front) (sym f) ∙ begins-own front behind) (port-not ports front place p h e)

nets-same : (family m n : ℕ) → m < 2 ^ 64 → n < 2 ^ 64 → net_name family m ≡ net_name family n → m ≡ n
unfolding net_name
nets-same family m n lm ln e = decimal_injective m n lm ln (append_cancel_left (family_text family) (decimal m) (decimal n) e)

no-clock : (family n : ℕ) → bytes_eq (net_name family n) (codes "clk") ≡ false
unfolding net_name family_text
no-clock family n = refl

no-port : (ports : List Port) (family n place : ℕ) (p : Port) → begins_port ports (family_text family) ≡ false → slice_get ports place ≡ Some p → net_name family n ≡ p.name → ⊥
unfolding net_name
no-port ports family n place p h e f = not-port ports (family_text family) (decimal n) place p h e f

names-short : (family n : ℕ) → family < 2 ^ 64 → n < 2 ^ 64 → length (net_name family n) ≤ 77
unfolding net_name family_text
names-short family n f h =
    let la = length-decimal-le 20 family (omega arith) (omega arith) f in
    let lb = length-decimal-le 20 n (omega arith) (omega arith) h in
    let q : length (codes "n" ++ decimal family ++ codes "_" ++ decimal n) ≤ 77 = omega (arith, la, lb, length-append (decimal family ++ codes "_") (decimal n), length-append (decimal family) (codes "_")) in q

pub family-naming : (net : Net) → length net.nodes < 2 ^ 64 → length net.ports < 2 ^ 64 → IsNaming net (name_in (ByFamily (family_of net.ports)))
family-naming net nodes ports =
    let f = family-small net.ports (2 ^ 64) ports in
    let free = family-free net.ports ports in
    let below : (n : ℕ) → n < length net.nodes → n < 2 ^ 64 = λ n l. omega (arith, l, nodes) in
    record {
      plain = λ n l. family-name (family_of net.ports) n f (below n l);
      apart = λ m n lm ln e. nets-same (family_of net.ports) m n (below m lm) (below n ln) e;
      no_port = λ n place p e. no-port net.ports (family_of net.ports) n place p free e;
      no_clock = λ n. no-clock (family_of net.ports) n;
      short = λ n l. names-short (family_of net.ports) n f (below n l);
    }
