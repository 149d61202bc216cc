-- Labels with the numbers of their nodes are names, whatever they say.
use Rattle.std.proofs.Common.{◌≡◌, ℕ, ◌-◌, ◌<◌, ◌≤◌, ◌^◌, Bool, true, false, not, ◌&&◌, List, [], ◌∷◌, ◌++◌, length, length-append, drop, Some, refl, sym, ap, subst, ◌∙◌, arith, append_assoc, leb-true, ltb-true}
use Rattle.std.specs.Prelude.{codes, decimal, slice_get, nat_eq, nat_lt, nat_le, bytes_eq, if◌then◌else◌}
use Rattle.std.specs.List.{list_any, list_all}
use Rattle.std.specs.Str.Parse.{AllDigits}
use Rattle.std.proofs.lemmas.Str.Parse.{tells_digits}
use Rattle.std.proofs.lemmas.Fmt.{decimal_injective, length-decimal-le}
use Rattle.gl_bits.proofs.Bools.{and_left, and_both, and_parts, or_right, not_both, not_true, bytes_other}
use Rattle.gl_bits.proofs.AllLists.{any_front}
use Rattle.gl_net.specs.declared.node.Port.{Port}
use Rattle.gl_net.specs.Net.{Net}
use Rattle.gl_net.specs.Finished.{IsName}
use Rattle.gl_verilog_writer.specs.declared.label.Labels.{Labels}
use Rattle.gl_verilog_writer.specs.Naming.{IsNaming}
use Rattle.gl_verilog_writer.specs.Labelled.{begins_port, family_of, is_name_byte, clean, label_name, name_at, are_shown, ByFamily, ByLabels, name_in, naming}
use Rattle.gl_verilog_writer.proofs.Digits.{numeral-decimal, all-append, digits-name}
use Rattle.gl_verilog_writer.proofs.Family.{not-port, family-naming}

-- ---- what is left of a label

plain-by : (room b : ℕ) (rest : ℕ → List ℕ) (t : Bool) → (nat_lt 0 room && is_name_byte b) ≡ t → ((k : ℕ) → list_all is_name_byte (rest k) ≡ true) → list_all is_name_byte ((if t then b ∷ [] else []) ++ rest (if t then room - 1 else room)) ≡ true
plain-by room b rest true e h = let f = (and_parts (nat_lt 0 room) (is_name_byte b) e).1 in let r = h (room - 1) in and_both (is_name_byte b) (list_all is_name_byte (rest (room - 1))) f r
plain-by room b rest false e h = h room

clean-plain : (room : ℕ) (w : List ℕ) → list_all is_name_byte (clean room w) ≡ true
clean-plain room [] = refl
clean-plain room (b ∷ w) = plain-by room b (λ k. clean k w) (nat_lt 0 room && is_name_byte b) refl (λ k. clean-plain k w)

short-by : (room b : ℕ) (rest : ℕ → List ℕ) (t : Bool) → (nat_lt 0 room && is_name_byte b) ≡ t → ((k : ℕ) → length (rest k) ≤ k) → length ((if t then b ∷ [] else []) ++ rest (if t then room - 1 else room)) ≤ room
short-by room b rest true e h = let f = ltb-true 0 room (and_left (nat_lt 0 room) (is_name_byte b) e) in let r = h (room - 1) in omega (arith, f, r)
short-by room b rest false e h = h room

clean-short : (room : ℕ) (w : List ℕ) → length (clean room w) ≤ room
clean-short room [] = omega arith
clean-short room (b ∷ w) = short-by room b (λ k. clean k w) (nat_lt 0 room && is_name_byte b) refl (λ k. clean-short k w)

-- ---- the number behind keeps two apart

no-mark : (b y : List ℕ) → AllDigits 10 (b ++ 110 ∷ y) → ⊥
no-mark [] y h = let r = (tells_digits.parts 110 y h).0.1 in absurd (omega (arith, r))
no-mark (c ∷ b) y h = no-mark b y (tells_digits.parts c (b ++ 110 ∷ y) h).1

ends-apart : (a b x y : List ℕ) → AllDigits 10 x → AllDigits 10 y → a ++ 110 ∷ x ≡ b ++ 110 ∷ y → x ≡ y
ends-apart [] [] x y h k e = ap (drop 1) e
ends-apart [] (d ∷ b) x y h k e = absurd (no-mark b y (subst (λ (l : List ℕ). AllDigits 10 l) (ap (drop 1) e) h))
ends-apart (c ∷ a) [] x y h k e = absurd (no-mark a x (subst (λ (l : List ℕ). AllDigits 10 l) (sym (ap (drop 1) e)) k))
ends-apart (c ∷ a) (d ∷ b) x y h k e = ends-apart a b x y h k (ap (drop 1) e)

marked : (a d : List ℕ) → (a ++ codes "_n") ++ d ≡ (a ++ codes "_") ++ 110 ∷ d
marked a d = append_assoc a (codes "_n") d ∙ sym (append_assoc a (codes "_") (110 ∷ d))

digits : (n : ℕ) → n < 2 ^ 64 → AllDigits 10 (decimal n)
digits n l = (numeral-decimal n (omega (arith, l))).1

labels-apart : (v w : List ℕ) (m n : ℕ) → m < 2 ^ 64 → n < 2 ^ 64 → label_name v m ≡ label_name w n → m ≡ n
unfolding label_name
labels-apart v w m n lm ln e =
    let a = codes "p" ++ clean 64 v in
    let b = codes "p" ++ clean 64 w in
    let f = sym (marked a (decimal m)) ∙ e ∙ marked b (decimal n) in
    decimal_injective m n lm ln (ends-apart (a ++ codes "_") (b ++ codes "_") (decimal m) (decimal n) (digits m lm) (digits n ln) f)

-- ---- each is a name

any-back : (p : ℕ → Bool) (a b : List ℕ) → list_any p b ≡ true → list_any p (a ++ b) ≡ true
any-back p [] b h = h
any-back p (c ∷ a) b h = or_right (p c) (list_any p (a ++ b)) (any-back p a b h)

-- `posedge` alone of the keywords begins with a p, and it has no _
not-posedge : (w : List ℕ) (n : ℕ) → bytes_eq (clean 64 w ++ codes "_n" ++ decimal n) (codes "osedge") ≡ false
not-posedge w n =
    let f : List ℕ → Bool = list_any (λ b. nat_eq b 95) in
    let has : f (clean 64 w ++ codes "_n" ++ decimal n) ≡ true = any_front (λ b. nat_eq b 95) (clean 64 w ++ codes "_n") (decimal n) (any-back (λ b. nat_eq b 95) (clean 64 w) (codes "_n") refl) in
    bytes_other (clean 64 w ++ codes "_n" ++ decimal n) (codes "osedge") (λ q. not_both (f (codes "osedge")) (sym (ap f q) ∙ has) refl)

label-short : (w : List ℕ) (n : ℕ) → n < 2 ^ 32 → length (label_name w n) ≤ 77
unfolding label_name
label-short w n l =
    let a = clean-short 64 w in
    let d = length-decimal-le 10 n (omega arith) (omega (arith, l)) (omega (arith, l)) in
    let x = length-append (codes "p" ++ clean 64 w ++ codes "_n") (decimal n) in
    let y = length-append (codes "p" ++ clean 64 w) (codes "_n") in
    let q : length (codes "p" ++ clean 64 w ++ codes "_n" ++ decimal n) ≤ 77 = omega (arith, a, d, x, y) in q

label-plain : (w : List ℕ) (n : ℕ) → n < 2 ^ 32 → IsName (label_name w n)
unfolding label_name
label-plain w n l =
    let e = not-posedge w n in
    let s = label-short w n l in
    record {
      first = refl;
      each = all-append is_name_byte (codes "p" ++ clean 64 w ++ codes "_n") (decimal n) (all-append is_name_byte (codes "p" ++ clean 64 w) (codes "_n") (all-append is_name_byte (codes "p") (clean 64 w) refl (clean-plain 64 w)) refl)
          (digits-name (decimal n) (digits n (let q : n < 2 ^ 64 = omega (arith, l) in q)));
      short = (let q : length (label_name w n) ≤ 128 = omega (arith, s) in q);
      free = rw e refl;
    }

label-port : (net : Net) (w : List ℕ) (n place : ℕ) (p : Port) → begins_port net.ports (codes "p") ≡ false → slice_get net.ports place ≡ Some p → label_name w n ≡ p.name → ⊥
unfolding label_name
label-port net w n place p h e f = not-port net.ports (codes "p") (clean 64 w ++ codes "_n" ++ decimal n) place p h e f

label-clock : (w : List ℕ) (n : ℕ) → bytes_eq (label_name w n) (codes "clk") ≡ false
unfolding label_name
label-clock w n = refl

pub labels-naming : (labels : Labels) (net : Net) → length net.nodes ≤ 65536 → begins_port net.ports (codes "p") ≡ false → IsNaming net (name_in (ByLabels labels))
labels-naming labels net few free =
    let below : (n : ℕ) → n < length net.nodes → n < 2 ^ 32 = λ n l. omega (arith, l, few) in
    let wide : (n : ℕ) → n < length net.nodes → n < 2 ^ 64 = λ n l. omega (arith, l, few) in
    record {
      plain = λ n l. label-plain (name_at labels n) n (below n l);
      apart = λ m n lm ln e. labels-apart (name_at labels m) (name_at labels n) m n (wide m lm) (wide n ln) e;
      no_port = λ n place p e. label-port net (name_at labels n) n place p free e;
      no_clock = λ n. label-clock (name_at labels n) n;
      short = λ n l. label-short (name_at labels n) n (below n l);
    }

-- ---- the one that is chosen

-- where labels are shown
pub record IsShown (net : Net) : Type 0 where
  pub free : begins_port net.ports (codes "p") ≡ false
  pub few : length net.nodes ≤ 65536

pub shown-parts : (net : Net) → are_shown net ≡ true → IsShown net
shown-parts net e =
    let p = and_parts (not (begins_port net.ports (codes "p"))) (nat_le (length net.nodes) 65536) e in
    record { free = not_true (begins_port net.ports (codes "p")) p.0; few = leb-true (length net.nodes) 65536 p.1 }

pub naming-is : (labels : Labels) (net : Net) → length net.nodes < 2 ^ 64 → length net.ports < 2 ^ 64 → IsNaming net (naming labels net)
naming-is labels net nodes ports = by (are_shown net) refl
  where
    by : (t : Bool) → are_shown net ≡ t → IsNaming net (name_in (if t then ByLabels labels else ByFamily (family_of net.ports)))
    by true e = let s = shown-parts net e in labels-naming labels net s.few s.free
    by false e = family-naming net nodes ports
