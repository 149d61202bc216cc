-- An expression with a width keeps its widths, and has that one.
use Rattle.std.proofs.Common.{◌≡◌, ℕ, ◌+◌, ◌-◌, ◌^◌, ◌<◌, ◌≤◌, Bool, true, false, not, ◌&&◌, List, Some, refl, sym, ap, subst, ◌∙◌, arith}
use Rattle.std.specs.Prelude.{slice_get, option_and_then, nat_eq, nat_le, nat_lt, IsTrue}
use Rattle.std.proofs.lemmas.Bool.{eqb-true, leb-true, ltb-true}
use Rattle.gl_bits.proofs.Bools.{and_left, and_right, not_true}
use Rattle.gl_bits.proofs.Options.{then_some, some_and}
use Rattle.gl_bits.specs.Words.{IsWidth}
use Rattle.gl_verilog.specs.Module.{Kind, Input, OutputWire, OutputRegister, Wire, Register, Memory, Declaration, Expr, Net, Literal, Invert, Binary, Choose, Join, Select, Read, Put, Write, Assignment}
use Rattle.gl_verilog.specs.Run.{IsRegister}
use Rattle.gl_verilog.specs.Widths.{IsNet, IsDriven, IsMemory, IsReadable, HasSize, is_clock, width_at, width_of, width_after, KeepsWidths, KeepsWidth, KeepsWidthsIn}
use Rattle.gl_verilog_check.specs.Kept.{is_memory, is_width, only, net_width, part_width, has_address, word_width, invert_width, choose_width, join_width, both_width, kept, is_driven, is_register, takes, assigned_width, put_width, takes_word, write_width, memory_fits, has_size}

-- ---- options and tests, inverted

only_test : (b : Bool) (w y : ℕ) → only b w ≡ Some y → b ≡ true
only_test true w y e = refl
only_test false w y e = absurd cc

only_value : (b : Bool) (w y : ℕ) → only b w ≡ Some y → w ≡ y
only_value true w y e = cc
only_value false w y e = absurd cc

-- ---- kinds

is_net : (k : Kind) → is_memory k ≡ false → IsNet k
is_net Input h = tt
is_net OutputWire h = tt
is_net OutputRegister h = tt
is_net Wire h = tt
is_net Register h = tt
is_net (Memory bits) h = absurd cc

is_memory_of : (k : Kind) (a : ℕ) → has_address k a ≡ true → IsMemory k a
is_memory_of Input a h = absurd cc
is_memory_of OutputWire a h = absurd cc
is_memory_of OutputRegister a h = absurd cc
is_memory_of Wire a h = absurd cc
is_memory_of Register a h = absurd cc
is_memory_of (Memory bits) a h = eqb-true bits a h

pub driven_kind : (k : Kind) → is_driven k ≡ true → IsDriven k
driven_kind Input h = absurd cc
driven_kind OutputWire h = tt
driven_kind OutputRegister h = absurd cc
driven_kind Wire h = tt
driven_kind Register h = absurd cc
driven_kind (Memory bits) h = absurd cc

pub kind_driven : (k : Kind) → IsDriven k → is_driven k ≡ true
kind_driven Input h = absurd h
kind_driven OutputWire h = refl
kind_driven OutputRegister h = absurd h
kind_driven Wire h = refl
kind_driven Register h = absurd h
kind_driven (Memory bits) h = absurd h

register_kind : (k : Kind) → is_register k ≡ true → IsRegister k
register_kind Input h = absurd cc
register_kind OutputWire h = absurd cc
register_kind OutputRegister h = tt
register_kind Wire h = absurd cc
register_kind Register h = tt
register_kind (Memory bits) h = absurd cc

memory_bits : (k : Kind) (bits : ℕ) → memory_fits k ≡ true → IsMemory k bits → (1 ≤ bits) × (bits ≤ 32)
memory_bits Input bits h m = absurd m
memory_bits OutputWire bits h m = absurd m
memory_bits OutputRegister bits h m = absurd m
memory_bits Wire bits h m = absurd m
memory_bits Register bits h m = absurd m
memory_bits (Memory b) bits h m =
    let low = leb-true 1 b (and_left (nat_le 1 b) (nat_le b 32) h) in
    let high = leb-true b 32 (and_right (nat_le 1 b) (nat_le b 32) h) in
    (omega (arith, m), omega (arith, m))

is_width_of : (w : ℕ) → is_width w ≡ true → IsWidth w
is_width_of w h = record { some' = leb-true 1 w (and_left (nat_le 1 w) (nat_le w 128) h); most = leb-true w 128 (and_right (nat_le 1 w) (nat_le w 128) h) }

pub size_of : (d : Declaration) → has_size d ≡ true → HasSize d
size_of d h = (is_width_of d.width (and_left (is_width d.width) (memory_fits d.kind) h), λ bits m. memory_bits d.kind bits (and_right (is_width d.width) (memory_fits d.kind) h) m)

-- ---- expressions

width_there : (ds : List Declaration) (n : ℕ) (d : Declaration) → slice_get ds n ≡ Some d → d.width ≡ width_at ds n
width_there ds n d e = rw e refl

readable : (d : Declaration) (w : ℕ) → net_width d ≡ Some w → IsReadable d
readable d w e =
    let test = only_test (not (is_memory d.kind) && not (is_clock d)) d.width w e in (
      is_net d.kind (not_true (is_memory d.kind) (and_left (not (is_memory d.kind)) (not (is_clock d)) test)),
      not_true (is_clock d) (and_right (not (is_memory d.kind)) (not (is_clock d)) test),
    )

pub kept-keeps : (ds : List Declaration) (e : Expr) (w : ℕ) → kept ds e ≡ Some w → KeepsWidths ds e × (w ≡ width_of ds e)
kept-keeps ds (Net n) w h =
    let d = then_some net_width (slice_get ds n) w h in (
      some_and IsReadable (slice_get ds n) d.0 d.1 (readable d.0 w d.2),
      sym (only_value (not (is_memory d.0.kind) && not (is_clock d.0)) d.0.width w d.2) ∙ width_there ds n d.0 d.1,
    )
kept-keeps ds (Literal value width) w h =
    let test = only_test (is_width width && nat_lt value (2 ^ width)) width w h in (
      (is_width_of width (and_left (is_width width) (nat_lt value (2 ^ width)) test), ltb-true value (2 ^ width) (and_right (is_width width) (nat_lt value (2 ^ width)) test)),
      sym (only_value (is_width width && nat_lt value (2 ^ width)) width w h),
    )
kept-keeps ds (Invert width arg) w h =
    let x = then_some (invert_width width) (kept ds arg) w h in
    let k = kept-keeps ds arg x.0 x.1 in
    let same = eqb-true x.0 width (only_test (nat_eq x.0 width) width w x.2) in
    ((sym k.1 ∙ same, k.0), sym (only_value (nat_eq x.0 width) width w x.2))
kept-keeps ds (Binary op width left right) w h =
    let x = then_some (λ x. option_and_then (λ y. both_width op width x y) (kept ds right)) (kept ds left) w h in
    let y = then_some (λ y. both_width op width x.0 y) (kept ds right) w x.2 in
    let k = kept-keeps ds left x.0 x.1 in
    let l = kept-keeps ds right y.0 y.1 in
    let test = only_test (nat_eq x.0 width && nat_eq y.0 width) (width_after op width) w y.2 in (
      (sym k.1 ∙ eqb-true x.0 width (and_left (nat_eq x.0 width) (nat_eq y.0 width) test), sym l.1 ∙ eqb-true y.0 width (and_right (nat_eq x.0 width) (nat_eq y.0 width) test), k.0, l.0),
      sym (only_value (nat_eq x.0 width && nat_eq y.0 width) (width_after op width) w y.2),
    )
kept-keeps ds (Choose test yes' no') w h =
    let t = then_some (λ t. option_and_then (λ a. option_and_then (λ b. choose_width t a b) (kept ds no')) (kept ds yes')) (kept ds test) w h in
    let a = then_some (λ a. option_and_then (λ b. choose_width t.0 a b) (kept ds no')) (kept ds yes') w t.2 in
    let b = then_some (λ b. choose_width t.0 a.0 b) (kept ds no') w a.2 in
    let kt = kept-keeps ds test t.0 t.1 in let ka = kept-keeps ds yes' a.0 a.1 in let kb = kept-keeps ds no' b.0 b.1 in
    let is = only_test (nat_eq t.0 1 && nat_eq b.0 a.0) a.0 w b.2 in (
      (sym kt.1 ∙ eqb-true t.0 1 (and_left (nat_eq t.0 1) (nat_eq b.0 a.0) is), sym kb.1 ∙ eqb-true b.0 a.0 (and_right (nat_eq t.0 1) (nat_eq b.0 a.0) is) ∙ ka.1, kt.0, ka.0, kb.0),
      sym (only_value (nat_eq t.0 1 && nat_eq b.0 a.0) a.0 w b.2) ∙ ka.1,
    )
kept-keeps ds (Join low_width high low) w h =
    let x = then_some (λ h. option_and_then (λ l. join_width low_width h l) (kept ds low)) (kept ds high) w h in
    let y = then_some (λ l. join_width low_width x.0 l) (kept ds low) w x.2 in
    let kx = kept-keeps ds high x.0 x.1 in let ky = kept-keeps ds low y.0 y.1 in
    let is = only_test (nat_eq y.0 low_width && nat_le (x.0 + low_width) 128) (x.0 + low_width) w y.2 in (
      (
        sym ky.1 ∙ eqb-true y.0 low_width (and_left (nat_eq y.0 low_width) (nat_le (x.0 + low_width) 128) is),
        subst (λ (n : ℕ). n + low_width ≤ 128) kx.1 (leb-true (x.0 + low_width) 128 (and_right (nat_eq y.0 low_width) (nat_le (x.0 + low_width) 128) is)),
        kx.0,
        ky.0,
      ),
      sym (only_value (nat_eq y.0 low_width && nat_le (x.0 + low_width) 128) (x.0 + low_width) w y.2) ∙ ap (λ (n : ℕ). n + low_width) kx.1,
    )
kept-keeps ds (Select high low n) w h =
    let d = then_some (part_width high low) (slice_get ds n) w h in
    let test = only_test (not (is_memory d.0.kind) && not (is_clock d.0) && d.0.is_vector && nat_lt high d.0.width && nat_le low high) (high + 1 - low) w d.2 in
    let t4 = and_left (not (is_memory d.0.kind) && not (is_clock d.0) && d.0.is_vector && nat_lt high d.0.width) (nat_le low high) test in
    let t3 = and_left (not (is_memory d.0.kind) && not (is_clock d.0) && d.0.is_vector) (nat_lt high d.0.width) t4 in
    let t2 = and_left (not (is_memory d.0.kind) && not (is_clock d.0)) d.0.is_vector t3 in
    let read : IsReadable d.0 = (is_net d.0.kind (not_true (is_memory d.0.kind) (and_left (not (is_memory d.0.kind)) (not (is_clock d.0)) t2)), not_true (is_clock d.0) (and_right (not (is_memory d.0.kind)) (not (is_clock d.0)) t2)) in (
      (
        some_and (λ d. IsReadable d × IsTrue d.is_vector × (high < d.width)) (slice_get ds n) d.0 d.1 (read, and_right (not (is_memory d.0.kind) && not (is_clock d.0)) d.0.is_vector t3, ltb-true high d.0.width (and_right (not (is_memory d.0.kind) && not (is_clock d.0) && d.0.is_vector) (nat_lt high d.0.width) t4)),
        leb-true low high (and_right (not (is_memory d.0.kind) && not (is_clock d.0) && d.0.is_vector && nat_lt high d.0.width) (nat_le low high) test),
      ),
      sym (only_value (not (is_memory d.0.kind) && not (is_clock d.0) && d.0.is_vector && nat_lt high d.0.width && nat_le low high) (high + 1 - low) w d.2),
    )
kept-keeps ds (Read memory address) w h =
    let a = then_some (λ w. option_and_then (word_width w) (slice_get ds memory)) (kept ds address) w h in
    let d = then_some (word_width a.0) (slice_get ds memory) w a.2 in
    let k = kept-keeps ds address a.0 a.1 in
    let is = is_memory_of d.0.kind a.0 (only_test (has_address d.0.kind a.0) d.0.width w d.2) in (
      (some_and (λ d. IsMemory d.kind (width_of ds address)) (slice_get ds memory) d.0 d.1 (subst (IsMemory d.0.kind) k.1 is), k.0),
      sym (only_value (has_address d.0.kind a.0) d.0.width w d.2) ∙ width_there ds memory d.0 d.1,
    )

-- ---- assignments and updates

pub assignment_keeps : (ds : List Declaration) (a : Assignment) (w : ℕ) → assigned_width ds a ≡ Some w → KeepsWidth ds a
assignment_keeps ds a w h =
    let x = then_some (λ w. option_and_then (takes is_driven w) (slice_get ds a.target)) (kept ds a.value) w h in
    let d = then_some (takes is_driven x.0) (slice_get ds a.target) w x.2 in
    let k = kept-keeps ds a.value x.0 x.1 in
    let is = only_test (is_driven d.0.kind && nat_eq x.0 d.0.width) x.0 w d.2 in (
      some_and (λ d. IsDriven d.kind × (width_of ds a.value ≡ d.width)) (slice_get ds a.target) d.0 d.1
          (driven_kind d.0.kind (and_left (is_driven d.0.kind) (nat_eq x.0 d.0.width) is), sym k.1 ∙ eqb-true x.0 d.0.width (and_right (is_driven d.0.kind) (nat_eq x.0 d.0.width) is)),
      k.0,
    )

pub put_keeps : (ds : List Declaration) (r : ℕ) (value : Expr) (w : ℕ) → put_width ds r value ≡ Some w → KeepsWidthsIn ds (Put r value)
put_keeps ds r value w h =
    let x = then_some (λ w. option_and_then (takes is_register w) (slice_get ds r)) (kept ds value) w h in
    let d = then_some (takes is_register x.0) (slice_get ds r) w x.2 in
    let k = kept-keeps ds value x.0 x.1 in
    let is = only_test (is_register d.0.kind && nat_eq x.0 d.0.width) x.0 w d.2 in (
      some_and (λ d. IsRegister d.kind × (width_of ds value ≡ d.width)) (slice_get ds r) d.0 d.1
          (register_kind d.0.kind (and_left (is_register d.0.kind) (nat_eq x.0 d.0.width) is), sym k.1 ∙ eqb-true x.0 d.0.width (and_right (is_register d.0.kind) (nat_eq x.0 d.0.width) is)),
      k.0,
    )

pub write_keeps : (ds : List Declaration) (m : ℕ) (address value : Expr) (w : ℕ) → write_width ds m address value ≡ Some w → KeepsWidthsIn ds (Write m address value)
write_keeps ds m address value w h =
    let a = then_some (λ a. option_and_then (λ w. option_and_then (takes_word a w) (slice_get ds m)) (kept ds value)) (kept ds address) w h in
    let x = then_some (λ w. option_and_then (takes_word a.0 w) (slice_get ds m)) (kept ds value) w a.2 in
    let d = then_some (takes_word a.0 x.0) (slice_get ds m) w x.2 in
    let ka = kept-keeps ds address a.0 a.1 in let kx = kept-keeps ds value x.0 x.1 in
    let is = only_test (has_address d.0.kind a.0 && nat_eq x.0 d.0.width) x.0 w d.2 in (
      some_and (λ d. IsMemory d.kind (width_of ds address) × (width_of ds value ≡ d.width)) (slice_get ds m) d.0 d.1
          (subst (IsMemory d.0.kind) ka.1 (is_memory_of d.0.kind a.0 (and_left (has_address d.0.kind a.0) (nat_eq x.0 d.0.width) is)), sym kx.1 ∙ eqb-true x.0 d.0.width (and_right (has_address d.0.kind a.0) (nat_eq x.0 d.0.width) is)),
      ka.0,
      kx.0,
    )
