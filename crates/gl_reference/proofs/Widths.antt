-- The widths of kinds, and casts by what a kind's values are.
use Rattle.std.proofs.Common.{◌≡◌, ℕ, ◌*◌, ◌/◌, ◌^◌, ◌<◌, ◌≤◌, refl, arith}
use Rattle.std.proofs.Math.Nat.{mul-le-mul_left, pow-le-pow_right}
use Rattle.gl_values.specs.declared.kind.Family.TheVariants.{Numbers, Texts}
use Rattle.gl_values.specs.declared.kind.Kind.{Kind}
use Rattle.gl_values.specs.declared.kind.Kind.TheVariants.{Unsigned, Signed, Text}
use Rattle.gl_values.specs.Kinds.{IsKind, family_of, number_of, width_of, word_of}
use Rattle.gl_values.proofs.KindLemmas.{kind_some}
use Rattle.gl_values.specs.Operators.{cast_of}

pub kind_width : (kind : Kind) → IsKind kind → (1 ≤ width_of kind) × (width_of kind ≤ 128)
kind_width kind k = (kind_some kind k, omega (arith, k.1))

pub number_cast : (from to : Kind) (x : ℕ) → family_of from ≡ Numbers → word_of (width_of to) (number_of from x) ≡ cast_of from to x
number_cast (Unsigned w) to x e = refl
number_cast (Signed w) to x e = refl
number_cast (Text n) to x e = absurd cc

pub text_cast : (from to : Kind) (x : ℕ) → family_of from ≡ Texts → x * 2 ^ width_of to / 2 ^ width_of from ≡ cast_of from to x
text_cast (Unsigned w) to x e = absurd cc
text_cast (Signed w) to x e = absurd cc
text_cast (Text n) to x e = refl

-- a word of 64 bits by fewer than 64 places has at most 128 bits
pub up_fits : (x by : ℕ) → x < 2 ^ 64 → by < 64 → x * 2 ^ by < 2 ^ 128
up_fits x by lt near =
    let power : 2 ^ by ≤ 2 ^ 64 = pow-le-pow_right {n = 2} (omega arith) {i = by} {j = 64} (omega (arith, near)) in
    let product : x * 2 ^ by ≤ x * 2 ^ 64 = mul-le-mul_left x power in
    omega (arith, product, lt)
