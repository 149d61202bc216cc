-- What an operator's gate gives of two words of a kind.
use Rattle.std.proofs.Common.{◌≡◌, ℕ, ◌^◌, ◌<◌, ◌≤◌, true, false, refl, ap, ◌∙◌}
use Rattle.gl_values.specs.Kinds.{is_signed, width_of}
use Rattle.gl_values.specs.Operators.{is_shift, operate, result_kind, sort_of}
use Rattle.gl_bits.specs.Words.{bit, le_of, lt_of}
use Rattle.gl_values.specs.declared.kind.Kind.{Kind}
use Rattle.gl_values.specs.declared.kind.Kind.TheVariants.{Unsigned, Signed, Text}
use Rattle.gl_values.specs.declared.op.Op.{Op}
use Rattle.gl_values.specs.declared.op.Op.TheVariants.{Add, Sub, Mul, BitAnd, BitOr, BitXor, ShiftLeft, ShiftRight, Eq, Ne, Lt, Le, Gt, Ge, And, Or}
use Rattle.gl_values.proofs.Signs.{turned_below, turned_most}
use Rattle.gl_algebra.specs.Columns.{SortFits}
use Rattle.gl_net.specs.Net.{binary_width}
use Rattle.gl_rows.specs.Gates.{gate_of, gated, is_order, top_turned}

-- without an order the sign does not count
pub unordered_value : (op : Op) (kind : Kind) (x y : ℕ) → is_shift op ≡ false → is_order op ≡ false → gated op (width_of kind) x y ≡ operate op kind x y
unordered_value Add kind x y s t = refl
unordered_value Sub kind x y s t = refl
unordered_value Mul kind x y s t = refl
unordered_value BitAnd kind x y s t = refl
unordered_value BitOr kind x y s t = refl
unordered_value BitXor kind x y s t = refl
unordered_value ShiftLeft kind x y s t = absurd cc
unordered_value ShiftRight kind x y s t = absurd cc
unordered_value Eq kind x y s t = refl
unordered_value Ne kind x y s t = refl
unordered_value Lt kind x y s t = absurd cc
unordered_value Le kind x y s t = absurd cc
unordered_value Gt kind x y s t = absurd cc
unordered_value Ge kind x y s t = absurd cc
unordered_value And kind x y s t = refl
unordered_value Or kind x y s t = refl

order_value : (op : Op) (w x y : ℕ) → is_shift op ≡ false → gated op w x y ≡ operate op (Unsigned w) x y
unfolding lt_of le_of
order_value Add w x y s = refl
order_value Sub w x y s = refl
order_value Mul w x y s = refl
order_value BitAnd w x y s = refl
order_value BitOr w x y s = refl
order_value BitXor w x y s = refl
order_value ShiftLeft w x y s = absurd cc
order_value ShiftRight w x y s = absurd cc
order_value Eq w x y s = refl
order_value Ne w x y s = refl
order_value Lt w x y s = refl
order_value Le w x y s = refl
order_value Gt w x y s = refl
order_value Ge w x y s = refl
order_value And w x y s = refl
order_value Or w x y s = refl

text_value : (op : Op) (n x y : ℕ) → operate op (Unsigned (width_of (Text n))) x y ≡ operate op (Text n) x y
text_value Add n x y = refl
text_value Sub n x y = refl
text_value Mul n x y = refl
text_value BitAnd n x y = refl
text_value BitOr n x y = refl
text_value BitXor n x y = refl
text_value ShiftLeft n x y = refl
text_value ShiftRight n x y = refl
text_value Eq n x y = refl
text_value Ne n x y = refl
text_value Lt n x y = refl
text_value Le n x y = refl
text_value Gt n x y = refl
text_value Ge n x y = refl
text_value And n x y = refl
text_value Or n x y = refl

pub plain_value : (op : Op) (kind : Kind) (x y : ℕ) → is_shift op ≡ false → is_signed kind ≡ false → gated op (width_of kind) x y ≡ operate op kind x y
plain_value op (Unsigned w) x y s e = order_value op w x y s
plain_value op (Signed w) x y s e = absurd cc
plain_value op (Text n) x y s e = order_value op (width_of (Text n)) x y s ∙ text_value op n x y

-- numbers with a sign compare as their words with the highest bit turned
pub ordered_value : (op : Op) (w x y : ℕ) → is_order op ≡ true → 1 ≤ w → x < 2 ^ w → y < 2 ^ w
    → gated op w (top_turned w x) (top_turned w y) ≡ operate op (Signed w) x y
unfolding lt_of le_of
ordered_value Add w x y t some lt mt = absurd cc
ordered_value Sub w x y t some lt mt = absurd cc
ordered_value Mul w x y t some lt mt = absurd cc
ordered_value BitAnd w x y t some lt mt = absurd cc
ordered_value BitOr w x y t some lt mt = absurd cc
ordered_value BitXor w x y t some lt mt = absurd cc
ordered_value ShiftLeft w x y t some lt mt = absurd cc
ordered_value ShiftRight w x y t some lt mt = absurd cc
ordered_value Eq w x y t some lt mt = absurd cc
ordered_value Ne w x y t some lt mt = absurd cc
ordered_value Lt w x y t some lt mt = ap bit (turned_below w x y some lt mt)
ordered_value Le w x y t some lt mt = ap bit (turned_most w x y some lt mt)
ordered_value Gt w x y t some lt mt = ap bit (turned_below w y x some mt lt)
ordered_value Ge w x y t some lt mt = ap bit (turned_most w y x some mt lt)
ordered_value And w x y t some lt mt = absurd cc
ordered_value Or w x y t some lt mt = absurd cc

pub gate_width : (op : Op) (kind : Kind) → SortFits (sort_of op) kind → binary_width (gate_of op) (width_of kind) ≡ width_of (result_kind (sort_of op) kind)
gate_width Add kind f = refl
gate_width Sub kind f = refl
gate_width Mul kind f = refl
gate_width BitAnd kind f = refl
gate_width BitOr kind f = refl
gate_width BitXor kind f = refl
gate_width ShiftLeft kind f = refl
gate_width ShiftRight kind f = refl
gate_width Eq kind f = refl
gate_width Ne kind f = refl
gate_width Lt kind f = refl
gate_width Le kind f = refl
gate_width Gt kind f = refl
gate_width Ge kind f = refl
gate_width And kind f = ap width_of f
gate_width Or kind f = ap width_of f
