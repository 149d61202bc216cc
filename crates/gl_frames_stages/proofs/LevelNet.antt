-- The better of two windows, from a comparison in a cycle of its own.
use Rattle.std.proofs.Common.{◌≡◌, ℕ, suc, ◌+◌, ◌%◌, ◌^◌, Some, None, Bool, true, false, refl, sym, ap, ◌∙◌, arith}
use Rattle.std.specs.Prelude.{ℤ, int_lt, not, ◌&&◌, if◌then◌else◌}
use Rattle.std.proofs.lemmas.Int.{ints}
use Rattle.gl_bits.proofs.Bools.{not_true}
use Rattle.gl_divide.specs.Division.{highest}
use Rattle.gl_net.specs.declared.node.Bit.{Bit}
use Rattle.gl_net.specs.Net.{Run}
use Rattle.gl_wire.specs.Wire.{line_at}
use Rattle.gl_frames.specs.Frames.{IsChoice, lag_of, number_or, row_before}
use Rattle.gl_totals.specs.Folds.{better, is_better}
use Rattle.gl_totals.specs.declared.fold.Extreme.{Extreme}
use Rattle.gl_totals.specs.declared.fold.Extreme.TheVariants.{Least, Greatest}
use Rattle.gl_totals.proofs.FoldNet.{better_is}
use Rattle.gl_values.specs.Kinds.{number_of, width_of}
use Rattle.gl_values.specs.declared.kind.Kind.{Kind}
use Rattle.gl_frames_stages.specs.Columns.{Tells, column_of}
use Rattle.gl_frames_stages.specs.LaggedNets.{maybe_at}
use Rattle.gl_frames_stages.specs.LevelNets.{better_in, packed_stays, stays_in}
use Rattle.gl_frames_stages.specs.Laws.{itself, picked}
use Rattle.gl_frames_stages.specs.declared.lagged.Maybe.{Maybe}
use Rattle.gl_frames_stages.specs.declared.level.Order.{Order}
use Rattle.gl_frames_stages.specs.declared.lines.Lines.{Lines}
use Rattle.gl_frames_stages.proofs.SlideNet.{last_row}

-- ---- to keep the earlier of two or not is a choice, where it goes on over a third

record Goes (stays : ℕ → ℕ → Bool) : Type 0 where
  pub kept : (x y z : ℕ) → stays x y ≡ true → stays y z ≡ true → stays x z ≡ true
  pub left : (x y z : ℕ) → stays x y ≡ false → stays y z ≡ false → stays x z ≡ false

module _ (stays : ℕ → ℕ → Bool) (goes : Goes stays) where
  abbrev op : ℕ → ℕ → ℕ
  op x y = if stays x y then x else y

  joined : (x y z : ℕ) (a b : Bool) → stays x y ≡ a → stays y z ≡ b → op (op x y) z ≡ op x (op y z)
  joined x y z true true p q =
      ap (λ (t : Bool). op (if t then x else y) z) p ∙ ap (λ (t : Bool). if t then x else z) (goes.kept x y z p q)
      ∙ sym (ap (λ (t : Bool). op x (if t then y else z)) q ∙ ap (λ (t : Bool). if t then x else y) p)
  joined x y z true false p q =
      ap (λ (t : Bool). op (if t then x else y) z) p ∙ sym (ap (λ (t : Bool). op x (if t then y else z)) q)
  joined x y z false true p q =
      ap (λ (t : Bool). op (if t then x else y) z) p ∙ ap (λ (t : Bool). if t then y else z) q
      ∙ sym (ap (λ (t : Bool). op x (if t then y else z)) q ∙ ap (λ (t : Bool). if t then x else y) p)
  joined x y z false false p q =
      ap (λ (t : Bool). op (if t then x else y) z) p ∙ ap (λ (t : Bool). if t then y else z) q
      ∙ sym (ap (λ (t : Bool). op x (if t then y else z)) q ∙ ap (λ (t : Bool). if t then x else z) (goes.left x y z p q))

  same : (b : Bool) (x : ℕ) → (if b then x else x) ≡ x
  same true x = refl
  same false x = refl

  choice_by : IsChoice op
  choice_by = record { together = λ x y z. joined x y z (stays x y) (stays y z) refl refl; once = λ x. same (stays x x) x }

-- ---- comparisons

lt_none : (f : ℕ → ℤ) (x y z : ℕ) (d : Bool) → int_lt (f y) (f x) ≡ false → int_lt (f z) (f y) ≡ false → int_lt (f z) (f x) ≡ d → d ≡ false
lt_none f x y z true p q r = absurd (grind (arith, ints))
lt_none f x y z false p q r = refl

lt_both : (f : ℕ → ℤ) (x y z : ℕ) (d : Bool) → int_lt (f y) (f x) ≡ true → int_lt (f z) (f y) ≡ true → int_lt (f z) (f x) ≡ d → d ≡ true
lt_both f x y z true p q r = refl
lt_both f x y z false p q r = absurd (grind (arith, ints))

better_none : (extreme : Extreme) (kind : Kind) (x y z : ℕ) → is_better extreme kind x y ≡ false → is_better extreme kind y z ≡ false → is_better extreme kind x z ≡ false
better_none Least kind x y z p q = lt_none (number_of kind) x y z _ p q refl
better_none Greatest kind x y z p q = lt_none (number_of kind) z y x _ q p refl

better_both : (extreme : Extreme) (kind : Kind) (x y z : ℕ) → is_better extreme kind x y ≡ true → is_better extreme kind y z ≡ true → is_better extreme kind x z ≡ true
better_both Least kind x y z p q = lt_both (number_of kind) x y z _ p q refl
better_both Greatest kind x y z p q = lt_both (number_of kind) z y x _ q p refl

none_not : (b : Bool) → not b ≡ false → b ≡ true
none_not true e = refl
none_not false e = absurd (cc)

plain_goes : (extreme : Extreme) (kind : Kind) → Goes (λ x y. not (is_better extreme kind x y))
plain_goes extreme kind = record {
  kept = λ x y z p q. ap not (better_none extreme kind x y z (not_true (is_better extreme kind x y) p) (not_true (is_better extreme kind y z) q));
  left = λ x y z p q. ap not (better_both extreme kind x y z (none_not (is_better extreme kind x y) p) (none_not (is_better extreme kind y z) q));
}

-- over truth values: which words have a value, and which values are better
packed_kept : (a b c d e f : Bool) → (d ≡ false → e ≡ false → f ≡ false) → (a && not (b && d)) ≡ true → (b && not (c && e)) ≡ true → (a && not (c && f)) ≡ true
packed_kept false b c d e f h p q = absurd (cc)
packed_kept true false c d e f h p q = absurd (cc)
packed_kept true true false d e f h p q = refl
packed_kept true true true d e f h p q = ap not (h (not_true d p) (not_true e q))

packed_left : (a b c d e f : Bool) → (d ≡ true → e ≡ true → f ≡ true) → (a && not (b && d)) ≡ false → (b && not (c && e)) ≡ false → (a && not (c && f)) ≡ false
packed_left false b c d e f h p q = refl
packed_left true false c d e f h p q = absurd (cc)
packed_left true true false d e f h p q = absurd (cc)
packed_left true true true d e f h p q = ap not (h (none_not d p) (none_not e q))

packed_goes : (extreme : Extreme) (kind : Kind) → Goes (packed_stays extreme kind)
packed_goes extreme kind = record {
  kept = λ x y z.
      let w = width_of kind in
      packed_kept (highest (w + 1) x) (highest (w + 1) y) (highest (w + 1) z) (is_better extreme kind (x % 2 ^ w) (y % 2 ^ w)) (is_better extreme kind (y % 2 ^ w) (z % 2 ^ w))
      (is_better extreme kind (x % 2 ^ w) (z % 2 ^ w)) (better_none extreme kind (x % 2 ^ w) (y % 2 ^ w) (z % 2 ^ w));
  left = λ x y z.
      let w = width_of kind in
      packed_left (highest (w + 1) x) (highest (w + 1) y) (highest (w + 1) z) (is_better extreme kind (x % 2 ^ w) (y % 2 ^ w)) (is_better extreme kind (y % 2 ^ w) (z % 2 ^ w))
      (is_better extreme kind (x % 2 ^ w) (z % 2 ^ w)) (better_both extreme kind (x % 2 ^ w) (y % 2 ^ w) (z % 2 ^ w));
}

goes_by : (b : Bool) (r s : ℕ → ℕ → Bool) → Goes r → Goes s → Goes (λ x y. if b then r x y else s x y)
goes_by true r s g h = record { kept = g.kept; left = g.left }
goes_by false r s g h = record { kept = h.kept; left = h.left }

pub better_chooses : (order : Order) → IsChoice (better_in order)
better_chooses order =
    choice_by (stays_in order)
    (goes_by order.packed (packed_stays order.extreme order.kind) (λ x y. not (is_better order.extreme order.kind x y)) (packed_goes order.extreme order.kind)
    (plain_goes order.extreme order.kind))

not_turned : (b : Bool) (x y : ℕ) → (if not b then x else y) ≡ (if b then y else x)
not_turned true x y = refl
not_turned false x y = refl

-- without a bit more it is the better by its kind
pub plain_better : (order : Order) → order.packed ≡ false → (x y : ℕ) → better_in order x y ≡ better order.extreme order.kind x y
plain_better order plain x y =
    ap (λ (b : Bool). if (if b then packed_stays order.extreme order.kind x y else not (is_better order.extreme order.kind x y)) then x else y) plain
    ∙ not_turned (is_better order.extreme order.kind x y) x y ∙ better_is order.extreme order.kind x y

pub plain_stays : (order : Order) → order.packed ≡ false → (x y : ℕ) → not (is_better order.extreme order.kind x y) ≡ stays_in order x y
plain_stays order plain x y =
    sym (ap (λ (b : Bool). if b then packed_stays order.extreme order.kind x y else not (is_better order.extreme order.kind x y)) plain)

pub packed_is : (order : Order) → order.packed ≡ true → (x y : ℕ) → packed_stays order.extreme order.kind x y ≡ stays_in order x y
packed_is order packed x y =
    sym (ap (λ (b : Bool). if b then packed_stays order.extreme order.kind x y else not (is_better order.extreme order.kind x y)) packed)

pub all_three : (a b c : Bool) → ((a && b) && not c) ≡ (a && (b && not c))
all_three true b c = refl
all_three false b c = refl

-- ---- in cycles

kept_is : (order : Order) (b : Bool) (w x : ℕ) → (if b && stays_in order w x then w else x) ≡ picked (better_in order) (if b then Some w else None) x
kept_is order true w x = refl
kept_is order false w x = refl

pub level_told : (run : Run) (lines : Lines) (order : Order) (d : ℕ) (value own out : ℕ → ℕ) (found : Maybe) (stays : Bit)
    → Tells run lines 1 (row_before d) value (maybe_at run found) → ((t : ℕ) → own (suc (suc t)) ≡ value (suc t))
    → ((t : ℕ) → line_at run stays (suc t) ≡ (line_at run found.some (suc t) && stays_in order (run.at (suc t) found.word.node) (own (suc t))))
    → ((t : ℕ) → out (suc (suc t)) ≡ (if line_at run stays (suc t) then run.at (suc t) found.word.node else own (suc t)))
    → Tells run lines 2 (λ xs. picked (better_in order) (row_before d xs) (lag_of itself 0 xs)) value out
level_told run lines order d value own out found stays h owns line is c v =
    let e : suc c + 2 ≡ suc (suc (suc c)) = omega arith in
    let f : suc (suc c) ≡ suc c + 1 = omega arith in
    let w : ℕ = run.at (suc (suc c)) found.word.node in
    ap out e ∙ is (suc c)
    ∙ ap (λ (b : Bool). if b then w else own (suc (suc c))) (line (suc c))
    ∙ kept_is order (line_at run found.some (suc (suc c))) w (own (suc (suc c)))
    ∙ ap (λ o. picked (better_in order) o (own (suc (suc c)))) (ap (maybe_at run found) f ∙ h c v)
    ∙ ap (picked (better_in order) (row_before d (column_of run lines value (suc c)))) (owns c ∙ sym (ap (number_or itself) (last_row run lines value c v)))
