-- The parts in braces, and how many parts an expression or a statement has.
use Rattle.std.proofs.Common.{◌≡◌, ℕ, ◌+◌, ◌<◌, ◌≤◌, List, [], ◌∷◌, ◌++◌, length, drop, get_or, map, refl, sym, ap, ◌∙◌, arith}
use Rattle.std.specs.Prelude.{Result, Ok, Err, Bool, true, false, nat_le}
use Rattle.std.proofs.lemmas.List.{map-append}
use Rattle.gl_verilog.specs.Module.{Declaration, Net}
use Rattle.gl_verilog.specs.Written as written
use Rattle.gl_verilog_faults.specs.Demands.{TooWide}
use Rattle.gl_verilog_tokens.specs.View.{parts_list}
use Rattle.gl_verilog_elaborator.specs.Judged.{Broken, then', asks, closed, Typed, typed, joined, joined_on, widths_of, judged_expr, judged_parts, judged_braces}
use Rattle.gl_verilog_elaborator.proofs.Steps.{left_at}

-- how many parts an expression has; one with others in it counts for two more, and braces for three more than their list
abbrev pub parts_in : written.WrittenExpr → ℕ
parts_in (written.Named name) = 1
parts_in (written.Constant size radix digits) = 1
parts_in (written.BitOf name place) = 1
parts_in (written.PartOf name high low) = 1
parts_in (written.WordOf name address) = parts_in address + 2
parts_in (written.Braces parts) = parts_in parts + 3
parts_in (written.Parts first rest) = parts_in first + parts_in rest + 2
parts_in (written.Parens inner) = parts_in inner + 2
parts_in (written.Prefix op arg) = parts_in arg + 2
parts_in (written.Infix op left right) = parts_in left + parts_in right + 2
parts_in (written.Conditional test yes' no') = parts_in test + parts_in yes' + parts_in no' + 2

abbrev pub parts_sum : List written.WrittenExpr → ℕ
parts_sum [] = 0
parts_sum (p ∷ ps) = parts_in p + 1 + parts_sum ps

pub sum_of_list : (ps : List written.WrittenExpr) → parts_sum ps ≤ parts_in (parts_list ps) + 1
sum_of_list [] = omega arith
sum_of_list (p ∷ []) = omega arith
sum_of_list (p ∷ q ∷ ps) = omega (arith, sum_of_list (q ∷ ps))

-- a part of a list
pub part_below : {B : Type 0} (g : B → written.WrittenExpr) (xs : List B) (i : ℕ) (d : B) → i < length xs → parts_sum (map g (drop i xs)) ≡ parts_in (g (get_or xs i d)) + 1 + parts_sum (map g (drop (i + 1) xs))
part_below g xs i d lt = ap (λ (ys : List _). parts_sum (map g ys)) (left_at xs i d lt)

-- how many parts a statement has; one with others in it counts for two more
abbrev pub parts_of : written.WrittenStatement → ℕ
parts_of (written.Update target value) = 1
parts_of (written.UpdateWord target address value) = 1
parts_of (written.IfThen test yes') = parts_of yes' + 2
parts_of (written.IfElse test yes' no') = parts_of yes' + parts_of no' + 2
parts_of (written.Block statements) = parts_of statements + 2
parts_of (written.Listed first rest) = parts_of first + parts_of rest + 1
parts_of written.Ended = 1

-- ---- parts in braces

abbrev all_of : List Typed → Typed
all_of [] = typed (Net 0) 0 0
all_of (t ∷ []) = t
all_of (t ∷ u ∷ us) = joined t (all_of (u ∷ us))

all_last : (ts : List Typed) (t : Typed) → all_of (ts ++ t ∷ []) ≡ joined_on ts t
all_last [] t = refl
all_last (x ∷ []) t = refl
all_last (x ∷ y ∷ ts) t = ap (joined x) (all_last (y ∷ ts) t)

one_part : (r : Result Typed Broken) → r ≡ then' (then' r (λ t. Ok (t ∷ []))) (λ ts. Ok (all_of ts))
one_part (Ok t) = refl
one_part (Err b) = refl

more_parts : (a : Typed) (r : Result Typed Broken) (q : Typed → Result (List Typed) Broken) → then' (then' (then' r (λ t. then' (q t) (λ ts. Ok (t ∷ ts)))) (λ ts. Ok (all_of ts))) (λ b. Ok (joined a b)) ≡ then' (then' (then' r (λ t. then' (q t) (λ ts. Ok (t ∷ ts)))) (λ ts. Ok (a ∷ ts))) (λ ts. Ok (all_of ts))
more_parts a (Err b) q = refl
more_parts a (Ok t) q = by (q t)
  where
    by : (r : Result (List Typed) Broken) → then' (then' (then' r (λ ts. Ok (t ∷ ts))) (λ ts. Ok (all_of ts))) (λ b. Ok (joined a b)) ≡ then' (then' (then' r (λ ts. Ok (t ∷ ts))) (λ ts. Ok (a ∷ ts))) (λ ts. Ok (all_of ts))
    by (Ok ts) = refl
    by (Err b) = refl

parts_are : (ds : List Declaration) (w : written.WrittenExpr) (ws : List written.WrittenExpr) (k : ℕ) → judged_expr ds k (parts_list (w ∷ ws)) ≡ then' (judged_parts ds k (w ∷ ws)) (λ ts. Ok (all_of ts))
parts_are ds w [] k = one_part (judged_expr ds k w)
parts_are ds w (v ∷ vs) k = by (judged_expr ds k w) (λ n. parts_are ds v vs n)
  where
    by : (r : Result Typed Broken) → ((n : ℕ) → judged_expr ds n (parts_list (v ∷ vs)) ≡ then' (judged_parts ds n (v ∷ vs)) (λ ts. Ok (all_of ts))) → then' r (λ a. then' (judged_expr ds (a.end + 1) (parts_list (v ∷ vs))) (λ b. Ok (joined a b))) ≡ then' (then' r (λ a. then' (judged_parts ds (a.end + 1) (v ∷ vs)) (λ ts. Ok (a ∷ ts)))) (λ ts. Ok (all_of ts))
    by (Err b) f = refl
    by (Ok a) f =
        ap (λ (x : Result Typed Broken). then' x (λ b. Ok (joined a b))) (f (a.end + 1))
        ∙ more_parts a (judged_expr ds (a.end + 1) v) (λ t. judged_parts ds (t.end + 1) vs)

pub braces_stop : (ds : List Declaration) (k : ℕ) (ws : List written.WrittenExpr) (b : Broken) → judged_parts ds (k + 1) ws ≡ Err b → judged_expr ds k (written.Braces (parts_list ws)) ≡ Err b
braces_stop ds k [] b h = absurd cc
braces_stop ds k (w ∷ ws) b h = ap (λ (r : Result Typed Broken). then' r (judged_braces k)) (parts_are ds w ws (k + 1) ∙ ap (λ (r : Result (List Typed) Broken). then' r (λ ts. Ok (all_of ts))) h)

pub braces_found : (ds : List Declaration) (k : ℕ) (ws : List written.WrittenExpr) (ts : List Typed) (t : Typed) → judged_parts ds (k + 1) ws ≡ Ok (ts ++ t ∷ []) → judged_expr ds k (written.Braces (parts_list ws)) ≡ judged_braces k (joined_on ts t)
braces_found ds k [] [] t h = absurd cc
braces_found ds k [] (x ∷ ts) t h = absurd cc
braces_found ds k (w ∷ ws) ts t h =
    ap (λ (r : Result Typed Broken). then' r (judged_braces k)) (parts_are ds w ws (k + 1) ∙ ap (λ (r : Result (List Typed) Broken). then' r (λ xs. Ok (all_of xs))) h)
    ∙ ap (judged_braces k) (all_last ts t)

none_of : (t : Typed) (r : Result (List Typed) Broken) → then' r (λ ts. Ok (t ∷ ts)) ≡ Ok [] → ⊥
none_of t (Ok ts) h = absurd cc
none_of t (Err b) h = absurd cc

first_of' : (r : Result Typed Broken) (q : Typed → Result (List Typed) Broken) → then' r (λ t. then' (q t) (λ ts. Ok (t ∷ ts))) ≡ Ok [] → ⊥
first_of' (Ok t) q h = none_of t (q t) h
first_of' (Err b) q h = absurd cc

pub parts_none : (ds : List Declaration) (k : ℕ) (ws : List written.WrittenExpr) → judged_parts ds k ws ≡ Ok [] → ws ≡ []
parts_none ds k [] h = refl
parts_none ds k (w ∷ ws) h = absurd (first_of' (judged_expr ds k w) (λ t. judged_parts ds (t.end + 1) ws) h)

-- ---- a part taken from the end

pub joined_push : (ts : List Typed) (t last : Typed) → joined_on (ts ++ t ∷ []) last ≡ joined_on ts (joined t last)
joined_push [] t last = refl
joined_push (x ∷ ts) t last = ap (joined x) (joined_push ts t last)

pub widths_push : (ts : List Typed) (t : Typed) → widths_of (ts ++ t ∷ []) ≡ widths_of ts + t.width
widths_push [] t = omega arith
widths_push (x ∷ ts) t = omega (arith, widths_push ts t)

-- the last of these is taken
pub widths_popped : {B : Type 0} (g : B → Typed) (xs ys : List B) (x : B) → xs ≡ ys ++ x ∷ [] → widths_of (map g xs) ≡ widths_of (map g ys) + (g x).width
widths_popped g xs ys x e = ap (λ (l : List _). widths_of (map g l)) e ∙ ap widths_of (map-append g ys (x ∷ [])) ∙ widths_push (map g ys) (g x)

pub joined_popped : {B : Type 0} (g : B → Typed) (xs ys : List B) (x : B) (last next : Typed) → xs ≡ ys ++ x ∷ [] → next ≡ joined (g x) last → joined_on (map g ys) next ≡ joined_on (map g xs) last
joined_popped g xs ys x last next e f =
    ap (joined_on (map g ys)) f ∙ sym (joined_push (map g ys) (g x) last) ∙ ap (λ (ts : List Typed). joined_on ts last) (sym (map-append g ys (x ∷ []))) ∙ ap (λ (l : List _). joined_on (map g l) last) (sym e)

pub width_on : (ts : List Typed) (t : Typed) → (joined_on ts t).width ≡ widths_of ts + t.width
width_on [] t = omega arith
width_on (x ∷ ts) t = omega (arith, width_on ts t)

-- parts that are too wide together, and parts that are not
pub braces_wide : (k : ℕ) (ts us : List Typed) (t : Typed) → ts ≡ us → false ≡ nat_le (widths_of ts + t.width) 128 → judged_braces k (joined_on us t) ≡ Err (record { rule = TooWide; token = k })
braces_wide k ts us t e f = ap (λ (b : Bool). asks TooWide k b (Ok (closed (joined_on us t)))) (ap (λ (n : ℕ). nat_le n 128) (width_on us t) ∙ ap (λ (l : List Typed). nat_le (widths_of l + t.width) 128) (sym e) ∙ sym f)

pub braces_narrow : (k : ℕ) (ts us : List Typed) (t all : Typed) → ts ≡ us → true ≡ nat_le (widths_of ts + t.width) 128 → (let r : Result Typed Broken = Ok (joined_on us t) in r) ≡ Ok all → judged_braces k (joined_on us t) ≡ Ok (closed all)
braces_narrow k ts us t all e f h =
    ap (λ (b : Bool). asks TooWide k b (Ok (closed (joined_on us t)))) (ap (λ (n : ℕ). nat_le n 128) (width_on us t) ∙ ap (λ (l : List Typed). nat_le (widths_of l + t.width) 128) (sym e) ∙ sym f)
    ∙ (let same : joined_on us t ≡ all = cc in ap (λ (x : Typed). Ok (closed x)) same)

pub widths_left : {B : Type 0} (g : B → Typed) (xs : List B) (i : ℕ) (d : B) → i < length xs → widths_of (map g (drop i xs)) ≡ (g (get_or xs i d)).width + widths_of (map g (drop (i + 1) xs))
widths_left g xs i d lt = ap (λ (ys : List _). widths_of (map g ys)) (left_at xs i d lt)

pub no_parts : {B : Type 0} (g : B → written.WrittenExpr) (xs : List B) → length xs ≡ 0 → map g xs ≡ []
no_parts g [] h = refl
no_parts g (x ∷ xs) h = absurd (omega (arith, h))
