-- Targets that are free, and names that are driven: each net, register and memory has its one driver.
use Rattle.std.proofs.Common.{◌≡◌, ℕ, zero, suc, ◌+◌, ◌-◌, ◌≤◌, ◌⊎◌, inl, inr, Bool, true, false, List, [], ◌∷◌, ◌++◌, refl, sym, ap, ◌∙◌, arith}
use Rattle.std.specs.Prelude.{◌&&◌, ◌||◌, not, if◌then◌else◌}
use Rattle.std.specs.List.{list_any}
use Rattle.std.specs.Str.{bytes_eq}
use Rattle.std.proofs.lemmas.Bool.{false_from_ne_true, or_cases, or_left, or_right, or_parts, or_from, not-true, and_parts, and_left, and_right, both_ways}
use Rattle.std.proofs.lemmas.List.Folds.{list_any-append}
use Rattle.gl_verilog.specs.Written.{WrittenExpr, WrittenStatement, Update, UpdateWord, IfThen, IfElse, Block, Listed, Ended, WrittenItem, Wires, Registers, MemoryOf, Assign, Always}
use Rattle.gl_verilog_faults.specs.Demands.{is_among, targets_in, targets_of}
use Rattle.gl_verilog_faults.proofs.Statements.{Free}
use Rattle.gl_verilog_faults.proofs.Items.{FreeItems}
use Rattle.gl_verilog_faults.proofs.Counts.{hits, fills, Once, assigned_in, hit_in, filled_in, OnceIn, count_true, one_of}
use Rattle.gl_bits.proofs.Bools.{bytes_same}

-- ---- lists of names

pub among_join : (q : List ℕ) (a b : List (List ℕ)) → is_among q (a ++ b) ≡ (is_among q a || is_among q b)
among_join q a b = list_any-append (bytes_eq q) a b

among_apart : (q : List ℕ) (a b : List (List ℕ)) → is_among q (a ++ b) ≡ false → (is_among q a ≡ false) × (is_among q b ≡ false)
among_apart q a b h = or_parts (is_among q a) (is_among q b) (sym (among_join q a b) ∙ h)

pub not_among : (q : List ℕ) (a b : List (List ℕ)) → is_among q a ≡ false → is_among q b ≡ false → is_among q (a ++ b) ≡ false
not_among q a b h k = among_join q a b ∙ or_from (is_among q a) (is_among q b) h k

-- the same name, so in the same lists
pub same_among : (q t : List ℕ) (names : List (List ℕ)) → bytes_eq q t ≡ true → is_among t names ≡ is_among q names
same_among q t names e = ap (λ (x : List ℕ). is_among x names) (sym (bytes_same q t e))

pub one_among : (q t : List ℕ) → is_among q (t ∷ []) ≡ true → bytes_eq q t ≡ true
one_among q t h = elim (or_cases (bytes_eq q t) false h) [ inl p ↦ p | inr p ↦ absurd cc ]

among_one : (q t : List ℕ) → bytes_eq q t ≡ true → is_among q (t ∷ []) ≡ true
among_one q t h = or_left (bytes_eq q t) false h

pub true_count : (b : Bool) → b ≡ true → 1 ≤ (if b then 1 else 0)
true_count true h = omega arith
true_count false h = absurd cc

pub zero_unless : (n : ℕ) → (1 ≤ n → ⊥) → n ≡ 0
zero_unless zero f = refl
zero_unless (suc n) f = absurd (f (omega arith))

at_most_one : (b : Bool) → (if b then 1 else 0) ≤ 1
at_most_one true = omega arith
at_most_one false = omega arith

-- ---- the targets of a statement are what it assigns and what it writes

abbrev pub Touched : List ℕ → WrittenStatement → Type 0
Touched q s = (hits q s ≡ true) ⊎ (1 ≤ fills q s)

touch_left : (q : List ℕ) (a b : WrittenStatement) → Touched q a → ((hits q a || hits q b) ≡ true) ⊎ (1 ≤ fills q a + fills q b)
touch_left q a b (inl h) = inl (or_left (hits q a) (hits q b) h)
touch_left q a b (inr h) = inr (omega arith)

touch_right : (q : List ℕ) (a b : WrittenStatement) → Touched q b → ((hits q a || hits q b) ≡ true) ⊎ (1 ≤ fills q a + fills q b)
touch_right q a b (inl h) = inl (or_right (hits q a) (hits q b) h)
touch_right q a b (inr h) = inr (omega arith)

touch_both : (q : List ℕ) (a b : WrittenStatement) → (is_among q (targets_in a) ≡ true → Touched q a) → (is_among q (targets_in b) ≡ true → Touched q b) → is_among q (targets_in a ++ targets_in b) ≡ true → ((hits q a || hits q b) ≡ true) ⊎ (1 ≤ fills q a + fills q b)
touch_both q a b f g h = elim (or_cases (is_among q (targets_in a)) (is_among q (targets_in b)) (sym (among_join q (targets_in a) (targets_in b)) ∙ h)) [
  | inl p ↦ touch_left q a b (f p)
  | inr p ↦ touch_right q a b (g p)
]

pub touched : (q : List ℕ) (s : WrittenStatement) → is_among q (targets_in s) ≡ true → Touched q s
touched q (Update target value) h = inl (one_among q target h)
touched q (UpdateWord target address value) h = inr (true_count (bytes_eq q target) (one_among q target h))
touched q (IfThen test yes') h = elim (touched q yes' h) [ inl p ↦ inl (or_left (hits q yes') false p) | inr p ↦ inr (omega arith) ]
touched q (IfElse test yes' no') h = touch_both q yes' no' (touched q yes') (touched q no') h
touched q (Block statements) h = touched q statements h
touched q (Listed first rest) h = touch_both q first rest (touched q first) (touched q rest) h
touched q Ended h = absurd cc

among_left : (q : List ℕ) (a b : List (List ℕ)) → is_among q a ≡ true → is_among q (a ++ b) ≡ true
among_left q a b h = among_join q a b ∙ or_left (is_among q a) (is_among q b) h

among_right : (q : List ℕ) (a b : List (List ℕ)) → is_among q b ≡ true → is_among q (a ++ b) ≡ true
among_right q a b h = among_join q a b ∙ or_right (is_among q a) (is_among q b) h

pub hit_target : (q : List ℕ) (s : WrittenStatement) → hits q s ≡ true → is_among q (targets_in s) ≡ true
hit_target q (Update target value) h = among_one q target h
hit_target q (UpdateWord target address value) h = absurd cc
hit_target q (IfThen test yes') h = elim (or_cases (hits q yes') false h) [ inl p ↦ hit_target q yes' p | inr p ↦ absurd cc ]
hit_target q (IfElse test yes' no') h = elim (or_cases (hits q yes') (hits q no') h) [ inl p ↦ among_left q (targets_in yes') (targets_in no') (hit_target q yes' p) | inr p ↦ among_right q (targets_in yes') (targets_in no') (hit_target q no' p) ]
hit_target q (Block statements) h = hit_target q statements h
hit_target q (Listed first rest) h = elim (or_cases (hits q first) (hits q rest) h) [ inl p ↦ among_left q (targets_in first) (targets_in rest) (hit_target q first p) | inr p ↦ among_right q (targets_in first) (targets_in rest) (hit_target q rest p) ]
hit_target q Ended h = absurd cc

pub fill_target : (q : List ℕ) (s : WrittenStatement) → 1 ≤ fills q s → is_among q (targets_in s) ≡ true
fill_target q (Update target value) h = absurd (omega arith)
fill_target q (UpdateWord target address value) h = among_one q target (count_true (bytes_eq q target) h)
fill_target q (IfThen test yes') h = fill_target q yes' (omega arith)
fill_target q (IfElse test yes' no') h = elim (one_of (fills q yes') (fills q no') h) [ inl p ↦ among_left q (targets_in yes') (targets_in no') (fill_target q yes' p) | inr p ↦ among_right q (targets_in yes') (targets_in no') (fill_target q no' p) ]
fill_target q (Block statements) h = fill_target q statements h
fill_target q (Listed first rest) h = elim (one_of (fills q first) (fills q rest) h) [ inl p ↦ among_left q (targets_in first) (targets_in rest) (fill_target q first p) | inr p ↦ among_right q (targets_in first) (targets_in rest) (fill_target q rest p) ]
fill_target q Ended h = absurd (omega arith)

-- what is no target is neither assigned nor written
unhit : (q : List ℕ) (s : WrittenStatement) → is_among q (targets_in s) ≡ false → hits q s ≡ false
unhit q s h = false_from_ne_true (hits q s) (λ p. both_ways (is_among q (targets_in s)) h (hit_target q s p))

unfilled : (q : List ℕ) (s : WrittenStatement) → is_among q (targets_in s) ≡ false → fills q s ≡ 0
unfilled q s h = zero_unless (fills q s) (λ p. both_ways (is_among q (targets_in s)) h (fill_target q s p))

-- ---- from free targets to counts

pub record Bound (q : List ℕ) (done before beside : List (List ℕ)) (s : WrittenStatement) : Type 0 where
  pub hit_done : hits q s ≡ true → is_among q done ≡ false
  pub hit_beside : hits q s ≡ true → is_among q beside ≡ false
  pub once : Once q s
  pub fill_done : 1 ≤ fills q s → is_among q done ≡ false
  pub fill_before : 1 ≤ fills q s → is_among q before ≡ false
  pub most : fills q s ≤ 1

bound_put : (q : List ℕ) (done before beside : List (List ℕ)) (target : List ℕ) (value : WrittenExpr) → Free done before beside (Update target value) → Bound q done before beside (Update target value)
bound_put q done before beside target value f =
    let p = and_parts (not (is_among target done)) (not (is_among target beside)) f in
    record {
      hit_done = λ h. sym (same_among q target done h) ∙ not-true (is_among target done) p.0;
      hit_beside = λ h. sym (same_among q target beside h) ∙ not-true (is_among target beside) p.1;
      once = tt;
      fill_done = λ h. absurd (omega arith);
      fill_before = λ h. absurd (omega arith);
      most = omega arith;
    }

bound_write : (q : List ℕ) (done before beside : List (List ℕ)) (target : List ℕ) (address value : WrittenExpr) → Free done before beside (UpdateWord target address value) → Bound q done before beside (UpdateWord target address value)
bound_write q done before beside target address value f =
    let p = and_parts (not (is_among target done)) (not (is_among target before)) f in
    record {
      hit_done = λ h. absurd cc;
      hit_beside = λ h. absurd cc;
      once = tt;
      fill_done = λ h. sym (same_among q target done (count_true (bytes_eq q target) h)) ∙ not-true (is_among target done) p.0;
      fill_before = λ h. sym (same_among q target before (count_true (bytes_eq q target) h)) ∙ not-true (is_among target before) p.1;
      most = at_most_one (bytes_eq q target);
    }

-- two statements, the second behind the first
most_two : (q : List ℕ) (done before beside more : List (List ℕ)) (a b : WrittenStatement) → Bound q done before beside a → Bound q done (before ++ targets_in a) more b → fills q a + fills q b ≤ 1
most_two q done before beside more a b x y = pick (fills q b) y.most (λ h. unfilled q a (among_apart q before (targets_in a) (y.fill_before h)).1) x.most
  where
    pick : (n : ℕ) → n ≤ 1 → (1 ≤ n → fills q a ≡ 0) → fills q a ≤ 1 → fills q a + n ≤ 1
    pick zero h f m = omega arith
    pick (suc n) h f m = let e : fills q a ≡ 0 = f (omega arith) in omega arith

fill_two : (q : List ℕ) (done before beside more : List (List ℕ)) (a b : WrittenStatement) → Bound q done before beside a → Bound q done (before ++ targets_in a) more b → 1 ≤ fills q a + fills q b → (is_among q done ≡ false) × (is_among q before ≡ false)
fill_two q done before beside more a b x y h = elim (one_of (fills q a) (fills q b) h) [
  | inl p ↦ (x.fill_done p, x.fill_before p)
  | inr p ↦ (y.fill_done p, (among_apart q before (targets_in a) (y.fill_before p)).0)
]

bound_else : (q : List ℕ) (done before beside : List (List ℕ)) (test : WrittenExpr) (a b : WrittenStatement) → Bound q done before beside a → Bound q done (before ++ targets_in a) beside b → Bound q done before beside (IfElse test a b)
bound_else q done before beside test a b x y = record {
  hit_done = λ h. elim (or_cases (hits q a) (hits q b) h) [ inl p ↦ x.hit_done p | inr p ↦ y.hit_done p ];
  hit_beside = λ h. elim (or_cases (hits q a) (hits q b) h) [ inl p ↦ x.hit_beside p | inr p ↦ y.hit_beside p ];
  once = (x.once, y.once);
  fill_done = λ h. (fill_two q done before beside beside a b x y h).0;
  fill_before = λ h. (fill_two q done before beside beside a b x y h).1;
  most = most_two q done before beside beside a b x y;
}

apart_two : (q : List ℕ) (done before beside : List (List ℕ)) (a b : WrittenStatement) → Bound q done (before ++ targets_in a) (beside ++ targets_in a) b → (c : Bool) → hits q b ≡ c → (hits q a && c) ≡ false
apart_two q done before beside a b y true e = and_left (hits q a) true (unhit q a (among_apart q beside (targets_in a) (y.hit_beside e)).1)
apart_two q done before beside a b y false e = and_right (hits q a) false refl

bound_list : (q : List ℕ) (done before beside : List (List ℕ)) (a b : WrittenStatement) → Bound q done before beside a → Bound q done (before ++ targets_in a) (beside ++ targets_in a) b → Bound q done before beside (Listed a b)
bound_list q done before beside a b x y = record {
  hit_done = λ h. elim (or_cases (hits q a) (hits q b) h) [ inl p ↦ x.hit_done p | inr p ↦ y.hit_done p ];
  hit_beside = λ h. elim (or_cases (hits q a) (hits q b) h) [ inl p ↦ x.hit_beside p | inr p ↦ (among_apart q beside (targets_in a) (y.hit_beside p)).0 ];
  once = (apart_two q done before beside a b y (hits q b) refl, x.once, y.once);
  fill_done = λ h. (fill_two q done before beside (beside ++ targets_in a) a b x y h).0;
  fill_before = λ h. (fill_two q done before beside (beside ++ targets_in a) a b x y h).1;
  most = most_two q done before beside (beside ++ targets_in a) a b x y;
}

pub bound : (q : List ℕ) (done : List (List ℕ)) (s : WrittenStatement) (before beside : List (List ℕ)) → Free done before beside s → Bound q done before beside s
bound q done (Update target value) before beside f = bound_put q done before beside target value f
bound q done (UpdateWord target address value) before beside f = bound_write q done before beside target address value f
bound q done (IfThen test yes') before beside f =
    let x = bound q done yes' before beside f in
    record {
      hit_done = λ h. elim (or_cases (hits q yes') false h) [ inl p ↦ x.hit_done p | inr p ↦ absurd cc ];
      hit_beside = λ h. elim (or_cases (hits q yes') false h) [ inl p ↦ x.hit_beside p | inr p ↦ absurd cc ];
      once = (x.once, tt);
      fill_done = λ h. x.fill_done (omega arith);
      fill_before = λ h. x.fill_before (omega arith);
      most = (let m : fills q yes' ≤ 1 = x.most in omega arith);
    }
bound q done (IfElse test yes' no') before beside f = bound_else q done before beside test yes' no' (bound q done yes' before beside f.0) (bound q done no' (before ++ targets_in yes') beside f.1)
bound q done (Block statements) before beside f =
    let x = bound q done statements before beside f in
    record { hit_done = x.hit_done; hit_beside = x.hit_beside; once = x.once; fill_done = x.fill_done; fill_before = x.fill_before; most = x.most }
bound q done (Listed first rest) before beside f = bound_list q done before beside first rest (bound q done first before beside f.0) (bound q done rest (before ++ targets_in first) (beside ++ targets_in first) f.1)
bound q done Ended before beside f = record { hit_done = λ h. absurd cc; hit_beside = λ h. absurd cc; once = tt; fill_done = λ h. absurd (omega arith); fill_before = λ h. absurd (omega arith); most = omega arith }

-- ---- the same for items

pub record BoundItems (q : List ℕ) (done : List (List ℕ)) (items : List WrittenItem) : Type 0 where
  pub assigned_done : 1 ≤ assigned_in q items → is_among q done ≡ false
  pub assigned_most : assigned_in q items ≤ 1
  pub hit_done : 1 ≤ hit_in q items → is_among q done ≡ false
  pub hit_most : hit_in q items ≤ 1
  pub fill_done : 1 ≤ filled_in q items → is_among q done ≡ false
  pub fill_most : filled_in q items ≤ 1
  pub once : OnceIn q items

-- one more count, where what is counted before rules out those behind
most_more : (a b : ℕ) → a ≤ 1 → b ≤ 1 → (1 ≤ b → a ≡ 0) → a + b ≤ 1
most_more a zero h k f = omega arith
most_more a (suc b) h k f = let e : a ≡ 0 = f (omega arith) in omega arith

bound_assign : (q : List ℕ) (done : List (List ℕ)) (target : List ℕ) (value : WrittenExpr) (is : List WrittenItem) → not (is_among target done) ≡ true → BoundItems q (done ++ target ∷ []) is → BoundItems q done (Assign target value ∷ is)
bound_assign q done target value is f x =
    let here : (1 ≤ (if bytes_eq q target then 1 else 0) → is_among q done ≡ false) = λ h. sym (same_among q target done (count_true (bytes_eq q target) h)) ∙ not-true (is_among target done) f in
    record {
      assigned_done = λ h. elim (one_of (if bytes_eq q target then 1 else 0) (assigned_in q is) h) [ inl p ↦ here p | inr p ↦ (among_apart q done (target ∷ []) (x.assigned_done p)).0 ];
      assigned_most = most_more (if bytes_eq q target then 1 else 0) (assigned_in q is) (at_most_one (bytes_eq q target)) x.assigned_most
          (λ h. zero_unless (if bytes_eq q target then 1 else 0) (λ p. both_ways (is_among q (target ∷ [])) (among_apart q done (target ∷ []) (x.assigned_done h)).1 (among_one q target (count_true (bytes_eq q target) p))));
      hit_done = λ h. (among_apart q done (target ∷ []) (x.hit_done h)).0;
      hit_most = x.hit_most;
      fill_done = λ h. (among_apart q done (target ∷ []) (x.fill_done h)).0;
      fill_most = x.fill_most;
      once = x.once;
    }

bound_always : (q : List ℕ) (done : List (List ℕ)) (clock : List ℕ) (body : WrittenStatement) (is : List WrittenItem) → Bound q done [] [] body → BoundItems q (done ++ targets_in body) is → BoundItems q done (Always clock body ∷ is)
bound_always q done clock body is b x = record {
  assigned_done = λ h. (among_apart q done (targets_in body) (x.assigned_done h)).0;
  assigned_most = x.assigned_most;
  hit_done = λ h. elim (one_of (if hits q body then 1 else 0) (hit_in q is) h) [ inl p ↦ b.hit_done (count_true (hits q body) p) | inr p ↦ (among_apart q done (targets_in body) (x.hit_done p)).0 ];
  hit_most = most_more (if hits q body then 1 else 0) (hit_in q is) (at_most_one (hits q body)) x.hit_most
      (λ h. zero_unless (if hits q body then 1 else 0) (λ p. both_ways (hits q body) (unhit q body (among_apart q done (targets_in body) (x.hit_done h)).1) (count_true (hits q body) p)));
  fill_done = λ h. elim (one_of (fills q body) (filled_in q is) h) [ inl p ↦ b.fill_done p | inr p ↦ (among_apart q done (targets_in body) (x.fill_done p)).0 ];
  fill_most = most_more (fills q body) (filled_in q is) b.most x.fill_most (λ h. unfilled q body (among_apart q done (targets_in body) (x.fill_done h)).1);
  once = (b.once, x.once);
}

pub bound_items : (q : List ℕ) (items : List WrittenItem) (done : List (List ℕ)) → FreeItems done items → BoundItems q done items
bound_items q [] done f = record { assigned_done = λ h. absurd (omega arith); assigned_most = omega arith; hit_done = λ h. absurd (omega arith); hit_most = omega arith; fill_done = λ h. absurd (omega arith); fill_most = omega arith; once = tt }
bound_items q (Wires range names ∷ is) done f = let x = bound_items q is done f in record { assigned_done = x.assigned_done; assigned_most = x.assigned_most; hit_done = x.hit_done; hit_most = x.hit_most; fill_done = x.fill_done; fill_most = x.fill_most; once = x.once }
bound_items q (Registers range names ∷ is) done f = let x = bound_items q is done f in record { assigned_done = x.assigned_done; assigned_most = x.assigned_most; hit_done = x.hit_done; hit_most = x.hit_most; fill_done = x.fill_done; fill_most = x.fill_most; once = x.once }
bound_items q (MemoryOf range name last ∷ is) done f = let x = bound_items q is done f in record { assigned_done = x.assigned_done; assigned_most = x.assigned_most; hit_done = x.hit_done; hit_most = x.hit_most; fill_done = x.fill_done; fill_most = x.fill_most; once = x.once }
bound_items q (Assign target value ∷ is) done f = bound_assign q done target value is f.0 (bound_items q is (done ++ target ∷ []) f.1)
bound_items q (Always clock body ∷ is) done f = bound_always q done clock body is (bound q done body [] [] f.0) (bound_items q is (done ++ targets_in body) f.1)

-- ---- what is driven at all

abbrev pub IsCounted : List ℕ → List WrittenItem → Type 0
IsCounted q items = (1 ≤ assigned_in q items) ⊎ ((1 ≤ hit_in q items) ⊎ (1 ≤ filled_in q items))

counted_touched : (q : List ℕ) (clock : List ℕ) (body : WrittenStatement) (is : List WrittenItem) → Touched q body → IsCounted q (Always clock body ∷ is)
counted_touched q clock body is (inl h) = inr (inl (let t : 1 ≤ (if hits q body then 1 else 0) = true_count (hits q body) h in omega arith))
counted_touched q clock body is (inr h) = inr (inr (omega arith))

counted_assign : (q target : List ℕ) (value : WrittenExpr) (is : List WrittenItem) → IsCounted q is → IsCounted q (Assign target value ∷ is)
counted_assign q target value is (inl h) = inl (omega arith)
counted_assign q target value is (inr h) = inr h

counted_always : (q clock : List ℕ) (body : WrittenStatement) (is : List WrittenItem) → IsCounted q is → IsCounted q (Always clock body ∷ is)
counted_always q clock body is (inl h) = inl h
counted_always q clock body is (inr (inl h)) = inr (inl (omega arith))
counted_always q clock body is (inr (inr h)) = inr (inr (omega arith))

pub counted : (q : List ℕ) (items : List WrittenItem) → is_among q (targets_of items) ≡ true → IsCounted q items
counted q [] h = absurd cc
counted q (Wires range names ∷ is) h = counted q is h
counted q (Registers range names ∷ is) h = counted q is h
counted q (MemoryOf range name last ∷ is) h = counted q is h
counted q (Assign target value ∷ is) h = elim (or_cases (bytes_eq q target) (is_among q (targets_of is)) h) [
  | inl p ↦ inl (let t : 1 ≤ (if bytes_eq q target then 1 else 0) = true_count (bytes_eq q target) p in omega arith)
  | inr p ↦ counted_assign q target value is (counted q is p)
]
counted q (Always clock body ∷ is) h = elim (or_cases (is_among q (targets_in body)) (is_among q (targets_of is)) (sym (among_join q (targets_in body) (targets_of is)) ∙ h)) [
  | inl p ↦ counted_touched q clock body is (touched q body p)
  | inr p ↦ counted_always q clock body is (counted q is p)
]

pub assigned_target : (q : List ℕ) (items : List WrittenItem) → 1 ≤ assigned_in q items → is_among q (targets_of items) ≡ true
assigned_target q [] h = absurd (omega arith)
assigned_target q (Wires range names ∷ is) h = assigned_target q is h
assigned_target q (Registers range names ∷ is) h = assigned_target q is h
assigned_target q (MemoryOf range name last ∷ is) h = assigned_target q is h
assigned_target q (Assign target value ∷ is) h = elim (one_of (if bytes_eq q target then 1 else 0) (assigned_in q is) h) [ inl p ↦ or_left (bytes_eq q target) (is_among q (targets_of is)) (count_true (bytes_eq q target) p) | inr p ↦ or_right (bytes_eq q target) (is_among q (targets_of is)) (assigned_target q is p) ]
assigned_target q (Always clock body ∷ is) h = among_right q (targets_in body) (targets_of is) (assigned_target q is h)

pub hit_targets : (q : List ℕ) (items : List WrittenItem) → 1 ≤ hit_in q items → is_among q (targets_of items) ≡ true
hit_targets q [] h = absurd (omega arith)
hit_targets q (Wires range names ∷ is) h = hit_targets q is h
hit_targets q (Registers range names ∷ is) h = hit_targets q is h
hit_targets q (MemoryOf range name last ∷ is) h = hit_targets q is h
hit_targets q (Assign target value ∷ is) h = or_right (bytes_eq q target) (is_among q (targets_of is)) (hit_targets q is h)
hit_targets q (Always clock body ∷ is) h = elim (one_of (if hits q body then 1 else 0) (hit_in q is) h) [ inl p ↦ among_left q (targets_in body) (targets_of is) (hit_target q body (count_true (hits q body) p)) | inr p ↦ among_right q (targets_in body) (targets_of is) (hit_targets q is p) ]

pub fill_targets : (q : List ℕ) (items : List WrittenItem) → 1 ≤ filled_in q items → is_among q (targets_of items) ≡ true
fill_targets q [] h = absurd (omega arith)
fill_targets q (Wires range names ∷ is) h = fill_targets q is h
fill_targets q (Registers range names ∷ is) h = fill_targets q is h
fill_targets q (MemoryOf range name last ∷ is) h = fill_targets q is h
fill_targets q (Assign target value ∷ is) h = or_right (bytes_eq q target) (is_among q (targets_of is)) (fill_targets q is h)
fill_targets q (Always clock body ∷ is) h = elim (one_of (fills q body) (filled_in q is) h) [ inl p ↦ among_left q (targets_in body) (targets_of is) (fill_target q body p) | inr p ↦ among_right q (targets_in body) (targets_of is) (fill_targets q is p) ]
