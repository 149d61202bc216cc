-- The nets that passes find are those on which a net depends.
use Rattle.std.proofs.Common.{◌≡◌, ℕ, zero, suc, ◌+◌, ◌<◌, ◌≤◌, inl, inr, Bool, true, false, List, [], ◌∷◌, ◌++◌, length, take, drop, get_or, map, Some, refl, sym, ap, subst, ◌∙◌, arith, length-append}
use Rattle.std.specs.Prelude.{◌&&◌, ◌||◌, nat_eq, fold, if◌then◌else◌, slice_get}
use Rattle.std.specs.List.{AllByRecursion}
use Rattle.std.proofs.lemmas.Bool.{or_cases, or_left, or_right, and_parts, and_from, eqb-true, eq-eqb, both_ways, cases_order}
use Rattle.std.proofs.lemmas.List.{map-append}
use Rattle.std.proofs.lemmas.List.Sums.{fold-append}
use Rattle.gl_bits.proofs.Bools.{or_none, or_join, eq_turned}
use Rattle.gl_bits.proofs.AllLists.{length_map}
use Rattle.gl_verilog.specs.Module.{Expr, Net, Literal, Invert, Binary, Choose, Join, Select, Read, Assignment}
use Rattle.gl_verilog.specs.Valid.{mentions, depends, IsChain}
use Rattle.gl_verilog.proofs.Acyclic.{chain-join}
use Rattle.gl_verilog_faults.specs.Demands.{IsLooped}
use Rattle.gl_verilog_loops.specs.Looping.{nets_in, is_found, with_net, with_nets, led, seeded, spread, Reached, Grows, IsTold, IsFirstLooped}

pub nets_both : (found : List ℕ) (op : _) (w : ℕ) (x y : Expr) → with_nets found (Binary op w x y) ≡ with_nets (with_nets found x) y
nets_both found op w x y = fold-append with_net found (nets_in x) (nets_in y)

pub nets_join : (found : List ℕ) (w : ℕ) (x y : Expr) → with_nets found (Join w x y) ≡ with_nets (with_nets found x) y
nets_join found w x y = fold-append with_net found (nets_in x) (nets_in y)

pub nets_three : (found : List ℕ) (t x y : Expr) → with_nets found (Choose t x y) ≡ with_nets (with_nets (with_nets found t) x) y
nets_three found t x y = fold-append with_net found (nets_in t) (nets_in x ++ nets_in y) ∙ fold-append with_net (with_nets found t) (nets_in x) (nets_in y)

pub ruleset folds = (nets_both, nets_join, nets_three)

-- ---- what is found

found_push : (found : List ℕ) (m n : ℕ) → is_found (found ++ m ∷ []) n ≡ (is_found found n || nat_eq n m)
found_push [] m n = or_none (nat_eq n m)
found_push (x ∷ found) m n = ap (λ (b : Bool). nat_eq n x || b) (found_push found m n) ∙ sym (or_join (nat_eq n x) (is_found found n) (nat_eq n m))

found_net : (found : List ℕ) (m n : ℕ) → is_found (with_net found m) n ≡ (is_found found n || nat_eq n m)
found_net found m n = by (is_found found m) refl
  where
    there : (t : Bool) → nat_eq n m ≡ t → is_found found m ≡ true → is_found found n ≡ (is_found found n || t)
    there true e h = (let same : is_found found n ≡ true = subst (λ (k : ℕ). is_found found k ≡ true) (sym (eqb-true n m e)) h in rw same refl)
    there false e h = sym (or_none (is_found found n))

    by : (b : Bool) → is_found found m ≡ b → is_found (if b then found else found ++ m ∷ []) n ≡ (is_found found n || nat_eq n m)
    by true e = there (nat_eq n m) refl e
    by false e = found_push found m n

found_all : (ms found : List ℕ) (n : ℕ) → is_found (fold with_net found ms) n ≡ (is_found found n || is_found ms n)
found_all [] found n = sym (or_none (is_found found n))
found_all (m ∷ ms) found n = found_all ms (with_net found m) n ∙ ap (λ (b : Bool). b || is_found ms n) (found_net found m n) ∙ or_join (is_found found n) (nat_eq n m) (is_found ms n)

found_parts : (xs ys : List ℕ) (n : ℕ) → is_found (xs ++ ys) n ≡ (is_found xs n || is_found ys n)
found_parts [] ys n = refl
found_parts (x ∷ xs) ys n = ap (λ (b : Bool). nat_eq n x || b) (found_parts xs ys n) ∙ sym (or_join (nat_eq n x) (is_found xs n) (is_found ys n))

one_net : (k n : ℕ) → is_found (k ∷ []) n ≡ nat_eq k n
one_net k n = or_none (nat_eq n k) ∙ eq_turned n k

two_nets : (xs ys : List ℕ) (a b : Bool) (n : ℕ) → is_found xs n ≡ a → is_found ys n ≡ b → is_found (xs ++ ys) n ≡ (a || b)
two_nets xs ys a b n e f = found_parts xs ys n ∙ rw (e, f) refl

-- the nets in an expression are those that it mentions
nets_are : (e : Expr) (n : ℕ) → is_found (nets_in e) n ≡ mentions e n
nets_are (Net k) n = one_net k n
nets_are (Literal value width) n = refl
nets_are (Invert width arg) n = nets_are arg n
nets_are (Binary op width left right) n = two_nets (nets_in left) (nets_in right) _ _ n (nets_are left n) (nets_are right n)
nets_are (Choose test yes' no') n = two_nets (nets_in test) (nets_in yes' ++ nets_in no') _ _ n (nets_are test n) (two_nets (nets_in yes') (nets_in no') _ _ n (nets_are yes' n) (nets_are no' n))
nets_are (Join low_width high low) n = two_nets (nets_in high) (nets_in low) _ _ n (nets_are high n) (nets_are low n)
nets_are (Select high low k) n = one_net k n
nets_are (Read memory address) n = nets_are address n

found_more : (found : List ℕ) (e : Expr) (n : ℕ) → is_found (with_nets found e) n ≡ (is_found found n || mentions e n)
found_more found e n = found_all (nets_in e) found n ∙ ap (λ (b : Bool). is_found found n || b) (nets_are e n)

found_led : (leads : Bool) (found : List ℕ) (e : Expr) (n : ℕ) → is_found (led leads found e) n ≡ (is_found found n || (leads && mentions e n))
found_led true found e n = found_more found e n
found_led false found e n = sym (or_none (is_found found n))

-- ---- what is found at first

seeded_is : (t : ℕ) (as' : List Assignment) (n : ℕ) → is_found (seeded t as' []) n ≡ depends as' t n
seeded_is t [] n = refl
seeded_is t (a ∷ rest) n =
    found_led (nat_eq a.target t) (seeded t rest []) a.value n
    ∙ ap (λ (b : Bool). b || (nat_eq a.target t && mentions a.value n)) (seeded_is t rest n)
    ∙ swapped (depends rest t n) (nat_eq a.target t && mentions a.value n)
  where
    swapped : (a b : Bool) → (a || b) ≡ (b || a)
    swapped true true = refl
    swapped true false = refl
    swapped false true = refl
    swapped false false = refl

-- ---- what a pass finds

kept : (as' : List Assignment) (found : List ℕ) (n : ℕ) → is_found found n ≡ true → is_found (spread as' found) n ≡ true
kept [] found n h = h
kept (a ∷ rest) found n h = found_led (is_found (spread rest found) a.target) (spread rest found) a.value n ∙ or_left (is_found (spread rest found) n) (is_found (spread rest found) a.target && mentions a.value n) (kept rest found n h)

-- a net that is found leads to what it depends on
leads : (as' : List Assignment) (found : List ℕ) (t n : ℕ) → is_found found t ≡ true → depends as' t n ≡ true → is_found (spread as' found) n ≡ true
leads [] found t n h e = absurd cc
leads (a ∷ rest) found t n h e =
    found_led (is_found (spread rest found) a.target) (spread rest found) a.value n ∙ (elim (or_cases (nat_eq a.target t && mentions a.value n) (depends rest t n) e) [
      | inl p ↦ (let q = and_parts (nat_eq a.target t) (mentions a.value n) p in
          or_right (is_found (spread rest found) n) (is_found (spread rest found) a.target && mentions a.value n)
          (and_from (is_found (spread rest found) a.target) (mentions a.value n) (kept rest found a.target (subst (λ (k : ℕ). is_found found k ≡ true) (sym (eqb-true a.target t q.0)) h)) q.1))
      | inr p ↦ or_left (is_found (spread rest found) n) (is_found (spread rest found) a.target && mentions a.value n) (leads rest found t n h p)
    ])

abbrev Among : List Assignment → List Assignment → Type 0
Among all part = (t n : ℕ) → depends part t n ≡ true → depends all t n ≡ true

own : (t : ℕ) (a : Assignment) (rest : List Assignment) (n : ℕ) → a.target ≡ t → mentions a.value n ≡ true → depends (a ∷ rest) t n ≡ true
own t a rest n e h = or_left (nat_eq a.target t && mentions a.value n) (depends rest t n) (and_from (nat_eq a.target t) (mentions a.value n) (subst (λ (k : ℕ). nat_eq a.target k ≡ true) e (eq-eqb a.target a.target refl)) h)

reached_part : (all part : List Assignment) (t : ℕ) (found : List ℕ) → Among all part → Reached all t found → Reached all t (spread part found)
reached_part all [] t found m r n h = r n h
reached_part all (a ∷ rest) t found m r n h =
    let ih : Reached all t (spread rest found) = reached_part all rest t found (λ x y e. m x y (or_right (nat_eq a.target x && mentions a.value y) (depends rest x y) e)) r in
    elim (or_cases (is_found (spread rest found) n) (is_found (spread rest found) a.target && mentions a.value n) (sym (found_led (is_found (spread rest found) a.target) (spread rest found) a.value n) ∙ h)) [
      | inl p ↦ ih n p
      | inr p ↦ (let q = and_parts (is_found (spread rest found) a.target) (mentions a.value n) p in let w = ih a.target q.0 in
          (w.0 ++ a.target ∷ [], chain-join (depends all) t w.0 a.target [] n w.1 (m a.target n (own a.target a rest n refl q.1))))
    ]

pub reached_next : (all : List Assignment) (t : ℕ) (found found' : List ℕ) → found' ≡ spread all found → Reached all t found → Reached all t found'
reached_next all t found found' e r = subst (Reached all t) (sym e) (reached_part all all t found (λ x y h. h) r)

pub reached_first : (all : List Assignment) (t : ℕ) (found : List ℕ) → found ≡ seeded t all [] → Reached all t found
reached_first all t found e n h = ([], sym (seeded_is t all n) ∙ subst (λ (k : List ℕ). is_found k n ≡ true) e h)

abbrev pub Holds : List Assignment → ℕ → List ℕ → Type 0
Holds all t found = (n : ℕ) → depends all t n ≡ true → is_found found n ≡ true

pub holds_first : (all : List Assignment) (t : ℕ) (found : List ℕ) → found ≡ seeded t all [] → Holds all t found
holds_first all t found e n h = subst (λ (k : List ℕ). is_found k n ≡ true) (sym e) (seeded_is t all n ∙ h)

pub holds_next : (all : List Assignment) (t : ℕ) (found found' : List ℕ) → found' ≡ spread all found → Holds all t found → Holds all t found'
holds_next all t found found' e r n h = subst (λ (k : List ℕ). is_found k n ≡ true) (sym e) (kept all found n (r n h))

-- ---- a pass that finds no more

longer : (b : Bool) (found : List ℕ) (m : ℕ) → length found ≤ length (if b then found else found ++ m ∷ [])
longer true found m = omega arith
longer false found m = omega (arith, length-append found (m ∷ []))

all_longer : (ms found : List ℕ) → length found ≤ length (fold with_net found ms)
all_longer [] found = omega arith
all_longer (m ∷ ms) found = omega (arith, longer (is_found found m) found m, all_longer ms (with_net found m))

same_net : (b : Bool) (found : List ℕ) (m : ℕ) → length (if b then found else found ++ m ∷ []) ≤ length found → (if b then found else found ++ m ∷ []) ≡ found
same_net true found m h = refl
same_net false found m h = absurd (omega (arith, length-append found (m ∷ [])))

same_all : (ms found : List ℕ) → length (fold with_net found ms) ≤ length found → fold with_net found ms ≡ found
same_all [] found h = refl
same_all (m ∷ ms) found h =
    let one : with_net found m ≡ found = same_net (is_found found m) found m (omega (arith, all_longer ms (with_net found m))) in
    ap (λ (k : List ℕ). fold with_net k ms) one ∙ same_all ms found (subst (λ (k : List ℕ). length (fold with_net k ms) ≤ length found) one h)

led_longer : (b : Bool) (found : List ℕ) (e : Expr) → length found ≤ length (led b found e)
led_longer true found e = all_longer (nets_in e) found
led_longer false found e = omega arith

led_same : (b : Bool) (found : List ℕ) (e : Expr) → length (led b found e) ≤ length found → led b found e ≡ found
led_same true found e h = same_all (nets_in e) found h
led_same false found e h = refl

spread_longer : (as' : List Assignment) (found : List ℕ) → length found ≤ length (spread as' found)
spread_longer [] found = omega arith
spread_longer (a ∷ rest) found = omega (arith, led_longer (is_found (spread rest found) a.target) (spread rest found) a.value, spread_longer rest found)

-- a pass that does not find as many finds more
pub grown : (all : List Assignment) (found found' : List ℕ) → found' ≡ spread all found → (length found' ≡ length found → ⊥) → length found < length found'
grown all found found' e other =
    let least : length found ≤ length found' = subst (λ (k : List ℕ). length found ≤ length k) (sym e) (spread_longer all found) in
    elim (cases_order (length found') (length found)) [ inl same ↦ absurd (other same) | inr (inl less) ↦ absurd (omega (arith, less, least)) | inr (inr more) ↦ more ]

pub spread_same : (as' : List Assignment) (found : List ℕ) → length (spread as' found) ≤ length found → spread as' found ≡ found
spread_same [] found h = refl
spread_same (a ∷ rest) found h =
    let part : length (spread rest found) ≤ length found = omega (arith, led_longer (is_found (spread rest found) a.target) (spread rest found) a.value) in
    led_same (is_found (spread rest found) a.target) (spread rest found) a.value (omega (arith, spread_longer rest found)) ∙ spread_same rest found part

all_reached : (all : List Assignment) (found : List ℕ) → spread all found ≡ found → (us : List ℕ) (x y : ℕ) → is_found found x ≡ true → IsChain (depends all) x us y → is_found found y ≡ true
all_reached all found e [] x y h c = subst (λ (k : List ℕ). is_found k y ≡ true) e (leads all found x y h c)
all_reached all found e (u ∷ us) x y h c = all_reached all found e us u y (subst (λ (k : List ℕ). is_found k u ≡ true) e (leads all found x u h c.0)) c.1

found_loop : (all : List Assignment) (t : ℕ) (found : List ℕ) → spread all found ≡ found → Holds all t found → (us : List ℕ) → IsChain (depends all) t us t → is_found found t ≡ true
found_loop all t found e h [] c = h t c
found_loop all t found e h (u ∷ us) c = all_reached all found e us u t (h u c.0) c.1

-- then it is told whether the net depends on itself
pub told : (all : List Assignment) (t : ℕ) (found found' : List ℕ) (b : Bool) → found' ≡ spread all found → length found' ≤ length found → Reached all t found → Holds all t found → b ≡ is_found found' t → IsTold b (IsLooped all t)
told all t found found' b e len r h is =
    let same : spread all found ≡ found = spread_same all found (subst (λ (k : List ℕ). length k ≤ length found) e len) in
    subst (λ (x : Bool). IsTold x (IsLooped all t)) (sym (is ∙ ap (λ (k : List ℕ). is_found k t) (e ∙ same))) (by (is_found found t) refl same)
  where
    by : (x : Bool) → is_found found t ≡ x → spread all found ≡ found → IsTold x (IsLooped all t)
    by true f same = r t f
    by false f same = λ l. (let g : is_found found t ≡ true = found_loop all t found same h l.0 l.1 in both_ways (is_found found t) f g)

-- ---- what is found more

pub kept_net : (found : List ℕ) (m n : ℕ) → is_found found n ≡ true → is_found (with_net found m) n ≡ true
kept_net found m n h = found_net found m n ∙ or_left (is_found found n) (nat_eq n m) h

pub found_own : (found : List ℕ) (m : ℕ) → is_found (with_net found m) m ≡ true
found_own found m = found_net found m m ∙ or_right (is_found found m) (nat_eq m m) (eq-eqb m m refl)

depends_at : {B : Type 0} (f : B → Assignment) (xs : List B) (i : ℕ) (x : B) (n : ℕ) → slice_get xs i ≡ Some x → mentions (f x).value n ≡ true → depends (map f xs) (f x).target n ≡ true
depends_at f [] i x n e h = absurd cc
depends_at f (y ∷ xs) zero x n e h = (let same : x ≡ y = cc in own (f x).target (f y) (map f xs) n (ap (λ (z : _). (f z).target) (sym same)) (subst (λ (z : _). mentions (f z).value n ≡ true) same h))
depends_at f (y ∷ xs) (suc i) x n e h = or_right (nat_eq (f y).target (f x).target && mentions (f y).value n) (depends (map f xs) (f x).target n) (depends_at f xs i x n e h)

pub grows_led : {B : Type 0} (f : B → Assignment) (xs : List B) (i : ℕ) (x : B) (old new : List ℕ) → Some x ≡ slice_get xs i → is_found old (f x).target ≡ true → new ≡ with_nets old (f x).value → Grows (map f xs) old new
grows_led f xs i x old new at found e = record {
  kept = λ n h. subst (λ (l : List ℕ). is_found l n ≡ true) (sym e) (found_more old (f x).value n ∙ or_left (is_found old n) (mentions (f x).value n) h);
  reached = λ t r n h. elim (or_cases (is_found old n) (mentions (f x).value n) (sym (found_more old (f x).value n) ∙ subst (λ (l : List ℕ). is_found l n ≡ true) e h)) [
    | inl p ↦ r n p
    | inr p ↦ (let w = r (f x).target found in (w.0 ++ (f x).target ∷ [], chain-join (depends (map f xs)) t w.0 (f x).target [] n w.1 (depends_at f xs i x n (sym at) p)))
  ];
}

-- ---- the first of a list

split_at : {B : Type 0} (xs : List B) (i : ℕ) (d : B) → i < length xs → (xs ≡ take i xs ++ get_or xs i d ∷ drop (i + 1) xs) × (length (take i xs) ≡ i)
split_at [] i d h = absurd (omega arith)
split_at (x ∷ xs) zero d h = (refl, refl)
split_at (x ∷ xs) (suc i) d h =
    let r = split_at xs i d (omega arith) in
    (ap (λ (l : List _). x ∷ l) r.0 ∙ ap (λ (n : ℕ). x ∷ (take i xs ++ get_or xs i d ∷ drop n (x ∷ xs))) (let e : suc (i + 1) ≡ suc i + 1 = omega arith in e), ap suc r.1)

pub first_here : {B : Type 0} (g : B → Assignment) (xs : List B) (i : ℕ) (x : B) → i < length xs → x ≡ get_or xs i x → AllByRecursion (λ a. IsLooped (map g xs) a.target → ⊥) (map g (take i xs)) → IsLooped (map g xs) (g x).target → IsFirstLooped (map g xs) i
first_here g xs i x lt e free loops =
    let s = split_at xs i x lt in
    record {
      front = map g (take i xs);
      looped = g x;
      back = map g (drop (i + 1) xs);
      parts = ap (map g) (s.0 ∙ ap (λ (y : _). take i xs ++ y ∷ drop (i + 1) xs) (sym e)) ∙ map-append g (take i xs) (x ∷ drop (i + 1) xs);
      place = length_map g (take i xs) ∙ s.1;
      free = free;
      loops = loops;
    }
