-- Names that are new, one after another, are distinct.
use Rattle.std.proofs.Common.{◌≡◌, ℕ, Bool, true, false, not, ◌&&◌, ◌||◌, List, [], ◌∷◌, ◌++◌, map, refl, sym, ap, ◌∙◌, Bor}
use Rattle.std.specs.Prelude.{bytes_eq, if◌then◌else◌}
use Rattle.std.specs.List.{AllByRecursion, list_any}
use Rattle.gl_bits.proofs.Bools.{and_left, and_right, and_both, neither, neither_left, neither_right, not_true, not_false, bytes_turned}
use Rattle.gl_verilog.specs.Module.{Declaration}
use Rattle.gl_verilog.specs.Valid.{Differs, AreDistinct}
use Rattle.gl_verilog_check.specs.Tests.{are_new}

-- no name is one of these
abbrev AreApart : List (List ℕ) → List Declaration → Type 0
AreApart names ds = AllByRecursion (λ d. list_any (bytes_eq d.name) names ≡ false) ds

push_parts : (p : List ℕ → Bool) (xs : List (List ℕ)) (x : List ℕ) → list_any p (xs ++ x ∷ []) ≡ false → (list_any p xs ≡ false) × (p x ≡ false)
push_parts p [] x h = (refl, neither_left (p x) false h)
push_parts p (y ∷ xs) x h =
    let r = push_parts p xs x (neither_right (p y) (list_any p (xs ++ x ∷ [])) h) in
    (neither (p y) (list_any p xs) (neither_left (p y) (list_any p (xs ++ x ∷ [])) h) r.0, r.1)

parts_push : (p : List ℕ → Bool) (xs : List (List ℕ)) (x : List ℕ) → list_any p xs ≡ false → p x ≡ false → list_any p (xs ++ x ∷ []) ≡ false
parts_push p [] x h k = neither (p x) false k refl
parts_push p (y ∷ xs) x h k =
    neither (p y) (list_any p (xs ++ x ∷ [])) (neither_left (p y) (list_any p xs) h)
    (parts_push p xs x (neither_right (p y) (list_any p xs) h) k)

apart_parts : (names : List (List ℕ)) (d : Declaration) (ds : List Declaration) → AreApart (names ++ d.name ∷ []) ds → Differs d ds × AreApart names ds
apart_parts names d [] h = (tt, tt)
apart_parts names d (e ∷ es) h =
    let p = push_parts (bytes_eq e.name) names d.name h.0 in
    let r = apart_parts names d es h.1 in
    ((bytes_turned e.name d.name p.1, r.0), (p.0, r.1))

parts_apart : (names : List (List ℕ)) (d : Declaration) (ds : List Declaration) → Differs d ds → AreApart names ds → AreApart (names ++ d.name ∷ []) ds
parts_apart names d [] h k = tt
parts_apart names d (e ∷ es) h k = (parts_push (bytes_eq e.name) names d.name k.0 (bytes_turned d.name e.name h.0), parts_apart names d es h.1 k.1)

new_parts : (names : List (List ℕ)) (ds : List Declaration) → are_new names ds ≡ true → AreDistinct ds × AreApart names ds
new_parts names [] h = (tt, tt)
new_parts names (d ∷ ds) h =
    let old = list_any (bytes_eq d.name) names in
    let rest = are_new (names ++ d.name ∷ []) ds in
    let r = new_parts (names ++ d.name ∷ []) ds (and_right (not old) rest h) in
    let p = apart_parts names d ds r.1 in
    ((p.0, r.0), (not_true old (and_left (not old) rest h), p.1))

parts_new : (names : List (List ℕ)) (ds : List Declaration) → AreDistinct ds → AreApart names ds → are_new names ds ≡ true
parts_new names [] h k = refl
parts_new names (d ∷ ds) h k =
    let old = list_any (bytes_eq d.name) names in
    and_both (not old) (are_new (names ++ d.name ∷ []) ds) (not_false old k.0)
    (parts_new (names ++ d.name ∷ []) ds h.1 (parts_apart names d ds h.0 k.1))

none_before : (ds : List Declaration) → AreApart [] ds
none_before [] = tt
none_before (d ∷ ds) = (refl, none_before ds)

pub new_distinct : (ds : List Declaration) → are_new [] ds ≡ true → AreDistinct ds
new_distinct ds h = (new_parts [] ds h).0

pub distinct_new : (ds : List Declaration) → AreDistinct ds → are_new [] ds ≡ true
distinct_new ds h = parts_new [] ds h (none_before ds)

-- ---- a set of names

any_now : (p : List ℕ → Bool) (names : List (Bor (List ℕ))) → list_any p (map (λ k. k.now) names) ≡ list_any (λ k. p k.now) names
any_now p [] = refl
any_now p (k ∷ names) = ap (λ (b : Bool). p k.now || b) (any_now p names)

-- a name that the set has is not new
pub not_new : (names : List (Bor (List ℕ))) (d : Declaration) (ds : List Declaration) (is_new : Bool) → is_new ≡ not (list_any (λ k. bytes_eq d.name k.now) names) → is_new ≡ false → false ≡ are_new (map (λ k. k.now) names) (d ∷ ds)
not_new names d ds is_new e f =
    let rest = are_new (map (λ k. k.now) names ++ d.name ∷ []) ds in
    sym (ap (λ (b : Bool). not b && rest) (any_now (bytes_eq d.name) names) ∙ ap (λ (b : Bool). b && rest) (sym e ∙ f))

map_push : (names : List (Bor (List ℕ))) (x : Bor (List ℕ)) → map (λ (k : Bor (List ℕ)). k.now) (names ++ x ∷ []) ≡ map (λ (k : Bor (List ℕ)). k.now) names ++ x.now ∷ []
map_push [] x = refl
map_push (k ∷ names) x = ap (λ (xs : List (List ℕ)). k.now ∷ xs) (map_push names x)

-- one that it lacks is added
pub new_more : (names names' : List (Bor (List ℕ))) (x : Bor (List ℕ)) (d : Declaration) (ds : List Declaration) (is_new : Bool) → x.now ≡ d.name → is_new ≡ not (list_any (λ k. bytes_eq x.now k.now) names)
    → names' ≡ (if list_any (λ k. bytes_eq x.now k.now) names then names else names ++ x ∷ []) → is_new ≡ true → are_new (map (λ k. k.now) names') ds ≡ are_new (map (λ k. k.now) names) (d ∷ ds)
new_more names names' x d ds is_new same added keys new =
    let none : list_any (λ (k : Bor (List ℕ)). bytes_eq x.now k.now) names ≡ false = not_true (list_any (λ (k : Bor (List ℕ)). bytes_eq x.now k.now) names) (sym added ∙ new) in
    let pushed : names' ≡ names ++ x ∷ [] = keys ∙ rw none refl in
    let texts : map (λ (k : Bor (List ℕ)). k.now) names' ≡ map (λ (k : Bor (List ℕ)). k.now) names ++ d.name ∷ [] =
    ap (map (λ (k : Bor (List ℕ)). k.now)) pushed ∙ map_push names x ∙ ap (λ (n : List ℕ). map (λ (k : Bor (List ℕ)). k.now) names ++ n ∷ []) same in
    let none' : list_any (bytes_eq d.name) (map (λ (k : Bor (List ℕ)). k.now) names) ≡ false = any_now (bytes_eq d.name) names ∙ ap (λ (n : List ℕ). list_any (λ (k : Bor (List ℕ)). bytes_eq n k.now) names) (sym same) ∙ none in
    ap (λ (ns : List (List ℕ)). are_new ns ds) texts ∙ sym (ap (λ (b : Bool). not b && are_new (map (λ (k : Bor (List ℕ)). k.now) names ++ d.name ∷ []) ds) none')
