-- The cycles in which a wire carries something, as the entries of a queue.
use Rattle.std.proofs.Common.{◌≡◌, ℕ, zero, suc, ◌+◌, ◌-◌, ◌<◌, ◌≤◌, List, [], ◌∷◌, ◌++◌, map, Option, Some, None, Bool, true, false, refl, sym, ap, ◌∙◌, arith, inl, inr, append_assoc}
use Rattle.std.specs.Prelude.{option_to_list, is_some, if◌then◌else◌}
use Rattle.std.specs.Option.{option_map}
use Rattle.std.proofs.lemmas.Bool.{cases_lt, or_parts}
use Rattle.std.proofs.lemmas.List.{append-nil, map-append}
use Rattle.gl_values.specs.Results.{Row}
use Rattle.gl_bits.proofs.AllLists.{heads}
use Rattle.gl_wire.specs.Wire.{Carried, pending, rows}
use Rattle.gl_queue.specs.Queue.{behind, entries}
use Rattle.gl_wire.specs.Apart.{carries}
use Rattle.gl_queue.specs.Spacing.{entry_at, arrives}

-- a cycle in which it carries something
abbrev pub tag : Carried → ℕ → Option ℕ
tag s c = if carries s c then Some c else None

-- those of n cycles from this one on
abbrev pub cycles : Carried → ℕ → ℕ → List ℕ
cycles s v zero = []
cycles s v (suc n) = option_to_list (tag s v) ++ cycles s (suc v) n

pub cycles-push : (s : Carried) (n v : ℕ) → cycles s v (suc n) ≡ cycles s v n ++ option_to_list (tag s (v + n))
cycles-push s zero v = let e : v + zero ≡ v = omega arith in rw e (append-nil (option_to_list (tag s v)))
cycles-push s (suc n) v =
    let e : suc v + n ≡ v + suc n = omega arith in
    ap (λ l. option_to_list (tag s v) ++ l) (cycles-push s n (suc v)) ∙ sym (append_assoc (option_to_list (tag s v)) (cycles s (suc v) n) (option_to_list (tag s (suc v + n)))) ∙ ap (λ i. cycles s v (suc n) ++ option_to_list (tag s i)) e

-- the first of them, and what is behind it
pub record First (s : Carried) (v n w : ℕ) (rest : List ℕ) : Type 0 where
  pub from : v ≤ w
  pub to : w < v + n
  pub here : carries s w ≡ true
  pub none : (x : ℕ) → v ≤ x → x < w → carries s x ≡ false
  pub behind_it : rest ≡ cycles s (suc w) (v + n - suc w)

tail_is : (x y : ℕ) (xs ys : List ℕ) → x ∷ xs ≡ y ∷ ys → xs ≡ ys
tail_is x y xs ys h = cc

pub first : (s : Carried) (n v w : ℕ) (rest : List ℕ) → cycles s v n ≡ w ∷ rest → First s v n w rest
first s zero v w rest h = absurd (cc h)
first s (suc n) v w rest h = by (carries s v) refl (first s n (suc v) w rest)
  where
    by : (b : Bool) → carries s v ≡ b → (cycles s (suc v) n ≡ w ∷ rest → First s (suc v) n w rest) → First s v (suc n) w rest
    by true p again =
        let q : v ∷ cycles s (suc v) n ≡ w ∷ rest = rw p at h in
        let e : v ≡ w = heads v w (cycles s (suc v) n) rest q in
        let r : cycles s (suc v) n ≡ rest = tail_is v w (cycles s (suc v) n) rest q in
        let m : v + suc n - suc w ≡ n = omega (arith, e) in
        record {
          from = omega (arith, e);
          to = omega (arith, e);
          here = sym (ap (carries s) e) ∙ p;
          none = λ x l m. absurd (omega (arith, e, l, m));
          behind_it = rw m (sym r ∙ ap (λ i. cycles s (suc i) n) e);
        }
    by false p again =
        let q : cycles s (suc v) n ≡ w ∷ rest = rw p at h in
        let f = again q in
        let m : suc v + n - suc w ≡ v + suc n - suc w = omega arith in
        record {
          from = (let l = f.from in omega (arith, l));
          to = (let l = f.to in omega (arith, l));
          here = f.here;
          none = λ x l m. elim (cases_lt v x) [ inl i ↦ f.none x i m | inr i ↦ (let e : v ≡ x = omega (arith, i, l) in sym (ap (carries s) e) ∙ p) ];
          behind_it = f.behind_it ∙ ap (cycles s (suc w)) m;
        }

pub none_tuple : (s : Carried) (c : ℕ) → carries s c ≡ false → s.tuple c ≡ None
none_tuple s c h = by (s.tuple c) refl
  where
    by : (o : Option Row) → s.tuple c ≡ o → o ≡ None
    by None p = refl
    by (Some r) p = absurd (let z : true ≡ false = rw p at h in cc z)

pub none_end : (s : Carried) (c : ℕ) → carries s c ≡ false → s.ends c ≡ false
none_end s c h = (or_parts (is_some (s.tuple c)) (s.ends c) h).1

-- where nothing comes, nothing changes
pub pending-quiet : (s : Carried) (n v : ℕ) → ((x : ℕ) → v ≤ x → x < v + n → carries s x ≡ false) → pending s (v + n) ≡ pending s v
pending-quiet s zero v h = let e : v + zero ≡ v = omega arith in ap (pending s) e
pending-quiet s (suc n) v h =
    let e : v + suc n ≡ suc (v + n) = omega arith in
    let q : carries s (v + n) ≡ false = h (v + n) (omega arith) (omega arith) in
    ap (pending s) e ∙ rw (none_end s (v + n) q, none_tuple s (v + n) q) (append-nil (pending s (v + n)) ∙ pending-quiet s n v (λ x l m. h x l (omega arith)))

-- the rows of some cycles
abbrev pub rows_at : Carried → List ℕ → List Row
rows_at s [] = []
rows_at s (v ∷ vs) = option_to_list (s.tuple v) ++ rows_at s vs

pub rows_at-append : (s : Carried) (xs ys : List ℕ) → rows_at s (xs ++ ys) ≡ rows_at s xs ++ rows_at s ys
rows_at-append s [] ys = refl
rows_at-append s (x ∷ xs) ys = ap (λ l. option_to_list (s.tuple x) ++ l) (rows_at-append s xs ys) ∙ sym (append_assoc (option_to_list (s.tuple x)) (rows_at s xs) (rows_at s ys))

pub rows_at-tag : (s : Carried) (c : ℕ) → rows_at s (option_to_list (tag s c)) ≡ option_to_list (s.tuple c)
rows_at-tag s c = by (carries s c) refl
  where
    by : (b : Bool) → carries s c ≡ b → rows_at s (option_to_list (if carries s c then Some c else None)) ≡ option_to_list (s.tuple c)
    by true p = rw p (append-nil (option_to_list (s.tuple c)))
    by false p = rw (p, none_tuple s c p) refl

pub rows_at-cycles : (s : Carried) (n v : ℕ) → rows_at s (cycles s v n) ≡ rows s v n
rows_at-cycles s zero v = refl
rows_at-cycles s (suc n) v = rows_at-append s (option_to_list (tag s v)) (cycles s (suc v) n) ∙ ap (λ l. l ++ rows_at s (cycles s (suc v) n)) (rows_at-tag s v) ∙ ap (λ l. option_to_list (s.tuple v) ++ l) (rows_at-cycles s n (suc v))

-- a queue of entries holds what a queue of cycles names
mapped-list : {A B : Type 0} (f : A → B) (o : Option A) → option_to_list (option_map f o) ≡ map f (option_to_list o)
mapped-list f None = refl
mapped-list f (Some x) = refl

mapped-behind : {A B : Type 0} (f : A → B) (xs : List A) → behind (map f xs) ≡ map f (behind xs)
mapped-behind f [] = refl
mapped-behind f (x ∷ xs) = refl

mapped-rest : {A B : Type 0} (f : A → B) (g : Bool) (xs : List A) → (if g then behind (map f xs) else map f xs) ≡ map f (if g then behind xs else xs)
mapped-rest f true xs = mapped-behind f xs
mapped-rest f false xs = refl

pub entries-map : {A B : Type 0} (f : A → B) (push : ℕ → Option A) (mapped : ℕ → Option B) (go : ℕ → Bool) → ((c : ℕ) → mapped c ≡ option_map f (push c)) → (c : ℕ) → entries mapped go c ≡ map f (entries push go c)
entries-map f push mapped go h zero = refl
entries-map f push mapped go h (suc c) = rw (entries-map f push mapped go h c, h c, mapped-rest f (go c) (entries push go c), mapped-list f (push c)) (sym (map-append f (if go c then behind (entries push go c) else entries push go c) (option_to_list (push c))))

arrives-tag : (s : Carried) (c : ℕ) → arrives s c ≡ option_map (entry_at s) (tag s c)
arrives-tag s c = by (carries s c)
  where
    by : (b : Bool) → (if b then Some (entry_at s c) else None) ≡ option_map (entry_at s) (if b then Some c else None)
    by true = refl
    by false = refl

pub held_entries : (s : Carried) (go : ℕ → Bool) (c : ℕ) → entries (arrives s) go c ≡ map (entry_at s) (entries (tag s) go c)
held_entries s go c = entries-map (entry_at s) (tag s) (arrives s) go (arrives-tag s) c
