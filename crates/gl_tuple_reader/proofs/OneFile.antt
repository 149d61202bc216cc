-- A file has at most one list of beats.
use Rattle.std.proofs.Common.{◌≡◌, ℕ, suc, ◌<◌, ◌≤◌, Bool, true, false, List, [], ◌∷◌, length, Option, Some, None, refl, sym, ap, ◌∙◌, arith, inl, inr}
use Rattle.std.specs.Prelude.{map, option_map, find, ◌==◌}
use Rattle.std.specs.List.{AllByRecursion}
use Rattle.std.specs.Option.{option_map_or}
use Rattle.std.proofs.lemmas.Bool.{cases_Bool, eq-eqb, ne_eqb, eqb-true}
use Rattle.gl_bits.proofs.Options.{some_same}
use Rattle.gl_bits.specs.Words.{Word, bits_of}
use Rattle.gl_schema.specs.declared.schema.Stream.{Stream}
use Rattle.gl_schema.specs.declared.schema.Schema.{Schema}
use Rattle.gl_schema.specs.Beats.{AreRowsOf, IsBeat, AreInOrder}
use Rattle.gl_tuples.specs.declared.beats.Beat.{Beat}
use Rattle.gl_tuple_reader.specs.Entries.{option_bind}
use Rattle.gl_tuples.specs.Gaps.{plain_beat, plain_list}
use Rattle.gl_tuple_reader.specs.FileBeats.{number_at, row_among, row_at, tick_at}

abbrev at_cycle : List Beat → ℕ → Option Beat
at_cycle bs c = find (λ b. b.cycle == c) bs

-- ---- beats in order

-- all beats behind the first are later
first_before : (b : Beat) (bs : List Beat) (c : ℕ) → AreInOrder (plain_list (b ∷ bs)) → c ≤ b.cycle → at_cycle bs c ≡ None
first_before b [] c h le = refl
first_before b (d ∷ bs) c h le = rw (ne_eqb d.cycle c (λ e. absurd (apart d.cycle b.cycle c h.1 le e))) (first_before d bs c h.2 (later d.cycle b.cycle c h.1 le))
  where
    apart : (x y z : ℕ) → y < x → z ≤ y → x ≡ z → ⊥
    apart x y z p q e = omega (arith, e)

    later : (x y z : ℕ) → y < x → z ≤ y → z ≤ x
    later x y z p q = omega arith

first_here : (b : Beat) (bs : List Beat) → at_cycle (b ∷ bs) b.cycle ≡ Some b
first_here b bs = rw (eq-eqb b.cycle b.cycle refl) refl

rest_at : (b : Beat) (bs : List Beat) (c : ℕ) → (b.cycle == c) ≡ false → at_cycle (b ∷ bs) c ≡ at_cycle bs c
rest_at b bs c f = rw f refl

-- what holds of a beat of a cycle that is there
there_not : {A : Type 0} (x : A) → Some x ≡ None → ⊥
there_not x h = cc

-- a cycle that has a beat in the one list has one in the other
pub record Agree (bs ds : List Beat) : Type 0 where
  pub numbers : (c : ℕ) → number_at bs c ≡ number_at ds c
  pub rows : (c k : ℕ) → row_at bs c k ≡ row_at ds c k
  pub ticks : (c : ℕ) → tick_at bs c ≡ tick_at ds c

agree_back : (bs ds : List Beat) → Agree bs ds → Agree ds bs
agree_back bs ds a = record { numbers = λ c. sym (a.numbers c); rows = λ c k. sym (a.rows c k); ticks = λ c. sym (a.ticks c) }

missing : (ds : List Beat) (c : ℕ) → at_cycle ds c ≡ None → number_at ds c ≡ None
missing ds c h = ap (option_map (λ (b : Beat). b.number)) h

not_before : (b d : Beat) (bs ds : List Beat) → Agree (b ∷ bs) (d ∷ ds) → AreInOrder (plain_list (d ∷ ds)) → b.cycle < d.cycle → ⊥
not_before b d bs ds a order lt =
    let none : at_cycle (d ∷ ds) b.cycle ≡ None = rest_at d ds b.cycle (ne_eqb d.cycle b.cycle (λ e. absurd (omega (arith, e)))) ∙ first_before d ds b.cycle order (omega arith) in
    there_not b.number (sym (ap (option_map (λ (x : Beat). x.number)) (first_here b bs)) ∙ a.numbers b.cycle ∙ missing (d ∷ ds) b.cycle none)

same_cycle : (b d : Beat) (bs ds : List Beat) → Agree (b ∷ bs) (d ∷ ds) → AreInOrder (plain_list (b ∷ bs)) → AreInOrder (plain_list (d ∷ ds)) → b.cycle ≡ d.cycle
same_cycle b d bs ds a first second = meet b.cycle d.cycle (not_before b d bs ds a second) (not_before d b ds bs (agree_back (b ∷ bs) (d ∷ ds) a) first)
  where
    meet : (x y : ℕ) → (x < y → ⊥) → (y < x → ⊥) → x ≡ y
    meet x y p q = omega (arith, p, q)

abbrev row_in : Option Beat → ℕ → Option (List Word)
row_in o k = option_bind o (λ b. row_among b.rows k)

abbrev tick_in : Option Beat → Bool
tick_in o = option_map_or (λ (b : Beat). b.tick) o false

-- behind beats of one cycle the others agree
rest_none : (b : Beat) (bs : List Beat) (c : ℕ) → AreInOrder (plain_list (b ∷ bs)) → (b.cycle == c) ≡ true → at_cycle bs c ≡ None
rest_none b bs c order t = first_before b bs c order (let e = eqb-true b.cycle c t in omega (arith, e))

rest_agree : (b d : Beat) (bs ds : List Beat) → Agree (b ∷ bs) (d ∷ ds) → AreInOrder (plain_list (b ∷ bs)) → AreInOrder (plain_list (d ∷ ds)) → b.cycle ≡ d.cycle → Agree bs ds
rest_agree b d bs ds a first second same = record {
  numbers = λ c. elim (cases_Bool (b.cycle == c)) [
    | inl t ↦ missing bs c (rest_none b bs c first t) ∙ sym (missing ds c (rest_none d ds c second (ap (λ (x : ℕ). x == c) (sym same) ∙ t)))
    | inr f ↦ ap (option_map (λ (x : Beat). x.number)) (sym (rest_at b bs c f)) ∙ a.numbers c ∙ ap (option_map (λ (x : Beat). x.number)) (rest_at d ds c (ap (λ (x : ℕ). x == c) (sym same) ∙ f))
  ];
  rows = λ c k. elim (cases_Bool (b.cycle == c)) [
    | inl t ↦ ap (λ (o : Option Beat). row_in o k) (rest_none b bs c first t) ∙ sym (ap (λ (o : Option Beat). row_in o k) (rest_none d ds c second (ap (λ (x : ℕ). x == c) (sym same) ∙ t)))
    | inr f ↦ ap (λ (o : Option Beat). row_in o k) (sym (rest_at b bs c f)) ∙ a.rows c k ∙ ap (λ (o : Option Beat). row_in o k) (rest_at d ds c (ap (λ (x : ℕ). x == c) (sym same) ∙ f))
  ];
  ticks = λ c. elim (cases_Bool (b.cycle == c)) [
    | inl t ↦ ap tick_in (rest_none b bs c first t) ∙ sym (ap tick_in (rest_none d ds c second (ap (λ (x : ℕ). x == c) (sym same) ∙ t)))
    | inr f ↦ ap tick_in (sym (rest_at b bs c f)) ∙ a.ticks c ∙ ap tick_in (rest_at d ds c (ap (λ (x : ℕ). x == c) (sym same) ∙ f))
  ];
}

-- ---- one beat

rows_long : (ss : List Stream) (rows : List (Option (List Word))) → AreRowsOf ss (map (λ r. option_map bits_of r) rows) → length rows ≡ length ss
rows_long [] [] h = refl
rows_long [] (r ∷ rows) h = absurd h
rows_long (s ∷ ss) [] h = absurd h
rows_long (s ∷ ss) (r ∷ rows) h = ap suc (rows_long ss rows h.1)

rows_same : (xs ys : List (Option (List Word))) → length xs ≡ length ys → ((k : ℕ) → row_among xs k ≡ row_among ys k) → xs ≡ ys
rows_same [] [] e h = refl
rows_same [] (y ∷ ys) e h = absurd (omega (arith, e))
rows_same (x ∷ xs) [] e h = absurd (omega (arith, e))
rows_same (x ∷ xs) (y ∷ ys) e h =
    let first : x ≡ y = h 0 in
    let rest : xs ≡ ys = rows_same xs ys (omega (arith, e)) (λ k. h (suc k)) in cc

number_same : (b d : Beat) (bs ds : List Beat) → Agree (b ∷ bs) (d ∷ ds) → b.cycle ≡ d.cycle → b.number ≡ d.number
number_same b d bs ds a same = some_same b.number d.number
    (sym (ap (option_map (λ (x : Beat). x.number)) (first_here b bs)) ∙ a.numbers b.cycle ∙ ap (number_at (d ∷ ds)) same ∙ ap (option_map (λ (x : Beat). x.number)) (first_here d ds))

row_same : (b d : Beat) (bs ds : List Beat) → Agree (b ∷ bs) (d ∷ ds) → b.cycle ≡ d.cycle → (k : ℕ) → row_among b.rows k ≡ row_among d.rows k
row_same b d bs ds a same k =
    sym (ap (λ (o : Option Beat). option_bind o (λ x. row_among x.rows k)) (first_here b bs)) ∙ a.rows b.cycle k ∙ ap (λ (c : ℕ). row_at (d ∷ ds) c k) same
    ∙ ap (λ (o : Option Beat). option_bind o (λ x. row_among x.rows k)) (first_here d ds)

tick_same : (b d : Beat) (bs ds : List Beat) → Agree (b ∷ bs) (d ∷ ds) → b.cycle ≡ d.cycle → b.tick ≡ d.tick
tick_same b d bs ds a same = sym (ap tick_in (first_here b bs)) ∙ a.ticks b.cycle ∙ ap (tick_at (d ∷ ds)) same ∙ ap tick_in (first_here d ds)

beat_same : (schema : Schema) (b d : Beat) (bs ds : List Beat) → Agree (b ∷ bs) (d ∷ ds) → b.cycle ≡ d.cycle → IsBeat schema (plain_beat b) → IsBeat schema (plain_beat d) → b.end ≡ d.end → b ≡ d
beat_same schema b d bs ds a same x y e =
    let number = number_same b d bs ds a same in
    let rows = rows_same b.rows d.rows (rows_long schema.streams b.rows x.rows ∙ sym (rows_long schema.streams d.rows y.rows)) (row_same b d bs ds a same) in
    let tick = tick_same b d bs ds a same in
    made b.cycle b.number b.rows b.tick b.end d.cycle d.number d.rows d.tick d.end same number rows tick e
  where
    made : (c n : ℕ) (r : List (Option (List Word))) (t e : Bool) (c' n' : ℕ) (r' : List (Option (List Word))) (t' e' : Bool) → c ≡ c' → n ≡ n' → r ≡ r' → t ≡ t' → e ≡ e' → ◌≡◌ {A = Beat} (record { cycle = c; number = n; rows = r; tick = t; end = e }) (record { cycle = c'; number = n'; rows = r'; tick = t'; end = e' })
    made c n r t e c' n' r' t' e' p q s u v = cc

-- ---- all beats

no_rest : (d : Beat) (ds : List Beat) → Agree [] (d ∷ ds) → ⊥
no_rest d ds a = there_not d.number (sym (ap (option_map (λ (x : Beat). x.number)) (first_here d ds)) ∙ sym (a.numbers d.cycle))

pub one_list : (schema : Schema) (bs ds : List Beat) → Agree bs ds → AreInOrder (plain_list bs) → AreInOrder (plain_list ds) → AllByRecursion (IsBeat schema) (plain_list bs) → AllByRecursion (IsBeat schema) (plain_list ds) → bs ≡ ds
one_list schema [] ds a first second x y = absurd first
one_list schema (b ∷ bs) [] a first second x y = absurd second
one_list schema (b ∷ []) (d ∷ []) a first second x y =
    let same = same_cycle b d [] [] a first second in
    ap (λ (z : Beat). z ∷ []) (beat_same schema b d [] [] a same x.0 y.0 (first ∙ sym second))
one_list schema (b ∷ []) (d ∷ f ∷ ds) a first second x y = absurd (no_rest f ds (rest_agree b d [] (f ∷ ds) a first second (same_cycle b d [] (f ∷ ds) a first second)))
one_list schema (b ∷ c ∷ bs) (d ∷ []) a first second x y =
    absurd (no_rest c bs (agree_back (c ∷ bs) [] (rest_agree b d (c ∷ bs) [] a first second (same_cycle b d (c ∷ bs) [] a first second))))
one_list schema (b ∷ c ∷ bs) (d ∷ f ∷ ds) a first second x y =
    let same = same_cycle b d (c ∷ bs) (f ∷ ds) a first second in
    let one : b ≡ d = beat_same schema b d (c ∷ bs) (f ∷ ds) a same x.0 y.0 (first.0 ∙ sym second.0) in
    let rest : c ∷ bs ≡ f ∷ ds = one_list schema (c ∷ bs) (f ∷ ds) (rest_agree b d (c ∷ bs) (f ∷ ds) a first second same) first.2 second.2 x.1 y.1 in
    cc

pub agreed : (bs ds : List Beat) → ((c : ℕ) → number_at bs c ≡ number_at ds c) → ((c k : ℕ) → row_at bs c k ≡ row_at ds c k) → ((c : ℕ) → tick_at bs c ≡ tick_at ds c) → Agree bs ds
agreed bs ds n r t = record { numbers = n; rows = r; ticks = t }
