-- A spacer in time.
use Rattle.std.proofs.Common.{◌≡◌, ℕ, zero, suc, ◌+◌, ◌-◌, ◌*◌, ◌<◌, ◌≤◌, List, [], ◌∷◌, ◌++◌, length, Option, Some, None, Bool, true, false, refl, sym, ap, ◌∙◌, subst, arith, inl, inr, ◌⊎◌, length-append}
use Rattle.std.specs.Prelude.{option_to_list, is_some, ◌||◌, if◌then◌else◌, nat_eq}
use Rattle.std.proofs.lemmas.Bool.{cases_lt, cases_order, false_from_ne_true, or_right}
use Rattle.std.proofs.Math.Nat.{mul-le-mul_left}
use Rattle.gl_bits.proofs.Options.{some_same}
use Rattle.gl_algebra.specs.declared.figures.Figures.{Figures}
use Rattle.gl_values.specs.Results.{Row}
use Rattle.gl_wire.specs.Beats.{Beats, last, most}
use Rattle.gl_wire.specs.Wire.{Carried, rows}
use Rattle.gl_wire.specs.Sides.{IsOpen, IsIdle, Side}
use Rattle.gl_wire.specs.Apart.{carries}
use Rattle.gl_queue.specs.SpacerPhases.{most_entries, Wide}
use Rattle.gl_wire.proofs.RowsLemmas.{rows-split, rows-quiet}
use Rattle.gl_queue.proofs.HeldLemmas.{rows-push}
use Rattle.gl_queue.proofs.TagLemmas.{tag, cycles, cycles-push, First, first, rows_at, rows_at-cycles}
use Rattle.gl_queue.proofs.SpacerLemmas.{Spaces, Leaves, leaving_tag, leaves_tag, work, work_next, leaves_or_not, front, front_more, Flow, flow, first_at, kept_rows}

tag_rows : (s : Carried) (c : ℕ) → s.ends c ≡ false → length (option_to_list (tag s c)) ≤ length (option_to_list (s.tuple c))
tag_rows s c h = by (s.tuple c) (s.ends c) h
  where
    by : (o : Option Row) (e : Bool) → e ≡ false → length (option_to_list (if is_some o || e then Some c else None)) ≤ length (option_to_list o)
    by None true p = absurd (cc)
    by None false p = omega arith
    by (Some r) e p = omega arith

tag_one : (s : Carried) (c : ℕ) → length (option_to_list (tag s c)) ≤ 1
tag_one s c = by (carries s c)
  where
    by : (b : Bool) → length (option_to_list (if b then Some c else None)) ≤ 1
    by true = omega arith
    by false = omega arith

cycles_rows : (s : Carried) (n v : ℕ) → ((x : ℕ) → v ≤ x → x < v + n → s.ends x ≡ false) → length (cycles s v n) ≤ length (rows s v n)
cycles_rows s zero v h = omega arith
cycles_rows s (suc n) v h = omega (arith, length-append (option_to_list (tag s v)) (cycles s (suc v) n), length-append (option_to_list (s.tuple v)) (rows s (suc v) n), tag_rows s v (h v (omega arith) (omega arith)), cycles_rows s n (suc v) (λ x l m. h x (omega arith) (omega arith)))

cycles_rows_end : (s : Carried) (at n v : ℕ) → ((x : ℕ) → v ≤ x → x < v + n → s.ends x ≡ true → x ≡ at) → length (cycles s v n) ≤ length (rows s v n) + 1
cycles_rows_end s at zero v h = omega arith
cycles_rows_end s at (suc n) v h = by (s.ends v) refl (cycles_rows_end s at n (suc v) (λ x l m. h x (omega arith) (omega arith)))
  where
    all : length (cycles s v (suc n)) ≡ length (option_to_list (tag s v)) + length (cycles s (suc v) n)
    all = length-append (option_to_list (tag s v)) (cycles s (suc v) n)

    all_rows : length (rows s v (suc n)) ≡ length (option_to_list (s.tuple v)) + length (rows s (suc v) n)
    all_rows = length-append (option_to_list (s.tuple v)) (rows s (suc v) n)

    by : (e : Bool) → s.ends v ≡ e → length (cycles s (suc v) n) ≤ length (rows s (suc v) n) + 1 → length (cycles s v (suc n)) ≤ length (rows s v (suc n)) + 1
    by false p ih = omega (arith, all, all_rows, ih, tag_rows s v p)
    by true p ih =
        let here : v ≡ at = h v (omega arith) (omega arith) p in
        let rest = cycles_rows s n (suc v) (λ x l m. false_from_ne_true (s.ends x) (λ q. let e = h x (omega (arith, l)) (omega (arith, m)) q in omega (arith, e, here, l))) in
        omega (arith, all, all_rows, rest, tag_one s v)

some_cycle : (s : Carried) (n v x : ℕ) → v ≤ x → x < v + n → carries s x ≡ true → 1 ≤ length (cycles s v n)
some_cycle s zero v x l m h = absurd (omega (arith, l, m))
some_cycle s (suc n) v x l m h = elim (cases_lt v x) [
  | inl i ↦ omega (arith, length-append (option_to_list (tag s v)) (cycles s (suc v) n), some_cycle s n (suc v) x i (omega (arith, m)) h)
  | inr i ↦ (let e : x ≡ v = omega (arith, i, l) in let p : carries s v ≡ true = ap (carries s) (sym e) ∙ h in let q : length (option_to_list (tag s v)) ≡ 1 = rw p refl in omega (arith, length-append (option_to_list (tag s v)) (cycles s (suc v) n), q))
]

module _ (g : ℕ) (one : 1 ≤ g) (timer : ℕ → ℕ) (a o : Carried) (vs : ℕ → List ℕ) (f : Figures) (beats : Beats) (side : Side f.a (last f) (most f) beats a) (wide : Wide g f beats) where
  -- an open beat has brought no more entries than it may
  entries_few : (c t k : ℕ) (e : Bool) → IsOpen f.a beats c t e → t + f.a + k ≤ c → length (cycles a (t + f.a) k) ≤ most_entries f e
  entries_few c t k true p l =
      let x = side.its_end t p.is in
      let n = cycles_rows_end a x.at k (t + f.a) (λ z i j q. x.only c z p i (omega (arith, j, l)) q) in
      omega (arith, n, side.fewer c t k true p l)
  entries_few c t k false p l =
      let n = cycles_rows a k (t + f.a) (λ z i j. false_from_ne_true (a.ends z) (λ q. let e = side.end c t z false p i (omega (arith, j, l)) q in cc e)) in
      omega (arith, n, side.fewer c t k false p l)

  module _ (spaces : (c : ℕ) → Spaces g timer a o vs c) (start : vs 0 ≡ []) where
    abbrev pub todo : ℕ → ℕ
    todo = work g one timer a o vs

    abbrev pub from : ℕ → ℕ
    from = front g one timer a o vs spaces start

    pub record Busy (c t : ℕ) (e : Bool) : Type 0 where
      pub open_beat : IsOpen f.a beats c t e
      pub own : (v : ℕ) → from c ≤ v → v < c → carries a v ≡ true → t + f.a ≤ v
      pub few : todo c ≤ g * length (cycles a (t + f.a) (c - (t + f.a)))
      pub fast : todo c ≤ g * most_entries f e - (c - suc (t + last f e))

    pub record Idle (c : ℕ) : Type 0 where
      pub idle : IsIdle f.a beats c
      pub none : todo c ≡ 0

    pub data Phase (c : ℕ) : Type 0 where
      idle : Idle c → Phase c
      busy : (t : ℕ) (e : Bool) → Busy c t e → Phase c

    abbrev Starts : ℕ → Type 0
    Starts c = (u : ℕ) × (d : Bool) × (beats u ≡ Some d) × (u + f.a ≡ c)

    abbrev StartsNot : ℕ → Type 0
    StartsNot c = (u : ℕ) (d : Bool) → beats u ≡ Some d → u + f.a ≡ c → ⊥

    starts : (c : ℕ) → Starts c ⊎ StartsNot c
    starts c = elim (cases_lt c f.a) [
      | inl l ↦ inr (λ u d i e. omega (arith, l, e))
      | inr l ↦ by (beats (c - f.a)) refl l
    ]
      where
        by : (p : Option Bool) → beats (c - f.a) ≡ p → f.a ≤ c → Starts c ⊎ StartsNot c
        by None q l = inr (λ u d i e. let v : u ≡ c - f.a = omega (arith, e) in let x = ap beats v in cc (x, i, q))
        by (Some d) q l = inl (c - f.a, d, q, omega (arith, l))

    count_next : (c t : ℕ) → t + f.a ≤ c → length (cycles a (t + f.a) (suc c - (t + f.a))) ≡ length (cycles a (t + f.a) (c - (t + f.a))) + length (option_to_list (tag a c))
    count_next c t l =
        let x : suc c - (t + f.a) ≡ suc (c - (t + f.a)) = omega (arith, l) in
        let y : t + f.a + (c - (t + f.a)) ≡ c = omega (arith, l) in
        ap (λ i. length (cycles a (t + f.a) i)) x ∙ ap length (cycles-push a (c - (t + f.a)) (t + f.a)) ∙ length-append (cycles a (t + f.a) (c - (t + f.a))) (option_to_list (tag a (t + f.a + (c - (t + f.a))))) ∙ ap (λ i. length (cycles a (t + f.a) (c - (t + f.a))) + length (option_to_list (tag a i))) y

    work_more : (c : ℕ) → todo (suc c) ≡ (todo c - 1) + g * length (option_to_list (tag a c))
    work_more c = work_next g one timer a o vs c (spaces c)

    flow_at : (c : ℕ) → Flow g one timer a o vs spaces start c
    flow_at = flow g one timer a o vs spaces start

    in_all : (c t : ℕ) (e : Bool) (n : ℕ) → IsOpen f.a beats c t e → n ≤ g * length (cycles a (t + f.a) (c - (t + f.a))) → n ≤ g * most_entries f e
    in_all c t e n p l = let low = p.low in omega (arith, l, mul-le-mul_left g (entries_few c t (c - (t + f.a)) e p (omega (arith, low))))

    clear : (c u : ℕ) (d : Bool) → beats u ≡ Some d → u + f.a ≡ c → Phase c → todo c ≤ 1
    clear c u d i e (idle y) = omega (arith, y.none)
    clear c u d i e (busy t b y) =
        let low = y.open_beat.low in
        let fast = y.fast in
        let room = wide.entries t u b d y.open_beat.is i (omega (arith, low, e)) in
        omega (arith, fast, room, e)

    -- a beat's interval begins
    begin : (c u : ℕ) (d : Bool) → IsOpen f.a beats (suc c) u d → u + f.a ≡ c → todo c ≤ 1 → Busy (suc c) u d
    begin c u d p e l =
        let now : todo (suc c) ≡ g * length (option_to_list (tag a c)) = omega (arith, work_more c, l) in
        let none : c - (u + f.a) ≡ 0 = omega (arith, e) in
        let zero_before : length (cycles a (u + f.a) (c - (u + f.a))) ≡ 0 = ap (λ i. length (cycles a (u + f.a) i)) none in
        let count : length (cycles a (u + f.a) (suc c - (u + f.a))) ≡ length (option_to_list (tag a c)) = omega (arith, count_next c u (omega (arith, e)), zero_before) in
        let few : todo (suc c) ≤ g * length (cycles a (u + f.a) (suc c - (u + f.a))) = rw (count, now) (omega arith) in
        record {
          open_beat = p;
          own = own now;
          few = few;
          fast = (let z : suc c - suc (u + last f d) ≡ 0 = omega (arith, e, wide.low d) in omega (arith, z, in_all (suc c) u d (todo (suc c)) p few));
        }
      where
        own : todo (suc c) ≡ g * length (option_to_list (tag a c)) → (v : ℕ) → from (suc c) ≤ v → v < suc c → carries a v ≡ true → u + f.a ≤ v
        own now v low high h = elim (cases_lt v c) [
          | inl m ↦ absurd (
              let w = flow_at (suc c) in
              let n : suc c - from (suc c) ≡ suc (c - from (suc c)) = omega (arith, low, m) in
              let at : from (suc c) + (c - from (suc c)) ≡ c = omega (arith, low, m) in
              let size : length (vs (suc c)) ≡ length (cycles a (from (suc c)) (c - from (suc c))) + length (option_to_list (tag a c)) = ap length (w.tags ∙ ap (cycles a (from (suc c))) n ∙ cycles-push a (c - from (suc c)) (from (suc c)) ∙ ap (λ i. cycles a (from (suc c)) (c - from (suc c)) ++ option_to_list (tag a i)) at) ∙ length-append (cycles a (from (suc c)) (c - from (suc c))) (option_to_list (tag a c)) in
              let some = some_cycle a (c - from (suc c)) (from (suc c)) v low (omega (arith, low, m)) h in
              let more : 1 + length (option_to_list (tag a c)) ≤ length (vs (suc c)) = omega (arith, size, some) in
              omega (arith, now, mul-le-mul_left g more, one))
          | inr m ↦ omega (arith, m, e)
        ]

    -- or goes on
    goes_on : (c t : ℕ) (e : Bool) → IsOpen f.a beats (suc c) t e → Busy c t e → Busy (suc c) t e
    goes_on c t e p y =
        let low = y.open_beat.low in
        let count = count_next c t (omega (arith, low)) in
        let grown : g * length (cycles a (t + f.a) (suc c - (t + f.a))) ≡ g * length (cycles a (t + f.a) (c - (t + f.a))) + g * length (option_to_list (tag a c)) = rw count (omega arith) in
        let old = y.few in
        let few : todo (suc c) ≤ g * length (cycles a (t + f.a) (suc c - (t + f.a))) = omega (arith, grown, work_more c, old) in
        record {
          open_beat = p;
          own = λ v i j h. elim (cases_lt v c) [
            | inl m ↦ y.own v (omega (arith, i, front_more g one timer a o vs spaces start c)) m h
            | inr m ↦ omega (arith, m, low)
          ];
          few = few;
          fast = elim (cases_lt (t + last f e) c) [
            | inl m ↦ (let x : length (option_to_list (tag a c)) ≡ 0 = no_tag m in
                let now : todo (suc c) ≡ todo c - 1 = work_more c ∙ (rw x (omega arith)) in
                let fast = y.fast in
                omega (arith, now, fast, m))
            | inr m ↦ (let z : suc c - suc (t + last f e) ≡ 0 = omega (arith, m) in omega (arith, z, in_all (suc c) t e (todo (suc c)) p few))
          ];
        }
      where
        no_end : (e : Bool) → IsOpen f.a beats (suc c) t e → t + f.a ≤ c → t + last f e < c → a.ends c ≡ true → ⊥
        no_end false p l m q = let z = side.end (suc c) t c false p l (omega arith) q in cc z
        no_end true p l m q = let x = side.its_end t p.is in let e = x.only (suc c) c p l (omega arith) q in let high = x.high in omega (arith, e, high, m)

        no_tag : t + last f e < c → length (option_to_list (tag a c)) ≡ 0
        no_tag m =
            let low = y.open_beat.low in
            let q : a.ends c ≡ false = false_from_ne_true (a.ends c) (no_end e p (omega (arith, low)) m) in
            let r : a.tuple c ≡ None = none_of (a.tuple c) refl in
            rw (r, q) refl
          where
            none_of : (i : Option Row) → a.tuple c ≡ i → i ≡ None
            none_of None q = refl
            none_of (Some r) q = absurd (let low = y.open_beat.low in let z = side.tuple (suc c) t c e r p (omega (arith, low)) (omega arith) q in omega (arith, z, m))

    still_open : (c t : ℕ) (e : Bool) → IsOpen f.a beats c t e → StartsNot c → IsOpen f.a beats (suc c) t e
    still_open c t e i n = record {
      is = i.is;
      low = (let low = i.low in omega (arith, low));
      later = λ u d j l. let far = i.later u d j l in let no : u + f.a ≡ c → ⊥ = n u d j in omega (arith, far, no);
    }

    phase_next : (c : ℕ) → Phase c → Phase (suc c)
    phase_next c p = by p (starts c)
      where
        new_open : (u : ℕ) (d : Bool) → beats u ≡ Some d → u + f.a ≡ c → IsOpen f.a beats (suc c) u d
        new_open u d i e = record { is = i; low = omega (arith, e); later = λ v x j l. omega (arith, l, e) }

        by : Phase c → Starts c ⊎ StartsNot c → Phase (suc c)
        by q (inl s) = busy s.0 s.1 (begin c s.0 s.1 (new_open s.0 s.1 s.2 s.3) s.3 (clear c s.0 s.1 s.2 s.3 q))
        by (idle y) (inr n) =
            let after : IsIdle f.a beats (suc c) = λ u d i. let far = y.idle u d i in let no : u + f.a ≡ c → ⊥ = n u d i in omega (arith, far, no) in
            let r = side.no_tuple (suc c) c after (omega arith) in
            let q = side.no_end (suc c) c after (omega arith) in
            let x : length (option_to_list (tag a c)) ≡ 0 = rw (r, q) refl in
            let none = y.none in
            let now : todo (suc c) ≡ todo c - 1 = work_more c ∙ (rw x (omega arith)) in
            idle (record { idle = after; none = omega (arith, now, none) })
        by (busy t e y) (inr n) = busy t e (goes_on c t e (still_open c t e y.open_beat n) y)

    module _ (first : timer 0 ≡ 0) where
      pub phases : (c : ℕ) → Phase c
      phases zero = idle (record { idle = λ u d i. omega arith; none = rw (first, start) (omega arith) })
      phases (suc c) = phase_next c (phases c)

      busy_with : (c t : ℕ) (e : Bool) → IsOpen f.a beats c t e → Busy c t e
      busy_with c t e p = by (phases c)
        where
          same : (u : ℕ) (d : Bool) → u ≡ t → Busy c u d → Busy c t e
          same u d q y =
              let z : d ≡ e = some_same d e (sym y.open_beat.is ∙ ap beats q ∙ p.is) in
              subst (λ v. Busy c t v) z (subst (λ v. Busy c v d) q y)

          by : Phase c → Busy c t e
          by (idle y) = absurd (let far = y.idle t e p.is in let low = p.low in omega (arith, far, low))
          by (busy u d y) = elim (cases_order u t) [
            | inl q ↦ same u d q y
            | inr (inl q) ↦ absurd (let far = y.open_beat.later t e p.is q in let low = p.low in omega (arith, far, low))
            | inr (inr q) ↦ absurd (let far = p.later u d y.open_beat.is q in let low = y.open_beat.low in omega (arith, far, low))
          ]

      -- an entry that leaves is one of the open beat, and leaves in time
      pub record Timely (c v : ℕ) : Type 0 where
        pub beat : ℕ
        pub end : Bool
        pub is : beats beat ≡ Some end
        pub open_beat : IsOpen f.a beats c beat end
        pub low : beat + f.a ≤ v
        pub before : v < c
        pub some : g ≤ g * most_entries f end
        pub high : c + g ≤ beat + last f end + 1 + g * most_entries f end

      pub timely : (c v : ℕ) → Leaves timer vs c v → Timely c v
      timely c v l = by (phases c)
        where
          x : First a (from c) (c - from c) v l.rest
          x = first_at g one timer a o vs spaces start c v (flow_at c) l

          size : length (vs c) ≡ suc (length l.rest)
          size = ap length l.is

          enough : g ≤ todo c
          enough = let all : g * length (vs c) ≡ g * length l.rest + g = ap (λ i. g * i) size ∙ omega arith in omega (arith, all)

          before : v < c
          before = let high = x.to in let below = (flow_at c).below in omega (arith, high, below)

          by : Phase c → Timely c v
          by (idle y) = absurd (omega (arith, enough, y.none, one))
          by (busy t e y) = let fast = y.fast in record {
            beat = t;
            end = e;
            is = y.open_beat.is;
            open_beat = y.open_beat;
            low = y.own v x.from before x.here;
            before = before;
            some = omega (arith, enough, fast);
            high = omega (arith, enough, fast, one);
          }

      -- what is held of the open beat's rows
      held_rows : (c t : ℕ) (e : Bool) → Busy c t e → length (rows_at a (vs c)) ≤ length (rows a (t + f.a) (c - (t + f.a)))
      held_rows c t e y =
          let w = flow_at c in
          let below = w.below in
          let low = y.open_beat.low in
          let all : rows_at a (vs c) ≡ rows a (from c) (c - from c) = ap (rows_at a) w.tags ∙ rows_at-cycles a (c - from c) (from c) in
          let size : length (rows_at a (vs c)) ≡ length (rows a (from c) (c - from c)) = ap length all in
          elim (cases_lt (from c) (t + f.a)) [
            | inl l ↦ (let n : c - from c ≡ (t + f.a - from c) + (c - (t + f.a)) = omega (arith, l, low) in
                let at : from c + (t + f.a - from c) ≡ t + f.a = omega (arith, l) in
                let quiet : rows a (from c) (t + f.a - from c) ≡ [] = rows-quiet a (t + f.a - from c) (from c) (λ k i j. quiet_at k i (omega (arith, j, at)) low) in
                let parts : rows a (from c) (c - from c) ≡ rows a (from c) (t + f.a - from c) ++ rows a (from c + (t + f.a - from c)) (c - (t + f.a)) = ap (rows a (from c)) n ∙ rows-split a (t + f.a - from c) (c - (t + f.a)) (from c) in
                let same : rows a (from c) (c - from c) ≡ rows a (t + f.a) (c - (t + f.a)) = parts ∙ ap (λ i. i ++ rows a (from c + (t + f.a - from c)) (c - (t + f.a))) quiet ∙ ap (λ i. rows a i (c - (t + f.a))) at in
                omega (arith, size, ap length same))
            | inr l ↦ (let n : c - (t + f.a) ≡ (from c - (t + f.a)) + (c - from c) = omega (arith, l, below) in
                let at : t + f.a + (from c - (t + f.a)) ≡ from c = omega (arith, l) in
                let parts : length (rows a (t + f.a) (c - (t + f.a))) ≡ length (rows a (t + f.a) (from c - (t + f.a))) + length (rows a (from c) (c - from c)) = ap (λ i. length (rows a (t + f.a) i)) n ∙ ap length (rows-split a (from c - (t + f.a)) (c - from c) (t + f.a)) ∙ length-append (rows a (t + f.a) (from c - (t + f.a))) (rows a (t + f.a + (from c - (t + f.a))) (c - from c)) ∙ ap (λ i. length (rows a (t + f.a) (from c - (t + f.a))) + length (rows a i (c - from c))) at in
                omega (arith, size, parts))
          ]
        where
          quiet_at : (k : ℕ) → from c ≤ k → k < t + f.a → t + f.a < c → a.tuple k ≡ None
          quiet_at k i j low = by (a.tuple k) refl
            where
              by : (r : Option Row) → a.tuple k ≡ r → r ≡ None
              by None q = refl
              by (Some r) q = absurd (let z = y.own k i (omega (arith, j, low)) (rw q refl) in omega (arith, z, j))

      out_rows : (c : ℕ) → length (option_to_list (o.tuple c)) ≤ length (rows_at a (vs c))
      out_rows c = by (leaves_or_not g one timer a o vs spaces start c)
        where
          by : ((v : ℕ) × Leaves timer vs c v) ⊎ ((o.tuple c ≡ None) × (o.ends c ≡ false) × (leaving_tag (nat_eq (timer c) 0) (vs c) ≡ None)) → length (option_to_list (o.tuple c)) ≤ length (rows_at a (vs c))
          by (inr n) = let q : length (option_to_list (o.tuple c)) ≡ 0 = ap (λ i. length (option_to_list i)) n.0 in omega (arith, q)
          by (inl (v, l)) =
              let q : length (option_to_list (o.tuple c)) ≡ length (option_to_list (a.tuple v)) = ap (λ i. length (option_to_list i)) ((spaces c).some v (leaves_tag timer vs c v l)).0 in
              let r : length (rows_at a (vs c)) ≡ length (option_to_list (a.tuple v)) + length (rows_at a l.rest) = ap (λ i. length (rows_at a i)) l.is ∙ length-append (option_to_list (a.tuple v)) (rows_at a l.rest) in
              omega (arith, q, r)

      -- no more rows leave than came
      pub few_out : (t n : ℕ) (e : Bool) → IsOpen f.a beats (t + f.a + suc n) t e → length (rows o (suc (t + f.a)) (suc n)) ≤ most f e
      few_out t n e p =
          let begun : IsOpen f.a beats (suc (t + f.a)) t e = record { is = p.is; low = omega arith; later = λ u d i l. omega (arith, l) } in
          let y = busy_with (suc (t + f.a)) t e begun in
          let x : suc (t + f.a) - (t + f.a) ≡ 1 = omega arith in
          let held : length (rows_at a (vs (suc (t + f.a)))) ≤ length (rows a (t + f.a) 1) = rw x at (held_rows (suc (t + f.a)) t e y) in
          let last_one = rows-push o (suc (t + f.a)) n in
          let kept = kept_rows g one timer a o vs spaces start n (suc (t + f.a)) in
          let out = out_rows (suc (t + f.a) + n) in
          let all = side.fewer (t + f.a + suc n) t (suc n) e p (omega arith) in
          let split : length (rows a (t + f.a) (suc n)) ≡ length (rows a (t + f.a) 1) + length (rows a (suc (t + f.a)) n) = length-append (option_to_list (a.tuple (t + f.a))) (rows a (suc (t + f.a)) n) ∙ ap (λ i. i + length (rows a (suc (t + f.a)) n)) (sym (length-append (option_to_list (a.tuple (t + f.a))) [] ∙ omega arith)) in
          omega (arith, held, last_one, kept, out, all, split)

      abbrev pub latest : ℕ → ℕ
      latest t = t + f.le + 1 + g * f.ne

      pub open_to : (t : ℕ) → beats t ≡ Some true → (c : ℕ) → t + f.a < c → c ≤ latest t → IsOpen f.a beats c t true
      open_to t i c l m = record { is = i; low = l; later = λ u d j n. let far = wide.entries t u true d i j n in omega (arith, far, m, one) }

      -- the end of a beat leaves in time
      pub end_leaves : (t : ℕ) (i : beats t ≡ Some true) → (x : ℕ) × ((side.its_end t i).at < x) × (x ≤ latest t) × Leaves timer vs x (side.its_end t i).at
      end_leaves t i =
          let d = (side.its_end t i).at in
          let low = (side.its_end t i).low in
          let high = (side.its_end t i).high in
          elim (cases_lt d (from (latest t))) [
            | inl l ↦ (let z = (flow_at (latest t)).left d l (or_right (is_some (a.tuple d)) (a.ends d) (side.its_end t i).ends) in (z.0, z.1, let q = z.2 in omega (arith, q), z.3))
            | inr l ↦ (latest t, omega (arith, high), omega arith, last_one d (side.its_end t i).ends l (omega (arith, high)) low (busy_with (latest t) t true (open_to t i (latest t) (omega (arith, low, high)) (omega arith))))
          ]
        where
          last_one : (d : ℕ) → a.ends d ≡ true → from (latest t) ≤ d → d < latest t → t + f.a ≤ d → Busy (latest t) t true → Leaves timer vs (latest t) d
          last_one d e l m low y = by (vs (latest t)) refl
            where
              little : todo (latest t) ≤ g
              little = let fast = y.fast in omega (arith, fast)

              w : Flow g one timer a o vs spaces start (latest t)
              w = flow_at (latest t)

              there : carries a d ≡ true
              there = or_right (is_some (a.tuple d)) (a.ends d) e

              by : (xs : List ℕ) → vs (latest t) ≡ xs → Leaves timer vs (latest t) d
              by [] q = absurd (let some = some_cycle a (latest t - from (latest t)) (from (latest t)) d l (omega (arith, l, m)) there in let none : length (cycles a (from (latest t)) (latest t - from (latest t))) ≡ 0 = ap length (sym w.tags ∙ q) in omega (arith, some, none))
              by (v ∷ []) q =
                  let x : First a (from (latest t)) (latest t - from (latest t)) v [] = Rattle.gl_queue.proofs.TagLemmas.first a (latest t - from (latest t)) (from (latest t)) v [] (sym w.tags ∙ q) in
                  let after = x.from in
                  let to = x.to in
                  let same : v ≡ d = elim (cases_order v d) [
                    | inl r ↦ r
                    | inr (inl r) ↦ absurd (let some = some_cycle a (from (latest t) + (latest t - from (latest t)) - suc v) (suc v) d r (omega (arith, r, l, m)) there in let none : length (cycles a (suc v) (from (latest t) + (latest t - from (latest t)) - suc v)) ≡ 0 = ap length (sym x.behind_it) in omega (arith, some, none))
                    | inr (inr r) ↦ absurd (let none = x.none d l r in cc (none, there))
                  ] in
                  record { rest = []; now = (let size : g * length (vs (latest t)) ≡ g = ap (λ i. g * length i) q ∙ omega arith in omega (arith, little, size)); is = q ∙ ap (λ i. i ∷ []) same }
              by (v ∷ r ∷ xs) q = absurd (let size : g * length (vs (latest t)) ≡ g * length xs + g + g = ap (λ i. g * length i) q ∙ omega arith in omega (arith, little, size, one))
