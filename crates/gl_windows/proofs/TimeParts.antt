-- The visits of a stream behind a front of windows of time: where they begin, and that they are of its windows, in order.
use Rattle.std.proofs.Common.{◌≡◌, ℕ, zero, suc, ◌+◌, ◌-◌, ◌*◌, ◌<◌, ◌≤◌, List, [], ◌∷◌, ◌++◌, map, Option, Some, None, Bool, true, false, refl, sym, ap, ◌∙◌, arith, inl, inr, mul-le-mul_right}
use Rattle.std.specs.Prelude.{if◌then◌else◌}
use Rattle.std.proofs.lemmas.Bool.{false_from_ne_true}
use Rattle.std.proofs.lemmas.List.{append-nil, append_cancel_left, map-append}
use Rattle.gl_values.specs.Results.{Row}
use Rattle.gl_values.specs.Times.{tslices}
use Rattle.gl_wire.specs.Apart.{an_end}
use Rattle.gl_wire.specs.Wire.{Carried, stream}
use Rattle.gl_wire.specs.Lift.{Visits, visits, with_visit}
use Rattle.gl_wire.specs.Timed.{Begins, at_first, after_end}
use Rattle.gl_wire.proofs.NumberLemmas.{all_turns}
use Rattle.gl_wire.proofs.VisitLemmas.{begins_more}
use Rattle.gl_windows.specs.Taking.{content, visited, parts_before}
use Rattle.gl_windows.specs.Ticks.{by_ticks}
use Rattle.gl_windows.specs.TimeFront.{TimeMachine, IsTimeFront, states, closes_at, turns_in, who_closes}
use Rattle.gl_windows.proofs.TimeSetting.{IsTimed, ticks_at, times_at}
use Rattle.gl_windows.proofs.TimeCopies.{rows_of, visits_are}
use Rattle.gl_windows.proofs.TimePhases.{Source, with_end, with_tick, in_turn, source, all_visited}

-- the visits of a stretch of cycles are those of its parts
visits-split : (who : Visits) (ins : ℕ → Carried) (n k c : ℕ) → visits who ins c (n + k) ≡ visits who ins c n ++ visits who ins (c + n) k
visits-split who ins zero k c = let e : zero + k ≡ k = omega arith in let d : c ≡ c + zero = omega arith in rw e (ap (λ i. visits who ins i k) d)
visits-split who ins (suc n) k c =
    let e : suc n + k ≡ suc (n + k) = omega arith in
    let d : suc c + n ≡ c + suc n = omega arith in
    rw e (ap (with_visit (who c) c (λ j. stream (ins j) c)) (visits-split who ins n k (suc c) ∙ ap (λ i. visits who ins (suc c) n ++ visits who ins i k) d) ∙ before (who c) (visits who ins (suc c) n) (visits who ins (c + suc n) k))
  where
    before : (o : Option ℕ) (xs ys : List (ℕ × List Row)) → with_visit o c (λ j. stream (ins j) c) (xs ++ ys) ≡ with_visit o c (λ j. stream (ins j) c) xs ++ ys
    before None xs ys = refl
    before (Some j) xs ys = refl

module _ (m : TimeMachine) (ok : IsTimed m) where
  open m use {size, advance, count, stride, tick, a}

  abbrev flush : ℕ
  flush = count * stride

  -- the visits of the stream that comes in a cycle begin at the start, or where the flush of the stream before is over
  abbrev pub begin_at : ℕ → ℕ
  begin_at zero = 0
  begin_at (suc c) = if a.ends c then c + flush + 2 else begin_at c

  pub begins_at : (c : ℕ) → Begins flush a (begin_at c) c
  begins_at zero = at_first refl (λ x l h. omega (arith, l))
  begins_at (suc c) = by (a.ends c) refl (begins_at c)
    where
      by : (b : Bool) → a.ends c ≡ b → Begins flush a (begin_at c) c → Begins flush a (if b then c + flush + 2 else begin_at c) (suc c)
      by true p h = after_end c p (omega arith) refl (λ x l n e. omega (arith, l, n))
      by false p h = begins_more flush a (begin_at c) c p h

  -- behind a flush no window ends where nothing comes
  none_closes : (u c : ℕ) → a.ends u ≡ true → u + turns_in m + 1 ≤ c → ((y : ℕ) → u < y → y ≤ c → (by_ticks tick a).comes y → ⊥) → closes_at m c ≡ false
  none_closes u c p far silent = false_from_ne_true (closes_at m c) (λ e. why (source m ok c e))
    where
      why : Source m ok c → ⊥
      why (with_end e) = silent c (omega (arith, far)) (omega arith) (inr (an_end e))
      why (with_tick e) = silent c (omega (arith, far)) (omega arith) (inl e)
      why (in_turn k) =
          let w : k.i * stride ≤ turns_in m = mul-le-mul_right stride (omega (arith, k.less)) in
          silent k.u (omega (arith, far, k.time, w)) (omega (arith, k.time)) (inr (an_end k.end))

  visited_same : (n c : ℕ) → ((y : ℕ) → c ≤ y → y < c + n → closes_at m y ≡ false) → visited m (c + n) ≡ visited m c
  visited_same zero c h = let e : c + zero ≡ c = omega arith in ap (visited m) e
  visited_same (suc n) c h =
      let e : c + suc n ≡ suc (c + n) = omega arith in
      ap (visited m) e
      ∙ ap (λ (b : Bool). visited m (c + n) ++ (if b then content m (suc (c + n)) (states m (c + n)).closed ∷ [] else [])) (h (c + n) (omega arith) (omega arith))
      ∙ append-nil (visited m (c + n)) ∙ visited_same n c (λ y l k. h y l (omega (arith, k)))

  parts_same : (n c : ℕ) → ((y : ℕ) → c ≤ y → y < c + n → a.ends y ≡ false) → parts_before m (c + n) ≡ parts_before m c
  parts_same zero c h = let e : c + zero ≡ c = omega arith in ap (parts_before m) e
  parts_same (suc n) c h =
      let e : c + suc n ≡ suc (c + n) = omega arith in
      let none = h (c + n) (omega arith) (omega arith) in
      ap (parts_before m) e ∙ (rw none (append-nil (parts_before m (c + n)))) ∙ parts_same n c (λ y l k. h y l (omega (arith, k)))

  -- no windows before the first end
  no_parts : (c : ℕ) → ((x : ℕ) → x < c → a.ends x ≡ false) → parts_before m c ≡ []
  no_parts zero h = refl
  no_parts (suc c) h = let none = no_parts c (λ x l. h x (omega (arith, l))) in let calm = h c (omega arith) in rw (none, calm) refl

  -- the windows of the stream that ends in a cycle
  abbrev windows : ℕ → List (List Row)
  windows u = tslices size advance (times_at m u) (ticks_at m u) (stream a u)

  rested_end : (u y : ℕ) → a.ends u ≡ true → u < y → y < u + (turns_in m + 2) → a.ends y ≡ false
  rested_end u y p l n = false_from_ne_true (a.ends y) (λ e. (let z = ok.rested u y p (inr (an_end e)) l in omega (arith, z, n)))

  parts_behind : (u : ℕ) → a.ends u ≡ true → parts_before m (u + turns_in m + 2) ≡ parts_before m u ++ windows u
  parts_behind u p =
      let e : suc u + (turns_in m + 1) ≡ u + turns_in m + 2 = omega arith in
      ap (parts_before m) (sym e) ∙ parts_same (turns_in m + 1) (suc u) (λ y l k. rested_end u y p (omega (arith, l)) (omega (arith, k))) ∙ rw p refl

  -- the visits up to the last turn of a flush
  visited_then : (u : ℕ) → a.ends u ≡ true → visited m (u + turns_in m + 1) ≡ parts_before m u ++ windows u
  visited_then u p =
      let e : (u + turns_in m + 1) + 1 ≡ u + turns_in m + 2 = omega arith in
      sym (visited_same 1 (u + turns_in m + 1) (λ y l k. none_closes u y p l (λ x r s q. (let z = ok.rested u x p q r in omega (arith, z, k, s)))))
      ∙ ap (visited m) e ∙ all_visited m ok u p ∙ parts_behind u p

  module _ (ins : ℕ → Carried) (law : IsTimeFront m ins) (wide : (u d : ℕ) → a.ends u ≡ true → (by_ticks tick a).comes d → u < d → u + flush + 1 ≤ d) where
    abbrev who : Visits
    who = who_closes m

    visits_then : (u : ℕ) → a.ends u ≡ true → map rows_of (visits who ins 0 (u + turns_in m + 2)) ≡ parts_before m u ++ windows u
    visits_then u p =
        let e : u + turns_in m + 2 ≡ suc (u + turns_in m + 1) - 0 = omega arith in
        ap (λ n. map rows_of (visits who ins 0 n)) e ∙ visits_are m ok ins law (u + turns_in m + 1) ∙ visited_then u p

    -- those before the stream that begins behind a flush are of the streams before
    visits_before : (v u : ℕ) → a.ends v ≡ true → a.ends u ≡ true → v < u → ((y : ℕ) → v < y → y < u → a.ends y ≡ true → ⊥) → map rows_of (visits who ins 0 (v + flush + 2)) ≡ parts_before m u
    visits_before v u p q l between =
        let e : v + flush + 2 ≡ suc (v + flush + 1) - 0 = omega arith in
        let long : flush ≡ turns_in m + stride = sym (all_turns count stride ok.copies_some) in
        let far = wide v u p (inr (an_end q)) l in
        let d : (v + turns_in m + 2) + (stride - 1) ≡ v + flush + 1 = omega (arith, long, ok.stride_some) in
        let f : (v + turns_in m + 2) + (u - (v + turns_in m + 2)) ≡ u = omega (arith, far, long, ok.stride_some) in
        ap (λ n. map rows_of (visits who ins 0 n)) e ∙ visits_are m ok ins law (v + flush + 1)
        ∙ ap (visited m) (sym d)
        ∙ visited_same (stride - 1) (v + turns_in m + 2) (λ y k r. none_closes v y p (omega (arith, k)) (λ x s t h. (let z = wide v x p h s in omega (arith, z, t, r, d))))
        ∙ all_visited m ok v p
        ∙ sym (parts_same (u - (v + turns_in m + 2)) (v + turns_in m + 2) (λ y k r. false_from_ne_true (a.ends y) (λ h. between y (omega (arith, k)) (omega (arith, r, f)) h)))
        ∙ ap (parts_before m) f

    pub parted : (u : ℕ) → a.ends u ≡ true → map rows_of (visits who ins (begin_at u) (u + turns_in m + 2 - begin_at u)) ≡ tslices size advance (times_at m u) (ticks_at m u) (stream a u)
    parted u p = by (begins_at u)
      where
        by : Begins flush a (begin_at u) u → map rows_of (visits who ins (begin_at u) (u + turns_in m + 2 - begin_at u)) ≡ windows u
        by (at_first e none) =
            let all : u + turns_in m + 2 - 0 ≡ u + turns_in m + 2 = omega arith in
            ap (λ lo. map rows_of (visits who ins lo (u + turns_in m + 2 - lo))) e ∙ ap (λ n. map rows_of (visits who ins 0 n)) all ∙ visits_then u p
            ∙ ap (λ (ps : List (List Row)). ps ++ windows u) (no_parts u (λ x l. false_from_ne_true (a.ends x) (λ h. none x l h)))
        by (after_end v q l is between) =
            let lo : ℕ = v + flush + 2 in
            let far = wide v u q (inr (an_end p)) l in
            let e : lo + (u + turns_in m + 2 - lo) ≡ u + turns_in m + 2 = omega (arith, far) in
            let none : lo ≡ 0 + lo = omega arith in
            let whole : map rows_of (visits who ins 0 lo) ++ map rows_of (visits who ins lo (u + turns_in m + 2 - lo)) ≡ parts_before m u ++ windows u =
            sym (map-append rows_of (visits who ins 0 lo) (visits who ins lo (u + turns_in m + 2 - lo)))
            ∙ ap (λ i. map rows_of (visits who ins 0 lo ++ visits who ins i (u + turns_in m + 2 - lo))) none
            ∙ ap (map rows_of) (sym (visits-split who ins lo (u + turns_in m + 2 - lo) 0))
            ∙ ap (λ n. map rows_of (visits who ins 0 n)) e ∙ visits_then u p in
            ap (λ i. map rows_of (visits who ins i (u + turns_in m + 2 - i))) is
            ∙ append_cancel_left (parts_before m u) _ _ (ap (λ (ps : List (List Row)). ps ++ map rows_of (visits who ins lo (u + turns_in m + 2 - lo))) (sym (visits_before v u q p l between)) ∙ whole)
