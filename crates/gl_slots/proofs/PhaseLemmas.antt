-- The machine of slots at every cycle: a stream comes, or its end was the last that came.
use Rattle.std.proofs.Common.{◌≡◌, ℕ, zero, suc, ◌+◌, ◌-◌, ◌*◌, ◌<◌, ◌≤◌, List, [], ◌∷◌, ◌++◌, take, take_all, map, Option, Some, None, Bool, true, false, refl, sym, ap, ◌∙◌, subst, arith, mul-le-mul_right}
use Rattle.gl_values.specs.Lists.{groups, keys_of}
use Rattle.gl_values.specs.Results.{Row}
use Rattle.gl_wire.specs.Apart.{Carries, a_tuple, an_end}
use Rattle.gl_wire.specs.Wire.{pending, stream}
use Rattle.gl_wire.specs.Lift.{Visits, visits}
use Rattle.gl_wire.specs.Timed.{Begins, at_first, after_end}
use Rattle.gl_slots.specs.Slots.{Slots, no_slots, freed, with_tuple, keys_now, slots_next, slots_at, keys_at, who_slots}
use Rattle.gl_slots.proofs.Setting.{Setting}
use Rattle.gl_wire.proofs.VisitLemmas.{begins_more}
use Rattle.gl_slots.proofs.SlotLemmas.{Step, Flow, Flush, step_at, few_keys, keys_with, flow_tuple, flow_idle, flow_end, group_of, of_group}
use Rattle.gl_slots.proofs.FlushLemmas.{flush_idle, flush_done, fresh, none_taken}

module _ (front : Setting) where
  open front use {count, key, stride, a, ins}

  abbrev who : Visits
  who = who_slots count key stride a

  pub data Phase (c : ℕ) (s : Slots) : Type 0 where
    flows : (lo : ℕ) (xs : List Row) → Flow front c s lo xs → Begins (count * stride) a lo c → Phase c s
    flushes : (lo u : ℕ) (xs : List Row) → Flush front c s lo u xs → Begins (count * stride) a lo u → Phase c s

  far_enough : (c : ℕ) (s : Slots) (lo u : ℕ) (xs : List Row) → Flush front c s lo u xs → Carries a c → u + (count * stride + 1) ≤ c
  far_enough c s lo u xs h k = omega (arith, front.timed.after u c h.end k h.past, front.wide)

  begun_at : (c : ℕ) (s : Slots) (lo u : ℕ) (xs : List Row) → Flush front c s lo u xs → Begins (count * stride) a (u + count * stride + 2) c
  begun_at c s lo u xs h = after_end u h.end h.past refl (λ x l m e. h.quiet x l m (an_end e))

  phase_next : (c : ℕ) (s : Slots) (e : Bool) (o : Option Row) → Step front c e o s → Phase c s → Phase (suc c) (slots_next stride e o (keys_now count key e o s) s)
  phase_next c s true o step (flows lo xs f b) = flushes lo c xs (flow_end front c s lo xs f o step) b
  phase_next c s true o step (flushes lo u xs f b) =
      flushes (u + count * stride + 2) c [] (flow_end front c s (u + count * stride + 2) [] (fresh front c s lo u xs f (far_enough c s lo u xs f (an_end step.is_end))) o step) (begun_at c s lo u xs f)
  phase_next c s false (Some r) step (flows lo xs f b) = flows lo (xs ++ r ∷ []) (flow_tuple front c s lo xs f r step) (begins_more (count * stride) a lo c step.is_end b)
  phase_next c s false (Some r) step (flushes lo u xs f b) =
      flows (u + count * stride + 2) ([] ++ r ∷ []) (flow_tuple front c s (u + count * stride + 2) [] (fresh front c s lo u xs f (far_enough c s lo u xs f (a_tuple r step.is_tuple))) r step) (begins_more (count * stride) a (u + count * stride + 2) c step.is_end (begun_at c s lo u xs f))
  phase_next c s false None step (flows lo xs f b) = flows lo xs (flow_idle front c s lo xs f step) (begins_more (count * stride) a lo c step.is_end b)
  phase_next c s false None step (flushes lo u xs f b) = flushes lo u xs (flush_idle front c s lo u xs f step) b

  first_phase : Phase 0 no_slots
  first_phase = flows 0 [] (record {
    is = refl;
    keys = sym (none_taken count);
    slots = λ k l. (let x = front.law.no_end k l in let y = front.law.no_tuple k l in rw (x, y) refl);
    from = omega arith;
    done = refl;
    calm = λ e. omega arith;
  }) (at_first refl (λ x l h. omega (arith, l)))

  pub phase : (c : ℕ) → Phase c (slots_at count key stride a c)
  phase zero = first_phase
  phase (suc c) = phase_next c (slots_at count key stride a c) (a.ends c) (a.tuple c) (step_at front c) (phase c)

  -- the flush that begins at an end
  pub record Ended (u : ℕ) : Type 0 where
    pub lo : ℕ
    pub xs : List Row
    pub begins : Begins (count * stride) a lo u
    pub after : Flush front (suc u) (slots_at count key stride a (suc u)) lo u xs

  end_next : (c : ℕ) (s : Slots) (e : Bool) (o : Option Row) → e ≡ true → Step front c e o s → Phase c s → (lo : ℕ) × (xs : List Row) × Flush front (suc c) (slots_next stride e o (keys_now count key e o s) s) lo c xs × Begins (count * stride) a lo c
  end_next c s false o p step h = absurd (cc)
  end_next c s true o p step (flows lo xs f b) = (lo, xs, flow_end front c s lo xs f o step, b)
  end_next c s true o p step (flushes lo u xs f b) =
      (u + count * stride + 2, [], flow_end front c s (u + count * stride + 2) [] (fresh front c s lo u xs f (far_enough c s lo u xs f (an_end step.is_end))) o step, begun_at c s lo u xs f)

  pub ended : (u : ℕ) → a.ends u ≡ true → Ended u
  ended u p = let x = end_next u (slots_at count key stride a u) (a.ends u) (a.tuple u) p (step_at front u) (phase u) in record { lo = x.0; xs = x.1; begins = x.3; after = x.2 }

  idle_next : (c lo u : ℕ) (s : Slots) (xs : List Row) (e : Bool) (o : Option Row) → (Carries a c → ⊥) → Step front c e o s → Flush front c s lo u xs → Flush front (suc c) (slots_next stride e o (keys_now count key e o s) s) lo u xs
  idle_next c lo u s xs true o still step f = absurd (still (an_end step.is_end))
  idle_next c lo u s xs false (Some r) still step f = absurd (still (a_tuple r step.is_tuple))
  idle_next c lo u s xs false None still step f = flush_idle front c s lo u xs f step

  pub flushing : (lo u n : ℕ) (xs : List Row) → Flush front (suc u) (slots_at count key stride a (suc u)) lo u xs → ((x : ℕ) → u < x → x < suc u + n → Carries a x → ⊥) → Flush front (suc u + n) (slots_at count key stride a (suc u + n)) lo u xs
  flushing lo u zero xs f h = let e : suc u ≡ suc u + zero = omega arith in subst (λ c. Flush front c (slots_at count key stride a c) lo u xs) e f
  flushing lo u (suc n) xs f h =
      let e : suc (suc u + n) ≡ suc u + suc n = omega arith in
      let g = flushing lo u n xs f (λ x l m. h x l (omega (arith, m))) in
      subst (λ c. Flush front c (slots_at count key stride a c) lo u xs) e
      (idle_next (suc u + n) lo u (slots_at count key stride a (suc u + n)) xs (a.ends (suc u + n)) (a.tuple (suc u + n)) (h (suc u + n) (omega arith) (omega arith)) (step_at front (suc u + n)) g)

  flush_over : (u : ℕ) (p : a.ends u ≡ true) (x : Ended u) → Flush front (suc u + (count - 1) * stride) (slots_at count key stride a (suc u + (count - 1) * stride)) x.lo u x.xs
  flush_over u p x =
      let one : (count - 1) * stride ≤ count * stride = mul-le-mul_right stride (omega arith) in
      flushing x.lo u ((count - 1) * stride) x.xs x.after (λ y l m k. omega (arith, front.timed.after u y p k l, m, one, front.wide))

  slot_parts : (u : ℕ) (p : a.ends u ≡ true) → map (of_group front) (visits who ins (ended u p).lo (u + (count - 1) * stride + 2 - (ended u p).lo)) ≡ groups count key (stream a u)
  unfolding groups
  slot_parts u p =
      let x = ended u p in
      let f = flush_over u p x in
      let s = slots_at count key stride a (suc u + (count - 1) * stride) in
      let done = flush_done front (suc u + (count - 1) * stride) s x.lo u x.xs f (omega arith) in
      let at : suc (suc u + (count - 1) * stride) ≡ u + (count - 1) * stride + 2 = omega arith in
      ap (λ n. map (of_group front) (visits who ins x.lo (n - x.lo))) (sym at) ∙ f.done
      ∙ ap (map (group_of front (stream a u))) (take_all s.turn s.keys (omega (arith, few_keys front (stream a u) s.keys f.keys, done)) ∙ f.keys)

  pub empty_slots : (u k : ℕ) → a.ends u ≡ true → k < count → pending (ins k) (u + (count - 1) * stride + 2) ≡ []
  empty_slots u k p l =
      let x = ended u p in
      let f = flush_over u p x in
      let s = slots_at count key stride a (suc u + (count - 1) * stride) in
      let done = flush_done front (suc u + (count - 1) * stride) s x.lo u x.xs f (omega arith) in
      let at : suc (suc u + (count - 1) * stride) ≡ u + (count - 1) * stride + 2 = omega arith in
      ap (pending (ins k)) (sym at) ∙ f.over k (omega (arith, l, done)) l

  -- the keys with a tuple are the first of its stream
  pub keys_are : (c : ℕ) (r : Row) → a.tuple c ≡ Some r → keys_at count key stride a c ≡ take count (keys_of key (stream a c))
  keys_are c r h = by (slots_at count key stride a c) (a.ends c) (a.tuple c) (step_at front c) (phase c) h
    where
      now : (s : Slots) (e : Bool) → keys_now count key e (Some r) s ≡ with_tuple count key (Some r) (freed s)
      now s true = refl
      now s false = refl

      flow : (s : Slots) (e : Bool) (lo : ℕ) (xs : List Row) → Flow front c s lo xs → a.tuple c ≡ Some r → keys_now count key e (Some r) s ≡ take count (keys_of key (stream a c))
      flow s e lo xs f h = now s e ∙ keys_with front xs (Some r) (freed s) f.keys ∙ ap (λ z. take count (keys_of key z)) (let w : stream a c ≡ xs ++ r ∷ [] = rw (f.is, h) refl in sym w)

      by : (s : Slots) (e : Bool) (o : Option Row) → Step front c e o s → Phase c s → o ≡ Some r → keys_now count key e o s ≡ take count (keys_of key (stream a c))
      by s e o step (flows lo xs f b) p = ap (λ z. keys_now count key e z s) p ∙ flow s e lo xs f h
      by s e o step (flushes lo u xs f b) p = ap (λ z. keys_now count key e z s) p ∙ flow s e (u + count * stride + 2) [] (fresh front c s lo u xs f (far_enough c s lo u xs f (a_tuple r h))) h

  -- the keys stay until what comes next has been taken
  pub keys_stay : (u c : ℕ) → a.ends u ≡ true → u < c → c ≤ u + front.g2 → (slots_at count key stride a c).keys ≡ take count (keys_of key (stream a u))
  keys_stay u c p l m =
      let x = ended u p in
      let at : suc u + (c - suc u) ≡ c = omega (arith, l) in
      let f = flushing x.lo u (c - suc u) x.xs x.after (λ y n q k. omega (arith, front.timed.after u y p k n, q, m, l)) in
      ap (λ z. (slots_at count key stride a z).keys) (sym at) ∙ f.keys

  -- where the visits of the stream that ends in a cycle begin, and that they are of its groups
  pub slot_from : (u : ℕ) (e : Bool) → a.ends u ≡ e → ℕ
  slot_from u true p = (ended u p).lo
  slot_from u false p = 0

  pub slot_begins : (u : ℕ) (e : Bool) (p : a.ends u ≡ e) → e ≡ true → Begins (count * stride) a (slot_from u e p) u
  unfolding slot_from
  slot_begins u true p q = (ended u p).begins
  slot_begins u false p q = absurd (cc)

  pub slot_parted : (u : ℕ) (e : Bool) (p : a.ends u ≡ e) → e ≡ true → map (of_group front) (visits who ins (slot_from u e p) (u + (count - 1) * stride + 2 - slot_from u e p)) ≡ groups count key (stream a u)
  unfolding slot_from
  slot_parted u true p q = slot_parts u p
  slot_parted u false p q = absurd (cc)
