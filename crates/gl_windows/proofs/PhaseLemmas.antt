-- What a front of windows does in each cycle, stream after stream.
use Rattle.std.proofs.Common.{◌≡◌, ℕ, zero, suc, ◌+◌, ◌-◌, ◌*◌, ◌%◌, ◌<◌, ◌≤◌, max, [], length, map, Option, Some, None, Bool, true, false, refl, sym, ap, ◌∙◌, subst, arith, mul-le-mul_right, length-append}
use Rattle.std.specs.Prelude.{option_to_list, if◌then◌else◌, nat_eq}
use Rattle.std.proofs.lemmas.List.{append-nil}
use Rattle.std.proofs.Math.Nat.{le-mul_of_pos_right}
use Rattle.gl_values.specs.Lists.{slices}
use Rattle.gl_values.specs.Results.{Row}
use Rattle.gl_wire.specs.Apart.{Carries, a_tuple, an_end}
use Rattle.gl_wire.specs.Wire.{pending, stream, rows}
use Rattle.gl_wire.proofs.RowsLemmas.{rows-split, pending-rows}
use Rattle.gl_wire.specs.Lift.{Visits, visits}
use Rattle.gl_wire.specs.Timed.{Begins, at_first, after_end, NoEnd, Rested}
use Rattle.gl_windows.specs.Front.{Front, start, opening, one_opened, one_nearer, closed_by, counted, next, states, mid, closes, who_ends}
use Rattle.gl_windows.specs.Firsts.{firsts}
use Rattle.gl_windows.proofs.Setting.{Setting}
use Rattle.gl_windows.proofs.SliceLemmas.{mod_hits, firsts-slices}
use Rattle.gl_wire.proofs.NumberLemmas.{mul_below}
use Rattle.gl_wire.proofs.VisitLemmas.{begins_more}
use Rattle.gl_windows.proofs.CopyLemmas.{Step, step_at, within, of_visit}
use Rattle.gl_windows.proofs.FlowLemmas.{Flowing, flow_mid, flow_tuple, flow_idle}
use Rattle.gl_windows.proofs.FlushLemmas.{Flushing, flow_end, flush_idle, flush_done, fresh}

module _ (front : Setting) where
  open front use {size, advance, count, most, stride, a, ins}

  abbrev who : Visits
  who = who_ends size advance count stride a

  -- ---- at every cycle

  pub data Phase (c : ℕ) (s : Front) : Type 0 where
    flows : (lo base : ℕ) → Flowing front c s lo base → Begins (most * stride) a lo c → Phase c s
    flushes : (lo base q u : ℕ) → Flushing front c s lo base q u → Begins (most * stride) a lo u → Phase c s

  -- a stream that flows, from one cycle to a later one with no end before it
  flow_next : (c : ℕ) (s : Front) (lo base : ℕ) (e : Bool) (o : Option Row) → e ≡ false → Step front c e o s → Flowing front c s lo base → Flowing front (suc c) (next size advance count stride e o s) lo base
  flow_next c s lo base true o p step f = absurd (cc)
  flow_next c s lo base false None p step f = flow_idle front c s lo base f.q f.d f.xs f.is step
  flow_next c s lo base false (Some r) p step f = flow_tuple front c s lo base f.q f.d f.xs f.is r step

  pub flowing : (lo base c n : ℕ) → Flowing front c (states size advance count stride a c) lo base → ((x : ℕ) → c ≤ x → x < c + n → a.ends x ≡ false) → Flowing front (c + n) (states size advance count stride a (c + n)) lo base
  flowing lo base c zero f h = let e : c ≡ c + zero = omega arith in subst (λ i. Flowing front i (states size advance count stride a i) lo base) e f
  flowing lo base c (suc n) f h =
      let e : suc (c + n) ≡ c + suc n = omega arith in
      let g = flowing lo base c n f (λ x l m. h x l (omega (arith, m))) in
      subst (λ i. Flowing front i (states size advance count stride a i) lo base) e
      (flow_next (c + n) (states size advance count stride a (c + n)) lo base (a.ends (c + n)) (a.tuple (c + n)) (h (c + n) (omega arith) (omega arith)) (step_at front (c + n)) g)

  -- a flush goes on as long as nothing comes
  idle_next : (c lo base q u : ℕ) (s : Front) (e : Bool) (o : Option Row) → (Carries a c → ⊥) → Step front c e o s → Flushing front c s lo base q u → Flushing front (suc c) (next size advance count stride e o s) lo base q u
  idle_next c lo base q u s true o quiet step f = absurd (quiet (an_end step.is_end))
  idle_next c lo base q u s false (Some r) quiet step f = absurd (quiet (a_tuple r step.is_tuple))
  idle_next c lo base q u s false None quiet step f = flush_idle front c s lo base q f.d f.i u f.xs f.is step

  pub flushing : (lo base q u n : ℕ) → Flushing front (suc u) (states size advance count stride a (suc u)) lo base q u → ((x : ℕ) → u < x → x < suc u + n → Carries a x → ⊥) → Flushing front (suc u + n) (states size advance count stride a (suc u + n)) lo base q u
  flushing lo base q u zero f h = let e : suc u ≡ suc u + zero = omega arith in subst (λ c. Flushing front c (states size advance count stride a c) lo base q u) e f
  flushing lo base q u (suc n) f h =
      let e : suc (suc u + n) ≡ suc u + suc n = omega arith in
      let g = flushing lo base q u n f (λ x l m. h x l (omega (arith, m))) in
      subst (λ c. Flushing front c (states size advance count stride a c) lo base q u) e
      (idle_next (suc u + n) lo base q u (states size advance count stride a (suc u + n)) (a.ends (suc u + n)) (a.tuple (suc u + n)) (h (suc u + n) (omega arith) (omega arith)) (step_at front (suc u + n)) g)

  -- after a flush another stream flows
  flows_again : (c lo base q u : ℕ) (s : Front) (f : Flushing front c s lo base q u) → u + (most * stride + 1) ≤ c → Flowing front c s (u + most * stride + 2) (base + q)
  flows_again c lo base q u s f far = record { q = 0; d = 0; xs = []; is = fresh front c s lo base q f.d f.i u f.xs f.is far }

  begun_at : (c lo base q u : ℕ) (s : Front) (f : Flushing front c s lo base q u) → Begins (most * stride) a (u + most * stride + 2) c
  begun_at c lo base q u s f = after_end u f.is.end f.is.past refl (λ x l m h. f.is.quiet x l m (an_end h))

  far_enough : (c lo base q u : ℕ) (s : Front) (f : Flushing front c s lo base q u) → Carries a c → u + (most * stride + 1) ≤ c
  far_enough c lo base q u s f k = front.rested u c f.is.end k f.is.past

  pub flowing_end : (c : ℕ) (s : Front) (lo base : ℕ) (f : Flowing front c s lo base) (o : Option Row) → Step front c true o s → Flushing front (suc c) (next size advance count stride true o s) lo base (flow_mid front c s lo base f.q f.d f.xs f.is o).0 c
  flowing_end c s lo base f o step = flow_end front c s lo base f.q f.d f.xs f.is o step

  phase_next : (c : ℕ) (s : Front) (e : Bool) (o : Option Row) → Step front c e o s → Phase c s → Phase (suc c) (next size advance count stride e o s)
  phase_next c s true o step (flows lo base f b) = flushes lo base _ c (flowing_end c s lo base f o step) b
  phase_next c s true o step (flushes lo base q u f b) =
      flushes (u + most * stride + 2) (base + q) _ c (flowing_end c s (u + most * stride + 2) (base + q) (flows_again c lo base q u s f (far_enough c lo base q u s f (an_end step.is_end))) o step) (begun_at c lo base q u s f)
  phase_next c s false (Some r) step (flows lo base f b) = flows lo base (flow_next c s lo base false (Some r) refl step f) (begins_more (most * stride) a lo c step.is_end b)
  phase_next c s false (Some r) step (flushes lo base q u f b) =
      flows (u + most * stride + 2) (base + q) (flow_next c s (u + most * stride + 2) (base + q) false (Some r) refl step (flows_again c lo base q u s f (far_enough c lo base q u s f (a_tuple r step.is_tuple)))) (begins_more (most * stride) a (u + most * stride + 2) c step.is_end (begun_at c lo base q u s f))
  phase_next c s false None step (flows lo base f b) = flows lo base (flow_next c s lo base false None refl step f) (begins_more (most * stride) a lo c step.is_end b)
  phase_next c s false None step (flushes lo base q u f b) = flushes lo base q u (flush_idle front c s lo base q f.d f.i u f.xs f.is step) b

  -- the first stream, before anything comes
  pub first_flow : Flowing front 0 (start size) 0 0
  first_flow = record {
    q = 0;
    d = 0;
    xs = [];
    is = record {
      is = refl;
      opened = refl;
      closed = refl;
      until = omega arith;
      less = omega (arith, front.step_some);
      left = omega arith;
      some = front.rows_some;
      low = omega arith;
      whole = λ j l. absurd (omega (arith, l));
      copies = record {
        on = λ w l m. absurd (omega (arith, l, m));
        off = λ w l m. (refl, (let x = front.law.no_end (w % count) (within front w) in let y = front.law.no_tuple (w % count) (within front w) in rw (x, y) refl));
      };
      from = omega arith;
      done = refl;
      calm = λ l. refl;
    };
  }

  first_phase : Phase 0 (start size)
  first_phase = flows 0 0 first_flow (at_first refl (λ x l h. omega (arith, l)))

  pub phase : (c : ℕ) → Phase c (states size advance count stride a c)
  phase zero = first_phase
  phase (suc c) = phase_next c (states size advance count stride a c) (a.ends c) (a.tuple c) (step_at front c) (phase c)

  -- a cycle with the end, whatever came before
  pub record Ended (u : ℕ) : Type 0 where
    pub lo : ℕ
    pub base : ℕ
    pub q : ℕ
    pub begins : Begins (most * stride) a lo u
    pub flushing_after : Flushing front (suc u) (states size advance count stride a (suc u)) lo base q u

  end_next : (c : ℕ) (s : Front) (e : Bool) (o : Option Row) → e ≡ true → Step front c e o s → Phase c s → (lo : ℕ) × (base : ℕ) × (q : ℕ) × Flushing front (suc c) (next size advance count stride e o s) lo base q c × Begins (most * stride) a lo c
  end_next c s false o p step h = absurd (cc)
  end_next c s true o p step (flows lo base f b) = (lo, base, _, flowing_end c s lo base f o step, b)
  end_next c s true o p step (flushes lo base q u f b) =
      (u + most * stride + 2, base + q, _, flowing_end c s (u + most * stride + 2) (base + q) (flows_again c lo base q u s f (far_enough c lo base q u s f (an_end step.is_end))) o step, begun_at c lo base q u s f)

  pub ended : (u : ℕ) → a.ends u ≡ true → Ended u
  ended u p =
      let x = end_next u (states size advance count stride a u) (a.ends u) (a.tuple u) p (step_at front u) (phase u) in
      record { lo = x.0; base = x.1; q = x.2; begins = x.4; flushing_after = x.3 }

  silent : (u n : ℕ) → a.ends u ≡ true → n ≤ most * stride + 1 → (x : ℕ) → u < x → x < u + n → Carries a x → ⊥
  silent u n p l x m o k = omega (arith, front.rested u x p k m, l, o)

  -- the end of a flush
  flush_over : (u : ℕ) (p : a.ends u ≡ true) (x : Ended u) → Flushing front (suc u + (most - 1) * stride) (states size advance count stride a (suc u + (most - 1) * stride)) x.lo x.base x.q u
  flush_over u p x =
      let one : (most - 1) * stride ≤ most * stride = mul-le-mul_right stride (omega arith) in
      flushing x.lo x.base x.q u ((most - 1) * stride) x.flushing_after (λ y l m. silent u (suc ((most - 1) * stride)) p (omega (arith, one)) y l (omega (arith, m)))

  -- the visits of one stream have its slices
  pub record Visited (u : ℕ) : Type 0 where
    pub lo : ℕ
    pub begins : Begins (most * stride) a lo u
    pub from : lo ≤ u + (most - 1) * stride + 2
    pub are : map of_visit (visits who ins lo (u + (most - 1) * stride + 2 - lo)) ≡ slices size advance (stream a u)

  pub visited : (u : ℕ) → a.ends u ≡ true → Visited u
  visited u p =
      let x = ended u p in
      let f = flush_over u p x in
      let done = flush_done front (suc u + (most - 1) * stride) (states size advance count stride a (suc u + (most - 1) * stride)) x.lo x.base x.q f.d f.i u f.xs f.is (omega arith) in
      let at : suc (suc u + (most - 1) * stride) ≡ u + (most - 1) * stride + 2 = omega arith in
      record {
        lo = x.lo;
        begins = x.begins;
        from = omega (arith, f.is.from);
        are =
            ap (λ n. map of_visit (visits who ins x.lo (n - x.lo))) (sym at) ∙ f.is.done
            ∙ ap (firsts size advance f.d) (sym f.is.is)
            ∙ ap (λ n. firsts size advance n (stream a u)) done
            ∙ firsts-slices size advance x.q (stream a u) front.step_some (subst (λ l. length l ≤ x.q * advance) (sym f.is.is) f.is.all) (λ j l. subst (λ z. j * advance < length z) (sym f.is.is) (f.is.place j l));
      }

  -- ---- how many visits end

  pub opening_closed : (o : Option Row) (t : Front) → (opening advance count o t).closed ≡ t.closed
  opening_closed None t = refl
  opening_closed (Some r) t = by (nat_eq t.until 0)
    where
      by : (x : Bool) → (if x then one_opened advance count t else one_nearer t).closed ≡ t.closed
      by true = refl
      by false = refl

  counted_closed : (e : Bool) (o : Option Row) (t : Front) → (counted size advance stride e o t).closed ≡ t.closed
  counted_closed true o t = refl
  counted_closed false None t = refl
  counted_closed false (Some r) t = refl

  by_closed : (x : Bool) (t : Front) → (closed_by count x t).closed ≡ (if x then suc t.closed else t.closed)
  by_closed true t = refl
  by_closed false t = refl

  pub closed_next : (c : ℕ) → (states size advance count stride a (suc c)).closed ≡ (if closes size advance count stride a c then suc (states size advance count stride a c).closed else (states size advance count stride a c).closed)
  closed_next c =
      counted_closed (a.ends c) (a.tuple c) (closed_by count (closes size advance count stride a c) (mid size advance count stride a c))
      ∙ by_closed (closes size advance count stride a c) (mid size advance count stride a c)
      ∙ ap (λ z. if closes size advance count stride a c then suc z else z) (opening_closed (a.tuple c) (states size advance count stride a c))

  pub closed_visits : (n c : ℕ) → (states size advance count stride a c).closed + length (visits who ins (suc c) n) ≡ (states size advance count stride a (c + n)).closed
  closed_visits zero c = let e : c ≡ c + zero = omega arith in omega (arith, ap (λ z. (states size advance count stride a z).closed) e)
  closed_visits (suc n) c =
      let e : suc c + n ≡ c + suc n = omega arith in
      by (closes size advance count stride a c) refl (closed_next c) (closed_visits n (suc c) ∙ ap (λ z. (states size advance count stride a z).closed) e)
    where
      by : (x : Bool) → closes size advance count stride a c ≡ x → (states size advance count stride a (suc c)).closed ≡ (if x then suc (states size advance count stride a c).closed else (states size advance count stride a c).closed)
          → (states size advance count stride a (suc c)).closed + length (visits who ins (suc (suc c)) n) ≡ (states size advance count stride a (c + suc n)).closed
          → (states size advance count stride a c).closed + length (visits who ins (suc c) (suc n)) ≡ (states size advance count stride a (c + suc n)).closed
      by true p q ih = rw p (omega (arith, q, ih))
      by false p q ih = rw p (omega (arith, q, ih))

  flows_at : (x : ℕ) → Rested (most * stride) a x → Phase x (states size advance count stride a x) → (lo : ℕ) × (base : ℕ) × Flowing front x (states size advance count stride a x) lo base
  flows_at x rest (flows lo base f b) = (lo, base, f)
  flows_at x rest (flushes lo base q u f b) = (u + most * stride + 2, base + q, flows_again x lo base q u (states size advance count stride a x) f (rest.over u f.is.end f.is.past))

  ends_flowing : (c : ℕ) (s : Front) (lo base : ℕ) (e : Bool) (o : Option Row) → e ≡ true → (f : Flowing front c s lo base) → Step front c e o s → Flushing front (suc c) (next size advance count stride e o s) lo base (flow_mid front c s lo base f.q f.d f.xs f.is o).0 c
  ends_flowing c s lo base false o p f step = absurd (cc)
  ends_flowing c s lo base true o p f step = flowing_end c s lo base f o step

  few_enough : (q d n0 m l : ℕ) → n0 + l ≡ d * advance + size → 1 ≤ l → q * advance < n0 + m + advance → q ≤ d + (max m 1 - 1 + most)
  few_enough q d n0 m l e some less =
      let k : max m 1 - 1 ≤ (max m 1 - 1) * advance = le-mul_of_pos_right (max m 1 - 1) front.step_some in
      let far : q * advance < (d + most + 1 + (max m 1 - 1)) * advance = omega (arith, k, less, e, some, front.cover) in
      let z = mul_below q (d + most + 1 + (max m 1 - 1)) advance far in omega (arith, z)

  -- with the end, so many and those of the copies that are open, less one
  pub many_windows : (x u n : ℕ) → Rested (most * stride) a x → x ≤ u → u < x + n → NoEnd a x u → a.ends u ≡ true → ((y : ℕ) → u < y → y < x + n → Carries a y → ⊥) → length (visits who ins (suc x) n) ≤ max (length (rows a x (suc (u - x)))) 1 - 1 + most
  many_windows x u n rest l m quiet e still =
      let at : x + (u - x) ≡ u = omega (arith, l) in
      let z = flows_at x rest (phase x) in
      let f0 = z.2 in
      let f1 : Flowing front u (states size advance count stride a u) z.0 z.1 = subst (λ i. Flowing front i (states size advance count stride a i) z.0 z.1) at (flowing z.0 z.1 x (u - x) f0 (λ y p q. quiet.none y p (omega (arith, q, l)))) in
      let g = ends_flowing u (states size advance count stride a u) z.0 z.1 (a.ends u) (a.tuple u) e f1 (step_at front u) in
      let mid_u = flow_mid front u (states size advance count stride a u) z.0 z.1 f1.q f1.d f1.xs f1.is (a.tuple u) in
      let last : suc u + (x + n - suc u) ≡ x + n = omega (arith, m) in
      let k = flushing z.0 z.1 mid_u.0 u (x + n - suc u) g (λ y p q. still y p (omega (arith, q, m))) in
      let counted_up = closed_visits n x in
      let end_closed : (states size advance count stride a (x + n)).closed ≡ z.1 + k.d = ap (λ i. (states size advance count stride a i).closed) (sym last) ∙ k.is.closed in
      let grown : length (pending a u) ≡ length (pending a x) + length (rows a x (u - x)) = ap (λ i. length (pending a i)) (sym at) ∙ ap length (pending-rows a (u - x) x (λ y p q. quiet.none y p (omega (arith, q, l)))) ∙ length-append (pending a x) (rows a x (u - x)) in
      let one : suc (u - x) ≡ u - x + 1 = omega arith in
      let all : length (rows a x (suc (u - x))) ≡ length (rows a x (u - x)) + length (option_to_list (a.tuple u)) =
      ap (λ i. length (rows a x i)) one ∙ ap length (rows-split a (u - x) 1 x) ∙ length-append (rows a x (u - x)) (rows a (x + (u - x)) 1) ∙ ap (λ i. length (rows a x (u - x)) + length (rows a i 1)) at ∙ ap (λ i. length (rows a x (u - x)) + length i) (append-nil (option_to_list (a.tuple u)))
      in
      let xs1 : length f1.xs ≡ length (pending a u) = ap length (sym f1.is.is) in
      let xs0 : length f0.xs ≡ length (pending a x) = ap length (sym f0.is.is) in
      let both = length-append f1.xs (option_to_list (a.tuple u)) in
      let bound = few_enough mid_u.0 f0.d (length f0.xs) (length (rows a x (suc (u - x)))) (states size advance count stride a x).left f0.is.left f0.is.some (omega (arith, mid_u.1.until, mid_u.1.less, both, xs1, xs0, grown, all)) in
      omega (arith, counted_up, end_closed, f0.is.closed, k.is.low, bound)

  pub empty_copies : (u k : ℕ) → a.ends u ≡ true → k < count → pending (ins k) (u + (most - 1) * stride + 2) ≡ []
  empty_copies u k p l =
      let x = ended u p in
      let f = flush_over u p x in
      let s = states size advance count stride a (suc u + (most - 1) * stride) in
      let done = flush_done front (suc u + (most - 1) * stride) s x.lo x.base x.q f.d f.i u f.xs f.is (omega arith) in
      let at : suc (suc u + (most - 1) * stride) ≡ u + (most - 1) * stride + 2 = omega arith in
      let w = mod_hits count s.closed k l in
      let empty = (f.is.copies.off w.0 (omega (arith, w.1, f.is.opened, f.is.closed, done)) w.2).1 in
      ap (λ i. pending (ins k) i) (sym at) ∙ ap (λ i. pending (ins i) (suc (suc u + (most - 1) * stride))) (sym w.3) ∙ empty

  -- ---- where its visits begin, for any cycle

  pub from_by : (u : ℕ) (e : Bool) → a.ends u ≡ e → ℕ
  from_by u true p = (visited u p).lo
  from_by u false p = 0

  pub from_begins : (u : ℕ) (e : Bool) (p : a.ends u ≡ e) → e ≡ true → Begins (most * stride) a (from_by u e p) u
  unfolding from_by
  from_begins u true p q = (visited u p).begins
  from_begins u false p q = absurd (cc)

  pub from_parted : (u : ℕ) (e : Bool) (p : a.ends u ≡ e) → e ≡ true → map of_visit (visits who ins (from_by u e p) (u + (most - 1) * stride + 2 - from_by u e p)) ≡ slices size advance (stream a u)
  unfolding from_by
  from_parted u true p q = (visited u p).are
  from_parted u false p q = absurd (cc)
