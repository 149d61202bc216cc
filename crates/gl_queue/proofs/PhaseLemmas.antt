-- What a union holds, cycle by cycle: it is done with a beat before the next one's rows come.
use Rattle.std.proofs.Common.{◌≡◌, ℕ, suc, ◌+◌, ◌-◌, ◌<◌, ◌≤◌, List, [], ◌∷◌, length, Option, Some, None, Bool, true, false, refl, sym, ap, ◌∙◌, arith, inl, inr, ◌⊎◌, length-append}
use Rattle.std.specs.Prelude.{option_to_list, is_some, not, ◌&&◌, if◌then◌else◌}
use Rattle.std.proofs.lemmas.Bool.{cases_lt, false_from_ne_true, and_parts}
use Rattle.gl_values.specs.Results.{Row}
use Rattle.gl_wire.specs.Beats.{Beats}
use Rattle.gl_wire.specs.Wire.{Carried, rows}
use Rattle.gl_queue.specs.Queue.{oldest, behind}
use Rattle.gl_wire.specs.Sides.{IsOpen, IsIdle, ItsEnd, Side}
use Rattle.gl_queue.specs.Phases.{Held, Works, held, Bounds, most_of, Roomy, Quiet, Waits, Gone}
use Rattle.gl_queue.proofs.HeldLemmas.{taken, shorter, shorter_if, empty, rows-push, flag_off, start_wait, keep_wait}

-- the old beat is done within this cycle
pub record Clear (h : Held) (o : Carried) (c : ℕ) : Type 0 where
  pub few : held h c ≤ 1
  pub a : h.wait_a c ≡ true → o.ends c ≡ true
  pub b : h.wait_b c ≡ true → o.ends c ≡ true

nothing_shown : (xs : List Row) → not (is_some (oldest xs)) ≡ true → xs ≡ []
nothing_shown [] h = refl
nothing_shown (x ∷ xs) h = absurd (cc)

-- what the end needs
pub record Leaving (h : Held) (c : ℕ) : Type 0 where
  pub a : h.wait_a c ≡ true
  pub b : h.wait_b c ≡ true
  pub left : h.left c ≡ []
  pub right : h.right c ≡ []

module _ (h : Held) (a b o : Carried) (c : ℕ) (w : Works h a b o c) where
  pub leaving : o.ends c ≡ true → Leaving h c
  leaving e =
      let all : (h.wait_a c && h.wait_b c) && not (is_some (oldest (h.left c))) && not (is_some (oldest (h.right c))) ≡ true = sym w.leaves ∙ e in
      let x = and_parts ((h.wait_a c && h.wait_b c) && not (is_some (oldest (h.left c)))) (not (is_some (oldest (h.right c)))) all in
      let y = and_parts (h.wait_a c && h.wait_b c) (not (is_some (oldest (h.left c)))) x.0 in
      let z = and_parts (h.wait_a c) (h.wait_b c) y.0 in
      record { a = z.0; b = z.1; left = nothing_shown (h.left c) y.1; right = nothing_shown (h.right c) x.1 }

  pub leaves_then : Leaving h c → o.ends c ≡ true
  leaves_then l = w.leaves ∙ (rw (l.a, l.b, l.left, l.right) refl)

  pub left_length : length (h.left (suc c)) ≡ length (behind (h.left c)) + length (option_to_list (a.tuple c))
  left_length = ap length w.left ∙ length-append (behind (h.left c)) (option_to_list (a.tuple c))

  abbrev pub right_rest : List Row
  right_rest = if not (is_some (oldest (h.left c))) then behind (h.right c) else h.right c

  pub right_length : length (h.right (suc c)) ≡ length right_rest + length (option_to_list (b.tuple c))
  right_length = ap length w.right ∙ length-append right_rest (option_to_list (b.tuple c))

  pub held_next : held h (suc c) ≡ (held h c - 1) + length (option_to_list (a.tuple c)) + length (option_to_list (b.tuple c))
  held_next = omega (arith, left_length, right_length, taken (h.left c) (h.right c))

  left_more : length (h.left (suc c)) ≤ length (h.left c) + length (option_to_list (a.tuple c))
  left_more = omega (arith, left_length, shorter (h.left c))

  right_more : length (h.right (suc c)) ≤ length (h.right c) + length (option_to_list (b.tuple c))
  right_more = omega (arith, right_length, shorter_if (not (is_some (oldest (h.left c)))) (h.right c))

none_came : (o : Option Row) → o ≡ None → length (option_to_list o) ≡ 0
none_came o e = rw e refl

module _ (k : Bounds) (la lb : Bool → ℕ) (beats : Beats) (h : Held) (a b o : Carried) (sa : Side k.first la k.most_a beats a) (sb : Side k.first lb k.most_b beats b) (in_a : (e : Bool) → la e ≤ k.late e) (in_b : (e : Bool) → lb e ≤ k.late e) (roomy : Roomy k beats) where
  -- what is left of a beat's end
  abbrev pub EndOf : ℕ → ℕ → Bool → Type 0
  EndOf c t false = Quiet h c
  EndOf c t true = (i : beats t ≡ Some true) × (Waits k h o c t (sa.its_end t i).at (sb.its_end t i).at ⊎ Gone k h o c t (sa.its_end t i).at (sb.its_end t i).at)

  pub record Busy (c t : ℕ) (e : Bool) : Type 0 where
    pub open_beat : IsOpen k.first beats c t e
    pub left : length (h.left c) ≤ length (rows a (t + k.first) (c - (t + k.first)))
    pub right : length (h.right c) ≤ length (rows b (t + k.first) (c - (t + k.first)))
    pub fast : held h c ≤ most_of k e - (c - suc (t + k.late e))
    pub ended : EndOf c t e

  pub record Idle (c : ℕ) : Type 0 where
    pub idle : IsIdle k.first beats c
    pub left : h.left c ≡ []
    pub right : h.right c ≡ []
    pub quiet : Quiet h c

  -- the rows of the last cycle count too
  count_next : (s : Carried) (c t n m : ℕ) → t + k.first ≤ c → n ≤ length (rows s (t + k.first) (c - (t + k.first))) → m ≤ n + length (option_to_list (s.tuple c)) → m ≤ length (rows s (t + k.first) (suc c - (t + k.first)))
  count_next s c t n m l p q =
      let x : suc c - (t + k.first) ≡ suc (c - (t + k.first)) = omega (arith, l) in
      let y : t + k.first + (c - (t + k.first)) ≡ c = omega (arith, l) in
      let z : length (rows s (t + k.first) (suc (c - (t + k.first)))) ≡ length (rows s (t + k.first) (c - (t + k.first))) + length (option_to_list (s.tuple (t + k.first + (c - (t + k.first))))) = rows-push s (t + k.first) (c - (t + k.first)) in
      let v : length (option_to_list (s.tuple (t + k.first + (c - (t + k.first))))) ≡ length (option_to_list (s.tuple c)) = ap (λ i. length (option_to_list (s.tuple i))) y in
      rw x (omega (arith, p, q, z, v))

  -- by this cycle no more than the beat's rows came
  in_all : (c t : ℕ) (e : Bool) → IsOpen k.first beats c t e → length (h.left c) ≤ length (rows a (t + k.first) (c - (t + k.first))) → length (h.right c) ≤ length (rows b (t + k.first) (c - (t + k.first))) → held h c ≤ most_of k e
  in_all c t e i p q =
      let low = i.low in
      omega (arith, p, q, sa.fewer c t (c - (t + k.first)) e i (omega (arith, low)), sb.fewer c t (c - (t + k.first)) e i (omega (arith, low)))

  module _ (c : ℕ) (w : Works h a b o c) where
    pub clear_busy : (t u : ℕ) (e d : Bool) → beats u ≡ Some d → u + k.first ≡ c → Busy c t e → Clear h o c
    clear_busy t u e d i at y =
        let low = y.open_beat.low in
        let l : t < u = omega (arith, low, at) in
        let room = roomy.rows t u e d y.open_beat.is i l in
        record { few = omega (arith, room, y.fast, at); a = (flags e y.open_beat.is y.fast y.ended l).0; b = (flags e y.open_beat.is y.fast y.ended l).1 }
      where
        flags : (e : Bool) → beats t ≡ Some e → held h c ≤ most_of k e - (c - suc (t + k.late e)) → EndOf c t e → t < u → (h.wait_a c ≡ true → o.ends c ≡ true) × (h.wait_b c ≡ true → o.ends c ≡ true)
        flags false j f q l = (λ x. absurd (let z = q.a in cc (x, z)), λ x. absurd (let z = q.b in cc (x, z)))
        flags true j f (z, inr gone) l = (λ x. absurd (let z = gone.quiet.a in cc (x, z)), λ x. absurd (let z = gone.quiet.b in cc (x, z)))
        flags true j f (z, inl waits) l =
            let room : t + k.late true + most_of k true + 1 ≤ u + k.first = roomy.ends t u d j i l in
            let none : held h c ≡ 0 = omega (arith, room, f, at) in
            let high_a = (sa.its_end t z).high in
            let high_b = (sb.its_end t z).high in
            let all : o.ends c ≡ true = leaves_then h a b o c w (record {
              a = waits.a.yes (omega (arith, high_a, in_a true, room, at));
              b = waits.b.yes (omega (arith, high_b, in_b true, room, at));
              left = empty (h.left c) (omega (arith, none));
              right = empty (h.right c) (omega (arith, none));
            }) in
            (λ x. all, λ x. all)

    clear_idle : Idle c → Clear h o c
    clear_idle y = record {
      few = omega (arith, ap length y.left, ap length y.right);
      a = λ x. absurd (let z = y.quiet.a in cc (x, z));
      b = λ x. absurd (let z = y.quiet.b in cc (x, z));
    }

    -- a beat's interval begins
    start : (u : ℕ) (d : Bool) → beats u ≡ Some d → u + k.first ≡ c → IsOpen k.first beats (suc c) u d → Clear h o c → Busy (suc c) u d
    start u d i at opened clear =
        let left : length (h.left (suc c)) ≤ length (rows a (u + k.first) (suc c - (u + k.first))) = count_next a c u 0 (length (h.left (suc c))) (omega (arith, at)) (omega arith) (omega (arith, left_length h a b o c w, taken (h.left c) (h.right c), clear.few)) in
        let right : length (h.right (suc c)) ≤ length (rows b (u + k.first) (suc c - (u + k.first))) = count_next b c u 0 (length (h.right (suc c))) (omega (arith, at)) (omega arith) (omega (arith, right_length h a b o c w, taken (h.left c) (h.right c), clear.few)) in
        record {
          open_beat = opened;
          left = left;
          right = right;
          fast = (let z : suc c - suc (u + k.late d) ≡ 0 = omega (arith, at, roomy.low d) in omega (arith, z, in_all (suc c) u d opened left right));
          ended = ended d i opened;
        }
      where
        ended : (d : Bool) → beats u ≡ Some d → IsOpen k.first beats (suc c) u d → EndOf (suc c) u d
        ended false j p = record {
          a = w.wait_a ∙ flag_off (a.ends c) (h.wait_a c) (o.ends c) (false_from_ne_true (a.ends c) (λ x. let z = sa.end (suc c) u c false p (omega (arith, at)) (omega arith) x in cc z)) clear.a;
          b = w.wait_b ∙ flag_off (b.ends c) (h.wait_b c) (o.ends c) (false_from_ne_true (b.ends c) (λ x. let z = sb.end (suc c) u c false p (omega (arith, at)) (omega arith) x in cc z)) clear.b;
        }
        ended true j p =
            let x = sa.its_end u j in
            let y = sb.its_end u j in
            let low_a = x.low in
            let low_b = y.low in (
              j,
              inl (record {
                a = start_wait a.ends h.wait_a o.ends x.at c w.wait_a x.ends (λ z. x.only (suc c) c p (omega (arith, at)) (omega arith) z) (omega (arith, low_a, at)) clear.a;
                b = start_wait b.ends h.wait_b o.ends y.at c w.wait_b y.ends (λ z. y.only (suc c) c p (omega (arith, at)) (omega arith) z) (omega (arith, low_b, at)) clear.b;
                none = λ z l m. absurd (omega (arith, l, m, at));
                high = omega (arith, at, roomy.low true);
              }),
            )

    -- or goes on
    goes_on : (t : ℕ) (e : Bool) → IsOpen k.first beats (suc c) t e → Busy c t e → Busy (suc c) t e
    goes_on t e opened y =
        let low = y.open_beat.low in
        let left : length (h.left (suc c)) ≤ length (rows a (t + k.first) (suc c - (t + k.first))) = count_next a c t (length (h.left c)) (length (h.left (suc c))) (omega (arith, low)) y.left (left_more h a b o c w) in
        let right : length (h.right (suc c)) ≤ length (rows b (t + k.first) (suc c - (t + k.first))) = count_next b c t (length (h.right c)) (length (h.right (suc c))) (omega (arith, low)) y.right (right_more h a b o c w) in
        record {
          open_beat = opened;
          left = left;
          right = right;
          fast = elim (cases_lt (t + k.late e) c) [
            | inl m ↦ (let x : length (option_to_list (a.tuple c)) ≡ 0 = none_came (a.tuple c) (no_a m) in
                let z : length (option_to_list (b.tuple c)) ≡ 0 = none_came (b.tuple c) (no_b m) in
                omega (arith, held_next h a b o c w, y.fast, x, z, m))
            | inr m ↦ (let z : suc c - suc (t + k.late e) ≡ 0 = omega (arith, m) in omega (arith, z, in_all (suc c) t e opened left right))
          ];
          ended = ended e opened y.ended y.fast;
        }
      where
        no_a : t + k.late e < c → a.tuple c ≡ None
        no_a m = none_of (a.tuple c) refl
          where
            none_of : (p : Option Row) → a.tuple c ≡ p → p ≡ None
            none_of None q = refl
            none_of (Some r) q = absurd (let low = y.open_beat.low in let z = sa.tuple (suc c) t c e r opened (omega (arith, low)) (omega arith) q in omega (arith, z, in_a e, m))

        no_b : t + k.late e < c → b.tuple c ≡ None
        no_b m = none_of (b.tuple c) refl
          where
            none_of : (p : Option Row) → b.tuple c ≡ p → p ≡ None
            none_of None q = refl
            none_of (Some r) q = absurd (let low = y.open_beat.low in let z = sb.tuple (suc c) t c e r opened (omega (arith, low)) (omega arith) q in omega (arith, z, in_b e, m))

        ended : (e : Bool) → IsOpen k.first beats (suc c) t e → EndOf c t e → held h c ≤ most_of k e - (c - suc (t + k.late e)) → EndOf (suc c) t e
        ended false p q f = record {
          a = w.wait_a ∙ flag_off (a.ends c) (h.wait_a c) (o.ends c) (false_from_ne_true (a.ends c) (λ x. let low = y.open_beat.low in let z = sa.end (suc c) t c false p (omega (arith, low)) (omega arith) x in cc z)) (λ x. absurd (let z = q.a in cc (x, z)));
          b = w.wait_b ∙ flag_off (b.ends c) (h.wait_b c) (o.ends c) (false_from_ne_true (b.ends c) (λ x. let low = y.open_beat.low in let z = sb.end (suc c) t c false p (omega (arith, low)) (omega arith) x in cc z)) (λ x. absurd (let z = q.b in cc (x, z)));
        }
        ended true p (i, inl waits) f = by (o.ends c) refl
          where
            x : ItsEnd k.first (la true) beats a t
            x = sa.its_end t i

            z : ItsEnd k.first (lb true) beats b t
            z = sb.its_end t i

            after_first : t + k.first ≤ c
            after_first = let low = y.open_beat.low in omega (arith, low)

            by : (s : Bool) → o.ends c ≡ s → EndOf (suc c) t true
            by false s = (
              i,
              inl (record {
                a = keep_wait a.ends h.wait_a o.ends x.at c w.wait_a x.ends (λ v. x.only (suc c) c p after_first (omega arith) v) waits.a s;
                b = keep_wait b.ends h.wait_b o.ends z.at c w.wait_b z.ends (λ v. z.only (suc c) c p after_first (omega arith) v) waits.b s;
                none = λ v l m. elim (cases_lt v c) [ inl n ↦ waits.none v l n | inr n ↦ (let e : v ≡ c = omega (arith, n, m) in ap o.ends e ∙ s) ];
                high = elim (cases_lt c (t + k.late true + most_of k true + 1)) [
                  | inl l ↦ omega (arith, l)
                  | inr l ↦ absurd (
                      let high_a = x.high in
                      let high_b = z.high in
                      let none : held h c ≡ 0 = omega (arith, f, l) in
                      let all : o.ends c ≡ true = leaves_then h a b o c w (record {
                        a = waits.a.yes (omega (arith, high_a, in_a true, l));
                        b = waits.b.yes (omega (arith, high_b, in_b true, l));
                        left = empty (h.left c) (omega (arith, none));
                        right = empty (h.right c) (omega (arith, none));
                      }) in
                      cc (all, s))
                ];
              }),
            )
            by true s =
                let l = leaving h a b o c w s in
                let low = y.open_beat.low in
                let high = waits.high in
                let by_a : x.at < c = waits.a.no l.a in
                let by_b : z.at < c = waits.b.no l.b in
                let none_a : a.tuple c ≡ None = x.after (suc c) c p by_a (omega arith) in
                let none_b : b.tuple c ≡ None = z.after (suc c) c p by_b (omega arith) in
                let now : held h c ≡ 0 = omega (arith, ap length l.left, ap length l.right) in
                let next : held h (suc c) ≡ 0 = omega (arith, held_next h a b o c w, now, none_came (a.tuple c) none_a, none_came (b.tuple c) none_b) in (
                  i,
                  inr (record {
                    at = c;
                    low = low;
                    high = high;
                    before = omega arith;
                    ends = s;
                    after_a = by_a;
                    after_b = by_b;
                    only = λ v m n q. elim (cases_lt v c) [ inl r ↦ absurd (let f = waits.none v m r in cc (f, q)) | inr r ↦ omega (arith, r, n) ];
                    empty = λ v m n. elim (cases_lt c v) [ inl r ↦ (let e : v ≡ suc c = omega (arith, r, n) in ap (held h) e ∙ next) | inr r ↦ (let e : v ≡ c = omega (arith, r, m) in ap (held h) e ∙ now) ];
                    quiet = record {
                      a = w.wait_a ∙ flag_off (a.ends c) (h.wait_a c) (o.ends c) (false_from_ne_true (a.ends c) (λ v. let e = x.only (suc c) c p after_first (omega arith) v in omega (arith, e, by_a))) (λ v. s);
                      b = w.wait_b ∙ flag_off (b.ends c) (h.wait_b c) (o.ends c) (false_from_ne_true (b.ends c) (λ v. let e = z.only (suc c) c p after_first (omega arith) v in omega (arith, e, by_b))) (λ v. s);
                    };
                  }),
                )
        ended true p (i, inr gone) f =
            let x = sa.its_end t i in
            let z = sb.its_end t i in
            let low = y.open_beat.low in
            let by_a = gone.after_a in
            let by_b = gone.after_b in
            let before = gone.before in
            let none_a : a.tuple c ≡ None = x.after (suc c) c p (omega (arith, by_a, before)) (omega arith) in
            let none_b : b.tuple c ≡ None = z.after (suc c) c p (omega (arith, by_b, before)) (omega arith) in
            let now : held h c ≡ 0 = gone.empty c (omega (arith, before)) (omega arith) in
            let next : held h (suc c) ≡ 0 = omega (arith, held_next h a b o c w, now, none_came (a.tuple c) none_a, none_came (b.tuple c) none_b) in
            let stays : o.ends c ≡ false = false_from_ne_true (o.ends c) (λ v. let l = leaving h a b o c w v in let f = l.a in let g = gone.quiet.a in cc (f, g)) in (
              i,
              inr (record {
                at = gone.at;
                low = gone.low;
                high = gone.high;
                before = omega (arith, before);
                ends = gone.ends;
                after_a = by_a;
                after_b = by_b;
                only = λ v m n q. elim (cases_lt v c) [ inl r ↦ gone.only v m r q | inr r ↦ absurd (let e : v ≡ c = omega (arith, r, n) in let f = ap o.ends e in cc (f, stays, q)) ];
                empty = λ v m n. elim (cases_lt c v) [ inl r ↦ (let e : v ≡ suc c = omega (arith, r, n) in ap (held h) e ∙ next) | inr r ↦ gone.empty v m (omega (arith, r)) ];
                quiet = record {
                  a = w.wait_a ∙ flag_off (a.ends c) (h.wait_a c) (o.ends c) (false_from_ne_true (a.ends c) (λ v. let e = x.only (suc c) c p (omega (arith, low)) (omega arith) v in omega (arith, e, by_a, before))) (λ v. absurd (let g = gone.quiet.a in cc (g, v)));
                  b = w.wait_b ∙ flag_off (b.ends c) (h.wait_b c) (o.ends c) (false_from_ne_true (b.ends c) (λ v. let e = z.only (suc c) c p (omega (arith, low)) (omega arith) v in omega (arith, e, by_b, before))) (λ v. absurd (let g = gone.quiet.b in cc (g, v)));
                };
              }),
            )

    goes_idle : Idle c → IsIdle k.first beats (suc c) → Idle (suc c)
    goes_idle y idle =
        let none_a : a.tuple c ≡ None = sa.no_tuple (suc c) c idle (omega arith) in
        let none_b : b.tuple c ≡ None = sb.no_tuple (suc c) c idle (omega arith) in
        let next : held h (suc c) ≡ 0 = omega (arith, held_next h a b o c w, ap length y.left, ap length y.right, none_came (a.tuple c) none_a, none_came (b.tuple c) none_b) in
        record {
          idle = idle;
          left = empty (h.left (suc c)) (omega (arith, next));
          right = empty (h.right (suc c)) (omega (arith, next));
          quiet = record {
            a = w.wait_a ∙ flag_off (a.ends c) (h.wait_a c) (o.ends c) (sa.no_end (suc c) c idle (omega arith)) (λ v. absurd (let g = y.quiet.a in cc (g, v)));
            b = w.wait_b ∙ flag_off (b.ends c) (h.wait_b c) (o.ends c) (sb.no_end (suc c) c idle (omega arith)) (λ v. absurd (let g = y.quiet.b in cc (g, v)));
          };
        }

  -- what a union is at in each cycle
  pub data Phase (c : ℕ) : Type 0 where
    idle : Idle c → Phase c
    busy : (t : ℕ) (e : Bool) → Busy c t e → Phase c

  -- whether a beat's interval begins in a cycle
  abbrev pub Starts : ℕ → Type 0
  Starts c = (u : ℕ) × (d : Bool) × (beats u ≡ Some d) × (u + k.first ≡ c)

  abbrev pub StartsNot : ℕ → Type 0
  StartsNot c = (u : ℕ) (d : Bool) → beats u ≡ Some d → u + k.first ≡ c → ⊥

  pub starts : (c : ℕ) → Starts c ⊎ StartsNot c
  starts c = elim (cases_lt c k.first) [
    | inl l ↦ inr (λ u d i e. omega (arith, l, e))
    | inr l ↦ by (beats (c - k.first)) refl l
  ]
    where
      by : (p : Option Bool) → beats (c - k.first) ≡ p → k.first ≤ c → Starts c ⊎ StartsNot c
      by None q l = inr (λ u d i e. let v : u ≡ c - k.first = omega (arith, e) in let x = ap beats v in cc (x, i, q))
      by (Some d) q l = inl (c - k.first, d, q, omega (arith, l))

  pub still_open : (c t : ℕ) (e : Bool) → IsOpen k.first beats c t e → StartsNot c → IsOpen k.first beats (suc c) t e
  still_open c t e o n = record {
    is = o.is;
    low = (let low = o.low in omega (arith, low));
    later = λ u d i l. let far = o.later u d i l in let no : u + k.first ≡ c → ⊥ = n u d i in omega (arith, far, no);
  }

  pub phase_next : (c : ℕ) → Works h a b o c → Phase c → Phase (suc c)
  phase_next c w p = by p (starts c)
    where
      new_open : (u : ℕ) (d : Bool) → beats u ≡ Some d → u + k.first ≡ c → IsOpen k.first beats (suc c) u d
      new_open u d i e = record { is = i; low = omega (arith, e); later = λ v x j l. omega (arith, l, e) }

      by : Phase c → Starts c ⊎ StartsNot c → Phase (suc c)
      by (idle y) (inl s) = busy s.0 s.1 (start c w s.0 s.1 s.2 s.3 (new_open s.0 s.1 s.2 s.3) (clear_idle c w y))
      by (idle y) (inr n) = idle (goes_idle c w y (λ u d i. let far = y.idle u d i in let no : u + k.first ≡ c → ⊥ = n u d i in omega (arith, far, no)))
      by (busy t e y) (inl s) = busy s.0 s.1 (start c w s.0 s.1 s.2 s.3 (new_open s.0 s.1 s.2 s.3) (clear_busy c w t s.0 e s.1 s.2 s.3 y))
      by (busy t e y) (inr n) = busy t e (goes_on c w t e (still_open c t e y.open_beat n) y)
