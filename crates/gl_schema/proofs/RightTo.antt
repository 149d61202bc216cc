-- A right run, told of the cycles that were seen.
use Rattle.std.proofs.Common.{◌≡◌, ℕ, zero, suc, ◌+◌, ◌-◌, ◌<◌, ◌≤◌, true, false, List, [], ◌∷◌, ◌++◌, Option, Some, None, refl, sym, ap, ◌∙◌, subst, arith, inl, inr}
use Rattle.std.specs.Prelude.{filter_map, IsTrue, IsFalse, IsSome, is_some}
use Rattle.std.specs.List.{AllByRecursion, cons_option}
use Rattle.std.proofs.lemmas.Bool.{cases_lt, false_from_ne_true}
use Rattle.std.proofs.lemmas.List.{append-nil}
use Rattle.gl_bits.proofs.AllLists.{all_append}
use Rattle.gl_schema.specs.Beats.{Beats, last_cycle, inputs_of}
use Rattle.gl_schema.specs.Ports.{PortValues}
use Rattle.gl_schema.specs.Seen.{Shown, shown, seen}
use Rattle.gl_schema.specs.Right.{Meaning, IsRight, IsRightTo, end_in}

filter_map-push : {X Y : Type 0} (h : X → Option Y) (xs : List X) (x : X) → filter_map h (xs ++ x ∷ []) ≡ filter_map h xs ++ cons_option (h x) []
filter_map-push h [] x = refl
filter_map-push h (y ∷ xs) x = push_front (h y) (filter_map h xs) (cons_option (h x) []) (filter_map-push h xs x)
  where
    push_front : {Y : Type 0} (o : Option Y) (ys zs : List Y) {ws : List Y} → ws ≡ ys ++ zs → cons_option o ws ≡ cons_option o ys ++ zs
    push_front None ys zs e = e
    push_front (Some y) ys zs e = ap (λ xs. y ∷ xs) e

push_none : {X Y : Type 0} (h : X → Option Y) (xs : List X) (x : X) → h x ≡ None → filter_map h (xs ++ x ∷ []) ≡ filter_map h xs
push_none h xs x e = filter_map-push h xs x ∙ ap (λ o. filter_map h xs ++ cons_option o []) e ∙ append-nil (filter_map h xs)

-- what holds of each cycle holds of those seen
all_seen : (port : PortValues) (outs : List (List ℕ)) (P : Shown → Type 0) → ((n : ℕ) → P (shown port outs n)) → (n : ℕ) → AllByRecursion P (seen port outs n)
all_seen port outs P h zero = (h 0, tt)
all_seen port outs P h (suc n) = all_append P (seen port outs n) (shown port outs (suc n) ∷ []) (all_seen port outs P h n) (h (suc n), tt)

cycle_is : (port : PortValues) (outs : List (List ℕ)) (n : ℕ) → (shown port outs n).cycle ≡ n
unfolding shown
cycle_is port outs n = refl

no_row : {o : Option (List ℕ)} → o ≡ None → IsSome o → ⊥
no_row e s = cc (ap is_some e, s)

end_none : (s : Shown) → s.end ≡ false → end_in s ≡ None
end_none s e = rw e refl

end_some : (s : Shown) (n : ℕ) → s.end ≡ true → s.cycle ≡ n → end_in s ≡ Some n
end_some s n e c = rw (e, c) refl

-- facts of single cycles, at a run
record Facts (outs : List (List ℕ)) (port : PortValues) (e : ℕ) : Type 0 where
  ends : IsTrue (shown port outs e).end
  once : (n : ℕ) → IsTrue (shown port outs n).end → n ≡ e
  none_later : (n : ℕ) → e < n → (shown port outs n).row ≡ None

not_here : (outs : List (List ℕ)) (port : PortValues) (e : ℕ) → Facts outs port e → (n : ℕ) → (n ≡ e → ⊥) → end_in (shown port outs n) ≡ None
not_here outs port e f n other = end_none (shown port outs n) (false_from_ne_true (shown port outs n).end (λ t. other (f.once n t)))

here : (outs : List (List ℕ)) (port : PortValues) (e : ℕ) → Facts outs port e → end_in (shown port outs e) ≡ Some e
here outs port e f = end_some (shown port outs e) e f.ends (cycle_is port outs e)

before_end : (outs : List (List ℕ)) (port : PortValues) (e : ℕ) → Facts outs port e → (n : ℕ) → n < e → filter_map end_in (seen port outs n) ≡ []
before_end outs port e f zero lt = ap (λ o. cons_option o []) (not_here outs port e f 0 (λ q. absurd (omega arith)))
before_end outs port e f (suc n) lt = push_none end_in (seen port outs n) (shown port outs (suc n)) (not_here outs port e f (suc n) (λ q. absurd (omega arith))) ∙ before_end outs port e f n (omega arith)

at_end : (outs : List (List ℕ)) (port : PortValues) (e : ℕ) → Facts outs port e → filter_map end_in (seen port outs e) ≡ e ∷ []
at_end outs port zero f = ap (λ o. cons_option o []) (here outs port 0 f)
at_end outs port (suc n) f = filter_map-push end_in (seen port outs n) (shown port outs (suc n)) ∙ ap (λ o. filter_map end_in (seen port outs n) ++ cons_option o []) (here outs port (suc n) f) ∙ ap (λ xs. xs ++ suc n ∷ []) (before_end outs port (suc n) f n (omega arith))

-- nothing changes behind the end
after_end : (outs : List (List ℕ)) (port : PortValues) (e : ℕ) → Facts outs port e → {Y : Type 0} (h : Shown → Option Y) → ((n : ℕ) → e < n → h (shown port outs n) ≡ None) → (k : ℕ) → filter_map h (seen port outs (k + e)) ≡ filter_map h (seen port outs e)
after_end outs port e f h none zero = ap (λ n. filter_map h (seen port outs n)) (let z : 0 + e ≡ e = omega arith in z)
after_end outs port e f h none (suc k) =
    ap (λ n. filter_map h (seen port outs n)) (let z : suc k + e ≡ suc (k + e) = omega arith in z)
    ∙ push_none h (seen port outs (k + e)) (shown port outs (suc (k + e))) (none (suc (k + e)) (omega arith)) ∙ after_end outs port e f h none k

behind_end : (outs : List (List ℕ)) (port : PortValues) (e n : ℕ) → Facts outs port e → e ≤ n → {Y : Type 0} (h : Shown → Option Y) → ((n : ℕ) → e < n → h (shown port outs n) ≡ None) → filter_map h (seen port outs n) ≡ filter_map h (seen port outs e)
behind_end outs port e n f le h none = ap (λ n. filter_map h (seen port outs n)) (let z : n ≡ n - e + e = omega arith in z) ∙ after_end outs port e f h none (n - e)

row_in_time : (outs : List (List ℕ)) (port : PortValues) (e : ℕ) → Facts outs port e → (n : ℕ) → IsSome (shown port outs n).row → (shown port outs n).cycle ≤ e
row_in_time outs port e f n s = elim (cases_lt e n) [
  | inl lt ↦ absurd (no_row (f.none_later n lt) s)
  | inr le ↦ omega (arith, cycle_is port outs n)
]

-- at each cycle from the latency after the last beat on
pub right_to : (means : Meaning) (latency : ℕ) (beats : Beats) (outs : List (List ℕ)) (port : PortValues) (n : ℕ) → last_cycle beats + latency ≤ n → IsRight means latency beats outs port → IsRightTo means latency beats outs port n
right_to means latency beats outs port n late r =
    let f : Facts outs port r.ended = record { ends = r.ends; once = r.once; none_later = r.none_later } in
    let le : r.ended ≤ n = omega (arith, r.in_time) in
    record {
      ended = r.ended;
      soonest = r.soonest;
      in_time = r.in_time;
      ends = behind_end outs port r.ended n f le end_in (λ m lt. not_here outs port r.ended f m (λ q. absurd (omega arith))) ∙ at_end outs port r.ended f;
      none_later = all_seen port outs (λ s. IsSome s.row → s.cycle ≤ r.ended) (row_in_time outs port r.ended f) n;
      no_overflow = all_seen port outs (λ s. IsFalse s.queue) r.no_overflow n;
      meets = subst (λ (rows : List (List ℕ)). means (inputs_of beats) rows (shown port outs r.ended).group) (sym (behind_end outs port r.ended n f le (λ s. s.row) r.none_later)) r.meets;
    }
