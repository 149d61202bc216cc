-- Every list of steps comes to rest: a weight falls with each step.
use Rattle.std.proofs.Common.{◌≡◌, ◌≢◌, ℕ, zero, suc, ◌+◌, ◌-◌, ◌*◌, ◌^◌, ◌<◌, ◌≤◌, inl, inr, Bool, true, List, [], ◌∷◌, ◌++◌, Some, None, nat_eq, max, length, refl, sym, ap, ◌∙◌, subst, arith}
use Rattle.std.specs.Prelude.{◌&&◌, slice_get}
use Rattle.std.specs.Option.{option_map_or}
use Rattle.std.specs.List.{list_any}
use Rattle.std.proofs.lemmas.Bool.{eq-eqb}
use Rattle.std.proofs.Math.Nat.{pow-zero, pow-succ', pow-le-pow_right, mul-le-mul_left}
use Rattle.gl_bits.proofs.Bools.{and_both, or_left, or_right}
use Rattle.gl_verilog.specs.Module.{Module, Assignment, Expr, Statement, Nothing, Put, Write, Both, If, Nets, Memories, value_of}
use Rattle.gl_verilog.specs.Valid.{IsValid, mentions, depends}
use Rattle.gl_verilog.proofs.Acyclic.{IsIn, IsRanked, ranked, targets_of, chosen}
use Rattle.gl_verilog.specs.Events.{Event, Evaluates, Executes, Puts, Writes, State, IsAtRest, reads_memory, evaluations, is_evaluation, woken, net_takes, word_takes, updates_of, happened, with_active, Step, happens, releases, no_steps, a_step}
use Rattle.gl_verilog.specs.Laws.{Rests, ComesToRest, Ends}
use Rattle.gl_verilog.proofs.Aware.{mapped, net_takes-cases, word_takes-cases}

-- ---- weights

pub record Weights : Type 0 where
  pub evaluation : ℕ → ℕ
  pub execution : ℕ → ℕ
  pub update : ℕ

abbrev pub weight : Weights → Event → ℕ
weight w (Evaluates k) = w.evaluation k
weight w (Executes k) = w.execution k
weight w (Puts r x) = w.update
weight w (Writes k at x) = w.update

abbrev pub weigh : Weights → List Event → ℕ
weigh w [] = 0
weigh w (e ∷ es) = weight w e + weigh w es

-- what waits weighs one more
abbrev pub weigh_waiting : Weights → List Event → ℕ
weigh_waiting w [] = 0
weigh_waiting w (e ∷ es) = 1 + weight w e + weigh_waiting w es

abbrev pub weight_of : Weights → State → ℕ
weight_of w s = weigh w s.active + weigh_waiting w s.waiting

weigh-append : (w : Weights) (xs ys : List Event) → weigh w (xs ++ ys) ≡ weigh w xs + weigh w ys
weigh-append w [] ys = omega arith
weigh-append w (x ∷ xs) ys = let h = weigh-append w xs ys in omega (arith, h)

weigh_waiting-append : (w : Weights) (xs ys : List Event) → weigh_waiting w (xs ++ ys) ≡ weigh_waiting w xs + weigh_waiting w ys
weigh_waiting-append w [] ys = omega arith
weigh_waiting-append w (x ∷ xs) ys = let h = weigh_waiting-append w xs ys in omega (arith, h)

weigh-woken : (w : Weights) (active es : List Event) → weigh w (woken active es) ≤ weigh w active + weigh w es
weigh-woken w active [] = omega arith
weigh-woken w active (e ∷ es) = chosen (λ l. weigh w l ≤ weigh w active + weigh w (e ∷ es)) (list_any (is_evaluation e) active) (woken active es) (woken (active ++ e ∷ []) es)
    (λ t. (let h = weigh-woken w active es in omega (arith, h)))
    (λ t. (let h = weigh-woken w (active ++ e ∷ []) es in let a = weigh-append w active (e ∷ []) in omega (arith, h, a)))

-- at most so many updates
abbrev pub most_updates : Statement → ℕ
most_updates Nothing = 0
most_updates (Put register value) = 1
most_updates (Write memory address value) = 1
most_updates (Both first second) = most_updates first + most_updates second
most_updates (If test yes' no') = most_updates yes' + most_updates no'

weigh-updates : (w : Weights) (v : Nets) (m : Memories) (s : Statement) → weigh_waiting w (updates_of v m s) ≤ most_updates s * (1 + w.update)
weigh-updates w v m Nothing = omega arith
weigh-updates w v m (Put register value) = omega arith
weigh-updates w v m (Write memory address value) = omega arith
weigh-updates w v m (Both first second) =
    let a = weigh_waiting-append w (updates_of v m first) (updates_of v m second) in
    let h = weigh-updates w v m first in
    let k = weigh-updates w v m second in
    omega (arith, a, h, k)
weigh-updates w v m (If test yes' no') = chosen (λ l. weigh_waiting w l ≤ most_updates (If test yes' no') * (1 + w.update)) (nat_eq (value_of v m test) 1) (updates_of v m yes') (updates_of v m no')
    (λ t. (let h = weigh-updates w v m yes' in omega (arith, h)))
    (λ t. (let h = weigh-updates w v m no' in omega (arith, h)))

-- ---- weights that fall

pub record Falls (m : Module) (w : Weights) : Type 0 where
  pub evaluation : (k : ℕ) (a : Assignment) → slice_get m.assignments k ≡ Some a → weigh w (evaluations (λ e. mentions e a.target) 0 m.assignments) < w.evaluation k
  pub no_evaluation : (k : ℕ) → slice_get m.assignments k ≡ None → 0 < w.evaluation k
  pub update : (reads : Expr → Bool) → weigh w (evaluations reads 0 m.assignments) < w.update
  pub execution : (k : ℕ) (b : Statement) → slice_get m.blocks k ≡ Some b → most_updates b * (1 + w.update) < w.execution k
  pub no_execution : (k : ℕ) → slice_get m.blocks k ≡ None → 0 < w.execution k

net_weighs : (m : Module) (w : Weights) (s : State) (n x : ℕ) → weight_of w (net_takes m s n x) ≤ weight_of w s + weigh w (evaluations (λ e. mentions e n) 0 m.assignments)
net_weighs m w s n x = net_takes-cases (λ t. weight_of w t ≤ weight_of w s + weigh w (evaluations (λ e. mentions e n) 0 m.assignments)) m s n x
    (λ q. omega arith)
    (λ q. (let h = weigh-woken w s.active (evaluations (λ e. mentions e n) 0 m.assignments) in omega (arith, h)))

word_weighs : (m : Module) (w : Weights) (s : State) (k at x : ℕ) → weight_of w (word_takes m s k at x) ≤ weight_of w s + weigh w (evaluations (λ e. reads_memory e k) 0 m.assignments)
word_weighs m w s k at x = word_takes-cases (λ t. weight_of w t ≤ weight_of w s + weigh w (evaluations (λ e. reads_memory e k) 0 m.assignments)) m s k at x
    (λ q. omega arith)
    (λ q. (let h = weigh-woken w s.active (evaluations (λ e. reads_memory e k) 0 m.assignments) in omega (arith, h)))

happened_weighs : (m : Module) (w : Weights) → Falls m w → (s : State) (e : Event) → weight_of w (happened m s e) < weight_of w s + weight w e
happened_weighs m w f s (Evaluates k) = mapped (λ t. weight_of w t < weight_of w s + w.evaluation k) (λ a. net_takes m s a.target (value_of s.nets s.words a.value)) (slice_get m.assignments k) s
    (λ q. (let h = f.no_evaluation k q in omega (arith, h)))
    (λ a q. (let h = f.evaluation k a q in let g = net_weighs m w s a.target (value_of s.nets s.words a.value) in omega (arith, h, g)))
happened_weighs m w f s (Executes k) = mapped (λ t. weight_of w t < weight_of w s + w.execution k) (λ b. record s { waiting = s.waiting ++ updates_of s.nets s.words b }) (slice_get m.blocks k) s
    (λ q. (let h = f.no_execution k q in omega (arith, h)))
    (λ b q. (let h = f.execution k b q in let g = weigh-updates w s.nets s.words b in let a = weigh_waiting-append w s.waiting (updates_of s.nets s.words b) in omega (arith, h, g, a)))
happened_weighs m w f s (Puts r x) = let h = f.update (λ e. mentions e r) in let g = net_weighs m w s r x in omega (arith, h, g)
happened_weighs m w f s (Writes k at x) = let h = f.update (λ e. reads_memory e k) in let g = word_weighs m w s k at x in omega (arith, h, g)

released : (w : Weights) (es : List Event) → es ≢ [] → weigh w es < weigh_waiting w es
released w [] ne = absurd (ne refl)
released w (e ∷ es) ne = let h = at_most es in omega (arith, h)
  where
    at_most : (xs : List Event) → weigh w xs ≤ weigh_waiting w xs
    at_most [] = omega arith
    at_most (x ∷ xs) = let h = at_most xs in omega (arith, h)

pub step_falls : (m : Module) (w : Weights) → Falls m w → (s t : State) → Step m s t → weight_of w t < weight_of w s
step_falls m w f s t (happens s' front back e q) =
    let h = happened_weighs m w f (with_active s' (front ++ back)) e in
    let a = weigh-append w front back in
    let b = weigh-append w front (e ∷ back) in
    let c : weigh w s'.active ≡ weigh w (front ++ e ∷ back) = ap (weigh w) q in
    omega (arith, h, a, b, c)
step_falls m w f s t (releases s' q ne) =
    let h = released w s'.waiting ne in
    let c : weigh w s'.active ≡ 0 = ap (weigh w) q in
    omega (arith, h, c)

-- ---- so all comes to rest

data Next (m : Module) (w : Weights) (s : State) : Type 0 where
  resting : IsAtRest s → Next m w s
  moving : (t : State) → Step m s t → weight_of w t < weight_of w s → Next m w s

next : (m : Module) (w : Weights) → Falls m w → (s : State) → Next m w s
next m w f s = by_active s.active refl
  where
    by_waiting : s.active ≡ [] → (es : List Event) → s.waiting ≡ es → Next m w s
    by_waiting q [] p = resting (record { still = q; empty = p })
    by_waiting q (e ∷ es) p =
        let step : Step m s (record s { active = s.waiting; waiting = [] }) = releases s q (λ r. (let both : e ∷ es ≡ [] = sym p ∙ r in cc)) in
        moving (record s { active = s.waiting; waiting = [] }) step (step_falls m w f s (record s { active = s.waiting; waiting = [] }) step)

    by_active : (es : List Event) → s.active ≡ es → Next m w s
    by_active [] q = by_waiting q s.waiting refl
    by_active (e ∷ es) q =
        let step : Step m s (happened m (with_active s ([] ++ es)) e) = happens s [] es e q in
        moving (happened m (with_active s ([] ++ es)) e) step (step_falls m w f s (happened m (with_active s ([] ++ es)) e) step)

rests_within : (m : Module) (w : Weights) → Falls m w → (n : ℕ) (s : State) → weight_of w s ≤ n → Rests m s
rests_within m w f zero s h = elim (next m w f s) [
  | resting r ↦ record { last = s; steps = no_steps s; rest = r }
  | moving t p lt ↦ absurd (omega (arith, lt, h))
]
rests_within m w f (suc n) s h = elim (next m w f s) [
  | resting r ↦ record { last = s; steps = no_steps s; rest = r }
  | moving t p lt ↦ (let r = rests_within m w f n t (omega (arith, lt, h)) in record { last = r.last; steps = a_step s t r.last p r.steps; rest = r.rest })
]

-- ---- a valid module has such weights

highest : (ℕ → ℕ) → List Assignment → ℕ
highest rank [] = 0
highest rank (a ∷ as') = max (rank a.target) (highest rank as')

highest-above : (rank : ℕ → ℕ) (as' : List Assignment) (j : ℕ) (a : Assignment) → slice_get as' j ≡ Some a → rank a.target ≤ highest rank as'
unfolding highest
highest-above rank [] j a e = absurd cc
highest-above rank (b ∷ as') zero a e = let same : b ≡ a = cc in let q : rank b.target ≡ rank a.target = ap (λ (x : Assignment). rank x.target) same in omega (arith, q)
highest-above rank (b ∷ as') (suc j) a e = let h = highest-above rank as' j a e in omega (arith, h)

in_targets : (as' : List Assignment) (j : ℕ) (a : Assignment) → slice_get as' j ≡ Some a → IsIn a.target (targets_of as')
in_targets [] j a e = absurd cc
in_targets (b ∷ as') zero a e = let same : b ≡ a = cc in inl (ap (λ (x : Assignment). x.target) (sym same))
in_targets (b ∷ as') (suc j) a e = inr (in_targets as' j a e)

depends_on : (as' : List Assignment) (j : ℕ) (a : Assignment) (n : ℕ) → slice_get as' j ≡ Some a → mentions a.value n ≡ true → depends as' a.target n ≡ true
depends_on [] j a n e h = absurd cc
depends_on (b ∷ as') zero a n e h =
    let same : b ≡ a = cc in
    or_left (nat_eq b.target a.target && mentions b.value n) (depends as' a.target n)
    (and_both (nat_eq b.target a.target) (mentions b.value n) (eq-eqb b.target a.target (ap (λ (x : Assignment). x.target) same)) (ap (λ (x : Assignment). mentions x.value n) same ∙ h))
depends_on (b ∷ as') (suc j) a n e h = or_right (nat_eq b.target a.target && mentions b.value n) (depends as' a.target n) (depends_on as' j a n e h)

-- each of at most this weight
weigh-each : (w : Weights) (most : ℕ) (reads : Expr → Bool) (as' : List Assignment) (k : ℕ) → ((j : ℕ) (a : Assignment) → slice_get as' j ≡ Some a → reads a.value ≡ true → w.evaluation (k + j) ≤ most) → weigh w (evaluations reads k as') ≤ length as' * most
weigh-each w most reads [] k h = omega arith
weigh-each w most reads (b ∷ as') k h =
    let rest = weigh-each w most reads as' (k + 1) (λ j a e r. subst (λ i. w.evaluation i ≤ most) (let z : k + suc j ≡ k + 1 + j = omega arith in z) (h (suc j) a e r)) in
    chosen (λ l. weigh w l ≤ length (b ∷ as') * most) (reads b.value) (Evaluates k ∷ evaluations reads (k + 1) as') (evaluations reads (k + 1) as')
    (λ t. (let here : w.evaluation k ≤ most = subst (λ i. w.evaluation i ≤ most) (let z : k + 0 ≡ k = omega arith in z) (h 0 b refl t) in omega (arith, rest, here)))
    (λ t. omega (arith, rest))

pub powered : ℕ → ℕ → (ℕ → ℕ) → Assignment → ℕ
powered base top rank a = base ^ (suc top - rank a.target)

pub weights_of : Module → (ℕ → ℕ) → Weights
weights_of m rank = record {
  evaluation = λ k. option_map_or (powered (suc (length m.assignments)) (highest rank m.assignments) rank) (slice_get m.assignments k) 1;
  execution = λ k. option_map_or (λ b. 1 + most_updates b * (1 + suc (length m.assignments) ^ suc (suc (highest rank m.assignments)))) (slice_get m.blocks k) 1;
  update = suc (length m.assignments) ^ suc (suc (highest rank m.assignments));
}

pow_some : (n k : ℕ) → 0 < suc n ^ k
pow_some n zero = rw pow-zero (omega arith)
pow_some n (suc k) = let h = pow_some n k in let p : 0 < suc n = omega arith in rw pow-succ' (let g = mul-le-mul_left {m = 1} {n = suc n ^ k} (suc n) h in omega (arith, g))

one_more : (n k x : ℕ) → x ≤ n * (suc n ^ k) → x < suc n ^ suc k
one_more n k x h = let p = pow_some n k in let q = pow-succ' (suc n) k in omega (arith, h, p, q)

pub falls : (m : Module) (r : IsRanked (depends m.assignments) (targets_of m.assignments)) → Falls m (weights_of m r.rank)
unfolding weights_of powered
falls m r = record {
  evaluation = λ k a e.
      let top = highest r.rank m.assignments in
      let low : r.rank a.target ≤ highest r.rank m.assignments = highest-above r.rank m.assignments k a e in
      let each = weigh-each (weights_of m r.rank) (suc (length m.assignments) ^ (highest r.rank m.assignments - r.rank a.target)) (λ e. mentions e a.target) m.assignments 0
      (λ j b f reads.
      let lt : r.rank a.target < r.rank b.target = r.falls b.target a.target (in_targets m.assignments j b f) (in_targets m.assignments k a e) (depends_on m.assignments j b a.target f reads) in
      let z : 0 + j ≡ j = omega arith in
      rw (z, f) (pow-le-pow_right {n = suc (length m.assignments)} (omega arith) {i = suc (highest r.rank m.assignments) - r.rank b.target} {j = highest r.rank m.assignments - r.rank a.target} (omega arith))) in
      let exponent : suc (highest r.rank m.assignments) - r.rank a.target ≡ suc (highest r.rank m.assignments - r.rank a.target) = omega arith in
      rw (e, exponent) (one_more (length m.assignments) (highest r.rank m.assignments - r.rank a.target) (weigh (weights_of m r.rank) (evaluations (λ e. mentions e a.target) 0 m.assignments)) each);
  no_evaluation = λ k e. rw e (omega arith);
  update = λ reads.
      let each = weigh-each (weights_of m r.rank) (suc (length m.assignments) ^ suc (highest r.rank m.assignments)) reads m.assignments 0
      (λ j b f t.
      let z : 0 + j ≡ j = omega arith in
      rw (z, f) (pow-le-pow_right {n = suc (length m.assignments)} (omega arith) {i = suc (highest r.rank m.assignments) - r.rank b.target} {j = suc (highest r.rank m.assignments)} (omega arith))) in
      one_more (length m.assignments) (suc (highest r.rank m.assignments)) (weigh (weights_of m r.rank) (evaluations reads 0 m.assignments)) each;
  execution = λ k b e. rw e (omega arith);
  no_execution = λ k e. rw e (omega arith);
}

-- any state of a valid module comes to rest
pub rests : (m : Module) → IsValid m → (s : State) → Rests m s
rests m v s =
    let r = ranked (targets_of m.assignments) (depends m.assignments) v.acyclic in
    let w = weights_of m r.rank in
    rests_within m w (falls m r) (weight_of w s) s (let z : weight_of w s ≤ weight_of w s = omega arith in z)

pub comes_to_rest : (m : Module) → IsValid m → ComesToRest m
comes_to_rest m v = λ s t p. rests m v t

no_descent : (m : Module) (w : Weights) → Falls m w → (n : ℕ) (s : ℕ → State) → weight_of w (s 0) ≤ n → ((k : ℕ) → Step m (s k) (s (suc k))) → ⊥
no_descent m w f zero s h p = (let lt = step_falls m w f (s 0) (s 1) (p 0) in omega (arith, lt, h))
no_descent m w f (suc n) s h p = (let lt = step_falls m w f (s 0) (s 1) (p 0) in no_descent m w f n (λ k. s (suc k)) (omega (arith, lt, h)) (λ k. p (suc k)))

pub ends : (m : Module) → IsValid m → Ends m
ends m v = λ s p.
    let r = ranked (targets_of m.assignments) (depends m.assignments) v.acyclic in
    let w = weights_of m r.rank in
    no_descent m w (falls m r) (weight_of w (s 0)) s (let z : weight_of w (s 0) ≤ weight_of w (s 0) = omega arith in z) p
