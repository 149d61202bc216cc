-- Every step keeps a good state: values fit, updates fit their registers and words, and what differs from its expression is active.
use Rattle.std.proofs.Common.{◌≡◌, ℕ, suc, ◌^◌, ◌<◌, ◌⊎◌, inl, inr, Bool, List, [], ◌∷◌, ◌++◌, Some, nat_eq, refl, sym, ap, ◌∙◌, subst}
use Rattle.std.specs.Prelude.{slice_get, IsSomeAnd}
use Rattle.std.proofs.lemmas.Bool.Decides.{eqb_tells}
use Rattle.gl_bits.proofs.AllLists.{all_at}
use Rattle.gl_verilog.specs.Module.{Module, Declaration, Kind, Input, OutputWire, OutputRegister, Wire, Register, Memory, Assignment, Expr, Statement, Nothing, Put, Write, Both, If, Nets, Memories, value_of}
use Rattle.gl_verilog.specs.Run.{Fit, IsRegister, IsSettled}
use Rattle.gl_verilog.specs.Order.{with_net}
use Rattle.gl_verilog.specs.Widths.{IsMemory, width_of, KeepsWidth, KeepsWidthsIn}
use Rattle.gl_verilog.specs.Valid.{IsValid, mentions}
use Rattle.gl_verilog.proofs.Fits.{found_in, value_fits}
use Rattle.gl_verilog.proofs.Stores.{same_item}
use Rattle.gl_verilog.proofs.Runs.{register_undriven}
use Rattle.gl_verilog.specs.Events.{Event, Evaluates, Executes, Puts, Writes, State, reads_memory, evaluations, woken, net_takes, with_word, updates_of, happened, with_active, Step, happens, releases, Schedule, no_steps, a_step}
use Rattle.gl_verilog.proofs.Among.{IsAmong, among_cases, among_here, among_rest, among_more, woken_only, evaluations_only}
use Rattle.gl_verilog.proofs.Aware.{mapped, target_of, same_driver, not_target, net_takes-cases, word_takes-cases, Holds, IsAware, aware_net, aware_word}
use Rattle.gl_verilog.proofs.Acyclic.{chosen}

-- the number fits the declaration's width
abbrev pub FitsAt : List Declaration → ℕ → ℕ → Type 0
FitsAt ds n x = (d : Declaration) → slice_get ds n ≡ Some d → x < 2 ^ d.width

abbrev pub IsAnyMemory : Kind → Type 0
IsAnyMemory (Memory bits) = Unit {0}
IsAnyMemory _ = ⊥

pub any_memory : (k : Kind) (bits : ℕ) → IsMemory k bits → IsAnyMemory k
any_memory (Memory b) bits h = tt
any_memory Input bits h = absurd h
any_memory OutputWire bits h = absurd h
any_memory OutputRegister bits h = absurd h
any_memory Wire bits h = absurd h
any_memory Register bits h = absurd h

-- an update is of a register or a memory, and fits
abbrev pub IsFine : List Declaration → Event → Type 0
IsFine ds (Evaluates k) = Unit {0}
IsFine ds (Executes k) = Unit {0}
IsFine ds (Puts r x) = IsSomeAnd (slice_get ds r) (λ d. IsRegister d.kind × (x < 2 ^ d.width))
IsFine ds (Writes k at x) = IsSomeAnd (slice_get ds k) (λ d. IsAnyMemory d.kind × (x < 2 ^ d.width))

abbrev pub AreFine : List Declaration → List Event → Type 0
AreFine ds es = (e : Event) → IsAmong e es → IsFine ds e

pub record IsGood (m : Module) (s : State) : Type 0 where
  pub fits : Fit m.declarations s.nets s.words
  pub fine : AreFine m.declarations s.active
  pub waits : AreFine m.declarations s.waiting
  pub aware : IsAware m s

-- ---- what is put fits

pub fit_net : (ds : List Declaration) (v : Nets) (w : Memories) (n x : ℕ) → Fit ds v w → FitsAt ds n x → Fit ds (with_net v n x) w
fit_net ds v w n x f h = λ i d e. (
  elim (eqb_tells n i) [
    | inl same ↦ rw same.0 (h d (ap (slice_get ds) same.1 ∙ e))
    | inr other ↦ rw other.0 (f i d e).0
  ],
  (f i d e).1,
)

pub fit_word : (ds : List Declaration) (v : Nets) (w : Memories) (k at x : ℕ) → Fit ds v w → FitsAt ds k x → Fit ds v (with_word w k at x)
fit_word ds v w k at x f h = λ i d e. (
  (f i d e).0,
  λ at'. elim (eqb_tells k i) [
    | inl same ↦ elim (eqb_tells at at') [
      | inl here ↦ rw (same.0, here.0) (h d (ap (slice_get ds) same.1 ∙ e))
      | inr there ↦ rw (same.0, there.0) ((f i d e).1 at')
    ]
    | inr other ↦ rw other.0 ((f i d e).1 at')
  ],
)

fine_woken : (ds : List Declaration) (active : List Event) (reads : Expr → Bool) (as' : List Assignment) → AreFine ds active → AreFine ds (woken active (evaluations reads 0 as'))
fine_woken ds active reads as' h = λ e i. elim (woken_only e active (evaluations reads 0 as') i) [
  | inl a ↦ h e a
  | inr k ↦ (let v = evaluations_only reads 0 as' e k in subst (IsFine ds) (sym v.is) tt)
]

-- the updates of a statement fit
pub updates_fine : (ds : List Declaration) (v : Nets) (w : Memories) (s : Statement) → Fit ds v w → KeepsWidthsIn ds s → AreFine ds (updates_of v w s)
updates_fine ds v w Nothing f h = λ e i. absurd i
updates_fine ds v w (Put register value) f h = λ e i. elim i [
  | inl q ↦
      let c = found_in (slice_get ds register) (λ d. IsRegister d.kind × (width_of ds value ≡ d.width)) h.0 in
      subst (IsFine ds) q (rw c.is (c.fact.0, subst (λ n. value_of v w value < 2 ^ n) c.fact.1 (value_fits ds v w value f h.1)))
  | inr n ↦ absurd n
]
updates_fine ds v w (Write memory address value) f h = λ e i. elim i [
  | inl q ↦
      let c = found_in (slice_get ds memory) (λ d. IsMemory d.kind (width_of ds address) × (width_of ds value ≡ d.width)) h.0 in
      subst (IsFine ds) q (rw c.is (any_memory c.item.kind (width_of ds address) c.fact.0, subst (λ n. value_of v w value < 2 ^ n) c.fact.1 (value_fits ds v w value f h.2)))
  | inr n ↦ absurd n
]
updates_fine ds v w (Both first second) f h = λ e i. elim (among_cases e (updates_of v w first) (updates_of v w second) i) [
  | inl a ↦ updates_fine ds v w first f h.0 e a
  | inr b ↦ updates_fine ds v w second f h.1 e b
]
updates_fine ds v w (If test yes' no') f h = chosen (AreFine ds) (nat_eq (value_of v w test) 1) (updates_of v w yes') (updates_of v w no')
    (λ t. updates_fine ds v w yes' f h.2)
    (λ t. updates_fine ds v w no' f h.3)

-- ---- a step keeps it

-- what is known when an event was taken out
pub record IsTaken (m : Module) (s : State) (e : Event) : Type 0 where
  pub fits : Fit m.declarations s.nets s.words
  pub fine : AreFine m.declarations s.active
  pub waits : AreFine m.declarations s.waiting
  pub this : IsFine m.declarations e
  pub aware : (j : ℕ) (a : Assignment) → slice_get m.assignments j ≡ Some a → (e ≡ Evaluates j) ⊎ Holds s a ⊎ IsAmong (Evaluates j) s.active

pub good_net : (m : Module) (s : State) (n x : ℕ) → Fit m.declarations s.nets s.words → AreFine m.declarations s.active → AreFine m.declarations s.waiting → FitsAt m.declarations n x → IsAware m (net_takes m s n x) → IsGood m (net_takes m s n x)
good_net m s n x f a w h aware = record {
  fits = net_takes-cases (λ t. Fit m.declarations t.nets t.words) m s n x (λ q. f) (λ q. fit_net m.declarations s.nets s.words n x f h);
  fine = net_takes-cases (λ t. AreFine m.declarations t.active) m s n x (λ q. a) (λ q. fine_woken m.declarations s.active (λ e. mentions e n) m.assignments a);
  waits = net_takes-cases (λ t. AreFine m.declarations t.waiting) m s n x (λ q. w) (λ q. w);
  aware = aware;
}

pub good_happened : (m : Module) → IsValid m → (s : State) (e : Event) → IsTaken m s e → IsGood m (happened m s e)
good_happened m v s (Evaluates k) h = mapped (IsGood m) (λ a. net_takes m s a.target (value_of s.nets s.words a.value)) (slice_get m.assignments k) s
    (λ none'. record {
      fits = h.fits;
      fine = h.fine;
      waits = h.waits;
      aware = λ j a e. elim (h.aware j a e) [
        | inl q ↦ absurd (let at : k ≡ j = cc in let both : slice_get m.assignments k ≡ Some a = ap (slice_get m.assignments) at ∙ e in cc)
        | inr r ↦ r
      ];
    })
    (λ a is. good_net m s a.target (value_of s.nets s.words a.value) h.fits h.fine h.waits
    (λ d e.
    let c = target_of m v k a is in
    let same : c.item ≡ d = same_item m.declarations a.target c.item d c.is e in
    subst (λ n. value_of s.nets s.words a.value < 2 ^ n) (c.fact.1 ∙ ap (λ (x : Declaration). x.width) same) (value_fits m.declarations s.nets s.words a.value h.fits (all_at (KeepsWidth m.declarations) m.assignments k a is v.assignments).1))
    (aware_net m s a.target (value_of s.nets s.words a.value)
    (λ j b e. elim (h.aware j b e) [
      | inl q ↦ inl (let at : k ≡ j = cc in let both : slice_get m.assignments k ≡ Some b = ap (slice_get m.assignments) at ∙ e in ap (λ (x : Assignment). x.target) (same_item m.assignments k b a both is))
      | inr r ↦ inr r
    ])
    (λ j b e q.
    let at : k ≡ j = same_driver m v k j a b is e q in
    let same : a ≡ b = same_item m.assignments j a b (subst (λ i. slice_get m.assignments i ≡ Some a) at is) e in
    ap (λ (x : Assignment). value_of s.nets s.words x.value) same)))
good_happened m v s (Executes k) h = mapped (IsGood m) (λ b. record s { waiting = s.waiting ++ updates_of s.nets s.words b }) (slice_get m.blocks k) s
    (λ none'. record { fits = h.fits; fine = h.fine; waits = h.waits; aware = λ j a e. elim (h.aware j a e) [ inl q ↦ absurd cc | inr r ↦ r ] })
    (λ b is. record {
      fits = h.fits;
      fine = h.fine;
      waits = λ e i. elim (among_cases e s.waiting (updates_of s.nets s.words b) i) [
        | inl w ↦ h.waits e w
        | inr u ↦ updates_fine m.declarations s.nets s.words b h.fits (all_at (KeepsWidthsIn m.declarations) m.blocks k b is v.blocks) e u
      ];
      aware = λ j a e. elim (h.aware j a e) [ inl q ↦ absurd cc | inr r ↦ r ];
    })
good_happened m v s (Puts r x) h =
    let c = found_in (slice_get m.declarations r) (λ d. IsRegister d.kind × (x < 2 ^ d.width)) h.this in
    good_net m s r x h.fits h.fine h.waits
    (λ d e. subst (λ (i : Declaration). x < 2 ^ i.width) (same_item m.declarations r c.item d c.is e) c.fact.1)
    (aware_net m s r x
    (λ j a e. elim (h.aware j a e) [ inl q ↦ absurd cc | inr k ↦ inr k ])
    (λ j a e q. absurd (not_target m v j a r c.item e c.is (register_undriven c.item.kind c.fact.0) q)))
good_happened m v s (Writes k at x) h =
    let c = found_in (slice_get m.declarations k) (λ d. IsAnyMemory d.kind × (x < 2 ^ d.width)) h.this in
    let good : IsAware m s = λ j a e. elim (h.aware j a e) [ inl q ↦ absurd cc | inr r ↦ r ] in record {
      fits = word_takes-cases (λ t. Fit m.declarations t.nets t.words) m s k at x (λ q. h.fits) (λ q. fit_word m.declarations s.nets s.words k at x h.fits (λ d e. subst (λ (i : Declaration). x < 2 ^ i.width) (same_item m.declarations k c.item d c.is e) c.fact.1));
      fine = word_takes-cases (λ t. AreFine m.declarations t.active) m s k at x (λ q. h.fine) (λ q. fine_woken m.declarations s.active (λ e. reads_memory e k) m.assignments h.fine);
      waits = word_takes-cases (λ t. AreFine m.declarations t.waiting) m s k at x (λ q. h.waits) (λ q. h.waits);
      aware = aware_word m s k at x good;
    }

pub taken_out : (m : Module) (s : State) (front back : List Event) (e : Event) → IsGood m s → s.active ≡ front ++ e ∷ back → IsTaken m (with_active s (front ++ back)) e
taken_out m s front back e g q = record {
  fits = g.fits;
  fine = λ x i. g.fine x (subst (IsAmong x) (sym q) (among_more x e front back i));
  waits = g.waits;
  this = g.fine e (subst (IsAmong e) (sym q) (among_here e front back));
  aware = λ j a is. elim (g.aware j a is) [
    | inl holds ↦ inr (inl holds)
    | inr there ↦ elim (among_rest (Evaluates j) e front back (subst (IsAmong (Evaluates j)) q there)) [
      | inl this ↦ inl this
      | inr other ↦ inr (inr other)
    ]
  ];
}

pub good_step : (m : Module) → IsValid m → (s t : State) → IsGood m s → Step m s t → IsGood m t
good_step m v s t g (happens s' front back e q) = good_happened m v (with_active s' (front ++ back)) e (taken_out m s' front back e g q)
good_step m v s t g (releases s' q ne) = record {
  fits = g.fits;
  fine = g.waits;
  waits = λ e i. absurd i;
  aware = λ j a is. elim (g.aware j a is) [
    | inl holds ↦ inl holds
    | inr there ↦ absurd (subst (IsAmong (Evaluates j)) q there)
  ];
}

pub good_steps : (m : Module) → IsValid m → (s t : State) → IsGood m s → Schedule m s t → IsGood m t
good_steps m v s t g (no_steps s') = g
good_steps m v s t g (a_step s' t' u p r) = good_steps m v t' u (good_step m v s' t' g p) r

-- at rest every assignment holds
settled_from : (m : Module) (v : Nets) (w : Memories) (as' : List Assignment) → ((j : ℕ) (a : Assignment) → slice_get as' j ≡ Some a → v a.target ≡ value_of v w a.value) → IsSettled as' v w
settled_from m v w [] h = tt
settled_from m v w (a ∷ as') h = (h 0 a refl, settled_from m v w as' (λ j b e. h (suc j) b e))

pub settled_at_rest : (m : Module) (s : State) → IsAware m s → s.active ≡ [] → IsSettled m.assignments s.nets s.words
settled_at_rest m s h q = settled_from m s.nets s.words m.assignments (λ j a e. elim (h j a e) [
  | inl holds ↦ holds
  | inr there ↦ absurd (subst (IsAmong (Evaluates j)) q there)
])
