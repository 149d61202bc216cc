-- The two halves of a cycle: assignments settle, and then the blocks are executed and their updates happen.
use Rattle.std.proofs.Common.{◌≡◌, ◌≢◌, ℕ, ◌+◌, ◌^◌, ◌<◌, ◌⊎◌, inl, inr, Bool, List, [], ◌∷◌, ◌++◌, Option, Some, None, refl, sym, ap, ◌∙◌, subst, arith, unwrap_or}
use Rattle.std.specs.Prelude.{slice_get}
use Rattle.std.specs.List.{AllByRecursion}
use Rattle.std.proofs.lemmas.Bool.Decides.{eqb_tells}
use Rattle.gl_verilog.specs.Module.{Module, Declaration, Kind, Input, OutputWire, OutputRegister, Wire, Register, Memory, Assignment, Expr, Statement, Nets, Memories, value_of, assigned_by, written_by}
use Rattle.gl_verilog.specs.Run.{IsRegister}
use Rattle.gl_verilog.specs.Order.{with_net}
use Rattle.gl_verilog.specs.Widths.{IsDriven}
use Rattle.gl_verilog.specs.Valid.{IsValid, mentions, AssignsOnce, blocks_of, writes_of, HasDriver}
use Rattle.gl_verilog.proofs.Fits.{found_in}
use Rattle.gl_verilog.proofs.Settles.{with_net-same, with_net-other}
use Rattle.gl_verilog.proofs.Runs.{register_undriven}
use Rattle.gl_verilog.specs.Events.{Event, Evaluates, Executes, Puts, Writes, State, IsAtRest, reads_memory, evaluations, executions, woken, net_takes, with_word, updates_of, happened, with_active, at_edge, Step, happens, releases, Schedule, no_steps, a_step}
use Rattle.gl_verilog.proofs.Among.{IsAmong, among_left, among_right, among_cases, among_here, among_rest, among_more, woken_keeps, woken_only, IsEvaluation, evaluations_only, IsExecution, executions_has, executions_only}
use Rattle.gl_verilog.proofs.Aware.{mapped, not_target, net_takes-cases, word_takes-cases, with_word-other}
use Rattle.gl_verilog.proofs.Good.{IsFine, IsAnyMemory, IsGood, good_step}
use Rattle.gl_verilog.proofs.Updates.{HasUpdate, put_is_assigned, assigned_is_put, write_is_written, written_is_write, no_executions}

-- ---- assignments settle: only they are active, and what they do not drive stays

pub record IsSettling (m : Module) (v : Nets) (w : Memories) (s : State) : Type 0 where
  pub waiting : s.waiting ≡ []
  pub active : (e : Event) → IsAmong e s.active → IsEvaluation e
  pub nets : (n : ℕ) (d : Declaration) → slice_get m.declarations n ≡ Some d → (IsDriven d.kind → ⊥) → s.nets n ≡ v n
  pub words : s.words ≡ w

pub evaluations_woken : (active : List Event) (reads : Expr → Bool) (as' : List Assignment) → ((e : Event) → IsAmong e active → IsEvaluation e) → (e : Event) → IsAmong e (woken active (evaluations reads 0 as')) → IsEvaluation e
evaluations_woken active reads as' h e i = elim (woken_only e active (evaluations reads 0 as') i) [ inl a ↦ h e a | inr k ↦ evaluations_only reads 0 as' e k ]

settling_happened : (m : Module) → IsValid m → (v : Nets) (w : Memories) (s : State) (e : Event) → IsEvaluation e → IsSettling m v w s → IsSettling m v w (happened m s e)
settling_happened m valid v w s (Evaluates k) is h = mapped (IsSettling m v w) (λ a. net_takes m s a.target (value_of s.nets s.words a.value)) (slice_get m.assignments k) s
    (λ q. h)
    (λ a q. net_takes-cases (IsSettling m v w) m s a.target (value_of s.nets s.words a.value)
    (λ same. h)
    (λ other. record {
      waiting = h.waiting;
      active = evaluations_woken s.active (λ e. mentions e a.target) m.assignments h.active;
      nets = λ n d e no'. with_net-other s.nets a.target (value_of s.nets s.words a.value) n (not_target m valid k a n d q e no') ∙ h.nets n d e no';
      words = h.words;
    }))
settling_happened m valid v w s (Executes k) is h = absurd (let q = is.is in cc)
settling_happened m valid v w s (Puts r x) is h = absurd (let q = is.is in cc)
settling_happened m valid v w s (Writes k at x) is h = absurd (let q = is.is in cc)

settling_step : (m : Module) → IsValid m → (v : Nets) (w : Memories) (s t : State) → IsSettling m v w s → Step m s t → IsSettling m v w t
settling_step m valid v w s t h (happens s' front back e q) = settling_happened m valid v w (with_active s' (front ++ back)) e
    (h.active e (subst (IsAmong e) (sym q) (among_here e front back)))
    (record {
      waiting = h.waiting;
      active = λ x i. h.active x (subst (IsAmong x) (sym q) (among_more x e front back i));
      nets = h.nets;
      words = h.words;
    })
settling_step m valid v w s t h (releases s' q ne) = absurd (ne h.waiting)

pub settling_schedule : (m : Module) → IsValid m → (v : Nets) (w : Memories) (s t : State) → IsSettling m v w s → Schedule m s t → IsSettling m v w t
settling_schedule m valid v w s t h (no_steps s') = h
settling_schedule m valid v w s t h (a_step s' t' u p r) = settling_schedule m valid v w t' u (settling_step m valid v w s' t' h p) r

-- ---- blocks are executed: no net and no word changes

pub record IsExecuting (m : Module) (v : Nets) (w : Memories) (s : State) : Type 0 where
  pub nets : s.nets ≡ v
  pub words : s.words ≡ w
  pub active : (e : Event) → IsAmong e s.active → IsExecution e
  pub done : (j : ℕ) (b : Statement) → slice_get m.blocks j ≡ Some b → IsAmong (Executes j) s.active ⊎ ((e : Event) → IsAmong e (updates_of s.nets s.words b) → IsAmong e s.waiting)
  pub only : (e : Event) → IsAmong e s.waiting → HasUpdate s.nets s.words m.blocks e

-- ---- updates happen: each is due, and what did not happen yet is active

abbrev pub next_register : Module → Nets → Memories → ℕ → ℕ
next_register m v w r = unwrap_or (assigned_by v w m.blocks r) (v r)

abbrev pub next_word : Module → Nets → Memories → ℕ → ℕ → ℕ
next_word m v w k at = unwrap_or (written_by v w m.blocks k at) (w k at)

abbrev pub IsDue : Module → Nets → Memories → Event → Type 0
IsDue m v w (Evaluates k) = Unit {0}
IsDue m v w (Executes k) = ⊥
IsDue m v w (Puts r x) = assigned_by v w m.blocks r ≡ Some x
IsDue m v w (Writes k at x) = written_by v w m.blocks k at ≡ Some x

pub record IsUpdating (m : Module) (v : Nets) (w : Memories) (s : State) : Type 0 where
  pub waiting : s.waiting ≡ []
  pub due : (e : Event) → IsAmong e s.active → IsDue m v w e
  pub registers : (r : ℕ) (d : Declaration) → slice_get m.declarations r ≡ Some d → IsRegister d.kind → (s.nets r ≡ next_register m v w r) ⊎ IsAmong (Puts r (next_register m v w r)) s.active
  pub words : (k at : ℕ) → (s.words k at ≡ next_word m v w k at) ⊎ IsAmong (Writes k at (next_word m v w k at)) s.active

-- what is known when an event was taken out
record IsLeft (m : Module) (v : Nets) (w : Memories) (s : State) (e : Event) : Type 0 where
  pub waiting : s.waiting ≡ []
  pub due : (x : Event) → IsAmong x s.active → IsDue m v w x
  pub this : IsDue m v w e
  pub registers : (r : ℕ) (d : Declaration) → slice_get m.declarations r ≡ Some d → IsRegister d.kind → (e ≡ Puts r (next_register m v w r)) ⊎ (s.nets r ≡ next_register m v w r) ⊎ IsAmong (Puts r (next_register m v w r)) s.active
  pub words : (k at : ℕ) → (e ≡ Writes k at (next_word m v w k at)) ⊎ (s.words k at ≡ next_word m v w k at) ⊎ IsAmong (Writes k at (next_word m v w k at)) s.active

due_woken : (m : Module) (v : Nets) (w : Memories) (active : List Event) (reads : Expr → Bool) → ((e : Event) → IsAmong e active → IsDue m v w e) → (e : Event) → IsAmong e (woken active (evaluations reads 0 m.assignments)) → IsDue m v w e
due_woken m v w active reads h e i = elim (woken_only e active (evaluations reads 0 m.assignments) i) [
  | inl a ↦ h e a
  | inr k ↦ (let is = evaluations_only reads 0 m.assignments e k in subst (IsDue m v w) (sym is.is) tt)
]

with_word-same : (w : Memories) (k at x : ℕ) → with_word w k at x k at ≡ x
with_word-same w k at x = elim (eqb_tells k k) [
  | inl same ↦ elim (eqb_tells at at) [ inl here ↦ rw (same.0, here.0) refl | inr there ↦ absurd (there.1 refl) ]
  | inr other ↦ absurd (other.1 refl)
]

with_word-there : (w : Memories) (k at x i : ℕ) → at ≢ i → with_word w k at x k i ≡ w k i
with_word-there w k at x i ne = elim (eqb_tells k k) [
  | inl same ↦ elim (eqb_tells at i) [ inl here ↦ absurd (ne here.1) | inr there ↦ rw (same.0, there.0) refl ]
  | inr other ↦ absurd (other.1 refl)
]

updating_happened : (m : Module) → IsValid m → (v : Nets) (w : Memories) (s : State) (e : Event) → IsLeft m v w s e → IsUpdating m v w (happened m s e)
updating_happened m valid v w s (Evaluates k) h =
    let registers : (r : ℕ) (d : Declaration) → slice_get m.declarations r ≡ Some d → IsRegister d.kind → (s.nets r ≡ next_register m v w r) ⊎ IsAmong (Puts r (next_register m v w r)) s.active =
    λ r d e reg. elim (h.registers r d e reg) [ inl q ↦ absurd cc | inr i ↦ i ] in
    let words : (k at : ℕ) → (s.words k at ≡ next_word m v w k at) ⊎ IsAmong (Writes k at (next_word m v w k at)) s.active =
    λ k at. elim (h.words k at) [ inl q ↦ absurd cc | inr i ↦ i ] in
    let old : IsUpdating m v w s = record { waiting = h.waiting; due = h.due; registers = registers; words = words } in
    mapped (IsUpdating m v w) (λ a. net_takes m s a.target (value_of s.nets s.words a.value)) (slice_get m.assignments k) s
    (λ q. old)
    (λ a q. net_takes-cases (IsUpdating m v w) m s a.target (value_of s.nets s.words a.value)
    (λ same. old)
    (λ other. record {
      waiting = h.waiting;
      due = due_woken m v w s.active (λ e. mentions e a.target) h.due;
      registers = λ r d e reg. elim (registers r d e reg) [
        | inl there ↦ inl (with_net-other s.nets a.target (value_of s.nets s.words a.value) r (not_target m valid k a r d q e (register_undriven d.kind reg)) ∙ there)
        | inr i ↦ inr (woken_keeps (Puts r (next_register m v w r)) s.active (evaluations (λ e. mentions e a.target) 0 m.assignments) i)
      ];
      words = λ k at. elim (words k at) [
        | inl there ↦ inl there
        | inr i ↦ inr (woken_keeps (Writes k at (next_word m v w k at)) s.active (evaluations (λ e. mentions e a.target) 0 m.assignments) i)
      ];
    }))
updating_happened m valid v w s (Executes k) h = absurd h.this
updating_happened m valid v w s (Puts n x) h =
    let is : x ≡ next_register m v w n = rw h.this refl in
    let words : (k at : ℕ) → (s.words k at ≡ next_word m v w k at) ⊎ IsAmong (Writes k at (next_word m v w k at)) s.active =
    λ k at. elim (h.words k at) [ inl q ↦ absurd cc | inr i ↦ i ] in
    net_takes-cases (IsUpdating m v w) m s n x
    (λ same. record {
      waiting = h.waiting;
      due = h.due;
      registers = λ r d e reg. elim (h.registers r d e reg) [
        | inl q ↦ (let at : n ≡ r = cc in inl (subst (λ i. s.nets i ≡ next_register m v w i) at (same ∙ is)))
        | inr i ↦ i
      ];
      words = words;
    })
    (λ other. record {
      waiting = h.waiting;
      due = due_woken m v w s.active (λ e. mentions e n) h.due;
      registers = λ r d e reg. elim (eqb_tells n r) [
        | inl at ↦ inl (subst (λ i. with_net s.nets n x i ≡ next_register m v w i) at.1 (with_net-same s.nets n x ∙ is))
        | inr apart ↦ elim (h.registers r d e reg) [
          | inl q ↦ absurd (apart.1 (cc))
          | inr i ↦ elim i [
            | inl there ↦ inl (with_net-other s.nets n x r apart.1 ∙ there)
            | inr j ↦ inr (woken_keeps (Puts r (next_register m v w r)) s.active (evaluations (λ e. mentions e n) 0 m.assignments) j)
          ]
        ]
      ];
      words = λ k at. elim (words k at) [
        | inl there ↦ inl there
        | inr i ↦ inr (woken_keeps (Writes k at (next_word m v w k at)) s.active (evaluations (λ e. mentions e n) 0 m.assignments) i)
      ];
    })
updating_happened m valid v w s (Writes n i x) h =
    let is : x ≡ next_word m v w n i = rw h.this refl in
    let registers : (r : ℕ) (d : Declaration) → slice_get m.declarations r ≡ Some d → IsRegister d.kind → (s.nets r ≡ next_register m v w r) ⊎ IsAmong (Puts r (next_register m v w r)) s.active =
    λ r d e reg. elim (h.registers r d e reg) [ inl q ↦ absurd cc | inr j ↦ j ] in
    word_takes-cases (IsUpdating m v w) m s n i x
    (λ same. record {
      waiting = h.waiting;
      due = h.due;
      registers = registers;
      words = λ k at. elim (h.words k at) [
        | inl q ↦ (let p : n ≡ k = cc in let p' : i ≡ at = cc in inl (subst (λ j. s.words k j ≡ next_word m v w k j) p' (subst (λ j. s.words j i ≡ next_word m v w j i) p (same ∙ is))))
        | inr j ↦ j
      ];
    })
    (λ other. record {
      waiting = h.waiting;
      due = due_woken m v w s.active (λ e. reads_memory e n) h.due;
      registers = λ r d e reg. elim (registers r d e reg) [
        | inl there ↦ inl there
        | inr j ↦ inr (woken_keeps (Puts r (next_register m v w r)) s.active (evaluations (λ e. reads_memory e n) 0 m.assignments) j)
      ];
      words = λ k at. elim (h.words k at) [
        | inl q ↦
            let p : n ≡ k = cc in
            let p' : i ≡ at = cc in
            inl (subst (λ j. with_word s.words n i x k j ≡ next_word m v w k j) p' (subst (λ j. with_word s.words n i x j i ≡ next_word m v w j i) p (with_word-same s.words n i x ∙ is)))
        | inr j ↦ elim j [
          | inl there ↦ elim (eqb_tells n k) [
            | inl p ↦ elim (eqb_tells i at) [
              | inl p' ↦ inl (subst (λ j. with_word s.words n i x k j ≡ next_word m v w k j) p'.1 (subst (λ j. with_word s.words n i x j i ≡ next_word m v w j i) p.1 (with_word-same s.words n i x ∙ is)))
              | inr q ↦ inl (subst (λ j. with_word s.words n i x j at ≡ s.words j at) p.1 (with_word-there s.words n i x at q.1) ∙ there)
            ]
            | inr q ↦ inl (with_word-other s.words n i x k at q.1 ∙ there)
          ]
          | inr among ↦ inr (woken_keeps (Writes k at (next_word m v w k at)) s.active (evaluations (λ e. reads_memory e n) 0 m.assignments) among)
        ]
      ];
    })

updating_step : (m : Module) → IsValid m → (v : Nets) (w : Memories) (s t : State) → IsUpdating m v w s → Step m s t → IsUpdating m v w t
updating_step m valid v w s t h (happens s' front back e q) = updating_happened m valid v w (with_active s' (front ++ back)) e (record {
  waiting = h.waiting;
  due = λ x i. h.due x (subst (IsAmong x) (sym q) (among_more x e front back i));
  this = h.due e (subst (IsAmong e) (sym q) (among_here e front back));
  registers = λ r d is reg. elim (h.registers r d is reg) [
    | inl there ↦ inr (inl there)
    | inr i ↦ elim (among_rest (Puts r (next_register m v w r)) e front back (subst (IsAmong (Puts r (next_register m v w r))) q i)) [ inl this ↦ inl this | inr rest ↦ inr (inr rest) ]
  ];
  words = λ k at. elim (h.words k at) [
    | inl there ↦ inr (inl there)
    | inr i ↦ elim (among_rest (Writes k at (next_word m v w k at)) e front back (subst (IsAmong (Writes k at (next_word m v w k at))) q i)) [ inl this ↦ inl this | inr rest ↦ inr (inr rest) ]
  ];
})
updating_step m valid v w s t h (releases s' q ne) = absurd (ne h.waiting)

-- ---- from the one to the other

executing_happened : (m : Module) (v : Nets) (w : Memories) (s : State) (front back : List Event) (e : Event) → IsExecution e → s.active ≡ front ++ e ∷ back → IsExecuting m v w s → IsExecuting m v w (happened m (with_active s (front ++ back)) e)
executing_happened m v w s front back (Evaluates k) is q h = absurd (let p = is.is in cc)
executing_happened m v w s front back (Puts r x) is q h = absurd (let p = is.is in cc)
executing_happened m v w s front back (Writes k at x) is q h = absurd (let p = is.is in cc)
executing_happened m v w s front back (Executes k) is q h = mapped (IsExecuting m v w) (λ b. record s { active = front ++ back; waiting = s.waiting ++ updates_of s.nets s.words b }) (slice_get m.blocks k) (with_active s (front ++ back))
    (λ none'. record {
      nets = h.nets;
      words = h.words;
      active = λ x i. h.active x (subst (IsAmong x) (sym q) (among_more x (Executes k) front back i));
      done = λ j b e. elim (h.done j b e) [
        | inl i ↦ elim (among_rest (Executes j) (Executes k) front back (subst (IsAmong (Executes j)) q i)) [
          | inl this ↦ absurd (let p : k ≡ j = cc in let both : slice_get m.blocks k ≡ Some b = ap (slice_get m.blocks) p ∙ e in cc)
          | inr rest ↦ inl rest
        ]
        | inr all' ↦ inr all'
      ];
      only = h.only;
    })
    (λ b is'. record {
      nets = h.nets;
      words = h.words;
      active = λ x i. h.active x (subst (IsAmong x) (sym q) (among_more x (Executes k) front back i));
      done = λ j c e. elim (h.done j c e) [
        | inl i ↦ elim (among_rest (Executes j) (Executes k) front back (subst (IsAmong (Executes j)) q i)) [
          | inl this ↦
              let p : k ≡ j = cc in
              let both : Some b ≡ Some c = sym is' ∙ ap (slice_get m.blocks) p ∙ e in
              let same : b ≡ c = cc in
              inr (subst (λ (i : Statement). (e : Event) → IsAmong e (updates_of s.nets s.words i) → IsAmong e (s.waiting ++ updates_of s.nets s.words b)) same (λ x u. among_right x s.waiting (updates_of s.nets s.words b) u))
          | inr rest ↦ inl rest
        ]
        | inr all' ↦ inr (λ x u. among_left x s.waiting (updates_of s.nets s.words b) (all' x u))
      ];
      only = λ x i. elim (among_cases x s.waiting (updates_of s.nets s.words b) i) [
        | inl before ↦ h.only x before
        | inr new ↦ record { number = k; block = b; is = is'; among = new }
      ];
    })

driver-register : (m : Module) (n : ℕ) (k : Kind) → IsRegister k → HasDriver m n k → (blocks_of m.blocks n ≡ 1) × AllByRecursion (AssignsOnce n) m.blocks
driver-register m n OutputRegister r h = h
driver-register m n Register r h = h
driver-register m n Input r h = absurd r
driver-register m n OutputWire r h = absurd r
driver-register m n Wire r h = absurd r
driver-register m n (Memory bits) r h = absurd r

driver-memory : (m : Module) (n : ℕ) (k : Kind) → IsAnyMemory k → HasDriver m n k → writes_of m.blocks n ≡ 1
driver-memory m n (Memory bits) r h = h
driver-memory m n Input r h = absurd r
driver-memory m n OutputWire r h = absurd r
driver-memory m n OutputRegister r h = absurd r
driver-memory m n Wire r h = absurd r
driver-memory m n Register r h = absurd r

-- an update of the blocks is due
update_due : (m : Module) → IsValid m → (v : Nets) (w : Memories) (e : Event) → IsFine m.declarations e → HasUpdate v w m.blocks e → IsDue m v w e
update_due m valid v w (Evaluates k) f u = tt
update_due m valid v w (Executes k) f u = no_executions v w u.block k u.among
update_due m valid v w (Puts r x) f u =
    let c = found_in (slice_get m.declarations r) (λ d. IsRegister d.kind × (x < 2 ^ d.width)) f in
    let d = driver-register m r c.item.kind c.fact.0 (valid.driven r c.item c.is) in
    put_is_assigned v w m.blocks r x (omega (arith, d.0)) d.1 u.number u.block u.is u.among
update_due m valid v w (Writes k at x) f u =
    let c = found_in (slice_get m.declarations k) (λ d. IsAnyMemory d.kind × (x < 2 ^ d.width)) f in
    let d = driver-memory m k c.item.kind c.fact.0 (valid.driven k c.item c.is) in
    write_is_written v w m.blocks k at x (omega (arith, d)) u.number u.block u.is u.among

abbrev pub released : State → State
released s = record s { active = s.waiting; waiting = [] }

-- with the values as the state has them
executed_here : (m : Module) → IsValid m → (v : Nets) (w : Memories) (s : State) → IsGood m s → IsExecuting m v w s → s.active ≡ [] → IsUpdating m s.nets s.words (released s)
executed_here m valid v w s g h q = record {
  waiting = refl;
  due = λ e i. update_due m valid s.nets s.words e (g.waits e i) (h.only e i);
  registers = λ r d e reg. by_put r (assigned_by s.nets s.words m.blocks r) refl;
  words = λ k at. by_write k at (written_by s.nets s.words m.blocks k at) refl;
}
  where
    there : (e : Event) → HasUpdate s.nets s.words m.blocks e → IsAmong e s.waiting
    there e u = elim (h.done u.number u.block u.is) [
      | inl i ↦ absurd (subst (IsAmong (Executes u.number)) q i)
      | inr all' ↦ all' e u.among
    ]

    by_put : (r : ℕ) (o : Option ℕ) → assigned_by s.nets s.words m.blocks r ≡ o → (s.nets r ≡ next_register m s.nets s.words r) ⊎ IsAmong (Puts r (next_register m s.nets s.words r)) s.waiting
    by_put r None e = inl (rw e refl)
    by_put r (Some x) e = inr (rw e (there (Puts r x) (assigned_is_put s.nets s.words m.blocks r x e)))

    by_write : (k at : ℕ) (o : Option ℕ) → written_by s.nets s.words m.blocks k at ≡ o → (s.words k at ≡ next_word m s.nets s.words k at) ⊎ IsAmong (Writes k at (next_word m s.nets s.words k at)) s.waiting
    by_write k at None e = inl (rw e refl)
    by_write k at (Some x) e = inr (rw e (there (Writes k at x) (written_is_write s.nets s.words m.blocks k at x e)))

executed : (m : Module) → IsValid m → (v : Nets) (w : Memories) (s : State) → IsGood m s → IsExecuting m v w s → s.active ≡ [] → IsUpdating m v w (released s)
executed m valid v w s g h q = subst (λ v'. IsUpdating m v' w (released s)) h.nets (subst (λ w'. IsUpdating m s.nets w' (released s)) h.words (executed_here m valid v w s g h q))

-- a cycle behind its edge is in one half or the other
abbrev pub IsBehind : Module → Nets → Memories → State → Type 0
IsBehind m v w s = IsExecuting m v w s ⊎ IsUpdating m v w s

behind_step : (m : Module) → IsValid m → (v : Nets) (w : Memories) (s t : State) → IsGood m s → IsBehind m v w s → Step m s t → IsBehind m v w t
behind_step m valid v w s t g h (happens s' front back e q) = elim h [
  | inl x ↦ inl (executing_happened m v w s' front back e (x.active e (subst (IsAmong e) (sym q) (among_here e front back))) q x)
  | inr u ↦ inr (updating_step m valid v w s' (happened m (with_active s' (front ++ back)) e) u (happens s' front back e q))
]
behind_step m valid v w s t g h (releases s' q ne) = elim h [
  | inl x ↦ inr (executed m valid v w s' g x q)
  | inr u ↦ absurd (ne u.waiting)
]

pub behind_steps : (m : Module) → IsValid m → (v : Nets) (w : Memories) (s t : State) → IsGood m s → IsBehind m v w s → Schedule m s t → IsBehind m v w t
behind_steps m valid v w s t g h (no_steps s') = h
behind_steps m valid v w s t g h (a_step s' t' u p r) = behind_steps m valid v w t' u (good_step m valid s' t' g p) (behind_step m valid v w s' t' g h p) r

pub begins_behind : (m : Module) (s : State) → s.waiting ≡ [] → IsBehind m s.nets s.words (at_edge m s)
begins_behind m s q = inl (record {
  nets = refl;
  words = refl;
  active = λ e i. executions_only 0 m.blocks e i;
  done = λ j b e. inl (subst (λ n. IsAmong (Executes n) (executions 0 m.blocks)) (let z : 0 + j ≡ j = omega arith in z) (executions_has 0 m.blocks j b e));
  only = λ e i. absurd (subst (IsAmong e) q i);
})

-- at rest the two-phase step is done
pub record IsStepped (m : Module) (v : Nets) (w : Memories) (s : State) : Type 0 where
  pub registers : (r : ℕ) (d : Declaration) → slice_get m.declarations r ≡ Some d → IsRegister d.kind → s.nets r ≡ next_register m v w r
  pub words : (k at : ℕ) → s.words k at ≡ next_word m v w k at

updated_at_rest : (m : Module) (v : Nets) (w : Memories) (s : State) → IsUpdating m v w s → s.active ≡ [] → IsStepped m v w s
updated_at_rest m v w s h q = record {
  registers = λ r d e reg. elim (h.registers r d e reg) [ inl there ↦ there | inr i ↦ absurd (subst (IsAmong (Puts r (next_register m v w r))) q i) ];
  words = λ k at. elim (h.words k at) [ inl there ↦ there | inr i ↦ absurd (subst (IsAmong (Writes k at (next_word m v w k at))) q i) ];
}

pub stepped_at_rest : (m : Module) → IsValid m → (v : Nets) (w : Memories) (s : State) → IsGood m s → IsBehind m v w s → IsAtRest s → IsStepped m v w s
stepped_at_rest m valid v w s g h rest = elim h [
  | inl x ↦ (let done = updated_at_rest m v w (released s) (executed m valid v w s g x rest.still) rest.empty in record { registers = done.registers; words = done.words })
  | inr u ↦ updated_at_rest m v w s u rest.still
]
