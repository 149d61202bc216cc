-- What is seen on two modules whose ports carry the same.
use Rattle.std.proofs.Common.{◌≡◌, ℕ, zero, suc, Bool, false, List, [], ◌∷◌, ◌++◌, map, Option, refl, sym, ap, subst, ◌∙◌}
use Rattle.std.specs.Prelude.{IsTrue, IsFalse, IfSome, bytes_eq, codes}
use Rattle.std.specs.List.{AllByRecursion}
use Rattle.gl_schema.specs.declared.schema.Schema.{Schema}
use Rattle.gl_schema.specs.Beats.{Beats, inputs_of}
use Rattle.gl_schema.specs.Ports.{PortValues, Pin, pins, IsStimulus, out_valid, out_eos, fault_group, fault_queue}
use Rattle.gl_schema.specs.Seen.{Shown, shown, seen, rows_of, value_at, row_shown}
use Rattle.gl_schema.specs.Right.{Meaning, IsRight}
use Rattle.gl_testbench.specs.Emission.{IsPastClock, SameButClock}

-- in a cycle the ports carry the same under every name but the clock's
abbrev pub SameAt : ℕ → PortValues → PortValues → Type 0
SameAt t port port' = (name : List ℕ) → bytes_eq name (codes "clk") ≡ false → port t name ≡ port' t name

-- none of these is the clock's name
abbrev pub NoClock : List (List ℕ) → Type 0
NoClock names = AllByRecursion (λ n. bytes_eq n (codes "clk") ≡ false) names

values_same : (port port' : PortValues) (t : ℕ) (outs : List (List ℕ)) → SameAt t port port' → NoClock outs → map (value_at port t) outs ≡ map (value_at port' t) outs
values_same port port' t [] same h = refl
values_same port port' t (o ∷ outs) same h = rw (same o h.0, values_same port port' t outs same h.1) refl

row_same : (port port' : PortValues) (t : ℕ) (outs : List (List ℕ)) → SameAt t port port' → NoClock outs → row_shown port outs t ≡ row_shown port' outs t
unfolding out_valid
row_same port port' t outs same h = rw (same out_valid refl, values_same port port' t outs same h) refl

pub shown_same : (port port' : PortValues) (outs : List (List ℕ)) (n : ℕ) → SameAt (suc n) port port' → NoClock outs → shown port outs n ≡ shown port' outs n
unfolding shown out_eos fault_group fault_queue
shown_same port port' outs n same h =
    rw (row_same port port' (suc n) outs same h, same out_eos refl, same fault_group refl, same fault_queue refl) refl

seen_same : (port port' : PortValues) (outs : List (List ℕ)) → ((n : ℕ) → shown port outs n ≡ shown port' outs n) → (n : ℕ) → seen port outs n ≡ seen port' outs n
seen_same port port' outs same zero = ap (λ (s : Shown). s ∷ []) (same 0)
seen_same port port' outs same (suc n) =
    ap (λ (all : List Shown). all ++ shown port outs (suc n) ∷ []) (seen_same port port' outs same n) ∙ ap (λ (s : Shown). seen port' outs n ++ s ∷ []) (same (suc n))

module _ (means means' : Meaning) (latency : ℕ) (beats : Beats) (outs : List (List ℕ)) (wider : (rows : List (List ℕ)) (spill : Bool) → means (inputs_of beats) rows spill → means' (inputs_of beats) rows spill) where
  right_same : (port port' : PortValues) → ((n : ℕ) → shown port outs n ≡ shown port' outs n) → IsRight means latency beats outs port → IsRight means' latency beats outs port'
  right_same port port' same r = record {
    ended = r.ended;
    soonest = r.soonest;
    in_time = r.in_time;
    ends = subst (λ (s : Shown). IsTrue s.end) (same r.ended) r.ends;
    once = λ n e. r.once n (subst (λ (s : Shown). IsTrue s.end) (sym (same n)) e);
    none_later = λ n lt. ap (λ (s : Shown). s.row) (sym (same n)) ∙ r.none_later n lt;
    no_overflow = λ n. subst (λ (s : Shown). IsFalse s.queue) (same n) (r.no_overflow n);
    meets =
        wider (rows_of (seen port' outs r.ended)) (shown port' outs r.ended).group
        (subst (λ (all : List Shown). means (inputs_of beats) (rows_of all) (shown port' outs r.ended).group) (seen_same port port' outs same r.ended)
        (subst (λ (s : Shown). means (inputs_of beats) (rows_of (seen port outs r.ended)) s.group) (same r.ended) r.meets));
  }

  -- what is right for a meaning is right for one that is no narrower over these beats
  pub right_wider : (port : PortValues) → IsRight means latency beats outs port → IsRight means' latency beats outs port
  right_wider port r = right_same port port (λ n. refl) r

-- being right does not look at the clock
pub right_past : (means : Meaning) (latency : ℕ) (outs : List (List ℕ)) → NoClock outs → IsPastClock (λ beats port. IsRight means latency beats outs port)
right_past means latency outs none = λ beats port port' same.
    right_same means means latency beats outs (λ rows spill h. h) port port' (λ n. shown_same port port' outs n (same (suc n)) none)

-- the pins of a stimulus have other names than the clock's
pins_same : (port port' : PortValues) (t : ℕ) (ps : List Pin) → SameAt t port port' → AllByRecursion (λ (p : Pin). bytes_eq p.name (codes "clk") ≡ false) ps → AllByRecursion (λ (p : Pin). IfSome (port t p.name) (λ v. v ≡ p.value)) ps → AllByRecursion (λ (p : Pin). IfSome (port' t p.name) (λ v. v ≡ p.value)) ps
pins_same port port' t [] same h all = tt
pins_same port port' t (p ∷ ps) same h all = (subst (λ (o : Option ℕ). IfSome o (λ v. v ≡ p.value)) (same p.name h.0) all.0, pins_same port port' t ps same h.1 all.1)

pub stimulus_same : (schema : Schema) (beats : Beats) (port port' : PortValues) → SameButClock port port' → ((t : ℕ) → AllByRecursion (λ (p : Pin). bytes_eq p.name (codes "clk") ≡ false) (pins schema beats t)) → IsStimulus schema beats port → IsStimulus schema beats port'
stimulus_same schema beats port port' same h s = record { carries = λ t. pins_same port port' t (pins schema beats t) (same t) (h t) (s.carries t) }
