-- Cycle by cycle: what was written so far, and where the end is.
use Rattle.std.proofs.Common.{◌≡◌, ℕ, zero, suc, ◌+◌, ◌-◌, ◌<◌, ◌≤◌, inl, inr, Bool, true, false, ◌||◌, List, [], ◌∷◌, ◌++◌, Option, None, Result, Ok, Err, refl, sym, ap, ◌∙◌, subst, arith, append_assoc, add-one}
use Rattle.std.specs.Prelude.{◌⊎◌, OnOk, is_err}
use Rattle.std.specs.Option.{option_map}
use Rattle.std.proofs.lemmas.List.{append-nil}
use Rattle.std.proofs.lemmas.Bool.{cases_lt, cases_eq}
use Rattle.gl_bits.proofs.Bools.{or_join, or_none}
use Rattle.gl_values.specs.declared.kind.Kind.{Kind}
use Rattle.gl_outside.specs.States.{Appends, AppendsFront, Broke, Counts, SinkState, Took, Wrote}
use Rattle.gl_outside.specs.Counts.{Rose}
use Rattle.gl_outside.proofs.Takes.{appends_none, appends_then, front_then, front_more}
use Rattle.gl_vcd.specs.Signals.{seen_below}
use Rattle.gl_schema.specs.declared.schema.Schema.{Schema}
use Rattle.gl_schema.specs.Beats.{Beats, last_cycle}
use Rattle.gl_schema.specs.Ports.{PortValues}
use Rattle.gl_schema.specs.Seen.{Shown, shown, seen, lines, lines_after, cycle_lines}
use Rattle.gl_verilog.specs.Module.{Module, Nets, Memories}
use Rattle.gl_verilog.specs.declared.module.Module.{Module as Rust}
use Rattle.gl_verilog.specs.Run.{port_of}
use Rattle.gl_verilog.specs.View.{module_of}
use Rattle.gl_sim.specs.Simulation.{Simulation}
use Rattle.gl_runner.specs.Cycles.{Advances, Driven, HasOnPorts, IsAhead, IsBefore, IsFollowed, IsMade, design_of}
use Rattle.gl_tuples.specs.declared.lines.Sample.{Sample}
use Rattle.gl_tuples.specs.Pieces.{sampled}
use Rattle.gl_runner.specs.Ends.{IsLastCycle}
use Rattle.gl_runner.specs.Probes.{IsSeen}
use Rattle.gl_runner.proofs.Probing.{lines_seen}
use Rattle.gl_runner.specs.declared.watching.Made.{Made}
use Rattle.gl_runner.specs.Watches.{IsMadeOf, WatchesFront, WatchesOut, WatchesToEnd, StandsTold, bytes_to, end_of_cycle, has_group, lines_of_cycle, module_in}
use Rattle.gl_verilog.specs.Module.{number_of}
use Rattle.gl_verilog_ports.specs.Profile.{ports_of, result_names}

-- ---- whether all was written

pub wrote_all : {E : Type 0} (a b : SinkState) (bytes : List ℕ) (r : Result (Unit {0}) E) → is_err r ≡ false → Wrote a b bytes r → Took a b bytes
wrote_all a b bytes (Ok u) e w = w
wrote_all a b bytes (Err x) e w = absurd cc

pub wrote_front : {E : Type 0} (a b : SinkState) (bytes : List ℕ) (r : Result (Unit {0}) E) → is_err r ≡ true → Wrote a b bytes r → Broke a b bytes
wrote_front a b bytes (Ok u) e w = absurd cc
wrote_front a b bytes (Err x) e w = w

pub counts_of : {E : Type 0} (a b : SinkState) (bytes : List ℕ) (r : Result (Unit {0}) E) → Wrote a b bytes r → Counts a b r
counts_of a b bytes (Ok u) w = w.calm
counts_of a b bytes (Err x) w = w.cause

pub counts_calm : {E : Type 0} (a b : SinkState) (r : Result (Unit {0}) E) → is_err r ≡ false → Counts a b r → b.faults ≡ a.faults
counts_calm a b (Ok u) e w = w
counts_calm a b (Err x) e w = absurd cc

pub counts_rose : {E : Type 0} (a b : SinkState) (r : Result (Unit {0}) E) → is_err r ≡ true → Counts a b r → Rose a.faults b.faults
counts_rose a b (Ok u) e w = absurd cc
counts_rose a b (Err x) e w = w

pub ok_then : {E P : Type 0} (r : Result (Unit {0}) E) → is_err r ≡ false → OnOk r P → P
ok_then (Ok u) e h = h
ok_then (Err x) e h = absurd cc

-- ---- the lines of a result

seen_more : (port : PortValues) (outs : List (List ℕ)) (n : ℕ) → seen port outs n ≡ seen_below port outs n ++ shown port outs n ∷ []
seen_more port outs zero = refl
seen_more port outs (suc n) = refl

group_push : (all : List Shown) (s : Shown) → has_group (all ++ s ∷ []) ≡ (has_group all || s.group)
group_push [] s = or_none s.group
group_push (x ∷ all) s = ap (λ (b : Bool). x.group || b) (group_push all s) ∙ sym (or_join x.group (has_group all) s.group)

-- whether a further group was told, behind a cycle
pub told_more : (told : Bool) (port : PortValues) (outs : List (List ℕ)) (n : ℕ) (group : Bool) → told ≡ has_group (seen_below port outs n) → group ≡ (shown port outs n).group → (told || group) ≡ has_group (seen_below port outs (n + 1))
told_more told port outs n group before same =
    let next : n + 1 ≡ suc n = add-one n in
    rw next (ap (λ (b : Bool). b || group) before ∙ ap (λ (b : Bool). has_group (seen_below port outs n) || b) same
    ∙ sym (group_push (seen_below port outs n) (shown port outs n)) ∙ ap has_group (sym (seen_more port outs n)))

-- whether the end was seen in it
pub ended_kept : (m : Module) (port : PortValues) (n : ℕ) (ends : Bool) → ends ≡ (shown port (result_names m) n).end → (k : ℕ) → n + 1 ≡ suc k → ends ≡ end_of_cycle m port k
ended_kept m port n ends last k e =
    let place : n ≡ k = omega (arith, e) in
    last ∙ ap (end_of_cycle m port) place

-- what is known behind it
pub told_behind : (told ended : Bool) (m : Module) (port : PortValues) (n : ℕ) (group ends : Bool) → StandsTold told ended m port n → group ≡ (shown port (result_names m) n).group → ends ≡ (shown port (result_names m) n).end → StandsTold (told || group) ends m port (n + 1)
told_behind told ended m port n group ends before same last = record {
  told' = told_more told port (result_names m) n group before.told' same;
  ended' = ended_kept m port n ends last;
}

-- and in front of the first
pub told_first : (told ended : Bool) (m : Module) (port : PortValues) → told ≡ false → StandsTold told ended m port 0
told_first told ended m port first = record { told' = first; ended' = λ k e. absurd (omega (arith, e)) }

-- the lines of what is seen in it
pub lines_told : (m : Module) (port : PortValues) (n : ℕ) (kinds : List Kind) (told ended : Bool) (sample : Sample) (row : List ℕ) → IsSeen port (result_names m) (suc n) sample row → StandsTold told ended m port n → cycle_lines kinds told (sampled sample n row) ≡ lines_of_cycle kinds m port n
lines_told m port n kinds told ended sample row is before =
    lines_seen port (result_names m) n kinds told sample row is ∙ ap (λ (b : Bool). cycle_lines kinds b (shown port (result_names m) n)) before.told'

lines_push : (overflowed : Bool) (kinds : List Kind) (all : List Shown) (s : Shown) → lines_after overflowed kinds (all ++ s ∷ []) ≡ lines_after overflowed kinds all ++ cycle_lines kinds (overflowed || has_group all) s
lines_push overflowed kinds [] s = append-nil (cycle_lines kinds overflowed s) ∙ ap (λ (b : Bool). cycle_lines kinds b s) (sym (or_none overflowed))
lines_push overflowed kinds (x ∷ all) s =
    ap (λ (bytes : List ℕ). cycle_lines kinds overflowed x ++ bytes)
    (lines_push (overflowed || x.group) kinds all s ∙ ap (λ (b : Bool). lines_after (overflowed || x.group) kinds all ++ cycle_lines kinds b s) (or_join overflowed x.group (has_group all)))
    ∙ sym (append_assoc (cycle_lines kinds overflowed x) (lines_after (overflowed || x.group) kinds all) (cycle_lines kinds (overflowed || has_group (x ∷ all)) s))

-- the lines of the cycles up to one, cycle by cycle
pub lines_to : (kinds : List Kind) (m : Module) (port : PortValues) (n : ℕ) → bytes_to (lines_of_cycle kinds) m port n ≡ lines kinds (seen port (result_names m) n)
lines_to kinds m port zero = sym (append-nil (cycle_lines kinds false (shown port (result_names m) 0)))
lines_to kinds m port (suc n) =
    let outs : List (List ℕ) = result_names m in
    ap (λ (bytes : List ℕ). bytes ++ lines_of_cycle kinds m port (suc n)) (lines_to kinds m port n)
    ∙ sym (lines_push false kinds (seen port outs n) (shown port outs (suc n)))

-- ---- the cycles before one

abbrev pub bytes_below : (Module → PortValues → ℕ → List ℕ) → Module → PortValues → ℕ → List ℕ
bytes_below bytes m port zero = []
bytes_below bytes m port (suc n) = bytes_to bytes m port n

bytes_more : (bytes : Module → PortValues → ℕ → List ℕ) (m : Module) (port : PortValues) (n : ℕ) → bytes_to bytes m port n ≡ bytes_below bytes m port n ++ bytes m port n
bytes_more bytes m port zero = refl
bytes_more bytes m port (suc n) = refl

-- the bytes of fewer cycles are a front
pub record IsFront (front all : List ℕ) : Type 0 where
  pub rest : List ℕ
  pub same : all ≡ front ++ rest

bytes_front : (bytes : Module → PortValues → ℕ → List ℕ) (m : Module) (port : PortValues) (n j : ℕ) → IsFront (bytes_below bytes m port n) (bytes_below bytes m port (n + j))
bytes_front bytes m port n zero =
    let same : n + 0 ≡ n = omega arith in
    record { rest = []; same = ap (bytes_below bytes m port) same ∙ sym (append-nil (bytes_below bytes m port n)) }
bytes_front bytes m port n (suc j) =
    let same : n + suc j ≡ suc (n + j) = omega arith in
    let front = bytes_front bytes m port n j in
    let more : List ℕ = bytes m port (n + j) in
    record {
      rest = front.rest ++ more;
      same = ap (bytes_below bytes m port) same ∙ bytes_more bytes m port (n + j) ∙ ap (λ (x : List ℕ). x ++ more) front.same ∙ append_assoc (bytes_below bytes m port n) front.rest more;
    }

-- ---- the first end

record IsFirst (f : ℕ → Bool) (from far : ℕ) : Type 0 where
  place : ℕ
  low : from ≤ place
  high : place ≤ far
  is : f place ≡ true
  first : (k : ℕ) → from ≤ k → k < place → f k ≡ false

IsNone : (ℕ → Bool) → ℕ → ℕ → Type 0
IsNone f from far = (k : ℕ) → from ≤ k → k ≤ far → f k ≡ false

-- none before the last of these: it is the first, or there is none
at_last : (f : ℕ → Bool) (from far : ℕ) → from ≤ far → ((k : ℕ) → from ≤ k → k < far → f k ≡ false) → IsFirst f from far ⊎ IsNone f from far
unfolding IsNone
at_last f from far le none = pick (f far) refl
  where
    pick : (b : Bool) → f far ≡ b → IsFirst f from far ⊎ IsNone f from far
    pick true q = inl (record { place = far; low = le; high = omega arith; is = q; first = none })
    pick false q = inr (λ k low high. (elim (cases_eq k far) [
      | inl e ↦ subst (λ (x : ℕ). f x ≡ false) (sym e) q
      | inr e ↦ none k low (omega (arith, e, high))
    ]))

-- the first end in so many cycles, or that there is none
first_end : (f : ℕ → Bool) (from j : ℕ) → IsFirst f from (from + j) ⊎ IsNone f from (from + j)
unfolding IsNone
first_end f from zero = at_last f from (from + 0) (omega arith) (λ k le lt. absurd (omega (arith, le, lt)))
first_end f from (suc j) = (elim (first_end f from j) [
  | inl e ↦ inl (record { place = e.place; low = e.low; high = omega (arith, e.high); is = e.is; first = e.first })
  | inr none ↦ at_last f from (from + suc j) (omega arith) (λ k le lt. none k le (omega (arith, lt)))
])

-- ---- one cycle after the other

-- so many cycles were made of what was before its first one
abbrev pub IsAt : Driven → Driven → ℕ → Type 0
IsAt d e n = e ≡ record d { sim = e.sim; cycle = n }

pub at_first : (d : Driven) → d.cycle ≡ 0 → IsAt d d 0
at_first d first = subst (λ (n : ℕ). IsAt d d n) first refl

pub at_next : (d e f : Driven) (n : ℕ) → IsAt d e n → IsAhead e f → IsAt d f (n + 1)
at_next d e f n at ahead = ahead.same ∙ ap (λ (x : Driven). record x { sim = f.sim; cycle = x.cycle + 1 }) at

-- the next one is made in each run that is followed
pub made_next : (d e f : Driven) (n : ℕ) (value : ℕ → Nets) (word : ℕ → Memories) → IsAt d e n → e.sim.design ≡ d.sim.design → Advances e f
    → IsFollowed e.sim d.schema d.beats value word (n + 1) → IsMade (design_of d) f.sim d.schema d.beats n value word
made_next d e f n value word at design made followed =
    let all : IsFollowed e.sim d.schema d.beats value word (n + 1) → IsMade (design_of e) f.sim d.schema d.beats n value word =
    subst (λ (x : Driven). IsBefore x value word → IsMade (design_of x) f.sim x.schema x.beats x.cycle value word) at (made value word) in
    subst (λ (m : Rust). IsMade (module_of m) f.sim d.schema d.beats n value word) design (all followed)

-- what was made is this of the ports in a run
pub made_of : (made : Made) (m : Module) (s : Simulation) (schema : Schema) (beats : Beats) (value : ℕ → Nets) (word : ℕ → Memories)
    → m ≡ module_in made → s ≡ made.sim.now → IsMade m s schema beats made.cycle value word → IsMadeOf made (port_of m value)
made_of made m s schema beats value word same at h =
    let h' : IsMade m made.sim.now schema beats made.cycle value word = subst (λ (x : Simulation). IsMade m x schema beats made.cycle value word) at h in
    record {
      ports' = subst (λ (x : Module). HasOnPorts x made.sim.now (port_of m value) (suc made.cycle)) same h'.ports';
      others' = λ name none. ap (option_map (value (suc made.cycle))) (subst (λ (x : Module). number_of (ports_of x) name ≡ None) (sym same) none);
    }

-- what a watcher does of a cycle in a run
pub record IsWatched {E : Type 0} (bytes : Module → PortValues → ℕ → List ℕ) (stands : Module → PortValues → ℕ → Type 0) (m : Module) (port : PortValues) (n : ℕ) (old new : SinkState) (r : Result (Unit {0}) E) : Type 0 where
  pub wrote : Wrote old new (bytes m port n) r
  pub behind : OnOk r (stands m port (n + 1))

pub watched_one : {E : Type 0} (made : Made) (m : Module) (bytes bytes' : Module → PortValues → ℕ → List ℕ) (stands stands' : Module → PortValues → ℕ → Type 0) (port : PortValues) (old new : SinkState) (r : Result (Unit {0}) E)
    → m ≡ module_in made → bytes ≡ bytes' → IsMadeOf made port → stands m port made.cycle
    → ((p : PortValues) → IsMadeOf made p → stands (module_in made) p made.cycle → Wrote old new (bytes (module_in made) p made.cycle) r)
    → ((p : PortValues) → IsMadeOf made p → stands (module_in made) p made.cycle → OnOk r (stands' (module_in made) p (made.cycle + 1)))
    → IsWatched bytes' stands' m port made.cycle old new r
watched_one made m bytes bytes' stands stands' port old new r same alike of before wrote behind =
    let before' : stands (module_in made) port made.cycle = subst (λ (x : Module). stands x port made.cycle) same before in
    record {
      wrote = subst (λ (x : Module → PortValues → ℕ → List ℕ). Wrote old new (x m port made.cycle) r) alike
          (subst (λ (x : Module). Wrote old new (bytes x port made.cycle) r) (sym same) (wrote port of before'));
      behind = subst (λ (x : Module). OnOk r (stands' x port (made.cycle + 1))) (sym same) (behind port of before');
    }

-- what the watcher answers is whether its end is there
pub over_is : {now initial : Module → PortValues → ℕ → Bool} {m : Module} {port : PortValues} {n : ℕ} {over : Bool} → now ≡ initial → over ≡ now m port n → initial m port n ≡ over
over_is {now} {initial} {m} {port} {n} {over} same is = sym (is ∙ ap (λ (f : Module → PortValues → ℕ → Bool). f m port n) same)

-- ---- on the way

-- file cycle n comes next; so many bytes were written, the watcher stands in front of it, and no end was seen from the last beat on
pub record IsUnderWay (m : Module) (s : Simulation) (schema : Schema) (bytes : Module → PortValues → ℕ → List ℕ) (ends : Module → PortValues → ℕ → Bool) (stands : Module → PortValues → ℕ → Type 0) (beats : Beats) (n : ℕ) (old new : Option (List ℕ)) (value : ℕ → Nets) (word : ℕ → Memories) : Type 0 where
  pub followed : IsFollowed s schema beats value word (n + 1)
  pub stands' : stands m (port_of m value) n
  pub written : Appends old new (bytes_below bytes m (port_of m value) n)
  pub none : (k : ℕ) → last_cycle beats ≤ k → k < n → ends m (port_of m value) k ≡ false

pub under_way_first : (m : Module) (s : Simulation) (schema : Schema) (bytes : Module → PortValues → ℕ → List ℕ) (ends : Module → PortValues → ℕ → Bool) (stands : Module → PortValues → ℕ → Type 0) (beats : Beats) (old : Option (List ℕ)) (value : ℕ → Nets) (word : ℕ → Memories) → IsFollowed s schema beats value word 1 → stands m (port_of m value) 0 → IsUnderWay m s schema bytes ends stands beats 0 old old value word
under_way_first m s schema bytes ends stands beats old value word h at = record { followed = h; stands' = at; written = appends_none old; none = λ k le lt. absurd (omega arith) }

-- what a cycle writes behind the others
all_written : (m : Module) (bytes : Module → PortValues → ℕ → List ℕ) (port : PortValues) (n : ℕ) (old mid new : Option (List ℕ)) → Appends old mid (bytes_below bytes m port n) → Appends mid new (bytes m port n) → Appends old new (bytes_to bytes m port n)
all_written m bytes port n old mid new before w = subst (Appends old new) (sym (bytes_more bytes m port n)) (appends_then old mid new (bytes_below bytes m port n) (bytes m port n) before w)

pub under_way_more : (m : Module) (s s' : Simulation) (schema : Schema) (bytes : Module → PortValues → ℕ → List ℕ) (ends : Module → PortValues → ℕ → Bool) (stands stands' : Module → PortValues → ℕ → Type 0) (beats : Beats) (n : ℕ) (old mid new : Option (List ℕ)) (value : ℕ → Nets) (word : ℕ → Memories)
    → IsUnderWay m s schema bytes ends stands beats n old mid value word → IsMade m s' schema beats n value word → Appends mid new (bytes m (port_of m value) n)
    → stands' m (port_of m value) (n + 1) → (last_cycle beats ≤ n → ends m (port_of m value) n ≡ false) → IsUnderWay m s' schema bytes ends stands' beats (n + 1) old new value word
under_way_more m s s' schema bytes ends stands stands' beats n old mid new value word u made w behind open' =
    let port : PortValues = port_of m value in
    let next : n + 1 ≡ suc n = add-one n in
    let two : n + 1 + 1 ≡ n + 2 = omega arith in
    record {
      followed = subst (IsFollowed s' schema beats value word) (sym two) made.followed;
      stands' = behind;
      written = rw next (all_written m bytes port n old mid new u.written w);
      none = λ k le lt. (elim (cases_eq k n) [
        | inl e ↦ subst (λ (x : ℕ). ends m port x ≡ false) (sym e) (open' (omega (arith, le, e)))
        | inr e ↦ u.none k le (omega (arith, lt, e))
      ]);
    }

-- the end
pub under_way_done : (m : Module) (s s' : Simulation) (schema : Schema) (bytes : Module → PortValues → ℕ → List ℕ) (ends : Module → PortValues → ℕ → Bool) (stands stands' : Module → PortValues → ℕ → Type 0) (beats : Beats) (n extra : ℕ) (old mid new : Option (List ℕ)) (value : ℕ → Nets) (word : ℕ → Memories)
    → IsUnderWay m s schema bytes ends stands beats n old mid value word → IsMade m s' schema beats n value word → Appends mid new (bytes m (port_of m value) n)
    → stands' m (port_of m value) (n + 1) → ends m (port_of m value) n ≡ true → last_cycle beats ≤ n → n ≤ last_cycle beats + extra → WatchesToEnd bytes ends stands' beats extra m (port_of m value) old new
under_way_done m s s' schema bytes ends stands stands' beats n extra old mid new value word u made w behind is le soon =
    let next : n + 1 ≡ suc n = add-one n in
    record {
      last = n;
      is = record {
        is = record { soonest = le; holds = is; first = u.none };
        in_time = soon;
      };
      watched = record {
        taken = all_written m bytes (port_of m value) n old mid new u.written w;
        behind = subst (stands' m (port_of m value)) next behind;
      };
    }

-- no end came in any of the cycles
pub under_way_out : (m : Module) (s : Simulation) (schema : Schema) (bytes : Module → PortValues → ℕ → List ℕ) (ends : Module → PortValues → ℕ → Bool) (stands : Module → PortValues → ℕ → Type 0) (beats : Beats) (n extra far : ℕ) (old new : Option (List ℕ)) (value : ℕ → Nets) (word : ℕ → Memories)
    → IsUnderWay m s schema bytes ends stands beats n old new value word → far ≡ last_cycle beats + extra → n ≡ suc far → WatchesOut bytes ends stands beats extra far m (port_of m value) old new
under_way_out m s schema bytes ends stands beats n extra far old new value word u last next = record {
  is = record { last = last; none = λ k le up. u.none k le (omega (arith, last, next, up)) };
  watched = record {
    taken = subst (λ (k : ℕ). Appends old new (bytes_below bytes m (port_of m value) k)) next u.written;
    behind = subst (stands m (port_of m value)) next u.stands';
  };
}

-- the last cycle that is run, where no end came before cycle n
pub record IsLastFrom (beats : Beats) (ends : ℕ → Bool) (extra n : ℕ) : Type 0 where
  pub place : ℕ
  pub is : IsLastCycle beats ends extra place
  pub here : n ≤ place

pub last_from : (beats : Beats) (ends : ℕ → Bool) (extra n : ℕ) → ((k : ℕ) → last_cycle beats ≤ k → k < n → ends k ≡ false) → n ≤ last_cycle beats + extra → IsLastFrom beats ends extra n
unfolding IsNone
last_from beats ends extra n none soon = (elim (first_end ends (last_cycle beats) extra) [
  | inl e ↦ record {
    place = e.place;
    is = inl (record { is = record { soonest = e.low; holds = e.is; first = e.first }; in_time = e.high });
    here = not_before n e.place (λ lt. (let no' : ends e.place ≡ false = none e.place e.low lt in let yes' : ends e.place ≡ true = e.is in cc));
  }
  | inr e ↦ record { place = last_cycle beats + extra; is = inr (record { last = refl; none = e }); here = soon }
])
  where
    not_before : (a b : ℕ) → (b < a → ⊥) → a ≤ b
    not_before a b h = (elim (cases_lt b a) [ inl lt ↦ absurd (h lt) | inr le ↦ le ])

-- what was written up to a cycle is a front of what is written up to a later one
pub bytes_up_to : (bytes : Module → PortValues → ℕ → List ℕ) (m : Module) (port : PortValues) (n last : ℕ) → n ≤ last → IsFront (bytes_to bytes m port n) (bytes_to bytes m port last)
bytes_up_to bytes m port n last le =
    let reach : suc n + (last - n) ≡ suc last = omega (arith, le) in
    subst (λ (k : ℕ). IsFront (bytes_to bytes m port n) (bytes_below bytes m port k)) reach (bytes_front bytes m port (suc n) (last - n))

-- the sink failed
pub under_way_cut : (m : Module) (s : Simulation) (schema : Schema) (bytes : Module → PortValues → ℕ → List ℕ) (ends : Module → PortValues → ℕ → Bool) (stands : Module → PortValues → ℕ → Type 0) (beats : Beats) (n extra : ℕ) (old mid new : Option (List ℕ)) (value : ℕ → Nets) (word : ℕ → Memories)
    → IsUnderWay m s schema bytes ends stands beats n old mid value word → AppendsFront mid new (bytes m (port_of m value) n)
    → n ≤ last_cycle beats + extra → WatchesFront bytes ends beats extra m (port_of m value) old new
under_way_cut m s schema bytes ends stands beats n extra old mid new value word u w soon =
    let port : PortValues = port_of m value in
    let last = last_from beats (ends m port) extra n u.none soon in
    let front = bytes_up_to bytes m port n last.place last.here in
    let all : bytes_to bytes m port last.place ≡ (bytes_below bytes m port n ++ bytes m port n) ++ front.rest =
    front.same ∙ ap (λ (x : List ℕ). x ++ front.rest) (bytes_more bytes m port n) in
    record {
      last = last.place;
      is = last.is;
      taken = subst (AppendsFront old new) (sym all)
          (front_more old new (bytes_below bytes m port n ++ bytes m port n) front.rest
          (front_then old mid new (bytes_below bytes m port n) (bytes m port n) u.written w));
    }
