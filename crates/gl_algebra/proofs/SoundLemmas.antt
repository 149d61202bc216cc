-- Every row of the table gives sound figures from sound ones.
use Rattle.std.proofs.Common.{◌≡◌, ℕ, zero, suc, ◌+◌, ◌-◌, ◌*◌, ◌<◌, ◌≤◌, max, true, false, ◌&&◌, cond, nat_lt, arith}
use Rattle.std.proofs.Math.Nat.{mul-le-mul_right, mul-pos}
use borrow.Author.Tests.{ltb-true}
use Rattle.gl_bits.proofs.Bools.{and_left, by_cases}
use Rattle.gl_algebra.specs.declared.figures.Figures.{Figures}
use Rattle.gl_algebra.specs.FigureTable.{IsSound, last_of, settled, delayed, aggregate_figures, merged, left_wait, right_wait, in_turn, turn_figures, is_fixed, in_step, at_end, joined, spacer_figures, spaced, needs_spacer, windows_over, groups_over, partitions_over}

-- the last cycle lies between the first and the one without the rule for no tuples
last_of-least : (tuples first last : ℕ) → first ≤ last → first ≤ last_of tuples first last
last_of-least zero first last h = omega arith
last_of-least (suc tuples) first last h = h

last_of-most : (tuples first last : ℕ) → first ≤ last → last_of tuples first last ≤ last
last_of-most zero first last h = h
last_of-most (suc tuples) first last h = omega arith

pub settled_sound : (f : Figures) → IsSound f → IsSound (settled f)
settled_sound f sound =
    let least = last_of-least f.nt f.a f.lt sound.tuples_last in
    let most = last_of-most f.nt f.a f.lt sound.tuples_last in
    record {
      tuples_last = least;
      end_last = omega arith;
      tuples = sound.tuples;
      some = sound.some;
      tuples_gap = omega arith;
      end_gap = sound.end_gap;
      gaps = sound.gaps;
    }

pub delayed_sound : (cycles : ℕ) (f : Figures) → IsSound f → IsSound (delayed cycles f)
delayed_sound cycles f sound = record {
  tuples_last = omega arith;
  end_last = omega arith;
  tuples = sound.tuples;
  some = sound.some;
  tuples_gap = omega arith;
  end_gap = omega arith;
  gaps = sound.gaps;
}

pub aggregate_sound : (delay : ℕ) (f : Figures) → IsSound f → IsSound (aggregate_figures delay f)
aggregate_sound delay f sound = record {
  tuples_last = omega arith;
  end_last = omega arith;
  tuples = omega arith;
  some = omega arith;
  tuples_gap = omega arith;
  end_gap = omega arith;
  gaps = omega arith;
}

-- the last cycle with a first that may lie past the end where there is no tuple
last_of-within : (tuples first last least most : ℕ) → least ≤ first → first ≤ most → (0 < tuples → first ≤ last) → last ≤ most
    → (first ≤ last_of tuples first last) × (last_of tuples first last ≤ most)
last_of-within zero first last least most l m h e = (omega arith, m)
last_of-within (suc tuples) first last least most l m h e = (h (omega arith), e)

pub merged_sound : (p q : Figures) → IsSound p → IsSound q → IsSound (merged p q)
merged_sound p q sound sound' =
    let within = last_of-within (p.nt + q.nt) (p.a + 1) (max p.lt q.lt + p.nt + q.nt) 0 (max p.le q.le + p.ne + q.ne + 1)
    (omega arith) (omega arith) (λ some. omega arith) (omega arith) in
    record {
      tuples_last = within.0;
      end_last = within.1;
      tuples = omega arith;
      some = omega arith;
      tuples_gap = omega arith;
      end_gap = omega arith;
      gaps = omega arith;
    }

in_turn_sound : (p q : Figures) → IsSound p → IsSound q → p.le + 1 ≡ q.a → IsSound (in_turn p q)
in_turn_sound p q sound sound' behind = record {
  tuples_last = omega (arith, behind, sound.tuples_last, sound.end_last, sound'.tuples_last);
  end_last = omega (arith, sound'.end_last);
  tuples = omega (arith, sound.tuples, sound'.tuples);
  some = omega (arith, sound.some);
  tuples_gap = omega arith;
  end_gap = omega arith;
  gaps = omega (arith, sound.gaps, sound'.gaps, sound'.end_last);
}

pub turn_figures_sound : (p q : Figures) → IsSound p → IsSound q → IsSound (turn_figures p q)
turn_figures_sound p q sound sound' =
    in_turn_sound (delayed (left_wait p q) p) (delayed (right_wait p q) q) (delayed_sound (left_wait p q) p sound) (delayed_sound (right_wait p q) q sound') (omega arith)

in_step_sound : (p q : Figures) → IsSound p → IsSound q → IsSound (in_step p q)
in_step_sound p q sound sound' = record {
  tuples_last = omega arith;
  end_last = omega arith;
  tuples = sound.tuples;
  some = sound.some;
  tuples_gap = omega arith;
  end_gap = omega arith;
  gaps = omega arith;
}

at_end_sound : (p q : Figures) → IsSound p → IsSound q → IsSound (at_end p q)
at_end_sound p q sound sound' = record {
  tuples_last = omega arith;
  end_last = omega arith;
  tuples = omega arith;
  some = omega arith;
  tuples_gap = omega arith;
  end_gap = omega arith;
  gaps = omega arith;
}

pub joined_sound : (p q : Figures) → IsSound p → IsSound q → IsSound (joined p q)
joined_sound p q sound sound' =
    elim (is_fixed p && is_fixed q) as (λ b. IsSound (cond b (in_step p q) (at_end p q))) [
      | true ↦ in_step_sound p q sound sound'
      | false ↦ at_end_sound p q sound sound'
    ]

pub spacer_sound : (gap : ℕ) (f : Figures) → 1 ≤ gap → IsSound f → IsSound (spacer_figures gap f)
spacer_sound gap f some sound =
    let product : (f.nt - 1) * gap ≤ f.ne * gap = mul-le-mul_right gap (omega (arith, sound.tuples)) in
    let within = last_of-within f.nt (f.a + 1) (f.lt + 1 + (f.nt - 1) * gap) 0 (f.le + 1 + f.ne * gap)
    (omega arith) (omega arith) (λ some. omega arith) (omega arith) in
    record {
      tuples_last = within.0;
      end_last = within.1;
      tuples = sound.tuples;
      some = sound.some;
      tuples_gap = omega arith;
      end_gap = omega arith;
      gaps = omega arith;
    }

pub spaced_sound : (gap : ℕ) (f : Figures) → IsSound f → IsSound (spaced gap f)
spaced_sound gap f sound =
    by_cases (needs_spacer gap f)
    (λ e.
    let more : 1 < gap = ltb-true 1 gap (and_left (nat_lt 1 gap) (nat_lt f.a f.le) e) in
    rw e (spacer_sound gap f (omega arith) sound))
    (λ e. rw e sound)

pub windows_sound : (copies : ℕ) (f s : Figures) → 1 ≤ copies → IsSound f → IsSound s → IsSound (windows_over copies f s)
windows_sound copies f s some sound sound' =
    let least = last_of-least (f.nt * s.ne) (f.a + s.a + 2) (f.lt + s.le + 2) (omega arith) in
    let most = last_of-most (f.nt * s.ne) (f.a + s.a + 2) (f.lt + s.le + 2) (omega arith) in
    record {
      tuples_last = least;
      end_last = omega arith;
      tuples = mul-le-mul_right s.ne (omega arith);
      some = mul-pos (omega arith) sound'.some;
      tuples_gap = omega arith;
      end_gap = omega arith;
      gaps = omega arith;
    }

pub groups_sound : (groups : ℕ) (f s : Figures) → 1 ≤ groups → IsSound f → IsSound s → IsSound (groups_over groups f s)
groups_sound groups f s some sound sound' = record {
  tuples_last = omega arith;
  end_last = omega arith;
  tuples = omega arith;
  some = mul-pos some sound'.some;
  tuples_gap = omega arith;
  end_gap = omega arith;
  gaps = omega arith;
}

pub partitions_sound : (copies : ℕ) (f s : Figures) → 1 ≤ copies → IsSound f → IsSound s → IsSound (partitions_over copies f s)
partitions_sound copies f s some sound sound' =
    let least = last_of-least (f.nt * s.ne) (f.a + s.a + 2) (f.lt + s.le + 2) (omega arith) in
    let most = last_of-most (f.nt * s.ne) (f.a + s.a + 2) (f.lt + s.le + 2) (omega arith) in
    record {
      tuples_last = least;
      end_last = omega arith;
      tuples = mul-le-mul_right s.ne (omega arith);
      some = mul-pos (omega arith) sound'.some;
      tuples_gap = omega arith;
      end_gap = omega arith;
      gaps = omega arith;
    }
