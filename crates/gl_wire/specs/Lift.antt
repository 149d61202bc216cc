-- Visits of copies, and what the copies give together: the law of lifting.
-- A visit is one stream that a copy takes.
use Rattle.std.specs.Prelude.{◌≡◌, ℕ, zero, suc, ◌+◌, ◌-◌, ◌<◌, ◌≤◌, List, [], ◌∷◌, ◌++◌, length, Option, Some, None, Bool, true, false}
use Rattle.gl_algebra.specs.declared.figures.Figures.{Figures}
use Rattle.gl_values.specs.Results.{Row}
use Rattle.gl_wire.specs.Beats.{Spaced, Ends, beats_of}
use Rattle.gl_wire.specs.Wire.{Carried, stream, rows}
use Rattle.gl_wire.specs.Spills.{Relation, Lines}

-- which copy takes an end in a cycle; the order of the cycles is the order of the visits
abbrev pub Visits : Type 0
Visits = ℕ → Option ℕ

-- a front schedules visits: each end on a copy's wire is that of a visit, the ends of two visits are at least as far
-- apart as an interval of the body is long, and each copy's wire is spaced by the body's figures
pub record Schedules (f : Figures) (count : ℕ) (who : Visits) (ins : ℕ → Carried) : Type 0 where
  pub copies : (c k : ℕ) → who c ≡ Some k → k < count
  pub ends : (c k : ℕ) → who c ≡ Some k → (ins k).ends c ≡ true
  pub no_other : (c k : ℕ) → k < count → (ins k).ends c ≡ true → who c ≡ Some k
  pub apart : (c d k l : ℕ) → who c ≡ Some k → who d ≡ Some l → c < d → c + (f.le + 1) ≤ d + f.a
  pub spaced : (k : ℕ) → k < count → Spaced f (beats_of (ins k))

-- the first tuple that one of these copies carries
abbrev pub first_of : Option Row → Option Row → Option Row
first_of None p = p
first_of (Some r) p = Some r

-- the tuple that one of the copies carries
abbrev pub tuple_of_any : (ℕ → Carried) → ℕ → ℕ → Option Row
tuple_of_any outs zero c = None
tuple_of_any outs (suc k) c = first_of (tuple_of_any outs k c) ((outs k).tuple c)

-- all copies' tuples, as those of one wire without ends
abbrev pub all_of : (ℕ → Carried) → ℕ → Carried
all_of outs count = record { tuple = tuple_of_any outs count; ends = λ c. false }

-- what the copies give: each visit's rows in its own interval, and nothing else
pub record Lifted (f : Figures) (means : ℕ → List Row → List Row → Type 0) (count : ℕ) (who : Visits)
    (ins outs : ℕ → Carried) : Type 0 where
  -- a copy's tuple comes in the interval of one of its visits
  pub near : (k c : ℕ) (r : Row) → k < count → (outs k).tuple c ≡ Some r → (u : ℕ) × (who u ≡ Some k) × (u + f.a ≤ c)
      × (c ≤ u + f.le)
  -- no two copies carry a tuple in one cycle
  pub alone : (k l c : ℕ) (r q : Row) → k < count → l < count → (outs k).tuple c ≡ Some r → (outs l).tuple c ≡ Some q
      → k ≡ l
  -- the tuples of a visit's interval are right for its stream
  pub visit : (u k : ℕ) → who u ≡ Some k → means u (stream (ins k) u)
      (rows (all_of outs count) (u + f.a) (suc f.le - f.a))
  -- and not too many
  pub few : (u k : ℕ) → who u ≡ Some k → length (rows (all_of outs count) (u + f.a) (suc f.le - f.a)) ≤ f.ne

-- a visit, where one ends, before the rest
abbrev pub with_visit : Option ℕ → ℕ → (ℕ → List Row) → List (ℕ × List Row) → List (ℕ × List Row)
with_visit None c of rest = rest
with_visit (Some k) c of rest = (c, of k) ∷ rest

-- the cycles and streams of the visits that end in n cycles from this one on
abbrev pub visits : Visits → (ℕ → Carried) → ℕ → ℕ → List (ℕ × List Row)
visits who ins c zero = []
visits who ins c (suc n) = with_visit (who c) c (λ k. stream (ins k) c) (visits who ins (suc c) n)

-- a result for each list of rows, joined in order
abbrev pub Joined : (ℕ → List Row → List Row → Type 0) → List (ℕ × List Row) → List Row → Type 0
Joined means [] ys = ys ≡ []
Joined means (v ∷ vs) ys =
    (zs : List Row) × (ws : List Row) × (means v.0 v.1 zs) × (Joined means vs ws) × (ys ≡ zs ++ ws)

-- the same with a choice of spill for each visit, and with the copies' lines; what is right may depend on the visit's
-- cycle
pub record LiftedWithLines (f : Figures) (m : ℕ → Relation) (count : ℕ) (who : Visits) (lines : ℕ → Lines)
    (ins outs : ℕ → Carried) : Type 0 where
  pub spill : ℕ → Bool
  pub lifted : Lifted f (λ u xs ys. m u xs ys (spill u)) count who ins outs
  -- no queue of a copy is passed
  pub low : (k c : ℕ) → k < count → (lines k).passed c ≡ false
  -- where every visit has ended, a spill is told by a copy's line, and only then does one tell
  pub told : ((k : ℕ) → k < count → Ends (beats_of (ins k))) → (u k : ℕ) → who u ≡ Some k → spill u ≡ true → (l : ℕ)
      × (c : ℕ) × (l < count) × ((lines l).further c ≡ true)
  pub so : ((k : ℕ) → k < count → Ends (beats_of (ins k))) → (k c : ℕ) → k < count → (lines k).further c ≡ true
      → (u : ℕ) × (who u ≡ Some k) × (spill u ≡ true)
  -- and it tells before the interval of the copy's last visit is over
  pub late : ((k : ℕ) → k < count → Ends (beats_of (ins k))) → (k c : ℕ) → k < count → (lines k).further c ≡ true
      → (u : ℕ) × (who u ≡ Some k) × (c ≤ u + f.le)
