-- What a block of operators promises: that its output wire carries results in time. It is the latency and the issue
-- rate by which Mueller, Teubner and Alonso, PVLDB 2(1), 2009, judge circuits, for many streams in a row.
use Rattle.std.specs.Prelude.{◌≡◌, ℕ, suc, ◌+◌, ◌-◌, ◌<◌, ◌≤◌, List, length, Some, None, Bool, true}
use Rattle.gl_algebra.specs.declared.figures.Figures.{Figures}
use Rattle.gl_values.specs.Results.{Row}
use Rattle.gl_wire.specs.Beats.{Beats, last, most, Spaced}
use Rattle.gl_wire.specs.Wire.{Carried, stream, rows}

-- an end in the interval of the beat t
pub record HasEnd (f : Figures) (s : Carried) (t at : ℕ) : Type 0 where
  pub is : s.ends at ≡ true
  pub low : t + f.a ≤ at
  pub high : at ≤ t + f.le

-- exactly one end in the interval, and no tuple of the interval after it
pub record OneEnd (f : Figures) (s : Carried) (t : ℕ) : Type 0 where
  pub at : ℕ
  pub here : HasEnd f s t at
  pub only : (c : ℕ) → HasEnd f s t c → c ≡ at
  pub after : (c : ℕ) → at < c → c ≤ t + f.le → s.tuple c ≡ None

-- this cycle lies in the interval of a beat
pub record Caused (f : Figures) (beats : Beats) (c : ℕ) : Type 0 where
  pub beat : ℕ
  pub end : Bool
  pub is : beats beat ≡ Some end
  pub low : beat + f.a ≤ c
  pub high : c ≤ beat + last f end

-- this cycle lies in the interval of a beat with the end
pub record EndCaused (f : Figures) (beats : Beats) (c : ℕ) : Type 0 where
  pub beat : ℕ
  pub is : beats beat ≡ Some true
  pub low : beat + f.a ≤ c
  pub high : c ≤ beat + f.le

-- a wire fits its figures: each tuple and end in the interval of a beat, not too many tuples in one, one end for each
-- beat with the end
pub record Fits (f : Figures) (beats : Beats) (s : Carried) : Type 0 where
  pub tuples : (c : ℕ) (r : Row) → s.tuple c ≡ Some r → Caused f beats c
  pub ends : (c : ℕ) → s.ends c ≡ true → EndCaused f beats c
  pub few : (t : ℕ) (e : Bool) → beats t ≡ Some e → length (rows s (t + f.a) (suc (last f e) - f.a)) ≤ most f e
  pub end : (t : ℕ) → beats t ≡ Some true → OneEnd f s t

-- which lists of rows may come out for those that came in
abbrev pub Meaning : Type 1
Meaning = List Row → List Row → Type 0

-- over these beats, the output fits, each of its streams is right for the input stream of the same beat, and ends no
-- earlier; what is right may depend on the beat
pub record Served (f g : Figures) (means : ℕ → Meaning) (beats : Beats) (a b : Carried) : Type 0 where
  pub fits : Fits g beats b
  pub results : (t d e : ℕ) → beats t ≡ Some true → HasEnd f a t d → HasEnd g b t e → means t (stream a d) (stream b e)
  pub later : (t d e : ℕ) → beats t ≡ Some true → HasEnd f a t d → HasEnd g b t e → d ≤ e

-- a block without lines serves a meaning: over every sequence of streams
abbrev pub Serves : Figures → Figures → Meaning → Carried → Carried → Type 0
Serves f g means a b = (beats : Beats) → Spaced g beats → Fits f beats a → Served f g (λ t. means) beats a b

-- which lists of rows may come out for those that came in on two inputs
abbrev pub Meaning2 : Type 1
Meaning2 = List Row → List Row → List Row → Type 0

-- the law over these beats for a block of two inputs
pub record Served2 (f g k : Figures) (means : ℕ → Meaning2) (beats : Beats) (a b c : Carried) : Type 0 where
  pub fits : Fits k beats c
  pub results : (t d e o : ℕ) → beats t ≡ Some true → HasEnd f a t d → HasEnd g b t e → HasEnd k c t o
      → means t (stream a d) (stream b e) (stream c o)
  pub later : (t d o : ℕ) → beats t ≡ Some true → HasEnd f a t d → HasEnd k c t o → d ≤ o
  pub later2 : (t e o : ℕ) → beats t ≡ Some true → HasEnd g b t e → HasEnd k c t o → e ≤ o
