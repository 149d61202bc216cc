-- What comes and what leaves, as what a column tells, and the change by both.
use Rattle.std.proofs.Common.{◌≡◌, ℕ, suc, ◌+◌, ◌%◌, ◌^◌, ◌<◌, List, ◌++◌, Option, Some, true, sym, ap, ◌∙◌, arith}
use Rattle.std.specs.Prelude.{if◌then◌else◌}
use Rattle.std.proofs.Math.Nat.{mod-eq_of_lt}
use Rattle.gl_bits.specs.Words.{difference_of}
use Rattle.gl_net.specs.declared.node.Bus.{Bus}
use Rattle.gl_net.specs.Net.{Run}
use Rattle.gl_wire.specs.Wire.{line_at}
use Rattle.gl_frames.specs.Frames.{lag_of, number_or, row_before}
use Rattle.gl_frames.proofs.LastLemmas.{ends_with}
use Rattle.gl_frames_wire.specs.CountNets.{streams_by}
use Rattle.gl_frames_wire.specs.Since.{own_ends, rows_since}
use Rattle.gl_frames_wire.proofs.RingLemmas.{one_in}
use Rattle.gl_frames_stages.specs.Columns.{Tells, carried_by, column_of}
use Rattle.gl_frames_stages.specs.LaggedNets.{maybe_at}
use Rattle.gl_frames_stages.specs.Laws.{itself}
use Rattle.gl_frames_stages.specs.declared.lagged.Maybe.{Maybe}
use Rattle.gl_frames_stages.specs.declared.lines.Lines.{Lines}
use Rattle.gl_frames_stages.proofs.LaggedNet.{none_is}

pub told_or_none : {B : Type 0} (run : Run) (lines : Lines) (of : List B → Option ℕ) (row : ℕ → B) (x : Maybe) (out : Bus)
    → Tells run lines 1 of row (maybe_at run x)
    → ((t : ℕ) → run.at (suc t) out.node ≡ (if line_at run x.some (suc t) then run.at (suc t) x.word.node else 0))
    → Tells run lines 1 (λ xs. number_or itself (of xs)) row (carried_by run out)
told_or_none run lines of row x out h is c v =
    let e : suc c + 1 ≡ suc (suc c) = omega arith in
    ap (carried_by run out) e ∙ is (suc c) ∙ none_is (line_at run x.some (suc (suc c))) (run.at (suc (suc c)) x.word.node)
    ∙ ap (λ t. number_or itself (maybe_at run x t)) (sym e) ∙ ap (number_or itself) (h c v)

-- the row of a cycle is the last one so far
pub last_row : {B : Type 0} (run : Run) (lines : Lines) (row : ℕ → B) (c : ℕ) → line_at run lines.valid (suc c) ≡ true
    → row_before 0 (column_of run lines row (suc c)) ≡ Some (row (suc c))
last_row run lines row c v =
    ap (λ mine. row_before 0 (rows_since (own_ends (streams_by run lines.valid lines.eos)) (streams_by run lines.valid lines.eos) row 0 (suc c) ++ mine))
    (one_in (line_at run lines.valid (suc c)) (row (suc c)) v)
    ∙ ends_with (rows_since (own_ends (streams_by run lines.valid lines.eos)) (streams_by run lines.valid lines.eos) row 0 (suc c)) (row (suc c))

-- a column tells its own last value
pub own_told : (run : Run) (lines : Lines) (value own : ℕ → ℕ) → ((t : ℕ) → own (suc (suc t)) ≡ value (suc t)) → Tells run lines 1 (lag_of itself 0) value own
own_told run lines value own is c v =
    let e : suc c + 1 ≡ suc (suc c) = omega arith in
    ap own e ∙ is c ∙ sym (ap (number_or itself) (last_row run lines value c v))

-- what is made of two columns that tell something of a third
pub both_told : {B : Type 0} (run : Run) (lines : Lines) (m : ℕ) (f g : List B → ℕ) (row : ℕ → B) (x y out : ℕ → ℕ) (op : ℕ → ℕ → ℕ)
    → ((t : ℕ) → out (suc (suc t)) ≡ op (x (suc t)) (y (suc t))) → Tells run lines m f row x → Tells run lines m g row y
    → Tells run lines (m + 1) (λ xs. op (f xs) (g xs)) row out
both_told run lines m f g row x y out op is h i c v =
    let e : suc c + (m + 1) ≡ suc (suc (c + m)) = omega arith in
    let d : suc (c + m) ≡ suc c + m = omega arith in
    ap out e ∙ is (c + m) ∙ ap (λ n. op n (y (suc (c + m)))) (ap x d ∙ h c v) ∙ ap (op (f (column_of run lines row (suc c)))) (ap y d ∙ i c v)

-- the change of what fits, by the rests that both are
pub rests_change : (w : ℕ) (run : Run) (own gone out : Bus) → ((t : ℕ) → run.at t own.node < 2 ^ w) → ((t : ℕ) → run.at t gone.node < 2 ^ w)
    → ((t : ℕ) → run.at (suc (suc t)) out.node ≡ difference_of w (run.at (suc t) own.node) (run.at (suc t) gone.node))
    → (t : ℕ) → run.at (suc (suc t)) out.node ≡ difference_of w (run.at (suc t) own.node % 2 ^ w) (run.at (suc t) gone.node % 2 ^ w)
rests_change w run own gone out one two is t =
    is t ∙ ap (λ n. difference_of w n (run.at (suc t) gone.node)) (sym (mod-eq_of_lt (one (suc t))))
    ∙ ap (difference_of w (run.at (suc t) own.node % 2 ^ w)) (sym (mod-eq_of_lt (two (suc t))))
