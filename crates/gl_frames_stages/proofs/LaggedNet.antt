-- A value that may be absent, in registers, and as a word that is 0 where it is absent.
use Rattle.std.proofs.Common.{◌≡◌, ℕ, suc, ◌+◌, List, Option, Some, None, Bool, true, false, refl, ap, ◌∙◌, arith}
use Rattle.std.specs.Prelude.{if◌then◌else◌}
use Rattle.gl_net.specs.Net.{Run}
use Rattle.gl_wire.specs.Wire.{line_at}
use Rattle.gl_frames.specs.Frames.{number_or}
use Rattle.gl_frames_stages.specs.Columns.{Tells, column_of}
use Rattle.gl_frames_stages.specs.LaggedNets.{maybe_at}
use Rattle.gl_frames_stages.specs.Laws.{itself}
use Rattle.gl_frames_stages.specs.declared.lagged.Maybe.{Maybe}
use Rattle.gl_frames_stages.specs.declared.lines.Lines.{Lines}

pub maybe_later : {B : Type 0} (run : Run) (lines : Lines) (of : List B → Option ℕ) (row : ℕ → B) (found late : Maybe)
    → ((c : ℕ) → line_at run lines.valid (suc c) ≡ true → maybe_at run found (suc c) ≡ of (column_of run lines row (suc c)))
    → ((t : ℕ) → line_at run late.some (suc t) ≡ line_at run found.some t)
    → ((t : ℕ) → run.at (suc (suc t)) late.word.node ≡ run.at (suc t) found.word.node)
    → Tells run lines 1 of row (maybe_at run late)
maybe_later run lines of row found late h bit bus c v =
    let e : suc c + 1 ≡ suc (suc c) = omega arith in
    ap (maybe_at run late) e
    ∙ ap (λ (s : Bool). if s then Some (run.at (suc (suc c)) late.word.node) else None) (bit (suc c))
    ∙ ap (λ (x : ℕ). if line_at run found.some (suc c) then Some x else None) (bus c) ∙ h c v

-- a choice of it or 0
pub none_is : (b : Bool) (x : ℕ) → (if b then x else 0) ≡ number_or itself (if b then Some x else None)
none_is true x = refl
none_is false x = refl
