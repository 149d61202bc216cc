-- A register that takes what passes, and begins anew behind each end, holds the last value that passes.
use Rattle.std.proofs.Common.{◌≡◌, ℕ, suc, ◌+◌, List, ◌++◌, Option, None, Bool, true, false, sym, ap, ◌∙◌, arith}
use Rattle.std.specs.Prelude.{◌&&◌, if◌then◌else◌}
use Rattle.gl_net.specs.declared.node.Bit.{Bit}
use Rattle.gl_net.specs.Net.{Run}
use Rattle.gl_wire.specs.Wire.{line_at}
use Rattle.gl_wire.proofs.StageLemmas.{line_first}
use Rattle.gl_wire_lanes.specs.Keeping.{IsKept, IsRegister}
use Rattle.gl_wire_lanes.proofs.SingleLemmas.{one_is_single, register_is_kept}
use Rattle.gl_frames.specs.Frames.{last_value_of}
use Rattle.gl_frames.proofs.LastLemmas.{last_values_own, last_values_stay}
use Rattle.gl_frames_wire.specs.CountNets.{column_past, streams_by}
use Rattle.gl_frames_wire.specs.Laws.{IsMadeOf}
use Rattle.gl_frames_wire.specs.Since.{Opens, own_ends, rows_past}
use Rattle.gl_frames_wire.proofs.CountNet.{opens_own}
use Rattle.gl_frames_wire.proofs.RingLemmas.{one_in}
use Rattle.gl_frames_wire.proofs.SinceLemmas.{slots_are}
use Rattle.gl_frames_stages.specs.Columns.{Tells, column_of}
use Rattle.gl_frames_stages.specs.declared.lines.Lines.{Lines}

module _ {B : Type 0} (run : Run) (lines : Lines) (takes : Bit) (v : B → ℕ) (p : B → Bool) (row : ℕ → B) (value before now : ℕ → ℕ)
    (anew : IsRegister 0 (line_at run lines.eos) before now)
    (taken : (t : ℕ) → now (suc t) ≡ (if line_at run takes (suc t) then value (suc t) else before (suc t)))
    (line : (t : ℕ) → line_at run takes (suc t) ≡ (line_at run lines.valid (suc t) && p (row (suc t))))
    (is : (t : ℕ) → value (suc t) ≡ v (row (suc t))) where
  stepped : (t : ℕ) → now (suc t) ≡ (if line_at run lines.valid (suc t) && p (row (suc t)) then v (row (suc t)) else before (suc t))
  stepped t =
      taken t ∙ ap (λ (b : Bool). if b then value (suc t) else before (suc t)) (line t)
      ∙ ap (λ (n : ℕ). if line_at run lines.valid (suc t) && p (row (suc t)) then n else before (suc t)) (is t)

  stays : (t : ℕ) → line_at run lines.valid (suc t) ≡ false → now (suc t) ≡ before (suc t)
  stays t none = stepped t ∙ ap (λ (b : Bool). if b && p (row (suc t)) then v (row (suc t)) else before (suc t)) none

  kept : IsKept 0 (streams_by run lines.valid lines.eos) before now
  kept = register_is_kept 0 (line_at run lines.valid) (line_at run lines.eos) before now anew stays

  opens : Opens (own_ends (streams_by run lines.valid lines.eos)) (streams_by run lines.valid lines.eos)
  opens = opens_own (streams_by run lines.valid lines.eos) (one_is_single (line_at run lines.valid) (line_at run lines.eos) (line_first run lines.valid) (line_first run lines.eos)).begins

  goes_on : (d : ℕ) → line_at run lines.valid (suc d) ≡ true
      → before (suc d) ≡ last_value_of v None p (rows_past (own_ends (streams_by run lines.valid lines.eos)) (streams_by run lines.valid lines.eos) row (suc d))
      → now (suc d) ≡ last_value_of v None p (column_of run lines row (suc d))
  goes_on d w e =
      let xs : List B = rows_past (own_ends (streams_by run lines.valid lines.eos)) (streams_by run lines.valid lines.eos) row (suc d) in
      let x : B = row (suc d) in
      stepped d ∙ ap (λ (b : Bool). if b && p x then v x else before (suc d)) w
      ∙ ap (λ (n : ℕ). if p x then v x else n) e
      ∙ sym (last_values_stay v p xs x)
      ∙ ap (λ own. last_value_of v None p (xs ++ own)) (sym (one_in (line_at run lines.valid (suc d)) x w))

  pub lasting : (c : ℕ) → line_at run lines.valid (suc c) ≡ true
      → IsMadeOf (last_value_of v None p) (own_ends (streams_by run lines.valid lines.eos)) (streams_by run lines.valid lines.eos) row before now (suc c)
  lasting c w =
      slots_are (last_value_of v None p) (own_ends (streams_by run lines.valid lines.eos)) (streams_by run lines.valid lines.eos) row before now
      opens kept (record { with_row = goes_on; without = stays }) c w

  pub last_told : Tells run lines 0 (last_value_of v None p) row now
  last_told c w = let e : suc c + 0 ≡ suc c = omega arith in ap now e ∙ (lasting c w).here

-- without a FILTER the last value of any frame is that of the row
pub own_value : {B : Type 0} (run : Run) (lines : Lines) (v : B → ℕ) (back : Option ℕ) (row : ℕ → B) (value : ℕ → ℕ) → ((t : ℕ) → value (suc t) ≡ v (row (suc t)))
    → Tells run lines 0 (last_value_of v back (λ r. true)) row value
own_value run lines v back row value is c w =
    let e : suc c + 0 ≡ suc c = omega arith in
    ap value e ∙ is c ∙ sym (last_values_own v back (column_past run lines.valid lines.eos row (suc c)) (row (suc c)))
    ∙ ap (λ own. last_value_of v back (λ r. true) (column_past run lines.valid lines.eos row (suc c) ++ own)) (sym (one_in (line_at run lines.valid (suc c)) (row (suc c)) w))
