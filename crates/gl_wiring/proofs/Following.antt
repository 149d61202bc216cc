-- What the pins of a stimulus put on the ports of a netlist.
use Rattle.std.proofs.Common.{◌≡◌, ℕ, zero, suc, Bool, true, false, List, [], ◌∷◌, Option, Some, None, refl, subst}
use Rattle.std.specs.Prelude.{option_and_then, unwrap_or, IfSome, slice_get, ◌==◌}
use Rattle.std.specs.List.{AllByRecursion}
use Rattle.std.specs.Option.{option_map_or}
use Rattle.gl_bits.proofs.Options.{some_same}
use Rattle.gl_bits.proofs.AllLists.{all_front, all_back}
use Rattle.gl_bits.specs.Words.{bit}
use Rattle.gl_schema.specs.declared.schema.Stream.{Stream}
use Rattle.gl_schema.specs.Beats.{Beat, row_in, beat_at, rows_at}
use Rattle.gl_schema.specs.Ports.{PortValues, Pin, pin, stream_pins, streams_pins}
use Rattle.gl_schema.specs.Seen.{value_at}
use Rattle.gl_wiring.specs.Bringing.{row_at}
use Rattle.gl_wiring.specs.Emitted.{HasPort}

-- the pin's value is that of the port, where the module has it
abbrev pub Carries : PortValues → ℕ → Pin → Type 0
Carries port t p = IfSome (port t p.name) (λ v. v ≡ p.value)

-- a port that the module has carries its pin's value
pub carried : (port : PortValues) (t : ℕ) (name : List ℕ) (v : ℕ) → HasPort port name → Carries port t (pin name v) → value_at port t name ≡ v
carried port t name v has h =
    let e : port t name ≡ Some (has t).0 = (has t).1 in
    let g : (has t).0 ≡ v = rw e at h in
    rw e g

-- the pins of stream k
pub stream_at : (P : Pin → Type 0) (ss : List Stream) (rows : List (Option (List ℕ))) (k : ℕ) (s : Stream) → slice_get ss k ≡ Some s → AllByRecursion P (streams_pins ss rows) → AllByRecursion P (stream_pins s (unwrap_or (slice_get rows k) None))
stream_at P [] rows k s there h = absurd cc
stream_at P (s ∷ ss) [] zero r there h = subst (λ x. AllByRecursion P (stream_pins x None)) (some_same s r there) (all_front P (stream_pins s None) (streams_pins ss []) h)
stream_at P (s ∷ ss) [] (suc k) r there h = stream_at P ss [] k r there (all_back P (stream_pins s None) (streams_pins ss []) h)
stream_at P (s ∷ ss) (row ∷ rows) zero r there h = subst (λ x. AllByRecursion P (stream_pins x row)) (some_same s r there) (all_front P (stream_pins s row) (streams_pins ss rows) h)
stream_at P (s ∷ ss) (row ∷ rows) (suc k) r there h = stream_at P ss rows k r there (all_back P (stream_pins s row) (streams_pins ss rows) h)

row_by : (k : ℕ) (o : Option Beat) → unwrap_or (slice_get (option_map_or (λ (b : Beat). b.rows) o []) k) None ≡ option_and_then (row_in k) o
row_by k None = refl
row_by k (Some b) = refl

pub row_of-beat : (k : ℕ) (beats : List Beat) (n : ℕ) → unwrap_or (slice_get (rows_at beats n) k) None ≡ row_at k beats n
row_of-beat k beats n = row_by k (beat_at beats n)

pub bit_high : (b : Bool) → (bit b == 1) ≡ b
bit_high true = refl
bit_high false = refl
