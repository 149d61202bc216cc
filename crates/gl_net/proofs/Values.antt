-- What buses, bits and memories carry in a run, and what choices and memories give for known values.
use Rattle.std.proofs.Common.{◌≡◌, ℕ, ◌<◌, ◌^◌, Some, refl, subst}
use Rattle.std.specs.Prelude.{slice_get}
use Rattle.std.proofs.Common.{eq-eqb}
use Rattle.gl_net.specs.declared.node.Bus.{Bus}
use Rattle.gl_net.specs.declared.node.Bit.{Bit}
use Rattle.gl_net.specs.Net.{Net, Run, IsRun, Shape, Fits, shape_in, IsBus, IsBit, stored_of}
use Rattle.gl_net.proofs.Growth.{shape_there}

there_fits : (net : Net) (n : ℕ) (s : Shape) (run : Run) → shape_in net.nodes n ≡ Some s → IsRun net run → Fits run n s
unfolding shape_in
there_fits net n s run h r = let x = shape_there (slice_get net.nodes n) s h in subst (Fits run n) x.2 (r.trace.fits n x.0 x.1)

-- what a bus carries is below 2 ^ width
pub bus_fits : (net : Net) (b : Bus) (run : Run) → IsBus net b → IsRun net run → (t : ℕ) → run.at t b.node < 2 ^ b.width
bus_fits net b run i r = there_fits net b.node _ run i.there r

-- what a bit carries is 0 or 1
pub bit_fits : (net : Net) (b : Bit) (run : Run) → IsBit net b → IsRun net run → (t : ℕ) → run.at t b.node < 2
bit_fits net b run i r = there_fits net b.node _ run i.there r

-- a memory holds what was written to the address
pub stored_now : (write address value k word : ℕ) → write ≡ 1 → address ≡ k → stored_of write address value k word ≡ value
unfolding stored_of
stored_now write address value k word w a = let e = eq-eqb write 1 w in let f = eq-eqb address k a in rw (e, f) refl
