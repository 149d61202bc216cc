-- How far the changes of a text were read, and how far their lines were written.
use Rattle.std.proofs.Common.{◌≡◌, ℕ, Bool, false, List, [], length, None, Result, Ok, Err, refl, sym, subst, ◌∙◌}
use Rattle.std.specs.Prelude.{IsOk, OnOk, is_err}
use Rattle.gl_outside.specs.States.{SinkState}
use Rattle.gl_vcd.specs.declared.changing.Changing.{Changing}
use Rattle.gl_vcd.specs.declared.fault.VcdFault.{VcdFault}
use Rattle.gl_vcd.specs.declared.outcome.Undump.{Undump}
use Rattle.gl_vcd.specs.declared.outcome.Undump.TheVariants as undump
use Rattle.gl_vcd.specs.declared.stop.Stop.{Stop}
use Rattle.gl_vcd.specs.declared.stop.Stop.TheVariants as stop
use Rattle.gl_vcd.specs.Dumped.{Undumps}
use Rattle.gl_vcd.specs.Lexing.{tokens_behind}
use Rattle.gl_vcd.specs.Reading.{Changes, Closed, Reading, dump_from, dump_of}
use Rattle.gl_vcd.specs.Showings.{ShowsAll, lines_left}
use Rattle.gl_vcd.specs.Signals.{Dump, Signal}
use Rattle.gl_vcd.specs.Standing.{IsBehind, Judged, Keeps, undump_of}
use Rattle.gl_vcd.proofs.OnWay.{IsOnWay}

-- from this place and this reading on, the text was read up to a place
pub record IsReadTo (text : List ℕ) (from : ℕ) (r : Reading) (at : ℕ) (c : Changing) : Type 0 where
  pub read : Reading
  pub keeps : Keeps read c
  pub same : dump_from (length text) (tokens_behind text from) r ≡ dump_from (length text) (tokens_behind text at) read

-- and what was read by then of this dump was shown
pub record IsShownTo (a b : SinkState) (text : List ℕ) (dump : Dump) (told : Bool) (r : Reading) (at : ℕ) (told' : Bool) (c : Changing) : Type 0 where
  pub read : Reading
  pub keeps : Keeps read c
  pub tells : dump_from (length text) (tokens_behind text at) read ≡ Ok dump
  pub way : IsOnWay a b (lines_left told' dump read) (lines_left told dump r)

-- what is said of the case that nothing failed
pub took_part : {A E : Type 0} (P : Type 0) (r : Result A E) → is_err r ≡ false → OnOk r P → P
took_part P (Ok u) fine said = said
took_part P (Err e) fine said = absurd cc

-- ---- the whole

-- behind the declarations of these signals
pub behind_of : List Signal → Reading
behind_of signals = record { stage = Changes; scope = Closed; signals = signals; time = None; changes = [] }

pub is_behind : (signals : List Signal) → IsBehind signals (behind_of signals)
unfolding behind_of
is_behind signals = record { stage' = refl; signals' = refl; time' = refl; changes' = refl }

pub judged_ok : (said : Result Dump VcdFault) (r : Result (Unit {0}) Stop) → ((s : Stop) → r ≡ Err s → ⊥) → Judged said r → IsOk said
judged_ok said (Ok u) fine judged = judged
judged_ok said (Err s) fine judged = absurd (fine s refl)

pub ok_there : (said : Result Dump VcdFault) → IsOk said → (d : Dump) × (said ≡ Ok d)
ok_there (Ok d) ok = (d, refl)
ok_there (Err e) ok = absurd cc

pub err_undumps : (text : List ℕ) (a : SinkState) (said : Result Dump VcdFault) (s : Stop) (u : Undump) → dump_of text ≡ said → Judged said (Err s) → u ≡ undump_of s → Undumps text a a u
err_undumps text a said (stop.Fault fault) u same judged is = subst (Undumps text a a) (sym is) (same ∙ judged, refl)
err_undumps text a said stop.Memory u same judged is = subst (Undumps text a a) (sym is) refl

pub shows_undumps : (text : List ℕ) (dump : Dump) (a b : SinkState) (u : Undump) → dump_of text ≡ Ok dump → ShowsAll dump a b u → Undumps text a b u
shows_undumps text dump a b undump.Done reads shows = record { dump = dump; reads = reads; is = shows }
shows_undumps text dump a b undump.WriteFault reads shows = record { dump = dump; reads = reads; is = shows }
shows_undumps text dump a b undump.Memory reads shows = shows
shows_undumps text dump a b (undump.Fault fault) reads shows = absurd shows
