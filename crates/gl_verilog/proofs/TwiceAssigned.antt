-- The register that two blocks assign takes the value of the update that happens last.
use Rattle.std.proofs.Common.{[], ◌∷◌, refl}
use Rattle.std.proofs.lemmas.Nat.{pow_pos}
use Rattle.gl_verilog.specs.Events.{State, Executes, Puts, Schedule, no_steps, a_step, happens, releases, at_edge, happened, with_active}
use Rattle.gl_verilog.specs.Laws.{Rests}
use Rattle.gl_verilog.specs.Races.{Races, twice_assigned}

abbrev before : State
before = record { nets = λ n. 0; words = λ k at. 0; active = []; waiting = [] }

abbrev edge : State
edge = at_edge twice_assigned before

-- the blocks are executed in the order of the text, and both updates are released
abbrev executed : State
executed = happened twice_assigned (with_active edge (Executes 1 ∷ [])) (Executes 0)

abbrev all_executed : State
all_executed = happened twice_assigned (with_active executed []) (Executes 1)

abbrev released : State
released = record all_executed { active = all_executed.waiting; waiting = [] }

-- the update of the first block happens before the other's, or behind it
abbrev first_put : State
first_put = happened twice_assigned (with_active released (Puts 0 1 ∷ [])) (Puts 0 0)

abbrev second_last : State
second_last = happened twice_assigned (with_active first_put []) (Puts 0 1)

abbrev second_put : State
second_put = happened twice_assigned (with_active released (Puts 0 0 ∷ [])) (Puts 0 1)

abbrev first_last : State
first_last = happened twice_assigned (with_active second_put []) (Puts 0 0)

to_release : (last : State) → Schedule twice_assigned released last → Schedule twice_assigned edge last
to_release last rest =
    a_step edge executed last (happens edge [] (Executes 1 ∷ []) (Executes 0) refl)
    (a_step executed all_executed last (happens executed [] [] (Executes 1) refl)
    (a_step all_executed released last (releases all_executed refl (λ e. absurd cc)) rest))

in_order : Rests twice_assigned edge
in_order = record {
  last = second_last;
  steps = to_release second_last
      (a_step released first_put second_last (happens released [] (Puts 0 1 ∷ []) (Puts 0 0) refl)
      (a_step first_put second_last second_last (happens first_put [] [] (Puts 0 1) refl) (no_steps second_last)));
  rest = record { still = refl; empty = refl };
}

turned : Rests twice_assigned edge
turned = record {
  last = first_last;
  steps = to_release first_last
      (a_step released second_put first_last (happens released (Puts 0 0 ∷ []) [] (Puts 0 1) refl)
      (a_step second_put first_last first_last (happens second_put [] [] (Puts 0 0) refl) (no_steps first_last)));
  rest = record { still = refl; empty = refl };
}

pub twice_assigned_races : Races twice_assigned
unfolding in_order turned
twice_assigned_races = record {
  before = before;
  stands = record {
    fits = λ n d e. (pow_pos d.width, λ at. pow_pos d.width);
    rest = record { still = refl; empty = refl };
    settled = tt;
  };
  one = in_order;
  other = turned;
  net = 0;
  differ = λ e. absurd cc;
}
