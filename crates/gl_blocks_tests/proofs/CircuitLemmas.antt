-- A netlist with two columns at its ports, and a block behind them, can be finished.
use Rattle.std.proofs.Common.{◌≡◌, ◌≢◌, ℕ, ◌<◌, List, [], ◌∷◌, ◌++◌, length, Some, refl, sym, ap, ◌∙◌, arith, rules}
use Rattle.std.specs.Prelude.{codes, slice_index_or}
use Rattle.std.proofs.lemmas.List.{length-map}
use Rattle.std.proofs.lemmas.Option.{slice_get-get_or}
use Rattle.gl_net.specs.declared.node.Bit.{Bit}
use Rattle.gl_net.specs.declared.node.Bus.{Bus}
use Rattle.gl_net.specs.declared.node.Port.{Port}
use Rattle.gl_net.specs.Finished.{IsFinished, IsName, clock_name}
use Rattle.gl_net.specs.Net.{Net, Shape, Value, IsBit, IsBus, Keeps, open_at, shape_in}
use Rattle.gl_net.proofs.Names.{differ, each_known, own_known}
use Rattle.gl_wire.specs.declared.emitted.Emitted.{Emitted}
use Rattle.gl_blocks_tests.specs.Circuits.{IsSourceOf}

pub five_ports : (z a b c d e : List Port) (p q r s t : Port) → e ≡ d ++ t ∷ [] → d ≡ c ++ s ∷ [] → c ≡ b ++ r ∷ [] → b ≡ a ++ q ∷ [] → a ≡ z ++ p ∷ [] → z ≡ []
    → e ≡ p ∷ q ∷ r ∷ s ∷ t ∷ []
five_ports z a b c d e p q r s t f g h i j k = rw (f, g, h, i, j, k) refl

abbrev pub Stay : Net → Net → Type 0
Stay old new = (n : ℕ) (s : Shape) → shape_in old.nodes n ≡ Some s → shape_in new.nodes n ≡ Some s

pub bit_stays : (old new : Net) (b : Bus) (bit : Bit) → Stay old new → IsBus old b → b.width ≡ 1 → bit.node ≡ b.node → IsBit new bit
bit_stays old new b bit stay i wide same = record { there = ap (shape_in new.nodes) same ∙ stay b.node (Value b.width) i.there ∙ ap (λ (w : ℕ). Some (Value w)) wide }

pub bus_stays : (old new : Net) (b : Bus) → Stay old new → IsBus old b → IsBus new b
bus_stays old new b stay i = record { there = stay b.node (Value b.width) i.there; width = i.width }

pub can_finish : (old mid new : Net) (first second : ℕ) (e : Emitted) → IsSourceOf old first second e → Keeps old mid → new.ports ≡ mid.ports
    → new.name ≡ Some (codes "tested") → ((n : ℕ) → open_at new n ≡ open_at mid n) → Stay mid new → IsFinished new
can_finish old mid new first second e s keeps same_ports name open_stays stay =
    let ports = same_ports ∙ keeps.ports ∙ s.ports in
    record {
      driven = λ n. open_stays n ∙ keeps.undriven n ∙ s.undriven n;
      module_name = rw name (record { first = search rules; each = search rules; short = search rules; free = search rules });
      port_names = λ k p h. each_known (λ p. IsName p.name) _ _ ports (
        record { first = search rules; each = search rules; short = search rules; free = search rules },
        (
          record { first = search rules; each = search rules; short = search rules; free = search rules },
          (
            record { first = search rules; each = search rules; short = search rules; free = search rules },
            (
              record { first = search rules; each = search rules; short = search rules; free = search rules },
              (record { first = search rules; each = search rules; short = search rules; free = search rules }, tt),
            ),
          ),
        ),
      ) k p h;
      no_clock = λ k p h. each_known (λ p. p.name ≢ clock_name) _ _ ports
          (differ _ _ refl, (differ _ _ refl, (differ _ _ refl, (differ _ _ refl, (differ _ _ refl, tt))))) k p h;
      distinct = λ i j p q h k. own_known _ _ ports (
        (differ _ _ refl, (differ _ _ refl, (differ _ _ refl, (differ _ _ refl, tt)))),
        (
          (differ _ _ refl, (differ _ _ refl, (differ _ _ refl, tt))),
          ((differ _ _ refl, (differ _ _ refl, tt)), ((differ _ _ refl, tt), (tt, tt))),
        ),
      ) i j p q h k;
      reset = λ _. record { node = s.rst; port = record { place = 0; there = rw ports refl }; bit = stay _ _ (keeps.shapes _ _ s.reset) };
    }

-- a column is a bus
pub column_is : (net : Net) (first second : ℕ) (e : Emitted) (k : ℕ) → IsSourceOf net first second e → k < 2
    → IsBus net (slice_index_or e.wire.columns k (record { node = 0; width = 0 }))
column_is net first second e k s lt =
    let none : Bus = record { node = 0; width = 0 } in
    let two : length e.wire.columns ≡ 2 = sym (length-map e.wire.columns (λ (b : Bus). b.width)) ∙ ap length s.same_widths in
    s.wire.columns.each k (slice_index_or e.wire.columns k none) (slice_get-get_or e.wire.columns k none (let within : k < length e.wire.columns = omega arith in within))
