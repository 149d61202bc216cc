use Rattle.std.proofs.Common.{◌≡◌, ◌≢◌, List, [], ◌∷◌, ◌++◌, refl, ap, ◌∙◌, rules}
use Rattle.gl_net.specs.Net.{Net}
use Rattle.gl_net.specs.declared.node.Port.{Port}
use Rattle.gl_net.specs.Finished.{IsName, clock_name}
use Rattle.gl_net.proofs.Names.{each_known, own_known, differ}
use Rattle.gl_plan_tests.proofs.netlists.mixed_netlist.Goals as goal

four_ports : (z a b c d : List Port) (p q r s : Port) → d ≡ c ++ s ∷ [] → c ≡ b ++ r ∷ [] → b ≡ a ++ q ∷ [] → a ≡ z ++ p ∷ [] → z ≡ [] → d ≡ p ∷ q ∷ r ∷ s ∷ []
four_ports z a b c d p q r s e f g h i = rw (e, f, g, h, i) refl

pub finish-requires : goal.finish-requires
finish-requires c =
    let ports = four_ports _ _ _ _ _ _ _ _ _ (c.in_ok-module.ensures.ports ∙ c.in_ok-output-2.ensures.ports) c.in_ok-output.ensures.ports
    (c.in_ok-word.ensures.keeps.ports ∙ c.in_ok-address.ensures.keeps.ports ∙ c.in_ok-count.ensures.keeps.ports ∙ c.in_ok-larger.ensures.keeps.ports ∙ c.in_ok-data.ensures.ports)
    c.in_ok-reset.ensures.ports (ap (λ (v : Net). v.ports) c.new-net.ensures.empty) in
    let bit = rw c.in_ok-reset.ensures.width at c.in_ok-reset.ensures.bus.there in
    record {
      driven = λ n.
          c.in_ok-module.ensures.undriven n ∙ c.in_ok-output-2.ensures.undriven n ∙ c.in_ok-output.ensures.undriven n
          ∙ c.in_ok-word.ensures.keeps.undriven n ∙ c.in_ok-address.ensures.keeps.undriven n ∙ c.in_ok-count.ensures.keeps.undriven n
          ∙ c.in_ok-larger.ensures.keeps.undriven n ∙ c.in_ok-data.ensures.undriven n ∙ c.in_ok-reset.ensures.undriven n
          ∙ c.new-net.ensures.undriven n;
      module_name = let e = c.in_ok-module.ensures.module_name in rw e (record { first = search rules; each = search rules; short = search rules; free = search rules });
      port_names = λ k p h. each_known (λ p. IsName p.name) _ _ ports (
        record { first = search rules; each = search rules; short = search rules; free = search rules },
        (
          record { first = search rules; each = search rules; short = search rules; free = search rules },
          (
            record { first = search rules; each = search rules; short = search rules; free = search rules },
            (record { first = search rules; each = search rules; short = search rules; free = search rules }, tt),
          ),
        ),
      ) k p h;
      no_clock = λ k p h. each_known (λ p. p.name ≢ clock_name) _ _ ports
          (differ _ _ refl, (differ _ _ refl, (differ _ _ refl, (differ _ _ refl, tt)))) k p h;
      distinct = λ i j p q h k. own_known _ _ ports
          ((differ _ _ refl, (differ _ _ refl, (differ _ _ refl, tt))), ((differ _ _ refl, (differ _ _ refl, tt)), ((differ _ _ refl, tt), (tt, tt))))
          i j p q h k;
      reset = λ _. record {
        node = c.in_ok-reset.reset.node;
        port = record { place = 0; there = rw ports refl };
        bit = c.in_ok-module.ensures.grows.shapes _ _ (c.in_ok-output-2.ensures.grows.shapes _ _ (c.in_ok-output.ensures.grows.shapes _ _
            (c.in_ok-word.ensures.keeps.shapes _ _ (c.in_ok-address.ensures.keeps.shapes _ _ (c.in_ok-count.ensures.keeps.shapes _ _
            (c.in_ok-larger.ensures.keeps.shapes _ _ (c.in_ok-data.ensures.grows.shapes _ _ bit)))))));
      };
    }
