use Rattle.std.proofs.Common.{◌≡◌, ◌≢◌, ℕ, zero, suc, List, [], ◌∷◌, ◌++◌, Some, None, refl, sym, ap, ◌∙◌, subst, inl, inr, rules}
use Rattle.std.specs.Prelude.{slice_get}
use Rattle.std.proofs.lemmas.Bool.{cases_eq}
use Rattle.gl_net.specs.Net.{Net, open_at}
use Rattle.gl_net.specs.declared.node.Port.{Port}
use Rattle.gl_net.specs.Finished.{IsName, clock_name}
use Rattle.gl_plan_tests.proofs.netlists.delay_netlist.Goals as goal

two_ports : (a b c : List Port) (p q : Port) → c ≡ b ++ q ∷ [] → b ≡ a ++ p ∷ [] → a ≡ [] → c ≡ p ∷ q ∷ []
two_ports a b c p q e f g = rw (e, f, g) refl

either : (p q : Port) (P : Port → Type 0) → P p → P q → (k : ℕ) (r : Port) → slice_get (p ∷ q ∷ []) k ≡ Some r → P r
either p q P a b zero r h = let e : p ≡ r = cc in subst P e a
either p q P a b (suc zero) r h = let e : q ≡ r = cc in subst P e b
either p q P a b (suc (suc k)) r h = absurd (cc)

apart : (p q : Port) → p.name ≢ q.name → (i j : ℕ) (r s : Port) → slice_get (p ∷ q ∷ []) i ≡ Some r → slice_get (p ∷ q ∷ []) j ≡ Some s → r.name ≡ s.name → i ≡ j
apart p q ne zero zero r s h k e = refl
apart p q ne zero (suc zero) r s h k e = absurd (ne (let a : p ≡ r = cc in let b : q ≡ s = cc in cc))
apart p q ne (suc zero) zero r s h k e = absurd (ne (let a : q ≡ r = cc in let b : p ≡ s = cc in cc))
apart p q ne (suc zero) (suc zero) r s h k e = refl
apart p q ne (suc (suc i)) j r s h k e = absurd (cc)
apart p q ne i (suc (suc j)) r s h k e = absurd (cc)

pub finish-requires : goal.finish-requires
finish-requires c =
    let ports = two_ports _ _ _ _ _ (c.in_ok-module.ensures.ports ∙ c.in_ok-output.ensures.ports)
    (c.in_ok-drive.ensures.ports ∙ c.in_ok-later.ensures.ports ∙ c.in_ok-data.ensures.ports) (ap (λ (v : Net). v.ports) c.new-net.ensures.empty) in
    record {
      driven = λ n.
          let old : open_at c.input.new.self n ≡ None = c.in_ok-data.ensures.undriven n ∙ c.new-net.ensures.undriven n in
          let now : open_at c.module.new.self n ≡ open_at c.drive.new.self n = c.in_ok-module.ensures.undriven n ∙ c.in_ok-output.ensures.undriven n in
          now ∙ elim (cases_eq n c.in_ok-later.later.node) [
            | inl e ↦ subst (λ k. open_at c.drive.new.self k ≡ None) (sym e) c.in_ok-drive.ensures.driven
            | inr ne ↦ c.in_ok-drive.ensures.others n ne ∙ c.in_ok-later.ensures.others n ne ∙ old
          ];
      module_name = let e = c.in_ok-module.ensures.module_name in rw e (record { first = search rules; each = search rules; short = search rules; free = search rules });
      port_names = λ k r h. either _ _ (λ p. IsName p.name) (record { first = search rules; each = search rules; short = search rules; free = search rules })
          (record { first = search rules; each = search rules; short = search rules; free = search rules }) k r (rw ports at h);
      no_clock = λ k r h. either _ _ (λ p. p.name ≢ clock_name) (λ e. absurd (cc)) (λ e. absurd (cc)) k r (rw ports at h);
      distinct = λ i j r s h k. apart _ _ (λ e. absurd (cc)) i j r s (rw ports at h) (rw ports at k);
      reset = λ e. absurd (cc);
    }
