-- The buses of the parameters: those of the ports that are held, in their order; and that they stay.
use Rattle.std.proofs.Common.{◌≡◌, ℕ, zero, suc, ◌+◌, false, true, List, [], ◌∷◌, ◌++◌, Some, length, slice_get, refl, sym, ap, subst, ◌∙◌, length-append}
use Rattle.std.specs.Prelude.{codes}
use Rattle.std.proofs.lemmas.Option.{same_Some}
use Rattle.gl_bits.proofs.Bools.{by_cases}
use Rattle.gl_algebra.specs.declared.node.PlanNode.{PlanNode}
use Rattle.gl_net.specs.Builds.{IsHeldBus, PutsPort}
use Rattle.gl_net.specs.declared.node.Bus.{Bus}
use Rattle.gl_net.specs.declared.node.Direction.TheVariants.{In}
use Rattle.gl_net.specs.declared.node.Port.{Port}
use Rattle.gl_net.specs.Net.{IsBus, Keeps, Net, held_ports, is_held}
use Rattle.gl_rows.specs.Made.{AreHeldBuses}
use Rattle.gl_rows.proofs.MadeLemmas.{words_kept}
use Rattle.gl_schema.specs.Ports.{in_parameter}
use Rattle.gl_wiring.specs.Emitted.{Extends}
use Rattle.gl_wiring.specs.Words.{HaveWords}

pub have_words : (nodes : List PlanNode) (old new : Net) (words : List Bus) → Keeps old new → HaveWords nodes old words → HaveWords nodes new words
have_words nodes old new words keeps h = record { held = words_kept old new words keeps h.held; known = h.known }

-- ---- one port more

held_last : (ps : List Port) (p : Port) → is_held p ≡ true → held_ports (ps ++ p ∷ []) ≡ held_ports ps ++ p ∷ []
held_last [] p is = rw is refl
held_last (q ∷ ps) p is = by_cases (is_held q)
    (λ e. rw e (ap (λ (l : List Port). q ∷ l) (held_last ps p is)))
    (λ e. rw e (held_last ps p is))

pub not_held_last : (ps : List Port) (p : Port) → is_held p ≡ false → held_ports (ps ++ p ∷ []) ≡ held_ports ps
not_held_last [] p is = rw is refl
not_held_last (q ∷ ps) p is = by_cases (is_held q)
    (λ e. rw e (ap (λ (l : List Port). q ∷ l) (not_held_last ps p is)))
    (λ e. rw e (not_held_last ps p is))

pub tick_not_held : (node : ℕ) → is_held (record { direction = In; name = codes "tick"; node = node }) ≡ false
unfolding is_held
tick_not_held node = refl

last_there : {A : Type 0} (xs : List A) (x : A) → slice_get (xs ++ x ∷ []) (length xs) ≡ Some x
last_there [] x = refl
last_there (y ∷ xs) x = last_there xs x

pushed : (P : ℕ → Bus → Type 0) (bs : List Bus) (b : Bus) → ((k : ℕ) (x : Bus) → slice_get bs k ≡ Some x → P k x) → P (length bs) b
    → (k : ℕ) (x : Bus) → slice_get (bs ++ b ∷ []) k ≡ Some x → P k x
pushed P [] b each last zero x e = subst (P 0) (same_Some b x e) last
pushed P [] b each last (suc k) x e = absurd (cc)
pushed P (y ∷ bs) b each last zero x e = each zero x e
pushed P (y ∷ bs) b each last (suc k) x e = pushed (λ n. P (suc n)) bs b (λ j z q. each (suc j) z q) last k x e

-- the name of a parameter's port is that of one that is held
pub named_held : (name : List ℕ) (node : ℕ) → is_held (record { direction = In; name = in_parameter name; node = node }) ≡ true
unfolding is_held in_parameter
named_held name node = refl

-- ports that are held, as many as these buses, which are theirs
pub record HoldAll (net : Net) (words : List Bus) : Type 0 where
  pub as_many : length (held_ports net.ports) ≡ length words
  pub held : AreHeldBuses net words

pub hold_none : (net : Net) → held_ports net.ports ≡ [] → HoldAll net []
hold_none net none = record { as_many = ap length none; held = record { each = λ number b e. absurd (cc) } }

pub hold_more : (old new : Net) (name : List ℕ) (words : List Bus) (b : Bus) → Extends old new → PutsPort old new In (in_parameter name) b.node → IsBus new b
    → HoldAll old words → HoldAll new (words ++ b ∷ [])
hold_more old new name words b x puts is h =
    let p : Port = record { direction = In; name = in_parameter name; node = b.node } in
    let ports : held_ports new.ports ≡ held_ports old.ports ++ p ∷ [] = ap held_ports puts ∙ held_last old.ports p (named_held name b.node) in
    let at : slice_get (held_ports new.ports) (length words) ≡ Some p =
    ap (λ (l : List Port). slice_get l (length words)) ports
    ∙ subst (λ (n : ℕ). slice_get (held_ports old.ports ++ p ∷ []) n ≡ Some p) h.as_many (last_there (held_ports old.ports) p) in
    record {
      as_many = ap length ports ∙ length-append (held_ports old.ports) (p ∷ []) ∙ (λ i. h.as_many i + 1) ∙ sym (length-append words (b ∷ []));
      held = record {
        each = pushed (IsHeldBus new) words b
            (λ k y e. let was = h.held.each k y e in record { bus = x.buses y was.bus; carries = λ run r. was.carries run (x.runs run r) })
            (record { bus = is; carries = λ run r t. r.held.each (length words) p at t });
      };
    }
