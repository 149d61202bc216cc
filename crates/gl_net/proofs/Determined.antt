-- The values of a netlist follow from its inputs, its reset line and its start.
use Rattle.std.proofs.Common.{◌≡◌, ℕ, zero, suc, ◌<◌, Option, Some, None, sym, ap, ◌∙◌, subst, inl, inr, arith}
use Rattle.std.specs.Prelude.{slice_get, if◌then◌else◌}
use Rattle.std.proofs.lemmas.Bool.{cases_lt}
use Rattle.gl_bits.specs.Words.{not_of, join_of, cut_of, choose_of}
use Rattle.gl_net.specs.declared.node.Node.{Node}
use Rattle.gl_net.specs.declared.node.Node.TheVariants.{Input, Constant, Not, Binary, Choose, Join, Cut, Register, Memory, MemoryRead}
use Rattle.gl_net.specs.declared.node.MemoryDrive.{MemoryDrive}
use Rattle.gl_net.specs.declared.node.Bus.{Bus}
use Rattle.gl_net.specs.Net.{Net, Run, Shape, shape_of, shape_in, IsTrace, IsBus, binary_of, stored_of}
use Rattle.gl_net.specs.WellFormed.{ReadsBus, NodeFits, IsWellFormed}
use Rattle.gl_net.specs.Laws.{Same, SameOutside, KeepsCompose, EarlierValuesStay}
use Rattle.gl_net.proofs.Growth.{shape_there}

pub keeps_then : KeepsCompose
keeps_then a b c h k = record {
  runs = λ run r. h.runs run (k.runs run r);
  shapes = λ n s e. k.shapes n s (h.shapes n s e);
  undriven = λ n. k.undriven n ∙ h.undriven n;
  ports = k.ports ∙ h.ports;
  name = k.name ∙ h.name;
}

-- registers and memories are the same in a cycle
record SameState (net : Net) (r s : Run) (t : ℕ) : Type 0 where
  pub registers : (n w : ℕ) (reset : Option ℕ) (next : Option Bus) → slice_get net.nodes n ≡ Some (Register w reset next) → r.at t n ≡ s.at t n
  pub memories : (n bits w : ℕ) (drive : Option MemoryDrive) → slice_get net.nodes n ≡ Some (Memory bits w drive) → (k : ℕ) → r.word t n k ≡ s.word t n k

module _ (net : Net) (f : IsWellFormed net) (r s : Run) (p : IsTrace net r) (q : IsTrace net s) (o : SameOutside net r s) where
  SameNode : ℕ → ℕ → Type 0
  SameNode t n = (x : Node) → slice_get net.nodes n ≡ Some x → Same r s t n (shape_of x)

  look : (t n : ℕ) (sh : Shape) → shape_in net.nodes n ≡ Some sh → SameNode t n → Same r s t n sh
  unfolding shape_in SameNode
  look t n sh h same = let x = shape_there (slice_get net.nodes n) sh h in subst (Same r s t n) x.2 (same x.0 x.1)

  bus : (t n : ℕ) → ((m : ℕ) → m < n → SameNode t m) → (b : Bus) → ReadsBus net n b → r.at t b.node ≡ s.at t b.node
  bus t n below b i = look t b.node _ i.bus.there (below b.node i.before)

  one_node : (t : ℕ) → SameState net r s t → (n : ℕ) → ((m : ℕ) → m < n → SameNode t m) → (x : Node) → slice_get net.nodes n ≡ Some x → NodeFits net n x
      → Same r s t n (shape_of x)
  one_node t st n below (Input place w) e g = o.inputs n place w e t
  one_node t st n below (Constant word) e g = p.holds n _ e t ∙ sym (q.holds n _ e t)
  one_node t st n below (Not x) e g = p.holds n _ e t ∙ ap (not_of x.width) (bus t n below x g) ∙ sym (q.holds n _ e t)
  one_node t st n below (Binary op x y) e g =
      p.holds n _ e t ∙ ap (λ v. binary_of op x.width v (r.at t y.node)) (bus t n below x g.0)
      ∙ ap (λ v. binary_of op x.width (s.at t x.node) v) (bus t n below y g.1) ∙ sym (q.holds n _ e t)
  one_node t st n below (Choose c x y) e g =
      let h : r.at t c.node ≡ s.at t c.node = look t c.node _ g.0.bit.there (below c.node g.0.before) in
      p.holds n _ e t ∙ ap (λ v. choose_of v (r.at t x.node) (r.at t y.node)) h
      ∙ ap (λ v. choose_of (s.at t c.node) v (r.at t y.node)) (bus t n below x g.1)
      ∙ ap (λ v. choose_of (s.at t c.node) (s.at t x.node) v) (bus t n below y g.2) ∙ sym (q.holds n _ e t)
  one_node t st n below (Join x y) e g =
      p.holds n _ e t ∙ ap (λ v. join_of y.width v (r.at t y.node)) (bus t n below x g.0)
      ∙ ap (λ v. join_of y.width (s.at t x.node) v) (bus t n below y g.1) ∙ sym (q.holds n _ e t)
  one_node t st n below (Cut x high low) e g = p.holds n _ e t ∙ ap (cut_of high low) (bus t n below x g.0) ∙ sym (q.holds n _ e t)
  one_node t st n below (Register w reset next) e g = st.registers n w reset next e
  one_node t st n below (Memory bits w drive) e g = st.memories n bits w drive e
  one_node t st n below (MemoryRead m x) e g =
      let h : (k : ℕ) → r.word t m.node k ≡ s.word t m.node k = look t m.node _ g.0.store.there (below m.node g.0.before) in
      p.holds n _ e t ∙ h (r.at t x.node) ∙ ap (s.word t m.node) (bus t n below x g.1) ∙ sym (q.holds n _ e t)

  below_all : (t : ℕ) → SameState net r s t → (n m : ℕ) → m < n → SameNode t m
  unfolding SameNode
  below_all t st zero m h = absurd (omega arith)
  below_all t st (suc n) m h = elim (cases_lt m n) [
    | inl k ↦ below_all t st n m k
    | inr k ↦ (let e : m ≡ n = omega arith in
        subst (λ i. SameNode t i) (sym e) (λ x d. one_node t st n (below_all t st n) x d (f.nodes n x d)))
  ]

  all : (t : ℕ) → SameState net r s t → (n : ℕ) → SameNode t n
  all t st n = below_all t st (suc n) n (omega arith)

  carried : (t : ℕ) → SameState net r s t → (b : Bus) → IsBus net b → r.at t b.node ≡ s.at t b.node
  carried t st b i = look t b.node _ i.there (all t st b.node)

  next_register : (t : ℕ) → SameState net r s t → (n w : ℕ) (reset : Option ℕ) (next : Option Bus) → slice_get net.nodes n ≡ Some (Register w reset next)
      → NodeFits net n (Register w reset next) → r.at (suc t) n ≡ s.at (suc t) n
  next_register t st n w None None e g = o.open_registers n w None e (suc t)
  next_register t st n w (Some v) None e g = o.open_registers n w (Some v) e (suc t)
  next_register t st n w None (Some b) e g = p.holds n _ e t ∙ carried t st b g.2.0 ∙ sym (q.holds n _ e t)
  next_register t st n w (Some v) (Some b) e g =
      p.holds n _ e t ∙ ap (λ c. if c then v else r.at t b.node) (o.line t)
      ∙ ap (λ y. if s.rst t then v else y) (carried t st b g.2.0) ∙ sym (q.holds n _ e t)

  next_memory : (t : ℕ) → SameState net r s t → (n bits w : ℕ) (drive : Option MemoryDrive) → slice_get net.nodes n ≡ Some (Memory bits w drive)
      → NodeFits net n (Memory bits w drive) → (k : ℕ) → r.word (suc t) n k ≡ s.word (suc t) n k
  next_memory t st n bits w None e g k = o.open_memories n bits w e (suc t) k
  next_memory t st n bits w (Some d) e g k =
      let a : r.at t d.write.node ≡ s.at t d.write.node = look t d.write.node _ g.2.write.there (all t st d.write.node) in
      let b = carried t st d.address g.2.address in
      let c = carried t st d.value g.2.value in
      p.holds n _ e t k ∙ ap (λ v. stored_of v (r.at t d.address.node) (r.at t d.value.node) k (r.word t n k)) a
      ∙ ap (λ v. stored_of (s.at t d.write.node) v (r.at t d.value.node) k (r.word t n k)) b
      ∙ ap (λ v. stored_of (s.at t d.write.node) (s.at t d.address.node) v k (r.word t n k)) c
      ∙ ap (λ v. stored_of (s.at t d.write.node) (s.at t d.address.node) (s.at t d.value.node) k v) (st.memories n bits w (Some d) e k)
      ∙ sym (q.holds n _ e t k)

  state : (t : ℕ) → SameState net r s t
  state zero = record { registers = o.registers; memories = o.memories }
  state (suc t) = record {
    registers = λ n w reset next e. next_register t (state t) n w reset next e (f.nodes n _ e);
    memories = λ n bits w drive e. next_memory t (state t) n bits w drive e (f.nodes n _ e);
  }

  pub determined : (t n : ℕ) (x : Node) → slice_get net.nodes n ≡ Some x → Same r s t n (shape_of x)
  unfolding SameNode
  determined t n = all t (state t) n

pub earlier_values_stay : EarlierValuesStay
earlier_values_stay old new f k r s p q o = determined old f r s (k.runs r p).trace q.trace o
