-- A netlist with one port more, or with a name.
use Rattle.std.proofs.Common.{◌≡◌, ℕ, List, [], ◌∷◌, length, Some, None, refl, sym, ap, ◌∙◌, subst, inl, inr, add-zero}
use Rattle.std.specs.Prelude.{slice_get, option_and_then, if◌then◌else◌}
use Rattle.std.proofs.lemmas.List.Sums.{sum_by_push}
use Rattle.std.proofs.lemmas.Bool.{cases_eq}
use Rattle.gl_bits.proofs.AllLists.{get_front, get_last}
use Rattle.gl_bits.specs.Words.{IsWidth}
use Rattle.gl_net.specs.declared.node.Node.TheVariants.{Input}
use Rattle.gl_net.specs.declared.node.Port.{Port}
use Rattle.gl_net.specs.declared.node.Direction.{Direction}
use Rattle.gl_net.specs.declared.node.Direction.TheVariants.{In}
use Rattle.gl_net.specs.Net.{Net, Value, shape_in, open_in, open_at, open_shape, Grows, is_inner, size_of, register_bits, memory_bits, register_bits_of, memory_bits_of}
use Rattle.gl_net.specs.WellFormed.{end_at, NodeFits, EndFits, IsWellFormed}
use Rattle.gl_net.specs.Steps.{AddsPort, AddsInput, Names}
use Rattle.gl_net.proofs.Lists.{get_push_other, get_push_cases, get_past}
use Rattle.gl_net.proofs.Growth.{Extends, ext_grows, ext_node, ext_port}

module _ (old new : Net) (called : List ℕ) (w n : ℕ) (adds : AddsInput old new called w n) where
  input_extends : Extends old new
  input_extends = record {
    nodes = λ k y h. rw adds.nodes (get_front old.nodes (_ ∷ []) k y h);
    ports = λ k p h. rw adds.ports (get_front old.ports (_ ∷ []) k p h);
  }

  input_there : slice_get new.nodes n ≡ Some (Input (length old.ports) w)
  input_there = rw (adds.nodes, adds.number) (get_last old.nodes _)

  pub input_grows : Grows old new
  input_grows = ext_grows old new input_extends

  pub input_open : (k : ℕ) → open_at new k ≡ open_at old k
  unfolding open_in
  input_open k = elim (cases_eq k (length old.nodes)) [
    | inl h ↦ (let a : slice_get new.nodes (length old.nodes) ≡ Some (Input (length old.ports) w) = rw adds.nodes (get_last old.nodes _) in
        let b : slice_get old.nodes (length old.nodes) ≡ None = get_past old.nodes in
        rw (h, a, b) refl)
    | inr h ↦ rw adds.nodes (ap (option_and_then open_shape) (get_push_other old.nodes _ k h))
  ]

  pub input_has : shape_in new.nodes n ≡ Some (Value w)
  unfolding shape_in
  input_has = let a = input_there in rw a refl

  pub input_size : size_of new ≡ size_of old
  unfolding size_of
  input_size = rw adds.nodes (sum_by_push (λ y. if is_inner y then 1 else 0) old.nodes (Input (length old.ports) w) ∙ add-zero _)

  pub input_register_bits : register_bits_of new ≡ register_bits_of old
  unfolding register_bits_of
  input_register_bits = rw adds.nodes (sum_by_push register_bits old.nodes (Input (length old.ports) w) ∙ add-zero _)

  pub input_memory_bits : memory_bits_of new ≡ memory_bits_of old
  unfolding memory_bits_of
  input_memory_bits = rw adds.nodes (sum_by_push memory_bits old.nodes (Input (length old.ports) w) ∙ add-zero _)

  pub input_keeps_form : IsWellFormed old → IsWidth w → IsWellFormed new
  unfolding end_at
  input_keeps_form f i = record {
    nodes = λ k y e. elim (get_push_cases old.nodes _ k y (rw adds.nodes at e)) [
      | inl h ↦ ext_node old new input_extends k y (f.nodes k y h)
      | inr h ↦ (let a : slice_get new.ports (length old.ports) ≡ Some (record { direction = In; name = called; node = n }) = rw adds.ports (get_last old.ports _) in
          let q : n ≡ k = adds.number ∙ sym h.0 in
          let g : NodeFits new k (Input (length old.ports) w) = (i, rw a (ap (λ j. Some (In, j)) q)) in
          subst (NodeFits new k) h.1 g)
    ];
    ends = λ k p e. elim (get_push_cases old.ports _ k p (rw adds.ports at e)) [
      | inl h ↦ ext_port old new input_extends k p.direction p.node (f.ends k p h)
      | inr h ↦ (let g : EndFits new (length old.ports) In n = (w, input_there) in
          subst (λ (r : Port). EndFits new k r.direction r.node) h.1 (subst (λ j. EndFits new j In n) (sym h.0) g))
    ];
  }

module _ (old new : Net) (direction : Direction) (called : List ℕ) (node : ℕ) (adds : AddsPort old new direction called node) where
  port_extends : Extends old new
  port_extends = record { nodes = λ k y h. rw adds.nodes h; ports = λ k p h. rw adds.ports (get_front old.ports (_ ∷ []) k p h) }

  pub port_grows : Grows old new
  port_grows = ext_grows old new port_extends

  pub port_size : size_of new ≡ size_of old
  unfolding size_of
  port_size = rw adds.nodes refl

  pub port_register_bits : register_bits_of new ≡ register_bits_of old
  unfolding register_bits_of
  port_register_bits = rw adds.nodes refl

  pub port_memory_bits : memory_bits_of new ≡ memory_bits_of old
  unfolding memory_bits_of
  port_memory_bits = rw adds.nodes refl

  pub port_keeps_form : IsWellFormed old → EndFits old (length old.ports) direction node → IsWellFormed new
  port_keeps_form f g = record {
    nodes = λ k y e. ext_node old new port_extends k y (f.nodes k y (rw adds.nodes at e));
    ends = λ k p e. elim (get_push_cases old.ports _ k p (rw adds.ports at e)) [
      | inl h ↦ ext_port old new port_extends k p.direction p.node (f.ends k p h)
      | inr h ↦ subst (λ (r : Port). EndFits new k r.direction r.node) h.1
          (subst (λ j. EndFits new j direction node) (sym h.0) (ext_port old new port_extends (length old.ports) direction node g))
    ];
  }

module _ (old new : Net) (called : List ℕ) (names : Names old new called) where
  name_extends : Extends old new
  name_extends = record { nodes = λ k y h. rw names.nodes h; ports = λ k p h. rw names.ports h }

  pub name_size : size_of new ≡ size_of old
  unfolding size_of
  name_size = rw names.nodes refl

  pub name_register_bits : register_bits_of new ≡ register_bits_of old
  unfolding register_bits_of
  name_register_bits = rw names.nodes refl

  pub name_memory_bits : memory_bits_of new ≡ memory_bits_of old
  unfolding memory_bits_of
  name_memory_bits = rw names.nodes refl

  pub name_keeps_form : IsWellFormed old → IsWellFormed new
  name_keeps_form f = record {
    nodes = λ k y e. ext_node old new name_extends k y (f.nodes k y (rw names.nodes at e));
    ends = λ k p e. ext_port old new name_extends k p.direction p.node (f.ends k p (rw names.ports at e));
  }
