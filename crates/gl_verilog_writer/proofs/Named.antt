-- The declarations of a netlist's module: where each stands, and that no two have one name.
use Rattle.std.proofs.Common.{◌≡◌, ℕ, zero, suc, ◌+◌, false, List, [], ◌∷◌, ◌++◌, length, map, Some, refl, sym, ap, ◌∙◌, arith, inl, inr, ◌⊎◌}
use Rattle.std.specs.Prelude.{slice_get, codes, bytes_eq}
use Rattle.gl_bits.proofs.Bools.{bytes_other, bytes_differ}
use Rattle.std.proofs.lemmas.List.{length-map}
use Rattle.std.proofs.lemmas.Option.{slice_get_within}
use Rattle.gl_bits.proofs.AllLists.{get_front, get_mapped, get_unmapped}
use Rattle.gl_bits.proofs.Options.{some_same}
use Rattle.gl_net.specs.declared.node.Node.{Node}
use Rattle.gl_net.specs.declared.node.Port.{Port}
use Rattle.gl_net.specs.Net.{Net}
use Rattle.gl_verilog.specs.Module.{Declaration, number_of}
use Rattle.gl_verilog.specs.Valid.{Differs, AreDistinct}
use Rattle.gl_verilog.proofs.Distinct.{number_at}
use Rattle.gl_verilog_writer.specs.Meaning.{declaration_of, clock}
use Rattle.gl_verilog_writer.proofs.Model.{Named, at_node, declaration_for, counted, declarations_in}
use Rattle.gl_verilog_writer.proofs.Lists.{get-right, get-parts, get-counted, get-uncounted}

-- ---- names

-- no two declarations have one name
abbrev pub Apart : List Declaration → Type 0
Apart ds = (i j : ℕ) (d e : Declaration) → slice_get ds i ≡ Some d → slice_get ds j ≡ Some e → d.name ≡ e.name → i ≡ j

apart-tail : (x : Declaration) (ds : List Declaration) → Apart (x ∷ ds) → Apart ds
apart-tail x ds h = λ i j d e p q n. (let r = h (suc i) (suc j) d e p q n in let s : i ≡ j = omega (arith, r) in s)

differs : (d : Declaration) (es : List Declaration) → ((j : ℕ) (e : Declaration) → slice_get es j ≡ Some e → d.name ≡ e.name → ⊥) → Differs d es
differs d [] h = tt
differs d (e ∷ es) h = (bytes_other d.name e.name (h 0 e refl), differs d es (λ j f p. h (suc j) f p))

pub distinct : (ds : List Declaration) → Apart ds → AreDistinct ds
distinct [] h = tt
distinct (d ∷ ds) h = (differs d ds (λ j e p n. (let r = h 0 (suc j) d e refl p n in omega (arith, r))), distinct ds (apart-tail d ds h))

-- a name is found where it is declared
pub found : (ds : List Declaration) (i : ℕ) (d : Declaration) → Apart ds → slice_get ds i ≡ Some d → number_of ds d.name ≡ Some i
found ds i d h e = number_at ds i d (distinct ds h) e

-- ---- where each declaration stands

module _ (net : Net) (names : ℕ → List ℕ) (c : Named net names) where
  pub node_there : (n : ℕ) (x : Node) → slice_get net.nodes n ≡ Some x → slice_get (declarations_in net names) (at_node (length net.ports) n) ≡ Some (declaration_for names n x)
  node_there n x e =
      let ps = map (declaration_of net) net.ports in
      let ns = counted (declaration_for names) 0 net.nodes in
      let l : length net.ports + n ≡ length ps + n = ap (λ (m : ℕ). m + n) (sym (length-map net.ports (declaration_of net))) in
      ap (slice_get (ps ++ ns)) l ∙ get-right ps ns n ∙ get-counted (declaration_for names) 0 net.nodes n x e ∙ ap (λ (m : ℕ). Some (declaration_for names m x)) (let q : 0 + n ≡ n = omega arith in q)

  pub port_there : (place : ℕ) (p : Port) → slice_get net.ports place ≡ Some p → slice_get (declarations_in net names) (suc place) ≡ Some (declaration_of net p)
  port_there place p e = get_front (map (declaration_of net) net.ports) (counted (declaration_for names) 0 net.nodes) place (declaration_of net p) (get_mapped (declaration_of net) net.ports place p e)

  abbrev pub AsClock : ℕ → Declaration → Type 0
  AsClock i d = (i ≡ 0) × (d ≡ clock)

  pub record AsPort (i : ℕ) (d : Declaration) : Type 0 where
    pub place : ℕ
    pub port : Port
    pub number : i ≡ suc place
    pub there : slice_get net.ports place ≡ Some port
    pub is : d ≡ declaration_of net port

  pub record AsNode (i : ℕ) (d : Declaration) : Type 0 where
    pub n : ℕ
    pub node : Node
    pub number : i ≡ at_node (length net.ports) n
    pub there : slice_get net.nodes n ≡ Some node
    pub is : d ≡ declaration_for names n node

  -- a declaration is the clock's, a port's or a node's
  pub sorted : (i : ℕ) (d : Declaration) → slice_get (declarations_in net names) i ≡ Some d → AsClock i d ⊎ (AsPort i d ⊎ AsNode i d)
  sorted zero d e = inl (refl, sym (some_same clock d e))
  sorted (suc i) d e =
      let ps = map (declaration_of net) net.ports in
      let ns = counted (declaration_for names) 0 net.nodes in
      elim (get-parts ps ns i d e) [
        | inl p ↦ (let u = get_unmapped (declaration_of net) net.ports i d p in inr (inl (record { place = i; port = u.0; number = refl; there = u.1; is = sym u.2 })))
        | inr p ↦ (let u = get-uncounted (declaration_for names) 0 net.nodes p.0 d p.2 in
            inr (inr (record {
              n = p.0;
              node = u.0;
              number = ap suc (p.1 ∙ ap (λ (m : ℕ). m + p.0) (length-map net.ports (declaration_of net)));
              there = u.1;
              is = u.2 ∙ ap (λ (m : ℕ). declaration_for names m u.0) (let q : 0 + p.0 ≡ p.0 = omega arith in q);
            })))
      ]

  port_clock : (i : ℕ) (d : Declaration) → AsPort i d → clock.name ≡ d.name → ⊥
  port_clock i d p e = c.netlist.finished.no_clock p.place p.port p.there (sym (e ∙ ap (λ (x : Declaration). x.name) p.is))

  node_clock : (i : ℕ) (d : Declaration) → AsNode i d → clock.name ≡ d.name → ⊥
  node_clock i d p e = bytes_differ (names p.n) (codes "clk") (c.naming.no_clock p.n) (sym (e ∙ ap (λ (x : Declaration). x.name) p.is))

  port_node : (i j : ℕ) (d e : Declaration) → AsPort i d → AsNode j e → d.name ≡ e.name → ⊥
  port_node i j d e p q same =
      c.naming.no_port q.n p.place p.port p.there (sym (ap (λ (x : Declaration). x.name) (sym p.is) ∙ same ∙ ap (λ (x : Declaration). x.name) q.is))

  pub apart : Apart (declarations_in net names)
  apart = λ i j d e p q same. elim (sorted i d p) [
    | inl a ↦ elim (sorted j e q) [
      | inl b ↦ a.0 ∙ sym b.0
      | inr b ↦ elim b [
        | inl b ↦ absurd (port_clock j e b (ap (λ (x : Declaration). x.name) (sym a.1) ∙ same))
        | inr b ↦ absurd (node_clock j e b (ap (λ (x : Declaration). x.name) (sym a.1) ∙ same))
      ]
    ]
    | inr a ↦ elim a [
      | inl a ↦ elim (sorted j e q) [
        | inl b ↦ absurd (port_clock i d a (ap (λ (x : Declaration). x.name) (sym b.1) ∙ sym same))
        | inr b ↦ elim b [
          | inl b ↦ a.number ∙ ap suc (c.netlist.finished.distinct a.place b.place a.port b.port a.there b.there (ap (λ (x : Declaration). x.name) (sym a.is) ∙ same ∙ ap (λ (x : Declaration). x.name) b.is)) ∙ sym b.number
          | inr b ↦ absurd (port_node i j d e a b same)
        ]
      ]
      | inr a ↦ elim (sorted j e q) [
        | inl b ↦ absurd (node_clock i d a (ap (λ (x : Declaration). x.name) (sym b.1) ∙ sym same))
        | inr b ↦ elim b [
          | inl b ↦ absurd (port_node j i e d b a (sym same))
          | inr b ↦ a.number ∙ ap (at_node (length net.ports)) (c.naming.apart a.n b.n (slice_get_within net.nodes a.n a.node a.there) (slice_get_within net.nodes b.n b.node b.there) (ap (λ (x : Declaration). x.name) (sym a.is) ∙ same ∙ ap (λ (x : Declaration). x.name) b.is)) ∙ sym b.number
        ]
      ]
    ]
  ]

  pub node_found : (n : ℕ) (x : Node) → slice_get net.nodes n ≡ Some x → number_of (declarations_in net names) (names n) ≡ Some (at_node (length net.ports) n)
  node_found n x e = found (declarations_in net names) (at_node (length net.ports) n) (declaration_for names n x) apart (node_there n x e)

  pub port_found : (place : ℕ) (p : Port) → slice_get net.ports place ≡ Some p → number_of (declarations_in net names) p.name ≡ Some (suc place)
  port_found place p e = found (declarations_in net names) (suc place) (declaration_of net p) apart (port_there place p e)

  pub port_no_clock : (place : ℕ) (p : Port) → slice_get net.ports place ≡ Some p → bytes_eq p.name (codes "clk") ≡ false
  port_no_clock place p e = bytes_other p.name (codes "clk") (c.netlist.finished.no_clock place p e)
