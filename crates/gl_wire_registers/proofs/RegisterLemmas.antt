-- Registers that are opened and driven together.
use Rattle.std.proofs.Common.{◌≡◌, ◌≢◌, ℕ, zero, suc, ◌+◌, ◌<◌, List, [], ◌∷◌, ◌++◌, length, Some, None, refl, sym, ap, ◌∙◌, subst, arith, inl, inr, ◌⊎◌, take, length-append}
use Rattle.std.specs.Prelude.{slice_get}
use Rattle.std.specs.List.{sum}
use Rattle.std.proofs.lemmas.List.{map-append}
use Rattle.std.proofs.lemmas.Bool.{cases_eq}
use Rattle.gl_bits.specs.Words.{Word}
use Rattle.gl_net.specs.declared.node.Bus.{Bus}
use Rattle.gl_net.specs.Net.{Net, Run, IsRun, IsBus, Grows, Keeps, Value, open_at}
use Rattle.gl_bits.proofs.AllLists.{get_below, get_front, get_last}
use Rattle.gl_net.proofs.Lists.{get_push_cases}
use Rattle.gl_wire.specs.Costs.{Costs, nodes_alone}
use Rattle.gl_wire.proofs.ColumnLemmas.{sum-push}
use Rattle.gl_wire_registers.specs.Registers.{word_widths, NoneOf, OpensOne, AreOpen, Opens, DrivesAll}

pub grows_then : (a b c : Net) → Grows a b → Grows b c → Grows a c
grows_then a b c g h = record { runs = λ run r. g.runs run (h.runs run r); shapes = λ n s e. h.shapes n s (g.shapes n s e) }

pub grown_bus : (a b : Net) (x : Bus) → Grows a b → IsBus a x → IsBus b x
grown_bus a b x g i = record { there = g.shapes x.node _ i.there; width = i.width }

pub get_take : {A : Type 0} (xs : List A) (n k : ℕ) (x : A) → slice_get (take n xs) k ≡ Some x → (slice_get xs k ≡ Some x) × (k < n)
get_take [] zero k x h = absurd (cc)
get_take [] (suc n) k x h = absurd (cc)
get_take (y ∷ xs) zero k x h = absurd (cc)
get_take (y ∷ xs) (suc n) zero x h = (h, omega arith)
get_take (y ∷ xs) (suc n) (suc k) x h = let q = get_take xs n k x h in (q.0, omega (arith, q.1))

-- whether a node is one of these
pub one_of : (n : ℕ) (bs : List Bus) → ((k : ℕ) × (b : Bus) × (slice_get bs k ≡ Some b) × (n ≡ b.node)) ⊎ NoneOf n bs
one_of n [] = inr (λ k b h e. absurd (cc))
one_of n (x ∷ bs) = elim (cases_eq n x.node) [
  | inl e ↦ inl (0, x, refl, e)
  | inr ne ↦ elim (one_of n bs) [
    | inl h ↦ inl (suc h.0, h.1, h.2, h.3)
    | inr none ↦ inr (λ k. elim k as (λ k. (b : Bus) → slice_get (x ∷ bs) k ≡ Some b → n ≢ b.node) [
      | zero ↦ λ b h e. let q : x ≡ b = cc in ne (e ∙ ap (λ (y : Bus). y.node) (sym q))
      | suc k ↦ λ b h e. none k b h e
    ])
  ]
]

pub widths_more : (ws : List Word) (w : Word) → sum (word_widths (ws ++ w ∷ [])) ≡ sum (word_widths ws) + w.width
widths_more ws w = ap sum (map-append (λ (v : Word). v.width) ws (w ∷ [])) ∙ sum-push (word_widths ws) w.width

module _ (old mid new : Net) (ws : List Word) (bs : List Bus) (w : Word) (x : Bus) (o : Opens old mid ws bs) (one : OpensOne mid new w x) where
  -- an earlier register is another one
  earlier : (k : ℕ) (b : Bus) → slice_get bs k ≡ Some b → b.node ≢ x.node
  earlier k b h e = let u = o.still.undriven k b h in let f = one.fresh in let q = ap (open_at mid) e in absurd (cc)

  none_before : (n : ℕ) → NoneOf n (bs ++ x ∷ []) → NoneOf n bs
  none_before n h k b e = h k b (get_front bs (x ∷ []) k b e)

  none_last : (n : ℕ) → NoneOf n (bs ++ x ∷ []) → n ≢ x.node
  none_last n h = h (length bs) x (get_last bs x)

  undriven : (k : ℕ) (b : Bus) → slice_get (bs ++ x ∷ []) k ≡ Some b → open_at new b.node ≡ Some (Value b.width)
  undriven k b h = elim (get_push_cases bs x k b h) [
    | inl e ↦ one.others b.node (earlier k b e) ∙ o.still.undriven k b e
    | inr e ↦ subst (λ (y : Bus). open_at new y.node ≡ Some (Value y.width)) e.1 one.undriven
  ]

  apart : (j k : ℕ) (b d : Bus) → slice_get (bs ++ x ∷ []) j ≡ Some b → slice_get (bs ++ x ∷ []) k ≡ Some d → b.node ≡ d.node → j ≡ k
  apart j k b d h i e = elim (get_push_cases bs x j b h) [
    | inl p ↦ elim (get_push_cases bs x k d i) [
      | inl q ↦ o.still.apart j k b d p q e
      | inr q ↦ absurd (earlier j b p (e ∙ ap (λ (y : Bus). y.node) (sym q.1)))
    ]
    | inr p ↦ elim (get_push_cases bs x k d i) [
      | inl q ↦ absurd (earlier k d q (sym e ∙ ap (λ (y : Bus). y.node) (sym p.1)))
      | inr q ↦ p.0 ∙ sym q.0
    ]
  ]

  fresh : (k : ℕ) (b : Bus) → slice_get (bs ++ x ∷ []) k ≡ Some b → open_at old b.node ≡ None
  fresh k b h = elim (get_push_cases bs x k b h) [
    | inl e ↦ o.fresh k b e
    | inr e ↦ subst (λ (y : Bus). open_at old y.node ≡ None) e.1 (sym (o.others x.node (λ k b h q. earlier k b h (sym q))) ∙ one.fresh)
  ]

  each : (k : ℕ) (b : Bus) → slice_get (bs ++ x ∷ []) k ≡ Some b → IsBus new b
  each k b h = elim (get_push_cases bs x k b h) [
    | inl e ↦ grown_bus mid new b one.grows (o.each k b e)
    | inr e ↦ subst (IsBus new) e.1 one.bus
  ]

  -- a place among the registers is the same place among the reset values
  both : (k : ℕ) (b : Bus) (v : Word) → slice_get (bs ++ x ∷ []) k ≡ Some b → slice_get (ws ++ w ∷ []) k ≡ Some v
      → ((slice_get bs k ≡ Some b) × (slice_get ws k ≡ Some v)) ⊎ ((x ≡ b) × (w ≡ v))
  both k b v h i = elim (get_push_cases bs x k b h) [
    | inl p ↦ elim (get_push_cases ws w k v i) [
      | inl q ↦ inl (p, q)
      | inr q ↦ (let l = get_below bs k b p in absurd (omega (arith, l, q.0, o.count)))
    ]
    | inr p ↦ elim (get_push_cases ws w k v i) [
      | inl q ↦ (let l = get_below ws k v q in absurd (omega (arith, l, p.0, o.count)))
      | inr q ↦ inr (p.1, q.1)
    ]
  ]

  pub opens_more : Opens old new (ws ++ w ∷ []) (bs ++ x ∷ [])
  opens_more = record {
    grows = grows_then old mid new o.grows one.grows;
    ports = one.ports ∙ o.ports;
    name = one.name ∙ o.name;
    count = length-append bs (x ∷ []) ∙ ap (λ n. n + 1) o.count ∙ sym (length-append ws (w ∷ []));
    others = λ n h. one.others n (none_last n h) ∙ o.others n (none_before n h);
    still = record { undriven = undriven; apart = apart };
    fresh = fresh;
    each = each;
    widths = λ k b v h i. elim (both k b v h i) [
      | inl e ↦ o.widths k b v e.0 e.1
      | inr e ↦ ap (λ (y : Bus). y.width) (sym e.0) ∙ one.width ∙ ap (λ (y : Word). y.width) e.1
    ];
    start = λ k b v h i run r. elim (both k b v h i) [
      | inl e ↦ o.start k b v e.0 e.1 run (one.grows.runs run r)
      | inr e ↦ ap (λ (y : Bus). run.at 1 y.node) (sym e.0) ∙ one.start run r ∙ ap (λ (y : Word). y.bits) e.1
    ];
    cost = record {
      nodes = omega (arith, one.cost.nodes, o.cost.nodes, length-append ws (w ∷ []));
      registers = omega (arith, one.cost.registers, o.cost.registers, widths_more ws w);
      memories = omega (arith, one.cost.memories, o.cost.memories);
    };
  }

-- ---- driving

pub record DrivesOne (old new : Net) (x y : Bus) : Type 0 where
  pub grows : Grows old new
  pub ports : new.ports ≡ old.ports
  pub name : new.name ≡ old.name
  pub others : (n : ℕ) → n ≢ x.node → open_at new n ≡ open_at old n
  pub driven : open_at new x.node ≡ None
  pub cost : Costs old new (nodes_alone 0)
  pub value : (run : Run) → IsRun new run → (t : ℕ) → run.at (suc (suc t)) x.node ≡ run.at (suc t) y.node

pub drives_more : (old mid new : Net) (bs nexts : List Bus) (x y : Bus) → DrivesAll old mid bs nexts → DrivesOne mid new x y → slice_get nexts (length bs) ≡ Some y → NoneOf x.node bs → DrivesAll old new (bs ++ x ∷ []) nexts
drives_more old mid new bs nexts x y d one at none = record {
  grows = grows_then old mid new d.grows one.grows;
  ports = one.ports ∙ d.ports;
  name = one.name ∙ d.name;
  others = λ n h. one.others n (h (length bs) x (get_last bs x)) ∙ d.others n (λ k b e. h k b (get_front bs (x ∷ []) k b e));
  driven = λ k b h. elim (get_push_cases bs x k b h) [
    | inl e ↦ one.others b.node (λ q. none k b e (sym q)) ∙ d.driven k b e
    | inr e ↦ subst (λ (z : Bus). open_at new z.node ≡ None) e.1 one.driven
  ];
  value = λ k b c h i run r t. elim (get_push_cases bs x k b h) [
    | inl e ↦ d.value k b c e i run (one.grows.runs run r) t
    | inr e ↦
        (let same : y ≡ c = (let z = ap (slice_get nexts) e.0 in cc) in
        ap (λ (z : Bus). run.at (suc (suc t)) z.node) (sym e.1) ∙ one.value run r t ∙ ap (λ (z : Bus). run.at (suc t) z.node) same)
  ];
  cost = record { nodes = omega (arith, one.cost.nodes, d.cost.nodes); registers = omega (arith, one.cost.registers, d.cost.registers); memories = omega (arith, one.cost.memories, d.cost.memories) };
}

-- a register that is still to be driven
pub not_yet : (net : Net) (bs : List Bus) (i : ℕ) (x : Bus) → AreOpen net bs → slice_get bs i ≡ Some x → NoneOf x.node (take i bs)
not_yet net bs i x o h k b e q = let t = get_take bs i k b e in let same = o.apart i k x b h t.0 q in absurd (omega (arith, same, t.1))

-- opened, read by blocks, driven: nothing else has changed
pub closed_up : (a b c d : Net) (ws : List Word) (bs nexts : List Bus) → Opens a b ws bs → Keeps b c → DrivesAll c d bs nexts → Keeps a d
closed_up a b c d ws bs nexts o k v = record {
  runs = λ run r. o.grows.runs run (k.runs run (v.grows.runs run r));
  shapes = λ n s h. v.grows.shapes n s (k.shapes n s (o.grows.shapes n s h));
  undriven = λ n. elim (one_of n bs) [
    | inl h ↦ ap (open_at d) h.3 ∙ v.driven h.0 h.1 h.2 ∙ sym (ap (open_at a) h.3 ∙ o.fresh h.0 h.1 h.2)
    | inr none ↦ v.others n none ∙ k.undriven n ∙ o.others n none
  ];
  ports = v.ports ∙ k.ports ∙ o.ports;
  name = v.name ∙ k.name ∙ o.name;
}

pub length_taken : {A : Type 0} (xs : List A) (i : ℕ) → i < length xs → length (take i xs) ≡ i
length_taken [] i l = absurd (omega (arith, l))
length_taken (x ∷ xs) zero l = refl
length_taken (x ∷ xs) (suc i) l = ap suc (length_taken xs i (omega (arith, l)))
