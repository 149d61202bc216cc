-- Declarations one behind the other: new names, and sizes.
use Rattle.std.proofs.Common.{◌≡◌, ℕ, zero, suc, ◌+◌, ◌-◌, ◌≤◌, ◌^◌, Bool, true, false, List, [], ◌∷◌, ◌++◌, length, map, Some, None, leb, refl, sym, subst, arith, append_assoc}
use Rattle.std.specs.Prelude.{not, nat_eq, nat_le, if◌then◌else◌}
use Rattle.std.specs.List.{AllByRecursion}
use Rattle.std.specs.Str.{bytes_eq}
use Rattle.std.proofs.lemmas.Bool.{le-leb, leb-true, not-true, not_from_false}
use Rattle.std.proofs.lemmas.List.{append-nil}
use Rattle.gl_verilog.specs.Written.{Range, WrittenPort, Direction, In, InWire, Out, OutWire, OutReg, spell_port}
use Rattle.gl_verilog.specs.Module.{Declaration, Kind, Memory}
use Rattle.gl_verilog.specs.Widths.{IsMemory, HasSize}
use Rattle.gl_verilog.specs.Valid.{Differs, AreDistinct}
use Rattle.gl_verilog.specs.Resolve.{declare, port_kind, declare_port, address_bits_to, address_bits_of}
use Rattle.gl_verilog_faults.specs.Demands.{AreMet, is_declared, of_names, of_ports}
use Rattle.gl_verilog_faults.proofs.Expressions.{AreSmall}
use Rattle.gl_bits.proofs.AllLists.{all_append, all_front, all_back, all_at}

pub small_of : (ds : List Declaration) → AllByRecursion HasSize ds → AreSmall ds
small_of ds h n d e = (all_at HasSize ds n d e h).0.most

-- ---- distinct names

differs_back : (x : Declaration) (a b : List Declaration) → Differs x (a ++ b) → Differs x b
differs_back x [] b h = h
differs_back x (y ∷ a) b h = differs_back x a b h.1

differs_front : (x : Declaration) (a b : List Declaration) → Differs x (a ++ b) → Differs x a
differs_front x [] b h = tt
differs_front x (y ∷ a) b h = (h.0, differs_front x a b h.1)

differs_push : (x : Declaration) (a : List Declaration) (d : Declaration) → Differs x a → bytes_eq x.name d.name ≡ false → Differs x (a ++ d ∷ [])
differs_push x [] d h e = (e, tt)
differs_push x (y ∷ a) d h e = (h.0, differs_push x a d h.1 e)

pub distinct_front : (a b : List Declaration) → AreDistinct (a ++ b) → AreDistinct a
distinct_front [] b h = tt
distinct_front (x ∷ a) b h = (differs_front x a b h.0, distinct_front a b h.1)

undeclared_cons : (x : Declaration) (ds : List Declaration) (name : List ℕ) (b : Bool) → bytes_eq x.name name ≡ b → is_declared (x ∷ ds) name ≡ false → (b ≡ false) × (is_declared ds name ≡ false)
undeclared_cons x ds name true e h = absurd (let bad : true ≡ false = rw e at h in cc)
undeclared_cons x ds name false e h = (refl, rw e at h)

pub distinct_push : (ds : List Declaration) (d : Declaration) → AreDistinct ds → is_declared ds d.name ≡ false → AreDistinct (ds ++ d ∷ [])
distinct_push [] d h e = (tt, tt)
distinct_push (x ∷ ds) d h e =
    let u = undeclared_cons x ds d.name (bytes_eq x.name d.name) refl e in
    (differs_push x ds d h.0 u.0, distinct_push ds d h.1 u.1)

pub distinct_new : (ds : List Declaration) (d : Declaration) (more : List Declaration) → AreDistinct (ds ++ d ∷ more) → is_declared ds d.name ≡ false
distinct_new [] d more h = refl
distinct_new (x ∷ ds) d more h =
    let e : bytes_eq x.name d.name ≡ false = (differs_back x ds (d ∷ more) h.0).0 in
    rw e (distinct_new ds d more h.1)

-- ---- new declarations, one behind the other

abbrev pub AreNew : List Declaration → List Declaration → Type 0
AreNew ds [] = Unit {0}
AreNew ds (d ∷ news) = (not (is_declared ds d.name) ≡ true) × (nat_le d.width 128 ≡ true) × AreNew (ds ++ d ∷ []) news

-- each has a bit at least, and a memory 1 to 32 address bits
abbrev pub HasBits : Declaration → Type 0
HasBits d = (1 ≤ d.width) × ((bits : ℕ) → IsMemory d.kind bits → (1 ≤ bits) × (bits ≤ 32))

abbrev pub IsSound : List Declaration → Type 0
IsSound ds = AreDistinct ds × AllByRecursion HasSize ds

one_more : {A : Type 0} (a : List A) (x : A) (b : List A) → (a ++ x ∷ []) ++ b ≡ a ++ x ∷ b
one_more a x b = append_assoc a (x ∷ []) b

pub sound_new : (ds news : List Declaration) → IsSound ds → AllByRecursion HasBits news → AreNew ds news → IsSound (ds ++ news)
sound_new ds [] s b h = rw (append-nil ds) s
sound_new ds (d ∷ news) s b h =
    let fresh : is_declared ds d.name ≡ false = not-true (is_declared ds d.name) h.0 in
    let one : IsSound (ds ++ d ∷ []) = (distinct_push ds d s.0 fresh, all_append HasSize ds (d ∷ []) s.1 ((record { some' = b.0.0; most = leb-true d.width 128 h.1 }, b.0.1), tt)) in
    subst IsSound (one_more ds d news) (sound_new (ds ++ d ∷ []) news one b.1 h.2)

pub new_sound : (ds news : List Declaration) → IsSound (ds ++ news) → AreNew ds news
new_sound ds [] h = tt
new_sound ds (d ∷ news) h =
    let size : HasSize d = (all_back HasSize ds (d ∷ news) h.1).0 in
    (not_from_false (is_declared ds d.name) (distinct_new ds d news h.0), le-leb d.width 128 size.0.most, new_sound (ds ++ d ∷ []) news (subst IsSound (sym (one_more ds d news)) h))

pub sound_front : (a b : List Declaration) → IsSound (a ++ b) → IsSound a
sound_front a b h = (distinct_front a b h.0, all_front HasSize a b h.1)

-- ---- of names and of ports

pub names_new : (kind : Kind) (range : Range) (ds : List Declaration) (k : ℕ) (names : List (List ℕ)) → AreMet (of_names kind range ds k names) → AreNew ds (map (declare kind range) names)
names_new kind range ds k [] h = tt
names_new kind range ds k (n ∷ ns) h = (h.0, h.1.0, names_new kind range (ds ++ declare kind range n ∷ []) (k + 2) ns h.1.1)

pub new_names : (kind : Kind) (range : Range) (ds : List Declaration) (k : ℕ) (names : List (List ℕ)) → AreNew ds (map (declare kind range) names) → AreMet (of_names kind range ds k names)
new_names kind range ds k [] h = tt
new_names kind range ds k (n ∷ ns) h = (h.0, (h.1, new_names kind range (ds ++ declare kind range n ∷ []) (k + 2) ns h.2))

pub ports_new : (ds : List Declaration) (k : ℕ) (ps : List WrittenPort) → AreMet (of_ports ds k ps) → AreNew ds (map declare_port ps)
ports_new ds k [] h = tt
ports_new ds k (p ∷ ps) h = (h.0, h.1.0, ports_new (ds ++ declare_port p ∷ []) (k + length (spell_port p) + 1) ps h.1.1)

pub new_ports : (ds : List Declaration) (k : ℕ) (ps : List WrittenPort) → AreNew ds (map declare_port ps) → AreMet (of_ports ds k ps)
new_ports ds k [] h = tt
new_ports ds k (p ∷ ps) h = (h.0, (h.1, new_ports (ds ++ declare_port p ∷ []) (k + length (spell_port p) + 1) ps h.2))

-- ---- sizes of what is declared

abbrev pub NoMemory : Kind → Type 0
NoMemory k = (bits : ℕ) → IsMemory k bits → ⊥

pub bits_plain : (kind : Kind) → NoMemory kind → (range : Range) (name : List ℕ) → HasBits (declare kind range name)
bits_plain kind h None name = (omega arith, λ b m. absurd (h b m))
bits_plain kind h (Some high) name = (omega arith, λ b m. absurd (h b m))

pub bits_names : (kind : Kind) → NoMemory kind → (range : Range) (names : List (List ℕ)) → AllByRecursion HasBits (map (declare kind range) names)
bits_names kind h range [] = tt
bits_names kind h range (n ∷ ns) = (bits_plain kind h range n, bits_names kind h range ns)

no_memory : (d : Direction) → NoMemory (port_kind d)
no_memory In b h = h
no_memory InWire b h = h
no_memory Out b h = h
no_memory OutWire b h = h
no_memory OutReg b h = h

pub bits_ports : (ps : List WrittenPort) → AllByRecursion HasBits (map declare_port ps)
bits_ports [] = tt
bits_ports (p ∷ ps) = (bits_plain (port_kind p.direction) (no_memory p.direction) p.range p.name, bits_ports ps)

address_step : (b : Bool) (j : ℕ) (words : ℕ) (bits : ℕ) → ((bits' : ℕ) → address_bits_to j words ≡ Some bits' → (1 ≤ bits') × (bits' ≤ j)) → (if b then Some (suc j) else address_bits_to j words) ≡ Some bits → (1 ≤ bits) × (bits ≤ suc j)
address_step true j words bits h e = let same : suc j ≡ bits = cc in (omega arith, omega arith)
address_step false j words bits h e = let r = h bits e in (r.0, (let q : bits ≤ j = r.1 in omega arith))

address_in : (j words bits : ℕ) → address_bits_to j words ≡ Some bits → (1 ≤ bits) × (bits ≤ j)
unfolding address_bits_to
address_in zero words bits e = absurd cc
address_in (suc j) words bits e = address_step (nat_eq words (2 ^ suc j)) j words bits (address_in j words) e

pub address_most : (words bits : ℕ) → address_bits_of words ≡ Some bits → (1 ≤ bits) × (bits ≤ 32)
unfolding address_bits_of
address_most words bits e = address_in 32 words bits e

pub bits_memory : (range : Range) (name : List ℕ) (j : ℕ) → (1 ≤ j) × (j ≤ 32) → HasBits (declare (Memory j) range name)
bits_memory None name j h = (omega arith, λ b m. (let t : 1 ≤ j = h.0 in let u : j ≤ 32 = h.1 in let e : j ≡ b = m in (omega arith, omega arith)))
bits_memory (Some high) name j h = (omega arith, λ b m. (let t : 1 ≤ j = h.0 in let u : j ≤ 32 = h.1 in let e : j ≡ b = m in (omega arith, omega arith)))

pub named_so : (kind : Kind) (range : Range) (name : List ℕ) → (declare kind range name).name ≡ name
named_so kind None name = refl
named_so kind (Some high) name = refl
