-- Declarations are judged by their demands.
use Rattle.std.proofs.Common.{◌≡◌, ℕ, ◌+◌, Bool, true, false, List, [], ◌∷◌, ◌++◌, map, length, Option, Some, None, Result, Ok, refl, sym, ap, subst, ◌∙◌, arith, append_assoc, length-append}
use Rattle.std.specs.Prelude.{◌||◌, not, nat_le, if◌then◌else◌}
use Rattle.std.specs.Option.{option_map_or}
use Rattle.std.specs.Str.{bytes_eq}
use Rattle.std.proofs.lemmas.List.{append-nil}
use Rattle.gl_bits.proofs.Bools.{bytes_both_ways}
use Rattle.gl_verilog.specs.Tokens.{Name}
use Rattle.gl_verilog.specs.Written.{Range, WrittenPort, spell_direction, spell_range, spell_port, spell_more_ports}
use Rattle.gl_verilog.specs.Module.{Declaration, Kind, Memory}
use Rattle.gl_verilog.specs.Resolve.{decimal_number, declare, declare_port, address_bits_of, declared_in}
use Rattle.gl_verilog_faults.specs.Demands.{ask, TwiceDeclared, TooWide, BadMemory, is_declared, is_among, of_declaration, of_names, of_ports, name_token, memory_declared, has_bits}
use Rattle.gl_verilog_faults.proofs.Declarations.{named_so}
use Rattle.gl_verilog_elaborator.specs.Judged.{Broken, then', asks, or_breaks}
use Rattle.gl_verilog_elaborator.specs.Elaborated.{Scope, with_declaration, is_new, declared, declared_all, port_token, Ported, declared_ports, declared_memory}
use Rattle.gl_verilog_elaborator.proofs.Demanded.{Is, is_then, is_ask, is_ask_as, is_weaker}

-- ---- names

declared_by : (b : Bool) (o : Option Declaration) (d : Declaration) (r : Bool) → option_map_or (λ x. true) o false ≡ r → option_map_or (λ x. true) (if b then Some d else o) false ≡ (b || r)
declared_by true o d r e = refl
declared_by false o d r e = e

pub declared_among : (ds : List Declaration) (name : List ℕ) → is_declared ds name ≡ is_among name (map (λ d. d.name) ds)
declared_among [] name = refl
declared_among (d ∷ ds) name = declared_by (bytes_eq d.name name) (declared_in ds name) d (is_among name (map (λ x. x.name) ds)) (declared_among ds name) ∙ ap (λ (b : Bool). b || is_among name (map (λ x. x.name) ds)) (bytes_both_ways d.name name)

-- ---- sizes

pub port_size : (p : WrittenPort) → length (spell_port p) ≡ name_token p + 1
port_size p = omega (arith, length-append (spell_direction p.direction) (spell_range p.range ++ Name p.name ∷ []), length-append (spell_range p.range) (Name p.name ∷ []))

-- ---- one declaration

pub declared_is : (s : Scope) (k : ℕ) (d : Declaration) → Is (of_declaration s.declarations k d) (λ r. r ≡ with_declaration s k d) (declared s k d)
declared_is s k d =
    is_ask_as TwiceDeclared k (is_new s d.name) (not (is_declared s.declarations d.name)) (ask TooWide k (nat_le d.width 128) ∷ []) (λ r. r ≡ with_declaration s k d) (asks TooWide k (nat_le d.width 128) (Ok (with_declaration s k d))) (ap not (declared_among s.declarations d.name)) (λ a.
    is_ask TooWide k (nat_le d.width 128) [] (λ r. r ≡ with_declaration s k d) (Ok (with_declaration s k d)) (λ b. (tt, refl)))

-- ---- names of one kind

-- the tokens of names with a comma between each two
abbrev pub names_tokens : ℕ → List (List ℕ) → List ℕ
names_tokens k [] = []
names_tokens k (n ∷ ns) = k ∷ names_tokens (k + 2) ns

pub record Adds (s : Scope) (ds : List Declaration) (ts : List ℕ) (r : Scope) : Type 0 where
  pub declarations : r.declarations ≡ s.declarations ++ ds
  pub tokens : r.tokens ≡ s.tokens ++ ts

pub all_declared_is : (kind : Kind) (range : Range) (names : List (List ℕ)) (s : Scope) (k : ℕ) → Is (of_names kind range s.declarations k names) (Adds s (map (declare kind range) names) (names_tokens k names)) (declared_all kind range s k names)
all_declared_is kind range [] s k = (tt, record { declarations = sym (append-nil s.declarations); tokens = sym (append-nil s.tokens) })
all_declared_is kind range (n ∷ ns) s k =
    is_then (of_declaration s.declarations k (declare kind range n)) (of_names kind range (s.declarations ++ declare kind range n ∷ []) (k + 2) ns) (λ r. r ≡ with_declaration s k (declare kind range n)) Q (declared s k (declare kind range n)) (λ s'. declared_all kind range s' (k + 2) ns) (declared_is s k (declare kind range n)) (λ r e.
    subst (λ (x : Scope). Is (of_names kind range (s.declarations ++ declare kind range n ∷ []) (k + 2) ns) Q (declared_all kind range x (k + 2) ns)) (sym e)
    (is_weaker (of_names kind range (s.declarations ++ declare kind range n ∷ []) (k + 2) ns) (Adds (with_declaration s k (declare kind range n)) (map (declare kind range) ns) (names_tokens (k + 2) ns)) Q (declared_all kind range (with_declaration s k (declare kind range n)) (k + 2) ns) (λ x a. record {
      declarations = a.declarations ∙ append_assoc s.declarations (declare kind range n ∷ []) (map (declare kind range) ns);
      tokens = a.tokens ∙ append_assoc s.tokens (k ∷ []) (names_tokens (k + 2) ns);
    }) (all_declared_is kind range ns (with_declaration s k (declare kind range n)) (k + 2))))
  where
    Q : Scope → Type 0
    Q = Adds s (map (declare kind range) (n ∷ ns)) (names_tokens k (n ∷ ns))

-- ---- a memory

declare_width : (a b : Kind) (range : Range) (name : List ℕ) → (declare a range name).width ≡ (declare b range name).width
declare_width a b None name = refl
declare_width a b (Some high) name = refl

-- the bits of the addresses are there
pub record AddsMemory (s : Scope) (k : ℕ) (range : Range) (name last : List ℕ) (r : Scope) : Type 0 where
  pub bits : ℕ
  pub there : address_bits_of (decimal_number last + 1) ≡ Some bits
  pub adds : r ≡ with_declaration s k (declare (Memory bits) range name)

pub memory_is : (s : Scope) (k : ℕ) (range : Range) (name last : List ℕ) → Is (of_declaration s.declarations k (memory_declared range name last) ++ ask BadMemory k (has_bits (address_bits_of (decimal_number last + 1))) ∷ []) (AddsMemory s k range name last) (declared_memory s k range name last)
memory_is s k range name last =
    is_ask_as TwiceDeclared k (is_new s name) (not (is_declared s.declarations (memory_declared range name last).name)) (ask TooWide k (nat_le (memory_declared range name last).width 128) ∷ ask BadMemory k (has_bits (address_bits_of (decimal_number last + 1))) ∷ []) (AddsMemory s k range name last) (asks TooWide k (nat_le (declare (Memory 0) range name).width 128) made) (ap (λ (n : List ℕ). not (is_declared s.declarations n)) (named_so _ range name) ∙ ap not (declared_among s.declarations name)) (λ a.
    is_ask_as TooWide k (nat_le (declare (Memory 0) range name).width 128) (nat_le (memory_declared range name last).width 128) (ask BadMemory k (has_bits (address_bits_of (decimal_number last + 1))) ∷ []) (AddsMemory s k range name last) made (ap (λ (w : ℕ). nat_le w 128) (declare_width _ (Memory 0) range name)) (λ b.
    by_bits (address_bits_of (decimal_number last + 1)) refl))
  where
    made : Result Scope Broken
    made = then' (or_breaks BadMemory k (address_bits_of (decimal_number last + 1))) (λ j. Ok (with_declaration s k (declare (Memory j) range name)))

    by_bits : (o : Option ℕ) → address_bits_of (decimal_number last + 1) ≡ o → Is (ask BadMemory k (has_bits o) ∷ []) (AddsMemory s k range name last) (then' (or_breaks BadMemory k o) (λ j. Ok (with_declaration s k (declare (Memory j) range name))))
    by_bits None e = refl
    by_bits (Some j) e = ((refl, tt), record { bits = j; there = e; adds = refl })

-- ---- ports

-- the tokens of the names of ports
abbrev pub ports_tokens : ℕ → List WrittenPort → List ℕ
ports_tokens k [] = []
ports_tokens k (p ∷ ps) = (k + name_token p) ∷ ports_tokens (k + length (spell_port p) + 1) ps

pub record AddsPorts (s : Scope) (k : ℕ) (ps : List WrittenPort) (r : Ported) : Type 0 where
  pub adds : Adds s (map declare_port ps) (ports_tokens k ps) r.scope
  pub end' : r.end ≡ k + length (spell_more_ports ps)

pub ports_is : (ps : List WrittenPort) (s : Scope) (k : ℕ) → Is (of_ports s.declarations k ps) (AddsPorts s k ps) (declared_ports s k ps)
ports_is [] s k = (tt, record { adds = record { declarations = sym (append-nil s.declarations); tokens = sym (append-nil s.tokens) }; end' = omega arith })
ports_is (p ∷ ps) s k =
    is_then (of_declaration s.declarations (k + name_token p) (declare_port p)) (of_ports (s.declarations ++ declare_port p ∷ []) (k + length (spell_port p) + 1) ps) (λ r. r ≡ with_declaration s (k + name_token p) (declare_port p)) Q _ _
    (declared_is s (k + name_token p) (declare_port p)) (λ r e.
    let next : port_token k p + 2 ≡ k + length (spell_port p) + 1 = (let b : length (spell_port p) ≡ name_token p + 1 = port_size p in omega arith) in
    subst (λ (x : Scope). Is (of_ports (s.declarations ++ declare_port p ∷ []) (k + length (spell_port p) + 1) ps) Q (declared_ports x (port_token k p + 2) ps)) (sym e)
    (subst (λ (n : ℕ). Is (of_ports (s.declarations ++ declare_port p ∷ []) (k + length (spell_port p) + 1) ps) Q (declared_ports (with_declaration s (k + name_token p) (declare_port p)) n ps)) (sym next)
    (is_weaker (of_ports (s.declarations ++ declare_port p ∷ []) (k + length (spell_port p) + 1) ps) (AddsPorts (with_declaration s (k + name_token p) (declare_port p)) (k + length (spell_port p) + 1) ps) Q (declared_ports (with_declaration s (k + name_token p) (declare_port p)) (k + length (spell_port p) + 1) ps) (λ x a. record {
      adds = record {
        declarations = a.adds.declarations ∙ append_assoc s.declarations (declare_port p ∷ []) (map declare_port ps);
        tokens = a.adds.tokens ∙ append_assoc s.tokens ((k + name_token p) ∷ []) (ports_tokens (k + length (spell_port p) + 1) ps);
      };
      end' = (let z : x.end ≡ k + length (spell_port p) + 1 + length (spell_more_ports ps) = a.end' in omega (arith, length-append (spell_port p) (spell_more_ports ps)));
    }) (ports_is ps (with_declaration s (k + name_token p) (declare_port p)) (k + length (spell_port p) + 1)))))
  where
    Q : Ported → Type 0
    Q = AddsPorts s k (p ∷ ps)
