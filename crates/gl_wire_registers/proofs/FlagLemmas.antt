-- Registers with one reset value; and of one bit each, each driven by a line.
use Rattle.std.proofs.Common.{◌≡◌, ℕ, zero, suc, ◌*◌, ◌<◌, List, length, Some, refl, sym, ap, ◌∙◌, subst, arith, replicate}
use Rattle.std.specs.List.{sum}
use Rattle.std.specs.Option.{option_map}
use Rattle.std.specs.Prelude.{slice_get, map}
use Rattle.std.proofs.lemmas.List.Sums.{sum_by-cons}
use Rattle.std.proofs.lemmas.Option.{slice_get-map}
use Rattle.gl_bits.specs.Words.{Word}
use Rattle.gl_bits.proofs.AllLists.{get_below, get_there, get_unmapped, length_map}
use Rattle.gl_net.specs.declared.node.Bus.{Bus}
use Rattle.gl_net.specs.declared.node.Bit.{Bit}
use Rattle.gl_net.specs.Net.{Net, Run, IsRun, IsBit, IsBus, Value}
use Rattle.gl_wire.proofs.StageLemmas.{line_later}
use Rattle.gl_wire_registers.specs.Lines.{AreBits, line_of, to_bit, to_bus}
use Rattle.gl_wire_registers.specs.Registers.{DrivesAll, MayDrive, Opens, word_widths}
use Rattle.gl_wire_registers.proofs.LineLemmas.{line_of-get}

pub get_replicate : {A : Type 0} (n : ℕ) (x : A) (k : ℕ) → k < n → slice_get (replicate n x) k ≡ Some x
get_replicate zero x k l = absurd (omega (arith, l))
get_replicate (suc n) x zero l = refl
get_replicate (suc n) x (suc k) l = get_replicate n x k (omega (arith, l))

pub length_replicate : {A : Type 0} (n : ℕ) (x : A) → length (replicate n x) ≡ n
length_replicate zero x = refl
length_replicate (suc n) x = ap suc (length_replicate n x)

-- the bits of so many registers
pub same_bits : (n : ℕ) (w : Word) → sum (word_widths (replicate n w)) ≡ n * w.width
same_bits zero w = omega arith
same_bits (suc n) w = sum_by-cons (λ (y : ℕ). y) w.width (word_widths (replicate n w)) ∙ omega (arith, same_bits n w)

module _ (n0 n1 : Net) (n : ℕ) (w : Word) (regs : List Bus) (o : Opens n0 n1 (replicate n w) regs) where
  pub regs_count : length regs ≡ n
  regs_count = o.count ∙ length_replicate n w

  reset_at : (k : ℕ) (b : Bus) → slice_get regs k ≡ Some b → slice_get (replicate n w) k ≡ Some w
  reset_at k b h = get_replicate n w k (let l = get_below regs k b h in omega (arith, l, regs_count))

  pub reg_width : (k : ℕ) (b : Bus) → slice_get regs k ≡ Some b → b.width ≡ w.width
  reg_width k b h = o.widths k b w h (reset_at k b h)

  pub reg_start : (k : ℕ) (b : Bus) → slice_get regs k ≡ Some b → (run : Run) → IsRun n1 run → run.at 1 b.node ≡ w.bits
  reg_start k b h = o.start k b w h (reset_at k b h)

  -- flags, each driven by a line
  module _ (width : w.width ≡ 1) (bits : w.bits ≡ 0) where
    pub flags_are : AreBits n1 (map to_bit regs)
    flags_are = record {
      each = λ k x h.
          let m = get_unmapped to_bit regs k x h in
          subst (IsBit n1) m.2 (record { there = (o.each k m.0 m.1).there ∙ ap (λ (i : ℕ). Some (Value i)) (reg_width k m.0 m.1 ∙ width) });
    }

    module _ (n2 n3 : Net) (xs : List Bit) (many : length xs ≡ n) (are : AreBits n2 xs) where
      bit_bus : (x : Bit) → IsBit n2 x → IsBus n2 (to_bus x)
      bit_bus x i = record { there = i.there; width = record { some' = omega arith; most = omega arith } }

      pub flags_may : MayDrive n2 regs (map to_bus xs)
      flags_may = record {
        count = length_map to_bus xs ∙ many ∙ sym regs_count;
        each = λ k b h. let m = get_unmapped to_bus xs k b h in subst (IsBus n2) m.2 (bit_bus m.0 (are.each k m.0 m.1));
        widths = λ k b d h i. let m = get_unmapped to_bus xs k d i in ap (λ (x : Bus). x.width) (sym m.2) ∙ sym (reg_width k b h ∙ width);
      }

      pub flag_next : DrivesAll n2 n3 regs (map to_bus xs) → (run : Run) → IsRun n1 run → IsRun n3 run → (k t : ℕ) → k < n → line_of run (map to_bit regs) k (suc t) ≡ line_of run xs k t
      flag_next d run r1 r3 k t l =
          let at = get_there regs k (omega (arith, l, regs_count)) in
          let line = get_there xs k (omega (arith, l, many)) in
          let next : slice_get (map to_bus xs) k ≡ Some (to_bus line.0) = slice_get-map to_bus xs k ∙ ap (option_map to_bus) line.1 in
          line_of-get run (map to_bit regs) k (to_bit at.0) (suc t) (slice_get-map to_bit regs k ∙ ap (option_map to_bit) at.1)
          ∙ line_later run line.0 (to_bit at.0) (reg_start k at.0 at.1 run r1 ∙ bits) (λ u. d.value k at.0 (to_bus line.0) at.1 next run r3 u) t
          ∙ sym (line_of-get run xs k line.0 t line.1)
