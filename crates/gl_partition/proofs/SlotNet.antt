-- The parts of a slot together are its windows, and slots stand one behind another.
use Rattle.std.proofs.Common.{◌≡◌, ℕ, zero, suc, ◌+◌, ◌-◌, ◌*◌, ◌<◌, ◌≤◌, List, [], ◌∷◌, ◌++◌, length, Some, Bool, false, refl, sym, ap, ◌∙◌, subst, arith, inl, inr, length-append}
use Rattle.std.specs.Prelude.{slice_get, nat_eq, not, ◌&&◌, ◌||◌}
use Rattle.std.proofs.lemmas.Bool.{and_right, cases_lt}
use Rattle.std.proofs.Math.Nat.{mul-le-mul_right}
use Rattle.gl_net.specs.declared.node.Bus.{Bus}
use Rattle.gl_net.specs.declared.node.Bit.{Bit}
use Rattle.gl_net.specs.Net.{Net, Run, IsBit, Keeps}
use Rattle.gl_net.proofs.Determined.{keeps_then}
use Rattle.gl_net.proofs.Growth.{same_keeps}
use Rattle.gl_wire.specs.Gates.{IsGate}
use Rattle.gl_wire.specs.Wire.{line_at}
use Rattle.gl_wire_registers.specs.Counters.{IsPointer}
use Rattle.gl_wire_registers.specs.Held.{counted_down, held_at, turned}
use Rattle.gl_wire_registers.specs.Lines.{AreBits, line_of, pointed}
use Rattle.gl_wire_registers.proofs.LineLemmas.{bits_kept, line_of-behind, line_of-first, line_of-front}
use Rattle.gl_windows.specs.declared.parts.Opening.{Opening}
use Rattle.gl_windows.specs.declared.turns.OpenCopies.{OpenCopies}
use Rattle.gl_windows.specs.Parts.{AddsOpening, IsOpening, TakesOf}
use Rattle.gl_windows.specs.Turns.{AddsRotation, Rotating}
use Rattle.gl_partition.specs.declared.parts.Filled.{Filled}
use Rattle.gl_partition.specs.declared.slot.Chosen.{Chosen}
use Rattle.gl_partition.specs.declared.slot.SlotWindows.{SlotWindows}
use Rattle.gl_partition.specs.Fronts.{AddsSlots, HasSlot}
use Rattle.gl_partition.specs.Parts.{AddsFilled, AddsSlot, IsFilled, IsSlot}

-- ---- one slot

module _ (run : Run) (valid eos tail matches due own last : Bit) (size advance copies : ℕ) (some : 1 ≤ copies) (o : Opening) (g : Filled) (opened : Bus) (r : OpenCopies) (takes : List Bit)
    (is_own : (t : ℕ) → line_at run own t ≡ (line_at run valid t && line_at run matches t)) (is_last : (t : ℕ) → line_at run last t ≡ (line_at run tail t && line_at run matches t))
    (is_o : IsOpening run own eos 0 advance o) (is_g : IsFilled run own eos due size advance g)
    (is_opened : (t : ℕ) → (held_at 0 run opened t ≤ copies - 1) × (held_at 0 run opened (suc t) ≡ turned (copies - 1) (line_at run o.opens t) (held_at 0 run opened t)))
    (is_r : Rotating run copies 0 0 o.opens opened g.trigger r)
    (is_takes : (k t : ℕ) → k < copies → line_of run takes k t ≡ ((line_of run r.mids k t && (line_at run own t && not (line_at run eos t))) || (line_of run r.ends k t && line_at run last t))) where
  abbrev windows : SlotWindows
  windows = record { until = o.until; left = g.left; opened = opened; oldest = r.oldest; flags = r.flags; mids = r.mids; takes = takes; ends = r.ends }

  abbrev mine : ℕ → Bool
  mine t = line_at run valid t && line_at run matches t

  opens_is : (t : ℕ) → line_at run o.opens t ≡ (mine t && nat_eq (held_at 0 run o.until t) 0)
  opens_is t = is_o.opens t ∙ ap (λ b. b && nat_eq (held_at 0 run o.until t) 0) (is_own t)

  trigger_is : (t : ℕ) → line_at run g.trigger t ≡ ((mine t && nat_eq (held_at (size - 1) run g.left t) 0) || line_at run due t)
  trigger_is t = is_g.trigger t ∙ ap (λ b. (b && nat_eq (held_at (size - 1) run g.left t) 0) || line_at run due t) (is_own t)

  -- in the reset cycle no copy is open, and reset opens none
  flag_next : (k t : ℕ) → k < copies → line_of run r.flags k (suc t) ≡ (line_of run r.mids k t && not (line_of run r.ends k t))
  flag_next k zero l = is_r.flag_first k l ∙ and_right (nat_eq k (copies - 1)) false refl ∙ sym (ap (λ b. b && not (line_of run r.ends k 0)) (line_of-first run r.mids k))
  flag_next k (suc t) l = is_r.flag k t l

  mid_is : (k t : ℕ) → k < copies → line_of run r.mids k t ≡ (line_of run r.flags k t || ((mine t && nat_eq (held_at 0 run o.until t) 0) && nat_eq (held_at 0 run opened t) k))
  unfolding pointed
  mid_is k t l = is_r.mid k t l ∙ ap (λ b. line_of run r.flags k t || (b && nat_eq (held_at 0 run opened t) k)) (opens_is t)

  end_is : (k t : ℕ) → k < copies
      → line_of run r.ends k t ≡ ((((mine t && nat_eq (held_at (size - 1) run g.left t) 0) || line_at run due t) && nat_eq (held_at 0 run r.oldest t) k) && line_of run r.mids k t)
  unfolding pointed
  end_is k t l = is_r.end k t l ∙ ap (λ b. (b && nat_eq (held_at 0 run r.oldest t) k) && line_of run r.mids k t) (trigger_is t)

  slot_is : IsSlot run valid eos tail matches due size advance copies windows
  slot_is = record {
    next_until = λ t. is_o.next t ∙ ap (λ b. counted_down 0 (advance - 1) (line_at run eos t) b (held_at 0 run o.until t)) (is_own t);
    next_left = λ t. is_g.next t ∙ ap (λ b. counted_down (size - 1) (advance - 1) (line_at run eos t) b (held_at (size - 1) run g.left t)) (is_own t);
    next_opened = λ t. (is_opened t).1 ∙ ap (λ b. turned (copies - 1) b (held_at 0 run opened t)) (opens_is t);
    below = λ t. let l = is_r.below t in omega (arith, l, some);
    next_oldest = is_r.oldest;
    flag_first = λ k l. line_of-first run r.flags k;
    flag = flag_next;
    mid = mid_is;
    end = end_is;
    take = λ k t l.
        is_takes k t l ∙ ap (λ b. (line_of run r.mids k t && (b && not (line_at run eos t))) || (line_of run r.ends k t && line_at run last t)) (is_own t)
        ∙ ap (λ b. (line_of run r.mids k t && (mine t && not (line_at run eos t))) || (line_of run r.ends k t && b)) (is_last t);
  }

-- one after another the parts are a slot
module _ (n0 n1 n2 n3 n4 n5 n6 n7 : Net) (valid eos tail matches due own last : Bit) (size advance copies bits most : ℕ) (some : 1 ≤ copies) (few : bits ≤ 32) (most_is : most ≡ copies - 1)
    (o : Opening) (g : Filled) (opened : Bus) (r : OpenCopies) (takes : List Bit)
    (is_own : IsGate n0 n1 (λ x y. x && y) valid matches own) (is_last : IsGate n1 n2 (λ x y. x && y) tail matches last)
    (is_o : AddsOpening n2 n3 own eos 0 advance o) (is_g : AddsFilled n3 n4 own eos due size advance g) (is_p : IsPointer n4 n5 o.opens bits most opened)
    (is_r : AddsRotation n5 n6 copies 0 0 o.opens opened g.trigger r) (is_t : TakesOf n6 n7 own eos last r.mids r.ends takes) where
  k67 : Keeps n6 n7
  k67 = is_t.keeps

  k57 : Keeps n5 n7
  k57 = keeps_then n5 n6 n7 is_r.keeps k67

  k47 : Keeps n4 n7
  k47 = keeps_then n4 n5 n7 is_p.keeps k57

  k37 : Keeps n3 n7
  k37 = keeps_then n3 n4 n7 is_g.keeps k47

  k27 : Keeps n2 n7
  k27 = keeps_then n2 n3 n7 is_o.keeps k37

  k17 : Keeps n1 n7
  k17 = keeps_then n1 n2 n7 is_last.keeps k27

  pub slot_adds : AddsSlot n0 n7 valid eos tail matches due size advance copies
      (record { until = o.until; left = g.left; opened = opened; oldest = r.oldest; flags = r.flags; mids = r.mids; takes = takes; ends = r.ends })
  slot_adds = record {
    keeps = keeps_then n0 n1 n7 is_own.keeps k17;
    takes_count = is_t.count ∙ is_r.mids_count;
    takes = is_t.bits;
    ends_count = is_r.ends_count;
    ends = bits_kept n6 n7 r.ends k67 is_r.ends;
    cost = record {
      nodes = omega (arith, is_own.cost.nodes, is_last.cost.nodes, is_o.cost.nodes, is_g.cost.nodes, is_p.cost.nodes, is_r.cost.nodes, is_t.cost.nodes, is_r.mids_count);
      registers = omega (arith, is_own.cost.registers, is_last.cost.registers, is_o.cost.registers, is_g.cost.registers, is_p.cost.registers, is_r.cost.registers, is_t.cost.registers, is_o.few, is_g.few, few, is_p.width);
      memories = omega (arith, is_own.cost.memories, is_last.cost.memories, is_o.cost.memories, is_g.cost.memories, is_p.cost.memories, is_r.cost.memories, is_t.cost.memories);
    };
    law = λ run z.
        slot_is run valid eos tail matches due own last size advance copies some o g opened r takes
        (is_own.line run (k17.runs run z)) (is_last.line run (k27.runs run z)) (is_o.law run (k37.runs run z)) (is_g.law run (k47.runs run z))
        (subst (λ (n : ℕ). (t : ℕ) → (held_at 0 run opened t ≤ n) × (held_at 0 run opened (suc t) ≡ turned n (line_at run o.opens t) (held_at 0 run opened t))) most_is (is_p.next run (k57.runs run z)))
        (is_r.rotating run (k67.runs run z))
        (λ k t l. is_t.line run z k t (omega (arith, l, is_r.mids_count)));
  }

-- ---- slots one behind another

pub get_either : {A : Type 0} (bs cs : List A) (P : A → Type 0) → ((k : ℕ) (b : A) → slice_get bs k ≡ Some b → P b) → ((k : ℕ) (b : A) → slice_get cs k ≡ Some b → P b)
    → (k : ℕ) (b : A) → slice_get (bs ++ cs) k ≡ Some b → P b
get_either [] cs P left right k b h = right k b h
get_either (x ∷ bs) cs P left right zero b h = left zero b h
get_either (x ∷ bs) cs P left right (suc k) b h = get_either bs cs P (λ i. left (suc i)) right k b h

bits_both : (net : Net) (bs cs : List Bit) → AreBits net bs → AreBits net cs → AreBits net (bs ++ cs)
bits_both net bs cs p q = record { each = get_either bs cs (λ b. IsBit net b) p.each q.each }

-- a slot before another one is what it was, and the new one stands behind all
pub within : (n copies i k : ℕ) → i < n → k < copies → i * copies + k < n * copies
within n copies i k h l = let h' : i + 1 ≤ n = omega (arith, h) in let z = mul-le-mul_right copies h' in omega (arith, z, l)

slot_before : (run : Run) (valid eos tail x y : Bit) (size advance copies n i : ℕ) (r : Chosen) (ts es : List Bit) → length r.takes ≡ n * copies → length r.ends ≡ n * copies → i < n
    → HasSlot run valid eos tail x y size advance copies i r → HasSlot run valid eos tail x y size advance copies i (record { takes = r.takes ++ ts; ends = r.ends ++ es })
slot_before run valid eos tail x y size advance copies n i r ts es many_takes many_ends h w = record {
  own = w.own;
  is = w.is;
  takes = λ k t l. line_of-front run r.takes ts (i * copies + k) t (omega (arith, within n copies i k h l, many_takes)) ∙ w.takes k t l;
  ends = λ k t l. line_of-front run r.ends es (i * copies + k) t (omega (arith, within n copies i k h l, many_ends)) ∙ w.ends k t l;
}

slot_last : (run : Run) (valid eos tail x y : Bit) (size advance copies n i : ℕ) (r : Chosen) (s : SlotWindows) → length r.takes ≡ n * copies → length r.ends ≡ n * copies → i ≡ n
    → IsSlot run valid eos tail x y size advance copies s → HasSlot run valid eos tail x y size advance copies i (record { takes = r.takes ++ s.takes; ends = r.ends ++ s.ends })
slot_last run valid eos tail x y size advance copies n i r s many_takes many_ends at is = record {
  own = s;
  is = is;
  takes = λ k t l.
      (let e : i * copies + k ≡ length r.takes + k = ap (λ v. v * copies + k) at ∙ ap (λ v. v + k) (sym many_takes) in
      ap (λ v. line_of run (r.takes ++ s.takes) v t) e ∙ line_of-behind run r.takes s.takes k t);
  ends = λ k t l.
      (let e : i * copies + k ≡ length r.ends + k = ap (λ v. v * copies + k) at ∙ ap (λ v. v + k) (sym many_ends) in
      ap (λ v. line_of run (r.ends ++ s.ends) v t) e ∙ line_of-behind run r.ends s.ends k t);
}

pub slots_none : (net : Net) (valid eos tail : Bit) (matches dues : List Bit) (size advance copies : ℕ) → AddsSlots net net valid eos tail matches dues size advance copies 0 (record { takes = []; ends = [] })
slots_none net valid eos tail matches dues size advance copies = record {
  keeps = same_keeps net;
  takes_count = omega arith;
  takes = record { each = λ k b h. absurd (cc) };
  ends_count = omega arith;
  ends = record { each = λ k b h. absurd (cc) };
  cost = record { nodes = omega arith; registers = omega arith; memories = omega arith };
  each = λ run z i m d l. absurd (omega (arith, l));
}

pub slots_more : (old mid new : Net) (valid eos tail m d : Bit) (matches dues : List Bit) (size advance copies n : ℕ) (r : Chosen) (s : SlotWindows)
    → slice_get matches n ≡ Some m → slice_get dues n ≡ Some d
    → AddsSlots old mid valid eos tail matches dues size advance copies n r → AddsSlot mid new valid eos tail m d size advance copies s
    → AddsSlots old new valid eos tail matches dues size advance copies (n + 1) (record { takes = r.takes ++ s.takes; ends = r.ends ++ s.ends })
slots_more old mid new valid eos tail m d matches dues size advance copies n r s is_m is_d a b =
    let more : (n + 1) * copies ≡ n * copies + copies = omega arith in
    record {
      keeps = keeps_then old mid new a.keeps b.keeps;
      takes_count = omega (arith, more, length-append r.takes s.takes, a.takes_count, b.takes_count);
      takes = bits_both new r.takes s.takes (bits_kept mid new r.takes b.keeps a.takes) b.takes;
      ends_count = omega (arith, more, length-append r.ends s.ends, a.ends_count, b.ends_count);
      ends = bits_both new r.ends s.ends (bits_kept mid new r.ends b.keeps a.ends) b.ends;
      cost = record {
        nodes = omega (arith, a.cost.nodes, b.cost.nodes);
        registers = omega (arith, a.cost.registers, b.cost.registers);
        memories = omega (arith, a.cost.memories, b.cost.memories);
      };
      each = λ run z i x y l is_x is_y. elim (cases_lt i n) [
        | inl h ↦ slot_before run valid eos tail x y size advance copies n i r s.takes s.ends a.takes_count a.ends_count h (a.each run (b.keeps.runs run z) i x y h is_x is_y)
        | inr h ↦
            (let at : i ≡ n = omega (arith, l, h) in
            let same_m : x ≡ m = cc (at, is_x, is_m) in
            let same_d : y ≡ d = cc (at, is_y, is_d) in
            slot_last run valid eos tail x y size advance copies n i r s a.takes_count a.ends_count at
            (subst (λ (v : Bit). IsSlot run valid eos tail x v size advance copies s) (sym same_d) (subst (λ (v : Bit). IsSlot run valid eos tail v d size advance copies s) (sym same_m) (b.law run z))))
      ];
    }
