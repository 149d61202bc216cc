-- The lines of copies in a tree, and their wires.
use Rattle.std.proofs.Common.{◌≡◌, ℕ, zero, suc, ◌+◌, ◌-◌, ◌*◌, ◌<◌, ◌≤◌, List, [], ◌∷◌, ◌++◌, length, Some, Bool, false, ◌||◌, refl, sym, ap, ◌∙◌, subst, arith, length-append}
use Rattle.std.specs.Prelude.{slice_get, nat_eq}
use Rattle.gl_bits.proofs.AllLists.{length_map, get_front, get_unmapped}
use Rattle.gl_bits.proofs.Bools.{or_join, or_none}
use Rattle.gl_net.specs.declared.node.Bit.{Bit}
use Rattle.gl_net.specs.declared.node.Bus.{Bus}
use Rattle.gl_net.specs.Net.{Net, Run, Keeps}
use Rattle.gl_net.proofs.Determined.{keeps_then}
use Rattle.gl_net.proofs.Growth.{same_keeps}
use Rattle.gl_wire.specs.declared.emitted.Emitted.{Emitted}
use Rattle.gl_wire.specs.declared.emitted.Faults.{Faults}
use Rattle.gl_wire.specs.declared.wire.Wire.{Wire}
use Rattle.gl_wire.specs.Faults.{AreBoth, AreLines, line_of}
use Rattle.gl_wire.specs.Shapes.{IsDelayed}
use Rattle.gl_wire.specs.Spills.{Lines}
use Rattle.gl_wire.specs.Wire.{AreBuses, IsWire, carried, line_at, widths}
use Rattle.gl_wire.proofs.ColumnLemmas.{buses_kept, wire_kept}
use Rattle.gl_wire.proofs.FaultLemmas.{lines_kept}
use Rattle.gl_wire.specs.Lift.{tuple_of_any}
use Rattle.gl_wire.specs.Rotates.{any_of}
use Rattle.gl_wire_registers.specs.Backs.{AreWires, JoinsCopies}
use Rattle.gl_wire_registers.specs.Joins.{AreCopies, HaveLines, JoinsAll, JoinsAlone, JoinsLines, columns_of, faults_of, gives_of, told_of, wires_of}
use Rattle.gl_wire_registers.proofs.BackLemmas.{merge_within}
use Rattle.gl_wire_registers.proofs.HalfLemmas.{get_behind}

pub or_more : (s a x y z : Bool) → z ≡ (y || x) → y ≡ (s || a) → z ≡ (s || (a || x))
or_more s a x y z h k = h ∙ ap (λ q. q || x) k ∙ or_join s a x

pub lines_none : (net : Net) (source : Faults) (copies : List Emitted) → AreLines net source → length copies ≡ 0 → JoinsLines net net source copies (length copies) source
lines_none net source [] are none = record {
  keeps = same_keeps net;
  cost = record { nodes = omega arith; registers = omega arith; memories = omega arith };
  are = are;
  told = λ run r. record {
    passed = λ c. sym (or_none (line_of run source.passed c));
    further = λ c. sym (or_none (line_of run source.further c));
  };
}
lines_none net source (e ∷ es) are none = absurd (omega (arith, none))

pub some_copies : (n : ℕ) → nat_eq n 0 ≡ false → 1 ≤ n
some_copies zero h = absurd (cc)
some_copies (suc n) h = omega arith

-- ---- the lines of copies in a tree

any_of-same : (f g : ℕ → Bool) (n : ℕ) → ((k : ℕ) → k < n → f k ≡ g k) → any_of f n ≡ any_of g n
any_of-same f g zero h = refl
any_of-same f g (suc n) h = let a = any_of-same f g n (λ k l. h k (omega (arith, l))) in let b = h n (omega arith) in rw (a, b) refl

any_of-split : (f : ℕ → Bool) (m n : ℕ) → any_of f (m + n) ≡ (any_of f m || any_of (λ k. f (m + k)) n)
any_of-split f m zero = let e : m + 0 ≡ m = omega arith in ap (any_of f) e ∙ sym (or_none (any_of f m))
any_of-split f m (suc n) =
    let e : m + suc n ≡ suc (m + n) = omega arith in
    ap (any_of f) e ∙ ap (λ b. b || f (m + n)) (any_of-split f m n) ∙ or_join (any_of f m) (any_of (λ k. f (m + k)) n) (f (m + n))

told_front : (run : Run) (es fs : List Emitted) (k : ℕ) → k < length es → told_of run (es ++ fs) k ≡ told_of run es k
told_front run [] fs k l = absurd (omega (arith, l))
told_front run (e ∷ es) fs zero l = refl
told_front run (e ∷ es) fs (suc k) l = told_front run es fs k (omega (arith, l))

told_behind : (run : Run) (es fs : List Emitted) (k : ℕ) → told_of run (es ++ fs) (length es + k) ≡ told_of run fs k
told_behind run [] fs k = let e : 0 + k ≡ k = omega arith in ap (told_of run fs) e
told_behind run (e ∷ es) fs k = let one : suc (length es) + k ≡ suc (length es + k) = omega arith in ap (told_of run (e ∷ es ++ fs)) one ∙ told_behind run es fs k

-- one line of each copy
line_halves : (run : Run) (es fs : List Emitted) (line : Lines → Bool)
    → any_of (λ k. line (told_of run (es ++ fs) k)) (length (es ++ fs)) ≡ (any_of (λ k. line (told_of run es k)) (length es) || any_of (λ k. line (told_of run fs k)) (length fs))
line_halves run es fs line =
    ap (any_of (λ k. line (told_of run (es ++ fs) k))) (length-append es fs) ∙ any_of-split (λ k. line (told_of run (es ++ fs) k)) (length es) (length fs)
    ∙ ap (λ b. b || any_of (λ k. line (told_of run (es ++ fs) (length es + k))) (length fs))
    (any_of-same (λ k. line (told_of run (es ++ fs) k)) (λ k. line (told_of run es k)) (length es) (λ k l. ap line (told_front run es fs k l)))
    ∙ ap (λ b. any_of (λ k. line (told_of run es k)) (length es) || b)
    (any_of-same (λ k. line (told_of run (es ++ fs) (length es + k))) (λ k. line (told_of run fs k)) (length fs) (λ k l. ap line (told_behind run es fs k)))

pub have_part : (net : Net) (es fs : List Emitted) → HaveLines net (es ++ fs) → HaveLines net es × HaveLines net fs
have_part net es fs h = (record { each = λ k e at. h.each k e (get_front es fs k e at) }, record { each = λ k e at. h.each (length es + k) e (get_behind es fs k e at) })

pub have_kept : (old new : Net) (es : List Emitted) → Keeps old new → HaveLines old es → HaveLines new es
have_kept old new es keeps h = record { each = λ k e at. lines_kept old new e.faults keeps (h.each k e at) }

pub alone_few : (net : Net) (copies : List Emitted) → HaveLines net copies → length copies < 2 → JoinsAlone net net copies (faults_of copies)
alone_few net [] h l = record {
  keeps = same_keeps net;
  cost = record { nodes = omega arith; registers = omega arith; memories = omega arith };
  are = record { passed = tt; further = tt };
  told = λ run r. record { passed = λ c. refl; further = λ c. refl };
}
alone_few net (e ∷ []) h l = record {
  keeps = same_keeps net;
  cost = record { nodes = omega arith; registers = omega arith; memories = omega arith };
  are = h.each 0 e refl;
  told = λ run r. record { passed = λ c. refl; further = λ c. refl };
}
alone_few net (e ∷ f ∷ es) h l = absurd (omega (arith, l))

pub alone_both : (n0 n1 n2 n3 : Net) (es fs : List Emitted) (left right faults : Faults) → 1 ≤ length es → 1 ≤ length fs → JoinsAlone n0 n1 es left → JoinsAlone n1 n2 fs right → AreBoth n2 n3 left right faults
    → JoinsAlone n0 n3 (es ++ fs) faults
alone_both n0 n1 n2 n3 es fs left right faults some_left some_right a b g = record {
  keeps = keeps_then n0 n1 n3 a.keeps (keeps_then n1 n2 n3 b.keeps g.keeps);
  cost = record {
    nodes = omega (arith, a.cost.nodes, b.cost.nodes, g.cost.nodes, length-append es fs, some_left, some_right);
    registers = omega (arith, a.cost.registers, b.cost.registers, g.cost.registers);
    memories = omega (arith, a.cost.memories, b.cost.memories, g.cost.memories);
  };
  are = g.are;
  told = λ run r.
      let at_b = g.keeps.runs run r in
      let of_left = a.told run (b.keeps.runs run at_b) in
      let of_right = b.told run at_b in
      let both = g.lines run r in
      record {
        passed = λ c.
            both.passed c ∙ ap (λ q. q || line_of run right.passed c) (of_left.passed c) ∙ ap (λ q. any_of (λ k. (told_of run es k).passed c) (length es) || q) (of_right.passed c)
            ∙ sym (line_halves run es fs (λ l. l.passed c));
        further = λ c.
            both.further c ∙ ap (λ q. q || line_of run right.further c) (of_left.further c) ∙ ap (λ q. any_of (λ k. (told_of run es k).further c) (length es) || q) (of_right.further c)
            ∙ sym (line_halves run es fs (λ l. l.further c));
      };
}

pub lines_joined : (n0 n1 n2 : Net) (source own faults : Faults) (copies : List Emitted) → 1 ≤ length copies → JoinsAlone n0 n1 copies own → AreBoth n1 n2 source own faults
    → JoinsLines n0 n2 source copies (length copies) faults
lines_joined n0 n1 n2 source own faults copies some h b = record {
  keeps = keeps_then n0 n1 n2 h.keeps b.keeps;
  cost = record {
    nodes = omega (arith, h.cost.nodes, b.cost.nodes, some);
    registers = omega (arith, h.cost.registers, b.cost.registers);
    memories = omega (arith, h.cost.memories, b.cost.memories);
  };
  are = b.are;
  told = λ run r.
      let before = h.told run (b.keeps.runs run r) in
      let both = b.lines run r in
      record {
        passed = λ c. both.passed c ∙ ap (λ q. line_of run source.passed c || q) (before.passed c);
        further = λ c. both.further c ∙ ap (λ q. line_of run source.further c || q) (before.further c);
      };
}

-- ---- wires

pub wires_push : (es : List Emitted) (e : Emitted) (ws : List Wire) (w : Wire) → ws ≡ wires_of es → w ≡ e.wire → ws ++ w ∷ [] ≡ wires_of (es ++ e ∷ [])
wires_push es e ws w h k = ap (λ (l : List Wire). l ++ w ∷ []) h ∙ ap (λ (x : Wire). wires_of es ++ x ∷ []) k ∙ sym (pushed es)
  where
    pushed : (xs : List Emitted) → wires_of (xs ++ e ∷ []) ≡ wires_of xs ++ e.wire ∷ []
    pushed [] = refl
    pushed (x ∷ xs) = ap (λ (l : List Wire). x.wire ∷ l) (pushed xs)

-- copies stay in a netlist that grows
pub copies_kept : (old new : Net) (copies : List Emitted) → Keeps old new → AreCopies old copies → AreCopies new copies
copies_kept old new copies keeps h = record {
  each = λ k e at. wire_kept old new e.wire keeps (h.each k e at);
  same_widths = h.same_widths;
  lines = record { each = λ k e at. lines_kept old new e.faults keeps (h.lines.each k e at) };
}

are_wires : (net : Net) (copies : List Emitted) → AreCopies net copies → AreWires net (wires_of copies) (columns_of copies)
are_wires net copies h = record {
  each = λ k w e. let m = get_unmapped (λ (x : Emitted). x.wire) copies k w e in subst (IsWire net) m.2 (h.each k m.0 m.1);
  same_widths = λ k w e. let m = get_unmapped (λ (x : Emitted). x.wire) copies k w e in ap (λ (x : Wire). widths x.columns) (sym m.2) ∙ h.same_widths k m.0 m.1;
}

pub columns_at : (copies : List Emitted) (e : Emitted) → slice_get copies 0 ≡ Some e → columns_of copies ≡ widths e.wire.columns
columns_at [] e h = absurd (cc)
columns_at (x ∷ xs) e h = let q : x ≡ e = cc in ap (λ (y : Emitted). widths y.wire.columns) q

-- the wires of copies, and the columns of the first one, are in a netlist that grew
pub wires_there : (old new : Net) (copies : List Emitted) (e : Emitted) (ws : List Wire) (bs : List Bus) → Keeps old new → AreCopies old copies → slice_get copies 0 ≡ Some e → ws ≡ wires_of copies
    → bs ≡ e.wire.columns → AreWires new ws (widths bs)
wires_there old new copies e ws bs keeps h has is_ws is_bs =
    subst (λ (x : List Wire). AreWires new x (widths bs)) (sym is_ws)
    (subst (λ (x : List ℕ). AreWires new (wires_of copies) x) (columns_at copies e has ∙ sym (ap widths is_bs)) (are_wires new copies (copies_kept old new copies keeps h)))

pub columns_there : (old new : Net) (copies : List Emitted) (e : Emitted) (bs : List Bus) → Keeps old new → AreCopies old copies → slice_get copies 0 ≡ Some e → bs ≡ e.wire.columns → AreBuses new bs
columns_there old new copies e bs keeps h has is_bs = subst (AreBuses new) (sym is_bs) (buses_kept old new e.wire.columns keeps (h.each 0 e has).columns)

pub joins_all : (old mid new : Net) (source faults : Faults) (close : Bit) (copies : List Emitted) (e : Emitted) (ws : List Wire) (bs : List Bus) (w : Wire) → slice_get copies 0 ≡ Some e → ws ≡ wires_of copies
    → bs ≡ e.wire.columns → JoinsLines old mid source copies (length copies) faults → JoinsCopies mid new ws close (widths bs) w → JoinsAll old new source close copies (record { wire = w; faults = faults })
joins_all old mid new source faults close copies e ws bs w has is_ws is_bs h joined = record {
  keeps = keeps_then old mid new h.keeps j.keeps;
  cost = record {
    nodes = omega (arith, h.cost.nodes, j.cost.nodes, ap (λ (n : ℕ). n * (length (columns_of copies) + 1)) many, merge_within (length (wires_of copies)) (length (columns_of copies)));
    registers = omega (arith, h.cost.registers, j.cost.registers);
    memories = omega (arith, h.cost.memories, j.cost.memories);
  };
  wire = j.wire;
  same_widths = j.same_widths;
  lines = lines_kept mid new faults j.keeps h.are;
  told = λ run r. h.told run (j.keeps.runs run r);
  delayed = λ run r.
      subst (λ (n : ℕ). IsDelayed 1 (record { tuple = tuple_of_any (gives_of run copies) n; ends = line_at run close }) (carried run w)) many (j.delayed run r);
}
  where
    many : length (wires_of copies) ≡ length copies
    many = length_map (λ (x : Emitted). x.wire) copies

    j : JoinsCopies mid new (wires_of copies) close (columns_of copies) w
    j = subst (λ (x : List ℕ). JoinsCopies mid new (wires_of copies) close x w) (ap widths is_bs ∙ sym (columns_at copies e has))
        (subst (λ (x : List Wire). JoinsCopies mid new x close (widths bs) w) is_ws joined)
