-- Registers that keep rows, and what a joiner's lines make.
use Rattle.std.proofs.Common.{◌≡◌, ℕ, zero, suc, ◌+◌, List, [], ◌∷◌, ◌++◌, length, Some, None, Bool, true, false, refl, sym, ap, ◌∙◌, arith, length-append}
use Rattle.std.specs.Prelude.{not, ◌&&◌, ◌||◌, if◌then◌else◌}
use Rattle.std.specs.List.{sum}
use Rattle.std.proofs.lemmas.List.Sums.{sum_by-append}
use Rattle.gl_bits.proofs.Options.{some_same}
use Rattle.gl_values.specs.Results.{Row}
use Rattle.gl_bits.specs.Words.{choose_of}
use Rattle.gl_net.specs.declared.node.Bus.{Bus}
use Rattle.gl_net.specs.declared.node.Bit.{Bit}
use Rattle.gl_net.specs.Net.{Net, Run}
use Rattle.gl_net.proofs.Determined.{keeps_then}
use Rattle.gl_net.proofs.Growth.{same_keeps}
use Rattle.gl_wire.specs.declared.wire.Wire.{Wire}
use Rattle.gl_wire.specs.Shapes.{IsDelayed}
use Rattle.gl_wire.specs.Wire.{carried, line_at, row_at, tuple_at, widths, wire_of}
use Rattle.gl_wire.proofs.ColumnLemmas.{AreBuses-none, AreBuses-push, buses_kept, row_at-append, row_at-none, row_at-push, sum-one, widths-push}
use Rattle.gl_wire.proofs.StageLemmas.{line_first, line_later, no_line, tuple_by}
use Rattle.gl_queue.specs.Joining.{IsJoiner}
use Rattle.gl_queue.specs.JoinLines.{AreKept, AreWaitingBoth, IsKept}

pub kept_value : (run : Run) (valid : Bit) (column kept next : Bus) → ((t : ℕ) → run.at (suc (suc t)) kept.node ≡ run.at (suc t) next.node)
    → ((t : ℕ) → run.at t next.node ≡ choose_of (run.at t valid.node) (run.at t column.node) (run.at t kept.node))
    → (t : ℕ) → run.at (suc (suc t)) kept.node ≡ (if line_at run valid (suc t) then run.at (suc t) column.node else run.at (suc t) kept.node)
unfolding choose_of line_at
kept_value run valid column kept next later chosen t = later t ∙ chosen (suc t)

pub kept_none : (net : Net) (valid : Bit) → AreKept net net valid [] []
kept_none net valid = record {
  keeps = same_keeps net;
  cost = record { nodes = omega arith; registers = omega arith; memories = omega arith };
  buses = AreBuses-none net;
  same_widths = refl;
  row = λ run r t. row_at-none run (suc (suc t)) ∙ same (line_at run valid (suc t)) ∙ ap (λ (x : Row). if line_at run valid (suc t) then x else x) (sym (row_at-none run (suc t)));
}
  where
    nil : List ℕ
    nil = []

    same : (b : Bool) → nil ≡ (if b then nil else nil)
    same true = refl
    same false = refl

pub kept_more : (old mid new : Net) (valid : Bit) (cs ds : List Bus) (c d : Bus) → AreKept old mid valid cs ds → IsKept mid new valid c d → AreKept old new valid (cs ++ c ∷ []) (ds ++ d ∷ [])
kept_more old mid new valid cs ds c d h g = record {
  keeps = keeps_then old mid new h.keeps g.keeps;
  cost = record {
    nodes = omega (arith, h.cost.nodes, g.cost.nodes, long);
    registers = omega (arith, h.cost.registers, g.cost.registers, wide);
    memories = omega (arith, h.cost.memories, g.cost.memories);
  };
  buses = AreBuses-push new ds d (buses_kept mid new ds g.keeps h.buses) g.bus;
  same_widths = widths-push ds d ∙ ap (λ l. l ++ d.width ∷ []) h.same_widths ∙ ap (λ x. widths cs ++ x ∷ []) g.same_width ∙ sym (widths-push cs c);
  row = λ run r t.
      row_at-push run (suc (suc t)) ds d ∙ ap (λ (l : Row). l ++ run.at (suc (suc t)) d.node ∷ []) (h.row run (g.keeps.runs run r) t)
      ∙ ap (λ (v : ℕ). (if line_at run valid (suc t) then row_at run (suc t) cs else row_at run (suc t) ds) ++ v ∷ []) (g.value run r t)
      ∙ both (line_at run valid (suc t)) (row_at run (suc t) cs) (run.at (suc t) c.node) (row_at run (suc t) ds) (run.at (suc t) d.node)
      ∙ ap (λ (l : Row). if line_at run valid (suc t) then l else row_at run (suc t) ds ++ run.at (suc t) d.node ∷ []) (sym (row_at-push run (suc t) cs c))
      ∙ ap (λ (l : Row). if line_at run valid (suc t) then row_at run (suc t) (cs ++ c ∷ []) else l) (sym (row_at-push run (suc t) ds d));
}
  where
    long : length (widths (cs ++ c ∷ [])) ≡ length (widths cs) + 1
    long = ap length (widths-push cs c) ∙ length-append (widths cs) (c.width ∷ [])

    wide : sum (widths (cs ++ c ∷ [])) ≡ sum (widths cs) + c.width
    wide = ap sum (widths-push cs c) ∙ sum_by-append (λ (x : ℕ). x) (widths cs) (c.width ∷ []) ∙ ap (λ (n : ℕ). sum (widths cs) + n) (sum-one c.width)

    both : (b : Bool) (xs : List ℕ) (x : ℕ) (zs : List ℕ) (z : ℕ) → (if b then xs else zs) ++ (if b then x else z) ∷ [] ≡ (if b then xs ++ x ∷ [] else zs ++ z ∷ [])
    both true xs x zs z = refl
    both false xs x zs z = refl

pub waiting_both : (run : Run) (left_end right_end left right now left_stays left_next right_stays right_next : Bit) → run.at 1 left.node ≡ 0 → run.at 1 right.node ≡ 0
    → ((t : ℕ) → run.at (suc (suc t)) left.node ≡ run.at (suc t) left_next.node) → ((t : ℕ) → run.at (suc (suc t)) right.node ≡ run.at (suc t) right_next.node)
    → ((t : ℕ) → line_at run now t ≡ (line_at run left t && line_at run right t))
    → ((t : ℕ) → line_at run left_stays t ≡ (line_at run left t && not (line_at run now t))) → ((t : ℕ) → line_at run left_next t ≡ (line_at run left_end t || line_at run left_stays t))
    → ((t : ℕ) → line_at run right_stays t ≡ (line_at run right t && not (line_at run now t))) → ((t : ℕ) → line_at run right_next t ≡ (line_at run right_end t || line_at run right_stays t))
    → AreWaitingBoth run left_end right_end now
waiting_both run left_end right_end left right now left_stays left_next right_stays right_next l0 r0 ln rn is ls lx rs rx = record {
  left = line_at run left;
  right = line_at run right;
  is = is;
  left_first = line_first run left;
  right_first = line_first run right;
  left_next = λ t. line_later run left_next left l0 ln t ∙ rw (lx t, ls t, is t) refl;
  right_next = λ t. line_later run right_next right r0 rn t ∙ rw (rx t, rs t, is t) refl;
}

-- a tuple's line and row
row_of : (run : Run) (v : Bit) (bs : List Bus) (c : ℕ) (r : Row) → tuple_at run v bs c ≡ Some r → (line_at run v c ≡ true) × (row_at run c bs ≡ r)
row_of run v bs c r h = by (line_at run v c) refl (sym (tuple_by run v bs c) ∙ h)
  where
    by : (b : Bool) → line_at run v c ≡ b → (if line_at run v c then Some (row_at run c bs) else None) ≡ Some r → (line_at run v c ≡ true) × (row_at run c bs ≡ r)
    by true p q = (p, (let z : Some (row_at run c bs) ≡ Some r = rw p at q in some_same (row_at run c bs) r z))
    by false p q = absurd (let z : None ≡ Some r = rw p at q in cc z)

-- a row taken, and kept
module _ (run : Run) (v : Bit) (bs kept : List Bus) (row : (t : ℕ) → row_at run (suc (suc t)) kept ≡ (if line_at run v (suc t) then row_at run (suc t) bs else row_at run (suc t) kept)) where
  row_taken : (c : ℕ) (r : Row) → tuple_at run v bs c ≡ Some r → row_at run (suc c) kept ≡ r
  row_taken zero r h = absurd (let z = (row_of run v bs zero r h).0 in let y = line_first run v in cc (z, y))
  row_taken (suc c) r h = let z = row_of run v bs (suc c) r h in row c ∙ ap (λ (b : Bool). if b then row_at run (suc c) bs else row_at run (suc c) kept) z.0 ∙ z.1

  row_stays : (c : ℕ) → tuple_at run v bs (suc c) ≡ None → row_at run (suc (suc c)) kept ≡ row_at run (suc c) kept
  row_stays c h = row c ∙ ap (λ (b : Bool). if b then row_at run (suc c) bs else row_at run (suc c) kept) (no_line run v bs (suc c) h)

pub joiner_is : (run : Run) (a b o : Wire) (now : Bit) (first second : List Bus) → AreWaitingBoth run a.eos b.eos now
    → ((t : ℕ) → row_at run (suc (suc t)) first ≡ (if line_at run a.valid (suc t) then row_at run (suc t) a.columns else row_at run (suc t) first))
    → ((t : ℕ) → row_at run (suc (suc t)) second ≡ (if line_at run b.valid (suc t) then row_at run (suc t) b.columns else row_at run (suc t) second))
    → IsDelayed 1 (carried run (wire_of now now (first ++ second))) (carried run o) → IsJoiner (carried run a) (carried run b) (carried run o)
joiner_is run a b o now first second w row_a row_b d = record {
  wait_a = w.left;
  wait_b = w.right;
  row_a = λ c. row_at run c first;
  row_b = λ c. row_at run c second;
  first_a = w.left_first;
  first_b = w.right_first;
  next_a = w.left_next;
  next_b = w.right_next;
  taken_a = row_taken run a.valid a.columns first row_a;
  taken_b = row_taken run b.valid b.columns second row_b;
  kept_a = row_stays run a.valid a.columns first row_a;
  kept_b = row_stays run b.valid b.columns second row_b;
  out_first = d.before 0 (omega arith);
  ends_first = d.no_end 0 (omega arith);
  out = λ c.
      let e : c + 1 ≡ suc c = omega arith in
      ap (tuple_at run o.valid o.columns) (sym e) ∙ d.tuples c ∙ tuple_by run now (first ++ second) c
      ∙ ap (λ (x : Bool). if x then Some (row_at run c (first ++ second)) else None) (w.is c)
      ∙ ap (λ (r : Row). if w.left c && w.right c then Some r else None) (row_at-append run c first second);
  ends = λ c. let e : c + 1 ≡ suc c = omega arith in ap (line_at run o.eos) (sym e) ∙ d.ends c ∙ w.is c;
}
