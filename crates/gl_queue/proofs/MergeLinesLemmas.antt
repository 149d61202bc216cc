-- Columns chosen one by one, and what a union's lines make.
use Rattle.std.proofs.Common.{◌≡◌, ℕ, zero, suc, ◌+◌, List, [], ◌∷◌, ◌++◌, length, get_or, Some, None, Bool, true, false, refl, sym, ap, ◌∙◌, subst, arith, length-append}
use mathlib.Core.Path.{fun_ext}
use Rattle.std.specs.Prelude.{is_some, not, ◌&&◌, ◌||◌, if◌then◌else◌, nat_eq}
use Rattle.gl_bits.specs.Words.{choose_of}
use Rattle.gl_net.specs.declared.node.Bus.{Bus}
use Rattle.gl_net.specs.declared.node.Bit.{Bit}
use Rattle.gl_net.specs.Net.{Net, Run, IsRun, IsBus, Keeps}
use Rattle.gl_net.proofs.Determined.{keeps_then}
use Rattle.gl_wire.specs.Wire.{widths, line_at, row_at, tuple_at}
use Rattle.gl_wire.proofs.ColumnLemmas.{row_at-push, AreBuses-push, AreBuses-none, buses_kept, widths-push}
use Rattle.gl_wire.proofs.StageLemmas.{line_later, line_first}
use Rattle.gl_wire.specs.declared.wire.Wire.{Wire}
use Rattle.gl_wire.specs.Wire.{carried}
use Rattle.gl_queue.specs.Queue.{IsQueue}
use Rattle.gl_queue.specs.Merging.{first_of, IsMerging}
use Rattle.gl_queue.specs.MergeLines.{AreChosen, AreChosenOf, AreWaiting}
use Rattle.gl_wire.specs.Costs.{Costs, nodes_alone}
use Rattle.gl_net.proofs.Growth.{same_keeps}

pub chosen_none : (net : Net) (test : Bit) → AreChosenOf net net test [] [] []
chosen_none net test = record {
  keeps = same_keeps net;
  cost = record { nodes = omega arith; registers = omega arith; memories = omega arith };
  buses = AreBuses-none net;
  same_widths = refl;
  chosen = λ run r. record { is = λ t. same run t (nat_eq (run.at t test.node) 1) };
}
  where
    same : (run : Run) (t : ℕ) (b : Bool) → row_at run t [] ≡ (if b then row_at run t [] else row_at run t [])
    same run t true = refl
    same run t false = refl

pub chosen_more : (old mid new : Net) (test : Bit) (ys ns ds : List Bus) (y n d : Bus) → AreChosenOf old mid test ys ns ds → Keeps mid new → Costs mid new (nodes_alone 1) → IsBus new d → d.width ≡ y.width → ((run : Run) → IsRun new run → (t : ℕ) → run.at t d.node ≡ choose_of (run.at t test.node) (run.at t y.node) (run.at t n.node)) → AreChosenOf old new test (ys ++ y ∷ []) (ns ++ n ∷ []) (ds ++ d ∷ [])
unfolding choose_of
chosen_more old mid new test ys ns ds y n d h g cost i width value = record {
  keeps = keeps_then old mid new h.keeps g;
  cost = record {
    nodes = omega (arith, h.cost.nodes, cost.nodes, ap length (widths-push ys y), length-append (widths ys) (y.width ∷ []));
    registers = omega (arith, h.cost.registers, cost.registers);
    memories = omega (arith, h.cost.memories, cost.memories);
  };
  buses = AreBuses-push new ds d (buses_kept mid new ds g h.buses) i;
  same_widths = widths-push ds d ∙ ap (λ l. l ++ d.width ∷ []) h.same_widths ∙ ap (λ x. widths ys ++ x ∷ []) width ∙ sym (widths-push ys y);
  chosen = λ run r. record {
    is = λ t. row_at-push run t ds d ∙ ap (λ l. l ++ run.at t d.node ∷ []) ((h.chosen run (g.runs run r)).is t) ∙ ap (λ v. (if nat_eq (run.at t test.node) 1 then row_at run t ys else row_at run t ns) ++ v ∷ []) (value run r t)
        ∙ both (nat_eq (run.at t test.node) 1) (row_at run t ys) (run.at t y.node) (row_at run t ns) (run.at t n.node)
        ∙ ap (λ l. if nat_eq (run.at t test.node) 1 then l else row_at run t ns ++ run.at t n.node ∷ []) (sym (row_at-push run t ys y)) ∙ ap (λ l. if nat_eq (run.at t test.node) 1 then row_at run t (ys ++ y ∷ []) else l) (sym (row_at-push run t ns n));
  };
}
  where
    both : (b : Bool) (xs : List ℕ) (x : ℕ) (zs : List ℕ) (z : ℕ) → (if b then xs else zs) ++ (if b then x else z) ∷ [] ≡ (if b then xs ++ x ∷ [] else zs ++ z ∷ [])
    both true xs x zs z = refl
    both false xs x zs z = refl

-- the flags of a union
pub waiting_is : (run : Run) (left_end right_end left_some right_some left right ended left_empty end left_stays left_next right_stays right_next : Bit) → run.at 1 left.node ≡ 0 → run.at 1 right.node ≡ 0 → ((t : ℕ) → run.at (suc (suc t)) left.node ≡ run.at (suc t) left_next.node) → ((t : ℕ) → run.at (suc (suc t)) right.node ≡ run.at (suc t) right_next.node) → ((t : ℕ) → line_at run ended t ≡ line_at run left t && line_at run right t) → ((t : ℕ) → line_at run left_empty t ≡ line_at run ended t && not (line_at run left_some t)) → ((t : ℕ) → line_at run end t ≡ line_at run left_empty t && not (line_at run right_some t)) → ((t : ℕ) → line_at run left_stays t ≡ line_at run left t && not (line_at run end t)) → ((t : ℕ) → line_at run left_next t ≡ line_at run left_end t || line_at run left_stays t) → ((t : ℕ) → line_at run right_stays t ≡ line_at run right t && not (line_at run end t)) → ((t : ℕ) → line_at run right_next t ≡ line_at run right_end t || line_at run right_stays t) → AreWaiting run left_end right_end left_some right_some end
waiting_is run left_end right_end left_some right_some left right ended left_empty end left_stays left_next right_stays right_next l0 r0 ln rn e le en ls lx rs rx = record {
  left = line_at run left;
  right = line_at run right;
  leaves = λ t. en t ∙ rw (le t, e t) refl;
  left_first = line_first run left;
  right_first = line_first run right;
  left_next = λ t. line_later run left_next left l0 ln t ∙ rw (lx t, ls t) refl;
  right_next = λ t. line_later run right_next right r0 rn t ∙ rw (rx t, rs t) refl;
}

-- what either queue shows
pub shown_is : (run : Run) (valid left right : Bit) (ys ns outs : List Bus) → ((t : ℕ) → line_at run valid t ≡ line_at run left t || line_at run right t) → AreChosen run left ys ns outs → (c : ℕ) → tuple_at run valid outs c ≡ first_of (tuple_at run left ys c) (tuple_at run right ns c)
unfolding tuple_at line_at
shown_is run valid left right ys ns outs v h zero = refl
shown_is run valid left right ys ns outs v h (suc t) = rw (v (suc t), h.is (suc t)) (by (nat_eq (run.at (suc t) left.node) 1) (nat_eq (run.at (suc t) right.node) 1))
  where
    by : (x y : Bool) → (if x || y then Some (if x then row_at run (suc t) ys else row_at run (suc t) ns) else None) ≡ first_of (if x then Some (row_at run (suc t) ys) else None) (if y then Some (row_at run (suc t) ns) else None)
    by true y = refl
    by false true = refl
    by false false = refl

pub widths_at : (ys ns : List Bus) (i : ℕ) (d : Bus) → widths ys ≡ widths ns → (get_or ys i d).width ≡ (get_or ns i d).width
widths_at [] [] i d h = refl
widths_at [] (n ∷ ns) i d h = absurd (cc h)
widths_at (y ∷ ys) [] i d h = absurd (cc h)
widths_at (y ∷ ys) (n ∷ ns) zero d h = cc h
widths_at (y ∷ ys) (n ∷ ns) (suc i) d h = let t : widths ys ≡ widths ns = cc h in widths_at ys ns i d t

shown_some : (run : Run) (v : Bit) (bs : List Bus) (c : ℕ) → line_at run v c ≡ is_some (tuple_at run v bs c)
unfolding tuple_at
shown_some run v bs c = by (line_at run v c)
  where
    by : (b : Bool) → b ≡ is_some (if b then Some (row_at run c bs) else None)
    by true = refl
    by false = refl

-- the parts of a union make one
pub merging_is : (run : Run) (n m : ℕ) (left right out : Wire) (never some_a some_b passed_a passed_b passed : Bit) (cols_a cols_b : List Bus) → ((t : ℕ) → line_at run never t ≡ false) → IsQueue n (tuple_at run left.valid left.columns) (λ c. not (line_at run never c)) (tuple_at run some_a cols_a) (line_at run passed_a) → IsQueue m (tuple_at run right.valid right.columns) (λ c. not (line_at run some_a c)) (tuple_at run some_b cols_b) (line_at run passed_b) → ((t : ℕ) → line_at run out.valid t ≡ line_at run some_a t || line_at run some_b t) → AreChosen run some_a cols_a cols_b out.columns → AreWaiting run left.eos right.eos some_a some_b out.eos → ((t : ℕ) → line_at run passed t ≡ line_at run passed_a t || line_at run passed_b t) → IsMerging n m (line_at run passed) (carried run left) (carried run right) (carried run out)
merging_is run n m left right out never some_a some_b passed_a passed_b passed cols_a cols_b low qa qb valid chosen w told = record {
  passed_a = line_at run passed_a;
  passed_b = line_at run passed_b;
  tells = told;
  left = tuple_at run some_a cols_a;
  right = tuple_at run some_b cols_b;
  wait_a = w.left;
  wait_b = w.right;
  queue_a = subst (λ g. IsQueue n (tuple_at run left.valid left.columns) g (tuple_at run some_a cols_a) (line_at run passed_a)) (fun_ext (λ c. ap not (low c))) qa;
  queue_b = subst (λ g. IsQueue m (tuple_at run right.valid right.columns) g (tuple_at run some_b cols_b) (line_at run passed_b)) (fun_ext (λ c. ap not (shown_some run some_a cols_a c))) qb;
  out = shown_is run out.valid some_a some_b cols_a cols_b out.columns valid chosen;
  leaves = λ c. w.leaves c ∙ rw (shown_some run some_a cols_a c, shown_some run some_b cols_b c) refl;
  first_a = w.left_first;
  first_b = w.right_first;
  next_a = w.left_next;
  next_b = w.right_next;
}
