-- What each part of a ring adds to a netlist, from what the builder's calls give.
use Rattle.std.proofs.Common.{◌≡◌, ℕ, suc, ◌+◌, ◌*◌, ◌%◌, ◌^◌, ◌<◌, List, [], ◌∷◌, ◌++◌, length, refl, sym, ap, ◌∙◌, arith, length-append}
use Rattle.std.specs.Prelude.{not, ◌&&◌, ◌||◌, if◌then◌else◌, nat_eq}
use Rattle.std.specs.List.{sum}
use Rattle.std.proofs.lemmas.List.Sums.{sum_by-append}
use Rattle.gl_bits.specs.Words.{choose_of, sum_of}
use Rattle.gl_net.specs.declared.node.Bus.{Bus}
use Rattle.gl_net.specs.declared.node.Bit.{Bit}
use Rattle.gl_net.specs.Net.{Net, Run}
use Rattle.gl_net.proofs.Determined.{keeps_then}
use Rattle.gl_net.proofs.Growth.{same_keeps}
use Rattle.gl_wire.specs.Gates.{same_at}
use Rattle.gl_wire.specs.Wire.{widths, line_at}
use Rattle.gl_wire.proofs.ColumnLemmas.{AreBuses-push, AreBuses-none, buses_kept, sum-one, widths-push}
use Rattle.gl_queue.specs.RingLines.{IsPointer, ArePlaces, IsPassed}
use Rattle.gl_wire_lanes.specs.Memories.{IsStored}
use Rattle.gl_queue.specs.Parts.{AreStored}
use Rattle.gl_queue.proofs.RingLinesLemmas.{held_none, held_more}

-- a register that takes the next place where the line is 1
pub pointer_is : (run : Run) (bits : ℕ) (step : Bit) (one place more next : Bus) → run.at 1 place.node ≡ 0
    → ((t : ℕ) → run.at (suc (suc t)) place.node ≡ run.at (suc t) next.node)
    → ((t : ℕ) → run.at t next.node ≡ choose_of (run.at t step.node) (run.at t more.node) (run.at t place.node))
    → ((t : ℕ) → run.at t more.node ≡ sum_of bits (run.at t place.node) (run.at t one.node))
    → ((t : ℕ) → run.at t one.node ≡ 1) → ((t : ℕ) → run.at t place.node < 2 ^ bits) → IsPointer run bits step place
unfolding choose_of sum_of line_at
pointer_is run bits step one place more next start later chosen sum is low = record {
  start = start;
  next = λ t. later t ∙ chosen (suc t) ∙ ap (λ n. if nat_eq (run.at (suc t) step.node) 1 then n else run.at (suc t) place.node) (sum (suc t) ∙ ap (λ n. (run.at (suc t) place.node + n) % 2 ^ bits) (is (suc t)));
  low = low;
}

pub stored_none : (net : Net) (bits : ℕ) (push : Bit) (tail head : Bus) → AreStored net net bits push tail head [] []
stored_none net bits push tail head = record {
  keeps = same_keeps net;
  cost = record { nodes = omega arith; registers = omega arith; memories = omega arith };
  buses = AreBuses-none net;
  same_widths = refl;
  held = λ run r. held_none run push tail head;
}

pub stored_more : (old mid new : Net) (bits : ℕ) (push : Bit) (tail head : Bus) (cs ds : List Bus) (c d : Bus) → AreStored old mid bits push tail head cs ds → IsStored mid new bits push tail head c d
    → AreStored old new bits push tail head (cs ++ c ∷ []) (ds ++ d ∷ [])
stored_more old mid new bits push tail head cs ds c d h g = record {
  keeps = keeps_then old mid new h.keeps g.keeps;
  cost = record {
    nodes = omega (arith, h.cost.nodes, g.cost.nodes, long);
    registers = omega (arith, h.cost.registers, g.cost.registers);
    memories = omega (arith, h.cost.memories, g.cost.memories, ap (λ (n : ℕ). 2 ^ bits * n) wide);
  };
  buses = AreBuses-push new ds d (buses_kept mid new ds g.keeps h.buses) g.bus;
  same_widths = widths-push ds d ∙ ap (λ l. l ++ d.width ∷ []) h.same_widths ∙ ap (λ x. widths cs ++ x ∷ []) g.same_width ∙ sym (widths-push cs c);
  held = λ run r. held_more run push tail head c d cs ds (h.held run (g.keeps.runs run r)) (g.held run r);
}
  where
    long : length (widths (cs ++ c ∷ [])) ≡ length (widths cs) + 1
    long = ap length (widths-push cs c) ∙ length-append (widths cs) (c.width ∷ [])

    wide : sum (widths (cs ++ c ∷ [])) ≡ sum (widths cs) + c.width
    wide = ap sum (widths-push cs c) ∙ sum_by-append (λ (x : ℕ). x) (widths cs) (c.width ∷ []) ∙ ap (λ (n : ℕ). sum (widths cs) + n) (sum-one c.width)

pub passed_is : (run : Run) (bits depth : ℕ) (push some pop meets full comes line : Bit) (head tail : Bus)
    → ((t : ℕ) → line_at run meets (suc t) ≡ nat_eq ((run.at (suc t) head.node + depth % 2 ^ bits) % 2 ^ bits) (run.at (suc t) tail.node))
    → ((t : ℕ) → line_at run full t ≡ line_at run some t && line_at run meets t) → ((t : ℕ) → line_at run comes t ≡ line_at run push t && line_at run full t)
    → ((t : ℕ) → line_at run line t ≡ line_at run comes t && not (line_at run pop t)) → IsPassed run bits depth push some pop line head tail
passed_is run bits depth push some pop meets full comes line head tail met filled coming lined = record {
  is = λ t. lined (suc t) ∙ rw (coming (suc t), filled (suc t), met t) refl;
}

pub places_are : (run : Run) (bits : ℕ) (push hold some pop last next : Bit) (head tail : Bus) → IsPointer run bits pop head → IsPointer run bits push tail
    → ((t : ℕ) → line_at run pop t ≡ line_at run some t && not (line_at run hold t))
    → ((t : ℕ) → line_at run last (suc t) ≡ nat_eq ((run.at (suc t) head.node + 1) % 2 ^ bits) (run.at (suc t) tail.node))
    → ((t : ℕ) → line_at run next t ≡ line_at run push t || (line_at run some t && not (line_at run pop t && line_at run last t))) → run.at 1 some.node ≡ 0
    → ((t : ℕ) → run.at (suc (suc t)) some.node ≡ run.at (suc t) next.node) → ArePlaces run bits push hold some pop head tail
unfolding line_at
places_are run bits push hold some pop last next head tail at_head at_tail popped lasts nexts first later = record {
  pops = popped;
  at_head = at_head;
  at_tail = at_tail;
  some_first = rw first refl;
  some_next = λ t. ap (λ n. nat_eq n 1) (later t) ∙ nexts (suc t) ∙ ap (λ b. line_at run push (suc t) || (line_at run some (suc t) && not (line_at run pop (suc t) && b))) (lasts t);
}

pub meeting_is : (run : Run) (bits number : ℕ) (head tail many end : Bus) (line : Bit) → ((t : ℕ) → run.at t many.node ≡ number)
    → ((t : ℕ) → run.at t end.node ≡ sum_of bits (run.at t head.node) (run.at t many.node)) → ((t : ℕ) → line_at run line t ≡ same_at run end tail t)
    → (t : ℕ) → line_at run line (suc t) ≡ nat_eq ((run.at (suc t) head.node + number) % 2 ^ bits) (run.at (suc t) tail.node)
unfolding sum_of
meeting_is run bits number head tail many end line is sum met t = met (suc t) ∙ rw (sum (suc t), is (suc t)) refl
