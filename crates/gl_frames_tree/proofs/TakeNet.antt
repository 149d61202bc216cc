-- What a row changes in the parts of its node's word, and the word that is shown one cycle ahead.
use Rattle.std.proofs.Common.{◌≡◌, ℕ, zero, suc, ◌<◌, Bool, true, false, refl, sym, ap, ◌∙◌, arith}
use Rattle.std.specs.Prelude.{not, ◌&&◌, if◌then◌else◌, nat_eq}
use Rattle.gl_net.specs.declared.node.Bit.{Bit}
use Rattle.gl_net.specs.declared.node.Bus.{Bus}
use Rattle.gl_net.specs.Net.{Run, stored_of}
use Rattle.gl_wire.specs.Gates.{same_at}
use Rattle.gl_wire.specs.Wire.{line_at}
use Rattle.gl_wire_lanes.specs.Memories.{IsHeld}
use Rattle.gl_frames_tree.specs.declared.parts.Digit.{Digit}
use Rattle.gl_frames_tree.specs.declared.parts.Parts.{Parts}
use Rattle.gl_frames_tree.specs.declared.writing.Takes.{Takes}
use Rattle.gl_frames_tree.specs.declared.writing.Written.{Written}
use Rattle.gl_frames_tree.specs.LevelNets.{IsAhead, digit_at, digit_of, part_at, part_now, take_at}

-- ---- which part takes a child

three_line : (m h l : Bool) → ((m && h) && l) ≡ (m && nat_eq (digit_of h l) 3)
three_line true true true = refl
three_line true true false = refl
three_line true false true = refl
three_line true false false = refl
three_line false h l = refl

two_line : (m h l : Bool) → ((m && h) && not l) ≡ (m && nat_eq (digit_of h l) 2)
two_line true true true = refl
two_line true true false = refl
two_line true false true = refl
two_line true false false = refl
two_line false h l = refl

one_line : (m h l : Bool) → ((m && not h) && l) ≡ (m && nat_eq (digit_of h l) 1)
one_line true true true = refl
one_line true true false = refl
one_line true false true = refl
one_line true false false = refl
one_line false h l = refl

zero_line : (m h l : Bool) → ((m && not h) && not l) ≡ (m && nat_eq (digit_of h l) 0)
zero_line true true true = refl
zero_line true true false = refl
zero_line true false true = refl
zero_line true false false = refl
zero_line false h l = refl

module _ (run : Run) (make upper lower : Bit) (d : Digit) (zeroth first second third : Bit) (t : ℕ)
    (u : line_at run upper t ≡ (line_at run make t && line_at run d.high t)) (w : line_at run lower t ≡ (line_at run make t && not (line_at run d.high t)))
    (a0 : line_at run zeroth t ≡ (line_at run lower t && not (line_at run d.low t))) (a1 : line_at run first t ≡ (line_at run lower t && line_at run d.low t))
    (a2 : line_at run second t ≡ (line_at run upper t && not (line_at run d.low t))) (a3 : line_at run third t ≡ (line_at run upper t && line_at run d.low t)) where
  pub take_lines : (i : ℕ) → i < 4 → take_at run (record { zero = zeroth; one = first; two = second; three = third }) i t ≡ (line_at run make t && nat_eq (digit_at run d t) i)
  take_lines zero l = a0 ∙ ap (λ b. b && not (line_at run d.low t)) w ∙ zero_line (line_at run make t) (line_at run d.high t) (line_at run d.low t)
  take_lines (suc zero) l = a1 ∙ ap (λ b. b && line_at run d.low t) w ∙ one_line (line_at run make t) (line_at run d.high t) (line_at run d.low t)
  take_lines (suc (suc zero)) l = a2 ∙ ap (λ b. b && not (line_at run d.low t)) u ∙ two_line (line_at run make t) (line_at run d.high t) (line_at run d.low t)
  take_lines (suc (suc (suc zero))) l = a3 ∙ ap (λ b. b && line_at run d.low t) u ∙ three_line (line_at run make t) (line_at run d.high t) (line_at run d.low t)
  take_lines (suc (suc (suc (suc i)))) l = absurd (omega (arith, l))

-- ---- the parts

pub now_parts : (run : Run) (p out : Parts) (x : Takes) (mark t : ℕ) (fresh : Bool)
    → run.at t out.zero.node ≡ part_now (line_at run x.zero t) fresh mark (run.at t p.zero.node) → run.at t out.one.node ≡ part_now (line_at run x.one t) fresh mark (run.at t p.one.node)
    → run.at t out.two.node ≡ part_now (line_at run x.two t) fresh mark (run.at t p.two.node) → run.at t out.three.node ≡ part_now (line_at run x.three t) fresh mark (run.at t p.three.node)
    → (i : ℕ) → i < 4 → part_at run out i t ≡ part_now (take_at run x i t) fresh mark (part_at run p i t)
now_parts run p out x mark t fresh a0 a1 a2 a3 zero l = a0
now_parts run p out x mark t fresh a0 a1 a2 a3 (suc zero) l = a1
now_parts run p out x mark t fresh a0 a1 a2 a3 (suc (suc zero)) l = a2
now_parts run p out x mark t fresh a0 a1 a2 a3 (suc (suc (suc zero))) l = a3
now_parts run p out x mark t fresh a0 a1 a2 a3 (suc (suc (suc (suc i)))) l = absurd (omega (arith, l))

-- ---- the word that is shown

module _ (run : Run) (written : Written) (node next read ahead : Bus) (meets passes : Bit) (held : IsHeld run written.write node next written.word read)
    (meets_is : (t : ℕ) → line_at run meets t ≡ same_at run node next t) (passes_is : (t : ℕ) → line_at run passes t ≡ (line_at run written.write t && line_at run meets t))
    (ahead_is : (t : ℕ) → run.at (suc t) ahead.node ≡ (if line_at run passes (suc t) then run.at (suc t) written.word.node else run.at (suc t) read.node)) where
  next_word : (t k : ℕ) → (if line_at run written.write (suc t) && nat_eq (run.at (suc t) node.node) k then run.at (suc t) written.word.node else held.word (suc t) k) ≡ held.word (suc (suc t)) k
  unfolding line_at stored_of
  next_word t k = sym (held.writes (suc t) k)

  pub ahead_shows : IsAhead run written node next ahead
  ahead_shows = record {
    stored = held.word;
    shows = λ t. ahead_is t
        ∙ ap (λ (b : Bool). if b then run.at (suc t) written.word.node else run.at (suc t) read.node)
        (passes_is (suc t) ∙ ap (λ (b : Bool). line_at run written.write (suc t) && b) (meets_is (suc t)))
        ∙ ap (λ (x : ℕ). if line_at run written.write (suc t) && nat_eq (run.at (suc t) node.node) (run.at (suc t) next.node) then run.at (suc t) written.word.node else x) (held.reads (suc t))
        ∙ next_word t (run.at (suc t) next.node);
    writes = held.writes;
  }
