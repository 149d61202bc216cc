-- The lines of a rotation, from those of its parts; and its registers.
use Rattle.std.proofs.Common.{◌≡◌, ℕ, zero, suc, ◌+◌, ◌-◌, ◌*◌, ◌<◌, ◌≤◌, List, [], ◌∷◌, ◌++◌, length, Some, Bool, false, refl, sym, ap, ◌∙◌, subst, arith, inl, inr, length-append, replicate, take, drop}
use Rattle.std.specs.List.{sum}
use Rattle.std.specs.Option.{option_map}
use Rattle.std.specs.Prelude.{slice_get, slice_index_or, map, nat_eq, ◌&&◌, ◌||◌}
use Rattle.std.proofs.lemmas.Bool.{and_left, cases_lt, eq-eqb, ne_eqb}
use Rattle.gl_bits.specs.Words.{Word}
use Rattle.gl_net.specs.declared.node.Bus.{Bus}
use Rattle.gl_net.specs.declared.node.Bit.{Bit}
use Rattle.gl_net.specs.Net.{Net, Run, IsRun, IsBus, IsBit, Value}
use Rattle.gl_net.proofs.Determined.{keeps_then}
use Rattle.gl_wire.specs.Wire.{line_at}
use Rattle.gl_wire_registers.specs.Held.{held_at, turned}
use Rattle.gl_wire_registers.specs.declared.lines.LineOp.{LineOp}
use Rattle.gl_wire_registers.specs.declared.lines.LineOp.TheVariants.{Both, Either, ButNot}
use Rattle.gl_wire_registers.specs.Lines.{line_of, any_to, AreBits, AddsLine, AddsLines, pairs, pointed, any_line, gates_of, to_bit, to_bus}
use Rattle.gl_wire_registers.specs.Counters.{IsNextPointer}
use Rattle.gl_windows.specs.Turns.{Turns, Rotating, AddsRotation}
use Rattle.gl_windows.specs.declared.turns.Turn.{Turn}
use Rattle.std.proofs.lemmas.Option.{slice_get-map}
use Rattle.gl_net.proofs.Lists.{get_push_cases}
use Rattle.gl_bits.proofs.AllLists.{get_below, get_front, get_last, length_map, get_there, get_unmapped}
use Rattle.gl_wire_registers.specs.Registers.{word_widths, Opens, MayDrive, DrivesAll}
use Rattle.gl_wire_registers.proofs.CounterLemmas.{pointer_by}
use Rattle.gl_wire_registers.proofs.RegisterLemmas.{widths_more, get_take, closed_up, length_taken}
use Rattle.gl_wire_registers.proofs.LineLemmas.{bits_kept, gates_some, line_of-get, line_of-first}
use Rattle.gl_wire_registers.proofs.FlagLemmas.{get_replicate, length_replicate, same_bits}

pairs_by : (op : LineOp) (a b : Net) (n count : ℕ) (xs ys bs : List Bit) → AddsLines a b n 1 bs (pairs op xs ys) → n ≡ count → AddsLines a b count 1 bs (pairs op xs ys)
pairs_by op a b n count xs ys bs h e = subst (λ (m : ℕ). AddsLines a b m 1 bs (pairs op xs ys)) e h

module _ (n0 n1 n2 n3 n4 n5 n6 n7 : Net) (count : ℕ) (opens : Bit) (opened : Bus) (trigger : Bit) (flags : List Bit) (oldest : Bus) (news mids chosen ends kept : List Bit) (closes : Bit) (next : Bus) (last : ℕ)
    (flags_count : length flags ≡ count)
    (a : AddsLines n0 n1 count 3 news (pointed opens opened))
    (b' : AddsLines n1 n2 (length flags) 1 mids (pairs Either flags news))
    (c : AddsLines n2 n3 count 3 chosen (pointed trigger oldest))
    (d' : AddsLines n3 n4 (length chosen) 1 ends (pairs Both chosen mids))
    (e' : AddsLine n4 n5 (gates_of (length ends)) closes (any_line (length ends) ends))
    (g' : AddsLines n5 n6 (length mids) 1 kept (pairs ButNot mids ends))
    (point : IsNextPointer n6 n7 oldest closes last next) (last_is : last ≡ count - 1) (some : 1 ≤ count) where
  pub turns_of : Turns n0 n7 count opens opened trigger flags oldest (record { mids = mids; ends = ends; kept = kept; next = next })
  unfolding pairs any_line
  turns_of =
      let b = pairs_by Either n1 n2 (length flags) count flags news mids b' flags_count in
      let d = pairs_by Both n3 n4 (length chosen) count chosen mids ends d' c.count in
      let g = pairs_by ButNot n5 n6 (length mids) count mids ends kept g' b.count in
      let k67 = point.keeps in
      let k57 = keeps_then n5 n6 n7 g.keeps point.keeps in
      let k47 = keeps_then n4 n5 n7 e'.keeps k57 in
      let k37 = keeps_then n3 n4 n7 d.keeps k47 in
      let k27 = keeps_then n2 n3 n7 c.keeps k37 in
      let k17 = keeps_then n1 n2 n7 b.keeps k27 in
      record {
        keeps = keeps_then n0 n1 n7 a.keeps k17;
        mids = bits_kept n2 n7 mids k27 b.bits;
        ends = bits_kept n4 n7 ends k47 d.bits;
        kept = bits_kept n6 n7 kept k67 g.bits;
        mids_count = b.count;
        ends_count = d.count;
        kept_count = g.count;
        next = point.bus;
        next_width = point.width;
        cost = record { nodes = omega (arith, a.cost.nodes, b.cost.nodes, c.cost.nodes, d.cost.nodes, e'.cost.nodes, g.cost.nodes, point.cost.nodes, ap gates_of d.count, gates_some count some); registers = omega (arith, a.cost.registers, b.cost.registers, c.cost.registers, d.cost.registers, e'.cost.registers, g.cost.registers, point.cost.registers); memories = omega (arith, a.cost.memories, b.cost.memories, c.cost.memories, d.cost.memories, e'.cost.memories, g.cost.memories, point.cost.memories) };
        mid = λ run r k t l. b.line run (k27.runs run r) k t l ∙ ap (λ q. line_of run flags k t || q) (a.line run (k17.runs run r) k t l);
        end = λ run r k t l. d.line run (k47.runs run r) k t l ∙ ap (λ q. q && line_of run mids k t) (c.line run (k37.runs run r) k t l);
        stays = λ run r k t l. g.line run (k67.runs run r) k t l;
        turn = λ run r t l. point.next run r t (subst (λ (m : ℕ). run.at (suc t) oldest.node ≤ m) (sym last_is) l) ∙ ap (λ m. turned m (line_at run closes (suc t)) (run.at (suc t) oldest.node)) last_is ∙ ap (λ q. turned (count - 1) q (run.at (suc t) oldest.node)) (e'.line run (k57.runs run r) (suc t) ∙ ap (λ n. any_to n (λ k. line_of run ends k (suc t))) d.count);
      }

-- ---- the registers

take_get : {A : Type 0} (xs : List A) (n k : ℕ) (x : A) → slice_get xs k ≡ Some x → k < n → slice_get (take n xs) k ≡ Some x
take_get xs zero k x h l = absurd (omega (arith, l))
take_get [] (suc n) k x h l = absurd (cc)
take_get (y ∷ xs) (suc n) zero x h l = h
take_get (y ∷ xs) (suc n) (suc k) x h l = take_get xs n k x h (omega (arith, l))

pub any_false : (n : ℕ) (f : ℕ → Bool) → ((k : ℕ) → f k ≡ false) → any_to n f ≡ false
any_false zero f h = refl
any_false (suc n) f h = rw (any_false n f h, h n) refl

-- the words of the flags: one for each copy, that of the last one apart
abbrev pub flag_words : ℕ → Word → Word → List Word
flag_words others z l = replicate others z ++ l ∷ []

-- the bits of a flag for each copy and of a pointer
bits_of_words : (others bits : ℕ) (z l f : Word) → z.width ≡ 1 → l.width ≡ 1 → f.width ≡ bits → sum (word_widths (flag_words others z l ++ f ∷ [])) ≡ others + 1 + bits
bits_of_words others bits z l f hz hl hf =
    widths_more (flag_words others z l) f ∙ omega (arith, widths_more (replicate others z) l, same_bits others z, ap (λ n. others * n) hz, hl, hf)

module _ (n0 n1 : Net) (count last_number first_number : ℕ) (some : 1 ≤ count) (below : first_number < count) (zero_word last first : Word) (regs : List Bus) (opened : Bus)
    (zero_bits : zero_word.bits ≡ 0) (zero_width : zero_word.width ≡ 1) (last_bits : last.bits ≡ last_number) (last_width : last.width ≡ 1) (first_bits : first.bits ≡ first_number) (first_width : first.width ≡ opened.width)
    (o : Opens n0 n1 (flag_words (count - 1) zero_word last ++ first ∷ []) regs) where
  abbrev words : List Word
  words = flag_words (count - 1) zero_word last

  words_length : length words ≡ count
  words_length = length-append (replicate (count - 1) zero_word) (last ∷ []) ∙ omega (arith, length_replicate (count - 1) zero_word, some)

  regs_length : length regs ≡ count + 1
  regs_length = o.count ∙ length-append words (first ∷ []) ∙ ap (λ n. n + 1) words_length

  -- the word of a flag, and what it is
  record FlagWord (k : ℕ) : Type 0 where
    word : Word
    at : slice_get (words ++ first ∷ []) k ≡ Some word
    width : word.width ≡ 1
    is : nat_eq word.bits 1 ≡ (nat_eq k (count - 1) && nat_eq last_number 1)

  flag_word : (k : ℕ) → k < count → FlagWord k
  flag_word k l = elim (cases_lt k (count - 1)) [
    | inl m ↦ record {
      word = zero_word;
      at = get_front words (first ∷ []) k zero_word (get_front (replicate (count - 1) zero_word) (last ∷ []) k zero_word (get_replicate (count - 1) zero_word k m));
      width = zero_width;
      is = ap (λ n. nat_eq n 1) zero_bits ∙ sym (and_left _ _ (ne_eqb k (count - 1) (λ e. omega (arith, e, m))));
    }
    | inr m ↦
        let e : count - 1 ≡ k = omega (arith, l, m) in
        record {
          word = last;
          at = get_front words (first ∷ []) k last (ap (slice_get words) (sym (length_replicate (count - 1) zero_word ∙ e)) ∙ get_last (replicate (count - 1) zero_word) last);
          width = last_width;
          is = ap (λ n. nat_eq n 1) last_bits ∙ sym (ap (λ b. b && nat_eq last_number 1) (eq-eqb k (count - 1) (sym e)));
        }
  ]

  word_last : slice_get (words ++ first ∷ []) count ≡ Some first
  word_last = ap (slice_get (words ++ first ∷ [])) (sym words_length) ∙ get_last words first

  flag_width : (k : ℕ) (b : Bus) → slice_get regs k ≡ Some b → k < count → b.width ≡ 1
  flag_width k b h l = let w = flag_word k l in o.widths k b w.word h w.at ∙ w.width

  pub flags_are : AreBits n1 (map to_bit (take count regs))
  flags_are = record {
    each = λ k x h.
        let m = get_unmapped to_bit (take count regs) k x h in
        let t = get_take regs count k m.0 m.1 in
        subst (IsBit n1) m.2 (record { there = (o.each k m.0 t.0).there ∙ ap (λ (w : ℕ). Some (Value w)) (flag_width k m.0 t.0 t.1) });
  }

  pub flags_count : length (map to_bit (take count regs)) ≡ count
  flags_count = length_map to_bit (take count regs) ∙ length_taken regs count (let e = regs_length in omega (arith, e))

  pub oldest_is : (b : Bus) → slice_get regs count ≡ Some b → IsBus n1 b × (b.width ≡ opened.width)
  oldest_is b h = (o.each count b h, o.widths count b first h word_last ∙ first_width)

  module _ (n2 : Net) (opens trigger : Bit) (oldest : Bus) (r : Turn) (has : slice_get regs count ≡ Some oldest)
      (turns : Turns n1 n2 count opens opened trigger (map to_bit (take count regs)) oldest r) where
    nexts : List Bus
    nexts = map to_bus r.kept ++ r.next ∷ []

    kept_length : length (map to_bus r.kept) ≡ count
    kept_length = length_map to_bus r.kept ∙ turns.kept_count

    next_of : (k : ℕ) (x : Bit) → slice_get r.kept k ≡ Some x → slice_get nexts k ≡ Some (to_bus x)
    unfolding nexts
    next_of k x h = get_front (map to_bus r.kept) (r.next ∷ []) k (to_bus x) (slice_get-map to_bus r.kept k ∙ ap (option_map to_bus) h)

    next_last : slice_get nexts count ≡ Some r.next
    unfolding nexts
    next_last = ap (slice_get (map to_bus r.kept ++ r.next ∷ [])) (sym kept_length) ∙ get_last (map to_bus r.kept) r.next

    bit_bus : (x : Bit) → IsBit n2 x → IsBus n2 (to_bus x)
    bit_bus x i = record { there = i.there; width = record { some' = omega arith; most = omega arith } }

    pub may_drive : MayDrive n2 regs (map to_bus r.kept ++ r.next ∷ [])
    may_drive = record {
      count = length-append (map to_bus r.kept) (r.next ∷ []) ∙ ap (λ n. n + 1) kept_length ∙ sym regs_length;
      each = λ k b h. elim (get_push_cases (map to_bus r.kept) r.next k b h) [
        | inl e ↦ (let m = get_unmapped to_bus r.kept k b e in subst (IsBus n2) m.2 (bit_bus m.0 (turns.kept.each k m.0 m.1)))
        | inr e ↦ subst (IsBus n2) e.1 turns.next
      ];
      widths = λ k b d h i. elim (get_push_cases (map to_bus r.kept) r.next k d i) [
        | inl e ↦
            (let m = get_unmapped to_bus r.kept k d e in
            let l = get_below r.kept k m.0 m.1 in
            ap (λ (x : Bus). x.width) (sym m.2) ∙ sym (flag_width k b h (omega (arith, l, turns.kept_count))))
        | inr e ↦
            (let at : k ≡ count = e.0 ∙ kept_length in
            let same : b ≡ oldest = (let q = ap (slice_get regs) at in cc) in
            ap (λ (x : Bus). x.width) (sym e.1) ∙ turns.next_width ∙ ap (λ (x : Bus). x.width) (sym same))
      ];
    }

    module _ (n3 : Net) (d : DrivesAll n2 n3 regs (map to_bus r.kept ++ r.next ∷ [])) where
      bits_after : (bs : List Bit) → AreBits n2 bs → AreBits n3 bs
      bits_after bs h = record { each = λ k b e. record { there = d.grows.shapes b.node _ (h.each k b e).there } }

      rotation_law : (run : Run) → IsRun n3 run → Rotating run count last_number first_number opens opened trigger (record { flags = map to_bit (take count regs); oldest = oldest; mids = r.mids; ends = r.ends })
      unfolding nexts held_at line_at
      rotation_law run r3 =
          let r2 = d.grows.runs run r3 in
          let r1 = turns.keeps.runs run r2 in
          let held = pointer_by run oldest first_number (count - 1) (λ t. any_to count (λ k. line_of run r.ends k t)) (any_false count (λ k. line_of run r.ends k 0) (line_of-first run r.ends)) (omega (arith, below))
          (o.start count oldest first has word_last run r1 ∙ first_bits)
          (λ t l. d.value count oldest r.next has next_last run r3 t ∙ turns.turn run r2 t l) in
          record {
            mid = turns.mid run r2;
            end = turns.end run r2;
            flag = λ k t l.
                let at = get_there regs k (let e = regs_length in omega (arith, e, l)) in
                let kept = get_there r.kept k (omega (arith, l, turns.kept_count)) in
                line_of-get run (map to_bit (take count regs)) k (to_bit at.0) (suc (suc t)) (slice_get-map to_bit (take count regs) k ∙ ap (option_map to_bit) (take_get regs count k at.0 at.1 l))
                ∙ ap (λ n. nat_eq n 1) (d.value k at.0 (to_bus kept.0) at.1 (next_of k kept.0 kept.1) run r3 t)
                ∙ sym (line_of-get run r.kept k kept.0 (suc t) kept.1) ∙ turns.stays run r2 k (suc t) l;
            flag_first = λ k l.
                let at = get_there regs k (let e = regs_length in omega (arith, e, l)) in
                let w = flag_word k l in
                line_of-get run (map to_bit (take count regs)) k (to_bit at.0) 1 (slice_get-map to_bit (take count regs) k ∙ ap (option_map to_bit) (take_get regs count k at.0 at.1 l))
                ∙ ap (λ n. nat_eq n 1) (o.start k at.0 w.word at.1 w.at run r1) ∙ w.is;
            below = λ t. (held t).0;
            oldest = λ t. (held t).1;
          }

      pub rotation_adds : AddsRotation n0 n3 count last_number first_number opens opened trigger (record { flags = map to_bit (take count regs); oldest = oldest; mids = r.mids; ends = r.ends })
      rotation_adds = record {
        keeps = closed_up n0 n1 n2 n3 (words ++ first ∷ []) regs (map to_bus r.kept ++ r.next ∷ []) o turns.keeps d;
        mids = bits_after r.mids turns.mids;
        ends = bits_after r.ends turns.ends;
        mids_count = turns.mids_count;
        ends_count = turns.ends_count;
        cost = record {
          nodes = omega (arith, d.cost.nodes, turns.cost.nodes, o.cost.nodes, length-append words (first ∷ []), words_length);
          registers = omega (arith, d.cost.registers, turns.cost.registers, o.cost.registers, bits_of_words (count - 1) opened.width zero_word last first zero_width last_width first_width, some);
          memories = omega (arith, d.cost.memories, turns.cost.memories, o.cost.memories);
        };
        rotating = rotation_law;
      }

drop_get : (xs : List Bus) (n : ℕ) (d : Bus) → n < length xs → slice_get xs n ≡ Some (slice_index_or (drop n xs) 0 d)
drop_get [] n d l = absurd (omega (arith, l))
drop_get (x ∷ xs) zero d l = refl
drop_get (x ∷ xs) (suc n) d l = drop_get xs n d (omega (arith, l))

-- the register behind the flags
pub oldest_at : (n0 n1 : Net) (count : ℕ) (z w f : Word) (regs ys : List Bus) (d : Bus) → 1 ≤ count → Opens n0 n1 (flag_words (count - 1) z w ++ f ∷ []) regs → ys ≡ drop count regs → slice_get regs count ≡ Some (slice_index_or ys 0 d)
oldest_at n0 n1 count z w f regs ys d some o e =
    let l = length-append (flag_words (count - 1) z w) (f ∷ []) in
    let n = length-append (replicate (count - 1) z) (w ∷ []) in
    let m = length_replicate (count - 1) z in
    drop_get regs count d (omega (arith, o.count, l, m, n, some)) ∙ ap (λ (zs : List Bus). Some (slice_index_or zs 0 d)) (sym e)
