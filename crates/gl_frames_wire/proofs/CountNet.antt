-- A register that goes round counts the rows of each stream.
use Rattle.std.proofs.Common.{◌≡◌, ℕ, zero, suc, ◌+◌, ◌%◌, ◌^◌, ◌<◌, ◌≤◌, Bool, true, false, length, refl, sym, ap, ◌∙◌, arith, inl, inr}
use Rattle.std.specs.Prelude.{not, ◌&&◌, ◌||◌, if◌then◌else◌, nat_eq}
use Rattle.std.proofs.Math.Nat.{mod-eq_of_lt, pow-suc}
use Rattle.std.proofs.lemmas.Bool.{cases_eq, cases_lt, eq-eqb, ne_eqb}
use Rattle.gl_bits.specs.Words.{sum_of}
use Rattle.gl_net.specs.declared.node.Bus.{Bus}
use Rattle.gl_net.specs.declared.node.Bit.{Bit}
use Rattle.gl_net.specs.Net.{Run}
use Rattle.gl_wire.specs.Wire.{line_at}
use Rattle.gl_wire.proofs.StageLemmas.{line_first}
use Rattle.gl_wire_lanes.specs.Keeping.{IsKept}
use Rattle.gl_wire_lanes.specs.Lanes.{Lane, Begins, is_open}
use Rattle.gl_wire_lanes.specs.Laws.{OneIsSingle}
use Rattle.gl_wire_lanes.proofs.SingleLemmas.{register_is_kept}
use Rattle.gl_frames_wire.specs.CountNets.{streams_by}
use Rattle.gl_frames_wire.specs.Rings.{wind, wound}
use Rattle.gl_frames_wire.specs.Since.{Opens, has_begun, own_ends, rows_past}
use Rattle.gl_frames_wire.proofs.SinceLemmas.{slots_fold}
use Rattle.gl_frames_wire.proofs.WindLemmas.{counts_from}

-- the bits of a count tell twice the size of its ring
pub twice : (bits : ℕ) → 2 ^ (bits + 1) ≡ 2 ^ bits + 2 ^ bits
twice bits = let more : bits + 1 ≡ suc bits = omega arith in let e : 2 ^ suc bits ≡ 2 ^ bits + 2 ^ bits = omega (arith, pow-suc 2 bits) in ap (λ (n : ℕ). 2 ^ n) more ∙ e

pub wound_is : (w size top n : ℕ) → 2 ^ w ≡ size + size → top + 1 ≡ size + size → n < 2 ^ w → (if nat_eq n top then size else sum_of w n 1) ≡ wind size n
unfolding sum_of
wound_is w size top n whole last small = elim (cases_eq n top) [
  | inl e ↦ ap (λ (b : Bool). if b then size else (n + 1) % 2 ^ w) (eq-eqb n top e)
      ∙ sym (ap (λ (b : Bool). if b then size else suc n) (eq-eqb (suc n) (size + size) (omega (arith, e, last))))
  | inr ne ↦ ap (λ (b : Bool). if b then size else (n + 1) % 2 ^ w) (ne_eqb n top ne)
      ∙ (mod-eq_of_lt (below ne) ∙ next)
      ∙ sym (ap (λ (b : Bool). if b then size else suc n) (ne_eqb (suc n) (size + size) (λ e. ne (omega (arith, e, last)))))
]
  where
    next : n + 1 ≡ suc n
    next = omega arith

    below : (n ≡ top → ⊥) → n + 1 < 2 ^ w
    below ne = elim (cases_eq (n + 1) (2 ^ w)) [
      | inl e ↦ absurd (ne (omega (arith, e, last, whole)))
      | inr far ↦ strictly far
    ]
      where
        strictly : (n + 1 ≡ 2 ^ w → ⊥) → n + 1 < 2 ^ w
        strictly far = elim (cases_lt (n + 1) (2 ^ w)) [ inl l ↦ l | inr l ↦ absurd (far (omega (arith, l, small))) ]

-- with its own ends a slot's stream has begun where it is open
begun_open : (l : Lane) (k c : ℕ) → has_begun (own_ends l) l k c ≡ is_open l k c
begun_open l k zero = refl
begun_open l k (suc c) = by (nat_eq (l.slot c) k) (l.ends c) (l.first c) (has_begun (own_ends l) l k c) (is_open l k c) (begun_open l k c)
  where
    by : (s e f o p : Bool) → o ≡ p → (if s && e then false else (if s then f || o else o)) ≡ (if s then (if e then false else (f || p)) else p)
    by true true f o p q = refl
    by true false f o p q = ap (λ b. f || b) q
    by false e f o p q = q

pub opens_own : (l : Lane) → Begins l → Opens (own_ends l) l
opens_own l b = record {
  no_row = b.no_row;
  no_first = b.no_first;
  rows = λ c v. b.rows c v ∙ sym (ap not (begun_open l (l.slot c) c));
  only = λ c f. begun_open l (l.slot c) c ∙ b.only c f;
}

module _ (one_is_single : OneIsSingle) (run : Run) (valid eos : Bit) (size : ℕ) (some : 1 ≤ size) (before now : Bus) (start : run.at 1 before.node ≡ 0)
    (next : (t : ℕ) → run.at (suc (suc t)) before.node ≡ (if line_at run eos (suc t) then 0 else run.at (suc t) now.node))
    (with_row : (t : ℕ) → run.at (suc t) now.node ≡ (if line_at run valid (suc t) then wind size (run.at (suc t) before.node) else run.at (suc t) before.node)) where
  kept : IsKept 0 (streams_by run valid eos) (λ t. run.at t before.node) (λ t. run.at t now.node)
  kept = register_is_kept 0 (line_at run valid) (line_at run eos) (λ t. run.at t before.node) (λ t. run.at t now.node) (record { start = start; next = next })
      (λ t none. with_row t ∙ ap (λ (b : Bool). if b then wind size (run.at (suc t) before.node) else run.at (suc t) before.node) none)

  opens : Opens (own_ends (streams_by run valid eos)) (streams_by run valid eos)
  opens = opens_own (streams_by run valid eos) (one_is_single (line_at run valid) (line_at run eos) (line_first run valid) (line_first run eos)).begins

  pub counted : (column : ℕ → ℕ) (c : ℕ) → line_at run valid (suc c) ≡ true
      → run.at (suc c) before.node ≡ wound size (length (rows_past (own_ends (streams_by run valid eos)) (streams_by run valid eos) column (suc c)))
  counted column c v =
      (slots_fold (λ n (x : ℕ). wind size n) 0 (own_ends (streams_by run valid eos)) (streams_by run valid eos) column (λ t. run.at t before.node) (λ t. run.at t now.node) opens kept with_row c v).past
      ∙ counts_from size some (rows_past (own_ends (streams_by run valid eos)) (streams_by run valid eos) column (suc c))
