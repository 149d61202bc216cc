-- A ring for each slot and a count of its rows give what a column had so many of the slot's rows before.
use Rattle.std.proofs.Common.{◌≡◌, ℕ, suc, ◌+◌, ◌-◌, ◌%◌, ◌^◌, ◌<◌, ◌≤◌, List, Option, Some, None, Bool, true, length, sym, ap, ◌∙◌, subst, arith}
use Rattle.std.specs.Prelude.{if◌then◌else◌, nat_le}
use Rattle.std.proofs.Math.Pow.{mod-mod-pow, pow_mono}
use Rattle.std.proofs.lemmas.Nat.{pow_pos}
use Rattle.gl_net.specs.declared.node.Bus.{Bus}
use Rattle.gl_net.specs.Net.{Run}
use Rattle.gl_wire.specs.Wire.{line_at}
use Rattle.gl_frames_stages.specs.LaggedNets.{maybe_at}
use Rattle.gl_frames_stages.specs.declared.lagged.Maybe.{Maybe}
use Rattle.gl_frames_wire.specs.Laws.{GivesLag, TellsNumber}
use Rattle.gl_frames_wire.specs.Rings.{IsRing, wound}
use Rattle.gl_frames_wire.specs.Since.{all_ends}
use Rattle.gl_frames_wire.proofs.WindLemmas.{counts_from, counts_wind}
use Rattle.gl_frames_slots.specs.CountNets.{Counts}
use Rattle.gl_frames_slots.specs.Rows.{AreTold, TellsBySlot, lane_at, slot_here, slot_past}
use Rattle.gl_frames_slots.specs.declared.rows.SlotRows.{SlotRows}

-- the place in a smaller ring
lower_place : (n m bits r : ℕ) → r ≤ bits → n % 2 ^ bits ≡ m % 2 ^ bits → n % 2 ^ r ≡ m % 2 ^ r
lower_place n m bits r few e =
    sym (low n) ∙ ap (λ k. k % 2 ^ r) e ∙ low m
  where
    low : (k : ℕ) → k % 2 ^ bits % 2 ^ r ≡ k % 2 ^ r
    low k = let whole : bits ≡ (bits - r) + r = omega (arith, few) in ap (λ j. k % 2 ^ j % 2 ^ r) whole ∙ mod-mod-pow k (bits - r) r

-- numbers of the smaller ring are among those that the count tells
lower_size : (k bits r : ℕ) → r ≤ bits → k < 2 ^ r → k ≤ 2 ^ bits
lower_size k bits r few less = omega (arith, less, pow_mono few)

module _ (run : Run) (rows : SlotRows) (ends : ℕ → Bool) (told : AreTold run rows ends) (count place : Bus) (row given : ℕ → ℕ) (bits r k : ℕ)
    (few : r ≤ bits) (some : 1 ≤ k) (inside : k < 2 ^ r) (wide : count.width - 1 ≡ bits)
    (counts : Counts run rows ends count)
    (ring : IsRing (2 ^ r) k (lane_at run rows ends) row (λ c. run.at c place.node) given)
    (place_is : (t : ℕ) → run.at t place.node ≡ run.at t count.node % 2 ^ r) where
  number : (xs : List ℕ) → TellsNumber (2 ^ bits) (wound (2 ^ bits) (length xs)) (length xs)
  number xs = subst (λ n. TellsNumber (2 ^ bits) n (length xs)) (counts_from (2 ^ bits) (pow_pos bits) xs) (counts_wind (2 ^ bits) xs (pow_pos bits))

  abbrev past : ℕ → List ℕ
  past c = slot_past run rows ends row (suc c)

  counted : (c : ℕ) → line_at run rows.valid (suc c) ≡ true → run.at (suc c) count.node ≡ wound (2 ^ bits) (length (past c))
  counted c v = counts row c v ∙ ap (λ b. wound (2 ^ b) (length (past c))) wide

  pub gives_lag : GivesLag (2 ^ r) k (all_ends (lane_at run rows ends)) (lane_at run rows ends) row given (λ c. nat_le k (run.at c count.node))
  gives_lag = record {
    place = λ c. run.at c place.node;
    some' = some;
    few = omega (arith, inside);
    no_row = told.opens.no_row;
    ring = ring;
    places = λ c v. place_is (suc c) ∙ ap (λ n. n % 2 ^ r) (counted c v) ∙ lower_place (wound (2 ^ bits) (length (past c))) (length (past c)) bits r few (number (past c)).place;
    tells = λ c v. ap (nat_le k) (counted c v) ∙ (number (past c)).many k (lower_size k bits r few inside);
  }

pub maybe_late : {B : Type 0} (run : Run) (rows : SlotRows) (ends : ℕ → Bool) (of : List B → Option ℕ) (row : ℕ → B) (found late : Maybe)
    → ((c : ℕ) → line_at run rows.valid (suc c) ≡ true → maybe_at run found (suc c) ≡ of (slot_here run rows ends row (suc c)))
    → ((t : ℕ) → line_at run late.some (suc t) ≡ line_at run found.some t)
    → ((t : ℕ) → run.at (suc (suc t)) late.word.node ≡ run.at (suc t) found.word.node)
    → TellsBySlot run rows ends 1 of row (maybe_at run late)
maybe_late run rows ends of row found late h bit bus c v =
    let e : suc c + 1 ≡ suc (suc c) = omega arith in
    ap (maybe_at run late) e
    ∙ ap (λ (s : Bool). if s then Some (run.at (suc (suc c)) late.word.node) else None) (bit (suc c))
    ∙ ap (λ (x : ℕ). if line_at run found.some (suc c) then Some x else None) (bus c) ∙ h c v
