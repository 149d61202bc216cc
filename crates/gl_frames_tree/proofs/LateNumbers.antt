-- Rows one cycle later have the same numbers.
use Rattle.std.proofs.Common.{◌≡◌, ℕ, zero, suc, List, [], Some, Bool, true, false, sym, ap, ◌∙◌}
use Rattle.std.specs.Prelude.{◌&&◌, if◌then◌else◌, nat_eq, slice_get}
use Rattle.std.specs.List.{list_any}
use Rattle.gl_bits.proofs.Bools.{not_both}
use Rattle.gl_values.specs.Tables.{with_key}
use Rattle.gl_frames_map.proofs.PlaceLemmas.{is_added}
use Rattle.gl_frames_tree.specs.Growing.{IsAfter, Numbered, Numbers, nodes_at}

module _ (n : ℕ) (m d : Numbered) (h : Numbers n m) (is : IsAfter m d) (quiet : m.valid 0 ≡ false) where
  nodes_late : (c : ℕ) → nodes_at n d (suc c) ≡ nodes_at n m c
  nodes_late zero =
      ap (λ (b : Bool). if b then [] else (if d.asks 0 then with_key n [] (d.name 0) else [])) (is.ends 0)
      ∙ ap (λ (b : Bool). if b then with_key n [] (d.name 0) else []) (is.asks 0)
  nodes_late (suc c) =
      ap (λ (b : Bool). if b then [] else (if d.asks (suc c) then with_key n (nodes_at n d (suc c)) (d.name (suc c)) else nodes_at n d (suc c))) (is.ends (suc c))
      ∙ ap (λ (b : Bool). if m.ends c then [] else (if b then with_key n (nodes_at n d (suc c)) (d.name (suc c)) else nodes_at n d (suc c))) (is.asks (suc c))
      ∙ ap (λ (x : ℕ). if m.ends c then [] else (if m.asks c then with_key n (nodes_at n d (suc c)) x else nodes_at n d (suc c))) (is.name (suc c))
      ∙ ap (λ (xs : List ℕ). if m.ends c then [] else (if m.asks c then with_key n xs (m.name c) else xs)) (nodes_late c)

  late_valid : (c : ℕ) → d.valid c ≡ (d.asks c && list_any (nat_eq (d.name c)) (with_key n (nodes_at n d c) (d.name c)))
  late_valid zero = is.valid 0 ∙ sym (ap (λ (b : Bool). b && list_any (nat_eq (d.name 0)) (with_key n (nodes_at n d 0) (d.name 0))) (is.asks 0))
  late_valid (suc c) =
      is.valid (suc c) ∙ h.valid c
      ∙ sym (ap (λ (b : Bool). b && list_any (nat_eq (d.name (suc c))) (with_key n (nodes_at n d (suc c)) (d.name (suc c)))) (is.asks (suc c))
      ∙ ap (λ (x : ℕ). m.asks c && list_any (nat_eq x) (with_key n (nodes_at n d (suc c)) x)) (is.name (suc c))
      ∙ ap (λ (xs : List ℕ). m.asks c && list_any (nat_eq (m.name c)) (with_key n xs (m.name c))) (nodes_late c))

  late_fresh : (c : ℕ) → d.fresh c ≡ (d.asks c && is_added n (nodes_at n d c) (d.name c))
  late_fresh zero = is.fresh 0 ∙ sym (ap (λ (b : Bool). b && is_added n (nodes_at n d 0) (d.name 0)) (is.asks 0))
  late_fresh (suc c) =
      is.fresh (suc c) ∙ h.fresh c
      ∙ sym (ap (λ (b : Bool). b && is_added n (nodes_at n d (suc c)) (d.name (suc c))) (is.asks (suc c))
      ∙ ap (λ (x : ℕ). m.asks c && is_added n (nodes_at n d (suc c)) x) (is.name (suc c))
      ∙ ap (λ (xs : List ℕ). m.asks c && is_added n xs (m.name c)) (nodes_late c))

  late_number : (c : ℕ) → d.valid c ≡ true → slice_get (with_key n (nodes_at n d c) (d.name c)) (d.number c) ≡ Some (d.name c)
  late_number zero e = absurd (not_both (d.valid 0) e (is.valid 0))
  late_number (suc zero) e = absurd (not_both (d.valid 1) e (is.valid 1 ∙ quiet))
  late_number (suc (suc c)) e =
      ap (λ (xs : List ℕ). slice_get (with_key n xs (d.name (suc (suc c)))) (d.number (suc (suc c)))) (nodes_late (suc c))
      ∙ ap (λ (x : ℕ). slice_get (with_key n (nodes_at n m (suc c)) x) (d.number (suc (suc c)))) (is.name (suc (suc c)))
      ∙ ap (slice_get (with_key n (nodes_at n m (suc c)) (m.name (suc c)))) (is.number c)
      ∙ h.number (suc c) (sym (is.valid (suc (suc c))) ∙ e) ∙ ap Some (sym (is.name (suc (suc c))))

  pub numbers_late : Numbers n d
  numbers_late = record { valid = late_valid; fresh = late_fresh; number = late_number }
