-- All slots behind the end of a stream: the windows that were cut short end in their turns, slot by slot.
use Rattle.std.proofs.Common.{◌≡◌, ℕ, suc, ◌+◌, ◌-◌, ◌*◌, ◌<◌, ◌≤◌, min, List, [], ◌∷◌, ◌++◌, take, Option, Some, None, Bool, true, false, refl, sym, ap, ◌∙◌, subst, arith}
use Rattle.std.specs.Prelude.{if◌then◌else◌, option_to_list, slice_get}
use Rattle.std.proofs.lemmas.List.{append-nil}
use Rattle.gl_values.specs.Lists.{keys_of}
use Rattle.gl_values.specs.Partitions.{fulls}
use Rattle.gl_values.specs.Results.{Row}
use Rattle.gl_wire.specs.Apart.{Carries}
use Rattle.gl_wire.specs.Wire.{pending, stream}
use Rattle.gl_wire.proofs.VisitLemmas.{did, did_none}
use Rattle.gl_slots.specs.Slots.{freed, with_tuple, of_slot, rows_of_key}
use Rattle.gl_slots.proofs.KeyLemmas.{rows-push}
use Rattle.gl_partition.specs.Machine.{Windows, closes, closing, comes, due, mid, next, opening, windows_at}
use Rattle.gl_partition.proofs.Setting.{Setting, all_of_slots}
use Rattle.gl_partition.proofs.OwnCopies.{Step, step_at}
use Rattle.gl_partition.proofs.OwnFlow.{Own, completes}
use Rattle.gl_partition.proofs.OwnFlush.{Cut, Ended, Short, own_end, own_end_row, m}
use Rattle.gl_partition.proofs.PartLists.{turned}
use Rattle.gl_partition.proofs.EndingLemmas.{ending_none, keys, of_part, slots, who}
use Rattle.gl_partition.proofs.StreamLemmas.{Done, Flow, Owns, done_of, keys_with, rows_with_more, told}

module _ (front : Setting) where
  open front use {n, a, ins}

  abbrev size : ℕ
  size = front.n.size

  abbrev advance : ℕ
  advance = front.n.advance

  abbrev copies : ℕ
  copies = front.n.copies

  abbrev count : ℕ
  count = front.n.slots

  abbrev stride : ℕ
  stride = front.n.stride

  abbrev key : Row → ℕ
  key = front.n.key

  -- a slot whose rows were ys and then zs, with as many of its turns behind it as the turn of all slots says
  pub record Shorts (c u i : ℕ) (there : i < count) (turn : ℕ) (ys zs : List Row) : Type 0 where
    pub base : ℕ
    pub q : ℕ
    pub f : ℕ
    pub d : ℕ
    pub is : Short front i there c (windows_at n a i c) base q d ys
    pub cut : Cut front i there q f zs
    pub past : d ≡ f + min (q - f) (turn - 1 - i * copies)
    pub began : (windows_at n a i (suc u)).closed ≡ base + f
    pub begun : (windows_at n a i (suc u)).opened ≡ base + q

  -- the end at u was the last that came
  pub record Flush (c lo u : ℕ) (xs : List Row) : Type 0 where
    pub end : a.ends u ≡ true
    pub behind : u < c
    pub quiet : (x : ℕ) → u < x → x < c → Carries a x → ⊥
    pub empty : pending a c ≡ []
    pub is : stream a u ≡ xs ++ option_to_list (slots front c).held
    pub flush : (slots front c).flush ≡ true
    pub keys' : (slots front c).keys ≡ take count (keys_of key (stream a u))
    pub time : c + (slots front c).wait ≡ u + (slots front c).turn * stride
    pub once : 1 ≤ (slots front c).turn
    pub small : (slots front c).wait < stride
    pub shorts : (i : ℕ) (there : i < count) → Shorts c u i there (slots front c).turn (rows_of_key key xs (slice_get (slots front c).keys i)) (rows_of_key key (stream a u) (slice_get (slots front c).keys i))
    pub from : lo ≤ suc c
    pub done : did (of_part front) (who front) ins lo c
        ≡ fulls count key size advance [] (stream a u) ++ turned key size advance copies (stream a u) (slots front c).keys ((slots front c).turn - 1)
    pub rest : (x k : ℕ) → u + all_of_slots front.n * stride + 2 ≤ x → x ≤ c → who front x ≡ Some k → ⊥

  -- ---- the end

  -- a slot at the end
  pub record AtEnd (c i : ℕ) (there : i < count) (s' : Windows) (xs zs : List Row) : Type 0 where
    pub base : ℕ
    pub q : ℕ
    pub f : ℕ
    pub is : Ended front i there c s' base q f xs zs

  end_row : (c i : ℕ) (there : i < count) (s : Windows) (base q d : ℕ) (xs : List Row) → Own front i there c s base q d xs → (e b : Bool) (o held : Option Row) (r : Row) → e ≡ true → b ≡ false → o ≡ Some r → Step front i there c e b o held s
      → AtEnd c i there (next n e b o s) xs (xs ++ r ∷ []) × Done front c i there (xs ++ r ∷ []) (closing copies b o (opening advance copies o s)) (opening advance copies o s).closed
  end_row c i there s base q d xs h false b o held r p g f step = absurd (cc)
  end_row c i there s base q d xs h true true o held r p g f step = absurd (cc)
  end_row c i there s base q d xs h true false None held r p g f step = absurd (cc)
  end_row c i there s base q d xs h true false (Some r') held r p g f step =
      let same : r' ≡ r = cc in
      subst (λ z. AtEnd c i there (next n true false (Some r') s) xs (xs ++ z ∷ []) × Done front c i there (xs ++ z ∷ []) (closing copies false (Some r') (opening advance copies (Some r') s)) (opening advance copies (Some r') s).closed) same (
        record { base = base; q = (m front i there c s base q d xs h r' held step).0; f = if closing copies false (Some r') (opening advance copies (Some r') s) then suc d else d; is = own_end_row front i there c s base q d xs h r' held step },
        done_of front c i there d _ xs r' _ _ h.whole (completes front i there c s base q d xs h true false r' held step),
      )

  end_alone : (c i : ℕ) (there : i < count) (s : Windows) (base q d : ℕ) (xs : List Row) → Own front i there c s base q d xs → (e b : Bool) (o held : Option Row) → e ≡ true → b ≡ false → o ≡ None → Step front i there c e b o held s
      → AtEnd c i there (next n e b o s) xs (xs ++ []) × (closing copies b o (opening advance copies o s) ≡ false)
  end_alone c i there s base q d xs h false b o held p g f step = absurd (cc)
  end_alone c i there s base q d xs h true true o held p g f step = absurd (cc)
  end_alone c i there s base q d xs h true false (Some r) held p g f step = absurd (cc)
  end_alone c i there s base q d xs h true false None held p g f step = (record { base = base; q = q; f = d; is = own_end front i there c s base q d xs h held step }, refl)

  module _ (c lo : ℕ) (xs : List Row) (h : Flow front c lo xs) (o : Option Row) (ends : a.ends c ≡ true) (comes_now : a.tuple c ≡ o) where
    abbrev now : List ℕ
    now = with_tuple count key o (freed (slots front c))

    whole : stream a c ≡ xs ++ option_to_list o
    whole = rw (comes_now, h.is) refl

    now_is : keys front c ≡ now
    now_is = rw (ends, comes_now) refl

    now_are : now ≡ take count (keys_of key (xs ++ option_to_list o))
    now_are = keys_with front xs o (freed (slots front c)) h.keys'

    next_keys : (slots front (suc c)).keys ≡ now
    next_keys = rw (ends, comes_now) refl

    next_turn : (slots front (suc c)).turn ≡ 1
    next_turn = rw ends refl

    next_wait : (slots front (suc c)).wait ≡ stride - 1
    next_wait = rw ends refl

    next_held : (slots front (suc c)).held ≡ o
    next_held = rw (ends, comes_now) refl

    next_flush : (slots front (suc c)).flush ≡ true
    next_flush = rw ends refl

    comes_is : (i : ℕ) → comes n a i c ≡ of_slot key now i o
    comes_is i = rw (ends, comes_now) refl

    not_due : (i : ℕ) → due n a i c ≡ false
    not_due i = rw ends refl

    own_now : (i : ℕ) (there : i < count) → Owns front c i there (rows_of_key key xs (slice_get now i))
    own_now i there = subst (Owns front c i there) (sym (rows_with_more front xs o (freed (slots front c)) h.keys' i)) (h.owns i there)

    with_row : (i : ℕ) (there : i < count) (r : Row) → of_slot key now i o ≡ Some r
        → AtEnd c i there (windows_at n a i (suc c)) (rows_of_key key xs (slice_get now i)) (rows_of_key key (xs ++ option_to_list o) (slice_get now i))
        × Done front c i there (rows_of_key key (xs ++ option_to_list o) (slice_get now i)) (closes n a i c) (mid n a i c).closed
    with_row i there r f =
        let own = own_now i there in
        let rows : rows_of_key key xs (slice_get now i) ++ r ∷ [] ≡ rows_of_key key (xs ++ option_to_list o) (slice_get now i) = ap (λ (v : Option Row). rows_of_key key xs (slice_get now i) ++ option_to_list v) (sym f) ∙ sym (rows-push key xs o now i) in
        subst (λ zs. AtEnd c i there (windows_at n a i (suc c)) (rows_of_key key xs (slice_get now i)) zs × Done front c i there zs (closes n a i c) (mid n a i c).closed) rows
        (end_row c i there (windows_at n a i c) own.base own.q own.d (rows_of_key key xs (slice_get now i)) own.is (a.ends c) (due n a i c) (comes n a i c) _ r ends (not_due i) (comes_is i ∙ f) (step_at front i there c))

    without_row : (i : ℕ) (there : i < count) → of_slot key now i o ≡ None
        → AtEnd c i there (windows_at n a i (suc c)) (rows_of_key key xs (slice_get now i)) (rows_of_key key (xs ++ option_to_list o) (slice_get now i)) × (closes n a i c ≡ false)
    without_row i there f =
        let own = own_now i there in
        let rows : rows_of_key key xs (slice_get now i) ++ [] ≡ rows_of_key key (xs ++ option_to_list o) (slice_get now i) = ap (λ (v : Option Row). rows_of_key key xs (slice_get now i) ++ option_to_list v) (sym f) ∙ sym (rows-push key xs o now i) in
        subst (λ zs. AtEnd c i there (windows_at n a i (suc c)) (rows_of_key key xs (slice_get now i)) zs × (closes n a i c ≡ false)) rows
        (end_alone c i there (windows_at n a i c) own.base own.q own.d (rows_of_key key xs (slice_get now i)) own.is (a.ends c) (due n a i c) (comes n a i c) _ ends (not_due i) (comes_is i ∙ f) (step_at front i there c))

    at_end : (i : ℕ) (there : i < count) → AtEnd c i there (windows_at n a i (suc c)) (rows_of_key key xs (slice_get now i)) (rows_of_key key (xs ++ option_to_list o) (slice_get now i))
    at_end i there = by (of_slot key now i o) refl
      where
        by : (v : Option Row) → of_slot key now i o ≡ v → AtEnd c i there (windows_at n a i (suc c)) (rows_of_key key xs (slice_get now i)) (rows_of_key key (xs ++ option_to_list o) (slice_get now i))
        by None f = (without_row i there f).0
        by (Some r) f = (with_row i there r f).0

    shorts_at : (i : ℕ) (there : i < count) → Shorts (suc c) c i there 1 (rows_of_key key xs (slice_get now i)) (rows_of_key key (xs ++ option_to_list o) (slice_get now i))
    shorts_at i there =
        let x = at_end i there in
        record { base = x.base; q = x.q; f = x.f; d = x.f; is = x.is.is; cut = x.is.cut; past = omega arith; began = x.is.is.closed; begun = x.is.is.opened }

    all_told : did (of_part front) (who front) ins lo (suc c) ≡ fulls count key size advance [] (xs ++ option_to_list o)
    all_told = by o refl
      where
        by : (v : Option Row) → o ≡ v → did (of_part front) (who front) ins lo (suc c) ≡ fulls count key size advance [] (xs ++ option_to_list o)
        by None f =
            did_none (of_part front) (who front) ins lo c h.from (ending_none front c count (λ i l. (without_row i l (ap (of_slot key now i) f)).1)) ∙ h.done
            ∙ ap (fulls count key size advance []) (sym (append-nil xs)) ∙ ap (λ (z : Option Row). fulls count key size advance [] (xs ++ option_to_list z)) (sym f)
        by (Some r) f =
            told front c lo xs r now now_is (now_are ∙ ap (λ (z : Option Row). take count (keys_of key (xs ++ option_to_list z))) f) h.from h.done
            (λ i there g. subst (λ (z : Option Row). Done front c i there (rows_of_key key (xs ++ option_to_list z) (slice_get now i)) (closes n a i c) (mid n a i c).closed) f (with_row i there r (ap (of_slot key now i) f ∙ g)).1)
            (λ i there g. (without_row i there (ap (of_slot key now i) f ∙ g)).1)
            ∙ ap (λ (z : Option Row). fulls count key size advance [] (xs ++ option_to_list z)) (sym f)

    pub flow_end : Flush (suc c) lo c xs
    flow_end = record {
      end = ends;
      behind = omega arith;
      quiet = λ x l k p. omega (arith, l, k);
      empty = rw ends refl;
      is = whole ∙ ap (λ (z : Option Row). xs ++ option_to_list z) (sym next_held);
      flush = next_flush;
      keys' = next_keys ∙ now_are ∙ ap (λ z. take count (keys_of key z)) (sym whole);
      time = rw (next_turn, next_wait) (omega (arith, front.stride_some));
      once = rw next_turn (omega arith);
      small = rw next_wait (omega (arith, front.stride_some));
      shorts = λ i there. subst (λ (t : ℕ). Shorts (suc c) c i there t (rows_of_key key xs (slice_get (slots front (suc c)).keys i)) (rows_of_key key (stream a c) (slice_get (slots front (suc c)).keys i))) (sym next_turn)
          (subst (λ ks. Shorts (suc c) c i there 1 (rows_of_key key xs (slice_get ks i)) (rows_of_key key (stream a c) (slice_get ks i))) (sym next_keys)
          (subst (λ zs. Shorts (suc c) c i there 1 (rows_of_key key xs (slice_get now i)) (rows_of_key key zs (slice_get now i))) (sym whole) (shorts_at i there)));
      from = omega (arith, h.from);
      done = all_told ∙ ap (fulls count key size advance []) (sym whole) ∙ sym (append-nil _)
          ∙ ap (λ (t : ℕ). fulls count key size advance [] (stream a c) ++ turned key size advance copies (stream a c) (slots front (suc c)).keys (t - 1)) (sym next_turn);
      rest = λ x k l p w. omega (arith, l, p, front.stride_some);
    }
