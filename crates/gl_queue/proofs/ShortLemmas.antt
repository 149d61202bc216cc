-- A flag and a register for each column make a queue of one place.
use Rattle.std.proofs.Common.{◌≡◌, ℕ, zero, suc, List, ◌++◌, length, Option, Some, None, Bool, true, false, refl, sym, ap, ◌∙◌, arith}
use Rattle.std.specs.Prelude.{option_to_list, is_some, not, ◌&&◌, ◌||◌, if◌then◌else◌, nat_eq}
use Rattle.gl_values.specs.Results.{Row}
use Rattle.gl_net.specs.declared.node.Bus.{Bus}
use Rattle.gl_net.specs.declared.node.Bit.{Bit}
use Rattle.gl_net.specs.Net.{Run}
use Rattle.gl_wire.specs.Wire.{line_at, row_at, tuple_at}
use Rattle.gl_wire.proofs.StageLemmas.{line_first, line_later, tuple_by}
use Rattle.gl_queue.specs.Queue.{oldest, behind, entries, LowBefore, IsQueue}
use Rattle.gl_queue.specs.Short.{newer, IsSingle, SinglesAreQueues}

-- one cycle of a list of at most one entry
step : {A : Type 0} (p s : Option A) (g : Bool) → is_some p && (is_some s && not g) ≡ false
    → (if g then behind (option_to_list s) else option_to_list s) ++ option_to_list p ≡ option_to_list (newer p (if g then None else s))
step None None true h = refl
step None None false h = refl
step None (Some x) true h = refl
step None (Some x) false h = refl
step (Some r) None true h = refl
step (Some r) None false h = refl
step (Some r) (Some x) true h = refl
step (Some r) (Some x) false h = absurd (cc h)

full_is : {A : Type 0} (p s : Option A) (g : Bool)
    → is_some p && (is_some s && not g) ≡ is_some p && nat_eq (length (option_to_list s)) 1 && not (g && is_some (oldest (option_to_list s)))
full_is None s g = refl
full_is (Some r) None true = refl
full_is (Some r) None false = refl
full_is (Some r) (Some x) true = refl
full_is (Some r) (Some x) false = refl

oldest_is : {A : Type 0} (s : Option A) → oldest (option_to_list s) ≡ s
oldest_is None = refl
oldest_is (Some x) = refl

module _ {A : Type 0} (push : ℕ → Option A) (go : ℕ → Bool) (shown : ℕ → Option A) (passed : ℕ → Bool) (m : IsSingle push go shown passed) where
  held : (c : ℕ) → LowBefore passed c → entries push go c ≡ option_to_list (shown c)
  held zero low = ap option_to_list (sym m.first)
  held (suc c) low =
      ap (λ (xs : List A). (if go c then behind xs else xs) ++ option_to_list (push c)) (held c (λ d l. low d (omega (arith, l))))
      ∙ step (push c) (shown c) (go c) (sym (m.full c) ∙ low c (omega arith)) ∙ ap option_to_list (sym (m.next c))

  single : IsQueue 1 push go shown passed
  single = record {
    shows = λ c low. sym (ap oldest (held c low) ∙ oldest_is (shown c));
    tells = λ c low.
        m.full c ∙ full_is (push c) (shown c) (go c)
        ∙ ap (λ (xs : List A). is_some (push c) && nat_eq (length xs) 1 && not (go c && is_some (oldest xs))) (sym (held c low));
  }

pub singles_are_queues : SinglesAreQueues
singles_are_queues A push go shown passed m = single push go shown passed m

-- one cycle of a flag and a row
turn : (p s h : Bool) (came kept later : Row) → later ≡ (if p then came else kept)
    → (if p || (s && h) then Some later else None) ≡ newer (if p then Some came else None) (if not h then None else (if s then Some kept else None))
turn true s h came kept later e = ap Some e
turn false true true came kept later e = ap Some e
turn false true false came kept later e = refl
turn false false true came kept later e = refl
turn false false false came kept later e = refl

tells_by : (p s h : Bool) (came kept : Row)
    → p && (s && h) ≡ is_some (if p then Some came else None) && (is_some (if s then Some kept else None) && not (not h))
tells_by false s h came kept = refl
tells_by true false h came kept = refl
tells_by true true true came kept = refl
tells_by true true false came kept = refl

module _ (run : Run) (push hold some stays next passed : Bit) (columns outs : List Bus) (start : run.at 1 some.node ≡ 0)
    (later : (t : ℕ) → run.at (suc (suc t)) some.node ≡ run.at (suc t) next.node)
    (stay : (t : ℕ) → line_at run stays t ≡ line_at run some t && line_at run hold t)
    (nexts : (t : ℕ) → line_at run next t ≡ line_at run push t || line_at run stays t)
    (tell : (t : ℕ) → line_at run passed t ≡ line_at run push t && line_at run stays t)
    (row : (t : ℕ) → row_at run (suc (suc t)) outs ≡ (if line_at run push (suc t) then row_at run (suc t) columns else row_at run (suc t) outs)) where
  abbrev shown : ℕ → Option Row
  shown = tuple_at run some outs

  -- the reset cycle has none
  none_first : (v : Bit) (bs : List Bus) → tuple_at run v bs 0 ≡ None
  none_first v bs = tuple_by run v bs 0 ∙ ap (λ (b : Bool). if b then Some (row_at run 0 bs) else None) (line_first run v)

  flag_next : (c : ℕ) → line_at run some (suc c) ≡ line_at run push c || (line_at run some c && line_at run hold c)
  flag_next c = line_later run next some start later c ∙ nexts c ∙ ap (λ (b : Bool). line_at run push c || b) (stay c)

  shows_next : (c : ℕ) → shown (suc c) ≡ newer (tuple_at run push columns c) (if not (line_at run hold c) then None else shown c)
  shows_next zero =
      tuple_by run some outs 1 ∙ ap (λ (b : Bool). if b then Some (row_at run 1 outs) else None) (line_later run next some start later 0 ∙ line_first run next)
      ∙ sym (ap (λ (x : Option Row). newer x (if not (line_at run hold 0) then None else shown 0)) (none_first push columns)
      ∙ ap (λ (x : Option Row). if not (line_at run hold 0) then None else x) (none_first some outs) ∙ none_of (not (line_at run hold 0)))
    where
      none : Option Row
      none = None

      none_of : (b : Bool) → (if b then none else none) ≡ none
      none_of true = refl
      none_of false = refl
  shows_next (suc t) =
      tuple_by run some outs (suc (suc t)) ∙ ap (λ (b : Bool). if b then Some (row_at run (suc (suc t)) outs) else None) (flag_next (suc t))
      ∙ turn (line_at run push (suc t)) (line_at run some (suc t)) (line_at run hold (suc t)) (row_at run (suc t) columns) (row_at run (suc t) outs) (row_at run (suc (suc t)) outs) (row t)
      ∙ ap (λ (x : Option Row). newer x (if not (line_at run hold (suc t)) then None else (if line_at run some (suc t) then Some (row_at run (suc t) outs) else None)))
      (sym (tuple_by run push columns (suc t)))
      ∙ ap (λ (x : Option Row). newer (tuple_at run push columns (suc t)) (if not (line_at run hold (suc t)) then None else x)) (sym (tuple_by run some outs (suc t)))

  tells_now : (c : ℕ) → line_at run passed c ≡ is_some (tuple_at run push columns c) && (is_some (shown c) && not (not (line_at run hold c)))
  tells_now c =
      tell c ∙ ap (λ (b : Bool). line_at run push c && b) (stay c)
      ∙ tells_by (line_at run push c) (line_at run some c) (line_at run hold c) (row_at run c columns) (row_at run c outs)
      ∙ ap (λ (x : Option Row). is_some x && (is_some (if line_at run some c then Some (row_at run c outs) else None) && not (not (line_at run hold c)))) (sym (tuple_by run push columns c))
      ∙ ap (λ (x : Option Row). is_some (tuple_at run push columns c) && (is_some x && not (not (line_at run hold c)))) (sym (tuple_by run some outs c))

  pub single_queue : IsQueue 1 (tuple_at run push columns) (λ c. not (line_at run hold c)) (tuple_at run some outs) (line_at run passed)
  single_queue =
      singles_are_queues Row (tuple_at run push columns) (λ c. not (line_at run hold c)) (tuple_at run some outs) (line_at run passed)
      (record { first = none_first some outs; next = shows_next; full = tells_now })
