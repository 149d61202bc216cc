-- What reading one token of the changes, or all that are left, does to what was read.
use Rattle.std.proofs.Common.{◌≡◌, ℕ, ◌-◌, ◌^◌, ◌<◌, ◌≤◌, inl, inr, Bool, true, false, Option, Some, None, List, [], ◌∷◌, ◌++◌, Ok, Err, refl, sym, ap, subst, ◌∙◌, arith}
use Rattle.std.specs.Prelude.{◌⊎◌, ◌&&◌, ◌||◌, bytes_eq, codes, is_some, nat_eq, nat_le, nat_lt, slice_get, unwrap_or, if◌then◌else◌}
use Rattle.std.specs.List.{AllByRecursion}
use Rattle.std.proofs.lemmas.Bool.{and_right, cond-false, leb-false, lt-leb}
use Rattle.gl_bits.specs.Limits.{latest_time}
use Rattle.gl_bits.proofs.AllLists.{all_append}
use Rattle.gl_tuples.specs.Values.{is_number, number_in}
use Rattle.gl_vcd.specs.declared.fault.VcdFault.{VcdFault}
use Rattle.gl_vcd.specs.declared.fault.VcdFault.TheVariants.{NoValue, Syntax}
use Rattle.gl_vcd.specs.Reading.{Changes, Comment, DefinitionsEnd, Passed, Reading, ScopeEnd, ScopeKind, ScopeName, Section, Stage, Step, UpscopeEnd, VarCode, VarEnd, VarName, VarRange, VarType, VarWidth, Vector, are_bits, binary_in, by_byte, change_next, dump_from, end_by, end_of, given, given_at, given_in, given_to, is, is_between, is_bit, lacks_value, next, next_at, scalar_next, time_by, with_change, ◌>>=◌}
use Rattle.gl_vcd.specs.Signals.{Change, Dump, Signal, given_from, number_of_code, value_at}
use Rattle.gl_vcd.specs.declared.changing.Waiting.{Waiting}
use Rattle.gl_vcd.specs.declared.changing.Waiting.TheVariants as waiting
use Rattle.gl_vcd.specs.declared.declaring.Stage.{Stage as Coming}
use Rattle.gl_vcd.specs.declared.declaring.Stage.TheVariants as coming
use Rattle.gl_vcd.specs.Standing.{now_of, stage_of, waiting_of}
use Rattle.gl_vcd.specs.Tokens.{Token}
use Rattle.gl_vcd.proofs.Values.{given_append}

-- the stage is one of the changes
abbrev pub is_among : Stage → Bool
is_among Changes = true
is_among Comment = true
is_among (Vector at digits) = true
is_among _ = false

-- the signals are the same, the time does not fall, and what was given before the time that has come is as it was
pub record Follows (r r' : Reading) : Type 0 where
  pub among : is_among r'.stage ≡ true
  pub signals' : r'.signals ≡ r.signals
  pub later : now_of r ≤ now_of r'
  pub past : (i n : ℕ) → n < now_of r → value_at r'.changes i n ≡ value_at r.changes i n
  pub still : AllByRecursion (λ x. x.time ≤ now_of r) r.changes → AllByRecursion (λ x. x.time ≤ now_of r) r'.changes

-- ---- ways to go on

-- one of two steps was taken
one_of : (b : Bool) (x y : Step) (r : Reading) → (if b then x else y) ≡ Ok r → ((b ≡ true) × (x ≡ Ok r)) ⊎ ((b ≡ false) × (y ≡ Ok r))
one_of true x y r h = inl (refl, h)
one_of false x y r h = inr (refl, h)

abbrev failed : VcdFault → Step
failed fault = Err fault

abbrev done : Reading → Step
done r = Ok r

no_step : {A : Type 0} (fault : VcdFault) (r : Reading) → failed fault ≡ done r → A
no_step fault r h = absurd cc

stays : (r : Reading) (s : Stage) → is_among s ≡ true → Follows r (record r { stage = s })
stays r s among = record {
  among = among;
  signals' = refl;
  later = omega arith;
  past = λ i n lt. refl;
  still = λ all. all;
}

came : (a b : Reading) → done a ≡ done b → a ≡ b
came a b h = cc

to_stage : (r r' : Reading) (s : Stage) → is_among s ≡ true → done (record r { stage = s }) ≡ done r' → Follows r r'
to_stage r r' s among h = subst (Follows r) (came (record r { stage = s }) r' h) (stays r s among)

same_reading : (r r' : Reading) → is_among r.stage ≡ true → done r ≡ done r' → Follows r r'
same_reading r r' among h = subst (Follows r) (came r r' h) (stays r r.stage among)

-- ---- a value

given_later : (cs : List Change) (c : Change) (i n : ℕ) → n < c.time → value_at (cs ++ c ∷ []) i n ≡ value_at cs i n
unfolding value_at
given_later cs c i n lt =
    given_append None cs (c ∷ []) i n
    ∙ cond-false (nat_eq c.signal i && nat_le c.time n) (Some c.value) (given_from None cs i n) (and_right (nat_eq c.signal i) (nat_le c.time n) (lt-leb c.time n lt))

changed : (r : Reading) (time number value : ℕ) → r.time ≡ Some time → Follows r (with_change r (record { time = time; signal = number; value = value }))
changed r time number value come =
    let now : now_of r ≡ time = ap (λ (o : Option ℕ). unwrap_or o 0) come in
    let c : Change = record { time = time; signal = number; value = value } in
    record {
      among = refl;
      signals' = refl;
      later = omega arith;
      past = λ i n lt. given_later r.changes c i n (omega (arith, now, lt));
      still = λ all. all_append (λ (x : Change). x.time ≤ now_of r) r.changes (c ∷ []) all (omega (arith, now), tt);
    }

value_step : (r r' : Reading) (at value : ℕ) (code : List ℕ) → given r at value code ≡ Ok r' → Follows r r'
value_step r r' at value code h = by_time r.time refl h
  where
    by_signal : (time number : ℕ) (o : Option Signal) → r.time ≡ Some time → given_to r time at value number o ≡ Ok r' → Follows r r'
    by_signal time number None come h = no_step _ r' h
    by_signal time number (Some s) come h = elim (one_of (nat_lt value (2 ^ s.width)) _ _ r' h) [
      | inl p ↦ subst (Follows r) (came _ r' p.1) (changed r time number value come)
      | inr p ↦ no_step _ r' p.1
    ]

    by_number : (time : ℕ) (o : Option ℕ) → r.time ≡ Some time → given_at r time at value o ≡ Ok r' → Follows r r'
    by_number time None come h = no_step _ r' h
    by_number time (Some number) come h = by_signal time number (slice_get r.signals number) come h

    by_time : (o : Option ℕ) → r.time ≡ o → given_in r o at value code ≡ Ok r' → Follows r r'
    by_time None come h = no_step _ r' h
    by_time (Some time) come h = by_number time (number_of_code r.signals code) come h

-- ---- a time

timed : (r : Reading) (next : ℕ) → is_among r.stage ≡ true → now_of r ≤ next → Follows r (record r { time = Some next })
timed r next among le = record {
  among = among;
  signals' = refl;
  later = le;
  past = λ i n lt. refl;
  still = λ all. all;
}

time_step : (r r' : Reading) (at : ℕ) (digits : List ℕ) (o : Option ℕ) → is_among r.stage ≡ true → r.time ≡ o → time_by r at digits o ≡ Ok r' → Follows r r'
time_step r r' at digits None among come h =
    let now : now_of r ≡ 0 = ap (λ (o : Option ℕ). unwrap_or o 0) come in
    elim (one_of (bytes_eq digits (codes "0")) _ _ r' h) [
      | inl p ↦ subst (Follows r) (came _ r' p.1) (timed r 0 among (omega (arith, now)))
      | inr p ↦ no_step _ r' p.1
    ]
time_step r r' at digits (Some time) among come h =
    let now : now_of r ≡ time = ap (λ (o : Option ℕ). unwrap_or o 0) come in
    elim (one_of (is_number digits) _ _ r' h) [
      | inl p ↦ (elim (one_of (nat_le (number_in digits) time) _ _ r' p.1) [
        | inl q ↦ no_step _ r' q.1
        | inr q ↦ (elim (one_of (lacks_value r time) _ _ r' q.1) [
          | inl s ↦ no_step _ r' s.1
          | inr s ↦ (elim (one_of (nat_lt latest_time (number_in digits)) _ _ r' s.1) [
            | inl u ↦ no_step _ r' u.1
            | inr u ↦ subst (Follows r) (came _ r' u.1) (timed r (number_in digits) among (let lt = leb-false (number_in digits) time q.0 in omega (arith, now, lt)))
          ])
        ])
      ])
      | inr p ↦ no_step _ r' p.1
    ]

-- ---- any token

scalar_step : (r r' : Reading) (at value : ℕ) (code : List ℕ) → scalar_next r at value code ≡ Ok r' → Follows r r'
scalar_step r r' at value [] h = no_step _ r' h
scalar_step r r' at value (c ∷ cs) h = value_step r r' at value (c ∷ cs) h

byte_step : (r r' : Reading) (t : Token) (bs : List ℕ) → is_among r.stage ≡ true → by_byte r t bs ≡ Ok r' → Follows r r'
byte_step r r' t [] among h = no_step _ r' h
byte_step r r' t (b ∷ bs) among h = elim (one_of (nat_eq b 35) _ _ r' h) [
  | inl p ↦ time_step r r' t.at bs r.time among refl p.1
  | inr p ↦ (elim (one_of (nat_eq b 98) _ _ r' p.1) [
    | inl q ↦ (elim (one_of (is_some r.time && are_bits bs) _ _ r' q.1) [
      | inl s ↦ to_stage r r' (Vector t.at bs) refl s.1
      | inr s ↦ no_step _ r' s.1
    ])
    | inr q ↦ (elim (one_of (is_bit b) _ _ r' q.1) [
      | inl s ↦ scalar_step r r' t.at (b - 48) bs s.1
      | inr s ↦ no_step _ r' s.1
    ])
  ])
]

change_step : (r r' : Reading) (t : Token) → is_among r.stage ≡ true → change_next r t ≡ Ok r' → Follows r r'
change_step r r' t among h = elim (one_of (is t (codes "$comment")) _ _ r' h) [
  | inl p ↦ to_stage r r' Comment refl p.1
  | inr p ↦ (elim (one_of (is t (codes "$dumpvars") || is t (codes "$end")) _ _ r' p.1) [
    | inl q ↦ same_reading r r' among q.1
    | inr q ↦ byte_step r r' t t.bytes among q.1
  ])
]

pub step : (r r' : Reading) (t : Token) → is_among r.stage ≡ true → next r t ≡ Ok r' → Follows r r'
unfolding next
step r r' t among h = at r.stage among h
  where
    at : (s : Stage) → is_among s ≡ true → next_at s r t ≡ Ok r' → Follows r r'
    at Changes a h = change_step r r' t among h
    at Comment a h = elim (one_of (is t (codes "$end")) _ _ r' h) [
      | inl p ↦ to_stage r r' Changes refl p.1
      | inr p ↦ same_reading r r' among p.1
    ]
    at (Vector from digits) a h = value_step r r' from (binary_in digits) t.bytes h
    at Section a h = absurd cc
    at Passed a h = absurd cc
    at ScopeKind a h = absurd cc
    at ScopeName a h = absurd cc
    at ScopeEnd a h = absurd cc
    at UpscopeEnd a h = absurd cc
    at VarType a h = absurd cc
    at VarWidth a h = absurd cc
    at (VarCode width) a h = absurd cc
    at (VarName width code) a h = absurd cc
    at (VarRange signal) a h = absurd cc
    at (VarEnd signal) a h = absurd cc
    at DefinitionsEnd a h = absurd cc

-- ---- all that is left

pub record IsFrontOf (r : Reading) (dump : Dump) : Type 0 where
  pub signals' : dump.signals ≡ r.signals
  pub later : now_of r ≤ dump.last
  pub past : (i n : ℕ) → n < now_of r → value_at dump.changes i n ≡ value_at r.changes i n

front_then : (r r' : Reading) (dump : Dump) → Follows r r' → IsFrontOf r' dump → IsFrontOf r dump
front_then r r' dump f g = record {
  signals' = g.signals' ∙ f.signals';
  later = omega (arith, f.later, g.later);
  past = λ i n lt. g.past i n (let le = f.later in omega (arith, le, lt)) ∙ f.past i n lt;
}

-- at the end of the text nothing follows
pub record IsAllOf (r : Reading) (dump : Dump) : Type 0 where
  pub signals' : dump.signals ≡ r.signals
  pub changes' : dump.changes ≡ r.changes
  pub last' : dump.last ≡ now_of r

pub at_end : (len : ℕ) (r : Reading) (dump : Dump) → end_of r len ≡ Ok dump → IsAllOf r dump
unfolding end_of
at_end len r dump h = between (is_between r.stage) h
  where
    ends : (b : Bool) (time : ℕ) → r.time ≡ Some time → (if b then Err (NoValue len) else Ok (record { signals = r.signals; changes = r.changes; last = time })) ≡ Ok dump → IsAllOf r dump
    ends true time come h = absurd cc
    ends false time come h =
        let same : record { signals = r.signals; changes = r.changes; last = time } ≡ dump = cc in
        subst (IsAllOf r) same (record { signals' = refl; changes' = refl; last' = sym (ap (λ (o : Option ℕ). unwrap_or o 0) come) })

    timed : (o : Option ℕ) → r.time ≡ o → end_by r len o ≡ Ok dump → IsAllOf r dump
    timed None come h = absurd cc
    timed (Some time) come h = ends (lacks_value r time) time come h

    between : (b : Bool) → (if b then end_by r len r.time else Err (Syntax len)) ≡ Ok dump → IsAllOf r dump
    between true h = timed r.time refl h
    between false h = absurd cc

front_of_all : (r : Reading) (dump : Dump) → IsAllOf r dump → IsFrontOf r dump
front_of_all r dump all = record {
  signals' = all.signals';
  later = (let last = all.last' in omega (arith, last));
  past = λ i n lt. ap (λ (cs : List Change). value_at cs i n) all.changes';
}

pub whole : (len : ℕ) (ts : List Token) (r : Reading) (dump : Dump) → is_among r.stage ≡ true → dump_from len ts r ≡ Ok dump → IsFrontOf r dump
whole len [] r dump among h = front_of_all r dump (at_end len r dump h)
whole len (t ∷ ts) r dump among h = by (next r t) refl (whole len ts) h
  where
    by : (s : Step) → next r t ≡ s → ((r' : Reading) (dump' : Dump) → is_among r'.stage ≡ true → dump_from len ts r' ≡ Ok dump' → IsFrontOf r' dump') → (s >>= dump_from len ts) ≡ Ok dump → IsFrontOf r dump
    by (Ok r') e rest h = let f = step r r' t among e in front_then r r' dump f (rest r' dump f.among h)
    by (Err fault) e rest h = absurd cc

-- a token that is read leads on to the same whole
pub went_on : (len : ℕ) (t : Token) (ts : List Token) (r r' : Reading) → next r t ≡ Ok r' → dump_from len (t ∷ ts) r ≡ dump_from len ts r'
went_on len t ts r r' e = ap (λ (s : Step). s >>= dump_from len ts) e

pub broke_off : (len : ℕ) (t : Token) (ts : List Token) (r : Reading) (fault : VcdFault) → next r t ≡ Err fault → dump_from len (t ∷ ts) r ≡ Err fault
broke_off len t ts r fault e = ap (λ (s : Step). s >>= dump_from len ts) e

pub waits_among : (w : Waiting) → is_among (waiting_of w) ≡ true
waits_among waiting.Change = refl
waits_among waiting.Comment = refl
waits_among (waiting.Code at digits) = refl

pub begun_stage : (s : Coming) → (s ≡ coming.Changes → ⊥) → is_between (stage_of s) ≡ false
begun_stage coming.Section other = refl
begun_stage coming.Passed other = refl
begun_stage coming.ScopeKind other = refl
begun_stage coming.ScopeName other = refl
begun_stage coming.ScopeEnd other = refl
begun_stage coming.UpscopeEnd other = refl
begun_stage coming.VarType other = refl
begun_stage coming.VarWidth other = refl
begun_stage (coming.VarCode width) other = refl
begun_stage (coming.VarName width code) other = refl
begun_stage (coming.VarRange signal) other = refl
begun_stage (coming.VarEnd signal) other = refl
begun_stage coming.DefinitionsEnd other = refl
begun_stage coming.Changes other = absurd (other refl)
