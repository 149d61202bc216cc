-- A record can be added exactly where it may stand behind those before it.
use Rattle.std.proofs.Common.{◌≡◌, ℕ, ◌+◌, ◌≤◌, Bool, true, false, cond, List, [], ◌∷◌, ◌++◌, length, Option, Some, None, Result, Ok, Err, refl, sym, ap, ◌∙◌, subst, arith, append_assoc}
use Rattle.std.specs.Prelude.{slice_set, is_some, IfSome, IsTrue, IsFalse, nat_lt, ◌==◌}
use Rattle.std.specs.List.{AllByRecursion}
use Rattle.std.proofs.lemmas.Bool.{ltb-false, le-ltb, true≢false}
use Rattle.std.proofs.lemmas.List.{append-nil}
use Rattle.gl_bits.proofs.AllLists.{all_back, all_weaker, all_push}
use Rattle.gl_schema.specs.declared.schema.Schema.{Schema}
use Rattle.gl_tuples.specs.declared.beats.Beat.{Beat}
use Rattle.gl_tuple_reader.specs.declared.entry.Entry.{Entry}
use Rattle.gl_tuple_reader.specs.declared.entry.Entry.TheVariants.{Tuple, Tick, End}
use Rattle.gl_tuple_reader.specs.declared.filing.Filing.{Filing}
use Rattle.gl_tuples.specs.declared.fault.TupleFault.{TupleFault}
use Rattle.gl_tuples.specs.declared.fault.TupleFault.TheVariants.{NotUtf8, StreamTwice, TickTwice, CycleTooLarge, AfterEnd, CycleFalls}
use Rattle.gl_tuple_reader.specs.Entries.{◌>>=◌, are_utf8, text_checked, entry_of, cycle_of, cycle_below}
use Rattle.gl_tuple_reader.specs.Filing.{filing_after, next_filing, behind, beat_with, beat_of, grown_before, empty_beat, has_row, open_checked, cycle_checked}
use Rattle.gl_tuple_reader.specs.FileBeats.{cycle_said, says_end, says_tick, tick_of_records, IsBy, Brings, MayFollow, KeepRules, row_of_records, row_among}
use Rattle.gl_tuple_reader.proofs.Filings.{Next, next_tells, bind_ok, ok_is, guard_ok, filing_after-append}
use Rattle.gl_tuple_reader.proofs.Beatings.{ok_true}
use Rattle.gl_tuple_reader.proofs.FileBeating.{Stands, stands_first, stands_next, turn_is, row_here, tick_here, at_cycle, filed_beats}
use Rattle.gl_tuple_reader.proofs.Entering.{Enters, enters, end_entered, tick_entered, row_given, tuple_entered}

-- ---- lists

all_last : {A : Type 0} (P : A → Type 0) (xs : List A) (x : A) → AllByRecursion P (xs ++ x ∷ []) → P x
all_last P xs x h = (all_back P xs (x ∷ []) h).0

-- ---- what the beats so far tell of the records before

-- the cycle of the last record, and whether the end came
abbrev Latest : List (List (List ℕ)) → Option Beat → Type 0
Latest rs None = rs ≡ []
Latest rs (Some b) = AllByRecursion (IsBy b.cycle) rs × ((c : ℕ) → AllByRecursion (IsBy c) rs → b.cycle ≤ c) × (IsFalse b.end → AllByRecursion (λ r. IsFalse (says_end r)) rs) × (AllByRecursion (λ r. IsFalse (says_end r)) rs → IsFalse b.end)

by_later : (a b : ℕ) → a ≤ b → (r : List (List ℕ)) → IsBy a r → IsBy b r
by_later a b le r h = at_option (cycle_said r) h
  where
    at_option : (o : Option ℕ) → IfSome o (λ c. c ≤ a) → IfSome o (λ c. c ≤ b)
    at_option None h = tt
    at_option (Some c) h = omega arith

by_own : (r : List (List ℕ)) (cycle c : ℕ) → cycle_said r ≡ Some cycle → cycle ≤ c → IsBy c r
by_own r cycle c e le = subst (λ (o : Option ℕ). IfSome o (λ d. d ≤ c)) (sym e) le

own_by : (r : List (List ℕ)) (cycle c : ℕ) → cycle_said r ≡ Some cycle → IsBy c r → cycle ≤ c
own_by r cycle c e h = subst (λ (o : Option ℕ). IfSome o (λ d. d ≤ c)) e h

-- ---- a cycle

said_below : (number : ℕ) (o : Option ℕ) (cycle : ℕ) → cycle_below number o ≡ Ok cycle → (o ≡ Some cycle) × (cycle ≤ 10000000)
said_below number None cycle h = absurd cc
said_below number (Some c) cycle h = let p = guard_ok (nat_lt 10000000 c) (CycleTooLarge number) c cycle h in
    (ap Some p.1, subst (λ (n : ℕ). n ≤ 10000000) p.1 (ltb-false 10000000 c p.0))

said_cycle : (number : ℕ) (r : List (List ℕ)) (cycle : ℕ) → cycle_of number r ≡ Ok cycle → (cycle_said r ≡ Some cycle) × (cycle ≤ 10000000)
unfolding cycle_of
said_cycle number r cycle h = said_below number (cycle_said r) cycle h

cycle_given : (number : ℕ) (r : List (List ℕ)) (cycle : ℕ) → cycle_said r ≡ Some cycle → cycle ≤ 10000000 → cycle_of number r ≡ Ok cycle
unfolding cycle_of
cycle_given number r cycle e le = ap (cycle_below number) e ∙ rw (le-ltb 10000000 cycle le) refl

-- ---- a stream's row in the beat of a cycle

none_is : {A : Type 0} (o : Option A) → is_some o ≡ false → o ≡ None
none_is None h = refl
none_is (Some x) h = absurd (true≢false h)

-- ---- one record

text_true : (number : ℕ) (b : Bool) → ◌≡◌ {A = Result (Unit {0}) TupleFault} (cond b (Ok tt) (Err (NotUtf8 number))) (Ok tt) → b ≡ true
text_true number true h = refl
text_true number false h = absurd cc

pub is_text : (number : ℕ) (r : List (List ℕ)) (u : Unit {0}) → text_checked number r ≡ Ok u → IsTrue (are_utf8 r)
unfolding text_checked
is_text number r u h = text_true number (are_utf8 r) h

-- what a record that is added tells of its text
pub next_text : (schema : Schema) (f : Filing) (r : List (List ℕ)) (g : Filing) → next_filing schema f r ≡ Ok g → IsTrue (are_utf8 r)
unfolding next_filing
next_text schema f r g h = let a = bind_ok (text_checked (f.records + 1) r) _ g h in is_text (f.records + 1) r a.0 a.1

-- ---- the beat that a record is added to

beat_cycle : (number : ℕ) (b : Beat) (entry : Entry) (full : Beat) → beat_with number b entry ≡ Ok full → full.cycle ≡ b.cycle
beat_cycle number b End full h = ap (λ (x : Beat). x.cycle) (sym (ok_is _ full h))
beat_cycle number b Tick full h = let p = guard_ok b.tick (TickTwice number) _ full h in ap (λ (x : Beat). x.cycle) (sym p.1)
beat_cycle number b (Tuple k row) full h = let p = guard_ok (has_row b.rows k) (StreamTwice number) _ full h in ap (λ (x : Beat). x.cycle) (sym p.1)

abbrev ends : Entry → Bool → Bool
ends End before = true
ends Tick before = before
ends (Tuple k row) before = before

beat_end : (number : ℕ) (b : Beat) (entry : Entry) (full : Beat) → beat_with number b entry ≡ Ok full → full.end ≡ ends entry b.end
beat_end number b End full h = ap (λ (x : Beat). x.end) (sym (ok_is _ full h))
beat_end number b Tick full h = let p = guard_ok b.tick (TickTwice number) _ full h in ap (λ (x : Beat). x.end) (sym p.1)
beat_end number b (Tuple k row) full h = let p = guard_ok (has_row b.rows k) (StreamTwice number) _ full h in ap (λ (x : Beat). x.end) (sym p.1)

open_if : (streams cycle number : ℕ) (b : Beat) (same : Bool) → b.end ≡ false → (cond same b (empty_beat streams cycle number)).end ≡ false
open_if streams cycle number b true h = h
open_if streams cycle number b false h = refl

base_open : (streams cycle number : ℕ) (current : Option Beat) → open_checked number current ≡ Ok tt → (beat_of streams cycle number current).end ≡ false
base_open streams cycle number None h = refl
base_open streams cycle number (Some b) h = open_if streams cycle number b (b.cycle == cycle) (ok_true b.end (AfterEnd number) h)

-- ---- the last record's cycle, and the end

before_by : (rs : List (List (List ℕ))) (current : Option Beat) (number cycle : ℕ) → Latest rs current → cycle_checked number cycle current ≡ Ok tt → AllByRecursion (IsBy cycle) rs
before_by rs None number cycle l h = subst (AllByRecursion (IsBy cycle)) (sym l) tt
before_by rs (Some b) number cycle l h = all_weaker (IsBy b.cycle) (IsBy cycle) (by_later b.cycle cycle (ltb-false cycle b.cycle (ok_true (nat_lt cycle b.cycle) (CycleFalls number) h))) rs l.0

before_still : (rs : List (List (List ℕ))) (current : Option Beat) (number : ℕ) → Latest rs current → open_checked number current ≡ Ok tt → AllByRecursion (λ r. IsFalse (says_end r)) rs
before_still rs None number l h = subst (AllByRecursion (λ r. IsFalse (says_end r))) (sym l) tt
before_still rs (Some b) number l h = l.2 (ok_true b.end (AfterEnd number) h)

open_given : (rs : List (List (List ℕ))) (current : Option Beat) (number : ℕ) → Latest rs current → AllByRecursion (λ r. IsFalse (says_end r)) rs → open_checked number current ≡ Ok tt
open_given rs None number l h = refl
open_given rs (Some b) number l h = rw (l.3 h) refl

rises_given : (rs : List (List (List ℕ))) (current : Option Beat) (number cycle : ℕ) → Latest rs current → AllByRecursion (IsBy cycle) rs → cycle_checked number cycle current ≡ Ok tt
rises_given rs None number cycle l h = refl
rises_given rs (Some b) number cycle l h = rw (le-ltb cycle b.cycle (l.1 cycle h)) refl

still_in : (schema : Schema) (r : List (List ℕ)) (entry : Entry) (e : Bool) → Enters schema r entry → e ≡ ends entry false → IsFalse e → IsFalse (says_end r)
still_in schema r End e h is f = absurd (true≢false (sym is ∙ f))
still_in schema r Tick e h is f = h.0
still_in schema r (Tuple k row) e h is f = h.0

still_out : (schema : Schema) (r : List (List ℕ)) (entry : Entry) (e : Bool) → Enters schema r entry → e ≡ ends entry false → IsFalse (says_end r) → IsFalse e
still_out schema r End e h is f = absurd (true≢false (sym h.0 ∙ f))
still_out schema r Tick e h is f = is
still_out schema r (Tuple k row) e h is f = is

-- ---- the beats so far, and what they tell

record Keeps (skipped : ℕ) (schema : Schema) (rs : List (List (List ℕ))) (f : Filing) : Type 0 where
  stands : Stands skipped schema rs f
  latest : Latest rs f.current

beat_cycle_is : (skipped : ℕ) (schema : Schema) (rs : List (List (List ℕ))) (f : Filing) (r : List (List ℕ)) (g : Filing) → Keeps skipped schema rs f → (n : Next schema f r g) → n.beat.cycle ≡ n.cycle
beat_cycle_is skipped schema rs f r g k n =
    beat_cycle (f.records + 1) (beat_of (length schema.streams) n.cycle (f.records + 1) f.current) n.entry n.beat n.filled
    ∙ (turn_is schema (f.records + 1) f.whole.beats f.current n.cycle k.stands.filed.current n.opened n.rises).cycled

beat_end_is : (schema : Schema) (f : Filing) (r : List (List ℕ)) (g : Filing) (n : Next schema f r g) → n.beat.end ≡ ends n.entry false
beat_end_is schema f r g n =
    beat_end (f.records + 1) (beat_of (length schema.streams) n.cycle (f.records + 1) f.current) n.entry n.beat n.filled
    ∙ ap (ends n.entry) (base_open (length schema.streams) n.cycle (f.records + 1) f.current n.opened)

latest_next : (skipped : ℕ) (schema : Schema) (rs : List (List (List ℕ))) (f : Filing) (r : List (List ℕ)) (g : Filing) → Keeps skipped schema rs f → (n : Next schema f r g) → Latest (rs ++ r ∷ []) (Some n.beat)
latest_next skipped schema rs f r g k n =
    let same = beat_cycle_is skipped schema rs f r g k n in
    let said = said_cycle (f.records + 1) r n.cycle n.cycled in
    let entering = enters (f.records + 1) schema r n.entry n.entered in
    let is = beat_end_is schema f r g n in (
      subst (λ (c : ℕ). AllByRecursion (IsBy c) (rs ++ r ∷ [])) (sym same) (all_push (IsBy n.cycle) rs r (before_by rs f.current (f.records + 1) n.cycle k.latest n.rises) (by_own r n.cycle n.cycle said.0 (omega arith))),
      λ c all. subst (λ (x : ℕ). x ≤ c) (sym same) (own_by r n.cycle c said.0 (all_last (IsBy c) rs r all)),
      λ e. all_push (λ r. IsFalse (says_end r)) rs r (before_still rs f.current (f.records + 1) k.latest n.opened) (still_in schema r n.entry n.beat.end entering is e),
      λ all. still_out schema r n.entry n.beat.end entering is (all_last (λ r. IsFalse (says_end r)) rs r all),
    )

keeps_next : (skipped : ℕ) (schema : Schema) (rs : List (List (List ℕ))) (f : Filing) (r : List (List ℕ)) (g : Filing) → Keeps skipped schema rs f → Next schema f r g → Keeps skipped schema (rs ++ r ∷ []) g
keeps_next skipped schema rs f r g k n = record {
  stands = stands_next skipped schema rs f r g k.stands n;
  latest = subst (λ (g : Filing). Latest (rs ++ r ∷ []) g.current) n.is (latest_next skipped schema rs f r g k n);
}

keeps_after : (skipped : ℕ) (schema : Schema) (rs us : List (List (List ℕ))) (f g : Filing) → Keeps skipped schema rs f → filing_after schema us f ≡ Ok g → Keeps skipped schema (rs ++ us) g
keeps_after skipped schema rs [] f g k e = subst (λ (x : List (List (List ℕ))). Keeps skipped schema x g) (sym (append-nil rs)) (subst (Keeps skipped schema rs) (ok_is f g e) k)
keeps_after skipped schema rs (u ∷ us) f g k e =
    let b = bind_ok (next_filing schema f u) (filing_after schema us) g e in
    subst (λ (x : List (List (List ℕ))). Keeps skipped schema x g) (append_assoc rs (u ∷ []) us)
    (keeps_after skipped schema (rs ++ u ∷ []) us b.0 g (keeps_next skipped schema rs f u b.0 k (next_tells schema f u b.0 b.1)) b.2)

keeps_first : (skipped : ℕ) (schema : Schema) → Keeps skipped schema [] (behind skipped schema)
keeps_first skipped schema = record { stands = stands_first skipped schema; latest = refl }

-- the row of a stream in the beat of a cycle is that of the records before
row_before : (skipped : ℕ) (schema : Schema) (rs : List (List (List ℕ))) (f : Filing) (cycle k : ℕ) → Keeps skipped schema rs f → open_checked (f.records + 1) f.current ≡ Ok tt → cycle_checked (f.records + 1) cycle f.current ≡ Ok tt
    → row_among (beat_of (length schema.streams) cycle (f.records + 1) f.current).rows k ≡ row_of_records schema cycle k rs
row_before skipped schema rs f cycle k s opened rises =
    let turn = turn_is schema (f.records + 1) f.whole.beats f.current cycle s.stands.filed.current opened rises in
    row_here (f.records + 1) (length schema.streams) (at_cycle (filed_beats f.whole.beats f.current) cycle) (beat_of (length schema.streams) cycle (f.records + 1) f.current) k turn.was ∙ s.stands.shows.rows cycle k

-- and so is its tick
tick_before : (skipped : ℕ) (schema : Schema) (rs : List (List (List ℕ))) (f : Filing) (cycle : ℕ) → Keeps skipped schema rs f → open_checked (f.records + 1) f.current ≡ Ok tt → cycle_checked (f.records + 1) cycle f.current ≡ Ok tt
    → (beat_of (length schema.streams) cycle (f.records + 1) f.current).tick ≡ tick_of_records cycle rs
tick_before skipped schema rs f cycle s opened rises =
    let turn = turn_is schema (f.records + 1) f.whole.beats f.current cycle s.stands.filed.current opened rises in
    tick_here (f.records + 1) (length schema.streams) (at_cycle (filed_beats f.whole.beats f.current) cycle) (beat_of (length schema.streams) cycle (f.records + 1) f.current) turn.was ∙ s.stands.shows.ticks cycle

-- ---- a record that is added may stand there

-- what a record brings, by what it says
brings_by : (schema : Schema) (rs : List (List (List ℕ))) (r : List (List ℕ)) (cycle : ℕ) (b c : Bool) → says_end r ≡ b → says_tick r ≡ c → Brings schema rs cycle r b c → Brings schema rs cycle r (says_end r) (says_tick r)
brings_by schema rs r cycle b c e t h = subst (λ (x : Bool). Brings schema rs cycle r x (says_tick r)) (sym e) (subst (Brings schema rs cycle r b) (sym t) h)

brings_of : (skipped : ℕ) (schema : Schema) (rs : List (List (List ℕ))) (f : Filing) (r : List (List ℕ)) (cycle : ℕ) (entry : Entry) (beat : Beat) → Keeps skipped schema rs f → open_checked (f.records + 1) f.current ≡ Ok tt → cycle_checked (f.records + 1) cycle f.current ≡ Ok tt
    → Enters schema r entry → beat_with (f.records + 1) (beat_of (length schema.streams) cycle (f.records + 1) f.current) entry ≡ Ok beat → Brings schema rs cycle r (says_end r) (says_tick r)
brings_of skipped schema rs f r cycle End beat k opened rises h filled = brings_by schema rs r cycle true (says_tick r) h.0 refl h.1
brings_of skipped schema rs f r cycle Tick beat k opened rises h filled =
    let base = beat_of (length schema.streams) cycle (f.records + 1) f.current in
    let p = guard_ok base.tick (TickTwice (f.records + 1)) _ beat filled in
    brings_by schema rs r cycle false true h.0 h.1 (record { alone' = h.2; new = sym (tick_before skipped schema rs f cycle k opened rises) ∙ p.0 })
brings_of skipped schema rs f r cycle (Tuple j row) beat k opened rises h filled =
    let base = beat_of (length schema.streams) cycle (f.records + 1) f.current in
    let p = guard_ok (has_row base.rows j) (StreamTwice (f.records + 1)) _ beat filled in
    brings_by schema rs r cycle false false h.0 h.1 (record {
      name = h.2;
      second = h.3;
      stream = j;
      named = h.4;
      row = row;
      values = h.5;
      many = h.6;
      new = sym (row_before skipped schema rs f cycle j k opened rises) ∙ none_is (row_among base.rows j) p.0;
    })

may_follow : (skipped : ℕ) (schema : Schema) (rs : List (List (List ℕ))) (f : Filing) (r : List (List ℕ)) (g : Filing) → Keeps skipped schema rs f → next_filing schema f r ≡ Ok g → MayFollow schema rs r
may_follow skipped schema rs f r g k h =
    let n = next_tells schema f r g h in
    let said = said_cycle (f.records + 1) r n.cycle n.cycled in
    record {
      text = next_text schema f r g h;
      cycle = n.cycle;
      said = said.0;
      early = said.1;
      rises = before_by rs f.current (f.records + 1) n.cycle k.latest n.rises;
      still = before_still rs f.current (f.records + 1) k.latest n.opened;
      brings = brings_of skipped schema rs f r n.cycle n.entry n.beat k n.opened n.rises (enters (f.records + 1) schema r n.entry n.entered) n.filled;
    }

-- all records of a file that has beats keep the rules
pub rules_kept : (skipped : ℕ) (schema : Schema) (rs : List (List (List ℕ))) (g : Filing) → filing_after schema rs (behind skipped schema) ≡ Ok g → KeepRules schema rs
rules_kept skipped schema rs g h before r after e =
    let split : (filing_after schema before (behind skipped schema) >>= filing_after schema (r ∷ after)) ≡ Ok g = sym (filing_after-append schema before (r ∷ after) (behind skipped schema)) ∙ ap (λ (x : List (List (List ℕ))). filing_after schema x (behind skipped schema)) (sym e) ∙ h in
    let a = bind_ok (filing_after schema before (behind skipped schema)) (filing_after schema (r ∷ after)) g split in
    let b = bind_ok (next_filing schema a.0 r) (filing_after schema after) g a.2 in
    may_follow skipped schema before a.0 r b.0 (keeps_after skipped schema [] before (behind skipped schema) a.0 (keeps_first skipped schema) a.1) b.1

-- ---- a record that may stand there is added

pub bind_given : {A B : Type 0} (x : Result A TupleFault) (f : A → Result B TupleFault) (y : A) → x ≡ Ok y → (x >>= f) ≡ f y
bind_given x f y h = ap (λ (z : Result _ TupleFault). z >>= f) h

pub text_given : (number : ℕ) (r : List (List ℕ)) → IsTrue (are_utf8 r) → text_checked number r ≡ Ok tt
unfolding text_checked
text_given number r h = rw h refl

next_given : (schema : Schema) (f : Filing) (r : List (List ℕ)) (cycle : ℕ) (entry : Entry) (beat : Beat)
    → text_checked (f.records + 1) r ≡ Ok tt → open_checked (f.records + 1) f.current ≡ Ok tt → cycle_of (f.records + 1) r ≡ Ok cycle → cycle_checked (f.records + 1) cycle f.current ≡ Ok tt
    → entry_of (f.records + 1) schema r ≡ Ok entry → beat_with (f.records + 1) (beat_of (length schema.streams) cycle (f.records + 1) f.current) entry ≡ Ok beat
    → next_filing schema f r ≡ Ok (record { whole = grown_before cycle f.whole f.current; current = Some beat; records = f.records + 1 })
unfolding next_filing
next_given schema f r cycle entry beat a b c d e k =
    bind_given (text_checked (f.records + 1) r) _ tt a ∙ bind_given (open_checked (f.records + 1) f.current) _ tt b ∙ bind_given (cycle_of (f.records + 1) r) _ cycle c
    ∙ bind_given (cycle_checked (f.records + 1) cycle f.current) _ tt d ∙ bind_given (entry_of (f.records + 1) schema r) _ entry e ∙ bind_given (beat_with (f.records + 1) (beat_of (length schema.streams) cycle (f.records + 1) f.current) entry) _ beat k

-- the entry that a record brings, and that its beat has room for it
record HasEntry (schema : Schema) (f : Filing) (r : List (List ℕ)) (cycle : ℕ) : Type 0 where
  entry : Entry
  entered : entry_of (f.records + 1) schema r ≡ Ok entry
  beat : Beat
  filled : beat_with (f.records + 1) (beat_of (length schema.streams) cycle (f.records + 1) f.current) entry ≡ Ok beat

entry_given : (skipped : ℕ) (schema : Schema) (rs : List (List (List ℕ))) (f : Filing) (r : List (List ℕ)) (cycle : ℕ) (b c : Bool) → says_end r ≡ b → says_tick r ≡ c → Keeps skipped schema rs f → open_checked (f.records + 1) f.current ≡ Ok tt → cycle_checked (f.records + 1) cycle f.current ≡ Ok tt
    → Brings schema rs cycle r b c → HasEntry schema f r cycle
entry_given skipped schema rs f r cycle true c s u k opened rises h = record { entry = End; entered = end_entered (f.records + 1) schema r s h; beat = _; filled = refl }
entry_given skipped schema rs f r cycle false true s u k opened rises h =
    let base = beat_of (length schema.streams) cycle (f.records + 1) f.current in
    let none : base.tick ≡ false = tick_before skipped schema rs f cycle k opened rises ∙ h.new in
    record {
      entry = Tick;
      entered = tick_entered (f.records + 1) schema r s u h.alone';
      beat = record base { tick = true };
      filled = rw none refl;
    }
entry_given skipped schema rs f r cycle false false s u k opened rises h =
    let base = beat_of (length schema.streams) cycle (f.records + 1) f.current in
    let none : has_row base.rows h.stream ≡ false = ap is_some (row_before skipped schema rs f cycle h.stream k opened rises ∙ h.new) in
    record {
      entry = Tuple h.stream h.row;
      entered = tuple_entered (f.records + 1) schema r h.name h.stream h.row h.second s u h.named (row_given (f.records + 1) schema h.stream r h.row h.values h.many);
      beat = record base { rows = slice_set base.rows h.stream (Some h.row) };
      filled = rw none refl;
    }

record IsAdded (schema : Schema) (f : Filing) (r : List (List ℕ)) : Type 0 where
  after : Filing
  is : next_filing schema f r ≡ Ok after

is_added : (skipped : ℕ) (schema : Schema) (rs : List (List (List ℕ))) (f : Filing) (r : List (List ℕ)) → Keeps skipped schema rs f → MayFollow schema rs r → IsAdded schema f r
is_added skipped schema rs f r k m =
    let opened = open_given rs f.current (f.records + 1) k.latest m.still in
    let rises = rises_given rs f.current (f.records + 1) m.cycle k.latest m.rises in
    let e = entry_given skipped schema rs f r m.cycle (says_end r) (says_tick r) refl refl k opened rises m.brings in
    record {
      after = record { whole = grown_before m.cycle f.whole f.current; current = Some e.beat; records = f.records + 1 };
      is = next_given schema f r m.cycle e.entry e.beat (text_given (f.records + 1) r m.text) opened (cycle_given (f.records + 1) r m.cycle m.said m.early) rises e.entered e.filled;
    }

pub record AreAdded (schema : Schema) (f : Filing) (rs : List (List (List ℕ))) : Type 0 where
  pub after : Filing
  pub is : filing_after schema rs f ≡ Ok after

are_added : (skipped : ℕ) (schema : Schema) (before rs : List (List (List ℕ))) (f : Filing) → Keeps skipped schema before f → KeepRules schema (before ++ rs) → AreAdded schema f rs
are_added skipped schema before [] f k rules = record { after = f; is = refl }
are_added skipped schema before (r ∷ rs) f k rules =
    let one = is_added skipped schema before f r k (rules before r rs refl) in
    let same = append_assoc before (r ∷ []) rs in
    let more = are_added skipped schema (before ++ r ∷ []) rs one.after (keeps_next skipped schema before f r one.after k (next_tells schema f r one.after one.is)) (subst (KeepRules schema) (sym same) rules) in
    record { after = more.after; is = bind_given (next_filing schema f r) (filing_after schema rs) one.after one.is ∙ more.is }

-- records that keep the rules are all added
pub rules_give : (skipped : ℕ) (schema : Schema) (rs : List (List (List ℕ))) → KeepRules schema rs → AreAdded schema (behind skipped schema) rs
rules_give skipped schema rs rules = are_added skipped schema [] rs (behind skipped schema) (keeps_first skipped schema) rules
