-- What an expression has open is counted among all brackets.
use Rattle.std.proofs.Common.{◌≡◌, ℕ, zero, suc, ◌≤◌, Bool, false, ltb, arith, refl, subst, sym, ap}
use Rattle.std.specs.Prelude.{◌||◌}
use Rattle.std.proofs.lemmas.Bool.{ltb-false}
use Rattle.gl_verilog.specs.Tokens.{Token, Reserved, Mark, Keyword, WireWord, RegWord, AssignWord, AlwaysWord, IfWord, CloseParen, OpenBracket, Semicolon, Equals, LessEquals}
use Rattle.gl_verilog_faults.specs.Counts.{Counts, after, is_past}
use Rattle.gl_verilog_faults.specs.Marks.{State, Header, Ground, Declares, Clocks, Asks, Aims, Index, Test, Value, Turn, Opening, Closing, Operating, Ending, Going, turn, turn_role, inside, in_value, word_next, ground_next, aim_next, declare_next, clock_next, header_next, role_at, next}
use Rattle.gl_verilog_grammar.specs.declared.counting.Counter.{Counter}
use Rattle.gl_verilog_grammar.specs.Counting.{place_of, depth_of, counts_of, IsWithin}

index_deep : (d : ℕ) (u : Turn) (n : Counts) → d ≤ n.brackets → depth_of (inside Index Aims d u) ≤ (after n (turn_role u)).brackets
index_deep d Opening n h = omega arith
index_deep zero Closing n h = omega arith
index_deep (suc d) Closing n h = omega arith
index_deep d Operating n h = h
index_deep d Ending n h = h
index_deep d Going n h = h

test_deep : (d : ℕ) (u : Turn) (n : Counts) → d ≤ n.brackets → depth_of (inside Test Ground d u) ≤ (after n (turn_role u)).brackets
test_deep d Opening n h = omega arith
test_deep zero Closing n h = omega arith
test_deep (suc d) Closing n h = omega arith
test_deep d Operating n h = h
test_deep d Ending n h = h
test_deep d Going n h = h

word_shallow : (w : Keyword) → depth_of (word_next w) ≡ 0
word_shallow WireWord = refl
word_shallow RegWord = refl
word_shallow AssignWord = refl
word_shallow AlwaysWord = refl
word_shallow IfWord = refl
word_shallow w = refl

header_shallow : (t : Token) → depth_of (header_next t) ≡ 0
header_shallow (Mark Semicolon) = refl
header_shallow t = refl

ground_shallow : (t : Token) → depth_of (ground_next t) ≡ 0
ground_shallow (Reserved w) = word_shallow w
ground_shallow t = refl

declare_shallow : (t : Token) → depth_of (declare_next t) ≡ 0
declare_shallow (Mark Equals) = refl
declare_shallow (Mark Semicolon) = refl
declare_shallow t = refl

clock_shallow : (t : Token) → depth_of (clock_next t) ≡ 0
clock_shallow (Mark CloseParen) = refl
clock_shallow t = refl

aim_shallow : (t : Token) → depth_of (aim_next t) ≡ 0
aim_shallow (Mark OpenBracket) = refl
aim_shallow (Mark LessEquals) = refl
aim_shallow t = refl

value_shallow : (u : Turn) → depth_of (in_value u) ≡ 0
value_shallow Ending = refl
value_shallow u = refl

none_deep : (d n : ℕ) → d ≡ 0 → d ≤ n
none_deep d n e = omega arith

deep : (q : State) (t : Token) (n : Counts) → depth_of q ≤ n.brackets → depth_of (next q t) ≤ (after n (role_at q t)).brackets
deep Header t n h = none_deep _ _ (header_shallow t)
deep Ground t n h = none_deep _ _ (ground_shallow t)
deep Declares t n h = none_deep _ _ (declare_shallow t)
deep Clocks t n h = none_deep _ _ (clock_shallow t)
deep Asks t n h = none_deep 0 _ refl
deep Aims t n h = none_deep _ _ (aim_shallow t)
deep (Index d) t n h = index_deep d (turn t) n h
deep (Test d) t n h = test_deep d (turn t) n h
deep Value t n h = none_deep _ _ (value_shallow (turn t))

or_false : (a b c : Bool) → (a || (b || c)) ≡ false → (a ≡ false) × (b ≡ false) × (c ≡ false)
or_false false false false e = (refl, refl, refl)
or_false a b c e = absurd cc

-- where no limit is passed, the counter stays within them
pub stays_within : (c d : Counter) (t : Token) → IsWithin c → place_of d.place ≡ next (place_of c.place) t → counts_of d ≡ after (counts_of c) (role_at (place_of c.place) t) → is_past (counts_of d) ≡ false → IsWithin d
stays_within c d t w place counts past =
    let h = or_false (ltb 64 d.brackets) (ltb 1024 d.operators) (ltb 1024 d.ifs) past in
    let q : depth_of (next (place_of c.place) t) ≤ (after (counts_of c) (role_at (place_of c.place) t)).brackets = deep (place_of c.place) t (counts_of c) w.depth in
    let e : (after (counts_of c) (role_at (place_of c.place) t)).brackets ≡ d.brackets = ap (λ (n : Counts). n.brackets) (sym counts) in
    record {
      depth = subst (λ (x : State). depth_of x ≤ d.brackets) (sym place) (subst (λ (n : ℕ). depth_of (next (place_of c.place) t) ≤ n) e q);
      brackets = ltb-false 64 d.brackets h.0;
      operators = ltb-false 1024 d.operators h.1;
      ifs = ltb-false 1024 d.ifs h.2;
    }
