-- Reading a kind by cases finds the kind that the word is the text of.
use Rattle.std.proofs.Common.{◌≡◌, ℕ, ◌+◌, ◌-◌, ◌*◌, ◌≤◌, Bool, true, false, ◌&&◌, ◌||◌, List, [], ◌∷◌, ◌++◌, Option, Some, None, refl, sym, ap, ◌∙◌, subst, inl, inr, arith}
use Rattle.std.specs.Prelude.{◌/◌, IsTrue, bytes_eq, nat_le, unwrap_or, ◌==◌, find}
use Rattle.std.specs.List.{list_all, list_any, AllByRecursion}
use Rattle.std.specs.Fmt.{digits}
use Rattle.std.proofs.lemmas.Bool.{agree_below_at, and_parts, or_cases, eqb-true, leb-true, cases_Bool, true≢false, false_from_ne_true}
use Rattle.std.proofs.lemmas.Slice.Eq.{bytes_eq-Decides}
use Rattle.std.proofs.lemmas.Bool.Decides.{nat_tests}
use Rattle.gl_values.specs.declared.kind.Kind.{Kind}
use Rattle.gl_values.specs.declared.kind.Kind.TheVariants.{Unsigned, Signed, Text}
use Rattle.gl_values.specs.Kinds.{IsKind, is_kind}
use Rattle.gl_values.specs.Operators.{same_kind}
use Rattle.gl_values.proofs.KindLemmas.{equal_kinds, kinds_equal, tested_kind}
use Rattle.gl_schema.specs.SchemaText.{kind_text, row_of, size_in}
use Rattle.gl_schema.specs.SchemaFaults.{kind_named}
use Rattle.gl_schema.specs.Written.{Written, is_written, kinds, numbers, signed_numbers, texts}
use Rattle.gl_schema.specs.KindReading.{kind_read, signed_read, text_read, small_number, sized}

-- the answer is this kind
answers : Kind → Option Kind → Bool
answers k None = false
answers k (Some j) = same_kind j k

answers-true : (k : Kind) (o : Option Kind) → answers k o ≡ true → o ≡ Some k
unfolding answers
answers-true k None h = absurd (true≢false (sym h))
answers-true k (Some j) h = ap Some (kinds_equal j k h)

-- ---- what is written

-- what passes for each kind of a list passes for one that is among them
of_each : (p : Kind → Bool) (ks : List Kind) → list_all p ks ≡ true → (k : Kind) → list_any (same_kind k) ks ≡ true → p k ≡ true
of_each p [] h k w = absurd (true≢false (sym w))
of_each p (j ∷ js) h k w =
    let here = and_parts (p j) (list_all p js) h in
    elim (or_cases (same_kind k j) (list_any (same_kind k) js) w) [
      | inl e ↦ subst (λ (x : Kind). p x ≡ true) (sym (kinds_equal k j e)) here.0
      | inr e ↦ of_each p js here.1 k e
    ]

each_is : list_all is_kind kinds ≡ true
unfolding kinds
each_is = refl

-- what is written is a kind
pub written_is : (k : Kind) → IsTrue (is_written k) → IsKind k
unfolding is_written
written_is k w = tested_kind k (of_each is_kind kinds each_is k w)

each_is_named : list_all (λ k. answers k (kind_named (kind_text k))) kinds ≡ true
unfolding answers kind_text row_of kind_named kinds digits
each_is_named = refl

-- a kind is found by its text
pub kind_is_named : (k : Kind) → IsTrue (is_written k) → kind_named (kind_text k) ≡ Some k
unfolding is_written
kind_is_named k w = answers-true k (kind_named (kind_text k)) (of_each (λ (k : Kind). answers k (kind_named (kind_text k))) kinds each_is_named k w)

-- each kind's text is read as that kind
reads_all : (ks : List Kind) → list_all (λ k. answers k (kind_read (kind_text k))) ks ≡ true → AllByRecursion (λ k. kind_read (kind_text k) ≡ Some k) ks
reads_all [] h = tt
reads_all (k ∷ ks) h = let p = and_parts (answers k (kind_read (kind_text k))) (list_all (λ k. answers k (kind_read (kind_text k))) ks) h in
    (answers-true k (kind_read (kind_text k)) p.0, reads_all ks p.1)

each_is_read : list_all (λ k. answers k (kind_read (kind_text k))) kinds ≡ true
unfolding answers kind_text row_of kinds digits
each_is_read = refl

reads : AllByRecursion (λ k. kind_read (kind_text k) ≡ Some k) kinds
reads = reads_all kinds each_is_read

kind_is_read : (k : Kind) → IsTrue (is_written k) → kind_read (kind_text k) ≡ Some k
unfolding is_written
kind_is_read k w = answers-true k (kind_read (kind_text k)) (of_each (λ (k : Kind). answers k (kind_read (kind_text k))) kinds each_is_read k w)

-- a number that is not 0 passes a test that 0 is let through
past_zero : (n : ℕ) (b : Bool) → 1 ≤ n → ((n == 0) || b) ≡ true → b ≡ true
past_zero n b low h = elim (or_cases (n == 0) b h) [ inl z ↦ absurd (let e = eqb-true n 0 z in omega arith) | inr t ↦ t ]

-- nor does one that is above 1
past_one : (n : ℕ) (b : Bool) → 2 ≤ n → (nat_le n 1 || b) ≡ true → b ≡ true
past_one n b low h = elim (or_cases (nat_le n 1) b h) [ inl z ↦ absurd (let e = leb-true n 1 z in omega arith) | inr t ↦ t ]

unsigned_written : (n : ℕ) → 1 ≤ n → n ≤ 64 → IsTrue (is_written (Unsigned n))
unfolding is_written kinds
unsigned_written n low high = past_zero n _ low (agree_below_at (λ n. (n == 0) || is_written (Unsigned n)) (λ _. true) 65 n refl (omega arith))

signed_written : (n : ℕ) → 2 ≤ n → n ≤ 64 → IsTrue (is_written (Signed n))
unfolding is_written kinds
signed_written n low high = past_one n _ low (agree_below_at (λ n. nat_le n 1 || is_written (Signed n)) (λ _. true) 65 n refl (omega arith))

text_written : (n : ℕ) → 1 ≤ n → n ≤ 8 → IsTrue (is_written (Text n))
unfolding is_written kinds
text_written n low high = past_zero n _ low (agree_below_at (λ n. (n == 0) || is_written (Text n)) (λ _. true) 9 n refl (omega arith))

-- ---- how a kind is written

picked : (p : Written → Bool) (row other : Written) (rows : List Written) → p row ≡ true → unwrap_or (find p (row ∷ rows)) other ≡ row
picked p row other rows e = rw e refl

pub unsigned_row : (w : ℕ) → row_of (Unsigned w) ≡ numbers
unfolding row_of
unsigned_row w =
    let one : w / 1 ≡ w = omega arith in
    picked (λ row. same_kind (row.make (size_in row (Unsigned w))) (Unsigned w)) numbers numbers (signed_numbers ∷ texts ∷ [])
    (equal_kinds (Unsigned (w / 1)) (Unsigned w) (ap Unsigned one))

pub signed_row : (w : ℕ) → row_of (Signed w) ≡ signed_numbers
unfolding row_of
signed_row w =
    let one : w / 1 ≡ w = omega arith in
    picked (λ row. same_kind (row.make (size_in row (Signed w))) (Signed w)) signed_numbers numbers (texts ∷ [])
    (equal_kinds (Signed (w / 1)) (Signed w) (ap Signed one))

pub text_row : (n : ℕ) → row_of (Text n) ≡ texts
unfolding row_of
text_row n =
    let eight : 8 * n / 8 ≡ n = omega arith in
    picked (λ row. same_kind (row.make (size_in row (Text n))) (Text n)) texts numbers []
    (equal_kinds (Text (8 * n / 8)) (Text n) (ap Text eight))

pub unsigned_size : (w : ℕ) → size_in (row_of (Unsigned w)) (Unsigned w) ≡ w
unsigned_size w = let one : w / 1 ≡ w = omega arith in ap (λ (row : Written). size_in row (Unsigned w)) (unsigned_row w) ∙ one

pub signed_size : (w : ℕ) → size_in (row_of (Signed w)) (Signed w) ≡ w
signed_size w = let one : w / 1 ≡ w = omega arith in ap (λ (row : Written). size_in row (Signed w)) (signed_row w) ∙ one

pub text_size : (n : ℕ) → size_in (row_of (Text n)) (Text n) ≡ n
text_size n = let eight : 8 * n / 8 ≡ n = omega arith in ap (λ (row : Written). size_in row (Text n)) (text_row n) ∙ eight

pub ruleset rows = (unsigned_row, signed_row, text_row)

pub ruleset sizes = (unsigned_size, signed_size, text_size)

-- ---- what is read

-- what one digit, or two, tell
one_tells : (a : ℕ) → 1 ≤ small_number (a ∷ []) → (49 ≤ a) × (a ≤ 57) × (small_number (a ∷ []) ≡ a - 48)
one_tells a low = grind (arith, nat_tests)

two_tells : (a b : ℕ) → 1 ≤ small_number (a ∷ b ∷ []) → (49 ≤ a) × (a ≤ 57) × (48 ≤ b) × (b ≤ 57) × (small_number (a ∷ b ∷ []) ≡ 10 * (a - 48) + (b - 48))
two_tells a b low = grind (arith, nat_tests)

one_pair : (a b c d : ℕ) → a ≡ b → c ≡ d → a ∷ c ∷ [] ≡ b ∷ d ∷ []
one_pair a b c d p q = cc

-- digits that spell one number, which is not 0, are the same
small_same : (x y : List ℕ) → small_number x ≡ small_number y → 1 ≤ small_number x → x ≡ y
small_same [] y e low = absurd (omega arith)
small_same (a ∷ []) [] e low = absurd (omega arith)
small_same (a ∷ []) (b ∷ []) e low = let p = one_tells a low in let q = one_tells b (let l : 1 ≤ small_number (b ∷ []) = omega (arith, e) in l) in ap (λ (x : ℕ). x ∷ []) (omega (arith, e, p.2, q.2))
small_same (a ∷ []) (b ∷ c ∷ []) e low = let p = one_tells a low in let q = two_tells b c (let l : 1 ≤ small_number (b ∷ c ∷ []) = omega (arith, e) in l) in absurd (omega (arith, e, p.2, q.4))
small_same (a ∷ []) (b ∷ c ∷ d ∷ ds) e low = absurd (omega (arith, e))
small_same (a ∷ b ∷ []) [] e low = absurd (omega (arith, e))
small_same (a ∷ b ∷ []) (c ∷ []) e low = let p = two_tells a b low in let q = one_tells c (let l : 1 ≤ small_number (c ∷ []) = omega (arith, e) in l) in absurd (omega (arith, e, p.4, q.2))
small_same (a ∷ b ∷ []) (c ∷ d ∷ []) e low = let p = two_tells a b low in let q = two_tells c d (let l : 1 ≤ small_number (c ∷ d ∷ []) = omega (arith, e) in l) in
    one_pair a c b d (omega (arith, e, p.4, q.4)) (omega (arith, e, p.4, q.4))
small_same (a ∷ b ∷ []) (c ∷ d ∷ f ∷ fs) e low = absurd (omega (arith, e))
small_same (a ∷ b ∷ c ∷ cs) y e low = absurd (omega arith)

-- a size that is read is a kind's
sized_tells : (kind : ℕ → Kind) (least most n : ℕ) (k : Kind) → sized kind least most n ≡ Some k → (least ≤ n) × (n ≤ most) × (kind n ≡ k)
sized_tells kind least most n k h = elim (cases_Bool (nat_le least n && nat_le n most)) [
  | inl t ↦ (let p = and_parts (nat_le least n) (nat_le n most) t in (leb-true least n p.0, leb-true n most p.1, cc (rw t at h)))
  | inr f ↦ absurd (cc (rw f at h))
]

-- what a word that is read tells: how it begins, and the number that its digits spell
record Begins (front w : List ℕ) (n least most : ℕ) : Type 0 where
  digits' : List ℕ
  word : w ≡ front ++ digits'
  spells : small_number digits' ≡ n
  low : least ≤ n
  high : n ≤ most

abbrev ReadAs : List ℕ → Kind → Type 0
ReadAs w (Unsigned n) = Begins (117 ∷ []) w n 1 64
ReadAs w (Signed n) = Begins (115 ∷ []) w n 2 64
ReadAs w (Text n) = Begins (116 ∷ 101 ∷ 120 ∷ 116 ∷ []) w n 1 8

tells_unsigned : (ds : List ℕ) (k : Kind) → sized Unsigned 1 64 (small_number ds) ≡ Some k → ReadAs (117 ∷ ds) k
tells_unsigned ds k h = let p = sized_tells Unsigned 1 64 (small_number ds) k h in
    subst (ReadAs (117 ∷ ds)) p.2 (record { digits' = ds; word = refl; spells = refl; low = p.0; high = p.1 })

tells_signed : (ds : List ℕ) (k : Kind) → sized Signed 2 64 (small_number ds) ≡ Some k → ReadAs (115 ∷ ds) k
tells_signed ds k h = let p = sized_tells Signed 2 64 (small_number ds) k h in
    subst (ReadAs (115 ∷ ds)) p.2 (record { digits' = ds; word = refl; spells = refl; low = p.0; high = p.1 })

tells_text : (ds : List ℕ) (k : Kind) → sized Text 1 8 (small_number ds) ≡ Some k → ReadAs (116 ∷ 101 ∷ 120 ∷ 116 ∷ ds) k
tells_text ds k h = let p = sized_tells Text 1 8 (small_number ds) k h in
    subst (ReadAs (116 ∷ 101 ∷ 120 ∷ 116 ∷ ds)) p.2 (record { digits' = ds; word = refl; spells = refl; low = p.0; high = p.1 })

four_same : (a b c d : ℕ) (ds : List ℕ) → ((a == 116) && (b == 101) && (c == 120) && (d == 116)) ≡ true → 116 ∷ 101 ∷ 120 ∷ 116 ∷ ds ≡ a ∷ b ∷ c ∷ d ∷ ds
four_same a b c d ds h =
    let p = and_parts ((a == 116) && (b == 101) && (c == 120)) (d == 116) h in
    let q = and_parts ((a == 116) && (b == 101)) (c == 120) p.0 in
    let r = and_parts (a == 116) (b == 101) q.0 in
    rw (eqb-true a 116 r.0, eqb-true b 101 r.1, eqb-true c 120 q.1, eqb-true d 116 p.1) refl

text_tells : (w : List ℕ) (k : Kind) → text_read w ≡ Some k → ReadAs w k
text_tells [] k h = absurd cc
text_tells (a ∷ []) k h = absurd cc
text_tells (a ∷ b ∷ []) k h = absurd cc
text_tells (a ∷ b ∷ c ∷ []) k h = absurd cc
text_tells (a ∷ b ∷ c ∷ d ∷ ds) k h = elim (cases_Bool ((a == 116) && (b == 101) && (c == 120) && (d == 116))) [
  | inl t ↦ subst (λ (w : List ℕ). ReadAs w k) (four_same a b c d ds t) (tells_text ds k (rw t at h))
  | inr f ↦ absurd (cc (rw f at h))
]

signed_tells : (w : List ℕ) (k : Kind) → signed_read w ≡ Some k → ReadAs w k
signed_tells [] k h = absurd cc
signed_tells (a ∷ ds) k h = elim (cases_Bool (a == 115)) [
  | inl t ↦ subst (λ (x : ℕ). ReadAs (x ∷ ds) k) (sym (eqb-true a 115 t)) (tells_signed ds k (rw t at h))
  | inr f ↦ text_tells (a ∷ ds) k (rw f at h)
]

read_tells : (w : List ℕ) (k : Kind) → kind_read w ≡ Some k → ReadAs w k
read_tells [] k h = absurd cc
read_tells (a ∷ ds) k h = elim (cases_Bool (a == 117)) [
  | inl t ↦ subst (λ (x : ℕ). ReadAs (x ∷ ds) k) (sym (eqb-true a 117 t)) (tells_unsigned ds k (rw t at h))
  | inr f ↦ signed_tells (a ∷ ds) k (rw f at h)
]

begins_same : (front v w : List ℕ) (n least most : ℕ) → 1 ≤ least → Begins front v n least most → Begins front w n least most → v ≡ w
begins_same front v w n least most some p q = p.word
    ∙ ap (λ (ds : List ℕ). front ++ ds) (small_same p.digits' q.digits' (p.spells ∙ sym q.spells) (omega (arith, p.spells, p.low, some)))
    ∙ sym q.word

written_read : (w : List ℕ) (k : Kind) → ReadAs w k → IsTrue (is_written k)
written_read w (Unsigned n) r = unsigned_written n r.low r.high
written_read w (Signed n) r = signed_written n r.low r.high
written_read w (Text n) r = text_written n r.low r.high

-- a word is the text of the kind that it is read as
text_of : (w : List ℕ) (k : Kind) → ReadAs w k → kind_text k ≡ w
text_of w (Unsigned n) r = begins_same (117 ∷ []) (kind_text (Unsigned n)) w n 1 64 (omega arith) (read_tells (kind_text (Unsigned n)) (Unsigned n) (kind_is_read (Unsigned n) (unsigned_written n r.low r.high))) r
text_of w (Signed n) r = begins_same (115 ∷ []) (kind_text (Signed n)) w n 2 64 (omega arith) (read_tells (kind_text (Signed n)) (Signed n) (kind_is_read (Signed n) (signed_written n r.low r.high))) r
text_of w (Text n) r = begins_same (116 ∷ 101 ∷ 120 ∷ 116 ∷ []) (kind_text (Text n)) w n 1 8 (omega arith) (read_tells (kind_text (Text n)) (Text n) (kind_is_read (Text n) (text_written n r.low r.high))) r

found : (w : List ℕ) (k : Kind) → ReadAs w k → kind_named (kind_text k) ≡ Some k
found w k r = kind_is_named k (written_read w k r)

-- the kind that is found first has the word as its text
find_none : (p : Kind → Bool) (ks : List Kind) → AllByRecursion (λ k. p k ≡ false) ks → find p ks ≡ None
find_none p [] h = refl
find_none p (k ∷ ks) h = rw h.0 (find_none p ks h.1)

-- a word that is not read is no kind's text
none_is : (w : List ℕ) → kind_read w ≡ None → (ks : List Kind) → AllByRecursion (λ k. kind_read (kind_text k) ≡ Some k) ks → AllByRecursion (λ k. bytes_eq w (kind_text k) ≡ false) ks
none_is w h [] a = tt
none_is w h (k ∷ ks) a = (false_from_ne_true (bytes_eq w (kind_text k)) (λ t. let e = (bytes_eq-Decides w (kind_text k)).0 t in cc (ap kind_read e, a.0, h)), none_is w h ks a.1)

found_as : (w : List ℕ) (o : Option Kind) → kind_read w ≡ o → o ≡ kind_named w
unfolding kind_named
found_as w None h = sym (find_none (λ k. bytes_eq w (kind_text k)) kinds (none_is w h kinds reads))
found_as w (Some k) h = let r = read_tells w k h in sym (ap kind_named (sym (text_of w k r)) ∙ found w k r)

pub kind_found : (w : List ℕ) → kind_read w ≡ kind_named w
kind_found w = found_as w (kind_read w) refl

-- the kind that is found is written, and the word is its text
pub kind_named_is : (w : List ℕ) (k : Kind) → kind_named w ≡ Some k → (kind_text k ≡ w) × IsTrue (is_written k)
kind_named_is w k h = let r = read_tells w k (kind_found w ∙ h) in (text_of w k r, written_read w k r)
