-- Fields of a record, and faults that are handed on.
use Rattle.std.proofs.Common.{◌≡◌, ℕ, zero, suc, ◌<◌, ◌≤◌, ◌+◌, ◌++◌, length, take, drop, get_or, append_assoc, add-one, drop-cons, true, false, List, [], ◌∷◌, Option, Some, None, Result, Err, refl, sym, ap, ◌∙◌, arith}
use Rattle.std.specs.Prelude.{slice_get, option_map}
use Rattle.std.specs.List.{list_all}
use Rattle.std.proofs.lemmas.Bool.{and_from, eq-eqb}
use Rattle.std.proofs.lemmas.List.{take_all}
use Rattle.std.proofs.lemmas.List.Folds.{list_all_more, list_all_at}
use Rattle.gl_bits.specs.Words.{Word}
use Rattle.gl_schema.specs.declared.schema.Column.{Column}
use Rattle.gl_schema.specs.declared.schema.Stream.{Stream}
use Rattle.csv.specs.Records.{field_at}
use Rattle.gl_tuples.specs.declared.fault.TupleFault.{TupleFault}
use Rattle.gl_tuples.specs.declared.fault.TupleFault.TheVariants.{NotUtf8, BadCycle, CycleFalls, CycleTooLarge, UnknownStream, FieldCount, BadValue, StreamTwice, TickTwice, AfterEnd, TooClose, UnknownParameter, SetTwice, NotSet, Memory}
use Rattle.gl_tuple_reader.specs.Entries.{Fails, ◌>>=◌, are_utf8, columns_at, words_of, option_bind, row_of}
use Rattle.gl_tuples.specs.Values.{is_utf8, word_of}

pub field_at_is : (fields : List (List ℕ)) (i : ℕ) → field_at fields i ≡ slice_get fields i
unfolding field_at
field_at_is [] i = refl
field_at_is (f ∷ fs) zero = refl
field_at_is (f ∷ fs) (suc i) = field_at_is fs i

-- a fault of the first step is that of the whole
pub fails_then : {A B : Type 0} (e : TupleFault) (x : Result A TupleFault) (f : A → Result B TupleFault) → Fails e x → Fails e (x >>= f)
fails_then Memory x f h = tt
fails_then (NotUtf8 n) x f h = rw h refl
fails_then (BadCycle n) x f h = rw h refl
fails_then (CycleFalls n) x f h = rw h refl
fails_then (CycleTooLarge n) x f h = rw h refl
fails_then (UnknownStream n) x f h = rw h refl
fails_then (FieldCount n) x f h = rw h refl
fails_then (BadValue n) x f h = rw h refl
fails_then (StreamTwice n) x f h = rw h refl
fails_then (TickTwice n) x f h = rw h refl
fails_then (AfterEnd n) x f h = rw h refl
fails_then (TooClose n) x f h = rw h refl
fails_then (UnknownParameter n) x f h = rw h refl
fails_then (SetTwice n) x f h = rw h refl
fails_then (NotSet n) x f h = rw h refl

-- the field at a place that there is
pub field_is : (fs : List (List ℕ)) (i : ℕ) (f : List ℕ) → slice_get fs i ≡ Some f → get_or fs i [] ≡ f
field_is [] i f h = absurd cc
field_is (g ∷ fs) zero f h = cc
field_is (g ∷ fs) (suc i) f h = field_is fs i f h

pub text_more : (fs : List (List ℕ)) (i : ℕ) → i < length fs → list_all is_utf8 (take i fs) ≡ true → is_utf8 (get_or fs i []) ≡ true → list_all is_utf8 (take (i + 1) fs) ≡ true
text_more fs i lt a b = list_all_more is_utf8 fs i [] lt ∙ and_from (list_all is_utf8 (take i fs)) (is_utf8 (get_or fs i [])) a b

pub text_broken : (fs : List (List ℕ)) (i : ℕ) → i < length fs → is_utf8 (get_or fs i []) ≡ false → false ≡ are_utf8 fs
unfolding are_utf8
text_broken fs i lt b = sym (list_all_at is_utf8 fs i [] lt b)

pub text_whole : (fs : List (List ℕ)) (i : ℕ) → length fs ≤ i → list_all is_utf8 (take i fs) ≡ true → true ≡ are_utf8 fs
unfolding are_utf8
text_whole fs i le a = sym (ap (list_all is_utf8) (sym (take_all i fs le)) ∙ a)

pub ruleset text_steps = (text_more, text_broken, text_whole)

pub columns_are : (ss : List Stream) (k : ℕ) (s : Stream) → k < length ss → s ≡ get_or ss k s → s.columns ≡ columns_at ss k
columns_are [] k s lt e = absurd (omega arith)
columns_are (t ∷ ss) zero s lt e = ap (λ (x : Stream). x.columns) e
columns_are (t ∷ ss) (suc k) s lt e = columns_are ss k s (omega arith) e

-- the first of the words that are left
words_head : (c : Column) (cs : List Column) (fs : List (List ℕ)) (k : ℕ) → words_of (c ∷ cs) (drop k fs) ≡ option_bind (option_bind (slice_get fs k) (word_of c.kind)) (λ w. option_map (λ ws. w ∷ ws) (words_of cs (drop (suc k) fs)))
words_head c cs [] zero = refl
words_head c cs [] (suc k) = refl
words_head c cs (f ∷ fs) zero = refl
words_head c cs (f ∷ fs) (suc k) = words_head c cs fs k

pub words_next : (cs : List Column) (fs : List (List ℕ)) (i k : ℕ) (c : Column) → i < length cs → c ≡ get_or cs i c
    → words_of (drop i cs) (drop k fs) ≡ option_bind (option_bind (slice_get fs k) (word_of c.kind)) (λ w. option_map (λ ws. w ∷ ws) (words_of (drop (suc i) cs) (drop (suc k) fs)))
words_next cs fs i k c lt e = ap (λ (x : List Column). words_of x (drop k fs)) (drop-cons cs i c lt ∙ ap (λ (x : Column). x ∷ drop (suc i) cs) (sym e)) ∙ words_head c (drop (suc i) cs) fs k

push_words : (row : List Word) (w : Word) (o : Option (List Word)) → option_map (λ ws. row ++ ws) (option_map (λ ws. w ∷ ws) o) ≡ option_map (λ ws. (row ++ w ∷ []) ++ ws) o
push_words row w None = refl
push_words row w (Some ws) = ap Some (sym (append_assoc row (w ∷ []) ws))

-- a word more
pub row_grows : (cs : List Column) (fs : List (List ℕ)) (i : ℕ) (c : Column) (row longer : List Word) (w : Word) (whole : Option (List Word)) → i < length cs → c ≡ get_or cs i c
    → Some w ≡ option_bind (slice_get fs (2 + i)) (word_of c.kind) → longer ≡ row ++ w ∷ []
    → option_map (λ ws. row ++ ws) (words_of (drop i cs) (drop (2 + i) fs)) ≡ whole
    → option_map (λ ws. longer ++ ws) (words_of (drop (i + 1) cs) (drop (2 + (i + 1)) fs)) ≡ whole
row_grows cs fs i c row longer w whole lt e word grown so_far =
    let k : 2 + (i + 1) ≡ suc (2 + i) = omega arith in
    let next = words_next cs fs i (2 + i) c lt e ∙ ap (λ (o : Option Word). option_bind o (λ w. option_map (λ ws. w ∷ ws) (words_of (drop (suc i) cs) (drop (suc (2 + i)) fs)))) (sym word) in
    rw (grown, k, add-one) (sym (push_words row w (words_of (drop (suc i) cs) (drop (suc (2 + i)) fs))) ∙ ap (option_map (λ ws. row ++ ws)) (sym next) ∙ so_far)

-- a word that is none
pub row_stops : (cs : List Column) (fs : List (List ℕ)) (i : ℕ) (c : Column) (row : List Word) (whole : Option (List Word)) → i < length cs → c ≡ get_or cs i c
    → None ≡ option_bind (slice_get fs (2 + i)) (word_of c.kind) → option_map (λ ws. row ++ ws) (words_of (drop i cs) (drop (2 + i) fs)) ≡ whole → whole ≡ None
row_stops cs fs i c row whole lt e word so_far =
    sym so_far ∙ ap (option_map (λ ws. row ++ ws)) (words_next cs fs i (2 + i) c lt e ∙ ap (λ (o : Option Word). option_bind o (λ w. option_map (λ ws. w ∷ ws) (words_of (drop (suc i) cs) (drop (suc (2 + i)) fs)))) (sym word))

pub no_row : (number : ℕ) (cs : List Column) (fs : List (List ℕ)) → length fs ≡ 2 + length cs → words_of cs (drop 2 fs) ≡ None → row_of number cs fs ≡ Err (BadValue number)
unfolding row_of
no_row number cs fs e none = rw (eq-eqb (length fs) (2 + length cs) e, none) refl

pub ruleset cycle_steps = (fails_then)
