-- What the reader answers is the page: the module, or the first token that cannot stand there or passes a limit.
use Rattle.std.proofs.Common.{◌≡◌, ℕ, ◌+◌, Bool, true, false, List, [], ◌∷◌, ◌++◌, length, Option, Some, None, Result, Ok, Err, refl, sym, ap, subst, ◌∙◌, arith, append_assoc}
use Rattle.std.proofs.lemmas.List.{append-nil}
use Rattle.gl_verilog.specs.Tokens.{Token}
use Rattle.gl_verilog.specs.Written.{WrittenModule, IsWritten, spell}
use Rattle.gl_verilog.specs.Limits.{IsWithinLimits}
use Rattle.gl_verilog_grammar.specs.Machine.{State, start, step, finish}
use Rattle.gl_verilog_faults.specs.Counts.{Role, Counts, none_counted, after, is_past, keeps_limits}
use Rattle.gl_verilog_faults.specs.Marks.{State as Place, Header, marks, behind, role_at, next}
use Rattle.gl_verilog_faults.specs.Faults.{KeepsFront}
use Rattle.gl_verilog_grammar.specs.Reading.{Fault, Syntax, TooDeep, or_fault, if_past, then_read, read_from}
use Rattle.gl_verilog_grammar.specs.Answers.{IsSyntaxAt, IsDeepAt}
use Rattle.gl_verilog_grammar.proofs.Steps.{steps, is-machine}
use Rattle.gl_verilog_faults.proofs.Exact.{keeps_spelled}
use Rattle.gl_verilog_grammar.proofs.Tells.{begins_when, reads_when, spelt_when, spelt_stage, push_none}
use Rattle.gl_bits.proofs.Bools.{guard_true}
use Rattle.gl_bits.proofs.Machines.{machine-push}

-- the counts behind roles
abbrev pub counted : Counts → List Role → Counts
counted n [] = n
counted n (r ∷ rs) = counted (after n r) rs

keeps_push : (n : Counts) (rs : List Role) (r : Role) → keeps_limits n rs ≡ true → is_past (after (counted n rs) r) ≡ false → keeps_limits n (rs ++ r ∷ []) ≡ true
keeps_push n [] r h p = rw p refl
keeps_push n (x ∷ rs) r h p = let q = guard_true (is_past (after n x)) (keeps_limits (after n x) rs) h in rw q.0 (keeps_push (after n x) rs r q.1 p)

past_push : (n : Counts) (rs : List Role) (r : Role) → keeps_limits n rs ≡ true → is_past (after (counted n rs) r) ≡ true → keeps_limits n (rs ++ r ∷ []) ≡ false
past_push n [] r h p = rw p refl
past_push n (x ∷ rs) r h p = let q = guard_true (is_past (after n x)) (keeps_limits (after n x) rs) h in rw q.0 (past_push (after n x) rs r q.1 p)

marks_push : (s : Place) (ts : List Token) (t : Token) → marks s (ts ++ t ∷ []) ≡ marks s ts ++ role_at (behind s ts) t ∷ []
marks_push s [] t = refl
marks_push s (x ∷ ts) t = ap (λ (y : List Role). role_at s x ∷ y) (marks_push (next s x) ts t)

behind_push : (s : Place) (ts : List Token) (t : Token) → behind s (ts ++ t ∷ []) ≡ next (behind s ts) t
behind_push s [] t = refl
behind_push s (x ∷ ts) t = behind_push (next s x) ts t

counted_push : (n : Counts) (rs : List Role) (r : Role) → counted n (rs ++ r ∷ []) ≡ after (counted n rs) r
counted_push n [] r = refl
counted_push n (x ∷ rs) r = counted_push (after n x) rs r

length_push : (ts : List Token) (t : Token) → length (ts ++ t ∷ []) ≡ length ts + 1
length_push [] t = omega arith
length_push (x ∷ ts) t = let h : length (ts ++ t ∷ []) ≡ length ts + 1 = length_push ts t in omega arith

abbrev pub Says : List Token → Result WrittenModule Fault → Type 0
Says tokens (Ok w) = (tokens ≡ spell w) × IsWritten w × IsWithinLimits w
Says tokens (Err (Syntax k)) = IsSyntaxAt tokens k
Says tokens (Err (TooDeep k)) = IsDeepAt tokens k

-- what is known behind the tokens that were read
pub record Known (read : List Token) (at : ℕ) (s : State) (q : Place) (n : Counts) : Type 0 where
  pub here : at ≡ length read
  pub came : steps start read ≡ Some s
  pub place : behind Header read ≡ q
  pub counts : counted none_counted (marks Header read) ≡ n
  pub limits : KeepsFront read

ends_by : (read : List Token) (at : ℕ) (s : State) (q : Place) (n : Counts) → Known read at s q n → (o : Option WrittenModule) → finish s ≡ o → Says read (or_fault o (Syntax at))
ends_by read at s q n k (Some w) e = let m = spelt_stage read s w k.came e in (sym m.1, m.0, keeps_spelled w (subst KeepsFront (sym m.1) k.limits))
ends_by read at s q n k None e = record { read = read; left = []; parts = sym (append-nil read); limits = k.limits; begins = begins_when read s k.came; stops = λ w g p. spelt_when read s k.came e (w, g, p); place = k.here }

knows_more : (read : List Token) (at : ℕ) (s s' : State) (q : Place) (n : Counts) (t : Token) → Known read at s q n → step s t ≡ Some s' → is_past (after n (role_at q t)) ≡ false → Known (read ++ t ∷ []) (at + 1) s' (next q t) (after n (role_at q t))
knows_more read at s s' q n t k e p =
    let role : role_at (behind Header read) t ≡ role_at q t = ap (λ (x : Place). role_at x t) k.place in
    let p' : is_past (after (counted none_counted (marks Header read)) (role_at (behind Header read) t)) ≡ false = rw (k.counts, role) p in
    record {
      here = (let a : at ≡ length read = k.here in let b : length (read ++ t ∷ []) ≡ length read + 1 = length_push read t in omega arith);
      came = machine-push step steps is-machine read t start s s' k.came e;
      place = behind_push Header read t ∙ ap (λ (x : Place). next x t) k.place;
      counts = ap (counted none_counted) (marks_push Header read t) ∙ counted_push none_counted (marks Header read) (role_at (behind Header read) t) ∙ ap (λ (x : Counts). after x (role_at (behind Header read) t)) k.counts ∙ ap (after n) role;
      limits = subst (λ (x : List Role). keeps_limits none_counted x ≡ true) (sym (marks_push Header read t)) (keeps_push none_counted (marks Header read) (role_at (behind Header read) t) k.limits p');
    }

deep_at : (read left : List Token) (at : ℕ) (s s' : State) (q : Place) (n : Counts) (t : Token) → Known read at s q n → step s t ≡ Some s' → is_past (after n (role_at q t)) ≡ true → IsDeepAt (read ++ t ∷ left) at
deep_at read left at s s' q n t k e p =
    let role : role_at (behind Header read) t ≡ role_at q t = ap (λ (x : Place). role_at x t) k.place in
    let p' : is_past (after (counted none_counted (marks Header read)) (role_at (behind Header read) t)) ≡ true = rw (k.counts, role) p in
    record {
      read = read;
      deep = t;
      left = left;
      parts = refl;
      limits = k.limits;
      past = subst (λ (x : List Role). keeps_limits none_counted x ≡ false) (sym (marks_push Header read t)) (past_push none_counted (marks Header read) (role_at (behind Header read) t) k.limits p');
      begins = begins_when (read ++ t ∷ []) s' (machine-push step steps is-machine read t start s s' k.came e);
      place = k.here;
    }

stops_at : (read left : List Token) (at : ℕ) (s : State) (q : Place) (n : Counts) (t : Token) → Known read at s q n → step s t ≡ None → IsSyntaxAt (read ++ t ∷ left) at
stops_at read left at s q n t k e = record { read = read; left = t ∷ left; parts = refl; limits = k.limits; begins = begins_when read s k.came; stops = λ b. no_step read t s k.came e (reads_when (read ++ t ∷ []) b); place = k.here }
  where
    no_step : (read : List Token) (t : Token) (s : State) → steps start read ≡ Some s → step s t ≡ None → (x : State) × (steps start (read ++ t ∷ []) ≡ Some x) → ⊥
    no_step read t s c f x = push_none read t s c f x.0 x.1

pub says : (ts : List Token) (read : List Token) (at : ℕ) (s : State) (q : Place) (n : Counts) → Known read at s q n → Says (read ++ ts) (read_from at s q n ts)
unfolding read_from
says [] read at s q n k = subst (λ (x : List Token). Says x (or_fault (finish s) (Syntax at))) (sym (append-nil read)) (ends_by read at s q n k (finish s) refl)
says (t ∷ ts) read at s q n k = by_step (step s t) refl (λ s' e p. subst (λ (x : List Token). Says x (read_from (at + 1) s' (next q t) (after n (role_at q t)) ts)) (append_assoc read (t ∷ []) ts) (says ts (read ++ t ∷ []) (at + 1) s' (next q t) (after n (role_at q t)) (knows_more read at s s' q n t k e p)))
  where
    by_past : (s' : State) → step s t ≡ Some s' → (b : Bool) → is_past (after n (role_at q t)) ≡ b → (r : Result WrittenModule Fault) → (is_past (after n (role_at q t)) ≡ false → Says (read ++ t ∷ ts) r) → Says (read ++ t ∷ ts) (if_past b at r)
    by_past s' e true p r f = deep_at read ts at s s' q n t k e p
    by_past s' e false p r f = f p

    by_step : (o : Option State) → step s t ≡ o → ((s' : State) → step s t ≡ Some s' → is_past (after n (role_at q t)) ≡ false → Says (read ++ t ∷ ts) (read_from (at + 1) s' (next q t) (after n (role_at q t)) ts)) → Says (read ++ t ∷ ts) (then_read at o (λ s'. if_past (is_past (after n (role_at q t))) at (read_from (at + 1) s' (next q t) (after n (role_at q t)) ts)))
    by_step None e f = stops_at read ts at s q n t k e
    by_step (Some s') e f = by_past s' e (is_past (after n (role_at q t))) refl (read_from (at + 1) s' (next q t) (after n (role_at q t)) ts) (f s' e)

-- THE READER answers the page
pub reader_says : (tokens : List Token) → Says tokens (read_from 0 start Header none_counted tokens)
reader_says tokens = says tokens [] 0 start Header none_counted (record { here = refl; came = is-machine.none_left start; place = refl; counts = refl; limits = refl })
