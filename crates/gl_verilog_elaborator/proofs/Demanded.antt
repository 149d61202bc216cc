-- What is judged by demands, one after another: all are met and there is a value, or the first that is not met is broken.
use Rattle.std.proofs.Common.{◌≡◌, ℕ, Bool, true, false, List, [], ◌∷◌, ◌++◌, Option, Some, None, Result, Ok, Err, refl, subst}
use Rattle.std.specs.Prelude.{if◌then◌else◌}
use Rattle.gl_verilog_faults.specs.Demands.{Rule, Demand, ask, AreMet}
use Rattle.gl_verilog_faults.proofs.Names.{met_join}
use Rattle.gl_verilog_elaborator.specs.Judged.{Broken, then', asks}

abbrev pub first_of : List Demand → Option Broken
first_of [] = None
first_of (d ∷ ds) = if d.met then first_of ds else Some (record { rule = d.rule; token = d.token })

abbrev pub Is : {A : Type 0} → List Demand → (A → Type 0) → Result A Broken → Type 0
Is demands P (Ok x) = AreMet demands × P x
Is demands P (Err b) = first_of demands ≡ Some b

first_by : (m : Bool) (r s : Option Broken) (f x : Broken) → (r ≡ Some x → s ≡ Some x) → (if m then r else Some f) ≡ Some x → (if m then s else Some f) ≡ Some x
first_by true r s f x g h = g h
first_by false r s f x g h = h

first_front : (a b : List Demand) (x : Broken) → first_of a ≡ Some x → first_of (a ++ b) ≡ Some x
first_front [] b x h = absurd cc
first_front (d ∷ a) b x h = first_by d.met (first_of a) (first_of (a ++ b)) (record { rule = d.rule; token = d.token }) x (first_front a b x) h

first_back : (a b : List Demand) (x : Broken) → AreMet a → first_of b ≡ Some x → first_of (a ++ b) ≡ Some x
first_back [] b x m h = h
first_back (d ∷ a) b x m h = rw m.0 (first_back a b x m.1 h)

is_back : {A : Type 0} (a b : List Demand) (Q : A → Type 0) (r : Result A Broken) → AreMet a → Is b Q r → Is (a ++ b) Q r
is_back a b Q (Ok x) m h = (met_join a b m h.0, h.1)
is_back a b Q (Err e) m h = first_back a b e m h

pub is_then : {A B : Type 0} (a b : List Demand) (P : A → Type 0) (Q : B → Type 0) (r : Result A Broken) (f : A → Result B Broken) → Is a P r → ((x : A) → P x → Is b Q (f x)) → Is (a ++ b) Q (then' r f)
is_then a b P Q (Ok x) f h g = is_back a b Q (f x) h.0 (g x h.1)
is_then a b P Q (Err e) f h g = first_front a b e h

is_met : {A : Type 0} (rule : Rule) (token : ℕ) (ds : List Demand) (Q : A → Type 0) (r : Result A Broken) → Is ds Q r → Is (ask rule token true ∷ ds) Q r
is_met rule token ds Q (Ok x) h = ((refl, h.0), h.1)
is_met rule token ds Q (Err e) h = h

pub is_ask : {A : Type 0} (rule : Rule) (token : ℕ) (met : Bool) (ds : List Demand) (Q : A → Type 0) (r : Result A Broken) → (met ≡ true → Is ds Q r) → Is (ask rule token met ∷ ds) Q (asks rule token met r)
is_ask rule token true ds Q r f = is_met rule token ds Q r (f refl)
is_ask rule token false ds Q r f = refl

-- the same with a demand's test in other words
pub is_ask_as : {A : Type 0} (rule : Rule) (token : ℕ) (met test : Bool) (ds : List Demand) (Q : A → Type 0) (r : Result A Broken) → test ≡ met → (met ≡ true → Is ds Q r) → Is (ask rule token test ∷ ds) Q (asks rule token met r)
is_ask_as rule token met test ds Q r e f = subst (λ (b : Bool). Is (ask rule token b ∷ ds) Q (asks rule token met r)) (let s : met ≡ test = cc in s) (is_ask rule token met ds Q r f)

pub is_as : {A : Type 0} (a b : List Demand) (Q : A → Type 0) (r : Result A Broken) → a ≡ b → Is a Q r → Is b Q r
is_as a b Q r e h = subst (λ (x : List Demand). Is x Q r) e h

pub is_weaker : {A : Type 0} (a : List Demand) (P Q : A → Type 0) (r : Result A Broken) → ((x : A) → P x → Q x) → Is a P r → Is a Q r
is_weaker a P Q (Ok x) f h = (h.0, f x h.1)
is_weaker a P Q (Err e) f h = h

pub is_mapped : {A B : Type 0} (a : List Demand) (P : A → Type 0) (Q : B → Type 0) (r : Result A Broken) (f : A → B) → Is a P r → ((x : A) → P x → Q (f x)) → Is a Q (then' r (λ x. Ok (f x)))
is_mapped a P Q (Ok x) f h g = (h.0, g x h.1)
is_mapped a P Q (Err e) f h g = h
