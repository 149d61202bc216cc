-- It can be told which tokens begin a module, and which are one: the machine, limits aside, stops just where none goes on.
use Rattle.std.proofs.Common.{◌≡◌, ℕ, ◌⊎◌, inl, inr, List, [], ◌∷◌, ◌++◌, Option, Some, None, refl, sym, ap, subst, ◌∙◌, append_assoc}
use Rattle.std.proofs.lemmas.List.{append-nil}
use Rattle.gl_verilog.specs.Tokens.{Token}
use Rattle.gl_verilog.specs.Written.{WrittenModule, IsWritten, spell}
use Rattle.gl_verilog_grammar.specs.Machine.{State, Stage, Complete, start, step, complete, finish}
use Rattle.gl_verilog_faults.specs.Faults.{CanBegin}
use Rattle.gl_verilog_grammar.proofs.Steps.{steps, is-machine}
use Rattle.gl_verilog_grammar.proofs.ReadModules.{between, read_again}
use Rattle.gl_verilog_grammar.proofs.Told.{told_at, fine_at, Means, means}
use Rattle.gl_verilog_grammar.proofs.Sound.{stepped, base-ends}
use Rattle.gl_verilog_grammar.proofs.Completes.{Finishes, finishes}
use Rattle.gl_verilog_faults.proofs.Total.{CanTell, CanTellAll, IsSpelt, HasVerdict, total}
use Rattle.gl_bits.proofs.Options.{not_some, some_same}
use Rattle.gl_bits.proofs.Machines.{machine-append, machine-front, machine-parts}

means_all : (ts : List Token) (s y : State) (done : List Token) → Means s done → steps s ts ≡ Some y → Means y (done ++ ts)
means_all [] s y done m e = subst (Means y) (sym (append-nil done)) (subst (λ (x : State). Means x done) (some_same s y (sym (is-machine.none_left s) ∙ e)) m)
means_all (t ∷ ts) s y done m e =
    let p = machine-parts step steps is-machine s y t ts e in
    subst (Means y) (append_assoc done (t ∷ []) ts) (means_all ts p.0 y (done ++ t ∷ []) (stepped t s p.0 done m p.1) p.2)

starts : Means start []
starts = means _ _ refl (refl, record { none = refl; closed = refl })

spelt_at : (stage : Stage) (s : State) (ts : List Token) → stage ≡ Complete → told_at stage s ≡ ts → fine_at stage s → IsSpelt ts
spelt_at stage s ts e t f =
    let t' : told_at Complete s ≡ ts = subst (λ (x : Stage). told_at x s ≡ ts) e t in
    let f' : fine_at Complete s = subst (λ (x : Stage). fine_at x s) e f in
    (record { name = s.name; ports = s.ports; items = s.items }, record { ports = f'.0.some'; items = f'.0.items }, sym (base-ends s.name s.ports s.items) ∙ t')

pub begins_when : (read : List Token) (s : State) → steps start read ≡ Some s → CanBegin read
begins_when read s e =
    let m = means_all read start s [] starts e in
    let f : Finishes s = finishes s.stage s m.fine in
    let n = means_all f.0 s f.1 read m f.2 in
    let w = spelt_at f.1.stage f.1 (read ++ f.0) f.3 n.told n.fine in
    (w.0, f.0, w.1, w.2)

pub reads_when : (read : List Token) → CanBegin read → (s : State) × (steps start read ≡ Some s)
reads_when read b =
    let e : steps start (read ++ b.1) ≡ Some (between b.0.name b.0.ports b.0.items Complete) = subst (λ (x : List Token). steps start x ≡ Some (between b.0.name b.0.ports b.0.items Complete)) b.3 (read_again b.0 b.2) in
    let p = machine-front step steps is-machine read b.1 start (between b.0.name b.0.ports b.0.items Complete) e in
    (p.0, p.1)

tell_by : (read : List Token) (o : Option State) → steps start read ≡ o → CanBegin read ⊎ (CanBegin read → ⊥)
tell_by read (Some s) e = inl (begins_when read s e)
tell_by read None e = inr (λ b. let r = reads_when read b in absurd (let bad : None ≡ Some r.0 = sym e ∙ r.1 in cc))

pub tell : CanTell
tell read = tell_by read (steps start read) refl

-- ---- a whole module

complete_so : (stage : Stage) (s : State) (w : WrittenModule) → complete stage s ≡ Some w → stage ≡ Complete
complete_so Complete s w e = refl
complete_so stage s w e = absurd cc

state_same : (x y : State) → Some x ≡ Some y → x ≡ y
state_same x y e = cc

all_by : (ts : List Token) (s : State) → steps start ts ≡ Some s → (o : Option WrittenModule) → finish s ≡ o → IsSpelt ts ⊎ (IsSpelt ts → ⊥)
all_by ts s e (Some w) f = inl (let m = means_all ts start s [] starts e in spelt_at s.stage s ts (complete_so s.stage s w f) m.told m.fine)
all_by ts s e None f = inr (λ w.
    let r : steps start ts ≡ Some (between w.0.name w.0.ports w.0.items Complete) = subst (λ (x : List Token). steps start x ≡ Some (between w.0.name w.0.ports w.0.items Complete)) w.2 (read_again w.0 w.1) in
    let same : s ≡ between w.0.name w.0.ports w.0.items Complete = state_same s (between w.0.name w.0.ports w.0.items Complete) (sym e ∙ r) in
    not_some _ (sym f ∙ ap finish same))

tell_all_by : (ts : List Token) (o : Option State) → steps start ts ≡ o → IsSpelt ts ⊎ (IsSpelt ts → ⊥)
tell_all_by ts (Some s) e = all_by ts s e (finish s) refl
tell_all_by ts None e = inr (λ w. not_some (between w.0.name w.0.ports w.0.items Complete) (sym e ∙ subst (λ (x : List Token). steps start x ≡ Some (between w.0.name w.0.ports w.0.items Complete)) w.2 (read_again w.0 w.1)))

pub tell_all : CanTellAll
tell_all ts = tell_all_by ts (steps start ts) refl

-- EVERY TEXT has one of a module, a Syntax, a TooDeep and a judged fault
pub has_verdict : (text : List ℕ) → HasVerdict text
has_verdict text = total text tell tell_all

-- ---- for the reader

pub spelt_stage : (ts : List Token) (s : State) (w : WrittenModule) → steps start ts ≡ Some s → finish s ≡ Some w → IsWritten w × (spell w ≡ ts)
spelt_stage ts s w e f =
    let m = means_all ts start s [] starts e in
    let stage : s.stage ≡ Complete = complete_so s.stage s w f in
    let t : told_at Complete s ≡ ts = subst (λ (x : Stage). told_at x s ≡ ts) stage m.told in
    let g : fine_at Complete s = subst (λ (x : Stage). fine_at x s) stage m.fine in
    let same : record { name = s.name; ports = s.ports; items = s.items } ≡ w = written_as (record { name = s.name; ports = s.ports; items = s.items }) w (subst (λ (x : Stage). complete x s ≡ Some w) stage f) in
    subst (λ (x : WrittenModule). IsWritten x × (spell x ≡ ts)) same (record { ports = g.0.some'; items = g.0.items }, sym (base-ends s.name s.ports s.items) ∙ t)
  where
    written_as : (x y : WrittenModule) → Some x ≡ Some y → x ≡ y
    written_as x y q = cc

pub spelt_when : (ts : List Token) (s : State) → steps start ts ≡ Some s → finish s ≡ None → IsSpelt ts → ⊥
spelt_when ts s e f w =
    let r : steps start ts ≡ Some (between w.0.name w.0.ports w.0.items Complete) = subst (λ (x : List Token). steps start x ≡ Some (between w.0.name w.0.ports w.0.items Complete)) w.2 (read_again w.0 w.1) in
    let same : s ≡ between w.0.name w.0.ports w.0.items Complete = state_same s (between w.0.name w.0.ports w.0.items Complete) (sym e ∙ r) in
    not_some w.0 (sym f ∙ ap finish same)

pub push_none : (read : List Token) (t : Token) (s : State) → steps start read ≡ Some s → step s t ≡ None → (x : State) → steps start (read ++ t ∷ []) ≡ Some x → ⊥
push_none read t s e f x h =
    let p = machine-parts step steps is-machine s x t [] (sym (machine-append step steps is-machine read (t ∷ []) start s e) ∙ h) in
    not_some p.0 (sym f ∙ p.1)
