-- What clap makes of `run S Q T [--start N]`, and so of `vcd` and of `manyrun`: nine layouts of its words.
use Rattle.std.proofs.Common.{◌≡◌, false, [], ◌∷◌, ◌++◌, Some, None, refl, codes}
use Rattle.clap.specs.Words.{App, Text}
use Rattle.clap.specs.Simple.{Shape, built}
use Rattle.clap.specs.Walk.{nothing_held, walked}
use Rattle.gl_top_forms.specs.declared.command.Command.TheVariants.{Run}
use Rattle.gl_top_forms.specs.Forms.{is_dashed, option_front}
use Rattle.gl_top_matches.specs.Apps.{app_for}
use Rattle.gl_top_matches.proofs.Ends.{Given, IsAlone, given}
use Rattle.gl_top_matches.proofs.Layouts.{Layouts}
use Rattle.gl_top_matches.proofs.Steps.{apart, at_word, name, step, stop}

abbrev pub run_app : App
run_app = app_for Run

abbrev run : Shape
run = (built run_app).top

abbrev front : Text
front = codes "--start"

abbrev id : Text
id = codes "value"

run_alone : IsAlone run_app
run_alone = record { takes_is = λ command ws. refl; rows_are = λ command ws. refl }

-- ---- without the option

pub run_bare : (s q t : Text) → is_dashed s ≡ false → is_dashed q ≡ false → is_dashed t ≡ false
    → Given run_app (s ∷ q ∷ t ∷ []) (s ∷ q ∷ t ∷ []) (None)
unfolding walked
run_bare s q t ps pq pt = given run_app (s ∷ q ∷ t ∷ []) (s ∷ q ∷ t ∷ []) (None) _ run_alone
    (name run nothing_held _ 1 2 _ s (q ∷ t ∷ []) ps refl refl (name run _ _ 2 3 _ q (t ∷ []) pq refl refl (name run _ _ 3 4 _ t ([]) pt refl refl (stop run _))))
    refl (refl, refl, refl, refl)

-- ---- with it

pub run_layouts : Layouts run_app front
unfolding walked
run_layouts = record {
  apart_0 = λ v pv s q t ps pq pt. given run_app (front ∷ v ∷ s ∷ q ∷ t ∷ []) (s ∷ q ∷ t ∷ []) (Some v) _ run_alone
      (apart run nothing_held _ _ 1 _ id front v (s ∷ q ∷ t ∷ []) pv refl refl refl (name run _ _ 1 2 _ s (q ∷ t ∷ []) ps refl refl (name run _ _ 2 3 _ q (t ∷ []) pq refl refl (name run _ _ 3 4 _ t ([]) pt refl refl (stop run _)))))
      refl (refl, refl, refl, refl);
  apart_1 = λ v pv s q t ps pq pt. given run_app (s ∷ front ∷ v ∷ q ∷ t ∷ []) (s ∷ q ∷ t ∷ []) (Some v) _ run_alone
      (name run nothing_held _ 1 2 _ s (front ∷ v ∷ q ∷ t ∷ []) ps refl refl (apart run _ _ _ 2 _ id front v (q ∷ t ∷ []) pv refl refl refl (name run _ _ 2 3 _ q (t ∷ []) pq refl refl (name run _ _ 3 4 _ t ([]) pt refl refl (stop run _)))))
      refl (refl, refl, refl, refl);
  apart_2 = λ v pv s q t ps pq pt. given run_app (s ∷ q ∷ front ∷ v ∷ t ∷ []) (s ∷ q ∷ t ∷ []) (Some v) _ run_alone
      (name run nothing_held _ 1 2 _ s (q ∷ front ∷ v ∷ t ∷ []) ps refl refl (name run _ _ 2 3 _ q (front ∷ v ∷ t ∷ []) pq refl refl (apart run _ _ _ 3 _ id front v (t ∷ []) pv refl refl refl (name run _ _ 3 4 _ t ([]) pt refl refl (stop run _)))))
      refl (refl, refl, refl, refl);
  apart_3 = λ v pv s q t ps pq pt. given run_app (s ∷ q ∷ t ∷ front ∷ v ∷ []) (s ∷ q ∷ t ∷ []) (Some v) _ run_alone
      (name run nothing_held _ 1 2 _ s (q ∷ t ∷ front ∷ v ∷ []) ps refl refl (name run _ _ 2 3 _ q (t ∷ front ∷ v ∷ []) pq refl refl (name run _ _ 3 4 _ t (front ∷ v ∷ []) pt refl refl (apart run _ _ _ 4 _ id front v ([]) pv refl refl refl (stop run _)))))
      refl (refl, refl, refl, refl);
  joined_0 = λ v s q t ps pq pt. given run_app ((option_front front ++ v) ∷ s ∷ q ∷ t ∷ []) (s ∷ q ∷ t ∷ []) (Some v) _ run_alone
      (step run (at_word nothing_held 1) (at_word _ 1) _ (option_front front ++ v) (s ∷ q ∷ t ∷ []) refl refl (name run _ _ 1 2 _ s (q ∷ t ∷ []) ps refl refl (name run _ _ 2 3 _ q (t ∷ []) pq refl refl (name run _ _ 3 4 _ t ([]) pt refl refl (stop run _)))))
      refl (refl, refl, refl, refl);
  joined_1 = λ v s q t ps pq pt. given run_app (s ∷ (option_front front ++ v) ∷ q ∷ t ∷ []) (s ∷ q ∷ t ∷ []) (Some v) _ run_alone
      (name run nothing_held _ 1 2 _ s ((option_front front ++ v) ∷ q ∷ t ∷ []) ps refl refl (step run (at_word _ 2) (at_word _ 2) _ (option_front front ++ v) (q ∷ t ∷ []) refl refl (name run _ _ 2 3 _ q (t ∷ []) pq refl refl (name run _ _ 3 4 _ t ([]) pt refl refl (stop run _)))))
      refl (refl, refl, refl, refl);
  joined_2 = λ v s q t ps pq pt. given run_app (s ∷ q ∷ (option_front front ++ v) ∷ t ∷ []) (s ∷ q ∷ t ∷ []) (Some v) _ run_alone
      (name run nothing_held _ 1 2 _ s (q ∷ (option_front front ++ v) ∷ t ∷ []) ps refl refl (name run _ _ 2 3 _ q ((option_front front ++ v) ∷ t ∷ []) pq refl refl (step run (at_word _ 3) (at_word _ 3) _ (option_front front ++ v) (t ∷ []) refl refl (name run _ _ 3 4 _ t ([]) pt refl refl (stop run _)))))
      refl (refl, refl, refl, refl);
  joined_3 = λ v s q t ps pq pt. given run_app (s ∷ q ∷ t ∷ (option_front front ++ v) ∷ []) (s ∷ q ∷ t ∷ []) (Some v) _ run_alone
      (name run nothing_held _ 1 2 _ s (q ∷ t ∷ (option_front front ++ v) ∷ []) ps refl refl (name run _ _ 2 3 _ q (t ∷ (option_front front ++ v) ∷ []) pq refl refl (name run _ _ 3 4 _ t ((option_front front ++ v) ∷ []) pt refl refl (step run (at_word _ 4) (at_word _ 4) _ (option_front front ++ v) ([]) refl refl (stop run _)))))
      refl (refl, refl, refl, refl);
}
