-- What clap makes of `sim S V T --extra N`: eight layouts of its words.
use Rattle.std.proofs.Common.{[], ◌∷◌, ◌++◌, Some, refl, codes}
use Rattle.clap.specs.Words.{App, Text}
use Rattle.clap.specs.Simple.{Shape, built}
use Rattle.clap.specs.Walk.{nothing_held, walked}
use Rattle.gl_top_forms.specs.declared.command.Command.TheVariants.{Sim}
use Rattle.gl_top_forms.specs.Forms.{option_front}
use Rattle.gl_top_matches.specs.Apps.{app_for}
use Rattle.gl_top_matches.proofs.Ends.{IsAlone, given}
use Rattle.gl_top_matches.proofs.Layouts.{Layouts}
use Rattle.gl_top_matches.proofs.Steps.{apart, at_word, name, step, stop}

abbrev pub sim_app : App
sim_app = app_for Sim

abbrev sim : Shape
sim = (built sim_app).top

abbrev front : Text
front = codes "--extra"

abbrev id : Text
id = codes "value"

sim_alone : IsAlone sim_app
sim_alone = record { takes_is = λ command ws. refl; rows_are = λ command ws. refl }

-- ---- with it

pub sim_layouts : Layouts sim_app front
unfolding walked
sim_layouts = record {
  apart_0 = λ v pv s q t ps pq pt. given sim_app (front ∷ v ∷ s ∷ q ∷ t ∷ []) (s ∷ q ∷ t ∷ []) (Some v) _ sim_alone
      (apart sim nothing_held _ _ 1 _ id front v (s ∷ q ∷ t ∷ []) pv refl refl refl (name sim _ _ 1 2 _ s (q ∷ t ∷ []) ps refl refl (name sim _ _ 2 3 _ q (t ∷ []) pq refl refl (name sim _ _ 3 4 _ t ([]) pt refl refl (stop sim _)))))
      refl (refl, refl, refl, refl);
  apart_1 = λ v pv s q t ps pq pt. given sim_app (s ∷ front ∷ v ∷ q ∷ t ∷ []) (s ∷ q ∷ t ∷ []) (Some v) _ sim_alone
      (name sim nothing_held _ 1 2 _ s (front ∷ v ∷ q ∷ t ∷ []) ps refl refl (apart sim _ _ _ 2 _ id front v (q ∷ t ∷ []) pv refl refl refl (name sim _ _ 2 3 _ q (t ∷ []) pq refl refl (name sim _ _ 3 4 _ t ([]) pt refl refl (stop sim _)))))
      refl (refl, refl, refl, refl);
  apart_2 = λ v pv s q t ps pq pt. given sim_app (s ∷ q ∷ front ∷ v ∷ t ∷ []) (s ∷ q ∷ t ∷ []) (Some v) _ sim_alone
      (name sim nothing_held _ 1 2 _ s (q ∷ front ∷ v ∷ t ∷ []) ps refl refl (name sim _ _ 2 3 _ q (front ∷ v ∷ t ∷ []) pq refl refl (apart sim _ _ _ 3 _ id front v (t ∷ []) pv refl refl refl (name sim _ _ 3 4 _ t ([]) pt refl refl (stop sim _)))))
      refl (refl, refl, refl, refl);
  apart_3 = λ v pv s q t ps pq pt. given sim_app (s ∷ q ∷ t ∷ front ∷ v ∷ []) (s ∷ q ∷ t ∷ []) (Some v) _ sim_alone
      (name sim nothing_held _ 1 2 _ s (q ∷ t ∷ front ∷ v ∷ []) ps refl refl (name sim _ _ 2 3 _ q (t ∷ front ∷ v ∷ []) pq refl refl (name sim _ _ 3 4 _ t (front ∷ v ∷ []) pt refl refl (apart sim _ _ _ 4 _ id front v ([]) pv refl refl refl (stop sim _)))))
      refl (refl, refl, refl, refl);
  joined_0 = λ v s q t ps pq pt. given sim_app ((option_front front ++ v) ∷ s ∷ q ∷ t ∷ []) (s ∷ q ∷ t ∷ []) (Some v) _ sim_alone
      (step sim (at_word nothing_held 1) (at_word _ 1) _ (option_front front ++ v) (s ∷ q ∷ t ∷ []) refl refl (name sim _ _ 1 2 _ s (q ∷ t ∷ []) ps refl refl (name sim _ _ 2 3 _ q (t ∷ []) pq refl refl (name sim _ _ 3 4 _ t ([]) pt refl refl (stop sim _)))))
      refl (refl, refl, refl, refl);
  joined_1 = λ v s q t ps pq pt. given sim_app (s ∷ (option_front front ++ v) ∷ q ∷ t ∷ []) (s ∷ q ∷ t ∷ []) (Some v) _ sim_alone
      (name sim nothing_held _ 1 2 _ s ((option_front front ++ v) ∷ q ∷ t ∷ []) ps refl refl (step sim (at_word _ 2) (at_word _ 2) _ (option_front front ++ v) (q ∷ t ∷ []) refl refl (name sim _ _ 2 3 _ q (t ∷ []) pq refl refl (name sim _ _ 3 4 _ t ([]) pt refl refl (stop sim _)))))
      refl (refl, refl, refl, refl);
  joined_2 = λ v s q t ps pq pt. given sim_app (s ∷ q ∷ (option_front front ++ v) ∷ t ∷ []) (s ∷ q ∷ t ∷ []) (Some v) _ sim_alone
      (name sim nothing_held _ 1 2 _ s (q ∷ (option_front front ++ v) ∷ t ∷ []) ps refl refl (name sim _ _ 2 3 _ q ((option_front front ++ v) ∷ t ∷ []) pq refl refl (step sim (at_word _ 3) (at_word _ 3) _ (option_front front ++ v) (t ∷ []) refl refl (name sim _ _ 3 4 _ t ([]) pt refl refl (stop sim _)))))
      refl (refl, refl, refl, refl);
  joined_3 = λ v s q t ps pq pt. given sim_app (s ∷ q ∷ t ∷ (option_front front ++ v) ∷ []) (s ∷ q ∷ t ∷ []) (Some v) _ sim_alone
      (name sim nothing_held _ 1 2 _ s (q ∷ t ∷ (option_front front ++ v) ∷ []) ps refl refl (name sim _ _ 2 3 _ q (t ∷ (option_front front ++ v) ∷ []) pq refl refl (name sim _ _ 3 4 _ t ((option_front front ++ v) ∷ []) pt refl refl (step sim (at_word _ 4) (at_word _ 4) _ (option_front front ++ v) ([]) refl refl (stop sim _)))))
      refl (refl, refl, refl, refl);
}
