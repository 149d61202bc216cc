-- What clap makes of names alone.
use Rattle.std.proofs.Common.{◌≡◌, false, [], ◌∷◌, None, refl}
use Rattle.clap.specs.Words.{Text}
use Rattle.clap.specs.Simple.{Shape, built}
use Rattle.clap.specs.Walk.{nothing_held, walk_from}
use Rattle.gl_top_forms.specs.Forms.{is_dashed}
use Rattle.gl_top_matches.specs.Apps.{no_name, one_name, three_names, two_names}
use Rattle.gl_top_matches.proofs.Ends.{Given, IsAlone, given}
use Rattle.gl_top_matches.proofs.Steps.{name, stop}

none_alone : IsAlone no_name
none_alone = record { takes_is = λ command ws. refl; rows_are = λ command ws. refl }

one_alone : IsAlone one_name
one_alone = record { takes_is = λ command ws. refl; rows_are = λ command ws. refl }

three_alone : IsAlone three_names
three_alone = record { takes_is = λ command ws. refl; rows_are = λ command ws. refl }

two_alone : IsAlone two_names
two_alone = record { takes_is = λ command ws. refl; rows_are = λ command ws. refl }

abbrev none : Shape
none = (built no_name).top

abbrev one : Shape
one = (built one_name).top

abbrev two : Shape
two = (built two_names).top

abbrev three : Shape
three = (built three_names).top

-- `help`, `--help` and `--version`
pub version_names : Given no_name [] [] None
version_names = given no_name [] [] None _ none_alone (stop none (walk_from nothing_held)) refl (refl, refl, refl, refl)

-- `load N`, `undump D` and `help COMMAND`
pub load_names : (n : Text) → is_dashed n ≡ false → Given one_name (n ∷ []) (n ∷ []) None
load_names n pn = given one_name (n ∷ []) (n ∷ []) None _ one_alone (name one nothing_held _ 1 2 _ n [] pn refl refl (stop one _)) refl (refl, refl, refl, refl)

-- `compile S Q`, `figures S Q`, `explain S Q`, `many S Q`, `manyfigures S Q` and `why S Q`
pub query_names : (s q : Text) → is_dashed s ≡ false → is_dashed q ≡ false → Given two_names (s ∷ q ∷ []) (s ∷ q ∷ []) None
query_names s q ps pq = given two_names (s ∷ q ∷ []) (s ∷ q ∷ []) None _ two_alone
    (name two nothing_held _ 1 2 _ s (q ∷ []) ps refl refl (name two _ _ 2 3 _ q [] pq refl refl (stop two _))) refl (refl, refl, refl, refl)

-- `why S Q T`
pub run_names : (s q t : Text) → is_dashed s ≡ false → is_dashed q ≡ false → is_dashed t ≡ false → Given three_names (s ∷ q ∷ t ∷ []) (s ∷ q ∷ t ∷ []) None
run_names s q t ps pq pt = given three_names (s ∷ q ∷ t ∷ []) (s ∷ q ∷ t ∷ []) None _ three_alone
    (name three nothing_held _ 1 2 _ s (q ∷ t ∷ []) ps refl refl (name three _ _ 2 3 _ q (t ∷ []) pq refl refl (name three _ _ 3 4 _ t [] pt refl refl (stop three _))))
    refl (refl, refl, refl, refl)
