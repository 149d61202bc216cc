-- Where a walk over all words ends, and what clap then has.
use Rattle.std.proofs.Common.{◌≡◌, ◌∙◌, Bool, true, ◌&&◌, List, [], ◌∷◌, Option, ap, codes}
use Rattle.std.specs.Prelude.{is_some, slice_get}
use Rattle.std.specs.List.{list_all}
use Rattle.clap.specs.Words.{App, Row, Text, first_of, matches_of, takes}
use Rattle.clap.specs.Simple.{built, entered}
use Rattle.clap.specs.Takes.{default_passes, entered_passes, is_valid, settle_passes, walk_passes}
use Rattle.clap.specs.Walk.{Walk, finished, nothing_held, walk, walk_from}
use Rattle.gl_top_matches.proofs.Steps.{Trip}

-- ---- a command with no subcommand

-- whether clap takes words whose walk ends there
abbrev pub takes_at : App → Walk → Bool → Bool
takes_at b end passes = entered_passes b end.stopped
    && (passes && (settle_passes b.top.rules b.top.args_override_self end.held
    && (list_all default_passes b.top.rules && is_valid b.top (finished b.top.rules end.held) (is_some (entered b end.stopped)))))

-- clap walks over the words behind the first
pub record IsAlone (a : App) : Type 0 where
  pub takes_is : (command : Text) (ws : List Text)
      → takes a (command ∷ ws) ≡ takes_at (built a) (walk (built a).top.rules [] nothing_held ws) (walk_passes (built a).top [] (walk_from nothing_held) ws)
  pub rows_are : (command : Text) (ws : List Text) → matches_of a (command ∷ ws) ≡ finished (built a).top.rules (walk (built a).top.rules [] nothing_held ws).held

-- ---- what it has

-- these words behind a command are taken, with these names and this value
pub record Given (a : App) (ws names : List Text) (value : Option Text) : Type 0 where
  pub takes : (command : Text) → takes a (command ∷ ws) ≡ true
  pub first : (command : Text) → first_of (codes "first") (matches_of a (command ∷ ws)) ≡ slice_get names 0
  pub second : (command : Text) → first_of (codes "second") (matches_of a (command ∷ ws)) ≡ slice_get names 1
  pub third : (command : Text) → first_of (codes "third") (matches_of a (command ∷ ws)) ≡ slice_get names 2
  pub last : (command : Text) → first_of (codes "value") (matches_of a (command ∷ ws)) ≡ value

-- the rows have these names and this value
abbrev pub Has : List Row → List Text → Option Text → Type 0
Has rows names value = (first_of (codes "first") rows ≡ slice_get names 0) × (first_of (codes "second") rows ≡ slice_get names 1)
    × (first_of (codes "third") rows ≡ slice_get names 2) × (first_of (codes "value") rows ≡ value)

pub given : (a : App) (ws names : List Text) (value : Option Text) (end : Walk) → IsAlone a → Trip (built a).top (walk_from nothing_held) ws end
    → takes_at (built a) end true ≡ true → Has (finished (built a).top.rules end.held) names value → Given a ws names value
given a ws names value end alone trip taken has = record {
  takes = λ command. alone.takes_is command ws
      ∙ ap (λ (w : Walk). takes_at (built a) w (walk_passes (built a).top [] (walk_from nothing_held) ws)) trip.is
      ∙ ap (λ (p : Bool). takes_at (built a) end p) trip.passes ∙ taken;
  first = λ command. at (codes "first") command ∙ has.0;
  second = λ command. at (codes "second") command ∙ has.1;
  third = λ command. at (codes "third") command ∙ has.2;
  last = λ command. at (codes "value") command ∙ has.3;
}
  where
    at : (id command : Text) → first_of id (matches_of a (command ∷ ws)) ≡ first_of id (finished (built a).top.rules end.held)
    at id command = ap (first_of id) (alone.rows_are command ws ∙ ap (λ (w : Walk). finished (built a).top.rules w.held) trip.is)
