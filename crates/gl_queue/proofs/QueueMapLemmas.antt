-- A queue of rows is a queue of what the rows stand for.
use Rattle.std.proofs.Common.{◌≡◌, ℕ, List, [], ◌∷◌, map, Option, Some, None, Bool, refl, sym, ap, ◌∙◌}
use Rattle.std.specs.Prelude.{is_some}
use Rattle.std.specs.Option.{option_map}
use Rattle.std.proofs.lemmas.List.{length-map}
use Rattle.gl_queue.specs.Queue.{oldest, entries, passes, IsQueue}
use Rattle.gl_queue.proofs.TagLemmas.{entries-map}

oldest-map : {A B : Type 0} (f : A → B) (xs : List A) → oldest (map f xs) ≡ option_map f (oldest xs)
oldest-map f [] = refl
oldest-map f (x ∷ xs) = refl

some-map : {A B : Type 0} (f : A → B) (o : Option A) → is_some (option_map f o) ≡ is_some o
some-map f None = refl
some-map f (Some x) = refl

pub queue_map : {A B : Type 0} (f : A → B) (depth : ℕ) (push : ℕ → Option A) (mapped : ℕ → Option B) (go : ℕ → Bool) (shown : ℕ → Option A) (passed : ℕ → Bool) → ((c : ℕ) → mapped c ≡ option_map f (push c)) → IsQueue depth push go shown passed → IsQueue depth mapped go (λ c. option_map f (shown c)) passed
queue_map {A = A} {B = B} f depth push mapped go shown passed h q = record {
  shows = λ c low. ap (option_map f) (q.shows c low) ∙ sym (ap oldest (list c) ∙ oldest-map f (entries push go c));
  tells = λ c low. q.tells c low ∙ sym (same c);
}
  where
    list : (c : ℕ) → entries mapped go c ≡ map f (entries push go c)
    list c = entries-map f push mapped go h c

    same : (c : ℕ) → passes depth mapped go c ≡ passes depth push go c
    same c = rw (h c, list c, some-map f (push c), length-map (entries push go c) f, oldest-map f (entries push go c), some-map f (oldest (entries push go c))) refl
