-- Records with a cycle have one list of beats.
use Rattle.std.proofs.Common.{◌≡◌, ℕ, List, length, Ok, sym, ◌∙◌}
use Rattle.gl_schema.specs.declared.schema.Schema.{Schema}
use Rattle.gl_tuples.specs.declared.beats.Beat.{Beat}
use Rattle.gl_tuple_reader.specs.declared.filing.Filing.{Filing}
use Rattle.gl_tuple_reader.specs.Filing.{behind, filing_after, ended, list_of}
use Rattle.gl_tuple_reader.specs.FileBeats.{AreListed}
use Rattle.gl_tuple_reader.proofs.Beatings.{list_sound}
use Rattle.gl_tuple_reader.proofs.FileBeating.{shown_numbers, shown_rows, shown_ticks}
use Rattle.gl_tuple_reader.proofs.OneFile.{one_list, agreed}
use Rattle.gl_tuple_reader.proofs.Ruled.{bind_given, rules_give, rules_kept}

listed : (count : ℕ) (schema : Schema) (rs : List (List (List ℕ))) (g : Filing) → filing_after schema rs (behind count schema) ≡ Ok g → list_of count schema rs ≡ Ok (ended (length schema.streams) g)
unfolding list_of
listed count schema rs g h = bind_given (filing_after schema rs (behind count schema)) (λ f. Ok (ended (length schema.streams) f)) g h

pub list_is : (count : ℕ) (schema : Schema) (rs : List (List (List ℕ))) (g : Filing) → filing_after schema rs (behind count schema) ≡ Ok g → AreListed count schema rs (ended (length schema.streams) g)
list_is count schema rs g h = record {
  fine = list_sound count schema rs (ended (length schema.streams) g) (listed count schema rs g h);
  numbers = λ c. shown_numbers count schema rs g c h;
  rows = λ c k. shown_rows count schema rs g c k h;
  ticks = λ c. shown_ticks count schema rs g c h;
  rules = rules_kept count schema rs g h;
}

one_listed : (count : ℕ) (schema : Schema) (rs : List (List (List ℕ))) (a b : List Beat) → AreListed count schema rs a → AreListed count schema rs b → a ≡ b
one_listed count schema rs a b x y =
    one_list schema a b (agreed a b (λ c. x.numbers c ∙ sym (y.numbers c)) (λ c k. x.rows c k ∙ sym (y.rows c k)) (λ c. x.ticks c ∙ sym (y.ticks c))) x.fine.order y.fine.order x.fine.each y.fine.each

-- records that have a list of beats are all added, and make that list
pub record Again (count : ℕ) (schema : Schema) (rs : List (List (List ℕ))) (beats : List Beat) : Type 0 where
  pub after : Filing
  pub is : filing_after schema rs (behind count schema) ≡ Ok after
  pub same : ended (length schema.streams) after ≡ beats

pub list_again : (count : ℕ) (schema : Schema) (rs : List (List (List ℕ))) (beats : List Beat) → AreListed count schema rs beats → Again count schema rs beats
list_again count schema rs beats h =
    let all = rules_give count schema rs h.rules in
    record { after = all.after; is = all.is; same = one_listed count schema rs (ended (length schema.streams) all.after) beats (list_is count schema rs all.after all.is) h }
