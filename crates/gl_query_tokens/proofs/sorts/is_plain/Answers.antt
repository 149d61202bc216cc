use Rattle.std.proofs.Common.{◌≡◌, refl, sym, ap, ◌∙◌}
use denote.Enum.Bare.{sameb}
use Rattle.gl_query_tokens.specs.contracts.token.Plain.{the_type}
use Rattle.gl_query_tokens.specs.declared.token.Plain.{Plain}
use Rattle.gl_query_tokens.specs.declared.token.Plain.TheVariants.{Select, From, Where, Group, Groups, In, Advance, Tuples, Time, Into, As, Close, LeftSquare, RightSquare, Comma, Semicolon}
use Rattle.gl_query_tokens.specs.Sorts.{plain_eq, is_plain}
use Rattle.gl_query_tokens.proofs.sorts.is_plain.Goals as goal

same : (a b : Plain) → sameb the_type a b ≡ plain_eq a b
unfolding plain_eq
same Select Select = refl
same From From = refl
same Where Where = refl
same Group Group = refl
same Groups Groups = refl
same In In = refl
same Advance Advance = refl
same Tuples Tuples = refl
same Time Time = refl
same Into Into = refl
same As As = refl
same Close Close = refl
same LeftSquare LeftSquare = refl
same RightSquare RightSquare = refl
same Comma Comma = refl
same Semicolon Semicolon = refl
same a b = refl

pub returns-in-Plain : goal.returns-in-Plain
returns-in-Plain c = c.eq.ensures ∙ same c.in-Plain.other c.args.plain ∙ ap (is_plain c.args.plain) (sym c.in-Plain.is)
