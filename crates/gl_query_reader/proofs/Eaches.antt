-- EACH over windows and EACH over groups alike.
use Rattle.std.proofs.Common.{◌≡◌, ℕ, false, List, None, Some, refl}
use Rattle.gl_query.specs.declared.tree.Name.{Name}
use Rattle.gl_query_tokens.specs.declared.token.Plain.TheVariants as plain
use Rattle.gl_query_tokens.specs.declared.token.Token.{Token}
use Rattle.gl_query_tokens.specs.Sorts.{is_plain}
use Rattle.gl_query_reader.specs.declared.written.Over.{Over}
use Rattle.gl_query_reader.specs.declared.written.Over.TheVariants as over
use Rattle.gl_query_reader.specs.declared.written.WrittenEach.{WrittenEach}
use Rattle.gl_query_reader.specs.Written.{Query}
use Rattle.gl_query_reader.specs.Begun.{open_body, want_body}
use Rattle.gl_query_reader.specs.Machine.{body_of}
use Rattle.gl_query_reader.specs.Windowed.{is_joined}
use Rattle.gl_query_reader.specs.States.{Frame}
use Rattle.gl_query_reader.specs.Trees.{over_of, each_of, over_tree, each_tree, over_head_of}
use Rattle.gl_query_reader.specs.Meaning.{query_meaning}
use Rattle.gl_query_reader.specs.Mixed.{least, mixed_in}

over-means : (o : Over) (at : ℕ) (var : Name) (open' : ℕ) (s b : Query) → query_meaning (over_of o at var open' s b) ≡ over_tree o at var (query_meaning s) (query_meaning b)
over-means (over.Windows w) at var open' s b = refl
over-means (over.Groups g w) at var open' s b = refl

over-mixes : (o : Over) (at : ℕ) (var : Name) (open' : ℕ) (s b : Query) → mixed_in (over_of o at var open' s b) ≡ least (mixed_in s) (mixed_in b)
over-mixes (over.Windows w) at var open' s b = refl
over-mixes (over.Groups g w) at var open' s b = refl

-- the term that a body ends, by what stands before its bracket
pub over-body : (o : Over) (at : ℕ) (var : Name) (open' : ℕ) (s b : Query) → body_of (over_head_of o at var s) open' b ≡ over_of o at var open' s b
over-body (over.Windows w) at var open' s b = refl
over-body (over.Groups g w) at var open' s b = refl

-- without `[` a body opens
pub no_window : (o : Over) (at : ℕ) (var : Name) (s : Query) (t : Token) (fs : List Frame) → is_plain plain.LeftSquare t ≡ false → want_body fs (over_head_of o at var s) t ≡ open_body fs (over_head_of o at var s) t
no_window (over.Windows w) at var s t fs e = refl
no_window (over.Groups g (Some w)) at var s t fs e = refl
no_window (over.Groups g None) at var s t fs e = rw e refl

pub ruleset bodies = (over-body)

pub each-means : (e : WrittenEach) (s b : Query) → query_meaning (each_of e s b) ≡ each_tree e (query_meaning s) (query_meaning b)
unfolding each_of each_tree
each-means e s b = over-means e.over e.at e.var e.open s b

pub each-mixes : (e : WrittenEach) (s b : Query) → mixed_in (each_of e s b) ≡ least (mixed_in s) (mixed_in b)
unfolding each_of
each-mixes e s b = over-mixes e.over e.at e.var e.open s b

over-alone : (o : Over) (at : ℕ) (var : Name) (open' : ℕ) (s b : Query) → is_joined (over_of o at var open' s b) ≡ false
over-alone (over.Windows w) at var open' s b = refl
over-alone (over.Groups g w) at var open' s b = refl

pub each-alone : (e : WrittenEach) (s b : Query) → is_joined (each_of e s b) ≡ false
unfolding each_of
each-alone e s b = over-alone e.over e.at e.var e.open s b

pub ruleset eaches = (each-means, each-mixes, each-alone)
