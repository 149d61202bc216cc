use Rattle.gl_windows.proofs.TurnLemmas.{turns_of}
use Rattle.gl_windows.proofs.turns.take_turn.Goals as goal

pub returns : goal.returns
returns c =
    turns_of c.args.net.now c.decode.new.net c.pairwise.new.net c.decode-2.new.net c.pairwise-2.new.net c.any.new.net c.pairwise-3.new.net c.next_pointer.new.net
    c.args.count c.args.moves.opens c.args.moves.opened c.args.moves.trigger c.args.flags.now c.args.oldest c.in_ok-news.news c.in_ok-mids.mids c.in_ok-chosen.chosen c.in_ok-ends.ends c.in_ok-kept.kept c.in_ok-closes.closes c.in_ok-next.next
    c.from.result c.requires.flags_count c.in_ok-news.ensures c.in_ok-mids.ensures c.in_ok-chosen.ensures c.in_ok-ends.ensures c.in_ok-closes.ensures c.in_ok-kept.ensures
    c.in_ok-next.ensures c.from.ensures c.requires.some_copy
